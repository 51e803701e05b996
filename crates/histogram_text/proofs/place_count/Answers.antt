-- `histogram_text::place_count` meets its contract, by the cases of a refusal's number.
use Prim.Native.Nat.{suc, ◌+◌, ◌*◌}
use native.Mathlib.Omega.{arith}
use mathlib.Core.Path.{◌≡◌, ◌∙◌, ap}
use Rattle.pages.proofs.Refused.{refused-places, given-places}
use Rattle.histogram_text.proofs.place_count.Goals as goal

pub returns-then-refusal-ne0 : goal.returns-then-refusal-ne0
returns-then-refusal-ne0 c = refused-places _ c.if-refusal-ne0.true _

pub returns : goal.returns
returns c =
    let e : c.stream_count.result * 1024 + 2 ≡ suc (suc (c.stream_count.result * 1024)) = omega arith in
    e ∙ ap (λ n. suc (suc (n * 1024))) c.stream_count.ensures ∙ given-places _ c.if-refusal-ne0.false _
