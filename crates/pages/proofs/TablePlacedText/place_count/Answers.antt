-- `pages::Table::place_count` meets its contract, by the cases of a refusal's number.
use Prim.Native.Nat.{suc, ◌*◌, min}
use native.Mathlib.Numerals.{add-one}
use mathlib.Core.Path.{◌∙◌, ap}
use lib.ListN.{length}
use Rattle.pages.proofs.Refused.{refused-places, given-places}
use Rattle.pages.proofs.TablePlacedText.place_count.Goals as goal

pub returns-then-self-ne0 : goal.returns-then-self-ne0
returns-then-self-ne0 c = refused-places c.args.self.now.refusal c.if-self-ne0.true _

pub returns : goal.returns
returns c =
    let t = c.args.self.now in
    add-one c.min.result
    ∙ ap suc (c.min.ensures ∙ ap (λ n. min (t.states * n) (length t.entries.now)) c.letter_count-count.ensures)
    ∙ given-places t.refusal c.if-self-ne0.false _
