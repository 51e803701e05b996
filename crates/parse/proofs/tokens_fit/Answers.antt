-- `parse::tokens_fit` meets its contract: a line has at most as many tokens as bytes.
use Prim.Native.Nat.{◌≤◌}
use mathlib.Core.Path.{sym, ap, ◌∙◌}
use native.Mathlib.Omega.{arith}
use lib.Dec.{leb}
use lib.ListN.{length}
use borrow.Author.Tests.{le-leb}
use Rattle.text.specs.Bytes.{tokens}
use Rattle.text.proofs.Bytes.{tokens-length}
use Rattle.parse.proofs.tokens_fit.Goals as goal

pub returns-then-line-room : goal.returns-then-line-room
returns-then-line-room c =
    let a = c.args in
    let few : length (tokens a.line.now) ≤ a.room = omega (arith, tokens-length a.line.now, c.if-line-room.true) in
    le-leb _ _ c.if-line-room.true ∙ sym (le-leb (length (tokens a.line.now)) a.room few)

pub returns-else-line-room : goal.returns-else-line-room
returns-else-line-room c = ap (λ n. leb n c.args.room) c.token_count.ensures
