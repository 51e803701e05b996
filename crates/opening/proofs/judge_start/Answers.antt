-- `opening::judge_start` meets its contract (Judged).
use native.Mathlib.Omega.{arith}
use mathlib.Core.Bool.{true}
use Rattle.std.proofs.Common.{rules}
use Rattle.std.specs.Result.{is_err}
use Rattle.scan.specs.Integer.{integer_read}
use mathlib.Core.Path.{◌≡◌, sym, ◌∙◌, ap}
use mir.Syntax.{w64}
use mir.ValLaws.{to_z-of_z}
use Rattle.opening.specs.Start.{state_below, judged}
use Rattle.opening.proofs.Judged.{read-none, read-start, not-given, is-given}
use Rattle.opening.proofs.judge_start.Goals as goal

pub returns-then-not-given : goal.returns-then-not-given
returns-then-not-given c = let s = c in ap judged (not-given s.args.states s.args.start.now s.args.given c.if-not-given.true)

pub returns-in_default : goal.returns-in_default
returns-in_default c =
    let s = c in
    let text = s.args.start.now in
    let unread : is_err (integer_read text) ≡ true = search rules in
    ap judged (is-given s.args.states text s.args.given c.if-not-given.false (read-none s.args.states text s.requires unread))

pub returns : goal.returns
returns c =
    let s = c in
    let text = s.args.start.now in
    let held-value = to_z-of_z w64 c.in-Ok.value (record { sfits = omega arith }) in
    c.state_of.ensures ∙ ap (λ z. judged (state_below s.args.states z)) held-value
    ∙ ap judged (is-given s.args.states text s.args.given c.if-not-given.false (read-start s.args.states text (sym c.read_integer.ensures ∙ c.in-Ok.is)))
