-- `choices::letters_made` meets its contract: what is counted is the number of letters of the streams described.
use native.Mathlib.Omega.{arith}
use mathlib.Core.Path.{◌≡◌}
use lib.ListN.{length}
use Rattle.choices.proofs.Digits.{many-streams, few_streams}
use borrow.Author.Rules.{rules}
use Rattle.choices.proofs.letters_made.Goals as goal

pub returns-then-count-gt8 : goal.returns-then-count-gt8
returns-then-count-gt8 c = many-streams c.args.streams c.if-count-gt8.true

pub returns : goal.returns
returns c =
    let lows-long : length c.args.streams.lows ≡ 8 = search rules in
    let highs-long : length c.args.streams.highs ≡ 8 = search rules in
    let start = c in
    few_streams start.args.streams (lows-long) (highs-long) (omega (arith, c.if-count-gt8.false)) c.letter_count.ensures
