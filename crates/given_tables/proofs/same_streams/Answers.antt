-- `given_tables::same_streams` meets its contract: the streams at each place are compared (Streams).
use native.Mathlib.Omega.{arith}
use mathlib.Core.Path.{◌≡◌}
use borrow.Author.Rules.{rules}
use Rattle.basics.proofs.Answers.{says_both}
use Rattle.streams.specs.Description.{stream_in}
use Rattle.streams.proofs.Below.{says_all_below}
use Rattle.given_tables.proofs.Streams.{HasEightPlaces, other-count, each-same, all_same}
use Rattle.given_tables.proofs.same_streams.Goals as goal

pub returns-then-a-b : goal.returns-then-a-b
returns-then-a-b c = other-count c.args.a c.args.b c.if-a-b.true

pub returns : goal.returns
returns c =
    let places : HasEightPlaces c.args.a = record { lengths = search rules; lows = search rules; highs = search rules; kinds = search rules } in
    let other-places : HasEightPlaces c.args.b = record { lengths = search rules; lows = search rules; highs = search rules; kinds = search rules } in
    says_both c.all.result (λ each. all_same c.args.a c.args.b places other-places c.if-a-b.false (λ k h. each k (omega (arith, c.min.ensures))))
    (λ same k h. each-same c.args.a c.args.b same k (omega (arith, c.min.ensures)))
    (says_all_below _ _ _ (λ k. stream_in c.args.a k ≡ stream_in c.args.b k) c.min.result _ c.all.ensures.ran (search rules) (λ x q k. search rules) (λ x q k. search rules))
