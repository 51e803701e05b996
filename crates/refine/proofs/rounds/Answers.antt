-- `refine::rounds` meets its contract. Each round that changes something raises classes, which are bounded; the last one shows that
-- the classes are those of the rows that no record tells apart. A turn of the loop has two rounds, and the lists of the classes change
-- places at each.
use Prim.Native.Nat.{◌<◌}
use mathlib.Core.Path.{◌≡◌, ◌∙◌}
use mathlib.Core.Bool.{true}
use native.Mathlib.Omega.{arith}
use lib.ListN.{length}
use Rattle.basics.proofs.Clearing.{zeros}
use Rattle.refine.proofs.Refinement.{slack, Going, going_start, going_ready, next_same, going_next, round_rises, round_refined, round_refined_before}
use Rattle.refine.proofs.rounds.Goals as goal

pub rounds-init : goal.rounds-init
rounds-init c =
    let first = c.first_classes in
    let fill = c.fill in
    going_start c.requires first.new.class fill.new.self first.auto.class fill.auto.self (λ s. rw (fill.ensures.after (λ y e. e)) (zeros (length c.args.links.now) s)) first.ensures

pub round-requires : goal.round-requires
round-requires c = going_ready c.rounds.invariant c.requires.sizes.few c.requires.sizes.entries_fit

pub round-requires-in-rounds : goal.round-requires-in-rounds
round-requires-in-rounds c =
    let round = c.round in
    going_ready (going_next c.rounds.invariant round.auto.next round.auto.heads round.auto.links round.ensures.0 round.ensures.1) c.requires.sizes.few c.requires.sizes.entries_fit

pub rounds-smaller : goal.rounds-smaller
rounds-smaller c =
    let round = c.round in
    let first-turn : Going c.args.letters c.args.entries.now c.args.live.now c.args.finals.now c.args.envelopes.now round.new.next c.rounds.class round.new.heads round.new.links = going_next c.rounds.invariant round.auto.next round.auto.heads round.auto.links round.ensures.0 round.ensures.1 in
    let first-rises : round.result ≡ true → slack (length c.args.live.now) round.new.next < slack (length c.args.live.now) c.rounds.class = λ q. round_rises c.rounds.invariant.classes (round.auto.next ∙ next_same c.rounds.invariant) round.ensures.0 q in
    let second = c.round-in-rounds in
    omega (arith, first-rises c.rounds-test.true, round_rises first-turn.classes (second.auto.next ∙ next_same first-turn) second.ensures.0 c.if-round.true)

pub rounds-preserved : goal.rounds-preserved
rounds-preserved c =
    let round = c.round in
    let second = c.round-in-rounds in
    going_next (going_next c.rounds.invariant round.auto.next round.auto.heads round.auto.links round.ensures.0 round.ensures.1) second.auto.next second.auto.heads second.auto.links second.ensures.0 second.ensures.1

pub returns-after-rounds : goal.returns-after-rounds
returns-after-rounds c = round_refined_before c.rounds.invariant.classes (c.round.auto.next ∙ next_same c.rounds.invariant) c.round.ensures.0 c.rounds-test.false

pub returns-else-round : goal.returns-else-round
returns-else-round c =
    let round = c.round in
    let first-turn : Going c.args.letters c.args.entries.now c.args.live.now c.args.finals.now c.args.envelopes.now round.new.next c.rounds.class round.new.heads round.new.links = going_next c.rounds.invariant round.auto.next round.auto.heads round.auto.links round.ensures.0 round.ensures.1 in
    let second = c.round-in-rounds in
    round_refined first-turn.classes (second.auto.next ∙ next_same first-turn) second.ensures.0 c.if-round.false
