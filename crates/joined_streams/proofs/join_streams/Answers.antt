-- `join_streams` meets its contract, test by test: streams that fit (streams), shared names that are alike, and the joined streams (Bounds).
use mathlib.Core.Path.{sym, subst}
use Rattle.basics.proofs.Answers.{says_yes, says_no}
use Rattle.streams.specs.Description.{StreamsFit}
use Rattle.joined_streams.specs.Joined.{SharedAlike}
use Rattle.joined_streams.specs.Outcome.{JoinedStreamsOutcome, unfit, clash, bounded}
use Rattle.streams.specs.Description.{description_of}
use Rattle.joined_streams.proofs.Bounds.{few_streams, each-alike, alike-each}
use Rattle.joined_streams.proofs.join_streams.Goals as goal

pub returns-then-not-streams_fit : goal.returns-then-not-streams_fit
returns-then-not-streams_fit c =
    let a = c.args in
    subst (JoinedStreamsOutcome a.left a.right a.left_letters a.right_letters) (sym c.refused.ensures)
    (unfit (λ x. says_no {b = c.streams_fit.result} c.if-not-streams_fit.true c.streams_fit.ensures x.0))

pub returns-then-not-streams_fit-2 : goal.returns-then-not-streams_fit-2
returns-then-not-streams_fit-2 c =
    let a = c.args in
    subst (JoinedStreamsOutcome a.left a.right a.left_letters a.right_letters) (sym c.refused-then-not-streams_fit-2.ensures)
    (unfit (λ x. says_no {b = c.streams_fit-2.result} c.if-not-streams_fit-2.true c.streams_fit-2.ensures x.1))

pub shared_alike-requires : goal.shared_alike-requires
shared_alike-requires c =
    let left-fits : StreamsFit c.args.left c.args.left_letters = says_yes {b = c.streams_fit.result} c.if-not-streams_fit.false c.streams_fit.ensures in
    let right-fits : StreamsFit c.args.right c.args.right_letters = says_yes {b = c.streams_fit-2.result} c.if-not-streams_fit-2.false c.streams_fit-2.ensures in
    (few_streams (left-fits), few_streams (right-fits), (left-fits).accepted.no_repeats)

pub returns-then-not-shared_alike : goal.returns-then-not-shared_alike
returns-then-not-shared_alike c =
    let left-fits : StreamsFit c.args.left c.args.left_letters = says_yes {b = c.streams_fit.result} c.if-not-streams_fit.false c.streams_fit.ensures in
    let right-fits : StreamsFit c.args.right c.args.right_letters = says_yes {b = c.streams_fit-2.result} c.if-not-streams_fit-2.false c.streams_fit-2.ensures in
    let p = c in
    let a = p.args in
    subst (JoinedStreamsOutcome a.left a.right a.left_letters a.right_letters) (sym c.refused-then-not-shared_alike.ensures)
    (clash (left-fits) (right-fits) (λ x. says_no {b = c.shared_alike.result} c.if-not-shared_alike.true c.shared_alike.ensures (alike-each a.left a.right x)))

pub joined-requires : goal.joined-requires
joined-requires c =
    let left-fits : StreamsFit c.args.left c.args.left_letters = says_yes {b = c.streams_fit.result} c.if-not-streams_fit.false c.streams_fit.ensures in
    let right-fits : StreamsFit c.args.right c.args.right_letters = says_yes {b = c.streams_fit-2.result} c.if-not-streams_fit-2.false c.streams_fit-2.ensures in
    let shared : SharedAlike (description_of c.args.left) (description_of c.args.right) = (let a = c.args in
    each-alike a.left a.right (says_yes {b = c.shared_alike.result} c.if-not-shared_alike.false c.shared_alike.ensures)) in
    let p = c in
    let a = p.args in
    record { left_letters = a.left_letters; right_letters = a.right_letters; left_fits = left-fits; right_fits = right-fits; shared = shared }

pub returns : goal.returns
returns c =
    let left-fits : StreamsFit c.args.left c.args.left_letters = says_yes {b = c.streams_fit.result} c.if-not-streams_fit.false c.streams_fit.ensures in
    let right-fits : StreamsFit c.args.right c.args.right_letters = says_yes {b = c.streams_fit-2.result} c.if-not-streams_fit-2.false c.streams_fit-2.ensures in
    let shared : SharedAlike (description_of c.args.left) (description_of c.args.right) = (let a = c.args in
    each-alike a.left a.right (says_yes {b = c.shared_alike.result} c.if-not-shared_alike.false c.shared_alike.ensures)) in
    let p = c in bounded (left-fits) (right-fits) (shared) c.joined.ensures
