-- `joined` meets its contract: the joined streams are described and their letters counted, and where neither is too many the cuts are listed (Bounds).
use Prim.Native.Nat.{◌≤◌}
use mathlib.Core.Path.{◌≡◌, refl, sym, ap, subst, ◌∙◌}
use lib.ListN.{length}
use borrow.Author.Rules.{rules}
use Rattle.meaning.specs.Letter.{letter_count}
use Rattle.streams.specs.Description.{description_of}
use Rattle.joined_streams.specs.Joined.{WithinBounds}
use Rattle.joined_streams.specs.Describing.{HoldsCuts}
use Rattle.joined_streams.specs.Outcome.{streams_together, BoundsOutcome, over_bounds, joined}
use Rattle.joined_streams.proofs.Bounds.{few_streams, many-together, describes, described_are, many-letters, within-bounds, letters_are, can-left, can-right}
use Rattle.joined_streams.proofs.joined.Goals as goal

pub joined_description-streams-requires : goal.joined_description-streams-requires
joined_description-streams-requires c = (few_streams c.requires.left_fits, few_streams c.requires.right_fits)

pub returns-then-count-gt8 : goal.returns-then-count-gt8
returns-then-count-gt8 c =
    let left-long : length c.args.left.names ≡ 64 = search rules in
    let right-long : length c.args.right.names ≡ 64 = search rules in
    let s = c in
    subst (BoundsOutcome s.args.left s.args.right) (sym c.refused.ensures) (over_bounds (many-together (left-long) (right-long) s.requires c.joined_description-streams.ensures c.if-count-gt8.true))

pub returns-then-letters-gt1024 : goal.returns-then-letters-gt1024
returns-then-letters-gt1024 c =
    let left-long : length c.args.left.names ≡ 64 = search rules in
    let right-long : length c.args.right.names ≡ 64 = search rules in
    let lows-long : length c.joined_description-streams.result.lows ≡ 8 = search rules in
    let highs-long : length c.joined_description-streams.result.highs ≡ 8 = search rules in
    let n = c in
    let d = n in
    let s = d in
    subst (BoundsOutcome s.args.left s.args.right) (sym c.refused-then-letters-gt1024.ensures)
    (over_bounds (many-letters (left-long) (right-long) s.requires d.joined_description-streams.ensures n.if-count-gt8.false (lows-long) (highs-long) n.letter_count-letters.ensures c.if-letters-gt1024.true))

pub cuts_of-requires : goal.cuts_of-requires
cuts_of-requires c =
    let left-long : length c.args.left.names ≡ 64 = search rules in
    let right-long : length c.args.right.names ≡ 64 = search rules in
    let lows-long : length c.joined_description-streams.result.lows ≡ 8 = search rules in
    let highs-long : length c.joined_description-streams.result.highs ≡ 8 = search rules in
    let within : c.letter_count-letters.result ≤ 1024 → WithinBounds (streams_together c.args.left c.args.right) = λ h. (let d = c in
    let s = d in
    within-bounds (left-long) (right-long) s.requires d.joined_description-streams.ensures c.if-count-gt8.false (lows-long) (highs-long) c.letter_count-letters.ensures h) in
    let counted : c.letter_count-letters.result ≤ 1024 → c.letter_count-letters.result ≡ letter_count (streams_together c.args.left c.args.right) = λ h. (let d = c in
    let s = d in
    letters_are (left-long) (right-long) s.requires d.joined_description-streams.ensures c.if-count-gt8.false (lows-long) (highs-long) c.letter_count-letters.ensures h) in
    let are : description_of c.joined_description-streams.result ≡ streams_together c.args.left c.args.right = let d = c in let s = d in described_are (left-long) (right-long) s.requires d.joined_description-streams.ensures c.if-count-gt8.false in
    let n = c in
    let d = n in
    let s = d in
    (can-left (left-long) (right-long) s.requires d.joined_description-streams.ensures n.if-count-gt8.false (within c.if-letters-gt1024.false), counted c.if-letters-gt1024.false ∙ sym (ap letter_count (are)))

pub cuts_of-requires-2 : goal.cuts_of-requires-2
cuts_of-requires-2 c =
    let left-long : length c.args.left.names ≡ 64 = search rules in
    let right-long : length c.args.right.names ≡ 64 = search rules in
    let lows-long : length c.joined_description-streams.result.lows ≡ 8 = search rules in
    let highs-long : length c.joined_description-streams.result.highs ≡ 8 = search rules in
    let within : c.letter_count-letters.result ≤ 1024 → WithinBounds (streams_together c.args.left c.args.right) = λ h. (let d = c in
    let s = d in
    within-bounds (left-long) (right-long) s.requires d.joined_description-streams.ensures c.if-count-gt8.false (lows-long) (highs-long) c.letter_count-letters.ensures h) in
    let counted : c.letter_count-letters.result ≤ 1024 → c.letter_count-letters.result ≡ letter_count (streams_together c.args.left c.args.right) = λ h. (let d = c in
    let s = d in
    letters_are (left-long) (right-long) s.requires d.joined_description-streams.ensures c.if-count-gt8.false (lows-long) (highs-long) c.letter_count-letters.ensures h) in
    let are : description_of c.joined_description-streams.result ≡ streams_together c.args.left c.args.right = let d = c in let s = d in described_are (left-long) (right-long) s.requires d.joined_description-streams.ensures c.if-count-gt8.false in
    let n = c in
    let d = n in
    let s = d in
    (can-right (left-long) (right-long) s.requires d.joined_description-streams.ensures n.if-count-gt8.false (within c.if-letters-gt1024.false), counted c.if-letters-gt1024.false ∙ sym (ap letter_count (are)))

pub returns : goal.returns
returns c =
    let left-long : length c.args.left.names ≡ 64 = search rules in
    let right-long : length c.args.right.names ≡ 64 = search rules in
    let lows-long : length c.joined_description-streams.result.lows ≡ 8 = search rules in
    let highs-long : length c.joined_description-streams.result.highs ≡ 8 = search rules in
    let within : c.letter_count-letters.result ≤ 1024 → WithinBounds (streams_together c.args.left c.args.right) = λ h. (let d = c in
    let s = d in
    within-bounds (left-long) (right-long) s.requires d.joined_description-streams.ensures c.if-count-gt8.false (lows-long) (highs-long) c.letter_count-letters.ensures h) in
    let counted : c.letter_count-letters.result ≤ 1024 → c.letter_count-letters.result ≡ letter_count (streams_together c.args.left c.args.right) = λ h. (let d = c in
    let s = d in
    letters_are (left-long) (right-long) s.requires d.joined_description-streams.ensures c.if-count-gt8.false (lows-long) (highs-long) c.letter_count-letters.ensures h) in
    let are : description_of c.joined_description-streams.result ≡ streams_together c.args.left c.args.right = let d = c in let s = d in described_are (left-long) (right-long) s.requires d.joined_description-streams.ensures c.if-count-gt8.false in
    let n = c in
    let d = n in
    let s = d in
    let few = c.if-letters-gt1024.false in
    joined (within few)
    (record {
      accepted = refl;
      letters = counted few;
      streams = describes (left-long) (right-long) s.requires d.joined_description-streams.ensures n.if-count-gt8.false;
      left_cuts = subst (λ ss. HoldsCuts ss (description_of s.args.left) c.cuts_of.result) (are) c.cuts_of.ensures;
      right_cuts = subst (λ ss. HoldsCuts ss (description_of s.args.right) c.cuts_of-2.result) (are) c.cuts_of-2.ensures;
    })
