-- What joining two descriptions of streams gives, for all descriptions and numbers of letters (document 02, S-9).
use Rattle.std.specs.Prelude.{ℕ, ◌≡◌, List, replicate}
use Rattle.meaning.specs.Expression.{Stream}
use Rattle.meaning.specs.Letter.{letter_count}
use Rattle.sheet.specs.Refusal.{letter_bound}
use Rattle.streams.specs.Description.{none_described, description_of, StreamsFit}
use Rattle.streams.specs.declared.StreamsDescription.{StreamsDescription}
use Rattle.joined_streams.specs.declared.JoinedStreams.{JoinedStreams}
use Rattle.joined_streams.specs.Joined.{joined_streams, SharedAlike, WithinBounds}
use Rattle.joined_streams.specs.Describing.{describe, HoldsCuts}

-- with a refusal nothing is told
abbrev pub refused_streams : ℕ → JoinedStreams
refused_streams n = record { refusal = n; letters = 0; streams = none_described; left = replicate letter_bound 0; right = replicate letter_bound 0 }

-- The streams of two descriptions that fit are not refused with 17.
pub record Joinable (left right : StreamsDescription) : Type 0 where
  pub left_letters : ℕ
  pub right_letters : ℕ
  pub left_fits : StreamsFit left left_letters
  pub right_fits : StreamsFit right right_letters
  pub shared : SharedAlike (description_of left) (description_of right)

-- The joined streams of two descriptions.
abbrev pub streams_together : (left right : StreamsDescription) → List Stream
streams_together left right = joined_streams (description_of left) (description_of right)

-- The joined streams are described, their letters counted, and the cuts of these listed.
pub record IsJoined (left right : StreamsDescription) (r : JoinedStreams) : Type 0 where
  pub accepted : r.refusal ≡ 0
  pub letters : r.letters ≡ letter_count (streams_together left right)
  pub streams : r.streams ≡ describe (streams_together left right)
  pub left_cuts : HoldsCuts (streams_together left right) (description_of left) r.left
  pub right_cuts : HoldsCuts (streams_together left right) (description_of right) r.right

-- "Bounds on streams and letters give 7"
pub data BoundsOutcome (left right : StreamsDescription) : JoinedStreams → Type 0 where
  over_bounds : ¬ WithinBounds (streams_together left right) → BoundsOutcome left right (refused_streams 7)
  joined : {r : JoinedStreams} → WithinBounds (streams_together left right) → IsJoined left right r → BoundsOutcome left right r

pub data JoinedStreamsOutcome (left right : StreamsDescription) (left_letters right_letters : ℕ) : JoinedStreams → Type 0 where
  -- "Streams that no accepted sheet could have, or that do not make the table's letters, are 11."
  unfit : ¬ (StreamsFit left left_letters × StreamsFit right right_letters) → JoinedStreamsOutcome left right left_letters right_letters (refused_streams 11)
  -- "17, a shared name with another range or kind"
  clash : StreamsFit left left_letters → StreamsFit right right_letters → ¬ SharedAlike (description_of left) (description_of right) → JoinedStreamsOutcome left right left_letters right_letters (refused_streams 17)
  bounded : {r : JoinedStreams} → StreamsFit left left_letters → StreamsFit right right_letters → SharedAlike (description_of left) (description_of right) → BoundsOutcome left right r
      → JoinedStreamsOutcome left right left_letters right_letters r
