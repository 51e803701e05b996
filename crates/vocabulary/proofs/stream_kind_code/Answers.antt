-- `vocabulary::stream_kind_code` meets its contract: the stored tables are those of the kinds of streams, which antt computes, and a token's code stands at the place of its number.
use mathlib.Core.Path.{refl}
use native.Mathlib.Omega.{arith}
use Rattle.sheet.specs.Vocabulary.{stream_kind_tokens, stream_kind_of}
use Rattle.nodes.specs.Code.{stream_kind_code}
use Rattle.vocabulary.specs.Word.{word_number}
use Rattle.vocabulary.proofs.Words.{place_within, numbers_in, code-found}
use Rattle.vocabulary.proofs.stream_kind_code.Goals as goal

pub bounds-place : goal.bounds-place
unfolding stream_kind_tokens word_number
bounds-place c = omega (arith, c.word_place-place.ensures, place_within (numbers_in stream_kind_tokens) c.word_number-number.result)

pub returns : goal.returns
unfolding stream_kind_tokens stream_kind_of word_number
returns c = code-found c.word_number-number.ensures stream_kind_code stream_kind_tokens tt refl refl c.word_place-place.ensures
