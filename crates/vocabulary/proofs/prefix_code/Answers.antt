-- `vocabulary::prefix_code` meets its contract: the stored tables are those of the prefixes, which antt computes, and a token's code stands at the place of its number.
use mathlib.Core.Path.{refl}
use native.Mathlib.Omega.{arith}
use Rattle.sheet.specs.Vocabulary.{prefix_tokens, prefix_of}
use Rattle.vocabulary.specs.Word.{prefix_code, word_number}
use Rattle.vocabulary.proofs.Words.{place_within, numbers_in, code-found}
use Rattle.vocabulary.proofs.prefix_code.Goals as goal

pub bounds-place : goal.bounds-place
unfolding prefix_tokens word_number
bounds-place c = omega (arith, c.word_place-place.ensures, place_within (numbers_in prefix_tokens) c.word_number-number.result)

pub returns : goal.returns
unfolding prefix_tokens prefix_of word_number
returns c = code-found c.word_number-number.ensures prefix_code prefix_tokens tt refl refl c.word_place-place.ensures
