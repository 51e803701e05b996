-- `vocabulary::relation_code` meets its contract: the stored tables are those of the relations, which antt computes, and a token's code stands at the place of its number.
use mathlib.Core.Path.{refl}
use native.Mathlib.Omega.{arith}
use Rattle.sheet.specs.Vocabulary.{relation_tokens, relation_of}
use Rattle.vocabulary.specs.Word.{relation_number, word_number}
use Rattle.vocabulary.proofs.Words.{place_within, numbers_in, code-found}
use Rattle.vocabulary.proofs.relation_code.Goals as goal

pub bounds-place : goal.bounds-place
unfolding relation_tokens word_number
bounds-place c = omega (arith, c.word_place-place.ensures, place_within (numbers_in relation_tokens) c.word_number-number.result)

pub returns : goal.returns
unfolding relation_tokens relation_of word_number
returns c = code-found c.word_number-number.ensures relation_number relation_tokens tt refl refl c.word_place-place.ensures
