-- `vocabulary::operator_code` meets its contract: the stored tables are those of the operators, which antt computes, and a token's code stands at the place of its number.
use mathlib.Core.Path.{refl}
use native.Mathlib.Omega.{arith}
use Rattle.sheet.specs.Vocabulary.{operator_tokens, operator_of}
use Rattle.vocabulary.specs.Word.{infix_code, word_number}
use Rattle.vocabulary.proofs.Words.{place_within, numbers_in, code-found}
use Rattle.vocabulary.proofs.operator_code.Goals as goal

pub bounds-place : goal.bounds-place
unfolding operator_tokens word_number
bounds-place c = omega (arith, c.word_place-place.ensures, place_within (numbers_in operator_tokens) c.word_number-number.result)

pub returns : goal.returns
unfolding operator_tokens operator_of word_number
returns c = code-found c.word_number-number.ensures infix_code operator_tokens tt refl refl c.word_place-place.ensures
