-- `vocabulary::is_reserved` meets its contract: the stored table is that of the reserved words, which antt computes, and a word's number has a place in it.
use mathlib.Core.Path.{◌∙◌, ap}
use lib.Dec.{ltb}
use Rattle.text.specs.Token.{reserved_words, is_reserved}
use Rattle.vocabulary.specs.Word.{word_number}
use Rattle.vocabulary.proofs.Words.{member-place}
use Rattle.vocabulary.proofs.is_reserved.Goals as goal

pub returns : goal.returns
unfolding reserved_words is_reserved word_number
returns c = ap (λ p. ltb p 18) c.word_place-place.ensures ∙ member-place c.word_number-number.ensures reserved_words tt
