-- The numbers of the words that have a meaning of their own, and a number that tells short words apart.
use Rattle.std.specs.Prelude.{ℕ, suc, ◌+◌, ◌*◌, ◌≡◌, Bool, cond, ◌&&◌, List, [], ◌∷◌, T, leb, ltb, eqb, length}
use Rattle.std.proofs.Math.Option.{Option, some, none}
use Rattle.text.specs.Bytes.{Token}
use Rattle.text.specs.Token.{all_bytes, same_bytes}
use Rattle.sheet.specs.Vocabulary.{Infix, pointwise, followed_by, Relation, sign, until_sign, Prefix, first_prefix, next_prefix, not_prefix}
use Rattle.nodes.specs.Code.{operator_code, sign_code}

-- The number of what a table has beside a token; 255 where it has nothing.
abbrev pub code_or255 : {X : Type 0} → (X → ℕ) → Option X → ℕ
code_or255 f none = 255
code_or255 f (some x) = f x

-- The kind of an operator's node.
abbrev pub infix_code : Infix → ℕ
infix_code (pointwise o) = operator_code o
infix_code followed_by = 6

-- The kind of the node of `first`, `next` or `not`.
abbrev pub prefix_code : Prefix → ℕ
prefix_code first_prefix = 2
prefix_code next_prefix = 3
prefix_code not_prefix = 4

-- A constraint's relation.
abbrev pub relation_number : Relation → ℕ
relation_number (sign s) = sign_code s
relation_number until_sign = 7

-- The bytes as digits to the base 256, the first lowest, with a 1 above the last, so that words of different length differ too.
unfoldable pub word_number : Token → ℕ
word_number [] = 1
word_number (b ∷ bs) = word_number bs * 256 + b

-- A word whose number fits 64 bits.
abbrev pub is_short : Token → Bool
is_short w = all_bytes (λ b. ltb b 256) w && leb (length w) 7

-- The number is that of no short word but the token itself.
pub record TellsWord (token : Token) (number : ℕ) : Type 0 where
  pub same : (w : Token) → T (is_short w) → same_bytes w token ≡ eqb number (word_number w)

-- The first place of a number in a list; the list's length where it is not in it.
unfoldable pub word_place : List ℕ → ℕ → ℕ
word_place [] n = 0
word_place (m ∷ ms) n = cond (eqb n m) 0 (suc (word_place ms n))
