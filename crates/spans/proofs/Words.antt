-- What the first token of a phrase is not: a part begins with no `if`, and no phrase begins with an operator. From the tables of the words.
use mathlib.Core.Path.{◌≡◌, refl, sym, ap, subst, ◌∙◌}
use mathlib.Core.Bool.{Bool, true, false, not, ◌&&◌}
use mathlib.Core.List.{List, [], ◌∷◌, ◌++◌, append_assoc}
use mathlib.Core.Option.{Option, some, none, none-ne-some}
use lib.Dec.{T, T_not}
use Rattle.basics.proofs.Tests.{and_both}
use Rattle.basics.proofs.Reflects.{to_false}
use Rattle.text.specs.Bytes.{Token, bytes_of}
use Rattle.text.specs.Token.{same_bytes, is_name, is_integer, is_natural, is_reserved, reserved_words}
use Rattle.text.proofs.Token.{same_bytes_reflects}
use Rattle.meaning.specs.Expression.{Expression}
use Rattle.sheet.specs.Vocabulary.{operator_tokens, operator_of, Prefix, prefix_tokens, prefix_of}
use Rattle.sheet.specs.Grammar.{Phrase, part, Reads, is_integer_token, is_stream, is_bracketed, is_prefixed, is_part, is_operation, is_conditional}
use Rattle.sheet.proofs.Vocabulary.{look_up-none}
use Rattle.sheet.proofs.Parser.{NoOperator}

-- ---- a word that is one thing is not another

integer-not : (w : Token) → T (not (is_integer w)) → (t : Token) → T (is_integer t) → same_bytes w t ≡ false
integer-not w n t h = to_false (same_bytes_reflects w t) (λ e. T_not (is_integer w) n (subst (λ u. T (is_integer u)) (sym e) h))

pub integer_no_bracket : (t : Token) → T (is_integer t) → same_bytes (bytes_of "(") t ≡ false
unfolding is_integer is_natural
integer_no_bracket t h = integer-not (bytes_of "(") tt t h

pub integer_no_prefix : (t : Token) → T (is_integer t) → prefix_of t ≡ none
unfolding prefix_of prefix_tokens is_integer is_natural
integer_no_prefix t h = look_up-none is_integer prefix_tokens t tt h

integer-no_if : (t : Token) → T (is_integer t) → same_bytes (bytes_of "if") t ≡ false
unfolding is_integer is_natural
integer-no_if t h = integer-not (bytes_of "if") tt t h

integer_no_operator : (t : Token) → T (is_integer t) → operator_of t ≡ none
unfolding operator_of operator_tokens is_integer is_natural
integer_no_operator t h = look_up-none is_integer operator_tokens t tt h

pub name_no_bracket : (t : Token) → T (is_name t) → same_bytes (bytes_of "(") t ≡ false
unfolding is_name
name_no_bracket t h = to_false (same_bytes_reflects (bytes_of "(") t) (λ e. subst (λ u. T (is_name u)) (sym e) h)

pub name_no_prefix : (t : Token) → T (not (is_reserved t)) → prefix_of t ≡ none
unfolding prefix_of prefix_tokens is_reserved reserved_words
name_no_prefix t k = look_up-none (λ u. not (is_reserved u)) prefix_tokens t tt k

name-no_if : (t : Token) → T (not (is_reserved t)) → same_bytes (bytes_of "if") t ≡ false
unfolding is_reserved reserved_words
name-no_if t k = to_false (same_bytes_reflects (bytes_of "if") t) (λ e. subst (λ u. T (not (is_reserved u))) (sym e) k)

name_no_operator : (t : Token) → T (is_name t) → T (not (is_reserved t)) → operator_of t ≡ none
unfolding operator_of operator_tokens is_name is_reserved reserved_words
name_no_operator t h k = look_up-none (λ u. is_name u && not (is_reserved u)) operator_tokens t tt (and_both (is_name t) (not (is_reserved t)) h k)

prefix-no_if : (t : Token) {p : Prefix} → prefix_of t ≡ some p → same_bytes (bytes_of "if") t ≡ false
unfolding prefix_of prefix_tokens
prefix-no_if t {p} h = to_false (same_bytes_reflects (bytes_of "if") t) (λ e. none-ne-some p (ap prefix_of e ∙ h))

prefix_no_operator : (t : Token) {p : Prefix} → prefix_of t ≡ some p → operator_of t ≡ none
unfolding prefix_of prefix_tokens operator_of operator_tokens
prefix_no_operator t h = look_up-none (λ u. is_prefix (prefix_of u)) operator_tokens t tt (subst (λ o. T (is_prefix o)) (sym h) tt)
  where
    is_prefix : Option Prefix → Bool
    is_prefix none = false
    is_prefix (some p) = true

pub bracket_no_prefix : prefix_of (bytes_of "(") ≡ none
unfolding prefix_of prefix_tokens
bracket_no_prefix = refl

-- ---- the first token of a phrase

pub record PartFirst (us : List Token) : Type 0 where
  pub token : Token
  pub later : List Token
  pub whole : us ≡ token ∷ later
  pub no_if : same_bytes (bytes_of "if") token ≡ false

open_no_operator : operator_of (bytes_of "(") ≡ none
unfolding operator_of operator_tokens
open_no_operator = refl

if_no_operator : operator_of (bytes_of "if") ≡ none
unfolding operator_of operator_tokens
if_no_operator = refl

module _ {names : List Token} where
  pub part-first : {us : List Token} {e : Expression} → Reads names part us e → PartFirst us
  part-first (is_integer_token {t} h) = record { token = t; later = []; whole = refl; no_if = integer-no_if t h }
  part-first (is_stream {t} h k) = record { token = t; later = []; whole = refl; no_if = name-no_if t k }
  part-first (is_bracketed {ts} r) = record { token = bytes_of "("; later = ts ++ (bytes_of ")" ∷ []); whole = refl; no_if = refl }
  part-first (is_prefixed {t} {ts = ts} h r) = record { token = t; later = ts; whole = refl; no_if = prefix-no_if t h }

  -- No phrase begins with an operator, so that an expression before it ends there.
  pub no_operator_first : {k : Phrase} {us : List Token} {e : Expression} → Reads names k us e → (rest : List Token) → NoOperator (us ++ rest)
  no_operator_first (is_integer_token {t} h) rest = integer_no_operator t h
  no_operator_first (is_stream {t} h k) rest = name_no_operator t h k
  no_operator_first (is_bracketed r) rest = open_no_operator
  no_operator_first (is_prefixed {t} h r) rest = prefix_no_operator t h
  no_operator_first (is_part r) rest = no_operator_first r rest
  no_operator_first (is_operation {ts} {us} t r e s) rest = rw append_assoc (no_operator_first r (t ∷ (us ++ rest)))
  no_operator_first (is_conditional r s t) rest = if_no_operator
