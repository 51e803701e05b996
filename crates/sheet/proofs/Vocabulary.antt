-- The tokens that have a meaning of their own are told apart: a relation is no operator, and what a token opens a part as is decided by
-- the grammar's own conditions. From the tables of Vocabulary, and because no integer is a name.
use Prim.Native.Nat.{suc, ◌<◌}
use mathlib.Core.Path.{◌≡◌, refl, sym, ap, ap₂, subst, ◌∙◌}
use mathlib.Core.Bool.{Bool, true, false, not, cond, ◌&&◌}
use mathlib.Core.List.Memᴰ
use mathlib.Core.List.{List, [], ◌∷◌, Memᴰ}
use mathlib.Core.Logic.{◌⊎◌, inl, inr}
use mathlib.Core.Option.{Option, some, none, none-ne-some}
use native.Mathlib.Omega.{arith}
use lib.Dec.{T, T_not}
use lib.ListN.{length, get_or}
use Rattle.basics.proofs.Tests.{and_left, and_right, and_both}
use Rattle.basics.proofs.Reflects.{Reflects, holds, fails, T-reflects, from_true, to_true, to_false}
use Rattle.text.specs.Bytes.{Token, bytes_of}
use Rattle.text.specs.Token.{same_bytes, is_name, is_integer, is_reserved, reserved_words, is_natural}
use Rattle.text.proofs.Token.{same_bytes_reflects, integer-not-name}
use Rattle.sheet.specs.Vocabulary.{look_up, operator_tokens, operator_of, Relation, relation_tokens, relation_of, Prefix, prefix_tokens, prefix_of, name_place}
use Rattle.sheet.specs.Parser.{Opening, integer_opening, name_opening, bracket_opening, no_opening, prefix_opening, plain_opening, opening_from, opening_of}

-- Every token of the table passes the test.
abbrev pub all_keys : {X : Type 0} → (Token → Bool) → List (Token × X) → Bool
all_keys f [] = true
all_keys f (e ∷ es) = f e.0 && all_keys f es

-- What is found in a table stands beside one of its tokens.
pub look_up-key : {X : Type 0} (f : Token → Bool) (es : List (Token × X)) (t : Token) {x : X} → T (all_keys f es) → look_up es t ≡ some x → T (f t)
look_up-key f [] t {x} h e = absurd (none-ne-some x e)
look_up-key {X} f (k ∷ es) t {x} h e = by (same_bytes k.0 t) refl (λ g. look_up-key f es t g) e
  where
    by : (m : Bool) → same_bytes k.0 t ≡ m → (T (all_keys f es) → look_up es t ≡ some x → T (f t)) → cond m (some k.1) (look_up es t) ≡ some x → T (f t)
    by true p below q = subst (λ u. T (f u)) (from_true (same_bytes_reflects k.0 t) p) (and_left (f k.0) (all_keys f es) h)
    by false p below q = below (and_right (f k.0) (all_keys f es) h) q

-- Nothing is found in a table of tokens that fail a test for a token that passes it.
pub look_up-none : {X : Type 0} (f : Token → Bool) (es : List (Token × X)) (t : Token) → T (all_keys (λ u. not (f u)) es) → T (f t) → look_up es t ≡ none
look_up-none {X} f es t h g = by (look_up es t) refl
  where
    by : (o : Option X) → look_up es t ≡ o → o ≡ none
    by none e = refl
    by (some x) e = absurd (T_not (f t) (look_up-key (λ u. not (f u)) es t h e) g)

abbrev is_none : {X : Type 0} → Option X → Bool
is_none none = true
is_none (some x) = false

is_none-none : {X : Type 0} (o : Option X) → T (is_none o) → o ≡ none
is_none-none none h = refl
is_none-none (some x) h = absurd h

-- A relation is no operator, and neither is a closing bracket.
pub relation_no_operator : (t : Token) {r : Relation} → relation_of t ≡ some r → operator_of t ≡ none
unfolding relation_of operator_of relation_tokens operator_tokens
relation_no_operator t e = is_none-none (operator_of t) (look_up-key (λ u. is_none (operator_of u)) relation_tokens t tt e)

pub bracket_no_operator : operator_of (bytes_of ")") ≡ none
unfolding operator_of operator_tokens
bracket_no_operator = refl

-- What a token opens a part as.
pub data Opens (t : Token) : Opening → Type 0 where
  by_integer : T (is_integer t) → Opens t integer_opening
  by_name : T (is_name t) → T (not (is_reserved t)) → Opens t name_opening
  by_bracket : bytes_of "(" ≡ t → Opens t bracket_opening
  by_prefix : {p : Prefix} → prefix_of t ≡ some p → Opens t (prefix_opening p)
  by_nothing : Opens t no_opening

pub opening_of-opens : (t : Token) → Opens t (opening_of t)
unfolding opening_of
opening_of-opens t = by_table (prefix_of t) refl
  where
    plainly : (i n b : Bool) → is_integer t ≡ i → is_name t && not (is_reserved t) ≡ n → same_bytes (bytes_of "(") t ≡ b → Opens t (plain_opening i n b)
    plainly true n b p q r = by_integer (rw p tt)
    plainly false true b p q r = by_name (and_left (is_name t) (not (is_reserved t)) (rw q tt)) (and_right (is_name t) (not (is_reserved t)) (rw q tt))
    plainly false false true p q r = by_bracket (from_true (same_bytes_reflects (bytes_of "(") t) r)
    plainly false false false p q r = by_nothing

    by_table : (o : Option Prefix) → prefix_of t ≡ o → Opens t (opening_from o t)
    by_table none e = plainly (is_integer t) (is_name t && not (is_reserved t)) (same_bytes (bytes_of "(") t) refl refl refl
    by_table (some p) e = by_prefix e

-- The same the other way: the conditions of the grammar exclude each other.
pub opening-integer : (t : Token) → T (is_integer t) → opening_of t ≡ integer_opening
unfolding opening_of prefix_of prefix_tokens is_integer is_natural
opening-integer t h =
    ap (λ o. opening_from o t) (look_up-none is_integer prefix_tokens t tt h)
    ∙ ap (λ i. plain_opening i (is_name t && not (is_reserved t)) (same_bytes (bytes_of "(") t)) (to_true (T-reflects (is_integer t)) h)

pub opening-name : (t : Token) → T (is_name t) → T (not (is_reserved t)) → opening_of t ≡ name_opening
unfolding opening_of prefix_of prefix_tokens is_reserved reserved_words
opening-name t h k =
    ap (λ o. opening_from o t) (look_up-none (λ u. not (is_reserved u)) prefix_tokens t tt k)
    ∙ ap₂ (λ i n. plain_opening i n (same_bytes (bytes_of "(") t)) (to_false (T-reflects (is_integer t)) (λ i. integer-not-name t i h))
    (to_true (T-reflects (is_name t && not (is_reserved t))) (and_both (is_name t) (not (is_reserved t)) h k))

pub opening-prefix : (t : Token) {p : Prefix} → prefix_of t ≡ some p → opening_of t ≡ prefix_opening p
unfolding opening_of
opening-prefix t e = ap (λ o. opening_from o t) e

pub opening_bracket : opening_of (bytes_of "(") ≡ bracket_opening
unfolding opening_of prefix_of prefix_tokens is_integer is_natural is_name
opening_bracket = refl

-- No part begins with `if`.
pub opening_if : opening_of (bytes_of "if") ≡ no_opening
unfolding opening_of prefix_of prefix_tokens is_integer is_natural is_name is_reserved reserved_words
opening_if = refl

-- A name of line 1 has a place there, and a name with a place stands at it.
pub place_of-member : (names : List Token) (t : Token) → Memᴰ t names → name_place names t < length names
unfolding name_place
place_of-member [] t m = absurd (Memᴰ.not-nil m)
place_of-member (n ∷ ns) t m = by (same_bytes_reflects n t) (place_of-member ns t) (Memᴰ.cases_cons m)
  where
    by : {b : Bool} → Reflects (n ≡ t) b → (Memᴰ t ns → name_place ns t < length ns) → (t ≡ n) ⊎ Memᴰ t ns → cond b 0 (suc (name_place ns t)) < suc (length ns)
    by (holds e) below k = omega arith
    by (fails d) below (inl e) = absurd (d (sym e))
    by (fails d) below (inr k) = let z = below k in omega arith

pub place_of-token : (names : List Token) (t : Token) → name_place names t < length names → get_or names (name_place names t) [] ≡ t
unfolding name_place
place_of-token [] t l = absurd (omega arith)
place_of-token (n ∷ ns) t l = by (same_bytes_reflects n t) (place_of-token ns t) l
  where
    by : {b : Bool} → Reflects (n ≡ t) b → (name_place ns t < length ns → get_or ns (name_place ns t) [] ≡ t) → cond b 0 (suc (name_place ns t)) < suc (length ns) → get_or (n ∷ ns) (cond b 0 (suc (name_place ns t))) [] ≡ t
    by (holds e) below k = e
    by (fails d) below k = below (omega arith)
