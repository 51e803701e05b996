-- The tests of tokens: equality of bytes and membership in a list of words are decided, digits are read from the front, no integer is a name,
-- and the reserved words are document 01's. All from the definitions.
use Prim.Native.Nat.{ℕ, ◌+◌, ◌-◌, ◌*◌, ◌≤◌}
use mathlib.Core.Path.{◌≡◌, refl, sym, ap₂, subst}
use mathlib.Core.Bool.{Bool, true, false}
use mathlib.Core.List.Memᴰ
use mathlib.Core.List.{List, [], ◌∷◌, ◌++◌, Memᴰ, nil≢cons, cons≢nil, head-eq_of_cons-eq, tail-eq_of_cons-eq}
use mathlib.Core.Logic.{◌⊎◌, inl, inr}
use native.Mathlib.Omega.{arith}
use lib.Dec.{T, eqb, leb→le}
use borrow.Author.Tests.{eqb-true}
use Rattle.basics.proofs.Tests.{and_left, and_right}
use Rattle.basics.proofs.Reflects.{Reflects, holds, fails, reflects_iff, or_reflects, and_reflects, eqb_reflects, T-reflects}
use Rattle.text.specs.Bytes.{Token, bytes_of, tokens}
use Rattle.text.specs.Token.{all_bytes, same_bytes, is_one_of, is_name, is_natural, is_integer, natural_from, reserved_words}

-- `same_bytes` decides equality.
pub same_bytes_reflects : (s t : List ℕ) → Reflects (s ≡ t) (same_bytes s t)
same_bytes_reflects [] [] = holds refl
same_bytes_reflects [] (c ∷ cs) = fails nil≢cons
same_bytes_reflects (b ∷ bs) [] = fails cons≢nil
same_bytes_reflects (b ∷ bs) (c ∷ cs) =
    reflects_iff (λ h. ap₂ ◌∷◌ h.0 h.1) (λ e. (head-eq_of_cons-eq e, tail-eq_of_cons-eq e)) (and_reflects (eqb_reflects b c) (same_bytes_reflects bs cs))

-- `is_one_of` decides membership.
pub is_one_of_reflects : (ws : List Token) (t : Token) → Reflects (Memᴰ t ws) (is_one_of ws t)
is_one_of_reflects [] t = fails Memᴰ.not-nil
is_one_of_reflects (w ∷ ws) t = reflects_iff put Memᴰ.cases_cons (or_reflects (reflects_iff sym sym (same_bytes_reflects w t)) (is_one_of_reflects ws t))
  where
    put : (t ≡ w) ⊎ Memᴰ t ws → Memᴰ t (w ∷ ws)
    put (inl e) = Memᴰ.head e
    put (inr m) = Memᴰ.tail m

-- `all_bytes` decides that every byte passes.
pub all_bytes_reflects : (p : ℕ → Bool) (l : List ℕ) → Reflects ((b : ℕ) → Memᴰ b l → T (p b)) (all_bytes p l)
all_bytes_reflects p [] = holds (λ b m. absurd (Memᴰ.not-nil m))
all_bytes_reflects p (c ∷ l) = reflects_iff put (λ h. (h c (Memᴰ.head refl), λ b m. h b (Memᴰ.tail m))) (and_reflects (T-reflects (p c)) (all_bytes_reflects p l))
  where
    put : T (p c) × ((b : ℕ) → Memᴰ b l → T (p b)) → (b : ℕ) → Memᴰ b (c ∷ l) → T (p b)
    put h b (Memᴰ.head e) = subst (λ a. T (p a)) (sym e) h.0
    put h b (Memᴰ.tail m) = h.1 b m

-- Digits can be read in two parts, and the number never falls as more are read.
pub natural_from-append : (n : ℕ) (l m : List ℕ) → natural_from n (l ++ m) ≡ natural_from (natural_from n l) m
unfolding natural_from
natural_from-append n [] m = refl
natural_from-append n (b ∷ l) m = natural_from-append (n * 10 + (b - 48)) l m

pub natural_from-rises : (n : ℕ) (l : List ℕ) → n ≤ natural_from n l
unfolding natural_from
natural_from-rises n [] = omega arith
natural_from-rises n (b ∷ l) = let h = natural_from-rises (n * 10 + (b - 48)) l in omega arith

-- A name begins with a letter, an integer with a digit or `-`, so that no token is both.
name-begins : (b : ℕ) (bs : List ℕ) → T (is_name (b ∷ bs)) → 97 ≤ b
unfolding is_name
name-begins b bs t = leb→le 97 b (search (and_left, and_right))

natural-begins : (b : ℕ) (bs : List ℕ) → T (is_natural (b ∷ bs)) → b ≤ 57
unfolding is_natural
natural-begins b bs t = leb→le b 57 (search (and_left, and_right))

integer-begins : (b : ℕ) (bs : List ℕ) → T (is_integer (b ∷ bs)) → b ≤ 57
unfolding is_integer
integer-begins b bs t = by (eqb b 45) refl t
  where
    by : (m : Bool) → eqb b 45 ≡ m → T (is_integer (b ∷ bs)) → b ≤ 57
    by true p q = let z : b ≡ 45 = eqb-true b 45 p in omega arith
    by false p q = natural-begins b bs (rw (p, is_integer) at q)

pub integer-not-name : (t : Token) → T (is_integer t) → T (is_name t) → ⊥
unfolding is_integer
integer-not-name [] p q = p
integer-not-name (b ∷ bs) p q = let low : 97 ≤ b = name-begins b bs q in let high : b ≤ 57 = integer-begins b bs p in omega arith

-- "Reserved words: all operator words, `if then else first next not until`", and `read` and `set`: these and no others.
pub reserved_words_lem : reserved_words ≡ tokens (bytes_of "lt le eq ge gt ne and or fby if then else first next not until read set")
unfolding reserved_words tokens
reserved_words_lem = refl
