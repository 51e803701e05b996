-- A line of names that is read byte by byte passes exactly if its tokens are the sheet's names and no byte is barred: from the laws of tokens
-- read byte by byte (`text` `Fold`), by induction over the bytes of a token and over the tokens. And the names as the reader stores them.
use Prim.Native.Nat.{ℕ, suc, ◌*◌, ◌≤◌, ◌<◌, min}
use native.Mathlib.Omega.{arith}
use native.Mathlib.Decide.{dec_lt}
use mathlib.Core.Path.{◌≡◌, refl, sym, ◌∙◌, ap, ap₂}
use mathlib.Core.Bool.{Bool, true, false, not, ◌&&◌, and-true, and-false, and_assoc, not-not}
use mathlib.Core.List.{List, [], ◌∷◌, ◌++◌, map, append-nil}
use lib.Dec.{eqb}
use lib.ListN.{length, take, drop, get_or, drop_of_length-le, length-map, get_or-eq_default}
use lib.Seq.{drop-cons}
use borrow.Author.Tests.{lt-ltb, le-ltb, eq-eqb, ne_eqb}
use Rattle.text.specs.Bytes.{Token, tokens}
use Rattle.text.specs.Token.{all_bytes, same_bytes}
use Rattle.text.specs.Fold.{run_bytes, tokens_read, line_read}
use Rattle.text.proofs.Fold.{line-tokens}
use Rattle.meaning.specs.Expression.{Stream}
use Rattle.meaning.specs.Window.{join_over}
use Rattle.sheet.specs.Form.{names_of}
use Rattle.sheet.specs.Names.{eight_bytes, ShortNames, name_in}
use Rattle.sheet.proofs.Names.{name-found}
use Rattle.record_names.specs.declared.NameState.{NameState}
use Rattle.record_names.specs.Line.{is_plain, same_tokens, is_names_line}
use Rattle.record_names.specs.Machine.{next_count, is_byte_at, name_from, name_byte, name_end, names_start, names_from, names_byte, is_whole, names_end}
use Rattle.record_names.proofs.Steps.{reading}
use Rattle.record_names.proofs.Plain.{plain_run}
use Rattle.record_names.proofs.Counts.{count_after, count-after}

-- A list is at its end exactly behind its last element.
at-end : {X : Type 0} (f : List X → Bool) → f [] ≡ true → ((x : X) (xs : List X) → f (x ∷ xs) ≡ false) → (d : X) (l : List X) (k : ℕ) → k ≤ length l → eqb k (length l) ≡ f (drop k l)
at-end f p q d l k h = by (dec_lt k (length l))
  where
    by : Dec (k < length l) → eqb k (length l) ≡ f (drop k l)
    by (yes b) = ne_eqb k (length l) (λ e. omega arith) ∙ sym (ap f (drop-cons l k d b) ∙ q (get_or l k d) (drop (suc k) l))
    by (no b) = eq-eqb k (length l) (omega arith) ∙ sym (ap f (drop_of_length-le l {i = k} (omega arith)) ∙ p)

module _ (name : ℕ → Token) where
  -- ---- a token

  -- Once a byte differs, the names differ.
  differs : (t : List ℕ) (k p : ℕ) → name_end name (run_bytes (name_byte name) (name_from k false p) t) ≡ name_from (next_count k) false 0
  differs [] k p = refl
  differs (b ∷ t) k p = differs t k (next_count p)

  module _ (k : ℕ) (s : length (name k) ≤ 8) where
    abbrev n : Token
    n = name k

    abbrev ended : Bool → ℕ → List ℕ → NameState
    ended m p t = name_end name (run_bytes (name_byte name) (name_from k m p) t)

    -- A token against the bytes of the name from a place on.
    name-ended : (t : List ℕ) (m : Bool) (p : ℕ) → p ≤ length n → ended m p t ≡ name_from (next_count k) (m && same_bytes t (drop p n)) 0
    name-ended [] m p h = ap (λ e. name_from (next_count k) (m && e) 0) (at-end (same_bytes []) refl (λ b l. refl) 0 n p h)
    name-ended (b ∷ t) m p h = by (dec_lt p (length n)) (λ m' q r. name-ended t m' q r)
      where
        by : Dec (p < length n) → ((m' : Bool) (q : ℕ) → q ≤ length n → ended m' q t ≡ name_from (next_count k) (m' && same_bytes t (drop q n)) 0)
            → ended (m && is_byte_at n p b) (next_count p) t ≡ name_from (next_count k) (m && same_bytes (b ∷ t) (drop p n)) 0
        by (yes l) ih =
            let c : next_count p ≡ suc p = omega arith in
            ap₂ (λ x q. ended (m && (x && eqb b (get_or n p 0))) q t) (lt-ltb p (length n) l) c ∙ ih (m && eqb b (get_or n p 0)) (suc p) l
            ∙ ap (λ x. name_from (next_count k) x 0) (and_assoc m (eqb b (get_or n p 0)) (same_bytes t (drop (suc p) n)) ∙ ap (λ r. m && same_bytes (b ∷ t) r) (sym (drop-cons n p 0 l)))
        by (no l) ih =
            ap (λ x. ended x (next_count p) t) (ap (λ x. m && (x && eqb b (get_or n p 0))) (le-ltb p (length n) (omega arith)) ∙ and-false m) ∙ differs t k (next_count p)
            ∙ sym (ap (λ x. name_from (next_count k) x 0) (ap (λ r. m && same_bytes (b ∷ t) r) (drop_of_length-le n {i = p} (omega arith)) ∙ and-false m))

  -- ---- the tokens

  module _ (short : (k : ℕ) → length (name k) ≤ 8) where
    -- The tokens are the names from the k-th on.
    same_from : ℕ → List Token → Bool
    same_from k [] = true
    same_from k (t ∷ ts) = same_bytes t (name k) && same_from (next_count k) ts

    names-ended : (ts : List Token) (k : ℕ) (m : Bool)
        → tokens_read (name_byte name) (name_end name) (name_from k m 0) ts ≡ name_from (count_after k ts) (m && same_from k ts) 0
    unfolding same_from
    names-ended [] k m = ap (λ e. name_from k e 0) (sym (and-true m))
    names-ended (t ∷ ts) k m =
        ap (λ s. tokens_read (name_byte name) (name_end name) s ts) (name-ended k (short k) t m 0 (omega arith)) ∙ names-ended ts (next_count k) (m && same_bytes t (name k))
        ∙ ap (λ e. name_from (count_after (next_count k) ts) e 0) (and_assoc m (same_bytes t (name k)) (same_from (next_count k) ts))

    module _ (ns : List Token) (few : length ns ≤ 8) (named : (k : ℕ) → name k ≡ get_or ns k []) where
      same-tokens : (ts : List Token) (k : ℕ) → k ≤ length ns → (same_from k ts && eqb (count_after k ts) (length ns)) ≡ same_tokens ts (drop k ns)
      unfolding same_from
      same-tokens [] k h = at-end (same_tokens []) refl (λ t ts. refl) [] ns k h
      same-tokens (t ∷ ts) k h = by (dec_lt k (length ns)) (λ j l. same-tokens ts j l)
        where
          by : Dec (k < length ns) → ((j : ℕ) → j ≤ length ns → (same_from j ts && eqb (count_after j ts) (length ns)) ≡ same_tokens ts (drop j ns))
              → (same_bytes t (name k) && same_from (next_count k) ts && eqb (count_after (next_count k) ts) (length ns)) ≡ same_tokens (t ∷ ts) (drop k ns)
          by (yes l) ih =
              let c : next_count k ≡ suc k = omega arith in
              ap (λ j. same_bytes t (name k) && same_from j ts && eqb (count_after j ts) (length ns)) c ∙ and_assoc (same_bytes t (name k)) (same_from (suc k) ts) (eqb (count_after (suc k) ts) (length ns))
              ∙ ap₂ (λ n x. same_bytes t n && x) (named k) (ih (suc k) l) ∙ sym (ap (same_tokens (t ∷ ts)) (drop-cons ns k [] l))
          by (no l) ih =
              let c = count-after ts (next_count k) (omega arith) in
              ap (λ x. same_bytes t (name k) && same_from (next_count k) ts && x) (ne_eqb (count_after (next_count k) ts) (length ns) (λ e. omega arith))
              ∙ and-false (same_bytes t (name k) && same_from (next_count k) ts) ∙ sym (ap (same_tokens (t ∷ ts)) (drop_of_length-le ns {i = k} (omega arith)))

      -- "13, names that differ [..] (a byte refusal 1 bars makes either so)"
      pub names_read : (l : List ℕ) → names_end name (length ns) (run_bytes (names_byte name) names_start l) ≡ is_names_line ns l
      unfolding names_byte names_end line_read is_names_line
      names_read l =
          ap (names_end name (length ns)) (plain_run names_from (name_byte name) (name_end name) (names_byte name) (λ m r b. refl) l false (reading false (name_from 0 true 0)))
          ∙ ap (is_whole (length ns) (not (all_bytes is_plain l))) (line-tokens (name_byte name) (name_end name) l (name_from 0 true 0) ∙ names-ended (tokens l) 0 true)
          ∙ ap₂ ◌&&◌ (not-not (all_bytes is_plain l)) (same-tokens (tokens l) 0 (omega arith))

-- ---- the names as they are stored

-- In eight bytes for each stream's name, with any bytes behind them, and the lengths of the names, the names are found; no other is.
pub names-found : (ss : List Stream) → ShortNames ss → (rest : List ℕ) (i : ℕ) → name_in (join_over eight_bytes ss ++ rest) (map (λ x. length x.name) ss) i ≡ get_or (names_of ss) i []
names-found ss h rest i = by (dec_lt i (length ss))
  where
    by : Dec (i < length ss) → name_in (join_over eight_bytes ss ++ rest) (map (λ x. length x.name) ss) i ≡ get_or (names_of ss) i []
    by (yes l) = ap (λ ns. name_in (join_over eight_bytes ss ++ rest) ns i) (sym (append-nil (map (λ (x : Stream). length x.name) ss))) ∙ name-found rest [] ss h i l
    by (no l) =
        let none = get_or-eq_default (map (λ (x : Stream). length x.name) ss) 0 {n = i} (omega (arith, length-map ss (λ x. length x.name))) in
        ap (λ k. take (min k 8) (drop (i * 8) (join_over eight_bytes ss ++ rest))) none
        ∙ sym (get_or-eq_default (names_of ss) [] {n = i} (omega (arith, length-map ss (λ x. x.name))))
