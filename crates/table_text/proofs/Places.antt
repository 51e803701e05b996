-- The text of the entry at a place, as `table_text::entry_text` finds it: nothing, or the line of the entry.
use Prim.Native.Nat.{ℕ, zero, suc, ◌/◌, ◌%◌, ◌≤◌, ◌<◌, min}
use native.Mathlib.Omega.{arith}
use native.Mathlib.Nat.{div-add-mod'}
use mathlib.Core.Path.{◌≡◌, refl, sym, ◌∙◌, ap, ap₂, subst}
use mathlib.Core.Bool.{Bool, true, false, cond}
use mathlib.Core.List.{List, [], ◌∷◌, ◌++◌}
use lib.Dec.{eqb}
use lib.IntN.{ℤ}
use lib.ListN.{length, get_or, take, drop, get_or-eq_default}
use lib.Seq.{take_at}
use borrow.Author.Tests.{eq-eqb, ne_eqb}
use Rattle.basics.proofs.Reflects.{from_true, from_false, to_false}
use Rattle.meaning.specs.Expression.{Stream}
use Rattle.meaning.specs.Letter.{letter_count, letter_of}
use Rattle.meaning.proofs.Letter.{letter_of-letter}
use Rattle.nodes.proofs.Record.{letter-length}
use Rattle.automaton.specs.Table.{no_state}
use Rattle.letters.specs.Described.{described, cut_count, has_letter, with_letter}
use Rattle.letters.proofs.Counts.{length-described}
use Rattle.letters.proofs.Streams.{LetterThere, letter_reflects}
use Rattle.print.specs.Text.{entry_line}
use Rattle.table_text.specs.Table.{entry_text, place_text}

both-empty : (b : Bool) → cond {A = List ℕ} b [] [] ≡ []
both-empty true = refl
both-empty false = refl

-- Inside a list its element does not depend on the default.
pub get_or-inside : (l : List ℕ) (i d e : ℕ) → i < length l → get_or l i d ≡ get_or l i e
get_or-inside [] i d e h = absurd (omega arith)
get_or-inside (x ∷ l) zero d e h = refl
get_or-inside (x ∷ l) (suc i) d e h = get_or-inside l i d e (omega arith)

-- The values of a letter stand at the front of the list that they are written to.
pub letter-front : (ss : List Stream) (n : ℕ) → has_letter ss n 8 ≡ true → (out : List ℤ) → length out ≡ 8 → {values : List ℤ} → values ≡ with_letter ss n out → {k : ℕ} → k ≡ length ss
    → take k values ≡ letter_of ss n
unfolding with_letter
letter-front ss n h out l {values} w {k} d =
    ap (take k) (w ∙ ap (λ t. cond t (letter_of ss n ++ drop (length ss) out) out) (ap (has_letter ss n) l ∙ h))
    ∙ take_at (letter_of ss n) (drop (length ss) out) k (letter-length (letter_of-letter ss n (from_true (letter_reflects ss n 8) h).known) ∙ sym d)

module _ (lows highs : List ℤ) (entries finals : List ℕ) (place : ℕ) where
  abbrev streams : List Stream
  streams = described lows highs

  abbrev count : ℕ
  count = letter_count streams

  -- The entry of the place's state and letter is the one at the place.
  abbrev line_at : ℕ → List ℕ
  line_at next = cond (eqb next no_state) [] (entry_line (place / count) (get_or finals (place / count) 0) (letter_of streams (place % count)) next)

  entry-at : entry_text streams entries finals (place / count) (place % count) ≡ line_at (get_or entries place no_state)
  entry-at = ap (λ p. line_at (get_or entries p no_state)) (div-add-mod' place count)

  -- The text is nothing, or the line of the entry.
  pub place-cases : (P : List ℕ → Type 0) → P []
      → (has_letter streams (place % count) 8 ≡ true → P (entry_line (place / count) (get_or finals (place / count) 0) (letter_of streams (place % count)) (get_or entries place no_state)))
      → P (place_text lows highs entries finals place)
  unfolding place_text
  place-cases P nothing line = by (has_letter streams (place % count) 8) refl
    where
      at : has_letter streams (place % count) 8 ≡ true → (u : Bool) → eqb (get_or entries place no_state) no_state ≡ u → P (line_at (get_or entries place no_state))
      at h true e = rw e nothing
      at h false e = rw e (line h)

      by : (t : Bool) → has_letter streams (place % count) 8 ≡ t → P (cond (has_letter streams (place % count) 8) (entry_text streams entries finals (place / count) (place % count)) [])
      by true h =
          subst P (sym (ap (λ t. cond t (entry_text streams entries finals (place / count) (place % count)) []) h ∙ entry-at)) (at h (eqb (get_or entries place no_state) no_state) refl)
      by false h = subst P (sym (ap (λ t. cond t (entry_text streams entries finals (place / count) (place % count)) []) h)) nothing

  no_entry : get_or entries place no_state ≡ no_state → place_text lows highs entries finals place ≡ []
  unfolding place_text
  no_entry e =
      ap (λ l. cond (has_letter streams (place % count) 8) l []) (entry-at ∙ ap (λ t. cond t [] (entry_line (place / count) (get_or finals (place / count) 0) (letter_of streams (place % count)) (get_or entries place no_state))) (eq-eqb (get_or entries place no_state) no_state e))
      ∙ both-empty (has_letter streams (place % count) 8)

  pub nothing-beyond : length entries ≤ place → place_text lows highs entries finals place ≡ []
  nothing-beyond h = no_entry (get_or-eq_default entries no_state h)

  pub nothing-there : place < length entries → get_or entries place 0 ≡ 65535 → place_text lows highs entries finals place ≡ []
  nothing-there h e = no_entry (get_or-inside entries place no_state 0 h ∙ e)

  no_letter : has_letter streams (place % count) 8 ≡ false → place_text lows highs entries finals place ≡ []
  unfolding place_text
  no_letter e = ap (λ t. cond t (entry_text streams entries finals (place / count) (place % count)) []) e

  module _ {n : ℕ} (e : n ≡ cut_count count) where
    pub no_letters : n ≡ 0 → place_text lows highs entries finals place ≡ []
    no_letters z = no_letter (to_false (letter_reflects streams (place % count) 8) (λ t. omega arith))

    -- Where a letter with the number is found, the count is exact.
    module _ (h : has_letter streams (place % n) 8 ≡ true) where
      exact : n ≡ count
      exact = let b = (from_true (letter_reflects streams (place % n) 8) h).few in omega arith

      pub few_streams : length streams ≤ 8
      few_streams = (from_true (letter_reflects streams (place % n) 8) h).fits

      pub line-there : place < length entries → (get_or entries place 0 ≡ 65535 → ⊥) → {k : ℕ} → k ≡ min (length lows) (length highs)
          → (out : List ℤ) → length out ≡ 8 → {values : List ℤ} → values ≡ with_letter streams (place % n) out → {byte : ℕ} → byte ≡ get_or finals (place / n) 0
          → entry_line (place / n) byte (take k values) (get_or entries place 0) ≡ place_text lows highs entries finals place
      unfolding place_text
      line-there a b {k} s out l {values} w {byte} f =
          let x = exact in
          let next = get_or entries place 0 in
          let d : k ≡ length streams = s ∙ sym (length-described lows highs) in
          let v = letter-front streams (place % n) h out l w d in
          let t : has_letter streams (place % count) 8 ≡ true = ap (λ c. has_letter streams (place % c) 8) (sym x) ∙ h in
          ap₂ (λ y z. entry_line (place / n) y z next) f v
          ∙ ap (λ c. entry_line (place / c) (get_or finals (place / c) 0) (letter_of streams (place % c)) next) x
          ∙ sym (ap (λ u. cond u [] (entry_line (place / count) (get_or finals (place / count) 0) (letter_of streams (place % count)) next)) (ne_eqb next no_state b))
          ∙ ap line_at (get_or-inside entries place 0 no_state a) ∙ sym entry-at
          ∙ sym (ap (λ u. cond u (entry_text streams entries finals (place / count) (place % count)) []) t)

    pub no_values : has_letter streams (place % n) 8 ≡ false → place_text lows highs entries finals place ≡ []
    no_values h =
        no_letter (to_false (letter_reflects streams (place % count) 8) (λ t.
        let y : count ≡ n = omega arith in
        from_false (letter_reflects streams (place % n) 8) h (subst (λ c. LetterThere streams (place % c) 8) y t)))
