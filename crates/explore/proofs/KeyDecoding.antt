-- What the key of a record says: its letters, the values of its firsts where it is cut; and what one more letter's values are taken from. From
-- the parts of a key, one by one.
use Prim.Native.Nat.{ℕ, suc, ◌-◌, ◌≤◌, ◌<◌, min}
use native.Mathlib.Omega.{arith}
use mathlib.Core.Path.{◌≡◌, refl, sym, ◌∙◌, ap, ap₂}
use mathlib.Core.Bool.{true, false}
use mathlib.Core.List.{List, [], ◌∷◌, ◌++◌, map}
use lib.Dec.{leb}
use lib.IntN.{ℤ}
use lib.ListN.{length, take, drop, length-drop}
use lib.Seq.{take-take, take_at, drop_at}
use borrow.Author.Tests.{le-leb, lt-leb}
use Rattle.sheet.specs.Refusal.{window_bound, first_bound}
use Rattle.automaton.specs.Words.{AllBelow}
use Rattle.automaton.proofs.ReachedRows.{below-snoc}
use Rattle.meaning.specs.Expression.{Sheet}
use Rattle.meaning.specs.Letter.{letter_count, record_of}
use Rattle.meaning.specs.Situation.{first_values}
use Rattle.meaning.proofs.Facts.{length-snoc}
use Rattle.sheet.specs.Accepted.{Accepted}
use Rattle.nodes.specs.Postfix.{Node}
use Rattle.nodes.specs.Evaluate.{view}
use Rattle.nodes.proofs.Record.{flat}
use Rattle.prepare.specs.Key.{with_zeros, encoded_key, raised, lowered, size_in, letters_in, firsts_in, width, key_of}
use Rattle.prepare.specs.Prepared.{window_of}
use Rattle.extend.specs.Step.{letters_after, view_after}
use Rattle.explore.specs.Rows.{letter_numbers}
use Rattle.nodes.specs.FirstPlaces.{all_first_places}
use Rattle.nodes.proofs.FirstPlaces.{all_places_long}
use Rattle.explore.specs.StoredSheet.{store_for, HasLetters}
use Rattle.prepare.proofs.KeyLists.{length-padded}
use Rattle.explore.proofs.KeySituations.{padded-take, drop-below, firsts-long, key-cut}
use Rattle.extend.proofs.StepLaws.{encoded_size}

-- ---- the parts of a key

encoded_letters : (size : ℕ) (letters firsts : List ℕ) (marks m : ℕ) → m ≡ length letters → length letters ≤ window_bound → take m (drop 1 (encoded_key size letters firsts marks)) ≡ letters
unfolding encoded_key
encoded_letters size letters firsts marks m e h =
    let rest = with_zeros first_bound firsts ++ (marks ∷ []) in
    ap (λ n. take n (with_zeros window_bound letters ++ rest)) e
    ∙ sym (take-take (length letters) window_bound (with_zeros window_bound letters ++ rest) h)
    ∙ ap (take (length letters)) (take_at (with_zeros window_bound letters) rest window_bound (length-padded window_bound letters))
    ∙ padded-take window_bound letters h

encoded_firsts : (size : ℕ) (letters firsts : List ℕ) (marks m : ℕ) → m ≡ length firsts → length firsts ≤ first_bound → firsts_in m (encoded_key size letters firsts marks) ≡ firsts
unfolding encoded_key
encoded_firsts size letters firsts marks m e h =
    let rest = with_zeros first_bound firsts ++ (marks ∷ []) in
    ap (λ n. take n (drop window_bound (with_zeros window_bound letters ++ rest))) e
    ∙ ap (take (length firsts)) (drop_at (with_zeros window_bound letters) rest window_bound (length-padded window_bound letters))
    ∙ sym (take-take (length firsts) first_bound rest h)
    ∙ ap (take (length firsts)) (take_at (with_zeros first_bound firsts) (marks ∷ []) first_bound (length-padded first_bound firsts))
    ∙ padded-take first_bound firsts h

-- ---- the letters of a window

module _ (s : Sheet) (values : List ℤ) (has : HasLetters s values) where
  window-flat : (l : List ℕ) → AllBelow (letter_count s.streams) l → window_of (length s.streams) values l ≡ flat (record_of s.streams l)
  unfolding window_of
  window-flat [] h = refl
  window-flat (a ∷ l) h = ap₂ ◌++◌ (has.letter a h.0) (window-flat l h.1)

-- ---- the key of a record, and one more letter

module _ (s : Sheet) (accepted : Accepted s) (behind : List Node) (values : List ℤ) (has : HasLetters s values) where
  abbrev w : ℕ
  w = width s

  abbrev recent : List ℕ → List ℕ
  recent r = drop (length r - w) r

  recent-long : (r : List ℕ) → length (recent r) ≡ min (length r) w
  recent-long r = omega (arith, length-drop (length r - w) r)

  pub key-size : (r : List ℕ) → size_in (key_of s r) ≡ min (length r) (suc w)
  unfolding key_of
  key-size r = encoded_size _ _ _ _

  pub key-letters : (r : List ℕ) → letters_in w (key_of s r) ≡ recent r
  unfolding key_of
  key-letters r = encoded_letters (min (length r) (suc w)) (recent r) _ _ _ (ap (λ n. min n w) (encoded_size (min (length r) (suc w)) (recent r) _ _) ∙ omega (arith, recent-long r)) (omega (arith, recent-long r, accepted.window))

  pub key-firsts : (r : List ℕ) → w < length r → firsts_in (length (all_first_places 0 s.constraints)) (key_of s r) ≡ map raised (first_values s.constraints (record_of s.streams r))
  key-firsts r h =
      let long = firsts-long s r in
      ap (firsts_in (length (all_first_places 0 s.constraints))) (key-cut s r h)
      ∙ encoded_firsts (suc w) (recent r) (map raised (first_values s.constraints (record_of s.streams r))) _ _ (all_places_long 0 s.constraints ∙ sym long) (omega (arith, long, accepted.firsts))

  module _ (r : List ℕ) (a : ℕ) (below : AllBelow (letter_numbers s) r) (here : a < letter_numbers s) where
    pub after_letters : letters_after (store_for s behind values) (key_of s r) a ≡ recent r ++ (a ∷ [])
    after_letters = ap (◌++ (a ∷ [])) (key-letters r)

    -- As many letters of the record are there as it has, up to D+B.
    pub after-known : length (letters_after (store_for s behind values) (key_of s r) a) - 1 ≡ min (length r) w
    after-known = omega (arith, ap length after_letters, length-snoc (recent r) a, recent-long r)

    after-window : window_of (length s.streams) values (letters_after (store_for s behind values) (key_of s r) a) ≡ flat (record_of s.streams (recent r ++ (a ∷ [])))
    after-window = ap (window_of (length s.streams) values) after_letters ∙ window-flat s values has (recent r ++ (a ∷ [])) (below-snoc (letter_numbers s) (recent r) a (drop-below (letter_numbers s) (length r - w) r below) here)

    -- A whole record's letters are all there, and the firsts are evaluated.
    pub view-whole : length r ≤ w
        → view_after (store_for s behind values) (key_of s r) a
        ≡ view (flat (record_of s.streams (r ++ (a ∷ [])))) (length s.streams) (map lowered (firsts_in (length (all_first_places 0 s.constraints)) (key_of s r))) true
    view-whole h =
        let none : length r - w ≡ 0 = omega arith in
        let size : leb (size_in (key_of s r)) w ≡ true = le-leb (size_in (key_of s r)) w (omega (arith, key-size r)) in
        let all : recent r ≡ r = ap (λ n. drop n r) none in
        (λ i. view ((after-window ∙ ap (λ l. flat (record_of s.streams (l ++ (a ∷ [])))) all) i) (length s.streams) (map lowered (firsts_in (length (all_first_places 0 s.constraints)) (key_of s r))) (size i))

    -- Of a cut record the last letters and the values of the firsts are there, as they are read from the key.
    pub view-cut : w < length r
        → view_after (store_for s behind values) (key_of s r) a
        ≡ view (flat (record_of s.streams (recent r ++ (a ∷ [])))) (length s.streams) (map lowered (map raised (first_values s.constraints (record_of s.streams r)))) false
    view-cut h =
        let size : leb (size_in (key_of s r)) w ≡ false = lt-leb (size_in (key_of s r)) w (omega (arith, key-size r)) in
        (λ i. view (after-window i) (length s.streams) (map lowered (key-firsts r h i)) (size i))
