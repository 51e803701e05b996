-- The place of a name among streams that are described, by comparing it with one name after the other; what stands at a place. By induction over the
-- streams.
use Prim.Native.Nat.{ℕ, zero, suc, ◌+◌, ◌-◌, ◌≤◌, ◌<◌}
use native.Mathlib.Omega.{arith}
use native.Mathlib.Decide.{ℕ_discrete}
use mathlib.Core.Path.{◌≡◌, refl, sym, ap, ap₂, subst, ◌∙◌}
use mathlib.Core.Bool.{true, false, true≢false, cond}
use Rattle.std.proofs.Common.{Option, None, Some, append_assoc}
use Rattle.std.specs.Option.{MatchOption, is_some, unwrap_or}
use mathlib.Core.List.{List, [], ◌∷◌, ◌++◌, Memᴰ}
use lib.ListN.{length, get_or, take, set}
use borrow.Rule.Slice.PartMut.{put_mid}
use Rattle.std.proofs.lemmas.List.Edits.{sets-eq}
use lib.Seq.{drop-drop, sets, get_or-set_same, get_or-set_other}
use Rattle.basics.proofs.Reflects.{to_true, to_false}
use Rattle.text.specs.Bytes.{Token}
use Rattle.text.specs.Token.{same_bytes}
use Rattle.text.proofs.Token.{same_bytes_reflects}
use Rattle.meaning.specs.Expression.{Stream}
use Rattle.sheet.specs.Vocabulary.{name_place}
use Rattle.sheet.specs.Form.{names_of}
use Rattle.sheet.specs.Names.{name_in}
use Rattle.streams.specs.Description.{stream_in, described_from, description_of}
use Rattle.streams.specs.declared.StreamsDescription.{StreamsDescription}
use Rattle.joined_streams.specs.Joined.{place_of}

-- ---- what stands at a place of a list

pub get_or-member : {X : Type 0} (xs : List X) (i : ℕ) (d : X) → i < length xs → Memᴰ (get_or xs i d) xs
get_or-member [] i d h = absurd (omega arith)
get_or-member (x ∷ xs) zero d h = Memᴰ.head refl
get_or-member (x ∷ xs) (suc i) d h = Memᴰ.tail (get_or-member xs i d (omega arith))

-- what holds of the numbers of a list, after one is stored
pub set_below : (P : ℕ → ℕ → Type 0) (list : List ℕ) (n v : ℕ) → n < length list → P n v → ((k : ℕ) → k < n → P k (get_or list k 0)) → (k : ℕ) → k < n + 1 → P k (get_or (set list n v) k 0)
set_below P list n v room here before k l = by (ℕ_discrete k n)
  where
    by : Dec (k ≡ n) → P k (get_or (set list n v) k 0)
    by (yes e) = rw (e, get_or-set_same list n v 0 room) here
    by (no e) = rw (get_or-set_other list n k v 0 e) (before k (omega arith))

pub set-every : (P : ℕ → Type 0) (list : List ℕ) (n v : ℕ) → n < length list → P v → ((k : ℕ) → P (get_or list k 0)) → (k : ℕ) → P (get_or (set list n v) k 0)
set-every P list n v room here before k = by (ℕ_discrete k n)
  where
    by : Dec (k ≡ n) → P (get_or (set list n v) k 0)
    by (yes e) = rw (e, get_or-set_same list n v 0 room) here
    by (no e) = rw (get_or-set_other list n k v 0 e) (before k)

-- a name that is copied over a part of the bytes stands there
pub name-copied : (names name part : List ℕ) (place k : ℕ) → part ≡ name → k ≡ length name → place + length name ≤ length names → put_mid place k names part ≡ sets names place name
name-copied names name part place k e n h =
    let stands = sets-eq name names place h in
    ap₂ (λ (m : ℕ) (l : List ℕ). put_mid place m names l) n e ∙ ap (λ l. take place names ++ (name ++ l)) (drop-drop (length name) place names) ∙ sym (rw append_assoc at stands)

-- ---- streams that are described

module _ (s : StreamsDescription) where
  pub described-at : (k n i : ℕ) → k ≤ i → i < k + n → (d : Stream) → get_or (described_from s k n) (i - k) d ≡ stream_in s i
  unfolding described_from
  described-at k zero i a b d = absurd (omega arith)
  described-at k (suc n) i a b d = by (ℕ_discrete i k) (λ l. described-at (suc k) n i l (omega arith) d)
    where
      by : Dec (i ≡ k) → (suc k ≤ i → get_or (described_from s (suc k) n) (i - suc k) d ≡ stream_in s i) → get_or (stream_in s k ∷ described_from s (suc k) n) (i - k) d ≡ stream_in s i
      by (yes e) later = let z : i - k ≡ 0 = omega arith in rw z (ap (stream_in s) (sym e))
      by (no e) later = let z : i - k ≡ suc (i - suc k) = omega arith in rw z (later (omega arith))

  pub stream_at : (i : ℕ) → i < s.count → (d : Stream) → get_or (description_of s) i d ≡ stream_in s i
  stream_at i h d = let z : i - 0 ≡ i = omega arith in rw z at (described-at 0 s.count i (omega arith) (omega arith) d)

  -- The place of a name: that of the first stream with it.
  place-from : (name : Token) (k n i : ℕ) → k ≤ i → i < k + n → ((j : ℕ) → k ≤ j → j < i → name_in s.names s.lengths j ≡ name → ⊥) → name_in s.names s.lengths i ≡ name
      → name_place (names_of (described_from s k n)) name + k ≡ i
  unfolding described_from name_place
  place-from name k zero i a b before here = absurd (omega arith)
  place-from name k (suc n) i a b before here = by (ℕ_discrete i k) (λ l. place-from name (suc k) n i l (omega arith) (λ j p q. before j (omega arith) q) here)
    where
      by : Dec (i ≡ k) → (suc k ≤ i → name_place (names_of (described_from s (suc k) n)) name + suc k ≡ i)
          → cond (same_bytes (name_in s.names s.lengths k) name) 0 (suc (name_place (names_of (described_from s (suc k) n)) name)) + k ≡ i
      by (yes e) later = rw (to_true (same_bytes_reflects (name_in s.names s.lengths k) name) (subst (λ j. name_in s.names s.lengths j ≡ name) e here)) (omega arith)
      by (no e) later = let z = later (omega arith) in rw (to_false (same_bytes_reflects (name_in s.names s.lengths k) name) (before k (omega arith) (omega arith))) (omega arith)

  none_from : (name : Token) (k n : ℕ) → ((j : ℕ) → k ≤ j → j < k + n → name_in s.names s.lengths j ≡ name → ⊥) → name_place (names_of (described_from s k n)) name ≡ n
  unfolding described_from name_place
  none_from name k zero before = refl
  none_from name k (suc n) before =
      rw (to_false (same_bytes_reflects (name_in s.names s.lengths k) name) (before k (omega arith) (omega arith))) (ap suc (none_from name (suc k) n (λ j p q. before j (omega arith) (omega arith))))

  pub place_is : (name : Token) (p : ℕ) → p < s.count → ((j : ℕ) → j < p → name_in s.names s.lengths j ≡ name → ⊥) → name_in s.names s.lengths p ≡ name → p ≡ place_of (description_of s) name
  place_is name p h before here = let e = place-from name 0 s.count p (omega arith) (omega arith) (λ j l k. before j k) here in omega arith

  pub place-missing : (name : Token) → ((j : ℕ) → j < s.count → name_in s.names s.lengths j ≡ name → ⊥) → s.count ≡ place_of (description_of s) name
  place-missing name before = sym (none_from name 0 s.count (λ j l k. before j (omega arith)))

  -- What is said of the place that is found, or not.
  abbrev pub PlaceTold : Token → Option ℕ → Type 0
  PlaceTold name r = MatchOption r (place_of (description_of s) name ≡ s.count) (λ p. (p < s.count) × (p ≡ place_of (description_of s) name))

  pub place-found : (name : Token) (r : Option ℕ)
      → MatchOption r ((k : ℕ) → 0 ≤ k → k < s.count → name_in s.names s.lengths k ≡ name → ⊥) (λ p. (0 ≤ p) × (p < s.count) × (name_in s.names s.lengths p ≡ name) × ((k : ℕ) → 0 ≤ k → k < p → name_in s.names s.lengths k ≡ name → ⊥))
      → PlaceTold name r
  place-found name None h = sym (place-missing name (λ j l. h j (omega arith) l))
  place-found name (Some p) h = (h.1, place_is name p h.1 (λ j l. h.3 j (omega arith) l) h.2)

  -- A place that is missing is behind the streams, one that is among them is found.
  pub missing-place : (name : Token) (r : Option ℕ) → PlaceTold name r → is_some r ≡ false → place_of (description_of s) name ≡ s.count
  missing-place name None h e = h
  missing-place name (Some p) h e = absurd (true≢false e)

  pub found-place : (name : Token) (r : Option ℕ) → PlaceTold name r → is_some r ≡ true → place_of (description_of s) name ≡ s.count → ⊥
  found-place name None h e q = absurd (true≢false (sym e))
  found-place name (Some p) h e q = omega (arith, h.0, h.1)

  pub place-there : (name : Token) (r : Option ℕ) → PlaceTold name r → place_of (description_of s) name < s.count → unwrap_or r 0 ≡ place_of (description_of s) name
  place-there name None h l = absurd (omega (arith, h))
  place-there name (Some p) h l = h.1
