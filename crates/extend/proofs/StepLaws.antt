-- One more letter after the record of a key: the letters of the longer record, and that the new key is a key again. From the laws of lists.
use Prim.Native.Nat.{ℕ, suc, ◌+◌, ◌-◌, ◌≤◌, ◌<◌, min}
use native.Mathlib.Omega.{arith}
use native.Mathlib.Decide.{dec_lt}
use mathlib.Core.Path.{◌≡◌, refl, sym, ◌∙◌, ap, subst}
use mathlib.Core.List.{List, [], ◌∷◌, ◌++◌}
use lib.ListN.{length, get_or, take, drop, length-append, length-drop, drop_of_length-le, get_or-append}
use lib.Seq.{take_all, drop-append-le, length-take-le, get_or-take, get_or-drop, get_or-append_seam}
use Rattle.std.specs.Prelude.{unwrap_or}
use Rattle.sheet.specs.Refusal.{window_bound, first_bound}
use Rattle.sizes.specs.Room.{key_size}
use Rattle.prepare.specs.Key.{with_zeros, encoded_key, size_in, letters_in, firsts_in, marks_in}
use Rattle.extend.specs.Step.{Store, letters_after, view_after, judged_in, firsts_from, key_after, HasValues, IsKey}
use Rattle.prepare.proofs.KeyLists.{length-padded, get_or-padded}

-- The letters that the longer record's key holds: the known ones from `from` on with the newest, or none if a key holds none.
module _ (letters : List ℕ) (a width kept from : ℕ) (within : length letters ≤ width) (is : kept ≡ min (length letters + 1) width) (starts : from ≡ min (length letters + 1 - kept) (length letters)) where
  abbrev later : List ℕ
  later = take (length letters - from) (drop from letters)

  later-is : later ≡ drop from letters
  later-is = take_all (length letters - from) (drop from letters) (omega (arith, length-drop from letters))

  later-long : length later ≡ length letters - from
  later-long = ap length later-is ∙ length-drop from letters

  pub some-kept : 0 < kept → kept ≡ length later + 1
  some-kept h = omega (arith, later-long)

  pub none_kept : kept ≡ 0 → length later ≡ 0
  none_kept h = omega (arith, later-long)

  pub last-letters : take kept (later ++ (a ∷ [])) ≡ drop (length (letters ++ (a ∷ [])) - width) (letters ++ (a ∷ []))
  last-letters = by (dec_lt 0 kept)
    where
      more : length (letters ++ (a ∷ [])) ≡ length letters + 1
      more = length-append letters (a ∷ [])

      by : Dec (0 < kept) → take kept (later ++ (a ∷ [])) ≡ drop (length (letters ++ (a ∷ [])) - width) (letters ++ (a ∷ []))
      by (yes h) =
          let e : length (letters ++ (a ∷ [])) - width ≡ from = omega (arith, more) in
          take_all kept (later ++ (a ∷ [])) (omega (arith, length-append later (a ∷ []), some-kept h)) ∙ ap (◌++ (a ∷ [])) later-is
          ∙ sym (ap (λ n. drop n (letters ++ (a ∷ []))) e ∙ drop-append-le from letters (a ∷ []) (omega arith))
      by (no h) =
          let z : kept ≡ 0 = omega arith in
          ap (λ n. take n (later ++ (a ∷ []))) z ∙ sym (drop_of_length-le (letters ++ (a ∷ [])) {i = length (letters ++ (a ∷ [])) - width} (omega (arith, more)))

module _ (K : Store) (key : List ℕ) (a : ℕ) (k : IsKey K key) (room : K.width ≤ window_bound) where
  abbrev held : ℕ
  held = min (size_in key) K.width

  pub letters-long : length (letters_in K.width key) ≡ held
  letters-long = length-take-le held (drop 1 key) (omega (arith, length-drop 1 key, k.long))

  pub after-long : length (letters_after K key a) ≡ suc held
  after-long = omega (arith, length-append (letters_in K.width key) (a ∷ []), letters-long)

  -- Every letter's values are there.
  pub after-values : HasValues K a → (p : ℕ) → p < length (letters_after K key a) → HasValues K (get_or (letters_after K key a) p 0)
  after-values h p l = by (dec_lt p held)
    where
      by : Dec (p < held) → HasValues K (get_or (letters_after K key a) p 0)
      by (yes b) =
          let e : get_or (letters_after K key a) p 0 ≡ get_or key (suc p) 0 =
          get_or-append (letters_in K.width key) (a ∷ []) 0 p (omega (arith, letters-long)) ∙ get_or-take held (drop 1 key) p 0 b
          ∙ get_or-drop 1 key p 0 ∙ ap (λ n. get_or key n 0) (omega arith) in
          rw e (k.letters p b)
      by (no b) =
          let i : p ≡ length (letters_in K.width key) = omega (arith, after-long, letters-long) in
          let e : get_or (letters_after K key a) p 0 ≡ a = ap (λ n. get_or (letters_after K key a) n 0) i ∙ get_or-append_seam (letters_in K.width key) a [] 0 in
          rw e h

-- ---- the new key is a key

pub length_encoded : (size : ℕ) (letters firsts : List ℕ) (marks : ℕ) → length (encoded_key size letters firsts marks) ≡ key_size
unfolding encoded_key
length_encoded size letters firsts marks =
    let p = length-padded window_bound letters in
    let q = length-padded first_bound firsts in
    omega (arith, length-append (with_zeros window_bound letters) (with_zeros first_bound firsts ++ (marks ∷ [])), length-append (with_zeros first_bound firsts) (marks ∷ []))

pub encoded_letter : (size : ℕ) (letters firsts : List ℕ) (marks p : ℕ) → p < window_bound → get_or (encoded_key size letters firsts marks) (suc p) 0 ≡ get_or letters p 0
unfolding encoded_key
encoded_letter size letters firsts marks p h =
    get_or-append (with_zeros window_bound letters) (with_zeros first_bound firsts ++ (marks ∷ [])) 0 p (omega (arith, length-padded window_bound letters)) ∙ get_or-padded window_bound letters p h

pub encoded_size : (size : ℕ) (letters firsts : List ℕ) (marks : ℕ) → size_in (encoded_key size letters firsts marks) ≡ size
unfolding encoded_key
encoded_size size letters firsts marks = refl

module _ (K : Store) (key : List ℕ) (a : ℕ) (k : IsKey K key) (room : K.width ≤ window_bound) (h : HasValues K a) where
  abbrev l : List ℕ
  l = letters_after K key a

  pub key_after-key : IsKey K (key_after K key a)
  unfolding key_after
  key_after-key =
      record {
        long = length_encoded _ _ _ _;
        letters = λ p b. new p (subst (λ n. p < min n K.width) (encoded_size _ _ _ _) b);
      }
    where
      new : (p : ℕ) → p < min (length l) K.width → HasValues K (get_or (key_after K key a) (suc p) 0)
      new p b =
          let W = view_after K key a in
          let i =
          encoded_letter (length l) (drop (length l - K.width) l) (firsts_from K W (size_in key) (firsts_in (length K.first_nodes) key)) (unwrap_or (judged_in K W (length l - 1) (marks_in key)) 0) p (omega arith)
          ∙ get_or-drop (length l - K.width) l p 0 in
          subst (HasValues K) (sym i) (after-values K key a k room h (length l - K.width + p) (omega arith))
