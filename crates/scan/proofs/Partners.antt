-- Brackets counted from the front: what too deep a line and the partner of a bracket are, one byte at a time. From the definitions.
use Prim.Native.Nat.{ℕ, suc, ◌+◌, ◌-◌, ◌≤◌, ◌<◌}
use mathlib.Core.Path.{◌≡◌, refl, sym, ap, subst, ◌∙◌}
use mathlib.Core.Bool.{Bool, true, false, cond}
use mathlib.Core.List.{List, [], ◌∷◌, ◌++◌}
use native.Mathlib.Decide.{dec_le}
use native.Mathlib.Omega.{arith}
use lib.Dec.{eqb}
use lib.ListN.{length, take, drop, get_or, length-drop}
use lib.Seq.{take-suc, get_or-drop}
use borrow.Author.Tests.{lt-ltb, le-ltb}
use Rattle.basics.proofs.Reflects.{Reflects, holds, fails, eqb_reflects}
use Rattle.sheet.specs.Refusal.{occurrences}
use Rattle.sheet.specs.Reading.{too_deep_from}
use Rattle.sheet.specs.Brackets.{BytePartner}
use Rattle.scan.specs.Place.{between, PartnerAt, no_partner, a_partner}
use Rattle.scan.proofs.Tokens.{drop_at, drop-end, between-last}

pub deep-now : (o c : ℕ) (l : List ℕ) → 32 + c < o → too_deep_from o c l ≡ true
unfolding too_deep_from
deep-now o c [] h = lt-ltb (32 + c) o h
deep-now o c (b ∷ l) h = rw (lt-ltb (32 + c) o h)

pub deep-later : (o c : ℕ) (l : List ℕ) (i : ℕ) → o ≤ 32 + c → i < length l → too_deep_from o c (drop i l) ≡ too_deep_from (o + cond (eqb (get_or l i 0) 40) 1 0) (c + cond (eqb (get_or l i 0) 41) 1 0) (drop (i + 1) l)
unfolding too_deep_from
deep-later o c l i h k = ap (too_deep_from o c) (drop_at l i k) ∙ rw (le-ltb (32 + c) o h)

pub deep-never : (o c : ℕ) (l : List ℕ) (i : ℕ) → o ≤ 32 + c → length l ≡ i → too_deep_from o c (drop i l) ≡ false
unfolding too_deep_from
deep-never o c l i h e = ap (λ n. too_deep_from o c (drop n l)) (sym e) ∙ ap (too_deep_from o c) (drop-end l) ∙ le-ltb (32 + c) o h

pub one_at_most : {n : ℕ} (b c : ℕ) → n ≡ cond (eqb b c) 1 0 → n ≤ 1
one_at_most {n} b c e = by (eqb b c) e
  where
    by : (m : Bool) → n ≡ cond m 1 0 → n ≤ 1
    by true p = omega arith
    by false p = omega arith

occurrences-snoc : (w : ℕ) (l : List ℕ) (b : ℕ) → occurrences w (l ++ (b ∷ [])) ≡ occurrences w l + cond (eqb b w) 1 0
occurrences-snoc w [] b = omega arith
occurrences-snoc w (a ∷ l) b = let z = occurrences-snoc w l b in omega arith

-- One place further in bytes that are counted from the place `at` on.
pub occurrences-next : (w : ℕ) (l : List ℕ) (at i : ℕ) → at ≤ i → i < length l → occurrences w (between l at (i + 1)) ≡ occurrences w (between l at i) + cond (eqb (get_or l i 0) w) 1 0
occurrences-next w l at i h k = ap (occurrences w) (between-last l at i h k) ∙ occurrences-snoc w (between l at i) (get_or l i 0)

-- No beginning of the bytes up to this place closes more brackets than it opens.
abbrev pub NeverMore : List ℕ → ℕ → Type 0
NeverMore l m = (n : ℕ) → n ≤ m → occurrences 41 (take n l) ≤ occurrences 40 (take n l)

pub never-none : (l : List ℕ) (m : ℕ) → m ≡ 0 → NeverMore l m
never-none l m e n k = let z : 0 ≡ n = omega arith in subst (λ a. occurrences 41 (take a l) ≤ occurrences 40 (take a l)) z (omega arith)

pub never-next : (l : List ℕ) (m : ℕ) → NeverMore l m → occurrences 41 (take (suc m) l) ≤ occurrences 40 (take (suc m) l) → NeverMore l (suc m)
never-next l m f h n k = by (dec_le n m)
  where
    by : Dec (n ≤ m) → occurrences 41 (take n l) ≤ occurrences 40 (take n l)
    by (yes j) = f n j
    by (no j) = let e : suc m ≡ n = omega arith in subst (λ a. occurrences 41 (take a l) ≤ occurrences 40 (take a l)) e h

-- Where more brackets are closed than opened for the first time, the last byte closes.
closing-byte : (o c b : ℕ) → c ≤ o → o + cond (eqb b 40) 1 0 < c + cond (eqb b 41) 1 0 → (b ≡ 41) × (o ≡ c)
closing-byte o c b h k = by (eqb_reflects b 41) k
  where
    by : {m : Bool} → Reflects (b ≡ 41) m → o + cond (eqb b 40) 1 0 < c + cond m 1 0 → (b ≡ 41) × (o ≡ c)
    by (holds e) l = (e, omega arith)
    by (fails n) l = absurd (omega arith)

-- Just after a partner more brackets are closed than opened.
pub partner_more : (l : List ℕ) (k : ℕ) → BytePartner l k → occurrences 40 (take (suc k) l) < occurrences 41 (take (suc k) l)
partner_more l k p =
    let step : take (suc k) l ≡ take k l ++ (41 ∷ []) = take-suc l k 0 p.inside ∙ ap (λ b. take k l ++ (b ∷ [])) p.closing in
    let o = ap (occurrences 40) step ∙ occurrences-snoc 40 (take k l) 41 in
    let c = ap (occurrences 41) step ∙ occurrences-snoc 41 (take k l) 41 in
    omega (arith, p.equal)

module _ (text : List ℕ) (at : ℕ) where
  pub partner_found : (i : ℕ) → at ≤ i → i < length text → NeverMore (drop at text) (i - at) → occurrences 40 (between text at (i + 1)) < occurrences 41 (between text at (i + 1)) → PartnerAt text at i
  partner_found i h k f more =
      let o = occurrences-next 40 text at i h k in
      let c = occurrences-next 41 text at i h k in
      let (byte, same) = closing-byte (occurrences 40 (between text at i)) (occurrences 41 (between text at i)) (get_or text i 0) (f (i - at) (omega arith)) (omega arith) in
      let there : at + (i - at) ≡ i = omega arith in
      a_partner h k (record {
        inside = let z = length-drop at text in omega arith;
        closing = get_or-drop at text (i - at) 0 ∙ ap (λ n. get_or text n 0) there ∙ byte;
        equal = same;
        before = f;
      })

  pub partner_missing : (i : ℕ) → length text ≤ i → NeverMore (drop at text) (i - at) → PartnerAt text at (length text)
  partner_missing i h f =
      no_partner refl (λ k p. let z = length-drop at text in let w = partner_more (drop at text) k p in let v = f (suc k) (omega (arith, p.inside)) in omega arith)
