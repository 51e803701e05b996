-- The text of a migration line by line: one line more behind those of the states so far, and how long it is. A text or a refusal, by the refusal's number.
-- From the definitions, and the lengths of digits (print).
use Prim.Native.Nat.{ℕ, suc, ◌+◌, ◌-◌, ◌*◌, ◌≤◌, ◌<◌, min}
use native.Mathlib.Omega.{arith}
use native.Mathlib.Decide.{dec_lt}
use native.Mathlib.Numerals.{add-one}
use mathlib.Core.Path.{◌≡◌, refl, sym, ap, ap₂, subst, ◌∙◌}
use mathlib.Core.Bool.{cond}
use mathlib.Core.List.{List, [], ◌∷◌, ◌++◌, append_assoc, append-nil}
use lib.ListN.{length, get_or, take, drop, length-append, length-drop}
use lib.Seq.{sets, take-suc, take_all, length-take-le, length-sets}
use borrow.Author.Tests.{eq-eqb, ne_eqb}
use borrow.Rule.Slice.PartMut.{mid_of, put_mid}
use Rattle.basics.proofs.Lists.{sets_append}
use Rattle.print.specs.Text.{digits, refusal_line}
use Rattle.print.specs.Append.{Appends}
use Rattle.print.proofs.Append.{text-stored, appends_then}
use Rattle.print.proofs.Lengths.{digits-length, refusal-length}
use Rattle.pages.proofs.Lines.{written-front}
use Rattle.pages.proofs.Placed.{placed-text}
use Rattle.migration_text.specs.Migration.{migration_heading, migration_line, migrated_from, migration_text, migration_output, most_states, text_room, Writes}

-- ---- the lines

-- one more state
migrated-snoc : (old : ℕ) (states : List ℕ) (new : ℕ) → migrated_from old (states ++ (new ∷ [])) ≡ migrated_from old states ++ migration_line (old + length states) new
unfolding migrated_from
migrated-snoc old [] new = let e : old ≡ old + 0 = omega arith in append-nil (migration_line old new) ∙ ap (λ i. migration_line i new) e
migrated-snoc old (v ∷ states) new =
    let e : suc old + length states ≡ old + suc (length states) = omega arith in
    ap (migration_line old v ++◌) (migrated-snoc (suc old) states new ∙ ap (λ i. migrated_from (suc old) states ++ migration_line i new) e)
    ∙ sym (append_assoc (migration_line old v) (migrated_from (suc old) states) (migration_line (old + suc (length states)) new))

migrated-more : (states : List ℕ) (i : ℕ) → i < length states → migrated_from 0 (take (i + 1) states) ≡ migrated_from 0 (take i states) ++ migration_line i (get_or states i 0)
migrated-more states i h =
    let long : 0 + length (take i states) ≡ i = omega (arith, length-take-le i states (omega arith)) in
    ap (migrated_from 0) (ap (λ n. take n states) (add-one i) ∙ take-suc states i 0 h)
    ∙ migrated-snoc 0 (take i states) (get_or states i 0) ∙ ap (λ j. migrated_from 0 (take i states) ++ migration_line j (get_or states i 0)) long

-- a line has at most ten bytes
line-short : (old new : ℕ) → old < 1000 → new < 65536 → length (migration_line old new) ≤ 10
line-short old new h g =
    let a = length-append (digits old ++ (32 ∷ [])) (digits new ++ (10 ∷ [])) in
    let b = length-append (digits old) (32 ∷ []) in
    let c = length-append (digits new) (10 ∷ []) in
    let d = digits-length 2 old (omega arith) in
    let e = digits-length 4 new (omega arith) in
    omega arith

-- ---- the text in lent bytes

-- before the line of the state i, where the lines begin at a place
pub record Writing (states : List ℕ) (start : ℕ) (out₀ out : List ℕ) (at i : ℕ) : Type 0 where
  pub begun : i ≤ length states
  pub bytes : out ≡ sets out₀ start (migrated_from 0 (take i states))
  pub place : at ≡ start + length (migrated_from 0 (take i states))
  pub short : at ≤ start + i * 10

pub writing_start : {states : List ℕ} {start : ℕ} {out : List ℕ} → Writing states start out out start 0
unfolding migrated_from
writing_start = record { begun = omega arith; bytes = refl; place = omega arith; short = omega arith }

module _ {states : List ℕ} {start : ℕ} {out₀ out : List ℕ} {at i : ℕ} (few : length states ≤ most_states) (long : length out₀ ≡ text_room) (heading : start ≡ length migration_heading)
    (t : Writing states start out₀ out at i) where
  pub writing_long : length out ≡ length out₀
  writing_long = ap length t.bytes ∙ length-sets out₀ start (migrated_from 0 (take i states))

  pub writing_inside : at ≤ length out
  writing_inside = omega (arith, t.short, t.begun, writing_long)

  module _ (inside : i < length states) (small : get_or states i 0 < 65536) {part : List ℕ} {r : ℕ}
      (a : Appends 0 (migration_line i (get_or states i 0)) (mid_of at (length out - at) out) part r) where
    abbrev next : List ℕ
    next = migration_line i (get_or states i 0)

    next-short : length next ≤ 10
    next-short = line-short i (get_or states i 0) (omega arith) small

    fits : at + length next ≤ length out
    fits = omega (arith, t.short, next-short, writing_long)

    part-long : length (mid_of at (length out - at) out) ≡ length out - at
    part-long = length-take-le (length out - at) (drop at out) (omega (arith, length-drop at out))

    line-size : r ≡ length next
    line-size = omega (arith, (a.written (omega (arith, part-long, fits))).1)

    pub line-inside : at + r ≤ length out
    line-inside = omega (arith, fits, line-size)

    pub writing_next : Writing states start out₀ (put_mid at (length out - at) out part) (at + r) (i + 1)
    writing_next =
        let text = migrated_from 0 (take i states) in
        let more = migrated-more states i inside in
        record {
          begun = omega arith;
          bytes = placed-text out at a fits ∙ ap₂ (λ l n. sets l n next) t.bytes t.place ∙ sets_append out₀ start text next ∙ ap (sets out₀ start) (sym more);
          place = omega (arith, t.place, line-size, length-append text next, ap length more);
          short = omega (arith, t.short, line-size, next-short);
        }

  pub writing_end : length states ≤ i → Appends start (migrated_from 0 states) out₀ out at
  writing_end h =
      let all = ap (migrated_from 0) (take_all i states h) in
      text-stored (omega (arith, writing_inside, writing_long, t.place, ap length all)) (t.bytes ∙ ap (sets out₀ start) all) (t.place ∙ ap (λ l. start + length l) all)

-- ---- a text or a refusal

module _ (refusal : ℕ) (states : List ℕ) where
  pub refused_output : (refusal ≡ 0 → ⊥) → refusal_line refusal ≡ migration_output refusal states
  unfolding migration_output
  refused_output d = sym (ap (λ t. cond t (migration_text states) (refusal_line refusal)) (ne_eqb refusal 0 d))

  pub given_output : refusal ≡ 0 → migration_text states ≡ migration_output refusal states
  unfolding migration_output
  given_output e = sym (ap (λ t. cond t (migration_text states) (refusal_line refusal)) (eq-eqb refusal 0 e))

-- what is written to the front of enough room
writes_text : {text out out' : List ℕ} {r : ℕ} → Appends 0 text out out' r → length text ≤ length out → Writes text out out' r
writes_text a fits = let w = a.written (omega (arith, fits)) in record { fits = fits; bytes = w.0; size = omega (arith, w.1) }

module _ {refusal : ℕ} (states : List ℕ) {out out' : List ℕ} {r : ℕ} (long : length out ≡ text_room) where
  pub refused_writes : (refusal ≡ 0 → ⊥) → refusal < 4294967296 → Appends 0 (refusal_line refusal) out out' r → Writes (migration_output refusal states) out out' r
  refused_writes d h a = subst (λ l. Writes l out out' r) (refused_output refusal states d) (writes_text a (omega (arith, refusal-length refusal h, long)))

  -- the heading, and then the lines of the states, which have room
  pub given_writes : refusal ≡ 0 → {out'' : List ℕ} {start : ℕ} → Appends 0 migration_heading out out'' start → Appends start (migrated_from 0 states) out'' out' r → r ≤ text_room
      → Writes (migration_output refusal states) out out' r
  given_writes e a b inside =
      let all = appends_then a b in
      subst (λ l. Writes l out out' r) (given_output refusal states e) (writes_text all (fits (dec_lt (length out) (0 + length (migration_text states))) all))
    where
      fits : Dec (length out < 0 + length (migration_text states)) → Appends 0 (migration_text states) out out' r → length (migration_text states) ≤ length out
      fits (yes h) all = absurd (omega (arith, all.no_room h, long, inside))
      fits (no h) all = omega arith

pub take-fewer : {X : Type 0} (n : ℕ) (l : List X) → take (min (length l) n) l ≡ take n l
take-fewer n l = by (dec_lt (length l) n)
  where
    by : Dec (length l < n) → take (min (length l) n) l ≡ take n l
    by (yes h) = take_all (min (length l) n) l (omega arith) ∙ sym (take_all n l (omega arith))
    by (no h) = let e : min (length l) n ≡ n = omega arith in ap (λ m. take m l) e

-- The first bytes, as many as there are of the text, are the text.
pub writes_front : {text out out' : List ℕ} {r : ℕ} → Writes text out out' r → take r out' ≡ text
writes_front {text} {out} w = ap₂ take w.size w.bytes ∙ written-front out text w.fits

pub writes_long : {text out out' : List ℕ} {r : ℕ} → Writes text out out' r → length out' ≡ length out
writes_long {text} {out} w = ap length w.bytes ∙ length-sets out 0 text
