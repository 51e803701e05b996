-- Rows of one signature: an equivalence; where envelopes hold all classes, rows have one signature where they have one class, one envelope and the same classes in it,
-- and rows of one signature have one hash.
use mathlib.Core.Path.{◌≡◌, refl, sym, ap, ap₂, ◌∙◌}
use mathlib.Core.List.{List}
use Prim.Native.Nat.{ℕ, zero, suc, ◌+◌, ◌*◌, ◌-◌, ◌<◌}
use native.Mathlib.Omega.{arith}
use native.Mathlib.Decide.{ℕ_discrete, dec_lt}
use lib.ListN.{get_or, length}
use Rattle.marks.specs.Marks.{Marked, target}
use Rattle.row_envelopes.specs.Envelopes.{envelope_begin, envelope_end, Enveloped}
use Rattle.row_envelopes.proofs.Laws.{envelope_once, envelope_within, before_envelope, behind_envelope}
use Rattle.refine.specs.Classes.{IsNamed}
use Rattle.refine.specs.Signatures.{class_after, SameSignature, mixed, hash, signature_bucket, row_bucket, EnvelopedClasses}

module _ {letters : ℕ} {entries class : List ℕ} where
  pub signature_refl : {p : ℕ} → SameSignature letters entries class p p
  signature_refl = record { here = refl; after = λ a h. refl }

  pub signature_sym : {p q : ℕ} → SameSignature letters entries class p q → SameSignature letters entries class q p
  signature_sym s = record { here = sym s.here; after = λ a h. sym (s.after a h) }

  pub signature_trans : {p q r : ℕ} → SameSignature letters entries class p q → SameSignature letters entries class q r → SameSignature letters entries class p r
  signature_trans s t = record { here = s.here ∙ t.here; after = λ a h. s.after a h ∙ t.after a h }

pub hash-step : (f : ℕ → ℕ) (first a : ℕ) → hash f first (suc a) ≡ mixed (hash f first a) (f a)
unfolding hash
hash-step f first a = refl

pub hash-start : (f : ℕ → ℕ) (first : ℕ) → hash f first 0 ≡ first
unfolding hash
hash-start f first = refl

pub hash-same : (f g : ℕ → ℕ) (first n : ℕ) → ((a : ℕ) → a < n → f a ≡ g a) → hash f first n ≡ hash g first n
unfolding hash
hash-same f g first zero e = refl
hash-same f g first (suc n) e = ap₂ mixed (hash-same f g first n (λ a h. e a (omega arith))) (e n (omega arith))

-- a class after a letter of a part of a row, counted from the part's start
part-letter : (entries class : List ℕ) (start b a : ℕ) → class_after entries class (start + b) a ≡ class_after entries class start (b + a)
part-letter entries class start b a = ap (λ x. get_or class (get_or entries x 0) 0) (omega arith)

module _ {letters : ℕ} {entries class envelopes : List ℕ} (z : EnvelopedClasses letters entries class envelopes) {p q : ℕ} (hp : p < length class) (hq : q < length class) where
  abbrev begin : ℕ
  begin = envelope_begin letters (get_or envelopes q 0)

  abbrev end : ℕ
  end = envelope_end letters (get_or envelopes q 0)

  -- rows of one signature have the same classes in the envelope
  pub same_in_envelope : SameSignature letters entries class p q → (a : ℕ) → a < end - begin → class_after entries class (p * letters + begin) a ≡ class_after entries class (q * letters + begin) a
  same_in_envelope s a h = part-letter entries class (p * letters) begin a ∙ (s.after (begin + a) (omega (arith, h, envelope_within letters (get_or envelopes q 0))) ∙ sym (part-letter entries class (q * letters) begin a))

  -- rows of one class and one envelope with the same classes in it have one signature
  pub envelope_same : get_or class p 0 ≡ get_or class q 0 → get_or envelopes p 0 ≡ get_or envelopes q 0
      → ((a : ℕ) → a < end - begin → class_after entries class (p * letters + begin) a ≡ class_after entries class (q * letters + begin) a) → SameSignature letters entries class p q
  envelope_same e f g = record { here = e; after = λ a h. after a h (dec_lt a begin) (dec_lt a end) }
    where
      after : (a : ℕ) → a < letters → Dec (a < begin) → Dec (a < end) → class_after entries class (p * letters) a ≡ class_after entries class (q * letters) a
      after a h (yes l) r = z.before p a hp (rw f l) ∙ sym (z.before q a hq l)
      after a h (no l) (no r) = z.behind p a hp (rw f (omega arith)) h ∙ sym (z.behind q a hq (omega arith) h)
      after a h (no l) (yes r) =
          let i : begin + (a - begin) ≡ a = omega arith in
          let x = sym (part-letter entries class (p * letters) begin (a - begin)) ∙ (g (a - begin) (omega arith) ∙ part-letter entries class (q * letters) begin (a - begin)) in
          rw i at x

  -- rows of one signature have one bucket
  pub bucket_same : (count : ℕ) → SameSignature letters entries class p q → row_bucket count letters entries class envelopes p ≡ row_bucket count letters entries class envelopes q
  bucket_same count s =
      let e = z.alike p q hp hq s in
      let number = get_or envelopes q 0 in
      ap (signature_bucket count)
      (ap (λ m. hash (class_after entries class (p * letters + envelope_begin letters m)) (mixed (get_or class p 0) m) (envelope_end letters m - envelope_begin letters m)) e
      ∙ (hash-same (class_after entries class (p * letters + begin)) (class_after entries class (q * letters + begin)) (mixed (get_or class p 0) number) (end - begin) (same_in_envelope s)
      ∙ ap (λ x. hash (class_after entries class (q * letters + begin)) (mixed x number) (end - begin)) s.here))

-- the envelopes of live rows hold all classes, where the live rows are those that have one
pub enveloped-classes : {letters : ℕ} {entries live class envelopes : List ℕ} → length class ≡ length live → IsNamed live class → Enveloped letters entries live envelopes (length live) → EnvelopedClasses letters entries class envelopes
enveloped-classes {letters} {entries} {live} {class} {envelopes} e N S = record {
  before = λ s a h l. N.none (target letters entries s a) (before_envelope (S s (omega arith)) a l);
  behind = λ s a h l k. N.none (target letters entries s a) (behind_envelope (S s (omega arith)) a l k);
  alike = λ s t h k q. envelope_once (S s (omega arith)) (S t (omega arith)) (λ a l. carried (target letters entries s a) (target letters entries t a) (q.after a l)) (λ a l. carried (target letters entries t a) (target letters entries s a) (sym (q.after a l)));
}
  where
    carried : (u v : ℕ) → get_or class u 0 ≡ get_or class v 0 → Marked live u → Marked live v
    carried u v c m = elim (ℕ_discrete (get_or live v 0) 1) [ yes n ↦ n | no n ↦ absurd (omega (arith, N.some u m, N.none v n)) ]
