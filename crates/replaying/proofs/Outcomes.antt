-- What a line of values leads to, by the tests of the code, and its line at the front of lent bytes. From the definitions.
use Prim.Native.Nat.{ℕ, ◌≤◌, ◌<◌}
use native.Mathlib.Omega.{arith}
use mathlib.Core.Path.{◌≡◌, refl, sym, ◌∙◌, ap, subst}
use mathlib.Core.Bool.{Bool, true, false, cond}
use mathlib.Core.List.{List, [], ◌∷◌}
use lib.Dec.{eqb}
use lib.IntN.{pos}
use lib.ListN.{length}
use lib.Seq.{sets}
use borrow.Author.Tests.{eqb-false, eq-eqb, ne_eqb}
use Rattle.meaning.specs.Letter.{letter_count}
use Rattle.automaton.specs.Table.{no_state}
use Rattle.automaton.specs.Stored.{entry_at}
use Rattle.letters.specs.Described.{cut_count}
use Rattle.print.specs.Append.{Appends}
use Rattle.print.specs.Text.{line, decimal, refusal_line}
use Rattle.print.proofs.Lengths.{refusal-length, pair-length}
use Rattle.records.specs.declared.LineEnd.{LineEnd}
use Rattle.replaying.specs.Replay.{LineOutcome, reaches, refuses, entered}
use Rattle.replaying.specs.Machine.{PlayedSheet, stored_streams, outcome_of, led_to, HoldsOutcome}
use Rattle.replaying.specs.declared.Led.{Led}

-- ---- what the line leads to

module _ (s : PlayedSheet) (state : ℕ) (e : LineEnd) where
  abbrev entry : ℕ
  entry = entry_at (cut_count (letter_count (stored_streams s))) s.entries state e.letter

  pub led-refused : (e.refusal ≡ 0 → ⊥) → record { refusal = e.refusal; state = 0 } ≡ led_to (outcome_of s state e)
  led-refused h = ap (λ t. led_to (cond t (entered entry) (refuses e.refusal))) (sym (ne_eqb e.refusal 0 h))

  module _ (h : e.refusal ≡ 0) {next : ℕ} (f : next ≡ entry) where
    pub led-nowhere : next ≡ no_state → record { refusal = 12; state = 0 } ≡ led_to (outcome_of s state e)
    led-nowhere n =
        ap (λ t. led_to (cond t (refuses 12) (reaches entry))) (sym (eq-eqb entry no_state (sym f ∙ n)))
        ∙ ap (λ t. led_to (cond t (entered entry) (refuses e.refusal))) (sym (eq-eqb e.refusal 0 h))

    pub led-state : (next ≡ no_state → ⊥) → record { refusal = 0; state = next } ≡ led_to (outcome_of s state e)
    led-state n =
        ap (λ k. record { refusal = 0; state = k }) f
        ∙ ap (λ t. led_to (cond t (refuses 12) (reaches entry))) (sym (ne_eqb entry no_state (λ p. n (f ∙ p))))
        ∙ ap (λ t. led_to (cond t (entered entry) (refuses e.refusal))) (sym (eq-eqb e.refusal 0 h))

-- No refusal has the number 0.
pub Numbered : LineOutcome → Type 0
Numbered (reaches state) = Unit {0}
Numbered (refuses n) = n ≡ 0 → ⊥

pub outcome-numbered : (s : PlayedSheet) (state : ℕ) (e : LineEnd) → Numbered (outcome_of s state e)
unfolding Numbered
outcome-numbered s state e = by (eqb e.refusal 0) refl
  where
    enters : (next : ℕ) (t : Bool) → Numbered (cond t (refuses 12) (reaches next))
    enters next true = λ p. omega arith
    enters next false = tt

    by : (t : Bool) → eqb e.refusal 0 ≡ t → Numbered (cond t (entered (entry s state e)) (refuses e.refusal))
    by true p = enters (entry s state e) (eqb (entry s state e) no_state)
    by false p = eqb-false e.refusal 0 p

-- ---- its line

-- A line for which there is room is written whole.
pub written-line : {text out out' : List ℕ} {r : ℕ} → 32 ≤ length out → length text ≤ 32 → Appends 0 text out out' r → (r ≡ length text) × (r ≤ length out) × (out' ≡ sets out 0 text)
written-line {text} {out} {out'} {r} h l p = let w = p.written (omega arith) in let e = w.1 in (omega arith, omega arith, w.0)

module _ (o : LineOutcome) {led : Led} (f : led ≡ led_to o) {number : ℕ} {out out' : List ℕ} {r : ℕ} (h : 32 ≤ length out) where
  pub refused-line : (led.refusal ≡ 0 → ⊥) → led.refusal < 4294967296 → Appends 0 (refusal_line led.refusal) out out' r
      → HoldsOutcome number o out out' (record { ended = true; state = 0; size = r })
  refused-line n k p = by o f
    where
      by : (o' : LineOutcome) → led ≡ led_to o' → HoldsOutcome number o' out out' (record { ended = true; state = 0; size = r })
      by (reaches state) g = absurd (n (ap (λ x. x.refusal) g))
      by (refuses m) g =
          let e : led.refusal ≡ m = ap (λ x. x.refusal) g in
          let w = written-line h (refusal-length m (subst (λ x. x < 4294967296) e k)) (subst (λ x. Appends 0 (refusal_line x) out out' r) e p) in
          record { ended = refl; state = refl; size = w.0; fits = w.1; bytes = w.2 }

  pub state-line : Numbered o → led.refusal ≡ 0 → number < 18446744073709551616 → led.state < 4294967296
      → Appends 0 (line (decimal (pos number) ∷ []) (decimal (pos led.state))) out out' r → HoldsOutcome number o out out' (record { ended = false; state = led.state; size = r })
  unfolding Numbered
  state-line proper n m k p = by o f proper
    where
      by : (o' : LineOutcome) → led ≡ led_to o' → Numbered o' → HoldsOutcome number o' out out' (record { ended = false; state = led.state; size = r })
      by (reaches state) g q =
          let e : led.state ≡ state = ap (λ x. x.state) g in
          let w = written-line h (pair-length number state m (subst (λ x. x < 4294967296) e k)) (subst (λ x. Appends 0 (line (decimal (pos number) ∷ []) (decimal (pos x))) out out' r) e p) in
          record { ended = refl; state = e; size = w.0; fits = w.1; bytes = w.2 }
      by (refuses x) g q = absurd (q (sym (ap (λ y. y.refusal) g) ∙ n))
