-- The machine that counts a record, byte by byte: the bytes of a line, and what is behind a refusal. From the definitions, by induction over the bytes.
use Prim.Native.Nat.{ℕ}
use mathlib.Core.Path.{◌≡◌, refl, ◌∙◌, ap}
use mathlib.Core.Bool.{Bool, true, false, not, cond}
use mathlib.Core.List.{List, [], ◌∷◌, ◌++◌}
use lib.Dec.{eqb}
use Rattle.text.specs.Fold.{run_bytes}
use Rattle.records.specs.Machine.{line_byte}
use Rattle.record_names.specs.Machine.{names_byte}
use Rattle.records.specs.declared.LineState.{LineState}
use Rattle.record_names.specs.declared.NamesState.{NamesState}
use Rattle.record_lines.proofs.Runs.{begun_by, begun-stays, text-end, text-other}
use Rattle.tally.specs.declared.TallyStage.{TallyStage}
use Rattle.tally.specs.declared.TallyStage.TheVariants.{Names, Values, Refused}
use Rattle.tally.specs.Machine.{CountedSheet, Counting, counting, tally_at, counted_streams, counted_name, byte_counted, stage_ended, line_counted, count_byte, last_counted}

module _ (s : CountedSheet) where
  abbrev at : Bool → TallyStage → List ℕ → Counting
  at g stage counts = counting (tally_at g stage) counts

  -- ---- the bytes of a line

  pub names-run : (l : List ℕ) (g : Bool) (x : NamesState) (counts : List ℕ)
      → run_bytes (byte_counted s) (at g (Names x) counts) l ≡ at (begun_by g l) (Names (run_bytes (names_byte (counted_name s)) x l)) counts
  names-run [] g x counts = refl
  names-run (b ∷ l) g x counts =
      names-run l true (names_byte (counted_name s) x b) counts
      ∙ ap (λ g'. at g' (Names (run_bytes (names_byte (counted_name s)) (names_byte (counted_name s) x b) l)) counts) (begun-stays l)

  pub values-run : (l : List ℕ) (g : Bool) (x : LineState) (n : ℕ) (counts : List ℕ)
      → run_bytes (byte_counted s) (at g (Values x n) counts) l ≡ at (begun_by g l) (Values (run_bytes (line_byte (counted_streams s)) x l) n) counts
  values-run [] g x n counts = refl
  values-run (b ∷ l) g x n counts =
      values-run l true (line_byte (counted_streams s) x b) n counts
      ∙ ap (λ g'. at g' (Values (run_bytes (line_byte (counted_streams s)) (line_byte (counted_streams s) x b) l) n) counts) (begun-stays l)

  pub refused-run : (l : List ℕ) (g : Bool) (n : ℕ) (counts : List ℕ) → run_bytes (byte_counted s) (at g (Refused n) counts) l ≡ at (begun_by g l) (Refused n) counts
  refused-run [] g n counts = refl
  refused-run (b ∷ l) g n counts = refused-run l true n counts ∙ ap (λ g'. at g' (Refused n) counts) (begun-stays l)

  -- ---- behind a refusal

  refused-byte : (g : Bool) (n : ℕ) (counts : List ℕ) (b : ℕ) → count_byte s (at g (Refused n) counts) b ≡ at (not (eqb b 10)) (Refused n) counts
  unfolding count_byte
  refused-byte g n counts b = by (eqb b 10) refl
    where
      by : (t : Bool) → eqb b 10 ≡ t → count_byte s (at g (Refused n) counts) b ≡ at (not t) (Refused n) counts
      by true e = text-end (byte_counted s) (line_counted s) (at g (Refused n) counts) b e
      by false e = text-other (byte_counted s) (line_counted s) (at g (Refused n) counts) b e

  -- A last byte, after any others.
  pub refused-bytes : (l : List ℕ) (g : Bool) (n : ℕ) (counts : List ℕ) (b : ℕ)
      → run_bytes (count_byte s) (at g (Refused n) counts) (l ++ (b ∷ [])) ≡ at (not (eqb b 10)) (Refused n) counts
  refused-bytes [] g n counts b = refused-byte g n counts b
  refused-bytes (a ∷ l) g n counts b =
      ap (λ c. run_bytes (count_byte s) c (l ++ (b ∷ []))) (refused-byte g n counts a) ∙ refused-bytes l (not (eqb a 10)) n counts b

  -- A refusal stays, whatever follows, and at the end of the record.
  pub refused-stays : (l : List ℕ) (c : Counting) {n : ℕ} → c.tally.stage ≡ Refused n → (run_bytes (count_byte s) c l).tally.stage ≡ Refused n
  refused-stays [] c e = e
  refused-stays (b ∷ l) c {n} e =
      refused-stays l (count_byte s c b)
      (ap (λ stage. (count_byte s (at c.tally.begun stage c.counts) b).tally.stage) e ∙ ap (λ x. x.tally.stage) (refused-byte c.tally.begun n c.counts b))

  pub refused-last : (c : Counting) {n : ℕ} → c.tally.stage ≡ Refused n → (last_counted s c).tally.stage ≡ Refused n
  unfolding last_counted
  refused-last c {n} e = by c.tally.begun
    where
      by : (t : Bool) → (cond t (line_counted s c) c).tally.stage ≡ Refused n
      by true = ap (stage_ended s) e
      by false = e
