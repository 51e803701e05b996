-- What `migrate` prints is there for every two sheets, and is one; and what a call for the states gives between the used rows of two compiles, in a list of
-- 256 numbers, is printed so. From the one outcome of a compile in the rows lent (lend), the one outcome of such a call (carry), and the streams that are
-- told of a sheet (compiled_sheet).
use Prim.Native.Nat.{ℕ, ◌-◌}
use native.Mathlib.Omega.{arith}
use mathlib.Core.Path.{◌≡◌, refl, sym, ap, subst, transport, ◌∙◌}
use mathlib.Core.List.{List}
use lib.ListN.{length, take, replicate}
use lib.Seq.{take_at}
use Rattle.meaning.specs.Expression.{Sheet}
use Rattle.meaning.specs.Letter.{letter_count}
use Rattle.sheet.proofs.Accepted.{accepted_facts}
use Rattle.automaton.proofs.WellFormed.{well_formed-entries}
use Rattle.reader.specs.Stored.{stored_sheet}
use Rattle.outcome.specs.Compile.{CompileAnswer, Tables}
use Rattle.compiled_sheet.specs.Told.{sheet_streams}
use Rattle.compiled_sheet.proofs.Sheets.{stored_description}
use Rattle.theorems.specs.UsedRows.{used_finals}
use Rattle.lend.specs.Lend.{CompiledLent, HasOutcome, is_refused, is_compiled}
use Rattle.lend.proofs.Outcome.{compiled_unique, refused_unique, refused-not-compiled, lent_total}
use Rattle.print.specs.Text.{refusal_line}
use Rattle.given_tables.specs.Given.{SameStreams}
use Rattle.carry.specs.Carry.{LacksState, AreCarried, CarryOutcome, CarryOutcome.unfit as carry_unfit, CarryOutcome.other_streams as carry_streams, CarryOutcome.lacking as carry_lacking, CarryOutcome.short as carry_short, CarryOutcome.carried as carry_given}
use Rattle.carry.proofs.Outcome.{states_unique, carried-none-lacks, carry_total}
use Rattle.opened_tables.specs.Used.{compiled_given}
use Rattle.opening.proofs.Sizes.{few_rows}
use Rattle.opened_tables.proofs.Used.{compiled-fit, finals-long}
use Rattle.migration_text.specs.Migration.{most_states, migration_text, migration_output}
use Rattle.migration_text.proofs.Text.{refused_output, given_output}
use Rattle.show_migration.specs.Prints.{used_entry, PrintsStates, other_streams, lacking, migrated, PrintsMigration, refused_old, refused_new, compared, HasMigrationOutput}

-- ---- what is printed of two compiles

module _ {text text' : List ℕ} {s : Sheet} {a : CompileAnswer} {t : Tables} {s' : Sheet} {a' : CompileAnswer} {t' : Tables} (c : CompiledLent text s a t) (z : a.refusal ≡ 0)
    (c' : CompiledLent text' s' a' t') (z' : a'.refusal ≡ 0) where
  -- The streams that are told are those of the sheets.
  same-told : SameStreams (sheet_streams (stored_sheet s)) (sheet_streams (stored_sheet s')) → s.streams ≡ s'.streams
  same-told e = sym (stored_description s (accepted_facts c.reads)) ∙ e ∙ stored_description s' (accepted_facts c'.reads)

  told_same : s.streams ≡ s'.streams → SameStreams (sheet_streams (stored_sheet s)) (sheet_streams (stored_sheet s'))
  told_same e = stored_description s (accepted_facts c.reads) ∙ e ∙ sym (stored_description s' (accepted_facts c'.reads))

  none-lacks : {states : List ℕ} → length states ≡ a.states → AreCarried (letter_count s.streams) (used_entry s a t) (used_entry s' a' t') states
      → LacksState (letter_count s.streams) (used_entry s a t) (used_entry s' a' t') → ⊥
  none-lacks long A =
      let formed = (compiled-fit c z).well_formed in
      carried-none-lacks A (well_formed-entries formed) formed.whole.some_row (long ∙ sym (finals-long c z))

  pub states-one : {b d : List ℕ} → PrintsStates s a t s' a' t' b → PrintsStates s a t s' a' t' d → b ≡ d
  states-one (other_streams n) (other_streams m) = refl
  states-one (other_streams n) (lacking e x) = absurd (n e)
  states-one (other_streams n) (migrated e l A) = absurd (n e)
  states-one (lacking e x) (other_streams m) = absurd (m e)
  states-one (lacking e x) (lacking f y) = refl
  states-one (lacking e x) (migrated f l A) = absurd (none-lacks l A x)
  states-one (migrated e l A) (other_streams m) = absurd (m e)
  states-one (migrated e l A) (lacking f y) = absurd (none-lacks l A y)
  states-one (migrated e l A) (migrated f k B) = ap migration_text (states_unique A B (l ∙ sym k))

  -- A call for the states gives 17, 18 or the states, since both tables are fit and the list is long enough.
  pub states-printed : {n : ℕ} {list : List ℕ} → CarryOutcome (compiled_given s a t) (compiled_given s' a' t') most_states n list
      → PrintsStates s a t s' a' t' (migration_output n (take (length (used_finals a t)) list))
  states-printed (carry_unfit x) = absurd (x (compiled-fit c z, compiled-fit c' z'))
  states-printed (carry_streams f g d) = subst (PrintsStates s a t s' a' t') (refused_output 17 _ (λ e. omega arith)) (other_streams λ e. d (told_same e))
  states-printed (carry_lacking o x) = subst (PrintsStates s a t s' a' t') (refused_output 18 _ (λ e. omega arith)) (lacking (same-told o.same_streams) x)
  states-printed (carry_short o x h) = absurd (omega (arith, few_rows c z, finals-long c z))
  states-printed (carry_given {states} o long A h) =
      let front = take_at states (replicate (most_states - length (used_finals a t)) 0) (length (used_finals a t)) long in
      subst (PrintsStates s a t s' a' t') (given_output 0 states refl ∙ ap (migration_output 0) (sym front)) (migrated (same-told o.same_streams) (long ∙ finals-long c z) A)

-- ---- one outcome

pub prints_unique : {old new b d : List ℕ} → PrintsMigration old new b → PrintsMigration old new d → b ≡ d
prints_unique (refused_old r) (refused_old q) = ap refusal_line (refused_unique r q)
prints_unique (refused_old r) (refused_new c z q) = absurd (refused-not-compiled r c z)
prints_unique (refused_old r) (compared c z c' z' p) = absurd (refused-not-compiled r c z)
prints_unique (refused_new c z r) (refused_old q) = absurd (refused-not-compiled q c z)
prints_unique (refused_new c z r) (refused_new d y q) = ap refusal_line (refused_unique r q)
prints_unique (refused_new c z r) (compared d y d' y' p) = absurd (refused-not-compiled r d' y')
prints_unique (compared c z c' z' p) (refused_old q) = absurd (refused-not-compiled q c z)
prints_unique (compared c z c' z' p) (refused_new d y q) = absurd (refused-not-compiled q c' z')
prints_unique (compared {bytes = b} c z c' z' p) (compared d y d' y' q) =
    let same = compiled_unique c d in
    let same' = compiled_unique c' d' in
    states-one d y d' y' (transport (λ i. PrintsStates (same.0 i) (same.1.0 i) (same.1.1 i) (same'.0 i) (same'.1.0 i) (same'.1.1 i) b) p) q

-- ---- and always one

pub prints-total : (old new : List ℕ) → HasMigrationOutput old new
prints-total old new = go (lent_total old) (lent_total new)
  where
    go : HasOutcome old → HasOutcome new → HasMigrationOutput old new
    go (is_refused r) o = record { bytes = _; prints = refused_old r }
    go (is_compiled c z) (is_refused q) = record { bytes = _; prints = refused_new c z q }
    go (is_compiled {s} {a} {t} c z) (is_compiled {s = s'} {a = a'} {t = t'} c' z') =
        let o = carry_total (compiled_given s a t) (compiled_given s' a' t') most_states in
        record { bytes = _; prints = compared c z c' z' (states-printed c z c' z' o.2) }
