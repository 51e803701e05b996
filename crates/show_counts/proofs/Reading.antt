-- What `show_input` prints for the bytes that reads of the input gave. From what is kept of an input (first_line, Input), the reads one after the other (reads,
-- Chunks) and the one outcome (Prints).
use Prim.Native.Nat.{ℕ, ◌≤◌, ◌<◌}
use native.Mathlib.Omega.{arith}
use mathlib.Core.Path.{◌≡◌, refl, sym, subst, transport}
use mathlib.Core.Logic.{inl, inr}
use mathlib.Core.Bool.{Bool, true, false, cond}
use mathlib.Core.List.{List, [], ◌∷◌, ◌++◌}
use mathlib.Core.Option.{Option, none, some}
use lib.Dec.{eqb}
use lib.ListN.{length, take, length-append, length-take}
use borrow.Author.Tests.{leb-true, leb-false}
use Rattle.sheet.specs.Refusal.{byte_bound}
use Rattle.text.specs.Fold.{run_bytes}
use Rattle.reads.specs.declared.ReadEnd.{ReadEnd}
use Rattle.reads.specs.declared.ReadEnd.TheVariants.{Complete, Stopped, Incomplete}
use Rattle.reads.specs.Chunks.{ChunkRead, read_text, ReadsUntilStop, ReadsAll}
use Rattle.reads.proofs.Chunks.{Ended, at_stop, at_end, at_failure, at_most, reading-ended}
use Rattle.first_line.specs.declared.Taken.{Taken}
use Rattle.first_line.specs.Input.{line_before, text_behind, number_in}
use Rattle.first_line.specs.Machine.{told_number, number_line_end, kept_bytes, KeptInput, keeping, taken_start, keep_byte}
use Rattle.first_line.proofs.Input.{TakenFrom, input-taken}
use Rattle.show_counts.specs.declared.ShownInput.{ShownInput}
use Rattle.show_counts.specs.Prints.{PrintsCounts, PrintsFor}
use Rattle.show_counts.specs.Shows.{number_given, ShowsRecordCounts, PrintsInput, complete, stopped, incomplete, StopsAtBound, ShowsInput, is_full, or_nothing}
use Rattle.show_counts.proofs.Prints.{counts_unique, cut-number, cut-text, too_large}

-- A longer input has no fewer bytes behind its line.
behind-longer : (input rest : List ℕ) → length (text_behind input) ≤ length (text_behind (input ++ rest))
unfolding text_behind
behind-longer [] rest = omega arith
behind-longer (b ∷ bs) rest = by (eqb b 10) (behind-longer bs rest)
  where
    by : (t : Bool) → length (text_behind bs) ≤ length (text_behind (bs ++ rest)) → length (cond t bs (text_behind bs)) ≤ length (cond t (bs ++ rest) (text_behind (bs ++ rest)))
    by true again = omega (arith, length-append bs rest)
    by false again = again

-- The bytes that are printed for what is kept of an input are those that the input prints.
pub taken-prints : {input : List ℕ} {taken : Taken} {sheet bytes : List ℕ} → TakenFrom input kept_bytes (keeping taken sheet)
    → PrintsCounts (number_given (number_line_end taken.line)) (take taken.size sheet) bytes → PrintsFor input bytes
taken-prints {input} {bytes = bytes} of p =
    cut-text (number_in (line_before input)) (text_behind input) (uncut (number_in (line_before input)) (transport (λ i. PrintsCounts (number_given (of.number_is i)) (of.text_is i) bytes) p))
  where
    uncut : (o : Option ℕ) {x b : List ℕ} → PrintsCounts (number_given (told_number o)) x b → PrintsCounts o x b
    uncut none q = q
    uncut (some m) q = cut-number m q

-- As many bytes are kept as there is room for exactly if the sheet has too many.
full_large : {input : List ℕ} {s : KeptInput} → TakenFrom input kept_bytes s → is_full s ≡ true → byte_bound < length (text_behind input)
full_large {input} {s} of e = omega (arith, leb-true kept_bytes s.taken.size e, of.size_is, length-take kept_bytes (text_behind input))

not_full : {input : List ℕ} {s : KeptInput} → TakenFrom input kept_bytes s → is_full s ≡ false → length (text_behind input) ≤ byte_bound
not_full {input} {s} of e = omega (arith, leb-false kept_bytes s.taken.size e, of.size_is, length-take kept_bytes (text_behind input))

module _ (lent : List ℕ) (room : length lent ≡ kept_bytes) {taken : Taken} {sheet : List ℕ} {p : ReadEnd} (all : ReadsAll keep_byte is_full (keeping taken_start lent) (keeping taken sheet) p) where
  abbrev chunks : List ChunkRead
  chunks = all.reads.chunks

  abbrev input : List ℕ
  input = read_text chunks

  of-input : (text : List ℕ) {s : KeptInput} → s ≡ run_bytes keep_byte (keeping taken_start lent) text → TakenFrom text kept_bytes s
  of-input text e = subst (TakenFrom text kept_bytes) (sym e) (subst (λ n. TakenFrom text n (run_bytes keep_byte (keeping taken_start lent) text)) room (input-taken lent text))

  taken-from : TakenFrom input kept_bytes (keeping taken sheet)
  taken-from = of-input input all.reads.run

  stops-at-bound : StopsAtBound chunks
  stops-at-bound = by chunks all.reads.stopped
    where
      by : (rs : List ChunkRead) → ReadsUntilStop keep_byte is_full (keeping taken_start lent) rs → StopsAtBound rs
      by [] st = tt
      by (r ∷ rs) st = (st.0, not_full (of-input (read_text rs) refl) st.1)

  module _ {bytes : List ℕ} (prints : PrintsCounts (number_given (number_line_end (or_nothing taken p).line)) (take (or_nothing taken p).size sheet) bytes) where
    -- What is printed, by how the reading ended.
    prints_as : (ended : ReadEnd) → p ≡ ended → PrintsCounts (number_given (number_line_end (or_nothing taken ended).line)) (take (or_nothing taken ended).size sheet) bytes
    prints_as ended e = subst (λ x. PrintsCounts (number_given (number_line_end (or_nothing taken x).line)) (take (or_nothing taken x).size sheet) bytes) e prints

    not-read : p ≡ Incomplete → PrintsFor [] bytes
    not-read e = taken-prints {sheet = lent} (of-input [] refl) (prints_as Incomplete e)

    at-stop : is_full (keeping taken sheet) ≡ true → p ≡ Stopped → (rest : List ℕ) → PrintsFor (input ++ rest) bytes
    at-stop full e rest =
        let large = full_large taken-from full in
        let one = counts_unique (too_large large) (taken-prints taken-from (prints_as Stopped e)) in
        subst (PrintsFor (input ++ rest)) one (too_large (omega (arith, behind-longer input rest)))

    pub input-prints : PrintsInput chunks p bytes
    input-prints = by (reading-ended keep_byte is_full (keeping taken_start lent) all)
      where
        as_ended : (ended : ReadEnd) → p ≡ ended → PrintsInput chunks ended bytes → PrintsInput chunks p bytes
        as_ended ended e x = subst (λ y. PrintsInput chunks y bytes) (sym e) x

        by : Ended keep_byte is_full (keeping taken_start lent) (keeping taken sheet) chunks p → PrintsInput chunks p bytes
        by (at_stop full e) = as_ended Stopped e (stopped (at-stop full e))
        by (at_end full q e) = as_ended Complete e (complete q (taken-prints taken-from (prints_as Complete e)))
        by (at_failure full {k} q e) = as_ended Incomplete e (incomplete (inl (k, q)) (not-read e))
        by (at_most full most {k} q e) = as_ended Incomplete e (incomplete (inr (most, (k, q))) (not-read e))

  pub input-shown : {r : ShownInput} → r.ended ≡ p → ShowsRecordCounts (number_given (number_line_end (or_nothing taken p).line)) (take (or_nothing taken p).size sheet) r.handed → ShowsInput r
  input-shown e shown =
      record {
        reads = chunks;
        most = omega (arith, all.reads.all);
        stops = stops-at-bound;
        bytes = shown.bytes;
        prints = subst (λ x. PrintsInput chunks x shown.bytes) (sym e) (input-prints shown.prints);
        hands = shown.hands;
      }
