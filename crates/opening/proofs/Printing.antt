-- What the program `replay` prints by its calls is what document 02 says of the sheet, the record and the start: the sheet that `open_table` gives is
-- passed with its lists cut to the streams, all chunks of the record are played in turn, whatever their sizes, and the record is ended. Said in the terms of
-- the calls' contracts (replaying, Machine); reads, writes and the loop of the program itself are not spoken of. From what is printed with what
-- `open_table` gives (Plays), the law of records in chunks (replaying, Chunks), and the parts of a stored sheet (stored_ranges, Passed).
use Prim.Native.Nat.{ℕ, ◌<◌}
use mathlib.Core.Path.{◌≡◌, sym, ◌∙◌, ap, subst}
use mathlib.Core.List.{List}
use mathlib.Core.Option.{Option}
use lib.ListN.{length}
use Rattle.text.specs.Bytes.{Token, lines}
use Rattle.text.specs.Lines.{all_chunks}
use Rattle.meaning.specs.Expression.{Sheet}
use Rattle.sheet.specs.Accepted.{Accepted}
use Rattle.sheet.proofs.Accepted.{accepted_facts}
use Rattle.reader.specs.declared.StoredSheet.{StoredSheet}
use Rattle.reader.specs.Stored.{stored_sheet}
use Rattle.stored_ranges.proofs.Passed.{behind_names, names-passed, lengths-passed, lows-passed, highs-passed}
use Rattle.replaying.specs.Replay.{replayed_lines}
use Rattle.replaying.specs.Machine.{played_sheet}
use Rattle.replaying.proofs.Chunks.{stored, replay-chunks}
use Rattle.opening.specs.declared.OpenedTable.{OpenedTable}
use Rattle.opening.specs.Plays.{Plays}
use Rattle.opening.specs.Opens.{OpensTable}
use Rattle.opening.specs.Printing.{passed_sheet, printed_by}
use Rattle.opening.proofs.Plays.{opened-plays}

-- ---- the stored sheet, cut to the streams

module _ (s : Sheet) (accepted : Accepted s) {x : StoredSheet} (same : x ≡ stored_sheet s) where
  passed-is-stored : (entries : List ℕ) → passed_sheet x entries ≡ stored accepted (behind_names s) entries
  passed-is-stored entries =
      let names = names-passed s accepted same in
      let lengths = lengths-passed s accepted same in
      let lows = lows-passed s accepted same in
      let highs = highs-passed s accepted same in
      λ i. played_sheet (names i) (lengths i) (lows i) (highs i) entries

  -- The record in chunks of any sizes, with fewer bytes than numbers of the machine.
  passed-prints : (entries : List ℕ) (state : ℕ) (chunks : List (List ℕ)) → length (all_chunks chunks) < 18446744073709551616
      → printed_by (passed_sheet x entries) state chunks ≡ replayed_lines s.streams entries state (lines (all_chunks chunks))
  passed-prints entries state chunks few = ap (λ k. printed_by k state chunks) (passed-is-stored entries) ∙ replay-chunks accepted (behind_names s) entries state chunks few

-- ---- the lines printed

-- "prints `line state`, then one such line per value line [..] with the state reached"; for a refusal see `refused-plays` (Plays).
pub calls_print : {text : List ℕ} {start : Option Token} {r : OpenedTable} {entries finals : List ℕ} → OpensTable text start r entries finals → r.refusal ≡ 0 → (chunks : List (List ℕ)) → length (all_chunks chunks) < 18446744073709551616
    → Plays text (all_chunks chunks) start (printed_by (passed_sheet r.sheet entries) r.state chunks)
calls_print {text} {start} {r} {entries} o z chunks few =
    let p = opened-plays o z in
    let printed = passed-prints p.source (accepted_facts p.reads) p.stored entries r.state chunks few in
    subst (Plays text (all_chunks chunks) start) (sym printed) (p.plays (all_chunks chunks))
