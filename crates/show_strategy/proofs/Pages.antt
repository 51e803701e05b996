-- No line that `show_strategy` writes is longer than there is room for, and there are few lines.
use Prim.Native.Nat.{ℕ, ◌≤◌, ◌<◌}
use native.Mathlib.Omega.{arith}
use mathlib.Core.List.{List}
use lib.ListN.{length, get_or, take}
use Rattle.reader.specs.declared.StoredSheet.{StoredSheet}
use Rattle.pages.specs.Lines.{line_room}
use Rattle.pages.proofs.Refused.{few-places}
use Rattle.play_text.specs.Output.{PlayPrintout, play_at}
use Rattle.play_text.proofs.Output.{line-short}
use Rattle.stored_ranges.specs.Ranges.{HasRanges}
use Rattle.print.proofs.Lengths.{fit-take}
use Rattle.show_strategy.specs.Shows.{play_places_of}

-- What is printed of so many streams.
abbrev pub cut_to : StoredSheet → (refusal states choices : ℕ) (entries finals play : List ℕ) (streams : ℕ) → PlayPrintout
cut_to sheet refusal states choices entries finals play streams =
    record {
      table = record { refusal = refusal; states = states; names = sheet.names; lengths = sheet.lengths; lows = take streams sheet.lows; highs = take streams sheet.highs; entries = entries; finals = finals };
      choices = choices;
      play = play;
    }

pub lines-short : {stored : StoredSheet} {refusal : ℕ} (states choices : ℕ) (entries finals play : List ℕ) (streams : ℕ) → HasRanges stored → refusal < 4294967296
    → ((i : ℕ) → get_or entries i 0 < 65536) → ((i : ℕ) → get_or finals i 0 < 256) → length entries ≤ 32768
    → (k : ℕ) → length (play_at (cut_to stored refusal states choices entries finals play streams) k) ≤ line_room
lines-short {stored} {refusal} states choices entries finals play streams h r e f n =
    line-short (cut_to stored refusal states choices entries finals play streams) r (fit-take streams stored.lows h.lows) (fit-take streams stored.highs h.highs) e f (omega arith)

pub few-lines : (p : PlayPrintout) → length p.play ≤ 32768 → play_places_of p ≤ 32769
few-lines p h = few-places p.table.refusal (omega arith) (omega arith)
