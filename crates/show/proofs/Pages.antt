-- No line that `show` writes is longer than there is room for, and there are few lines.
use Prim.Native.Nat.{ℕ, ◌≤◌, ◌<◌}
use native.Mathlib.Omega.{arith}
use mathlib.Core.List.{List}
use lib.ListN.{length, get_or, take}
use Rattle.reader.specs.declared.StoredSheet.{StoredSheet}
use Rattle.print.proofs.Lengths.{fit-take}
use Rattle.pages.specs.Lines.{line_room}
use Rattle.pages.specs.Output.{Printout, output_at, places_of}
use Rattle.pages.proofs.Output.{line-short}
use Rattle.pages.proofs.Refused.{few-places}
use Rattle.stored_ranges.specs.Ranges.{HasRanges}

-- What is printed of so many streams.
abbrev pub cut_to : StoredSheet → (refusal states : ℕ) (entries finals : List ℕ) (streams : ℕ) → Printout
cut_to stored refusal states entries finals streams =
    record {
      refusal = refusal;
      states = states;
      names = stored.names;
      lengths = stored.lengths;
      lows = take streams stored.lows;
      highs = take streams stored.highs;
      entries = entries;
      finals = finals;
    }

pub lines-short : {stored : StoredSheet} {refusal : ℕ} (states : ℕ) (entries finals : List ℕ) (streams : ℕ) → HasRanges stored → refusal < 4294967296 → ((i : ℕ) → get_or entries i 0 < 65536)
    → ((i : ℕ) → get_or finals i 0 < 256) → length entries ≤ 32768 → (k : ℕ) → length (output_at (cut_to stored refusal states entries finals streams) k) ≤ line_room
lines-short {stored} {refusal} states entries finals streams h r e f n =
    line-short (cut_to stored refusal states entries finals streams) r (fit-take streams stored.lows h.lows) (fit-take streams stored.highs h.highs) e f (omega arith)

pub few-lines : (p : Printout) → length p.entries ≤ 32768 → places_of p ≤ 32769
few-lines p h = few-places p.refusal (omega arith) (omega arith)
