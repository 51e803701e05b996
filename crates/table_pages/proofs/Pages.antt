-- No line of a table is longer than there is room for, and there are few lines; the ranges of streams that an accepted sheet could have are numbers of the machine.
use Prim.Native.Nat.{ℕ, ◌≤◌, ◌<◌, min}
use native.Mathlib.Omega.{arith}
use mathlib.Core.Path.{◌≡◌, sym, ap, subst, ◌∙◌}
use mathlib.Core.Logic.{◌≢◌}
use mathlib.Core.List.{List}
use lib.ListN.{length, get_or, take}
use Rattle.streams.specs.declared.StreamsDescription.{StreamsDescription}
use Rattle.streams.specs.Description.{StreamsFit}
use Rattle.streams.proofs.Fit.{streams-length, lows-from, highs-from}
use Rattle.print.specs.Lines.{AllFit}
use Rattle.stored_ranges.proofs.Ranges.{lows-fit, highs-fit}
use Rattle.print.specs.Text.{refusal_line}
use Rattle.pages.specs.Lines.{line_room}
use Rattle.pages.specs.Output.{Printout, table_line, output_at, places_of, output_text}
use Rattle.pages.proofs.Output.{line-short}
use Rattle.pages.proofs.Refused.{few-places, refused-text}
use Rattle.table_pages.specs.Printout.{described_printout, RangesHeld}

-- What is printed of so many streams.
abbrev pub cut_to : StreamsDescription → (states : ℕ) (entries finals : List ℕ) (count : ℕ) → Printout
cut_to d states entries finals count =
    record { refusal = 0; states = states; names = d.names; lengths = d.lengths; lows = take count d.lows; highs = take count d.highs; entries = entries; finals = finals }

pub lines-short : (d : StreamsDescription) {refusal : ℕ} (states : ℕ) (entries finals : List ℕ) → RangesHeld d → refusal < 4294967296 → ((i : ℕ) → get_or entries i 0 < 65536)
    → ((i : ℕ) → get_or finals i 0 < 256) → length entries ≤ 32768 → (k : ℕ) → length (output_at (described_printout d refusal states entries finals) k) ≤ line_room
lines-short d {refusal} states entries finals held r e f n =
    line-short (described_printout d refusal states entries finals) r held.lows held.highs e f (omega arith)

pub few-lines : (p : Printout) → length p.entries ≤ 32768 → places_of p ≤ 32769
few-lines p h = few-places p.refusal (omega arith) (omega arith)

pub fit-held : (d : StreamsDescription) {letters : ℕ} → length d.lows ≡ 8 → length d.highs ≡ 8 → StreamsFit d letters → RangesHeld d
fit-held d lows highs fit =
    let few = fit.accepted.stream_count in
    let long = streams-length d 0 d.count in
    let all : min d.count 8 ≡ d.count = omega arith in
    record {
      lows = subst AllFit (lows-from d 0 d.count (omega arith) ∙ ap (λ n. take n d.lows) (sym all)) (lows-fit fit.accepted);
      highs = subst AllFit (highs-from d 0 d.count (omega arith) ∙ ap (λ n. take n d.highs) (sym all)) (highs-fit fit.accepted);
    }

-- With a refusal its line is all that is printed.
pub refused-is : (d : StreamsDescription) (refusal states : ℕ) (entries finals : List ℕ) → refusal ≢ 0 → output_text (described_printout d refusal states entries finals) ≡ refusal_line refusal
refused-is d refusal states entries finals n = refused-text refusal (table_line (described_printout d refusal states entries finals)) n _
