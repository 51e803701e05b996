-- How long the text of an entry can be: at most 256 bytes.
use Prim.Native.Nat.{ℕ, ◌/◌, ◌%◌, ◌≤◌, ◌<◌}
use native.Mathlib.Omega.{arith}
use native.Mathlib.Nat.{div-le_self}
use mathlib.Core.List.{List}
use lib.IntN.{ℤ}
use lib.ListN.{length, get_or}
use Rattle.basics.proofs.Reflects.{from_true}
use Rattle.meaning.specs.Letter.{letter_count, letter_of}
use Rattle.meaning.proofs.Letter.{letter_of-letter}
use Rattle.nodes.proofs.Record.{letter-length}
use Rattle.automaton.specs.Table.{no_state}
use Rattle.letters.specs.Described.{described}
use Rattle.letters.proofs.Streams.{letter_reflects}
use Rattle.print.specs.Lines.{AllFit}
use Rattle.print.proofs.Lengths.{entry_length, letter-fits}
use Rattle.table_text.specs.Table.{place_text}
use Rattle.table_text.proofs.Places.{place-cases}

pub place-length : (lows highs : List ℤ) (entries finals : List ℕ) (place : ℕ) → AllFit lows → AllFit highs → get_or entries place no_state < 65536
    → ((state : ℕ) → get_or finals state 0 < 256) → place < 18446744073709551616 → length (place_text lows highs entries finals place) ≤ 256
place-length lows highs entries finals place f g e b p =
    let ss = described lows highs in
    let n = place % letter_count ss in
    place-cases lows highs entries finals place (λ l. length l ≤ 256) (omega arith) λ h.
    let d = div-le_self place (letter_count ss) in
    let t = from_true (letter_reflects ss n 8) h in
    let m = letter_of-letter ss n t.known in
    let k = letter-length m in
    entry_length (place / letter_count ss) (get_or finals (place / letter_count ss) 0) (letter_of ss n) (get_or entries place no_state) (omega arith) (b (place / letter_count ss))
    (letter-fits lows highs (letter_of ss n) f g m) (omega arith) e
