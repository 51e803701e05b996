-- Tables with as many numbers as so many rows take are the room of these rows, for a call with a play table too. From the same law of a compile (lend), and what
-- such a call leaves (outcome).
use Prim.Native.Nat.{ℕ, ◌*◌}
use mathlib.Core.Path.{◌≡◌, subst}
use mathlib.Core.List.{List}
use Rattle.outcome.proofs.Leaves.{force_leaves}
use Rattle.compiled_sheet.specs.declared.CompiledSheet.{CompiledSheet}
use Rattle.game.specs.Call.{ForceSheetCall}
use Rattle.lend.specs.Lend.{room_of_rows, tables_of_rows}
use Rattle.lend.proofs.Room.{sized_work, work-of-rows}

pub forced_in_rows : {text : List ℕ} {r : CompiledSheet} {m n rows keys live class next heads links envelopes size : ℕ} {entries finals play : List ℕ} {work : List (List ℕ)}
    → rows * 16 ≡ keys → rows ≡ live → rows ≡ class → rows ≡ next → rows ≡ heads → rows ≡ links → rows ≡ envelopes
    → ForceSheetCall text (record { entries = m; finals = n; work = sized_work keys live class next heads links envelopes }) size r (record { entries = entries; finals = finals; work = work }) play
    → ForceSheetCall text (room_of_rows m n rows) size r (tables_of_rows rows entries finals) play
forced_in_rows {text} {r} {m} {n} {rows} {size = size} {entries} {finals} {play} {work} hk hl hc hn hh hi hs call =
    let sized = subst (λ w. ForceSheetCall text (record { entries = m; finals = n; work = w }) size r (record { entries = entries; finals = finals; work = work }) play) (work-of-rows hk hl hc hn hh hi hs) call in
    subst (λ w. ForceSheetCall text (room_of_rows m n rows) size r (record { entries = entries; finals = finals; work = w }) play) (force_leaves sized.call).0.work_zero sized
