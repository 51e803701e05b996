-- `show_statistics::count_situations` meets its contract: the tables have room for as many rows as are lent, so that exploring counts the situations (Printing).
use Prim.Native.Nat.{ℕ}
use mathlib.Core.Path.{sym}
use lib.ListN.{length-replicate}
use Rattle.show_statistics.proofs.Printing.{explored-counts}
use Rattle.show_statistics.proofs.count_situations.Goals as goal

pub rows_lent-rows-requires : goal.rows_lent-rows-requires
rows_lent-rows-requires c = tt

pub key_room-keys-requires : goal.key_room-keys-requires
key_room-keys-requires c = tt

pub work_room-heads-requires : goal.work_room-heads-requires
work_room-heads-requires c = tt

pub work_room-links-requires : goal.work_room-links-requires
work_room-links-requires c = tt

pub situations-requires : goal.situations-requires
situations-requires c = tt

pub returns : goal.returns
returns c =
    explored-counts c.rows_lent-rows.ensures (sym c.key_room-keys.ensures.0) (sym c.work_room-heads.ensures.0) (sym c.work_room-links.ensures.0) (length-replicate {A = ℕ} 32768 0)
    (length-replicate {A = ℕ} 256 0) c.situations.ensures
