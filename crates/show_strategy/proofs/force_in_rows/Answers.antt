-- `show_strategy::force_in_rows` meets its contract: the work tables, cut to the rows, are the room of these rows, and the call leaves them zero (Room).
use mathlib.Core.Path.{◌≡◌, sym}
use native.Mathlib.Omega.{arith}
use Prim.Native.Nat.{◌*◌}
use lib.ListN.{length, take}
use lib.Seq.{length-take-le}
use Rattle.show_strategy.proofs.Room.{forced_in_rows}
use Rattle.show_strategy.proofs.force_in_rows.Goals as goal

pub returns : goal.returns
returns c =
    let keys : c.args.rows * 16 ≡ length (take (c.args.rows * 16) c.key_room-keys.result) = sym (length-take-le _ _ (omega (arith, c.requires, c.key_room-keys.ensures))) in
    let live : c.args.rows ≡ length (take c.args.rows c.work_room-live.result) = sym (length-take-le _ _ (omega (arith, c.requires, c.work_room-live.ensures))) in
    let class : c.args.rows ≡ length (take c.args.rows c.work_room-class.result) = sym (length-take-le _ _ (omega (arith, c.requires, c.work_room-class.ensures))) in
    let next : c.args.rows ≡ length (take c.args.rows c.work_room-next.result) = sym (length-take-le _ _ (omega (arith, c.requires, c.work_room-next.ensures))) in
    let heads : c.args.rows ≡ length (take c.args.rows c.work_room-heads.result) = sym (length-take-le _ _ (omega (arith, c.requires, c.work_room-heads.ensures))) in
    let links : c.args.rows ≡ length (take c.args.rows c.work_room-links.result) = sym (length-take-le _ _ (omega (arith, c.requires, c.work_room-links.ensures))) in
    let envelopes : c.args.rows ≡ length (take c.args.rows c.work_room-envelopes.result) = sym (length-take-le _ _ (omega (arith, c.requires, c.work_room-envelopes.ensures))) in
    forced_in_rows keys live class next heads links envelopes c.force.ensures
