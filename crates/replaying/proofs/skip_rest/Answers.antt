-- `replaying::skip_rest` meets its contract: the last byte alone tells where the reading stands (Plays).
use Prim.Native.Nat.{◌<◌}
use mathlib.Core.Path.{sym, subst}
use Rattle.replaying.specs.Machine.{PlaysChunk}
use Rattle.replaying.proofs.Plays.{plays-rest}
use Rattle.replaying.proofs.skip_rest.Goals as goal

pub ended_at-requires : goal.ended_at-requires
ended_at-requires c = tt

pub returns : goal.returns
returns c =
    let b = c in
    let chunk = b.args.chunk.now in
    let e = c.ended_at.ensures in
    (subst (λ r. b.args.from < r.next) (sym e) b.requires, λ s replay out h k. subst (PlaysChunk s replay chunk b.args.from out out) (sym e) (plays-rest s chunk h b.requires k))
