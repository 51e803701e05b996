-- `input::read_full` meets its contract: what one read puts behind the bytes at the front are those that the source had next. From the laws of known bytes
-- and of a write to a part of a slice.
use Rattle.std.proofs.Common.{◌≡◌, ◌-◌, ◌++◌, rules, arith, length, take, append-nil, ap, ◌∙◌, subst}
use Rattle.std.specs.Io.KnownBytes.{Consumes}
use Rattle.std.proofs.KnownBytes.{Consumes-nil, Consumes-trans, Consumes-kept}
use Rattle.input.proofs.Reading.{front_kept, front_more}
use Rattle.input.proofs.read_full.Goals as goal

pub loop-size-init : goal.loop-size-init
loop-size-init g c = record { within = omega arith; next = Consumes-nil _ }

pub loop-size-preserved : goal.loop-size-preserved
loop-size-preserved g c =
    let l = c.loop-size in
    record {
      within = search rules;
      next = subst (Consumes _ _) (front_more l.size (length l.bytes - l.size) c.in-Ok.count l.bytes c.read.new.buf l.invariant.within c.in-Ok.ensures.bound.0) (Consumes-trans _ _ _ _ _ l.invariant.next c.in-Ok.ensures.bytes.0);
    }

pub returns-after-loop-size : goal.returns-after-loop-size
returns-after-loop-size g c = c.loop-size.invariant

pub returns-in-Ok-eq0 : goal.returns-in-Ok-eq0
returns-in-Ok-eq0 g c =
    let l = c.loop-size in
    let nothing : take l.size l.bytes ++ take c.in-Ok-eq0.field-0 c.read.new.buf ≡ take l.size l.bytes = ap (λ n. take l.size l.bytes ++ take n c.read.new.buf) c.in-Ok-eq0.field-0-test ∙ append-nil _ in
    record {
      within = search rules;
      next = subst (Consumes _ _) (nothing ∙ front_kept l.size (length l.bytes - l.size) l.bytes c.read.new.buf l.invariant.within) (Consumes-trans _ _ _ _ _ l.invariant.next c.in-Ok-eq0.ensures.bytes.0);
    }

pub returns-in-Err : goal.returns-in-Err
returns-in-Err g c =
    let l = c.loop-size in
    record {
      within = search rules;
      next = subst (Consumes _ _) (front_kept l.size (length l.bytes - l.size) l.bytes c.read.new.buf l.invariant.within) (Consumes-kept _ _ _ _ l.invariant.next c.in-Err.ensures.bytes);
    }
