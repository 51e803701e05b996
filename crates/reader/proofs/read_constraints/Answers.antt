-- `reader::read_constraints` meets its contract: the tables and counts are those after the lines before the loop's place.
use mathlib.Core.Path.{refl}
use native.Mathlib.Omega.{arith}
use lib.Dec.{eqb}
use borrow.Author.Tests.{not-true, not-false}
use Rattle.scan.proofs.Lines.{line-within}
use Rattle.reader.proofs.Constraints.{at_most_one, line_read, line-missing, sofar_start, line-fits, count_low, sofar_missing, sides-low, sofar_step, sofar_end}
use Rattle.reader.proofs.read_constraints.Goals as goal

pub loop-at-init : goal.loop-at-init
loop-at-init c = sofar_start _ _ _ _ _ _ c.requires

pub slice_bounds-parse_constraint-count : goal.slice_bounds-parse_constraint-count
slice_bounds-parse_constraint-count c = let w = line-within c.next_line-line.ensures c.loop-at.invariant.within in let f = w.forward in let o = w.ordered in let i = w.within in omega arith

pub slice_bounds-parse_constraint-start : goal.slice_bounds-parse_constraint-start
slice_bounds-parse_constraint-start c = let w = line-within c.next_line-line.ensures c.loop-at.invariant.within in let f = w.forward in let o = w.ordered in let i = w.within in omega arith

pub slice_bounds-parse_constraint-end : goal.slice_bounds-parse_constraint-end
slice_bounds-parse_constraint-end c = let w = line-within c.next_line-line.ensures c.loop-at.invariant.within in let f = w.forward in let o = w.ordered in let i = w.within in omega arith

pub overflow_add-count : goal.overflow_add-count
overflow_add-count c =
    let line = c in
    let s = count_low line.loop-at.invariant line.loop-at-test.true line.next_line-line.ensures in
    omega arith

pub overflow_add-untils : goal.overflow_add-untils
overflow_add-untils c =
    let line = c in
    let s = count_low line.loop-at.invariant line.loop-at-test.true line.next_line-line.ensures in
    let u = line.loop-at.invariant.untils in
    let o = at_most_one (eqb c.parse_constraint-read.result.relation 7) c.until_count-untils.ensures in
    omega arith

pub loop-at-smaller : goal.loop-at-smaller
loop-at-smaller c =
    let line = c in
    let w = line-within line.next_line-line.ensures line.loop-at.invariant.within in
    let f = w.further line.loop-at-test.true in
    let i = w.within in
    omega arith

pub returns : goal.returns
returns c = sofar_end c.loop-at.invariant c.loop-at-test.false

pub loop-at-preserved : goal.loop-at-preserved
loop-at-preserved c =
    let line = c in
    let put = c.put_constraint.ensures in
    sofar_step line.loop-at.invariant line.loop-at-test.true line.next_line-line.ensures (line_read c.parse_constraint-read.ensures.constraint_outcome (not-false _ c.if-not-read.false)) put.0 put.1 put.2 c.until_count-untils.ensures refl

pub put_constraint-requires : goal.put_constraint-requires
put_constraint-requires c =
    let line = c in
    let s = sides-low line.loop-at.invariant line.loop-at-test.true line.next_line-line.ensures (line_read c.parse_constraint-read.ensures.constraint_outcome (not-false _ c.if-not-read.false)) in
    (count_low line.loop-at.invariant line.loop-at-test.true line.next_line-line.ensures, s.0, s.1)

pub returns-then-not-read : goal.returns-then-not-read
returns-then-not-read c =
    let line = c in
    sofar_missing line.loop-at.invariant line.loop-at-test.true line.next_line-line.ensures (line-missing c.parse_constraint-read.ensures.constraint_outcome (line-fits line.loop-at.invariant line.loop-at-test.true line.next_line-line.ensures) (not-true _ c.if-not-read.true)) c.no_constraints.ensures
