-- `course::write_course` meets its contract: the costs are known once `find_costs` has stored them, so `follow` writes the best course.
use mathlib.Core.Path.{sym}
use Prim.Native.Nat.{◌<◌}
use native.Mathlib.Omega.{arith}
use lib.ListN.{length}
use Rattle.basics.specs.Lists.{at}
use Rattle.automaton.specs.Stored.{final_at}
use Rattle.automaton.specs.WellFormed.{most_rows}
use Rattle.automaton.specs.Layers.{IsGoal}
use Rattle.course.specs.Queue.{IsMet}
use Rattle.course.proofs.Goal.{goal-some, goal-few}
use Rattle.course.proofs.Outcome.{filled-length, filled-part}
use Rattle.course.proofs.write_course.Goals as goal

pub find_costs-requires : goal.find_costs-requires
find_costs-requires c =
    let short : c.args.met.goal < most_rows = goal-few c.requires.searched.ended.is_queue c.requires.whole_table.few_rows c.requires.finals_len.3 c.requires.searched.goal_below in
    let start = c in
    let sizes = start.requires.finals_len in
    record { whole_table = start.requires.whole_table; finals_len = (sizes.0, sizes.1, sizes.2, short, sizes.5); queue = start.requires.searched.ended.is_queue }

pub slice_bounds-follow-end : goal.slice_bounds-follow-end
slice_bounds-follow-end c =
    let start = c in
    sym (filled-length start.args.letters 1024 0 start.requires.finals_len.6)

pub follow-requires : goal.follow-requires
follow-requires c =
    let short : c.args.met.goal < most_rows = goal-few c.requires.searched.ended.is_queue c.requires.whole_table.few_rows c.requires.finals_len.3 c.requires.searched.goal_below in
    let is-goal : IsGoal (final_at c.args.finals.now) (IsMet (length c.args.layers.now) (at c.args.layers.now)) (at c.args.layers.now) c.args.met.goal = goal-some c.requires.searched.ended.is_queue c.requires.whole_table.few_rows c.requires.finals_len.3 c.requires.searched.goal_below in
    let start = c in
    let sizes = start.requires.finals_len in
    let costs = c.find_costs in
    record {
      whole_table = start.requires.whole_table;
      finals_len = (sizes.0, omega (arith, sizes.2, costs.auto.costs), sizes.4, short, sizes.5, sizes.6, filled-part start.args.letters 1024 0 sizes.6);
      layers = start.requires.searched.ended.is_layers;
      goal = is-goal;
      are_known = costs.ensures;
    }

pub returns : goal.returns
returns c = c.follow.ensures
