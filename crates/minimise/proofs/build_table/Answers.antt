-- `minimise::build_table` meets its contract: the passes one after the other, each on what the pass before left. That the rows then hold
-- the table is in `Reducing`.
use mathlib.Core.Path.{◌≡◌, refl, sym, ◌∙◌}
use native.Mathlib.Omega.{arith}
use lib.ListN.{length}
use Rattle.refine.specs.Classes.{Refined}
use Rattle.minimise.proofs.Reducing.{classes_nameable, reduced_table}
use Rattle.minimise.proofs.build_table.Goals as goal

pub move_rows-requires-clause-nameable : goal.move_rows-requires-clause-nameable
move_rows-requires-clause-nameable c =
    let refined : Refined c.args.letters c.args.entries.now c.args.live.now c.find_finals.new.flags c.refine.new.class = (let graph = c.requires.has_word.graph in
    (c.refine.ensures.fits (record {
      few = omega (arith, graph.few_rows);
      entries_fit = graph.entries_fit;
      finals_fit = omega (arith, graph.flags_fit, c.find_finals.auto.flags);
      class_fits = c.requires.class_len.0;
      next_fits = c.find_finals.auto.pending ∙ c.requires.class_len.1;
      heads_fit = c.requires.class_len.2;
      links_fit = c.requires.class_len.3;
      envelopes_fit = c.requires.class_len.4;
    })).refined) in
    let class_length : length c.refine.new.class ≡ length c.args.live.now = c.refine.auto.class ∙ c.requires.class_len.0 in
    let next-length : length c.refine.new.next ≡ length c.args.live.now = c.refine.auto.next ∙ (c.find_finals.auto.pending ∙ c.requires.class_len.1) in
    let number = c.number_classes-count in
    classes_nameable (omega (arith, class_length, c.requires.has_word.graph.few_rows)) (number.auto.number ∙ (next-length ∙ sym class_length)) class_length refined.named number.ensures

pub returns : goal.returns
returns c =
    let refined : Refined c.args.letters c.args.entries.now c.args.live.now c.find_finals.new.flags c.refine.new.class = (let graph = c.requires.has_word.graph in
    (c.refine.ensures.fits (record {
      few = omega (arith, graph.few_rows);
      entries_fit = graph.entries_fit;
      finals_fit = omega (arith, graph.flags_fit, c.find_finals.auto.flags);
      class_fits = c.requires.class_len.0;
      next_fits = c.find_finals.auto.pending ∙ c.requires.class_len.1;
      heads_fit = c.requires.class_len.2;
      links_fit = c.requires.class_len.3;
      envelopes_fit = c.requires.class_len.4;
    })).refined) in
    let word = c.requires.has_word in
    let find = c.find_finals.ensures.fits (record { entries_fit = word.graph.entries_fit; flags_fit = word.graph.flags_fit }) c.requires.class_len.1 in
    reduced_table word.graph refl word.found (c.refine.auto.class ∙ c.requires.class_len.0) word.start find refined c.number_classes-count.ensures c.move_rows.ensures
