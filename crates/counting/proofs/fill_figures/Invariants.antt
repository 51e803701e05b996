-- `counting::fill_figures` meets its contract: before each turn the counts are those for `t` letters, and the figures up to `t` stand in the lists (Figures).
use Rattle.counting.specs.Counting.{any_state, has_final_byte}
use Rattle.counting.proofs.Figures.{FillingFrom}
use Rattle.counting.proofs.fill_figures.Given as goal

abbrev pub invariant-loop-t : goal.invariant-loop-t
invariant-loop-t l = FillingFrom l.letters l.entries (λ finals. any_state) l.t l.initial.counts l.counts l.initial.figures l.figures
    × FillingFrom l.letters l.entries has_final_byte l.t l.initial.final_counts l.final_counts l.initial.final_figures l.final_figures
