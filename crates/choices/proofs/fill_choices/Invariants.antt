-- `choices::fill_choices` meets its contract, letter by letter. The loop's invariant: the choices of the letters before this one are written.
use Rattle.streams.specs.Description.{description_of}
use Rattle.choices.proofs.Filling.{Filling}
use Rattle.choices.proofs.fill_choices.Given as goal

abbrev pub invariant-loop-letter : goal.invariant-loop-letter
invariant-loop-letter l = Filling (description_of l.streams) l.initial.out l.out l.letter
