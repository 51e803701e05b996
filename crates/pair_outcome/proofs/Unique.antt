-- What is given of two tables together is one. From that of a set of words (outcome).
use mathlib.Core.Path.{◌≡◌, refl}
use Rattle.automaton.specs.Join.{TwoTables}
use Rattle.outcome.specs.Compile.{CompileAnswer, Room, Tables}
use Rattle.outcome.proofs.CompileUnique.{words_unique}
use Rattle.pair_outcome.specs.Outcome.{PairTableOutcome, unsettled, given}

pub pair_unique : {T : TwoTables} {room : Room} {a b : CompileAnswer} {t u : Tables} → PairTableOutcome T room a t → PairTableOutcome T room b u → (a ≡ b) × (t ≡ u)
pair_unique (unsettled c n) (unsettled d m) = (refl, refl)
pair_unique (unsettled {m} c n) (given f w) = absurd (n (f m c))
pair_unique (given f w) (unsettled {m} c n) = absurd (n (f m c))
pair_unique (given f w) (given g v) = words_unique w v
