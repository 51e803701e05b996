-- Steps along worked tables of document 01 (P4 and P6), and along damaged ones: each case's answer is the answer of its step.
-- One test is computed over all cases, and one law makes the statement of each case of it.
use Prim.Native.Nat.{ℕ}
use mathlib.Core.Bool.{Bool, true, ◌&&◌}
use mathlib.Core.List.{List, [], ◌∷◌}
use lib.Dec.{T, eqb, eqb→eq}
use Rattle.basics.proofs.Tests.{T_and}
use Rattle.stored.specs.Number.{number_at}
use Rattle.step.specs.Step.{StepAnswer}
use Rattle.step.specs.Executable.{is_refusal11, is_refusal12, step_of}
use Rattle.step.proofs.Answers.{answer↔stepOf}

pub record Case : Type 0 where
  pub table : List ℕ
  pub letters : ℕ
  pub state : ℕ
  pub letter : ℕ
  pub answer : ℕ

abbrev right : Case → Bool
right c = eqb c.answer (step_of c.table c.letters c.state c.letter)

abbrev all_right : List Case → Bool
all_right [] = true
all_right (c ∷ cases) = right c && all_right cases

-- every case's answer is the answer of its step
abbrev pub Answered : List Case → Type 0
Answered [] = Unit {0}
Answered (c ∷ cases) = StepAnswer c.table c.letters c.state c.letter c.answer × Answered cases

answered : (cases : List Case) → T (all_right cases) → Answered cases
answered [] ok = tt
answered (c ∷ cases) ok =
    let parts = (T_and (right c) (all_right cases)).0 ok in (
      (answer↔stepOf c.table c.letters c.state c.letter c.answer).0 (eqb→eq c.answer (step_of c.table c.letters c.state c.letter) parts.0),
      answered cases parts.1,
    )

-- P4, `x until y`: "entries 65535 1 0 1, then 1 1 1 1"
abbrev table_of_p4 : List ℕ
table_of_p4 = 255 ∷ 255 ∷ 1 ∷ 0 ∷ 0 ∷ 0 ∷ 1 ∷ 0 ∷ 1 ∷ 0 ∷ 1 ∷ 0 ∷ 1 ∷ 0 ∷ 1 ∷ 0 ∷ []

-- P6, `x == 0 fby ( 1 - x )`: "entries 1 65535, then 65535 0"
abbrev table_of_p6 : List ℕ
table_of_p6 = 1 ∷ 0 ∷ 255 ∷ 255 ∷ 255 ∷ 255 ∷ 0 ∷ 0 ∷ []

abbrev pub cases : List Case
cases =
    record { table = table_of_p4; letters = 4; state = 0; letter = 0; answer = 65548 }
    ∷ record { table = table_of_p4; letters = 4; state = 0; letter = 1; answer = 1 }
    ∷ record { table = table_of_p4; letters = 4; state = 0; letter = 2; answer = 0 }
    ∷ record { table = table_of_p4; letters = 4; state = 1; letter = 3; answer = 1 }
    ∷ record { table = table_of_p6; letters = 2; state = 0; letter = 0; answer = 1 }
    ∷ record { table = table_of_p6; letters = 2; state = 1; letter = 1; answer = 0 }
    ∷ record { table = table_of_p6; letters = 2; state = 1; letter = 0; answer = 65548 }
    -- no letters; three bytes; a length that is no whole row; a state outside; a letter outside; the high byte counts 256
    ∷ record { table = table_of_p6; letters = 0; state = 0; letter = 0; answer = 65547 }
    ∷ record { table = 0 ∷ 0 ∷ 0 ∷ []; letters = 1; state = 0; letter = 0; answer = 65547 }
    ∷ record { table = table_of_p6; letters = 3; state = 0; letter = 0; answer = 65547 }
    ∷ record { table = table_of_p6; letters = 2; state = 2; letter = 0; answer = 65547 }
    ∷ record { table = table_of_p6; letters = 2; state = 0; letter = 2; answer = 65547 }
    ∷ record { table = 0 ∷ 1 ∷ []; letters = 1; state = 0; letter = 0; answer = 65547 }
    ∷ []

pub cases-answered : Answered cases
unfolding step_of is_refusal11 is_refusal12 number_at
cases-answered = answered cases tt
