-- The answer of a compile, from the rows lent, the situations found and what the table's making gave.
use Rattle.std.specs.Prelude.{ℕ, cond, eqb, ltb}
use Rattle.outcome.specs.Compile.{CompileAnswer, situation_bound}
use Rattle.minimise.specs.declared.Minimised.{Minimised}
use Rattle.compiled.specs.declared.Compiled.{Compiled}

-- The answer in document 01's terms.
abbrev pub answer_of : Compiled → CompileAnswer
answer_of c = record { refusal = c.refusal; states = c.states; situations = c.situations }

-- "A refusal returns its number with states and situations 0."
abbrev pub refused_with : ℕ → Compiled
refused_with n = record { refusal = n; states = 0; situations = 0 }

-- The answer to a text that is refused with this number, and to one that is read where the number is 0.
abbrev pub answered : ℕ → Compiled → Compiled
answered n made = cond (eqb n 0) made (refused_with n)

-- The answer after the situations were explored, 0 where they do not fit, and the table was made of them: a refusal other than 9 says that
-- there was nothing to make it of.
abbrev pub made_of : (rows situations : ℕ) → Minimised → Compiled
made_of rows situations made =
    cond (eqb made.refusal 0) (record { refusal = 0; states = made.states; situations = situations })
    (cond (eqb made.refusal 9) (refused_with 9) (cond (ltb rows situation_bound) (refused_with 10) (refused_with 8)))
