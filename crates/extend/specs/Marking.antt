-- The marks of untils, told one after the other.
use Rattle.std.specs.Prelude.{ℕ, ◌+◌, ◌*◌, ◌/◌, ◌<◌, Bool, cond, Option, Some, None}
use Rattle.extend.specs.Step.{unlawful, lawful_with}
use Rattle.extend.specs.declared.judge.Marking.{Marking}

abbrev pub begun : ℕ → Marking
begun marks = record { told = 0; weight = 1; rest = marks }

abbrev pub grown : Marking → Bool → Marking
grown m done = record { told = cond done (m.told + m.weight) m.told; weight = m.weight * 2; rest = m.rest / 2 }

-- the numbers fit what they are stored in
abbrev pub IsSmall : Marking → Type 0
IsSmall m = (m.told < m.weight) × (m.weight < 4294967296)

-- the answer for what comes later, with what is told before its marks
abbrev pub marks_joined : Marking → Option ℕ → Option ℕ
marks_joined m None = unlawful
marks_joined m (Some marks) = lawful_with (m.told + m.weight * marks)
