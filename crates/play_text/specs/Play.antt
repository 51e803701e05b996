-- What `strategy` prints of a play table (document 02, S-7): the heading that `sluice` prints, then for each state and each choice in order `sluice`'s line of
-- the letter that the play table holds. A state whose row holds 65,535 has no line.
use Rattle.std.specs.Prelude.{ℕ, zero, suc, ◌+◌, ◌*◌, cond, List, [], ◌++◌, map, eqb, get_or}
use Rattle.meaning.specs.Expression.{Stream}
use Rattle.meaning.specs.Choice.{choice_count}
use Rattle.automaton.specs.Table.{no_state}
use Rattle.print.specs.Text.{heading_line}
use Rattle.table_text.specs.Table.{entry_text}

-- The line of the letter held for a state and a choice, or nothing.
abbrev pub held_line : List Stream → (entries finals play : List ℕ) (state choice : ℕ) → List ℕ
held_line ss entries finals play state choice =
    let letter = get_or play (state * choice_count ss + choice) no_state in
    cond (eqb letter no_state) [] (entry_text ss entries finals state letter)

-- By state and choice: the lines of a state's first choices, and of the first states.
unfoldable pub choices_text : List Stream → (entries finals play : List ℕ) → ℕ → ℕ → List ℕ
choices_text ss entries finals play state zero = []
choices_text ss entries finals play state (suc choice) = choices_text ss entries finals play state choice ++ held_line ss entries finals play state choice

unfoldable pub states_text : List Stream → ℕ → (entries finals play : List ℕ) → List ℕ
states_text ss zero entries finals play = []
states_text ss (suc state) entries finals play = states_text ss state entries finals play ++ choices_text ss entries finals play state (choice_count ss)

unfoldable pub play_text : List Stream → ℕ → (entries finals play : List ℕ) → List ℕ
play_text ss states entries finals play = heading_line (map (λ s. s.name) ss) ++ states_text ss states entries finals play
