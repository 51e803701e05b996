-- What `record_counts` prints of figures (document 02, S-13: "For each n up to the one given [..] print a line with n, the figure, and how many of those
-- records end in a final state").
use Rattle.std.specs.Prelude.{ℕ, min, List, [], ◌∷◌, get_or}
use Rattle.print.specs.Text.{digits, tokens_line}
use Rattle.print.specs.Lines.{lines_from}
use Rattle.figure_sums.specs.Sums.{highest_figure}

-- A line with a number of letters, the figure and the figure of the last column.
abbrev pub figures_line : (letters figure final_figure : ℕ) → List ℕ
figures_line letters figure final_figure = tokens_line (digits letters ∷ (digits figure ∷ (digits final_figure ∷ [])))

-- A line for each number of letters from 0 to before m.
abbrev pub figures_text : (figure final_figure : ℕ → ℕ) (m : ℕ) → List ℕ
figures_text figure final_figure m = lines_from (λ t. figures_line t (figure t) (final_figure t)) 0 m

-- ---- any numbers

-- A number above the highest figure, which no figure is, is printed as the highest.
abbrev pub shown_number : ℕ → ℕ
shown_number n = min n highest_figure

-- The lines of the figures that stand in two lists, as many as both hold.
abbrev pub listed_text : (figures final_figures : List ℕ) (m : ℕ) → List ℕ
listed_text figures final_figures m = lines_from (λ t. figures_line (shown_number t) (shown_number (get_or figures t 0)) (shown_number (get_or final_figures t 0))) 0 m
