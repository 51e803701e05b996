-- Sums over letters, cut so that none wraps, and the highest figure (document 02, S-13).
use Rattle.std.specs.Prelude.{List, ℕ, zero, suc, ◌+◌, ◌≤◌, ◌<◌, min, length, get_or}

-- "a figure above 9,223,372,036,854,775,807" is turned away.
abbrev pub highest_figure : ℕ
highest_figure = 9223372036854775807

-- The sum of f over the letters 0, 1 and so on, so many of them.
abbrev pub letter_sum : ℕ → (ℕ → ℕ) → ℕ
letter_sum zero f = 0
letter_sum (suc m) f = letter_sum m f + f m

-- Counts are cut one above the highest figure, so that no sum wraps: the count from another state may pass the highest figure though that from the start
-- does not.
abbrev pub figure_cut : ℕ
figure_cut = 9223372036854775808

-- The sum of the numbers at the entries of the first m letters of a row, cut; 0 for an entry that is no row.
abbrev pub row_sum : (row counts : List ℕ) (m : ℕ) → ℕ
row_sum row counts m = min (letter_sum m (λ a. get_or counts (get_or row a 0) 0)) figure_cut

abbrev pub AreBounded : List ℕ → Type 0
AreBounded figures = (i : ℕ) → i < length figures → get_or figures i 0 ≤ highest_figure
