-- The lines that `statistics` prints of numbers (docs/statistics.md): a word and a number each, as far as they are known with a refusal.
use Rattle.std.specs.Prelude.{ℕ, Bool, cond, not, ◌||◌, List, [], ◌∷◌, ◌++◌, eqb, ltb, pos}
use Rattle.text.specs.Bytes.{Token, bytes_of}
use Rattle.print.specs.Text.{decimal, line}
use Rattle.statistics_text.specs.declared.Statistics.{Statistics}

-- "a line each [..] with its number"; the line of a refusal is one of them.
abbrev pub size_line : Token → ℕ → List ℕ
size_line word number = line (word ∷ []) (decimal (pos number))

-- ---- which lines are printed with a refusal's number, or with 0

-- "A sheet that is refused by 1 to 7 prints `refused N` alone."
abbrev pub sizes_known : ℕ → Bool
sizes_known refusal = eqb refusal 0 || ltb 7 refusal

-- "With 10 there are more situations than rows, and neither they nor the states are known"; and so with 8.
abbrev pub situations_known : ℕ → Bool
situations_known refusal = eqb refusal 0 || eqb refusal 9

-- The line, or nothing.
unfoldable pub known_line : Bool → Token → ℕ → List ℕ
known_line known word number = cond known (size_line word number) []

-- The letters, and the times that the rules look ahead and back.
abbrev pub sheet_lines : Bool → Statistics → List ℕ
sheet_lines known x = known_line known (bytes_of "letters") x.letters ++ (known_line known (bytes_of "ahead") x.ahead ++ known_line known (bytes_of "back") x.back)

-- "What is known is printed, and `refused N` is then the last line". States are known only where nothing is refused.
unfoldable pub statistics_text : Statistics → List ℕ
statistics_text x =
    let known = sizes_known x.refusal in
    sheet_lines known x
    ++ ((known_line (situations_known x.refusal) (bytes_of "situations") x.situations ++ known_line (eqb x.refusal 0) (bytes_of "states") x.states)
    ++ (known_line known (bytes_of "rows") x.rows ++ known_line (not (eqb x.refusal 0)) (bytes_of "refused") x.refusal))
