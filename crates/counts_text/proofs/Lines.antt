-- The lines of figures: one after the other, and how long they are. From the laws of digits (print, Lengths).
use Prim.Native.Nat.{ℕ, zero, suc, ◌+◌, ◌*◌, ◌≤◌, ◌<◌}
use native.Mathlib.Omega.{arith}
use native.Mathlib.Numerals.{add-one}
use mathlib.Core.Path.{◌≡◌, refl, sym, ◌∙◌, ap, ap₂, subst}
use mathlib.Core.List.{List, [], ◌∷◌, ◌++◌}
use lib.ListN.{length, get_or, length-append}
use lib.IntN.{ℤ, pos}
use mir.Syntax.{w64}
use mir.Val.{SFits, to_z, of_z}
use mir.ValLaws.{to_z-of_z}
use Rattle.print.specs.Text.{digits}
use Rattle.print.specs.Lines.{lines_from}
use Rattle.print.proofs.Lengths.{digits-length}
use Rattle.figure_sums.specs.Sums.{highest_figure}
use Rattle.counts_text.specs.Counts.{figures_line, figures_text, shown_number, listed_text}

-- A number that is shown comes back from a list of signed numbers as it was put there.
pub shown-value : {r : ℤ} (n : ℕ) → r ≡ pos (shown_number n) → to_z w64 (of_z w64 r) ≡ pos (shown_number n)
shown-value {r} n e = to_z-of_z w64 r (subst (SFits w64) (sym e) (record { sfits = omega arith })) ∙ e

-- One line more.
pub listed_more : (figures final_figures : List ℕ) (t : ℕ)
    → listed_text figures final_figures t ++ figures_line (shown_number t) (shown_number (get_or figures t 0)) (shown_number (get_or final_figures t 0)) ≡ listed_text figures final_figures (t + 1)
unfolding lines_from
listed_more figures final_figures t =
    let e : t ≡ 0 + t = omega arith in
    ap (λ n. listed_text figures final_figures t ++ figures_line (shown_number n) (shown_number (get_or figures n 0)) (shown_number (get_or final_figures n 0))) e
    ∙ sym (ap (listed_text figures final_figures) (add-one t))

-- ---- lengths

-- No figure has more than 19 digits, and no line of figures more than 60 bytes.
line-short : (a b c : ℕ) → length (figures_line (shown_number a) (shown_number b) (shown_number c)) ≤ 60
line-short a b c =
    let x = digits-length 18 (shown_number a) (omega arith) in
    let y = digits-length 18 (shown_number b) (omega arith) in
    let z = digits-length 18 (shown_number c) (omega arith) in
    let da = digits (shown_number a) in
    let db = digits (shown_number b) in
    let dc = digits (shown_number c) in
    omega (arith, length-append da (32 ∷ (db ++ (32 ∷ (dc ++ (10 ∷ []))))), length-append db (32 ∷ (dc ++ (10 ∷ []))), length-append dc (10 ∷ []))

pub listed-short : (figures final_figures : List ℕ) (m : ℕ) → length (listed_text figures final_figures m) ≤ 60 * m
unfolding lines_from
listed-short figures final_figures zero = omega arith
listed-short figures final_figures (suc m) =
    let again = listed-short figures final_figures m in
    let line = figures_line (shown_number (0 + m)) (shown_number (get_or figures (0 + m) 0)) (shown_number (get_or final_figures (0 + m) 0)) in
    let here = line-short (0 + m) (get_or figures (0 + m) 0) (get_or final_figures (0 + m) 0) in
    omega (arith, length-append (listed_text figures final_figures m) line)

-- ---- figures that are not above the highest

-- What stands in the lists is printed as it is.
pub listed-figures : (figure final_figure : ℕ → ℕ) (figures final_figures : List ℕ) (m : ℕ) → m ≤ highest_figure → ((t : ℕ) → t < m → get_or figures t 0 ≡ figure t) → ((t : ℕ) → t < m → get_or final_figures t 0 ≡ final_figure t)
    → ((t : ℕ) → t < m → figure t ≤ highest_figure) → ((t : ℕ) → t < m → final_figure t ≤ highest_figure) → listed_text figures final_figures m ≡ figures_text figure final_figure m
unfolding lines_from
listed-figures figure final_figure figures final_figures zero small e g h k = refl
listed-figures figure final_figure figures final_figures (suc m) small e g h k =
    let z : 0 + m ≡ m = omega arith in
    let t : shown_number m ≡ m = omega arith in
    let f : shown_number (get_or figures m 0) ≡ figure m = omega (arith, e m (omega arith), h m (omega arith)) in
    let l : shown_number (get_or final_figures m 0) ≡ final_figure m = omega (arith, g m (omega arith), k m (omega arith)) in
    ap₂ ◌++◌
    (listed-figures figure final_figure figures final_figures m (omega arith) (λ i b. e i (omega arith)) (λ i b. g i (omega arith)) (λ i b. h i (omega arith)) (λ i b. k i (omega arith)))
    (ap (λ n. figures_line (shown_number n) (shown_number (get_or figures n 0)) (shown_number (get_or final_figures n 0))) z
    ∙ ap (λ n. figures_line n (shown_number (get_or figures m 0)) (shown_number (get_or final_figures m 0))) t ∙ ap₂ (figures_line m) f l
    ∙ sym (ap (λ n. figures_line n (figure n) (final_figure n)) z))

-- Figures that agree up to a number of letters have the same lines up to it.
pub same-figures : (figure final_figure other final_other : ℕ → ℕ) (m : ℕ) → ((t : ℕ) → t < m → figure t ≡ other t) → ((t : ℕ) → t < m → final_figure t ≡ final_other t)
    → figures_text figure final_figure m ≡ figures_text other final_other m
unfolding lines_from
same-figures figure final_figure other final_other zero e g = refl
same-figures figure final_figure other final_other (suc m) e g =
    ap₂ ◌++◌ (same-figures figure final_figure other final_other m (λ t l. e t (omega arith)) (λ t l. g t (omega arith)))
    (ap₂ (figures_line (0 + m)) (e (0 + m) (omega arith)) (g (0 + m) (omega arith)))
