-- The part of the entries that the code takes for a row is the row of the state, and the next row begins behind it. From the laws of lists.
use Prim.Native.Nat.{ℕ, ◌+◌, ◌*◌, ◌<◌, min}
use native.Mathlib.Nat.{add-mul}
use native.Mathlib.Numerals.{add-one}
use native.Mathlib.Omega.{arith}
use native.Mathlib.Decide.{dec_lt}
use mathlib.Core.Path.{◌≡◌, sym, ◌∙◌, ap}
use mathlib.Core.List.{List, ◌++◌}
use lib.ListN.{length, take, drop, drop_of_length-le}
use lib.Seq.{drop-drop}
use Rattle.std.proofs.lemmas.List.{take_min}
use Rattle.print.specs.Lines.{lines_from}
use Rattle.export_text.specs.Export.{row_entries, row_line}

-- What stands behind so many elements of a list, or behind all where there are fewer.
drop_min : {X : Type 0} (n : ℕ) (l : List X) → drop (min n (length l)) l ≡ drop n l
drop_min n l = by (dec_lt (length l) n)
  where
    by : Dec (length l < n) → drop (min n (length l)) l ≡ drop n l
    by (yes h) = drop_of_length-le l {i = min n (length l)} (omega arith) ∙ sym (drop_of_length-le l {i = n} (omega arith))
    by (no h) = let m : min n (length l) ≡ n = omega arith in ap (λ k. drop k l) m

module _ (entries : List ℕ) (letters state : ℕ) {rest : List ℕ} (r : rest ≡ drop (state * letters) entries) {size : ℕ} (s : size ≡ min letters (length rest)) where
  pub row-part : {row : List ℕ} → row ≡ take size rest → row ≡ row_entries letters entries state
  row-part f = f ∙ ap (λ k. take k rest) s ∙ take_min letters rest ∙ ap (take letters) r

  pub row-behind : {behind : List ℕ} → behind ≡ drop size rest → behind ≡ drop ((state + 1) * letters) entries
  row-behind b =
      let next : state * letters + letters ≡ (state + 1) * letters = omega (arith, add-mul state 1 letters) in
      b ∙ ap (λ k. drop k rest) s ∙ drop_min letters rest ∙ ap (drop letters) r ∙ drop-drop letters (state * letters) entries ∙ ap (λ k. drop k entries) next

-- One row more.
pub next_row : (letters : ℕ) (entries : List ℕ) (state : ℕ) → lines_from (row_line letters entries) 0 state ++ row_line letters entries state ≡ lines_from (row_line letters entries) 0 (state + 1)
unfolding lines_from
next_row letters entries state =
    let z : state ≡ 0 + state = omega arith in
    ap (λ k. lines_from (row_line letters entries) 0 state ++ row_line letters entries k) z ∙ ap (lines_from (row_line letters entries) 0) (sym (add-one state))
