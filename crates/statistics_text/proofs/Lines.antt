-- The lines of statistics, one appended behind the other, are their text; and they have room in 256 bytes, since each has at most 32. From the laws of text
-- that is appended (print, Append) and of digits (print, Lengths).
use Prim.Native.Nat.{ℕ, ◌≤◌, ◌<◌}
use native.Mathlib.Omega.{arith}
use mathlib.Core.Path.{◌≡◌, refl, sym, subst, transport}
use mathlib.Core.Bool.{Bool, true, false, not}
use mathlib.Core.List.{List, [], ◌∷◌, ◌++◌}
use lib.Dec.{eqb}
use lib.ListN.{length, length-append}
use Rattle.text.specs.Bytes.{Token, bytes_of}
use Rattle.print.specs.Append.{Appends}
use Rattle.print.specs.Text.{digits}
use Rattle.print.proofs.Append.{appends_then}
use Rattle.print.proofs.Lengths.{natural-length}
use Rattle.statistics_text.specs.declared.Statistics.{Statistics}
use Rattle.statistics_text.specs.Text.{size_line, sizes_known, situations_known, known_line, sheet_lines, statistics_text}

-- ---- the text

-- Nothing is printed of a number that is not known.
pub unknown_line : {known : Bool} (word : Token) (number : ℕ) → known ≡ false → [] ≡ known_line known word number
unfolding known_line
unknown_line word number e = subst (λ b. [] ≡ known_line b word number) (sym e) refl

pub known-line : {known : Bool} (word : Token) (number : ℕ) → known ≡ true → size_line word number ≡ known_line known word number
unfolding known_line
known-line word number e = subst (λ b. size_line word number ≡ known_line b word number) (sym e) refl

module _ (x : Statistics) {known counted : Bool} {out out₁ out₂ out₃ out₄ out₅ : List ℕ} {r₁ r₂ r₃ r₄ r₅ : ℕ} where
  pub lines-appended : known ≡ sizes_known x.refusal → counted ≡ situations_known x.refusal → Appends 0 (sheet_lines known x) out out₁ r₁
      → Appends r₁ (known_line counted (bytes_of "situations") x.situations) out₁ out₂ r₂ → Appends r₂ (known_line (eqb x.refusal 0) (bytes_of "states") x.states) out₂ out₃ r₃
      → Appends r₃ (known_line known (bytes_of "rows") x.rows) out₃ out₄ r₄ → Appends r₄ (known_line (not (eqb x.refusal 0)) (bytes_of "refused") x.refusal) out₄ out₅ r₅
      → Appends 0 (statistics_text x) out out₅ r₅
  unfolding statistics_text
  lines-appended k c sheet situations states rows refused =
      let all = appends_then sheet (appends_then (appends_then situations states) (appends_then rows refused)) in
      transport
      (λ i. Appends 0
      (sheet_lines (k i) x
      ++ ((known_line (c i) (bytes_of "situations") x.situations ++ known_line (eqb x.refusal 0) (bytes_of "states") x.states)
      ++ (known_line (k i) (bytes_of "rows") x.rows ++ known_line (not (eqb x.refusal 0)) (bytes_of "refused") x.refusal))) out out₅ r₅)
      all

-- ---- its length

line-short : (known : Bool) (word : Token) {number : ℕ} → length word ≤ 10 → number < 18446744073709551616 → length (known_line known word number) ≤ 32
unfolding known_line
line-short false word h n = omega arith
line-short true word {number} h n =
    omega (arith, natural-length number n, length-append (word ++ (32 ∷ [])) (digits number ++ (10 ∷ [])), length-append word (32 ∷ []), length-append (digits number) (10 ∷ []))

pub text-short : (x : Statistics) → x.refusal < 18446744073709551616 → x.letters < 18446744073709551616 → x.ahead < 18446744073709551616 → x.back < 18446744073709551616
    → x.situations < 18446744073709551616 → x.states < 18446744073709551616 → x.rows < 18446744073709551616 → length (statistics_text x) ≤ 256
unfolding statistics_text
text-short x refusal letters ahead back situations states rows =
    let known = sizes_known x.refusal in
    let a = known_line known (bytes_of "letters") x.letters in
    let b = known_line known (bytes_of "ahead") x.ahead in
    let c = known_line known (bytes_of "back") x.back in
    let d = known_line (situations_known x.refusal) (bytes_of "situations") x.situations in
    let e = known_line (eqb x.refusal 0) (bytes_of "states") x.states in
    let f = known_line known (bytes_of "rows") x.rows in
    let g = known_line (not (eqb x.refusal 0)) (bytes_of "refused") x.refusal in
    omega (
      arith,
      line-short known (bytes_of "letters") (omega arith) letters,
      line-short known (bytes_of "ahead") (omega arith) ahead,
      line-short known (bytes_of "back") (omega arith) back,
      line-short (situations_known x.refusal) (bytes_of "situations") (omega arith) situations,
      line-short (eqb x.refusal 0) (bytes_of "states") (omega arith) states,
      line-short known (bytes_of "rows") (omega arith) rows,
      line-short (not (eqb x.refusal 0)) (bytes_of "refused") (omega arith) refusal,
      length-append (a ++ (b ++ c)) ((d ++ e) ++ (f ++ g)),
      length-append a (b ++ c),
      length-append b c,
      length-append (d ++ e) (f ++ g),
      length-append d e,
      length-append f g,
    )
