-- How lines are found at places of a text. From the laws of lines.
use Prim.Native.Nat.{ℕ, ◌+◌, ◌≤◌, ◌<◌}
use mathlib.Core.Path.{◌≡◌, refl, sym, ap, subst, ◌∙◌}
use mathlib.Core.List.{List, [], ◌∷◌, ◌++◌, append-nil}
use native.Mathlib.Decide.{dec_le}
use native.Mathlib.Omega.{arith}
use lib.Dec.{T}
use lib.ListN.{length, drop, get_or, drop_of_length-le}
use Rattle.text.specs.Bytes.{lines}
use Rattle.text.specs.Token.{all_bytes}
use Rattle.text.proofs.Bytes.{is_of_line, lines_end, lines-last}
use Rattle.scan.specs.declared.LineSpan.{LineSpan}
use Rattle.scan.specs.Place.{between, LineAt, no_line, ended_line, last_line}
use Rattle.scan.proofs.Tokens.{between_split, between_first, drop_at, drop-end}

module _ (text : List ℕ) (at i : ℕ) (forward : at ≤ i) (clear : T (all_bytes is_of_line (between text at i))) where
  -- A byte 10 ends the line.
  pub line-ended : i < length text → get_or text i 0 ≡ 10 → LineAt text at (record { end = i; next = i + 1 })
  line-ended h e =
      let rest : drop i text ≡ 10 ∷ drop (i + 1) text = drop_at text i h ∙ ap (λ b. b ∷ drop (i + 1) text) e in
      ended_line forward h refl (ap lines (between_split text at i forward ∙ ap (λ l. between text at i ++ l) rest) ∙ lines_end (between text at i) (drop (i + 1) text) clear)

  -- Where no byte 10 is left, the rest is the last line, if there is any.
  pub line-last : length text ≤ i → (at < length text → i ≤ length text) → LineAt text at (record { end = length text; next = length text })
  unfolding lines
  line-last h k = by (dec_le (length text) at)
    where
      last : at < length text → lines (drop at text) ≡ between text at (length text) ∷ []
      last l =
          let there : i ≡ length text = let z = k l in omega arith in
          let word = between_first text at (length text) l l in
          let whole : drop at text ≡ between text at (length text) = between_split text at (length text) (omega arith) ∙ ap (λ m. between text at (length text) ++ m) (drop-end text) ∙ append-nil (between text at (length text)) in
          let all : T (all_bytes is_of_line (between text at (length text))) = subst (λ n. T (all_bytes is_of_line (between text at n))) there clear in
          ap lines (whole ∙ word) ∙ lines-last (get_or text at 0) (between text (at + 1) (length text)) (subst (λ l'. T (all_bytes is_of_line l')) word all) ∙ ap (λ l'. l' ∷ []) (sym word)

      by : Dec (length text ≤ at) → LineAt text at (record { end = length text; next = length text })
      by (yes l) = no_line l refl refl (ap lines (drop_of_length-le text l))
      by (no n) = let l : at < length text = omega arith in last_line l refl refl (last l)

-- What a found line says to a caller.
pub record Within (text : List ℕ) (at : ℕ) (r : LineSpan) : Type 0 where
  pub forward : at ≤ r.end
  pub ordered : r.end ≤ r.next
  pub within : r.next ≤ length text
  pub further : at < length text → at < r.next

pub line-within : {text : List ℕ} {at : ℕ} {r : LineSpan} → LineAt text at r → at ≤ length text → Within text at r
line-within (no_line l p q e) h = record { forward = omega arith; ordered = omega arith; within = omega arith; further = λ k. omega arith }
line-within (ended_line f w n e) h = record { forward = f; ordered = omega arith; within = omega arith; further = λ k. omega arith }
line-within (last_line f p q e) h = record { forward = omega arith; ordered = omega arith; within = omega arith; further = λ k. omega arith }
