-- The lines of a record's text: a line of names and byte 10 stand before the lines of the rest, and a text that is cut between two lines has the
-- lines of both parts. From the laws of lines (text).
use Prim.Native.Nat.{ℕ, ◌≤◌}
use native.Mathlib.Omega.{arith}
use mathlib.Core.Path.{◌≡◌, refl, sym, ◌∙◌, ap}
use mathlib.Core.Logic.{inl, inr}
use mathlib.Core.Bool.{Bool, true, false, ◌&&◌}
use mathlib.Core.List.{List, [], ◌∷◌, ◌++◌}
use lib.Dec.{T, leb, leb→le, eqb}
use Rattle.basics.proofs.Reflects.{eqb_reflects, to_false}
use Rattle.basics.proofs.Tests.{T-of_true, and_left, and_right, and_both}
use Rattle.text.specs.Bytes.{Token, tokens, add_to_lines, lines}
use Rattle.text.specs.Token.{all_bytes}
use Rattle.text.proofs.Bytes.{is_of_line, lines_end}
use Rattle.record_lines.proofs.Runs.{some-line}
use Rattle.record_names.specs.Line.{is_plain, same_tokens, is_names_line}
use Rattle.theorems.specs.Replaying.{under_names, EndsWithLine}

plain_of_line : (b : ℕ) → T (is_plain b) → T (is_of_line b)
plain_of_line b t =
    let low : 32 ≤ b = leb→le 32 b (and_left (leb 32 b) (leb b 126) t) in
    rw (to_false (eqb_reflects b 10) (λ e. omega arith)) tt

all-of-line : (l : List ℕ) → T (all_bytes is_plain l) → T (all_bytes is_of_line l)
all-of-line [] t = tt
all-of-line (b ∷ l) t =
    and_both (is_of_line b) (all_bytes is_of_line l) (plain_of_line b (and_left (is_plain b) (all_bytes is_plain l) t)) (all-of-line l (and_right (is_plain b) (all_bytes is_plain l) t))

-- The names and the lines behind them.
pub named-lines : (ns : List Token) (names text : List ℕ) → is_names_line ns names ≡ true → lines (under_names names text) ≡ names ∷ lines text
unfolding is_names_line
named-lines ns names text e =
    lines_end names text (all-of-line names (and_left (all_bytes is_plain names) (same_tokens (tokens names) ns) (T-of_true (all_bytes is_plain names && same_tokens (tokens names) ns) e)))

-- A cut behind a byte 10.
add_append : (g : Bool) (b : ℕ) (l : List ℕ) (ls ms : List (List ℕ)) → add_to_lines g b ((l ∷ ls) ++ ms) ≡ add_to_lines g b (l ∷ ls) ++ ms
add_append true b l ls ms = refl
add_append false b l ls ms = refl

ended-lines : (x y : List ℕ) → lines ((x ++ (10 ∷ [])) ++ y) ≡ lines (x ++ (10 ∷ [])) ++ lines y
unfolding lines
ended-lines [] y = refl
ended-lines (b ∷ x) y =
    let f = some-line x in
    ap (add_to_lines (eqb b 10) b) (ended-lines x y ∙ ap (◌++ lines y) f.2)
    ∙ add_append (eqb b 10) b f.0 f.1 (lines y)
    ∙ ap (λ ls. add_to_lines (eqb b 10) b ls ++ lines y) (sym f.2)

pub cut-lines : (first second : List ℕ) → EndsWithLine first → lines (first ++ second) ≡ lines first ++ lines second
unfolding lines
cut-lines first second (inl e) = rw e
cut-lines first second (inr x) = rw x.1 (ended-lines x.0 second)
