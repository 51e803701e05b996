-- A text that is written to the front of the part of a list from a place on stands at that place of the list, and is so appended there. From the laws of
-- lists.
use Prim.Native.Nat.{ℕ, suc, ◌+◌, ◌-◌, ◌≤◌, ◌<◌}
use native.Mathlib.Omega.{arith}
use mathlib.Core.Path.{◌≡◌, refl, sym, ◌∙◌, ap, ap₂}
use mathlib.Core.List.{List, ◌++◌, append_assoc, append-nil}
use lib.ListN.{length, take, drop, length-drop, drop_of_length-le}
use lib.Seq.{sets, sets-eq, take_all, drop-drop}
use borrow.Rule.Slice.PartMut.{mid_of, put_mid, same_len_mid, mid_len}
use Rattle.print.specs.Append.{Appends}

pub placed-text : (out : List ℕ) (at : ℕ) {text part : List ℕ} {r : ℕ} → Appends 0 text (mid_of at (length out - at) out) part r → at + length text ≤ length out → put_mid at (length out - at) out part ≡ sets out at text
placed-text out at {text} {part} p fits =
    let behind = drop at out in
    let d = length-drop at out in
    let whole = take_all (length out - at) behind (omega arith) in
    let rest : at + (0 + length text) ≡ at + length text = omega arith in
    let written = (p.written (omega (arith, ap length whole))).0 ∙ ap (λ l. sets l 0 text) whole ∙ sets-eq text behind 0 (omega arith) in
    ap₂ (λ l m. take at out ++ (l ++ m)) written (drop_of_length-le behind {i = length out - at} (omega arith))
    ∙ ap (take at out ++◌) (append-nil (text ++ drop (0 + length text) behind) ∙ ap (text ++◌) (drop-drop (0 + length text) at out ∙ ap (λ n. drop n out) rest))
    ∙ sym (append_assoc (take at out) text (drop (at + length text) out)) ∙ sym (sets-eq text out at fits)

-- A text written to the front of the part from a place on is appended at the place.
pub placed-line : (out : List ℕ) (at : ℕ) {text part : List ℕ} {r : ℕ} → at ≤ length out → Appends 0 text (mid_of at (length out - at) out) part r
    → Appends at text out (put_mid at (length out - at) out part) (at + r)
placed-line out at {text} {part} {r} h p =
    let size = mid_len at (length out) out (omega arith) in
    record {
      same_length = same_len_mid at (length out - at) out part p.same_length;
      written = λ fits. (placed-text out at p fits, omega (arith, (p.written (omega (arith, size))).1));
      no_room = λ full. omega (arith, p.no_room (omega (arith, size)), size);
    }

-- A text that has no room because there is none.
pub no_place : (out : List ℕ) {at : ℕ} {text : List ℕ} → length out < at → at ≤ suc (length out) → Appends at text out out at
no_place out h l = record { same_length = refl; written = λ fits. absurd (omega arith); no_room = λ full. omega arith }
