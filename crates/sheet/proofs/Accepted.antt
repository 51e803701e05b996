-- What is known of an accepted sheet. From the refusals that do not apply to it and from its form.
use Prim.Native.Nat.{ℕ, zero, suc, ◌+◌, ◌≤◌, ◌<◌}
use mathlib.Core.Path.{◌≡◌, refl, sym, ap, ◌∙◌}
use mathlib.Core.List.{List, [], ◌∷◌, ◌++◌, Memᴰ}
use native.Mathlib.Nat.{mul-pos}
use native.Mathlib.Omega.{arith}
use lib.Dec.{le→leb, not_T}
use lib.IntN.{ℤ, pos, negsuc, neg_ℤ, nat_abs}
use lib.ListN.{length, length-map, length-append}
use lib.Signed.{le_z, lt_z, ◌≤ℤ◌, lt_z_no}
use Rattle.basics.proofs.Reflects.{T-reflects, to_true, to_false, not-fails}
use Rattle.text.specs.Bytes.{Token}
use Rattle.text.specs.Token.{is_reserved}
use Rattle.meaning.specs.Arithmetic.{Interval}
use Rattle.meaning.specs.Expression.{Expression, Constraint, left_side, right_side, Stream, Sheet}
use Rattle.meaning.specs.Interval.{interval, subexpressions}
use Rattle.meaning.specs.Letter.{size, letter_count}
use Rattle.sheet.specs.Vocabulary.{Relation, sign, until_sign, related}
use Rattle.sheet.specs.Grammar.{ReadsConstraint, is_constraint}
use Rattle.sheet.specs.Release.{floors_quotients}
use Rattle.sheet.specs.Form.{release_in, line_tokens, constraint_lines, Constraints, names_of, HasForm, layout_in}
use Rattle.sheet.specs.Refusal.{stream_bound, constraint_bound, token_bound, magnitude_bound, token_count, too_many_streams, too_many_constraints, too_many_tokens, given_twice, reserved_name, unknown_name, Refusal5, low_beyond, high_beyond, low_above_high, leaves_bounds, too_many_letters, too_many_untils, too_many_firsts, too_wide, sheet, AnswerTo, accepted}
use Rattle.sheet.specs.Reading.{all_expressions}
use Rattle.sheet.specs.Accepted.{Accepted}
use Rattle.sheet.proofs.Grammar.{reads-count}
use Rattle.sheet.proofs.Release.{meant-length, meant_expressions}
use Rattle.sheet.proofs.Refusal.{are_distinct_reflects, sides_below_reflects, in_bounds_reflects}

-- A number of at most a magnitude lies between that magnitude's ends.
magnitude-above : (m : ℕ) (z : ℤ) → nat_abs z ≤ m → neg_ℤ (pos m) ≤ℤ z
magnitude-above zero (pos n) l = record { le = le→leb 0 n (omega arith) }
magnitude-above zero (negsuc n) l = absurd (omega arith)
magnitude-above (suc m) (pos n) l = record { le = tt }
magnitude-above (suc m) (negsuc n) l = record { le = le→leb n m (omega arith) }

magnitude-below : (m : ℕ) (z : ℤ) → nat_abs z ≤ m → z ≤ℤ pos m
magnitude-below m (pos n) l = record { le = le→leb n m l }
magnitude-below m (negsuc n) l = record { le = tt }

-- There is a letter where every range holds a number.
size-positive : (I : Interval) → I.low ≤ℤ I.high → 0 < size I
size-positive I l = rw (to_true (T-reflects (le_z I.low I.high)) l.le) (omega arith)

pub letter_count-positive : (ss : List Stream) → ((x : Stream) → Memᴰ x ss → x.range.low ≤ℤ x.range.high) → 0 < letter_count ss
unfolding letter_count
letter_count-positive [] h = omega arith
letter_count-positive (s ∷ ss) h = mul-pos (size-positive s.range (h s (Memᴰ.head refl))) (letter_count-positive ss (λ x m. h x (Memᴰ.tail m)))

-- Every line is one constraint, and has a token for each of its expressions and for its sign.
pub constraints-length : {names : List Token} {ls : List (List ℕ)} {cs : List Constraint} → Constraints names ls cs → length ls ≡ length cs
constraints-length Constraints.none = refl
constraints-length (Constraints.more r rs) = ap suc (constraints-length rs)

related-sides : (r : Relation) (a b : Expression) → (left_side (related r a b) ≡ a) × (right_side (related r a b) ≡ b)
related-sides (sign s) a b = (refl, refl)
related-sides until_sign a b = (refl, refl)

constraint-count : {names ts : List Token} {c : Constraint} → ReadsConstraint names ts c → length (subexpressions (left_side c)) + length (subexpressions (right_side c)) < length ts
constraint-count (is_constraint {ts} {us} t {r} {a} {b} h e k) =
    let (p, q) = related-sides r a b in
    let m : length (subexpressions (left_side (related r a b))) ≤ length ts = rw p (reads-count h) in
    let n : length (subexpressions (right_side (related r a b))) ≤ length us = rw q (reads-count k) in
    let z = length-append ts (t ∷ us) in
    omega arith

pub constraints-count : {names : List Token} {ls : List (List ℕ)} {cs : List Constraint} → Constraints names ls cs → length (all_expressions cs) + length cs ≤ token_count ls
constraints-count Constraints.none = omega arith
constraints-count (Constraints.more {c = c} {cs = cs} r rs) =
    let h = constraint-count r in
    let k = constraints-count rs in
    let z = length-append (subexpressions (left_side c) ++ subexpressions (right_side c)) (all_expressions cs) in
    let w = length-append (subexpressions (left_side c)) (subexpressions (right_side c)) in
    omega arith

pub not-over : {m n : ℕ} → (m < n → ⊥) → n ≤ m
not-over {m} {n} h = let k : ¬ (m < n) = h in omega arith

-- What none of the refusals leaves out.
pub accepted_facts : {text : List ℕ} {s : Sheet} → AnswerTo text (sheet s) → Accepted s
accepted_facts {text} (accepted {s} n₁ n₂ n₃ n₄ n₅ n₆ n₇ f) =
    let streams : length (line_tokens text (layout_in text).names_line) ≡ length s.streams = ap length f.names ∙ length-map s.streams (λ x. x.name) in
    let lines : length (constraint_lines text) ≡ length s.constraints = constraints-length f.constraints ∙ sym (meant-length (floors_quotients (release_in text)) f.written) ∙ ap length f.meaning in
    let nodes : length (all_expressions s.constraints) + length s.constraints ≤ token_count (constraint_lines text) =
    omega (arith, constraints-count f.constraints, meant-length (floors_quotients (release_in text)) f.written, meant_expressions (floors_quotients (release_in text)) f.written, ap length f.meaning, ap (λ cs. length (all_expressions cs)) f.meaning) in
    let few : length (line_tokens text (layout_in text).names_line) ≤ stream_bound = not-over (λ l. n₂ (too_many_streams l)) in
    let short : length (constraint_lines text) ≤ constraint_bound = not-over (λ l. n₂ (too_many_constraints l)) in
    let sparse : token_count (constraint_lines text) ≤ token_bound = not-over (λ l. n₂ (too_many_tokens l)) in
    record {
      streams = record {
        some_stream = f.some_stream;
        stream_count = omega arith;
        are_names = f.are_names;
        no_reserved = λ t m. to_false (T-reflects (is_reserved t)) (λ r. n₄ (reserved_name f m r));
        no_repeats = not-fails (are_distinct_reflects (names_of s.streams)) (λ n. n₄ (given_twice f n));
        ranges_ordered = ordered n₅ f;
        ranges_in_bounds = λ x m. record { above = magnitude-above magnitude_bound x.range.low (not-over (λ l. n₅ (low_beyond f m l))); below = magnitude-below magnitude_bound x.range.high (not-over (λ l. n₅ (high_beyond f m l))) };
      };
      constraint_count = omega arith;
      expression_count = omega arith;
      names_known = λ c m. not-fails (sides_below_reflects (length s.streams) c) (λ n. n₄ (unknown_name f m n));
      intervals_in_bounds = λ e m. not-fails (in_bounds_reflects (interval s.streams e)) (λ n. n₆ (leaves_bounds f m n));
      some_letter = letter_count-positive s.streams (ordered n₅ f);
      letters = not-over (λ l. n₇ (too_many_letters f l));
      untils = not-over (λ l. n₇ (too_many_untils f l));
      firsts = not-over (λ l. n₇ (too_many_firsts f l));
      window = not-over (λ l. n₇ (too_wide f l));
    }
  where
    ordered : {text : List ℕ} {s : Sheet} → (Refusal5 text → ⊥) → HasForm text s → (x : Stream) → Memᴰ x s.streams → x.range.low ≤ℤ x.range.high
    ordered n f x m = lt_z_no (not_T (lt_z x.range.high x.range.low) (λ t. n (low_above_high f m (record { lt = t }))))
