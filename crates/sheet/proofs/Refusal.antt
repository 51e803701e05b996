-- Each of the refusals 1 to 7 is decided, by the test that Reading names for it. From the laws of Form, and because the tests of numbers,
-- bytes and tokens decide what they test.
use Prim.Native.Nat.{ℕ, zero, suc, ◌+◌, ◌<◌}
use mathlib.Core.Path.{◌≡◌, sym, subst, ◌∙◌}
use mathlib.Core.Bool.{Bool, false, not, cond}
use mathlib.Core.List.Memᴰ
use mathlib.Core.List.{List, [], ◌∷◌, ◌++◌, Memᴰ}
use mathlib.Core.Logic.{◌⊎◌, inl, inr}
use mathlib.Core.Option.{none, none-ne-some}
use native.Mathlib.Omega.{arith}
use lib.Dec.{T, eqb}
use lib.IntN.{ℤ, pos, neg_ℤ, nat_abs}
use lib.ListN.{length, take}
use lib.Seq.{take-nil}
use lib.Signed.{le_z, lt_z, ◌≤ℤ◌, ◌<ℤ◌}
use Rattle.basics.specs.Count.{NoRepeats}
use Rattle.basics.proofs.Reflects.{Reflects, holds, fails, decide, reflects_iff, or_reflects, and_reflects, not_reflects, ltb_reflects, T-reflects, false_reflects}
use Rattle.text.specs.Bytes.{Token}
use Rattle.text.specs.Token.{is_reserved}
use Rattle.text.proofs.Token.{is_one_of_reflects}
use Rattle.basics.specs.Lists.{Some}
use Rattle.basics.proofs.Lists.{Some-member, member-Some}
use Rattle.meaning.proofs.Facts.{join_over-member, join_over_origin}
use Rattle.meaning.specs.Arithmetic.{Interval}
use Rattle.meaning.specs.Expression.{Expression, integer, name, first, next, negation, binary, conditional, fby, Constraint, left_side, right_side, Stream, Sheet}
use Rattle.meaning.specs.Interval.{interval, subexpressions, NamesBelow, SidesBelow}
use Rattle.meaning.specs.Letter.{letter_count}
use Rattle.meaning.specs.Window.{all_firsts, all_untils, B, D}
use Rattle.sheet.specs.Form.{line_tokens, constraint_lines, names_of, HasForm, layout_in}
use Rattle.sheet.specs.Refusal.{byte_bound, stream_bound, constraint_bound, token_bound, bracket_bound, magnitude_bound, letter_bound, until_bound, first_bound, window_bound, is_allowed, Refusal1, too_many_bytes, barred_byte, token_count, occurrences, Refusal2, too_many_streams, too_many_constraints, too_many_tokens, too_deep, Refusal3, StandsIn, on_left, on_right, Refusal4, given_twice, reserved_name, unknown_name, Refusal5, low_beyond, high_beyond, integer_beyond, low_above_high, InBounds, Refusal6, leaves_bounds, Refusal7, too_many_letters, too_many_untils, too_many_firsts, too_wide}
use Rattle.sheet.specs.Reading.{any_of, refuses1, too_deep_from, refuses2, form_of, are_distinct, names_below, sides_below, refuses4, all_expressions, is_integer_beyond, is_range_faulty, refuses5, in_bounds, refuses6, refuses7}
use Rattle.sheet.proofs.Form.{form_of-complete, form_unique, form_decided}

-- ---- Tests of lists

pub any_of_reflects : {X : Type 0} {P : X → Type 0} (f : X → Bool) (xs : List X) → ((x : X) → Reflects (P x) (f x)) → Reflects (Some P xs) (any_of f xs)
any_of_reflects f [] r = fails (λ h. h)
any_of_reflects f (x ∷ xs) r = or_reflects (r x) (any_of_reflects f xs r)

-- ---- Refusals 1 and 2

pub refusal1_reflects : (text : List ℕ) → Reflects (Refusal1 text) (refuses1 text)
unfolding refuses1
refusal1_reflects text = reflects_iff to from (or_reflects (ltb_reflects byte_bound (length text)) (any_of_reflects (λ b. not (is_allowed b)) text (λ b. false_reflects (is_allowed b))))
  where
    to : (byte_bound < length text) ⊎ Some (λ b. is_allowed b ≡ false) text → Refusal1 text
    to (inl l) = too_many_bytes l
    to (inr h) = let o = member-Some (λ b. is_allowed b ≡ false) text h in barred_byte o.1 o.2

    from : Refusal1 text → (byte_bound < length text) ⊎ Some (λ b. is_allowed b ≡ false) text
    from (too_many_bytes l) = inl l
    from (barred_byte m e) = inr (Some-member (λ b. is_allowed b ≡ false) m e)

-- Up to the place, and with o and c before it, there are more than 32 more `(` than `)`.
record DeepAt (o c : ℕ) (l : List ℕ) : Type 0 where
  place : ℕ
  deep : bracket_bound + (c + occurrences 41 (take place l)) < o + occurrences 40 (take place l)

abbrev DeepAfter : ℕ → ℕ → ℕ → List ℕ → Type 0
DeepAfter o c b bs = DeepAt (o + cond (eqb b 40) 1 0) (c + cond (eqb b 41) 1 0) bs

too_deep_from_reflects : (o c : ℕ) (l : List ℕ) → Reflects (DeepAt o c l) (too_deep_from o c l)
unfolding too_deep_from
too_deep_from_reflects o c [] = reflects_iff to from (ltb_reflects (bracket_bound + c) o)
  where
    to : bracket_bound + c < o → DeepAt o c []
    to l = record { place = 0; deep = omega arith }

    from : DeepAt o c [] → bracket_bound + c < o
    from h = let z = rw (take-nil h.place) at h.deep in omega arith
too_deep_from_reflects o c (b ∷ bs) = reflects_iff to from (or_reflects (ltb_reflects (bracket_bound + c) o) (too_deep_from_reflects (o + cond (eqb b 40) 1 0) (c + cond (eqb b 41) 1 0) bs))
  where
    to : (bracket_bound + c < o) ⊎ DeepAfter o c b bs → DeepAt o c (b ∷ bs)
    to (inl l) = record { place = 0; deep = omega arith }
    to (inr h) = record { place = suc h.place; deep = omega (arith, h.deep) }

    at : (n : ℕ) → bracket_bound + (c + occurrences 41 (take n (b ∷ bs))) < o + occurrences 40 (take n (b ∷ bs)) → (bracket_bound + c < o) ⊎ DeepAfter o c b bs
    at zero l = inl (omega arith)
    at (suc n) l = inr (record { place = n; deep = omega arith })

    from : DeepAt o c (b ∷ bs) → (bracket_bound + c < o) ⊎ DeepAfter o c b bs
    from h = at h.place h.deep

abbrev Fault2 : List ℕ → Type 0
Fault2 text =
    (((stream_bound < length (line_tokens text (layout_in text).names_line)) ⊎ (constraint_bound < length (constraint_lines text))) ⊎ (token_bound < token_count (constraint_lines text))) ⊎ Some (DeepAt 0 0) (constraint_lines text)

pub refusal2_reflects : (text : List ℕ) → Reflects (Refusal2 text) (refuses2 text)
unfolding refuses2
refusal2_reflects text =
    reflects_iff to from
    (or_reflects
    (or_reflects (or_reflects (ltb_reflects stream_bound (length (line_tokens text (layout_in text).names_line))) (ltb_reflects constraint_bound (length (constraint_lines text)))) (ltb_reflects token_bound (token_count (constraint_lines text))))
    (any_of_reflects (too_deep_from 0 0) (constraint_lines text) (too_deep_from_reflects 0 0)))
  where
    to : Fault2 text → Refusal2 text
    to (inl (inl (inl l))) = too_many_streams l
    to (inl (inl (inr l))) = too_many_constraints l
    to (inl (inr l)) = too_many_tokens l
    to (inr h) = let o = member-Some (DeepAt 0 0) (constraint_lines text) h in too_deep o.1 o.2.place (omega (arith, o.2.deep))

    from : Refusal2 text → Fault2 text
    from (too_many_streams l) = inl (inl (inl l))
    from (too_many_constraints l) = inl (inl (inr l))
    from (too_many_tokens l) = inl (inr l)
    from (too_deep m p l) = inr (Some-member (DeepAt 0 0) m (record { place = p; deep = omega arith }))

-- ---- Refusal 3

pub refusal3_none : (text : List ℕ) → form_of text ≡ none → Refusal3 text
refusal3_none text e = record { formless = λ s f. none-ne-some s (sym e ∙ form_of-complete f) }

-- ---- The faults of a sheet behind refusals 4 to 7

pub are_distinct_reflects : (ts : List Token) → Reflects (NoRepeats ts) (are_distinct ts)
are_distinct_reflects [] = holds tt
are_distinct_reflects (t ∷ ts) = and_reflects (not_reflects (is_one_of_reflects ts t)) (are_distinct_reflects ts)

pub names_below_reflects : (n : ℕ) (e : Expression) → Reflects (NamesBelow n e) (names_below n e)
names_below_reflects n (integer z) = holds tt
names_below_reflects n (name k) = ltb_reflects k n
names_below_reflects n (first e) = names_below_reflects n e
names_below_reflects n (next e) = names_below_reflects n e
names_below_reflects n (negation e) = names_below_reflects n e
names_below_reflects n (binary o a b) = and_reflects (names_below_reflects n a) (names_below_reflects n b)
names_below_reflects n (conditional c a b) =
    reflects_iff (λ h. (h.0, h.1.0, h.1.1)) (λ h. (h.0, (h.1, h.2))) (and_reflects (names_below_reflects n c) (and_reflects (names_below_reflects n a) (names_below_reflects n b)))
names_below_reflects n (fby a b) = and_reflects (names_below_reflects n a) (names_below_reflects n b)

pub sides_below_reflects : (n : ℕ) (c : Constraint) → Reflects (SidesBelow n c) (sides_below n c)
sides_below_reflects n c = reflects_iff (λ h. record { left = h.0; right = h.1 }) (λ h. (h.left, h.right)) (and_reflects (names_below_reflects n (left_side c)) (names_below_reflects n (right_side c)))

abbrev pub Fault4 : Sheet → Type 0
Fault4 s = ((NoRepeats (names_of s.streams) → ⊥) ⊎ Some (λ t. T (is_reserved t)) (names_of s.streams)) ⊎ Some (λ c. SidesBelow (length s.streams) c → ⊥) s.constraints

pub fault4_reflects : (s : Sheet) → Reflects (Fault4 s) (refuses4 s)
unfolding refuses4
fault4_reflects s =
    or_reflects
    (or_reflects (not_reflects (are_distinct_reflects (names_of s.streams))) (any_of_reflects is_reserved (names_of s.streams) (λ t. T-reflects (is_reserved t))))
    (any_of_reflects (λ c. not (sides_below (length s.streams) c)) s.constraints (λ c. not_reflects (sides_below_reflects (length s.streams) c)))

-- `all_expressions` lists what stands in the constraints.
abbrev side_expressions : Constraint → List Expression
side_expressions c = subexpressions (left_side c) ++ subexpressions (right_side c)

pub stands-member : (cs : List Constraint) {e : Expression} → StandsIn cs e → Memᴰ e (all_expressions cs)
stands-member cs (on_left {c} m k) = join_over-member side_expressions cs _ _ m (Memᴰ.append_left (subexpressions (right_side c)) k)
stands-member cs (on_right {c} m k) = join_over-member side_expressions cs _ _ m (Memᴰ.append_right (subexpressions (left_side c)) k)

pub member-stands : (cs : List Constraint) {e : Expression} → Memᴰ e (all_expressions cs) → StandsIn cs e
member-stands cs {e} m =
    let o = join_over_origin side_expressions cs e m in
    by o.0 o.1 (Memᴰ.append_cases (subexpressions (left_side o.0)) o.2)
  where
    by : (c : Constraint) → Memᴰ c cs → Memᴰ e (subexpressions (left_side c)) ⊎ Memᴰ e (subexpressions (right_side c)) → StandsIn cs e
    by c k (inl h) = on_left k h
    by c k (inr h) = on_right k h

<ℤ_reflects : (a b : ℤ) → Reflects (a <ℤ b) (lt_z a b)
<ℤ_reflects a b = reflects_iff (λ t. record { lt = t }) (λ h. h.lt) (T-reflects (lt_z a b))

≤ℤ_reflects : (a b : ℤ) → Reflects (a ≤ℤ b) (le_z a b)
≤ℤ_reflects a b = reflects_iff (λ t. record { le = t }) (λ h. h.le) (T-reflects (le_z a b))

abbrev pub RangeFault : Stream → Type 0
RangeFault x = ((magnitude_bound < nat_abs x.range.low) ⊎ (magnitude_bound < nat_abs x.range.high)) ⊎ (x.range.high <ℤ x.range.low)

abbrev IntegerFault : Expression → Type 0
IntegerFault (integer z) = magnitude_bound < nat_abs z
IntegerFault (name k) = ⊥
IntegerFault (first e) = ⊥
IntegerFault (next e) = ⊥
IntegerFault (negation e) = ⊥
IntegerFault (binary o a b) = ⊥
IntegerFault (conditional c a b) = ⊥
IntegerFault (fby a b) = ⊥

integer_fault_reflects : (e : Expression) → Reflects (IntegerFault e) (is_integer_beyond e)
integer_fault_reflects (integer z) = ltb_reflects magnitude_bound (nat_abs z)
integer_fault_reflects (name k) = fails (λ h. h)
integer_fault_reflects (first e) = fails (λ h. h)
integer_fault_reflects (next e) = fails (λ h. h)
integer_fault_reflects (negation e) = fails (λ h. h)
integer_fault_reflects (binary o a b) = fails (λ h. h)
integer_fault_reflects (conditional c a b) = fails (λ h. h)
integer_fault_reflects (fby a b) = fails (λ h. h)

abbrev pub Fault5 : Sheet → Type 0
Fault5 s = Some RangeFault s.streams ⊎ Some IntegerFault (all_expressions s.constraints)

pub fault5_reflects : (s : Sheet) → Reflects (Fault5 s) (refuses5 s)
unfolding refuses5
fault5_reflects s =
    or_reflects
    (any_of_reflects is_range_faulty s.streams (λ x. or_reflects (or_reflects (ltb_reflects magnitude_bound (nat_abs x.range.low)) (ltb_reflects magnitude_bound (nat_abs x.range.high))) (<ℤ_reflects x.range.high x.range.low)))
    (any_of_reflects is_integer_beyond (all_expressions s.constraints) integer_fault_reflects)

pub in_bounds_reflects : (I : Interval) → Reflects (InBounds I) (in_bounds I)
in_bounds_reflects I = reflects_iff (λ h. record { above = h.0; below = h.1 }) (λ h. (h.above, h.below)) (and_reflects (≤ℤ_reflects (neg_ℤ (pos magnitude_bound)) I.low) (≤ℤ_reflects I.high (pos magnitude_bound)))

abbrev pub Fault6 : Sheet → Type 0
Fault6 s = Some (λ e. InBounds (interval s.streams e) → ⊥) (all_expressions s.constraints)

pub fault6_reflects : (s : Sheet) → Reflects (Fault6 s) (refuses6 s)
unfolding refuses6
fault6_reflects s = any_of_reflects (λ e. not (in_bounds (interval s.streams e))) (all_expressions s.constraints) (λ e. not_reflects (in_bounds_reflects (interval s.streams e)))

abbrev pub Fault7 : Sheet → Type 0
Fault7 s =
    (((letter_bound < letter_count s.streams) ⊎ (until_bound < length (all_untils s.constraints))) ⊎ (first_bound < length (all_firsts s.constraints))) ⊎ (window_bound < D s.constraints + B s.constraints)

pub fault7_reflects : (s : Sheet) → Reflects (Fault7 s) (refuses7 s)
unfolding refuses7
fault7_reflects s =
    or_reflects
    (or_reflects (or_reflects (ltb_reflects letter_bound (letter_count s.streams)) (ltb_reflects until_bound (length (all_untils s.constraints)))) (ltb_reflects first_bound (length (all_firsts s.constraints))))
    (ltb_reflects window_bound (D s.constraints + B s.constraints))

-- ---- Refusals 4 to 7, of a text that has a sheet's form

module _ {text : List ℕ} {s : Sheet} (f : HasForm text s) where
  -- What is a fault of any sheet that the text has the form of is a fault of s.
  same-sheet : (P : Sheet → Type 0) {s' : Sheet} → HasForm text s' → P s' → P s
  same-sheet P g p = subst P (form_unique g f) p

  pub refusal4_reflects : Reflects (Refusal4 text) (refuses4 s)
  refusal4_reflects = reflects_iff to from (fault4_reflects s)
    where
      to : Fault4 s → Refusal4 text
      to (inl (inl n)) = given_twice f n
      to (inl (inr h)) = let o = member-Some (λ t. T (is_reserved t)) (names_of s.streams) h in reserved_name f o.1 o.2
      to (inr h) = let o = member-Some (λ c. SidesBelow (length s.streams) c → ⊥) s.constraints h in unknown_name f o.1 o.2

      from : Refusal4 text → Fault4 s
      from (given_twice g n) = same-sheet Fault4 g (inl (inl n))
      from (reserved_name g m r) = same-sheet Fault4 g (inl (inr (Some-member (λ t. T (is_reserved t)) m r)))
      from (unknown_name {s = s'} g m n) = same-sheet Fault4 g (inr (Some-member (λ c. SidesBelow (length s'.streams) c → ⊥) m n))

  pub refusal5_reflects : Reflects (Refusal5 text) (refuses5 s)
  refusal5_reflects = reflects_iff to from (fault5_reflects s)
    where
      of_range : (x : Stream) → Memᴰ x s.streams → RangeFault x → Refusal5 text
      of_range x m (inl (inl l)) = low_beyond f m l
      of_range x m (inl (inr l)) = high_beyond f m l
      of_range x m (inr l) = low_above_high f m l

      of_integer : (e : Expression) → StandsIn s.constraints e → IntegerFault e → Refusal5 text
      of_integer (integer z) m l = integer_beyond f m l
      of_integer (name k) m l = absurd l
      of_integer (first e) m l = absurd l
      of_integer (next e) m l = absurd l
      of_integer (negation e) m l = absurd l
      of_integer (binary o a b) m l = absurd l
      of_integer (conditional c a b) m l = absurd l
      of_integer (fby a b) m l = absurd l

      to : Fault5 s → Refusal5 text
      to (inl h) = let o = member-Some RangeFault s.streams h in of_range o.0 o.1 o.2
      to (inr h) = let o = member-Some IntegerFault (all_expressions s.constraints) h in of_integer o.0 (member-stands s.constraints o.1) o.2

      from : Refusal5 text → Fault5 s
      from (low_beyond g m l) = same-sheet Fault5 g (inl (Some-member RangeFault m (inl (inl l))))
      from (high_beyond g m l) = same-sheet Fault5 g (inl (Some-member RangeFault m (inl (inr l))))
      from (integer_beyond {s = s'} g m l) = same-sheet Fault5 g (inr (Some-member IntegerFault (stands-member s'.constraints m) l))
      from (low_above_high g m l) = same-sheet Fault5 g (inl (Some-member RangeFault m (inr l)))

  pub refusal6_reflects : Reflects (Refusal6 text) (refuses6 s)
  refusal6_reflects = reflects_iff to from (fault6_reflects s)
    where
      to : Fault6 s → Refusal6 text
      to h =
          let o = member-Some (λ e. InBounds (interval s.streams e) → ⊥) (all_expressions s.constraints) h in
          leaves_bounds f (member-stands s.constraints o.1) o.2

      from : Refusal6 text → Fault6 s
      from (leaves_bounds {s = s'} g m n) = same-sheet Fault6 g (Some-member (λ e. InBounds (interval s'.streams e) → ⊥) (stands-member s'.constraints m) n)

  pub refusal7_reflects : Reflects (Refusal7 text) (refuses7 s)
  refusal7_reflects = reflects_iff to from (fault7_reflects s)
    where
      to : Fault7 s → Refusal7 text
      to (inl (inl (inl l))) = too_many_letters f l
      to (inl (inl (inr l))) = too_many_untils f l
      to (inl (inr l)) = too_many_firsts f l
      to (inr l) = too_wide f l

      from : Refusal7 text → Fault7 s
      from (too_many_letters g l) = same-sheet Fault7 g (inl (inl (inl l)))
      from (too_many_untils g l) = same-sheet Fault7 g (inl (inl (inr l)))
      from (too_many_firsts g l) = same-sheet Fault7 g (inl (inr l))
      from (too_wide g l) = same-sheet Fault7 g (inr l)

-- ---- Every refusal is decided

module _ {text : List ℕ} where
  -- Refusals 4 to 7 apply only to a text that has a sheet's form.
  pub refusal4_form : Refusal4 text → (s : Sheet) × HasForm text s
  refusal4_form (given_twice f n) = (_, f)
  refusal4_form (reserved_name f m r) = (_, f)
  refusal4_form (unknown_name f m n) = (_, f)

  pub refusal5_form : Refusal5 text → (s : Sheet) × HasForm text s
  refusal5_form (low_beyond f m l) = (_, f)
  refusal5_form (high_beyond f m l) = (_, f)
  refusal5_form (integer_beyond f m l) = (_, f)
  refusal5_form (low_above_high f m l) = (_, f)

  pub refusal6_form : Refusal6 text → (s : Sheet) × HasForm text s
  refusal6_form (leaves_bounds f m n) = (_, f)

  pub refusal7_form : Refusal7 text → (s : Sheet) × HasForm text s
  refusal7_form (too_many_letters f l) = (_, f)
  refusal7_form (too_many_untils f l) = (_, f)
  refusal7_form (too_many_firsts f l) = (_, f)
  refusal7_form (too_wide f l) = (_, f)

pub refusal1_decided : (text : List ℕ) → Dec (Refusal1 text)
refusal1_decided text = decide (refusal1_reflects text)

module _ (text : List ℕ) where
  pub refusal2_decided : Dec (Refusal2 text)
  refusal2_decided = decide (refusal2_reflects text)

  pub refusal3_decided : Dec (Refusal3 text)
  refusal3_decided = by (form_decided text)
    where
      by : Dec ((s : Sheet) × HasForm text s) → Dec (Refusal3 text)
      by (yes f) = no (λ r. r.formless f.0 f.1)
      by (no n) = yes (record { formless = λ s f. n (s, f) })

  by_form : {R : Type 0} {test : Sheet → Bool} → (R → (s : Sheet) × HasForm text s) → ((s : Sheet) → HasForm text s → Reflects R (test s)) → Dec R
  by_form {R} {test} form tested = by (form_decided text)
    where
      by : Dec ((s : Sheet) × HasForm text s) → Dec R
      by (yes f) = decide (tested f.0 f.1)
      by (no n) = no (λ r. n (form r))

  pub refusal4_decided : Dec (Refusal4 text)
  refusal4_decided = by_form {test = refuses4} refusal4_form (λ s f. refusal4_reflects f)

  pub refusal5_decided : Dec (Refusal5 text)
  refusal5_decided = by_form {test = refuses5} refusal5_form (λ s f. refusal5_reflects f)

  pub refusal6_decided : Dec (Refusal6 text)
  refusal6_decided = by_form {test = refuses6} refusal6_form (λ s f. refusal6_reflects f)

  pub refusal7_decided : Dec (Refusal7 text)
  refusal7_decided = by_form {test = refuses7} refusal7_form (λ s f. refusal7_reflects f)
