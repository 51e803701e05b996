-- The normal form has the sheet's solutions, each extended to the added streams in exactly one way (000, proposition 3: "the rewriting system
-- is sound, in the sense that it preserves the projection of the solution set of the resulting St-CSP into the original variables").
-- From what the entries say of the added streams (NormalForm.Standing), the names that stand in them (NormalForm.Names), and the
-- soundness of intervals. How many entries there are and what they look like: NormalForm.Count, NormalForm.Primitive.
use Prim.Native.Nat.{ℕ, zero, suc, ◌+◌, ◌-◌, ◌<◌}
use native.Mathlib.Omega.{arith}
use native.Mathlib.Nat.{add-suc, suc-add, add-zero, le_of_suc-le-suc, not-suc-le-zero}
use mathlib.Core.Path.{◌≡◌, refl, sym, ◌∙◌, ap, subst, subst₂}
use mathlib.Core.Bool.{cond}
use mathlib.Core.List.{List, [], ◌∷◌}
use lib.Dec.{ltb, lt→ltb}
use lib.Arith.{le→nltb}
use lib.IntN.{ℤ, pos}
use lib.ListN.{length, get_or, get_or-append}
use lib.Seq.{get_or-append-add}
use Rattle.basics.proofs.Lists.{All-member, member-All, All-get_or, below-sum, get_d_map}
use Rattle.basics.specs.Lists.{All}
use Rattle.basics.proofs.Tests.{cond_true, cond_false}
use Rattle.meaning.specs.Value.{Value, absent, number, Streams, ValueStreams, numbers}
use Rattle.meaning.specs.Arithmetic.{Interval, NumberWithin, AnyWithin}
use Rattle.meaning.specs.Expression.{Expression, integer, Sheet, absent_stream, range_of, value_from, value, MeetsFrom, Meets, Solution}
use Rattle.meaning.specs.Interval.{interval, NamesBelow}
use Rattle.meaning.specs.NormalForm.{all_added, normal_form, MeetsEntry, NormalSolution, ExtendsUniquely, CutsBack}
use Rattle.meaning.specs.Scope.{AgreeBelow, NamesKnown}
use Rattle.meaning.proofs.Scope.{AgreeBelow-sym, value_from-agree, MeetsFrom-agree}
use Rattle.meaning.proofs.Interval.{interval-sound}
pub mod Standing
pub mod Names
pub mod Count
pub mod Primitive
pub mod Example
use Standing.{StandFor, all_entries-stand, all_rewritten-meets}
use Names.{all_added-below, sides-All, streams-length}

-- ---- streams that stand for expressions, by number

module _ (v : ValueStreams) (d : Expression) where
  StandFor-get_or : (n : ℕ) (es : List Expression) → StandFor v n es → (j : ℕ) → j < length es → (i : ℕ) → v (n + j) i ≡ value_from v (get_or es j d) i
  StandFor-get_or n [] h j l i = absurd (not-suc-le-zero l)
  StandFor-get_or n (e ∷ es) h zero l i = rw add-zero (h.0 i)
  StandFor-get_or n (e ∷ es) h (suc j) l i = rw (add-suc, ← suc-add) (StandFor-get_or (suc n) es h.1 j (le_of_suc-le-suc l) i)

  get_or-StandFor : (n : ℕ) (es : List Expression) → ((j : ℕ) → j < length es → (i : ℕ) → v (n + j) i ≡ value_from v (get_or es j d) i) → StandFor v n es
  get_or-StandFor n [] f = tt
  get_or-StandFor n (e ∷ es) f =
      (λ i. rw add-zero at (f zero (omega arith) i), get_or-StandFor (suc n) es (λ j l i. rw (add-suc, ← suc-add) at (f (suc j) (omega arith) i)))

-- The expression that is read where no stream is added; it is never asked for.
abbrev pub nothing : Expression
nothing = integer (pos 0)

-- The streams v below number n, and from there on those that stand for the expressions.
extend : ℕ → List Expression → ValueStreams → ValueStreams
extend n es v k i = cond (ltb k n) (v k i) (value_from v (get_or es (k - n) nothing) i)

module _ (n : ℕ) (es : List Expression) (v : ValueStreams) where
  extend_agrees : AgreeBelow n (extend n es v) v
  unfolding extend
  extend_agrees = record { same = λ k i l. cond_true (ltb k n) _ _ (lt→ltb k n l) }

  extend_beyond : (j i : ℕ) → extend n es v (n + j) i ≡ value_from v (get_or es j nothing) i
  unfolding extend
  extend_beyond j i =
      let e : n + j - n ≡ j = omega arith in
      cond_false (ltb (n + j) n) _ _ (le→nltb (n + j) n (omega arith)) ∙ ap (λ k. value_from v (get_or es k nothing) i) e

  extend_stands : All (NamesBelow n) es → StandFor (extend n es v) n es
  extend_stands h =
      get_or-StandFor (extend n es v) nothing n es
      (λ j l i. extend_beyond j i ∙ sym (value_from-agree extend_agrees (get_or es j nothing) (All-get_or (NamesBelow n) es h j nothing l) i))

-- ---- the numbers of streams

-- The number of a value; 0 where there is none.
number_or_zero : Value → ℤ
number_or_zero absent = pos 0
number_or_zero (number z) = z

abbrev numbers_of : ValueStreams → Streams
numbers_of v k i = number_or_zero (v k i)

is_number : (I : Interval) (x : Value) → NumberWithin I x → x ≡ number (number_or_zero x)
unfolding number_or_zero
is_number I absent h = absurd h
is_number I (number z) h = refl

-- ---- the added streams of a sheet

-- How many there are, and the expression that the j-th of them stands for.
abbrev pub added_streams : Sheet → ℕ
added_streams s = length (all_added s.constraints)

abbrev pub added_expression : Sheet → ℕ → Expression
added_expression s j = get_or (all_added s.constraints) j nothing

added_expression-below : {s : Sheet} → NamesKnown s → (j : ℕ) → j < added_streams s → NamesBelow (length s.streams) (added_expression s j)
added_expression-below {s} known j l =
    let n = length s.streams in
    All-get_or (NamesBelow n) (all_added s.constraints) (all_added-below n s.constraints (sides-All known)) j nothing l

module _ (s : Sheet) where
  -- The sheet's streams keep their ranges.
  pub range-kept : (k : ℕ) → k < length s.streams → range_of (normal_form s).streams k ≡ range_of s.streams k
  unfolding normal_form
  range-kept k l = ap (λ t. t.range) (get_or-append s.streams _ absent_stream k l)

  -- "An added stream ranges over the interval of the expression it stands for".
  pub range-added : (j : ℕ) → j < added_streams s → range_of (normal_form s).streams (length s.streams + j) ≡ interval s.streams (added_expression s j)
  unfolding normal_form
  range-added j l = ap (λ t. t.range) (get_or-append-add s.streams _ j absent_stream ∙ get_d_map _ (all_added s.constraints) j nothing absent_stream l)

  -- What holds of the sheet's streams and of the added ones holds of all streams of the normal form.
  every-stream : (P : ℕ → Type 0) → ((k : ℕ) → k < length s.streams → P k) → ((j : ℕ) → j < added_streams s → P (length s.streams + j))
      → (k : ℕ) → k < length (normal_form s).streams → P k
  every-stream P f g k l = below-sum P (length s.streams) (added_streams s) f g k (omega (arith, streams-length s))

  -- ---- from the normal form to the sheet

  normal_form-stands : {v : ValueStreams} → NormalSolution s v → All (MeetsFrom v) s.constraints × StandFor v (length s.streams) (all_added s.constraints)
  normal_form-stands {v} h =
      let n = length s.streams in
      let stands = (all_entries-stand v n s.constraints).0 (member-All (MeetsEntry v) _ h.entries) in
      ((all_rewritten-meets v n s.constraints stands).0 (member-All (MeetsFrom v) _ h.lines), stands)

  -- In a solution of the normal form each added stream has the values of the expression that it stands for.
  pub added-value : {v : ValueStreams} → NormalSolution s v
      → (j : ℕ) → j < added_streams s → (i : ℕ) → v (length s.streams + j) i ≡ value_from v (added_expression s j) i
  added-value {v} h j l i = StandFor-get_or v nothing (length s.streams) (all_added s.constraints) (normal_form-stands h).1 j l i

  -- Streams of numbers that agree with a solution of the normal form on the sheet's streams are a solution of the sheet, whatever stands beyond them.
  cut-solves : NamesKnown s → {v : ValueStreams} {w : Streams} → NormalSolution s v → AgreeBelow (length s.streams) v (numbers w) → Solution s w
  unfolding Meets
  cut-solves known {v} {w} h g =
      record {
        ranged = λ k i l. subst₂ AnyWithin (range-kept k l) (g.same k i l) (h.ranged k i (omega (arith, streams-length s)));
        meets = λ c m. MeetsFrom-agree g c (known.sides c m) (All-member (MeetsFrom v) (normal_form-stands h).0 m);
      }

  -- Each solution of the normal form, cut back to the sheet's streams, is a solution of the sheet.
  pub cut-back : NamesKnown s → {v : ValueStreams} → NormalSolution s v → CutsBack s v
  cut-back known {v} h =
      let g : AgreeBelow (length s.streams) v (numbers (numbers_of v)) = record { same = λ k i l. is_number (range_of s.streams k) (v k i) (h.numbered k i l) } in
      record { cut = numbers_of v; agrees = g; solves = cut-solves known h g }

  -- Two solutions of the normal form that agree on the sheet's streams agree on the added streams too.
  pub added-determined : NamesKnown s → {v w : ValueStreams} → NormalSolution s v → NormalSolution s w
      → AgreeBelow (length s.streams) v w → AgreeBelow (length (normal_form s).streams) v w
  added-determined known {v} {w} h h' g =
      record {
        same = λ k i l.
            every-stream (λ k. v k i ≡ w k i) (λ k l. g.same k i l)
            (λ j l. added-value h j l i ∙ value_from-agree g (added_expression s j) (added_expression-below known j l) i ∙ sym (added-value h' j l i)) k l;
      }

  -- ---- from the sheet to the normal form

  -- A solution of the sheet whose further streams are what they stand for is a solution of the normal form.
  stands-normal_form : NamesKnown s → {w : Streams} {v : ValueStreams} → Solution s w
      → AgreeBelow (length s.streams) v (numbers w) → StandFor v (length s.streams) (all_added s.constraints) → NormalSolution s v
  unfolding value Meets
  stands-normal_form known {w} {v} h g stands =
      let n = length s.streams in
      let es = all_added s.constraints in
      let sound = interval-sound s.streams w h.ranged in
      let back = AgreeBelow-sym g in
      let met = member-All (MeetsFrom v) s.constraints (λ c m. MeetsFrom-agree back c (known.sides c m) (h.meets c m)) in
      record {
        numbered = λ k i l. subst (NumberWithin (range_of s.streams k)) (back.same k i l) (h.ranged k i l);
        ranged = λ k i l.
            every-stream (λ k. AnyWithin (range_of (normal_form s).streams k) (v k i))
            (λ k l. subst₂ AnyWithin (sym (range-kept k l)) (back.same k i l) (h.ranged k i l))
            (λ j l.
            subst₂ AnyWithin (sym (range-added j l))
            (sym (StandFor-get_or v nothing n es stands j l i ∙ value_from-agree g (added_expression s j) (added_expression-below known j l) i))
            (sound (added_expression s j) (added_expression-below known j l) i)) k l;
        lines = λ c m. All-member (MeetsFrom v) ((all_rewritten-meets v n s.constraints stands).1 met) m;
        entries = λ c m. All-member (MeetsEntry v) ((all_entries-stand v n s.constraints).1 stands) m;
      }

  -- Each solution of the sheet extends to the added streams, and in one way only.
  pub extends_uniquely : NamesKnown s → {w : Streams} → Solution s w → ExtendsUniquely s w
  extends_uniquely known {w} h =
      let n = length s.streams in
      let es = all_added s.constraints in
      let agrees = extend_agrees n es (numbers w) in
      let stands = extend_stands n es (numbers w) (all_added-below n s.constraints (sides-All known)) in
      let solves = stands-normal_form known h agrees stands in
      record {
        extension = extend n es (numbers w);
        agrees = agrees;
        solves = solves;
        only = λ v g k. added-determined known k solves (record { same = λ k i l. g.same k i l ∙ sym (agrees.same k i l) });
      }
