-- The firsts of an accepted sheet: what each stands before has names of the sheet's streams and intervals within the bound, so its value in a
-- record of letters in range is none or within the bound. From the intervals of subexpressions (meaning) and the bounds of an accepted sheet.
use Prim.Native.Nat.{ℕ, ◌<◌}
use native.Mathlib.Omega.{arith}
use mathlib.Core.Path.{refl, subst}
use mathlib.Core.List.{List, [], ◌∷◌, ◌++◌, map, Memᴰ}
use lib.ListN.{length, get_or, length-map}
use Rattle.basics.proofs.Lists.{All-append, member-All, All-member}
use Rattle.basics.specs.Lists.{All}
use Rattle.automaton.specs.Words.{AllBelow}
use Rattle.meaning.specs.Value.{Streams}
use Rattle.meaning.specs.Arithmetic.{Within, AnyWithin}
use Rattle.meaning.specs.Expression.{Expression, integer, name, first, next, negation, binary, conditional, fby, Constraint, left_side, right_side, Stream, Sheet, range_of, value}
use Rattle.meaning.specs.Interval.{interval, subexpressions, NamesBelow}
use Rattle.meaning.specs.Letter.{Record, OfLetters, letter_of, record_of, streams_of}
use Rattle.meaning.specs.Window.{firsts, side_firsts, all_firsts, D}
use Rattle.meaning.specs.Situation.{first_values}
use Rattle.meaning.proofs.Facts.{get_or-member}
use Rattle.meaning.proofs.Bounds.{first-within}
use Rattle.meaning.proofs.Window.{value-near}
use Rattle.meaning.proofs.Letter.{letter-within}
use Rattle.meaning.proofs.Interval.{interval-sound}
use Rattle.sheet.specs.Refusal.{on_left, on_right, InBounds}
use Rattle.sheet.specs.Accepted.{Accepted}
use Rattle.nodes.specs.Bounded.{SmallValue}
use Rattle.nodes.proofs.Accepted.{any_small, lasting, lasting_same, lasting_ranged}
use Rattle.prepare.specs.Key.{width}
use Rattle.explore.specs.Rows.{letter_numbers}
use Rattle.explore.proofs.RowLaws.{below-letters}

module _ (ss : List Stream) where
  -- Its names are those of streams, and the intervals of its subexpressions are within the bound.
  pub record Fine (e : Expression) : Type 0 where
    pub names : NamesBelow (length ss) e
    pub bounds : All (λ f. InBounds (interval ss f)) (subexpressions e)

  -- The firsts inside such an expression are such expressions.
  firsts-inside : (e : Expression) → NamesBelow (length ss) e → All (λ f. InBounds (interval ss f)) (subexpressions e) → All (λ f. Fine (first f)) (firsts e)
  unfolding firsts subexpressions
  firsts-inside (integer z) n b = tt
  firsts-inside (name k) n b = tt
  firsts-inside (first e) n b = (record { names = n; bounds = b }, firsts-inside e n b.1)
  firsts-inside (next e) n b = firsts-inside e n b.1
  firsts-inside (negation e) n b = firsts-inside e n b.1
  firsts-inside (binary o x y) n b =
      let p = (All-append (λ f. InBounds (interval ss f)) (subexpressions x) (subexpressions y)).0 b.1 in
      (All-append (λ f. Fine (first f)) (firsts x) (firsts y)).1 (firsts-inside x n.0 p.0, firsts-inside y n.1 p.1)
  firsts-inside (conditional c x y) n b =
      let p = (All-append (λ f. InBounds (interval ss f)) (subexpressions c) (subexpressions x ++ subexpressions y)).0 b.1 in
      let q = (All-append (λ f. InBounds (interval ss f)) (subexpressions x) (subexpressions y)).0 p.1 in
      (All-append (λ f. Fine (first f)) (firsts c) (firsts x ++ firsts y)).1
      (firsts-inside c n.0 p.0, (All-append (λ f. Fine (first f)) (firsts x) (firsts y)).1 (firsts-inside x n.1 q.0, firsts-inside y n.2 q.1))
  firsts-inside (fby x y) n b =
      let p = (All-append (λ f. InBounds (interval ss f)) (subexpressions x) (subexpressions y)).0 b.1 in
      (All-append (λ f. Fine (first f)) (firsts x) (firsts y)).1 (firsts-inside x n.0 p.0, firsts-inside y n.1 p.1)

module _ (s : Sheet) (accepted : Accepted s) where
  firsts-of : (l : List Constraint) → ((c : Constraint) → Memᴰ c l → Memᴰ c s.constraints) → All (λ f. Fine s.streams (first f)) (all_firsts l)
  firsts-of [] h = tt
  firsts-of (c ∷ l) h =
      let m = h c (Memᴰ.head refl) in
      let n = accepted.names_known c m in
      let left = firsts-inside s.streams (left_side c) n.left (member-All _ (subexpressions (left_side c)) (λ f k. accepted.intervals_in_bounds f (on_left m k))) in
      let right = firsts-inside s.streams (right_side c) n.right (member-All _ (subexpressions (right_side c)) (λ f k. accepted.intervals_in_bounds f (on_right m k))) in
      (All-append (λ f. Fine s.streams (first f)) (side_firsts c) (all_firsts l)).1
      ((All-append (λ f. Fine s.streams (first f)) (firsts (left_side c)) (firsts (right_side c))).1 (left, right), firsts-of l (λ d k. h d (Memᴰ.tail k)))

  pub firsts_fine : All (λ f. Fine s.streams (first f)) (all_firsts s.constraints)
  firsts_fine = firsts-of s.constraints (λ c m. m)

  module _ (whole_record : Record) (letters : OfLetters s.streams whole_record) (long : D s.constraints < length whole_record) where
    -- The course that stays at the record's last letter.
    abbrev pub endless : Streams
    endless = lasting (streams_of whole_record) (length whole_record)

    pub endless-ranged : (k i : ℕ) → k < length s.streams → Within (range_of s.streams k) (endless k i)
    endless-ranged = lasting_ranged (streams_of whole_record) (length whole_record) s.streams (λ k i b h. letter-within (letters (get_or whole_record i []) (get_or-member whole_record i [] h)) k b) (omega arith)

    -- The value of what a first stands before, if it is a number, lies in its interval.
    pub first-value : (e : Expression) → Memᴰ e (all_firsts s.constraints) → AnyWithin (interval s.streams e) (value (streams_of whole_record) e 0)
    first-value e m =
        let f = All-member (λ f. Fine s.streams (first f)) firsts_fine m in
        let r = first-within s.constraints e m in
        subst (AnyWithin (interval s.streams e)) (value-near endless (streams_of whole_record) (length whole_record) (lasting_same (streams_of whole_record) (length whole_record)) e 0 (omega arith))
        (interval-sound s.streams endless endless-ranged e f.names 0)

    values-bounded : (l : List Expression) → ((e : Expression) → Memᴰ e l → Memᴰ e (all_firsts s.constraints)) → All SmallValue (map (λ e. value (streams_of whole_record) e 0) l)
    unfolding interval subexpressions
    values-bounded [] h = tt
    values-bounded (e ∷ l) h =
        let m = h e (Memᴰ.head refl) in
        let f = All-member (λ f. Fine s.streams (first f)) firsts_fine m in (
          any_small {I = interval s.streams e} (value (streams_of whole_record) e 0) f.bounds.0 (first-value e m),
          values-bounded l (λ d k. h d (Memᴰ.tail k)),
        )

    pub record_bounded : All SmallValue (first_values s.constraints whole_record)
    unfolding first_values
    record_bounded = values-bounded (all_firsts s.constraints) (λ e m. m)

  -- The values of the firsts of a cut record are none or within the bound.
  pub firsts-bounded : (r : List ℕ) → AllBelow (letter_numbers s) r → width s < length r → All SmallValue (first_values s.constraints (record_of s.streams r))
  firsts-bounded r h l = record_bounded (record_of s.streams r) (below-letters s.streams r h) (omega (arith, length-map r (letter_of s.streams)))
