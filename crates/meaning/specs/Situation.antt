-- Lawful records, situations and their count (document 01, "Letters, situations, table").
use Rattle.std.specs.Prelude.{ℕ, zero, suc, ◌+◌, ◌-◌, ◌≡◌, Bool, true, false, cond, ◌&&◌, ◌||◌, List, [], ◌∷◌, map, T, leb, length, drop}
use Rattle.basics.specs.Count.{CountOf, MoreThan}
use Rattle.meaning.specs.Value.{Value, truth, Streams}
use Rattle.meaning.specs.Expression.{Constraint, always, until, right_side, holds, value, Sheet}
use Rattle.meaning.specs.Letter.{Record, OfLetters, streams_of}
use Rattle.meaning.specs.Window.{all_firsts, all_untils, B, D}

-- at some time before n
abbrev pub some_before : (ℕ → Bool) → ℕ → Bool
some_before p zero = false
some_before p (suc n) = some_before p n || p n

-- at every time before n
abbrev pub every_before : (ℕ → Bool) → ℕ → Bool
every_before p zero = true
every_before p (suc n) = every_before p n && p n

abbrev pub all : {X : Type 0} → (X → Bool) → List X → Bool
all p [] = true
all p (x ∷ xs) = p x && all p xs

-- A situation: a whole record; or the last letters, the value of each `first`, and for each `until` whether it is done.
-- "a whole record never equals a cut one"
pub data Situation : Type 0 where
  whole : Record → Situation
  cut : Record → List Value → List Bool → Situation

-- The until is done: its right side was true at one of the judged times, those before n; none counts as 0.
unfoldable pub done : Streams → Constraint → ℕ → Bool
done w c n = some_before (λ i. truth (value w (right_side c) i)) n

-- "no comparison or implication fails and no `until` meets 0 on both sides before it is done", at the time i
unfoldable pub permits : Streams → Constraint → ℕ → Bool
permits w (always s a b) i = holds s (value w a i) (value w b i)
permits w (until a b) i = truth (value w a i) || done w (until a b) (suc i)

module _ (cs : List Constraint) where
  -- "A record of n letters is lawful if, judged at times 0 to n−1−D, no comparison or implication fails and no `until` meets 0 on both sides before it is done."
  unfoldable pub lawful : Record → Bool
  lawful r = all (λ c. every_before (permits (streams_of r) c) (length r - D cs)) cs

  -- "the value of each `first`"
  unfoldable pub first_values : Record → List Value
  first_values r = map (λ e. value (streams_of r) e 0) (all_firsts cs)

  -- "for each `until` done or pending"
  unfoldable pub until_marks : Record → List Bool
  until_marks r = map (λ c. done (streams_of r) c (length r - D cs)) (all_untils cs)

  -- "Its situation is the whole record if n ≤ D+B; else its last D+B letters, the value of each `first`, and for each `until` done or pending."
  unfoldable pub situation : Record → Situation
  situation r = cond (leb (length r) (D cs + B cs)) (whole r) (cut (drop (length r - (D cs + B cs)) r) (first_values r) (until_marks r))

-- t is the situation of a lawful record of letters in range. "Only lawful records count".
pub record IsSituation (s : Sheet) (t : Situation) : Type 0 where
  pub lawful_record : Record
  pub letters : OfLetters s.streams lawful_record
  pub is_lawful : T (lawful s.constraints lawful_record)
  pub same : situation s.constraints lawful_record ≡ t

-- "the number of distinct situations": the length of a list without repeats that holds exactly the situations, nothing pruned.
abbrev pub SituationCount : Sheet → ℕ → Type 0
SituationCount s = CountOf (IsSituation s)

-- There are more than r situations: some list without repeats holds that many.
abbrev pub MoreSituations : Sheet → ℕ → Type 0
MoreSituations s = MoreThan (IsSituation s)
