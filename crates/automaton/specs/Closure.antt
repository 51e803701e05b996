-- Tests over the numbers below a bound, and the least set of such numbers that a rule closes, computed by rounds. A set is a
-- list with a test for each number.
use Rattle.std.specs.Prelude.{Bool, false, cond, ◌||◌, List, [], ◌∷◌, ℕ, zero, suc, ◌+◌, eqb, get_or}

-- the list of f 0 to f (m - 1)
abbrev pub tabulate {ℓ} : {A : Type ℓ} (m : ℕ) (f : ℕ → A) → List A
tabulate zero f = []
tabulate (suc m) f = f 0 ∷ tabulate m (λ i. f (suc i))

-- some number below m passes the test. What a `let` binds is computed only if it is read: the search ends at such a number.
abbrev pub any_below : (m : ℕ) (f : ℕ → Bool) → Bool
any_below zero f = false
any_below (suc m) f = let rest = any_below m f in f m || rest

-- the least number below m that passes the test, or m
abbrev pub find_below : (m : ℕ) (f : ℕ → Bool) → ℕ
find_below zero f = 0
find_below (suc m) f = let rest = suc (find_below m (λ i. f (suc i))) in cond (f 0) 0 rest

-- how many numbers below m pass the test
abbrev pub count_below : (m : ℕ) (f : ℕ → Bool) → ℕ
count_below zero f = 0
count_below (suc m) f = cond (f m) 1 0 + count_below m f

-- the set l contains the number i
abbrev pub contains : (l : List Bool) (i : ℕ) → Bool
contains l i = get_or l i false

-- `rule set i` says whether i is to be added to `set`
module _ (m : ℕ) (rule : (ℕ → Bool) → ℕ → Bool) where
  -- the numbers of l, and those that the rule adds
  abbrev pub round : List Bool → List Bool
  round l = tabulate m (λ i. contains l i || rule (contains l) i)

  -- rounds until one adds nothing, at most as many as the first argument
  abbrev pub rounds : (fuel : ℕ) (l : List Bool) → List Bool
  rounds zero l = l
  rounds (suc fuel) l =
      let next = round l in
      let rest = rounds fuel next in
      cond (eqb (count_below m (contains l)) (count_below m (contains next))) l rest

  -- the closure of the rule: m rounds are enough
  abbrev pub closure : List Bool
  closure = rounds m []
