-- The passes over a row of costs, one for each stream and the last stream first, and those that write the changes from one letter to all. Places of a
-- row are places of numbers in a list; `stride` is how many letters the later streams make.
use Rattle.std.specs.Prelude.{ℕ, zero, suc, ◌+◌, ◌*◌, ◌≤◌, ◌<◌, ◌≡◌, ◌⊎◌, ◌≢◌, Bool, true, false, not, cond, ◌&&◌, List, [], ◌∷◌, ltb, eqb, length}
use Rattle.basics.specs.Lists.{at}
use Rattle.changes.specs.Axes.{Axis, letter_total}

-- ---- the pass over one stream

-- The least of f 0 to f (n - 1); f 0 if there is none.
unfoldable pub least_below : (n : ℕ) (f : ℕ → ℕ) → ℕ
least_below zero f = f 0
least_below (suc n) f = cond (ltb (f n) (least_below n f)) (f n) (least_below n f)

-- What a place becomes: in a set stream the smaller of itself and least + 1, in another stream the least. No place rises, so a row of
-- numbers that fit stays one.
abbrev pub lowered_cost : (set : Bool) (own least : ℕ) → ℕ
lowered_cost true own least = cond (ltb least own) (suc least) own
lowered_cost false own least = least

-- `next` is `row` after the pass over a stream of z values, in the first `blocks` blocks of z * stride places. Place d * stride + o of a block has
-- the stream's value d, and the later streams' letter o.
pub record IsPass (set : Bool) (z stride blocks : ℕ) (row next : ℕ → ℕ) : Type 0 where
  pub places : (q d o : ℕ) → q < blocks → d < z → o < stride
      → next (q * (z * stride) + (d * stride + o))
      ≡ lowered_cost set (row (q * (z * stride) + (d * stride + o))) (least_below z (λ i. row (q * (z * stride) + (i * stride + o))))

-- `next` is `row` after the passes over these streams, in the first `blocks` blocks of their letters.
pub data AxisPasses : List Axis → ℕ → (ℕ → ℕ) → (ℕ → ℕ) → Type 0 where
  done : {blocks : ℕ} {row : ℕ → ℕ} → AxisPasses [] blocks row row
  pass : {x : Axis} {xs : List Axis} {blocks : ℕ} {row mid next : ℕ → ℕ} → AxisPasses xs (blocks * x.values) row mid
      → IsPass x.counts x.values (letter_total xs) blocks mid next → AxisPasses (x ∷ xs) blocks row next

-- ---- its parts: one column, whose places differ in the stream's value alone, and one block

-- The first n places of a column, which begins at `from`, are lowered to a least number.
pub record LowersColumn (set : Bool) (from stride least n : ℕ) (row row' : List ℕ) : Type 0 where
  pub same_length : length row' ≡ length row
  pub inside : (d : ℕ) → d < n → at row' (from + d * stride) ≡ lowered_cost set (at row (from + d * stride)) least
  pub outside : (p : ℕ) → ((d : ℕ) → d < n → p ≢ from + d * stride) → at row' p ≡ at row p

-- The first n columns of a block, which begins at `start`, are lowered.
pub record LowersBlock (set : Bool) (start z stride n : ℕ) (row row' : List ℕ) : Type 0 where
  pub same_length : length row' ≡ length row
  pub inside : (d o : ℕ) → d < z → o < n
      → at row' (start + (d * stride + o)) ≡ lowered_cost set (at row (start + (d * stride + o))) (least_below z (λ i. at row (start + (i * stride + o))))
  pub waiting : (d o : ℕ) → d < z → n ≤ o → o < stride → at row' (start + (d * stride + o)) ≡ at row (start + (d * stride + o))
  pub outside : (p : ℕ) → (p < start) ⊎ (start + z * stride ≤ p) → at row' p ≡ at row p

-- The first n blocks are lowered.
pub record LowersBlocks (set : Bool) (z stride n : ℕ) (row row' : List ℕ) : Type 0 where
  pub same_length : length row' ≡ length row
  pub is_pass : IsPass set z stride n (at row) (at row')
  pub beyond : (p : ℕ) → n * (z * stride) ≤ p → at row' p ≡ at row p

-- ---- the changes from one letter to all

-- 1 where the value of a set stream changes
abbrev pub change : (set : Bool) (own value : ℕ) → ℕ
change set own value = cond (set && not (eqb own value)) 1 0

-- The first n of the numbers at the front stand from a place on, each with `more` added.
pub record SpreadsPart (from more n : ℕ) (row row' : List ℕ) : Type 0 where
  pub same_length : length row' ≡ length row
  pub inside : (o : ℕ) → o < n → at row' (from + o) ≡ at row o + more
  pub outside : (p : ℕ) → (p < from) ⊎ (from + n ≤ p) → at row' p ≡ at row p

-- The `stride` numbers at the front stand at each value of a stream, from the n-th on, with the change from the value `own` added.
pub record SpreadsStream (set : Bool) (z stride own n : ℕ) (row row' : List ℕ) : Type 0 where
  pub same_length : length row' ≡ length row
  pub inside : (d o : ℕ) → n ≤ d → d < z → o < stride → at row' (d * stride + o) ≡ at row o + change set own d
  pub front : 0 < n → (o : ℕ) → o < stride → at row' o ≡ at row o
