-- Where the starts of a line's tokens are stored byte by byte: what is stored up to a place, and one byte further. From the laws of starts.
use Prim.Native.Nat.{ℕ, ◌+◌, ◌-◌, ◌≤◌, ◌<◌}
use mathlib.Core.Path.{◌≡◌, refl, sym, ap, ap₂, ◌∙◌}
use mathlib.Core.Bool.{Bool, true, false, cond}
use mathlib.Core.List.{List, [], ◌∷◌, ◌++◌, append_assoc}
use native.Mathlib.Omega.{arith}
use lib.ListN.{length, take, drop, get_or, set, length-append}
use lib.Seq.{sets, sets-eq, length-sets, length-take-le, drop_at, take-append_seam}
use Rattle.basics.proofs.Lists.{sets_append}
use Rattle.text.specs.Bytes.{is_inside, tokens}
use Rattle.scan.specs.Place.{between}
use Rattle.scan.specs.Start.{begins_token, inside_before, token_starts_below, token_starts_of}
use Rattle.scan.proofs.Starts.{token-starts-length, starts-few, starts_none, starts-next, inside-next}

-- The starts below the place i are stored, and `inside` says whether a byte of a run stands before it.
pub record Filled (line old new : List ℕ) (from count : ℕ) (inside : Bool) (i : ℕ) : Type 0 where
  pub within : i ≤ length line
  pub before : inside ≡ inside_before line i
  pub room : from + length (tokens line) ≤ 1024
  pub counted : count ≡ from + length (token_starts_below line i)
  pub stored : new ≡ sets old from (token_starts_below line i)

pub filled-start : (line old : List ℕ) (from : ℕ) → from + length (tokens line) ≤ 1024 → Filled line old old from from false 0
filled-start line old from h =
    record {
      within = omega arith;
      before = refl;
      room = h;
      counted = omega (arith, ap length (starts_none line));
      stored = ap (sets old from) (sym (starts_none line));
    }

module _ {line old new : List ℕ} {from count : ℕ} {inside : Bool} {i : ℕ} (h : Filled line old new from count inside i) where
  pub filled-end : length line ≤ i → new ≡ sets old from (token_starts_of line)
  filled-end e = let last : i ≡ length line = omega (arith, h.within) in h.stored ∙ ap (λ n. sets old from (token_starts_below line n)) last

  pub filled-count : length line ≤ i → count ≡ from + length (tokens line)
  filled-count e =
      let last : i ≡ length line = omega (arith, h.within) in
      omega (arith, h.counted, ap (λ n. length (token_starts_below line n)) last, token-starts-length line)

  module _ (l : i < length line) where
    next : {b : Bool} → begins_token inside (get_or line i 0) ≡ b → token_starts_below line (i + 1) ≡ cond b (token_starts_below line i ++ (i ∷ [])) (token_starts_below line i)
    next e =
        starts-next line i
        ∙ ap (λ b. cond b (token_starts_below line i ++ (i ∷ [])) (token_starts_below line i)) (ap (λ m. begins_token m (get_or line i 0)) (sym h.before) ∙ e)

    -- A token begins here: its start is stored.
    module _ (e : begins_token inside (get_or line i 0) ≡ true) where
      one_more : length (token_starts_below line (i + 1)) ≡ length (token_starts_below line i) + 1
      one_more = ap length (next e) ∙ length-append (token_starts_below line i) (i ∷ [])

      pub begins-room : count < 1024
      begins-room = omega (arith, h.room, h.counted, one_more, starts-few line (i + 1) (omega arith))

      pub filled-begins : Filled line old (set new count i) from (count + 1) (is_inside (get_or line i 0)) (i + 1)
      filled-begins =
          record {
            within = omega arith;
            before = inside-next line i;
            room = h.room;
            counted = omega (arith, h.counted, one_more);
            stored = ap₂ (λ x n. set x n i) h.stored h.counted ∙ sets_append old from (token_starts_below line i) (i ∷ []) ∙ ap (sets old from) (sym (next e));
          }

    pub filled-passes : begins_token inside (get_or line i 0) ≡ false → Filled line old new from count (is_inside (get_or line i 0)) (i + 1)
    filled-passes e =
        record {
          within = omega arith;
          before = inside-next line i;
          room = h.room;
          counted = omega (arith, h.counted, ap length (next e));
          stored = h.stored ∙ ap (sets old from) (sym (next e));
        }

-- What was stored stands where it was stored.
pub stored-starts : (old : List ℕ) {new : List ℕ} (from : ℕ) {last : ℕ} (vs : List ℕ) → new ≡ sets old from vs → last ≡ from + length vs → last ≤ length new → between new from last ≡ vs
stored-starts old {new} from {last} vs e q h =
    let size : length new ≡ length old = ap length e ∙ length-sets old from vs in
    let count : last - from ≡ length vs = omega arith in
    let parts : new ≡ take from old ++ (vs ++ drop (from + length vs) old) = e ∙ sets-eq vs old from (omega arith) ∙ append_assoc (take from old) vs (drop (from + length vs) old) in
    ap₂ (λ n l. take n (drop from l)) count parts
    ∙ ap (take (length vs)) (drop_at (take from old) (vs ++ drop (from + length vs) old) from (length-take-le from old (omega arith)))
    ∙ take-append_seam vs (drop (from + length vs) old)
