-- The bytes of a line, read by any machine; and a loop over them: before each turn the bytes so far are none that ends a line, and the machine has read
-- them. By the parts of the chunk.
use Prim.Native.Nat.{ℕ, suc, ◌+◌, ◌≤◌, ◌<◌, max}
use native.Mathlib.Omega.{arith}
use mathlib.Core.Path.{◌≡◌, refl, sym, ◌∙◌, ap, subst}
use mathlib.Core.Bool.{Bool, true, false, cond}
use mathlib.Core.List.{List, [], ◌∷◌, ◌++◌}
use lib.Dec.{eqb}
use lib.ListN.{length, get_or}
use lib.Seq.{slice, slice_empty}
use borrow.Author.Tests.{eq-eqb, ne_eqb}
use Rattle.text.specs.Bytes.{lines, add_to_lines}
use Rattle.text.specs.Fold.{run_bytes}
use Rattle.text.specs.Lines.{text_byte}
use Rattle.text.proofs.Lines.{run-append}
use Rattle.record_lines.specs.Runs.{NoLineEnd, RunsLine}
use Rattle.record_lines.proofs.Slices.{slice_more, slice_first}

-- Whether bytes stand since the last byte 10, after these.
abbrev pub begun_by : Bool → List ℕ → Bool
begun_by g [] = g
begun_by g (b ∷ l) = true

pub begun-stays : (l : List ℕ) → begun_by true l ≡ true
begun-stays [] = refl
begun-stays (b ∷ l) = refl

pub begun-part : (g : Bool) (chunk : List ℕ) (from next : ℕ) → from < next → next ≤ length chunk → begun_by g (slice from next chunk) ≡ true
begun-part g chunk from next h k = ap (begun_by g) (slice_first from next chunk h k)

-- A text has at most as many lines as bytes.
pub lines_few : (text : List ℕ) → length (lines text) ≤ length text
unfolding lines
lines_few [] = omega arith
lines_few (b ∷ bs) = by (eqb b 10) (lines bs) (lines_few bs)
  where
    by : (t : Bool) (ls : List (List ℕ)) → length ls ≤ length bs → length (add_to_lines t b ls) ≤ suc (length bs)
    by true ls h = omega arith
    by false [] h = omega arith
    by false (l ∷ ls) h = omega arith

-- A text that ends with byte 10 has a line.
pub some-line : (x : List ℕ) → (l : List ℕ) × (ls : List (List ℕ)) × (lines (x ++ (10 ∷ [])) ≡ l ∷ ls)
unfolding lines
some-line [] = ([], [], refl)
some-line (b ∷ x) = go (eqb b 10) (some-line x)
  where
    go : (g : Bool) → (l : List ℕ) × (ls : List (List ℕ)) × (lines (x ++ (10 ∷ [])) ≡ l ∷ ls)
        → (l : List ℕ) × (ls : List (List ℕ)) × (add_to_lines g b (lines (x ++ (10 ∷ []))) ≡ l ∷ ls)
    go true f = ([], lines (x ++ (10 ∷ [])), refl)
    go false f = (b ∷ f.0, f.1, ap (add_to_lines false b) f.2)

-- ---- a machine that ends lines

module _ {S : Type 0} (byte : S → ℕ → S) (line-end : S → S) where
  pub text-end : (s : S) (b : ℕ) → eqb b 10 ≡ true → text_byte byte line-end s b ≡ line-end s
  text-end s b e = ap (λ t. cond t (line-end s) (byte s b)) e

  pub text-other : (s : S) (b : ℕ) → eqb b 10 ≡ false → text_byte byte line-end s b ≡ byte s b
  text-other s b e = ap (λ t. cond t (line-end s) (byte s b)) e

  -- The bytes of a line.
  pub run-other : (l : List ℕ) → NoLineEnd l → (s : S) → run_bytes (text_byte byte line-end) s l ≡ run_bytes byte s l
  run-other [] h s = refl
  run-other (b ∷ l) h s = ap (λ q. run_bytes (text_byte byte line-end) q l) (text-other s b h.0) ∙ run-other l h.1 (byte s b)

  -- The bytes of a line in a chunk, and the same with its byte 10.
  module _ {chunk : List ℕ} {from next : ℕ} (l : RunsLine chunk from next) (s : S) {t : S} (e : run_bytes byte s (slice from next chunk) ≡ t) where
    pub line-bytes : run_bytes (text_byte byte line-end) s (slice from next chunk) ≡ t
    line-bytes = run-other (slice from next chunk) l.bytes s ∙ e

    pub whole-line : next < length chunk → run_bytes (text_byte byte line-end) s (slice from (next + 1) chunk) ≡ line-end t
    whole-line k =
        let b = get_or chunk next 0 in
        ap (run_bytes (text_byte byte line-end) s) (slice_more from next chunk l.onward k) ∙ run-append (text_byte byte line-end) s (slice from next chunk) (b ∷ [])
        ∙ ap (λ q. text_byte byte line-end q b) line-bytes ∙ text-end t b (eq-eqb b 10 (l.stops k))

-- ---- the loop

pub no_end_append : (l m : List ℕ) → NoLineEnd l → NoLineEnd m → NoLineEnd (l ++ m)
no_end_append [] m h k = k
no_end_append (b ∷ l) m h k = (h.0, no_end_append l m h.1 k)

module _ {S : Type 0} (step : S → ℕ → S) (chunk : List ℕ) (from : ℕ) (start : S) where
  pub record LineSoFar (at : ℕ) (now : S) : Type 0 where
    pub onward : from ≤ at
    pub inside : at ≤ max from (length chunk)
    pub bytes : NoLineEnd (slice from at chunk)
    pub run : now ≡ run_bytes step start (slice from at chunk)

  pub so_far_none : LineSoFar from start
  so_far_none =
      let e = sym (slice_empty from chunk) in
      record { onward = omega arith; inside = omega arith; bytes = subst NoLineEnd e tt; run = ap (run_bytes step start) e }

  module _ {at : ℕ} {now : S} (p : LineSoFar at now) where
    pub so_far_more : at < length chunk → (get_or chunk at 0 ≡ 10 → ⊥) → {next : S} → next ≡ step now (get_or chunk at 0) → LineSoFar (at + 1) next
    so_far_more h d e =
        let b = get_or chunk at 0 in
        let s = sym (slice_more from at chunk p.onward h) in
        let o = p.onward in
        record {
          onward = omega arith;
          inside = omega arith;
          bytes = subst NoLineEnd s (no_end_append (slice from at chunk) (b ∷ []) p.bytes (ne_eqb b 10 d, tt));
          run = e ∙ ap (λ t. step t b) p.run ∙ sym (run-append step start (slice from at chunk) (b ∷ [])) ∙ ap (run_bytes step start) s;
        }

    -- It stops at a byte 10 or at the end of the chunk.
    pub so_far_ends : (at < length chunk → get_or chunk at 0 ≡ 10) → RunsLine chunk from at × (now ≡ run_bytes step start (slice from at chunk))
    so_far_ends h = (record { onward = p.onward; inside = p.inside; bytes = p.bytes; stops = h }, p.run)
