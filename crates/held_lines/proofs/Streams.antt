-- The streams of parts of two lists, and how many lines hold a value of a stream, as the code reckons it. From the definitions.
use Prim.Native.Nat.{ℕ, zero, suc, ◌-◌, ◌≤◌, ◌<◌, min}
use native.Mathlib.Omega.{arith}
use mathlib.Core.Path.{◌≡◌, refl, sym, ◌∙◌, ap, ap₂}
use mathlib.Core.Bool.{cond}
use mathlib.Core.List.{List, [], ◌∷◌}
use lib.IntN.{ℤ}
use lib.ListN.{length, take, drop, length-drop}
use lib.Seq.{take_all}
use borrow.Author.Tests.{lt-ltb, le-ltb}
use Rattle.meaning.specs.Expression.{Stream}
use Rattle.meaning.specs.Letter.{letter_count}
use Rattle.letters.specs.Described.{ranged, described, cut_count}
use Rattle.letters.proofs.Counts.{length-described}
use Rattle.records.specs.Machine.{stream_at}
use Rattle.held_lines.specs.Held.{cut_lines, blocks_lines, stream_lines, digit_lines, held_lines}

-- ---- parts

described-none : (lows : List ℤ) → described lows [] ≡ []
described-none [] = refl
described-none (l ∷ lows) = refl

pub described-take : (n : ℕ) (lows highs : List ℤ) → described (take n lows) (take n highs) ≡ take n (described lows highs)
described-take zero lows highs = refl
described-take (suc n) [] highs = refl
described-take (suc n) (l ∷ lows) [] = refl
described-take (suc n) (l ∷ lows) (h ∷ highs) = ap (λ ss. ranged l h ∷ ss) (described-take n lows highs)

pub described-drop : (n : ℕ) (lows highs : List ℤ) → described (drop n lows) (drop n highs) ≡ drop n (described lows highs)
described-drop zero lows highs = refl
described-drop (suc n) [] highs = refl
described-drop (suc n) (l ∷ lows) [] = described-none (drop n lows)
described-drop (suc n) (l ∷ lows) (h ∷ highs) = described-drop n lows highs

-- The stream at a place, and those behind it, as parts are lent.
pub one-stream : (lows highs : List ℤ) (k n : ℕ) → n ≡ 1 → described (take n (drop k lows)) (take n (drop k highs)) ≡ stream_at (described lows highs) k
one-stream lows highs k n e = ap (λ m. described (take m (drop k lows)) (take m (drop k highs))) e ∙ described-take 1 (drop k lows) (drop k highs) ∙ ap (take 1) (described-drop k lows highs)

pub streams-behind : (lows highs : List ℤ) (k : ℕ) → described (take (length lows - k) (drop k lows)) (take (length highs - k) (drop k highs)) ≡ drop k (described lows highs)
streams-behind lows highs k =
    let d = length-drop k lows in
    let e = length-drop k highs in
    ap₂ described (take_all (length lows - k) (drop k lows) (omega arith)) (take_all (length highs - k) (drop k highs) (omega arith)) ∙ described-drop k lows highs

-- ---- how many lines

module _ (counts : List ℕ) (lows highs : List ℤ) (k digit : ℕ) where
  abbrev streams : List Stream
  streams = described lows highs

  pub no_stream : {n : ℕ} → n ≡ min (length lows) (length highs) → n ≤ k → 0 ≡ held_lines counts streams k digit
  unfolding held_lines
  no_stream e h = sym (ap (λ t. cond t (digit_lines counts streams k digit) 0) (le-ltb k (length streams) (omega (arith, length-described lows highs))))

  there : {n : ℕ} → n ≡ min (length lows) (length highs) → k < n → digit_lines counts streams k digit ≡ held_lines counts streams k digit
  unfolding held_lines
  there e h = sym (ap (λ t. cond t (digit_lines counts streams k digit) 0) (lt-ltb k (length streams) (omega (arith, length-described lows highs))))

  pub no_value : {n : ℕ} → n ≡ min (length lows) (length highs) → k < n → {size : ℕ} → size ≡ cut_count (letter_count (stream_at streams k)) → size ≤ digit → 0 ≡ held_lines counts streams k digit
  no_value e h b less = sym (ap (λ t. cond t (stream_lines counts streams k digit) 0) (le-ltb digit (cut_count (letter_count (stream_at streams k))) (omega arith))) ∙ there e h

  pub stream-lines : {n : ℕ} → n ≡ min (length lows) (length highs) → k < n → {before size behind r : ℕ} → digit < size
      → before ≡ cut_count (letter_count (take k streams)) → size ≡ cut_count (letter_count (stream_at streams k)) → behind ≡ cut_count (letter_count (drop (suc k) streams))
      → r ≡ cut_lines (blocks_lines counts before size behind digit) → r ≡ held_lines counts streams k digit
  stream-lines e h known a b c z =
      z ∙ (λ i. cut_lines (blocks_lines counts (a i) (b i) (c i) digit))
      ∙ sym (ap (λ t. cond t (stream_lines counts streams k digit) 0) (lt-ltb digit (cut_count (letter_count (stream_at streams k))) (omega arith))) ∙ there e h
