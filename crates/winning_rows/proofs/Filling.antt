-- The play table, row by row: a row's answers are put in their place, and the rows before it stay. From the laws of one row.
use Prim.Native.Nat.{ℕ, ◌+◌, ◌-◌, ◌*◌, ◌<◌, ◌≤◌}
use mathlib.Core.Path.{◌≡◌, sym, ◌∙◌, ap, subst}
use mathlib.Core.Logic.{inl}
use mathlib.Core.List.{List, ◌++◌}
use native.Mathlib.Omega.{arith}
use native.Mathlib.Decide.{ℕ_discrete}
use lib.ListN.{length, get_or, take, drop, length-append, length-drop, get_or-append}
use lib.Seq.{length-take-le, get_or-take, get_or-append-add}
use Rattle.automaton.specs.Stored.{entry_at}
use Rattle.automaton.specs.PlayTable.{Game}
use Rattle.automaton.specs.Ranking.{IsPlayed}
use Rattle.automaton.proofs.Places.{place-before}

-- ---- a part of a list that was lent and put back

-- the part from `from` on with m numbers
abbrev pub part_of : (list : List ℕ) (from m : ℕ) → List ℕ
part_of list from m = take (from + m - from) (drop from list)

-- the list with another part in its place
abbrev pub put_back : (list part : List ℕ) (from m : ℕ) → List ℕ
put_back list part from m = take from list ++ (part ++ drop (from + m - from) (drop from list))

pub part_length : (list : List ℕ) (from m : ℕ) → from + m ≤ length list → length (part_of list from m) ≡ m
part_length list from m h = length-take-le (from + m - from) (drop from list) (omega (arith, length-drop from list)) ∙ (let e : from + m - from ≡ m = omega arith in e)

module _ (list part : List ℕ) (from m : ℕ) (fits : from + m ≤ length list) (long : length part ≡ m) where
  pub back-length : length (put_back list part from m) ≡ length list
  back-length =
      omega (arith, length-append (take from list) (part ++ drop (from + m - from) (drop from list)), length-append part (drop (from + m - from) (drop from list)), length-take-le from list (omega arith), length-drop (from + m - from) (drop from list), length-drop from list)

  back-before : (i : ℕ) → i < from → get_or (put_back list part from m) i 0 ≡ get_or list i 0
  back-before i h = get_or-append (take from list) (part ++ drop (from + m - from) (drop from list)) 0 i (omega (arith, length-take-le from list (omega arith))) ∙ get_or-take from list i 0 h

  back_inside : (i : ℕ) → i < m → get_or (put_back list part from m) (from + i) 0 ≡ get_or part i 0
  back_inside i h =
      let rest = part ++ drop (from + m - from) (drop from list) in
      ap (λ k. get_or (take from list ++ rest) (k + i) 0) (sym (length-take-le from list (omega arith))) ∙ get_or-append-add (take from list) rest i 0 ∙ get_or-append part (drop (from + m - from) (drop from list)) 0 i (omega arith)

-- ---- rows of a play table

-- the first n rows are played
abbrev pub PlayedRows : (G : Game) (ranks play : List ℕ) (n : ℕ) → Type 0
PlayedRows G ranks play n = (s c : ℕ) → s < n → c < G.choices → IsPlayed G ranks s c (entry_at G.choices play s c)

-- one row more
pub played-more : (G : Game) (ranks play part : List ℕ) (n : ℕ) → n * G.choices + G.choices ≤ length play → length part ≡ G.choices → ((c : ℕ) → c < G.choices → IsPlayed G ranks n c (get_or part c 0))
    → PlayedRows G ranks play n → PlayedRows G ranks (put_back play part (n * G.choices) G.choices) (n + 1)
played-more G ranks play part n fits long new old s c h hc = by (ℕ_discrete s n)
  where
    m : ℕ
    m = G.choices

    by : Dec (s ≡ n) → IsPlayed G ranks s c (entry_at m (put_back play part (n * m) m) s c)
    by (yes e) = subst (λ s. IsPlayed G ranks s c (entry_at m (put_back play part (n * m) m) s c)) (sym e) (subst (IsPlayed G ranks n c) (sym (back_inside play part (n * m) m fits long c hc)) (new c hc))
    by (no e) =
        let before : s * m + c < n * m = omega (arith, place-before m s c n 0 hc (inl (omega arith))) in
        subst (IsPlayed G ranks s c) (sym (back-before play part (n * m) m fits long (s * m + c) before)) (old s c (omega arith) hc)
