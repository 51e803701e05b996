-- The exploration is settled: two outcomes of `explore_stored` for the same arguments give the same answer and leave the same tables. Two searches that
-- find all rows find the same ones, and a search that finds all rows and one that finds more than the limit exclude each other, by the laws of searches
-- (automaton).
use Prim.Native.Nat.{ℕ, zero, suc, ◌+◌, ◌*◌, ◌/◌, ◌%◌, ◌≤◌, ◌<◌}
use native.Mathlib.Omega.{arith}
use native.Mathlib.Decide.{dec_lt}
use native.Mathlib.Nat.{mul-zero, mod-lt, div-add-mod', div-lt_iff_lt-mul}
use mathlib.Core.Path.{◌≡◌, refl, sym, ◌∙◌, ap, subst}
use mathlib.Core.Bool.{true, false}
use mathlib.Core.List.{List}
use lib.ListN.{length, get_or}
use lib.Seq.{ext_get_or}
use Rattle.basics.proofs.Count.{count_excludes_more}
use Rattle.automaton.specs.Table.{SameRows}
use Rattle.automaton.specs.Stored.{entry_at, final_at}
use Rattle.automaton.proofs.Reachable.{searched-count, searched-more}
use Rattle.automaton.proofs.ReachedOnce.{searched_unique}
use Rattle.extend.specs.Step.{Store}
use Rattle.explore.specs.Search.{key_system, Searched}
use Rattle.std.specs.Prelude.{Result, Ok, Err}
use Rattle.explore.specs.declared.Unexplored.{Unexplored}
use Rattle.explore.specs.declared.Unexplored.TheVariants.{NotReady, Full}
use Rattle.explore.specs.Exploration.{ExploreTables, FindsRows, GraphZero, FindsOrNone, ExploresStored}

-- ---- two searches

module _ {K : Store} {letters limit every : ℕ} (few : limit ≤ 4096) {keys entries flags keys' entries' flags' : List ℕ} {n n' : ℕ} (z : Searched K letters limit every keys entries flags false n) where
  -- Two searches that find all rows find the same ones.
  same_rows : Searched K letters limit every keys' entries' flags' false n' → SameRows letters n (entry_at letters entries) (final_at flags) n' (entry_at letters entries') (final_at flags')
  same_rows z' = searched_unique (key_system K letters every) z.searched z'.searched (omega (arith, z.searched.within))

  -- Not both: all rows are found, and there are more than the limit.
  not-both : Searched K letters limit every keys' entries' flags' true n' → ⊥
  not-both w = let S = key_system K letters every in count_excludes_more (searched-count S z.searched) limit z.searched.within (searched-more S w.searched)

-- ---- two outcomes

-- Lists that agree in the entries of the first n rows and are as they were behind them are equal.
same-list : (letters n : ℕ) (list₀ list list' : List ℕ) → length list ≡ length list₀ → length list' ≡ length list₀ → ((i : ℕ) → n * letters ≤ i → get_or list i 0 ≡ get_or list₀ i 0)
    → ((i : ℕ) → n * letters ≤ i → get_or list' i 0 ≡ get_or list₀ i 0) → ((i a : ℕ) → i < n → a < letters → entry_at letters list i a ≡ entry_at letters list' i a) → list ≡ list'
same-list letters n list₀ list list' e e' kept kept' same = ext_get_or 0 list list' (e ∙ sym e') λ k h. go k (dec_lt k (n * letters))
  where
    go : (k : ℕ) → Dec (k < n * letters) → get_or list k 0 ≡ get_or list' k 0
    go k (no h) = kept k (omega arith) ∙ sym (kept' k (omega arith))
    go k (yes h) = by letters refl
      where
        by : (l : ℕ) → l ≡ letters → get_or list k 0 ≡ get_or list' k 0
        by zero q = absurd (omega (arith, subst (λ l. k < n * l) (sym q) h, mul-zero n))
        by (suc l) q =
            let some : 0 < letters = omega (arith, q) in
            let place : k / letters * letters + k % letters ≡ k = div-add-mod' k letters in
            subst (λ x. get_or list x 0 ≡ get_or list' x 0) place (same (k / letters) (k % letters) ((div-lt_iff_lt-mul some).1 h) (mod-lt k some))

-- the answer, and the entries and flags
abbrev SameRest : (found found' : Result ℕ Unexplored) (left left' : ExploreTables) → Type 0
SameRest found found' left left' = (found ≡ found') × (left.entries ≡ left'.entries) × (left.flags ≡ left'.flags)

-- two tables of zeros
zero_rest : {given left left' : ExploreTables} {found found' : Result ℕ Unexplored} → found ≡ found' → GraphZero given left → GraphZero given left' → SameRest found found' left left'
zero_rest f z w = (f, z.entries_zero ∙ sym w.entries_zero, z.flags_zero ∙ sym w.flags_zero)

module _ (K : Store) (letters limit : ℕ) (given left left' : ExploreTables) where
  rows-rest : {count count' : ℕ} → limit ≤ 4096 → FindsRows K letters limit given left count → FindsRows K letters limit given left' count' → SameRest (Ok count) (Ok count') left left'
  rows-rest {count} {count'} few r w = (
    ap Ok count_same,
    same-list letters count given.entries left.entries left'.entries r.behind.entries_long w.behind.entries_long r.behind.entries_same
        (λ i h. w.behind.entries_same i (subst (λ n. n * letters ≤ i) count_same h)) rows.entries,
    ext_get_or 0 left.flags left'.flags (r.behind.flags_long ∙ sym w.behind.flags_long) λ i h. flag i (dec_lt i count),
  )
    where
      rows : SameRows letters count (entry_at letters left.entries) (final_at left.flags) count' (entry_at letters left'.entries) (final_at left'.flags)
      rows = same_rows few r.searched w.searched

      count_same : count ≡ count'
      count_same = rows.states

      flag : (i : ℕ) → Dec (i < count) → get_or left.flags i 0 ≡ get_or left'.flags i 0
      flag i (yes h) = rows.finals i h
      flag i (no h) = r.behind.flags_same i (omega arith) ∙ sym (w.behind.flags_same i (omega (arith, count_same)))

  same_rest : (found found' : Result ℕ Unexplored) → FindsOrNone K letters limit given left found → FindsOrNone K letters limit given left' found' → SameRest found found' left left'
  same_rest (Ok n) (Ok m) x y = rows-rest x.0.1.few_rows x.1 y.1
  same_rest (Ok n) (Err Full) x y = absurd (not-both x.0.1.few_rows x.1.searched y.1.searched)
  same_rest (Ok n) (Err NotReady) x y = absurd (y.0 x.0)
  same_rest (Err Full) (Ok m) x y = absurd (not-both x.0.1.few_rows y.1.searched x.1.searched)
  same_rest (Err Full) (Err Full) x y = zero_rest refl x.2 y.2
  same_rest (Err Full) (Err NotReady) x y = absurd (y.0 x.0)
  same_rest (Err NotReady) (Ok m) x y = absurd (x.0 y.0)
  same_rest (Err NotReady) (Err Full) x y = absurd (x.0 y.0)
  same_rest (Err NotReady) (Err NotReady) x y = zero_rest refl x.1 y.1

pub explored_unique : {K : Store} {letters limit : ℕ} {given left left' : ExploreTables} {found found' : Result ℕ Unexplored} → ExploresStored K letters limit given left found
    → ExploresStored K letters limit given left' found' → (found ≡ found') × (left ≡ left')
explored_unique {K} {letters} {limit} {given} {left} {left'} {found} {found'} x y =
    let rest = same_rest K letters limit given left left' found found' x.outcome y.outcome in (
      rest.0,
      λ i. record {
        keys = (x.work_zero.keys_zero ∙ sym y.work_zero.keys_zero) i;
        heads = (x.work_zero.heads_zero ∙ sym y.work_zero.heads_zero) i;
        links = (x.work_zero.links_zero ∙ sym y.work_zero.links_zero) i;
        entries = rest.1 i;
        flags = rest.2 i;
      },
    )
