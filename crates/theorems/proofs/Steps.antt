-- The used rows of a stored table as the bytes that a step reads: from any state a record is followed by steps exactly if it is a path of the table,
-- and a step is refused with 12 exactly if the entry is missing. From the laws of steps along a whole table (step) and of paths (automaton), since the
-- used rows by themselves hold the same table.
use Prim.Native.Nat.{ℕ, ◌+◌, ◌*◌, ◌≤◌, ◌<◌}
use native.Mathlib.Omega.{arith}
use mathlib.Core.Path.{◌≡◌, refl, sym, ◌∙◌, ap, subst}
use mathlib.Core.Logic.{◌↔◌, ◌≢◌, inl}
use mathlib.Core.List.{List, [], ◌∷◌}
use lib.ListN.{take}
use lib.Seq.{length-take-le, get_or-take}
use Rattle.automaton.specs.Words.{Word, AllBelow}
use Rattle.automaton.specs.Table.{no_state, walk, PathFrom, IsPath}
use Rattle.automaton.specs.Stored.{StoredTable, entry_at}
use Rattle.automaton.specs.WellFormed.{most_rows, WholeTable}
use Rattle.automaton.proofs.WellFormed.{some-row-entry, table-entries, table-whole, used_table}
use Rattle.automaton.proofs.Places.{place-before}
use Rattle.stored.specs.Number.{table_bytes}
use Rattle.step.specs.Step.{entry_width, refused_step, StepAnswer}
use Rattle.step.specs.Followed.{Followed}
use Rattle.step.proofs.Paths.{followed↔path_from, refused_12↔missing}

-- A path of one table is a path of another that has the same entries in the rows of its states.
path-agrees : {k n : ℕ} {entry entry' : ℕ → ℕ → ℕ} → ((i a : ℕ) → i < n → a < k → entry i a ≡ entry' i a)
    → ((i a : ℕ) → i < n → a < k → entry i a ≢ no_state → entry i a < n) → (r : List ℕ) (i : ℕ) → i < n → AllBelow k r → PathFrom entry i r
    → PathFrom entry' i r × (walk entry i r ≡ walk entry' i r)
path-agrees same closed [] i inside letters path = (tt, refl)
path-agrees {entry = entry} {entry' = entry'} same closed (a ∷ r) i inside letters path =
    let e = same i a inside letters.0 in
    let rest = path-agrees same closed r (entry i a) (closed i a inside letters.0 path.0) letters.1 path.1 in
    ((λ none. path.0 (e ∙ none), subst (λ m. PathFrom entry' m r) e rest.0), rest.1 ∙ ap (λ m. walk entry' m r) e)

module _ {Sol : Word → Type 0} {k n : ℕ} {entries finals : List ℕ} (stored : StoredTable Sol k n entries finals) (few : n ≤ most_rows) where
  same-entry : (i a : ℕ) → i < n → a < k → entry_at k entries i a ≡ entry_at k (take (n * k) entries) i a
  same-entry i a hi ha = sym (get_or-take (n * k) entries (i * k + a) 0 (omega (arith, place-before k i a n 0 ha (inl hi))))

  whole : WholeTable k n (take (n * k) entries)
  whole = table-whole (take (n * k) entries) (used_table stored) few (length-take-le (n * k) entries stored.entries_fit)

  pub path_from↔steps : (i : ℕ) → i < n → (r : List ℕ) (last : ℕ) → AllBelow k r
      → (PathFrom (entry_at k entries) i r × (last ≡ walk (entry_at k entries) i r)) ↔ Followed (table_bytes entry_width (take (n * k) entries)) k i r last
  path_from↔steps i inside r last letters =
      let steps = followed↔path_from whole i inside r last letters in (
        (λ path.
            let p = path-agrees same-entry (some-row-entry (table-entries stored.table)) r i inside letters path.0 in
            steps.1 (p.0, path.1 ∙ p.1)),
        λ followed.
            let path = steps.0 followed in
            let p = path-agrees (λ j a hj ha. sym (same-entry j a hj ha)) (some-row-entry (table-entries (used_table stored))) r i inside letters path.0 in
            (p.0, path.1 ∙ p.1),
      )

  pub missing↔refused_12 : (i a : ℕ) → i < n → a < k
      → (entry_at k entries i a ≡ no_state) ↔ StepAnswer (table_bytes entry_width (take (n * k) entries)) k i a (refused_step 12)
  missing↔refused_12 i a inside is_letter =
      let steps = refused_12↔missing whole i a inside is_letter in
      let e = same-entry i a inside is_letter in
      (λ none. steps.1 (sym e ∙ none), λ answer. e ∙ steps.0 answer)

  pub path↔steps : (r : List ℕ) → AllBelow k r
      → IsPath (entry_at k entries) r ↔ ((last : ℕ) × Followed (table_bytes entry_width (take (n * k) entries)) k 0 r last)
  path↔steps r letters = (
    (λ path. (walk (entry_at k entries) 0 r, (path_from↔steps 0 stored.table.some_state r (walk (entry_at k entries) 0 r) letters).0 (path, refl))),
    λ followed. ((path_from↔steps 0 stored.table.some_state r followed.0 letters).1 followed.1).0,
  )
