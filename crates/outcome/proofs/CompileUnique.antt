-- The outcome of a compile is one: equal arguments give the same numbers and the same contents of every lent table. From the one answer to a
-- text (sheet), the one count of situations (meaning) and the one table of a set of words (automaton).
use Prim.Native.Nat.{ℕ, zero, suc, ◌+◌, ◌-◌, ◌*◌, ◌/◌, ◌%◌, ◌<◌}
use native.Mathlib.Omega.{arith}
use native.Mathlib.Nat.{div-add-mod', div-lt_iff_lt-mul, mod-lt}
use native.Mathlib.Decide.{dec_lt}
use mathlib.Core.Path.{◌≡◌, refl, sym, ◌∙◌, ap, subst}
use mathlib.Core.List.{List}
use lib.ListN.{length, get_or, drop}
use lib.Seq.{ext_get_or, get_or-drop}
use Rattle.basics.proofs.Count.{count_unique, count_excludes_more}
use Rattle.automaton.specs.Words.{Word}
use Rattle.automaton.specs.Solutions.{NoSolution}
use Rattle.automaton.proofs.Equality.{unique_used_rows}
use Rattle.automaton.proofs.Paths.{has_solution}
use Rattle.outcome.proofs.Answers.{one_number, one-sheet, refused≢sheet}
use Rattle.outcome.specs.Compile.{CompileAnswer, refused_answer, Room, Tables, HoldsTable, SheetOutcome, too_many_situations, too_few_rows, no_solution, compiled, CompileOutcome, unread, read, situation_bound, WordsOutcome}

-- ---- two lists that agree below a place, and hold the same from it on

same_lists : (n : ℕ) (l m : List ℕ) → length l ≡ length m → ((i : ℕ) → i < n → get_or l i 0 ≡ get_or m i 0) → drop n l ≡ drop n m → l ≡ m
same_lists n l m e below beyond = ext_get_or 0 l m e (λ i h. go i (dec_lt i n))
  where
    go : (i : ℕ) → Dec (i < n) → get_or l i 0 ≡ get_or m i 0
    go i (yes h) = below i h
    go i (no h) =
        let k : n + (i - n) ≡ i = omega arith in
        rw k at (sym (get_or-drop n l (i - n) 0) ∙ ap (λ x. get_or x (i - n) 0) beyond ∙ get_or-drop n m (i - n) 0)

-- Rows of k entries that agree at each place agree below n rows.
rows-below : (k n : ℕ) (l m : List ℕ) → ((i a : ℕ) → i < n → a < k → get_or l (i * k + a) 0 ≡ get_or m (i * k + a) 0) → (i : ℕ) → i < n * k → get_or l i 0 ≡ get_or m i 0
rows-below zero n l m h i b = absurd (omega (arith, b))
rows-below (suc k) n l m h i b =
    let e : i / suc k * suc k + i % suc k ≡ i = div-add-mod' i (suc k) in
    rw e at (h (i / suc k) (i % suc k) ((div-lt_iff_lt-mul (omega arith)).1 b) (mod-lt i (omega arith)))

-- ---- what is given of a set of words is one

module _ {Sol : Word → Type 0} {k : ℕ} {room : Room} where
  -- Two tables held of one set are the same.
  holds_unique : {n n' : ℕ} {t t' : Tables} → HoldsTable Sol k room n t → HoldsTable Sol k room n' t' → (n ≡ n') × (t ≡ t')
  holds_unique {n} {n'} {t} {t'} h h' =
      let u = unique_used_rows h.table h'.table in
      let e : n ≡ n' = u.states in
      let es : t.entries ≡ t'.entries =
      same_lists (n * k) t.entries t'.entries (h.entries_size ∙ sym h'.entries_size) (rows-below k n t.entries t'.entries u.entries)
      (h.entries_beyond ∙ rw e (sym h'.entries_beyond)) in
      let fs : t.finals ≡ t'.finals =
      same_lists n t.finals t'.finals (h.finals_size ∙ sym h'.finals_size) u.finals (h.finals_beyond ∙ rw e (sym h'.finals_beyond)) in
      (e, λ i. record { entries = es i; finals = fs i; work = (h.work_zero ∙ sym h'.work_zero) i })

  solved : {n : ℕ} {t : Tables} → HoldsTable Sol k room n t → NoSolution k Sol → ⊥
  solved h f = has_solution h.table.table f

module _ {Sol : Word → Type 0} {k : ℕ} {X : Type 0} {Counted : X → Type 0} {room : Room} where
  pub words_unique : {a b : CompileAnswer} {t u : Tables} → WordsOutcome Sol k Counted room a t → WordsOutcome Sol k Counted room b u → (a ≡ b) × (t ≡ u)
  words_unique (too_many_situations r x) (too_many_situations r' x') = (refl, refl)
  words_unique (too_many_situations r x) (too_few_rows r' x') = absurd (omega arith)
  words_unique (too_many_situations r x) (no_solution e f) = absurd (count_excludes_more e.counted situation_bound e.within_bound x)
  words_unique (too_many_situations r x) (compiled e h) = absurd (count_excludes_more e.counted situation_bound e.within_bound x)
  words_unique (too_few_rows r x) (too_many_situations r' x') = absurd (omega arith)
  words_unique (too_few_rows r x) (too_few_rows r' x') = (refl, refl)
  words_unique (too_few_rows r x) (no_solution e f) = absurd (count_excludes_more e.counted _ e.within_room x)
  words_unique (too_few_rows r x) (compiled e h) = absurd (count_excludes_more e.counted _ e.within_room x)
  words_unique (no_solution e f) (too_many_situations r x) = absurd (count_excludes_more e.counted situation_bound e.within_bound x)
  words_unique (no_solution e f) (too_few_rows r x) = absurd (count_excludes_more e.counted _ e.within_room x)
  words_unique (no_solution e f) (no_solution e' f') = (refl, refl)
  words_unique (no_solution e f) (compiled e' h) = absurd (solved h f)
  words_unique (compiled e h) (too_many_situations r x) = absurd (count_excludes_more e.counted situation_bound e.within_bound x)
  words_unique (compiled e h) (too_few_rows r x) = absurd (count_excludes_more e.counted _ e.within_room x)
  words_unique (compiled e h) (no_solution e' f) = absurd (solved h f)
  words_unique (compiled e h) (compiled e' h') =
      let one = holds_unique h h' in
      let m = count_unique e.counted e'.counted in
      (λ i. record { refusal = 0; states = one.0 i; situations = m i }, one.1)

module _ (text : List ℕ) (room : Room) where
  pub compile_unique : {a b : CompileAnswer} {t u : Tables} → CompileOutcome text room a t → CompileOutcome text room b u → (a ≡ b) × (t ≡ u)
  compile_unique (unread r) (unread r') = (ap refused_answer (one_number r r'), refl)
  compile_unique (unread r) (read r' o) = absurd (refused≢sheet r r')
  compile_unique (read r o) (unread r') = absurd (refused≢sheet r' r)
  compile_unique {b = b} {u = u} (read {s = s} r o) (read r' o') = words_unique o (subst (λ q. SheetOutcome q room b u) (one-sheet r' r) o')
