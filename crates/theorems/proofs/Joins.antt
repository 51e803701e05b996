-- What a join of two tables gives (document 02, S-9): the file to open for it. A call has two tables with their streams, the lent tables, the answer and the
-- contents of the lent tables afterwards; `JoinOutcome` (crate join_tables) is what the public function `join_tables` (crate join_tables) and its entry for C
-- (`join_c`) ensure, for all arguments. Each refusal is given exactly if its condition holds; after a refusal every lent table is zero; a table given back is
-- well formed, and its streams are fit for a further call. For two accepted sheets, whichever release they are of, 11 is never met, 9 is met exactly if no
-- streams solve both where the pairs fit, and the joined table is followed along streams exactly if their cuts solve either sheet; it has the used rows of
-- any sheet over these streams with these solutions, and no machine with fewer states takes the same (S-14). From the laws of outcomes (outcome), of two tables
-- (automaton), of cuts (`JoinedStreams`), and what a compile gives and tells (`Demands`, `ToldTables`, compiled_sheet).
use Prim.Native.Nat.{ℕ, ◌*◌, ◌≤◌, ◌<◌}
use native.Mathlib.Omega.{arith}
use native.Mathlib.Decide.{ℕ_discrete}
use mathlib.Core.Path.{◌≡◌, refl, sym, ap, subst, ◌∙◌}
use mathlib.Core.Bool.{cond}
use mathlib.Core.Logic.{◌↔◌, ◌⊎◌, inl, inr, ◌≢◌}
use mathlib.Core.List.{List, []}
use lib.ListN.{take, length-replicate}
use borrow.Author.Tests.{eq-eqb, ne_eqb}
use Rattle.basics.specs.Count.{MoreThan}
use Rattle.basics.proofs.Count.{count_excludes_more}
use Rattle.automaton.specs.Words.{Word}
use Rattle.automaton.specs.Solutions.{SameSolutions, NoSolution}
use Rattle.automaton.specs.Table.{IsTable}
use Rattle.automaton.specs.Stored.{StoredTable, SameUsedRows, entry_at, final_at}
use Rattle.automaton.specs.Join.{TwoTables, Joined, IsPair, Together, FinalsStay}
use Rattle.automaton.proofs.Solutions.{prefixes_settle}
use Rattle.automaton.proofs.Equality.{used_rows↔solutions}
use Rattle.automaton.proofs.WellFormed.{used_table}
use Rattle.automaton.proofs.Join.{compiled-stay, joined_prefixes}
use Rattle.meaning.specs.Value.{Streams}
use Rattle.meaning.specs.Expression.{Stream, Sheet}
use Rattle.meaning.specs.Letter.{letter_count, word_of, SolutionWord}
use Rattle.meaning.specs.StreamKinds.{SameNamesAndRanges}
use Rattle.meaning.proofs.StreamKinds.{differ_sym, kinds-solution}
use Rattle.meaning.proofs.Word.{word_of-spells}
use Rattle.sheet.specs.Accepted.{AcceptedStreams}
use Rattle.sheet.proofs.Accepted.{accepted_facts}
use Rattle.outcome.specs.Compile.{CompileAnswer, situation_bound, Room, room_rows, Tables, all_zero, CountFits, HoldsTable, too_many_situations, too_few_rows, no_solution, compiled, CompileCall}
use Rattle.outcome.proofs.SheetWords.{solutions_settle}
use Rattle.outcome.proofs.Leaves.{Leaves}
use Rattle.streams.specs.Description.{description_of, StreamsFit}
use Rattle.compiled_sheet.specs.declared.CompiledSheet.{CompiledSheet}
use Rattle.compiled_sheet.specs.Told.{SheetCall}
use Rattle.compiled_sheet.proofs.Sheets.{streams-told}
use Rattle.given_tables.specs.Given.{GivenTable, table_entry, IsFitTable}
use Rattle.joined_streams.specs.Joined.{joined_streams, SharedAlike, WithinBounds}
use Rattle.joined_streams.specs.Describing.{describe}
use Rattle.joined_streams.proofs.Cuts.{cut_below}
use Rattle.pair_outcome.specs.Outcome.{PairTableOutcome, unsettled, given}
use Rattle.join_tables.specs.declared.JoinAnswer.{JoinAnswer}
use Rattle.join_tables.specs.Outcome.{river_streams, tables_together, CanJoin, refused_join, told_of, JoinOutcome, unfit, clash, over_bounds, together}
use Rattle.join_tables.proofs.Outcome.{join_unique, joined-well_formed}
use Rattle.theorems.specs.Following.{FollowedAlong, SolvesByWord}
use Rattle.theorems.specs.Machines.{MetAgain, MetAlways, TakesStreams}
use Rattle.theorems.specs.ToldTables.{told_table}
use Rattle.theorems.specs.Joins.{streams_of_both, SolvesBoth, HasJoinedSolutions, tables_over, GivesJoined, joined_table, PairsLeaveFinal}
use Rattle.theorems.proofs.Following.{solution-by-word, spelled↔word, solves↔followed, words↔streams}
use Rattle.theorems.proofs.KindsApart.{over, table_same, over-differs, over-known}
use Rattle.theorems.proofs.Demands.{ReadAs, read_known, table-stored}
use Rattle.theorems.proofs.ToldTables.{k-told, told-table, told-table-fit}
use Rattle.theorems.proofs.Smallest.{again-tail, always-tail, no_fewer_rows, used_rows-take}
use Rattle.theorems.proofs.JoinedStreams.{covers-first, covers-second, cut-solution, joined-fit, both-ranged}

-- ---- what is given of the pairs

-- By the number that is given.
pub record PairNumber (T : TwoTables) (room : Room) (c : CompileAnswer) (t : Tables) : Type 0 where
  pub not_seven : c.refusal ≢ 7
  pub not_seventeen : c.refusal ≢ 17
  pub eleven : c.refusal ≡ 11 → (m : ℕ) × CountFits (IsPair T) T.letters room m × (¬ FinalsStay T)
  pub eight : c.refusal ≡ 8 → (situation_bound ≤ room_rows room T.letters) × MoreThan (IsPair T) situation_bound
  pub ten : c.refusal ≡ 10 → (room_rows room T.letters < situation_bound) × MoreThan (IsPair T) (room_rows room T.letters)
  pub nine : c.refusal ≡ 9 → (m : ℕ) × CountFits (IsPair T) T.letters room m × FinalsStay T × NoSolution T.letters (Together T)
  pub none : c.refusal ≡ 0 → CountFits (IsPair T) T.letters room c.situations × FinalsStay T × HoldsTable (Together T) T.letters room c.states t
  pub refused : 0 < c.refusal → t ≡ all_zero room

module _ {T : TwoTables} {room : Room} where
  pair_number : {c : CompileAnswer} {t : Tables} → PairTableOutcome T room c t → PairNumber T room c t
  pair_number (unsettled {m} f n) = record {
    not_seven = λ e. omega arith;
    not_seventeen = λ e. omega arith;
    eleven = λ e. (m, f, n);
    eight = λ e. absurd (omega arith);
    ten = λ e. absurd (omega arith);
    nine = λ e. absurd (omega arith);
    none = λ e. absurd (omega arith);
    refused = λ h. refl;
  }
  pair_number (given s (too_many_situations h x)) = record {
    not_seven = λ e. omega arith;
    not_seventeen = λ e. omega arith;
    eleven = λ e. absurd (omega arith);
    eight = λ e. (h, x);
    ten = λ e. absurd (omega arith);
    nine = λ e. absurd (omega arith);
    none = λ e. absurd (omega arith);
    refused = λ h. refl;
  }
  pair_number (given s (too_few_rows h x)) = record {
    not_seven = λ e. omega arith;
    not_seventeen = λ e. omega arith;
    eleven = λ e. absurd (omega arith);
    eight = λ e. absurd (omega arith);
    ten = λ e. (h, x);
    nine = λ e. absurd (omega arith);
    none = λ e. absurd (omega arith);
    refused = λ h. refl;
  }
  pair_number (given s (no_solution {m} f x)) = record {
    not_seven = λ e. omega arith;
    not_seventeen = λ e. omega arith;
    eleven = λ e. absurd (omega arith);
    eight = λ e. absurd (omega arith);
    ten = λ e. absurd (omega arith);
    nine = λ e. (m, f, s m f, x);
    none = λ e. absurd (omega arith);
    refused = λ h. refl;
  }
  pair_number (given s (compiled {m} f x)) = record {
    not_seven = λ e. omega arith;
    not_seventeen = λ e. omega arith;
    eleven = λ e. absurd (omega arith);
    eight = λ e. absurd (omega arith);
    ten = λ e. absurd (omega arith);
    nine = λ e. absurd (omega arith);
    none = λ e. (f, s m f, x);
    refused = λ h. absurd (omega arith);
  }

-- ---- the answer

module _ (c : CompileAnswer) (js : List Stream) where
  told_given : c.refusal ≡ 0 → told_of c js ≡ record { refusal = 0; states = c.states; pairs = c.situations; letters = letter_count js; streams = describe js }
  told_given e = ap (λ z. cond z (record { refusal = 0; states = c.states; pairs = c.situations; letters = letter_count js; streams = describe js }) (refused_join c.refusal)) (eq-eqb c.refusal 0 e)

  told_refused : c.refusal ≢ 0 → told_of c js ≡ refused_join c.refusal
  told_refused n = ap (λ z. cond z (record { refusal = 0; states = c.states; pairs = c.situations; letters = letter_count js; streams = describe js }) (refused_join c.refusal)) (ne_eqb c.refusal 0 n)

  told_number : (told_of c js).refusal ≡ c.refusal
  told_number = by (ℕ_discrete c.refusal 0)
    where
      by : Dec (c.refusal ≡ 0) → (told_of c js).refusal ≡ c.refusal
      by (yes e) = ap (λ (r : JoinAnswer). r.refusal) (told_given e) ∙ sym e
      by (no n) = ap (λ (r : JoinAnswer). r.refusal) (told_refused n)

zero_leaves : (room : Room) → Leaves room (all_zero room)
zero_leaves room = record { entries_size = length-replicate room.entries 0; finals_size = length-replicate room.finals 0; work_zero = refl }

-- ---- any two tables

module _ {a b : GivenTable} {room : Room} where
  -- Answer and tables are settled: a call with the same tables and the same room gives the same.
  pub one_join : {r q : JoinAnswer} {t u : Tables} → JoinOutcome a b room r t → JoinOutcome a b room q u → (r ≡ q) × (t ≡ u)
  one_join x y = join_unique x y

  same_number : {r q : JoinAnswer} {t u : Tables} → JoinOutcome a b room r t → JoinOutcome a b room q u → r.refusal ≡ q.refusal
  same_number x y = ap (λ (r : JoinAnswer). r.refusal) (one_join x y).0

  -- The pairs' number, where neither 11 nor 17 nor 7 applies.
  pair_of : {r : JoinAnswer} {t : Tables} {P : Type 0} → JoinOutcome a b room r t → (r.refusal ≢ 11) → (r.refusal ≢ 17) → (r.refusal ≢ 7)
      → (CanJoin a b → (c : CompileAnswer) → r.refusal ≡ c.refusal → PairNumber (tables_together a b) room c t → P) → P
  pair_of (unfit x) n m l f = absurd (n refl)
  pair_of (clash g h d) n m l f = absurd (m refl)
  pair_of (over_bounds g h s d) n m l f = absurd (l refl)
  pair_of (together {c} can p) n m l f = f can c (told_number c (river_streams a b)) (pair_number p)

  -- ---- the refusals: "Turned away: 17, a shared name with another range or kind, before all of these; a malformed table, or one without rows, is 11, as in S-3
  -- and S-8, before 17"

  module _ {r : JoinAnswer} {t : Tables} (call : JoinOutcome a b room r t) where
    -- Tables that no compile gave may have pairs that do not stay final: "for other well_formed ones the outcome is free".
    pub eleven↔unfit_or_leaving : (r.refusal ≡ 11) ↔ ((¬ (IsFitTable a × IsFitTable b)) ⊎ PairsLeaveFinal a b room)
    eleven↔unfit_or_leaving = (to call, from)
      where
        to : {q : JoinAnswer} {u : Tables} → JoinOutcome a b room q u → q.refusal ≡ 11 → (¬ (IsFitTable a × IsFitTable b)) ⊎ PairsLeaveFinal a b room
        to (unfit x) e = inl x
        to (clash f g d) e = absurd (omega arith)
        to (over_bounds f g s d) e = absurd (omega arith)
        to (together {c} can p) e =
            let x = (pair_number p).eleven (sym (told_number c (river_streams a b)) ∙ e) in
            inr (record { can = can; pairs = x.0; fits = x.1; leave = x.2 })

        from : (¬ (IsFitTable a × IsFitTable b)) ⊎ PairsLeaveFinal a b room → r.refusal ≡ 11
        from (inl x) = same_number call (unfit x)
        from (inr x) = same_number call (together x.can (unsettled x.fits x.leave))

    pub seventeen↔clash : (r.refusal ≡ 17) ↔ (IsFitTable a × IsFitTable b × (¬ SharedAlike (description_of a.streams) (description_of b.streams)))
    seventeen↔clash = (to call, λ x. same_number call (clash x.0 x.1 x.2))
      where
        to : {q : JoinAnswer} {u : Tables} → JoinOutcome a b room q u → q.refusal ≡ 17 → IsFitTable a × IsFitTable b × (¬ SharedAlike (description_of a.streams) (description_of b.streams))
        to (unfit x) e = absurd (omega arith)
        to (clash f g d) e = (f, g, d)
        to (over_bounds f g s d) e = absurd (omega arith)
        to (together {c} can p) e = absurd ((pair_number p).not_seventeen (sym (told_number c (river_streams a b)) ∙ e))

    -- "Bounds on streams and letters give 7"
    pub seven↔too_large : (r.refusal ≡ 7) ↔ (IsFitTable a × IsFitTable b × SharedAlike (description_of a.streams) (description_of b.streams) × (¬ WithinBounds (river_streams a b)))
    seven↔too_large = (to call, λ x. same_number call (over_bounds x.0 x.1 x.2 x.3))
      where
        to : {q : JoinAnswer} {u : Tables} → JoinOutcome a b room q u → q.refusal ≡ 7 → IsFitTable a × IsFitTable b × SharedAlike (description_of a.streams) (description_of b.streams) × (¬ WithinBounds (river_streams a b))
        to (unfit x) e = absurd (omega arith)
        to (clash f g d) e = absurd (omega arith)
        to (over_bounds f g s d) e = (f, g, s, d)
        to (together {c} can p) e = absurd ((pair_number p).not_seven (sym (told_number c (river_streams a b)) ∙ e))

    -- "reachable pairs of states in place of situations give 8 or 10"
    pub eight↔too_many_pairs : (r.refusal ≡ 8) ↔ (CanJoin a b × (situation_bound ≤ room_rows room (letter_count (river_streams a b))) × MoreThan (IsPair (tables_together a b)) situation_bound)
    eight↔too_many_pairs = (
      (λ e. pair_of call (λ z. absurd (omega arith)) (λ z. absurd (omega arith)) (λ z. absurd (omega arith)) λ can c d x. let y = x.eight (sym d ∙ e) in (can, y.0, y.1)),
      λ x. same_number call (together x.0 (given (λ m f. absurd (count_excludes_more f.counted situation_bound f.within_bound x.2)) (too_many_situations x.1 x.2))),
    )

    pub ten↔too_few_rows : (r.refusal ≡ 10) ↔ (CanJoin a b × (room_rows room (letter_count (river_streams a b)) < situation_bound) × MoreThan (IsPair (tables_together a b)) (room_rows room (letter_count (river_streams a b))))
    ten↔too_few_rows = (
      (λ e. pair_of call (λ z. absurd (omega arith)) (λ z. absurd (omega arith)) (λ z. absurd (omega arith)) λ can c d x. let y = x.ten (sym d ∙ e) in (can, y.0, y.1)),
      λ x. same_number call (together x.0 (given (λ m f. absurd (count_excludes_more f.counted (room_rows room (letter_count (river_streams a b))) f.within_room x.2)) (too_few_rows x.1 x.2))),
    )

    -- "The joined table is then zero."
    pub refused_join-zero : 0 < r.refusal → (r ≡ refused_join r.refusal) × (t ≡ all_zero room)
    refused_join-zero h = by call h
      where
        by : {q : JoinAnswer} {u : Tables} → JoinOutcome a b room q u → 0 < q.refusal → (q ≡ refused_join q.refusal) × (u ≡ all_zero room)
        by (unfit x) h = (refl, refl)
        by (clash f g d) h = (refl, refl)
        by (over_bounds f g s d) h = (refl, refl)
        by (together {c} {t = u} can p) h =
            let e = told_number c (river_streams a b) in
            let n : c.refusal ≢ 0 = λ z. omega (arith, e, z, h) in
            (told_refused c (river_streams a b) n ∙ ap refused_join (sym e), (pair_number p).refused (omega (arith, e, h)))

    -- ---- what is given

    pub join_given : r.refusal ≡ 0 → GivesJoined (description_of a.streams) (description_of b.streams) a b room r t
    join_given z = by call z
      where
        by : {q : JoinAnswer} {u : Tables} → JoinOutcome a b room q u → q.refusal ≡ 0 → GivesJoined (description_of a.streams) (description_of b.streams) a b room q u
        by (unfit x) e = absurd (omega arith)
        by (clash f g d) e = absurd (omega arith)
        by (over_bounds f g s d) e = absurd (omega arith)
        by (together {c} {t = u} can p) e =
            let z = sym (told_number c (river_streams a b)) ∙ e in
            let x = (pair_number p).none z in
            subst (λ q. GivesJoined (description_of a.streams) (description_of b.streams) a b room q u) (sym (told_given c (river_streams a b) z))
            (record { shared = can.shared; bounds = can.bounds; letters = refl; streams = refl; fits = x.0; stays = x.1; held = x.2 })

    -- neither 11 nor 17 nor 7 applies
    pub can_join : r.refusal ≡ 0 → CanJoin a b
    can_join z = pair_of call (λ e. absurd (omega arith)) (λ e. absurd (omega arith)) (λ e. absurd (omega arith)) λ can c d x. can

    -- "work tables are zero after every call"; the tables are as long as they were lent.
    pub join_leaves : Leaves room t
    join_leaves = by (ℕ_discrete r.refusal 0)
      where
        by : Dec (r.refusal ≡ 0) → Leaves room t
        by (yes z) = let h = (join_given z).held in record { entries_size = h.entries_size; finals_size = h.finals_size; work_zero = h.work_zero }
        by (no n) = subst (Leaves room) (sym (refused_join-zero (omega arith)).1) (zero_leaves room)

    -- "a table given back is well formed", and with its streams fit for a further call.
    pub joined-table-fit : r.refusal ≡ 0 → IsFitTable (joined_table r t)
    joined-table-fit z =
        let g = join_given z in
        let fit = can_join z in
        record {
          well_formed = joined-well_formed call z;
          streams_fit = subst (StreamsFit r.streams) (sym g.letters) (subst (λ x. StreamsFit x (letter_count (river_streams a b))) (sym g.streams)
              (joined-fit fit.left_fit.streams_fit.accepted fit.right_fit.streams_fit.accepted g.shared g.bounds));
        }

-- Tables of sets of words, as compiles and joins give them, are never turned away with 11: their final states lead to final ones.
pub sets_never_eleven : {LeftSol RightSol : Word → Type 0} {n m : ℕ} {a b : GivenTable} → IsFitTable a → IsFitTable b → IsTable LeftSol a.letters n (table_entry a) (final_at a.finals)
    → IsTable RightSol b.letters m (table_entry b) (final_at b.finals) → {room : Room} {r : JoinAnswer} {t : Tables} → JoinOutcome a b room r t → r.refusal ≢ 11
sets_never_eleven {a = a} {b} f g A B {room} call e = by ((eleven↔unfit_or_leaving call).0 e)
  where
    by : (¬ (IsFitTable a × IsFitTable b)) ⊎ PairsLeaveFinal a b room → ⊥
    by (inl x) = x (f, g)
    by (inr x) =
        let shared = x.can.shared in
        let one = f.streams_fit in
        let other = g.streams_fit in
        x.leave (compiled-stay (tables_together a b) A B
        (λ c h. subst ((tables_together a b).left c <◌) one.makes_letters (cut_below (covers-first one.accepted other.accepted shared) c h))
        (λ c h. subst ((tables_together a b).right c <◌) other.makes_letters (cut_below (covers-second one.accepted other.accepted shared) c h)))

-- The joined table is one of a set of words too, so that it can be joined again.
pub joined-is-table : {a b : GivenTable} {room : Room} {r : JoinAnswer} {t : Tables} (call : JoinOutcome a b room r t) → r.refusal ≡ 0
    → IsTable (Together (tables_together a b)) r.letters r.states (table_entry (joined_table r t)) (final_at (joined_table r t).finals)
joined-is-table {a} {b} {r = r} {t} call z =
    let g = join_given call z in
    subst (λ k. IsTable (Together (tables_together a b)) k r.states (entry_at k (take (r.states * k) t.entries)) (final_at (take r.states t.finals))) (sym g.letters) (used_table g.held.table)

-- ---- tables that compiles gave, each with the letters and the streams that it tells, for whichever releases their sheets are of

module _ {text text' : List ℕ} {lent lent' : Room} {r r' : CompiledSheet} {t t' : Tables} (call : SheetCall text lent r t) (call' : SheetCall text' lent' r' t') (accepted : r.refusal ≡ 0)
    (accepted' : r'.refusal ≡ 0) {s q : Sheet} (read : ReadAs text s) (read' : ReadAs text' q) where
  abbrev first : GivenTable
  first = told_table r t

  abbrev second : GivenTable
  second = told_table r' t'

  abbrev js : List Stream
  js = streams_of_both s q

  both-fit : IsFitTable first × IsFitTable second
  both-fit = (told-table-fit call accepted read, told-table-fit call' accepted' read')

  -- What is said of the streams that are described holds of the sheets' own.
  of_sheets : (P : List Stream → List Stream → Type 0) → P (description_of r.streams) (description_of r'.streams) → P s.streams q.streams
  of_sheets P x = subst (P s.streams) (streams-told call'.tells accepted' read') (subst (λ ss. P ss (description_of r'.streams)) (streams-told call.tells accepted read) x)

  of-tables : (P : List Stream → List Stream → Type 0) → P s.streams q.streams → P (description_of r.streams) (description_of r'.streams)
  of-tables P x = subst (P (description_of r.streams)) (sym (streams-told call'.tells accepted' read')) (subst (λ ss. P ss q.streams) (sym (streams-told call.tells accepted read)) x)

  -- The two tables along the cuts to the sheets' own streams.
  abbrev T₂ : TwoTables
  T₂ = tables_over s.streams q.streams first second

  -- No word is followed by both tables together.
  abbrev NoneOver : List Stream → List Stream → Type 0
  NoneOver ss ts = NoSolution (letter_count (joined_streams ss ts)) (Together (tables_over ss ts first second))

  module _ (shared : SharedAlike s.streams q.streams) where
    first-streams : AcceptedStreams s.streams
    first-streams = (accepted_facts read).streams

    second-streams : AcceptedStreams q.streams
    second-streams = (accepted_facts read').streams

    pairs-stay : FinalsStay T₂
    pairs-stay = compiled-stay T₂ (told-table call accepted read) (told-table call' accepted' read') (cut_below (covers-first first-streams second-streams shared)) (cut_below (covers-second first-streams second-streams shared))

    -- The words that both tables follow together are those whose cuts are solution words.
    together_words : SameSolutions (letter_count js) (Together T₂) (Joined T₂.left T₂.right (SolutionWord s) (SolutionWord q))
    together_words = joined_prefixes T₂ (told-table call accepted read) (told-table call' accepted' read') (cut_below (covers-first first-streams second-streams shared)) (cut_below (covers-second first-streams second-streams shared)) (solutions_settle s) (solutions_settle q)

    -- Streams solve both sheets exactly if they are in their ranges and both tables follow their word together.
    both-by-word : SolvesByWord js (Together T₂) (SolvesBoth s q)
    both-by-word = record {
      ranged = λ w h. both-ranged first-streams second-streams shared w h.solves_first.ranged h.solves_second.ranged;
      word = λ w ranged.
          let one = cut-solution (read_known read) (covers-first first-streams second-streams shared) w ranged in
          let other = cut-solution (read_known read') (covers-second first-streams second-streams shared) w ranged in
          let letters = (word_of-spells js w ranged).letters in (
            (λ x. let y = together_words.to (word_of js w) letters x in record { solves_first = one.0 y.solves_left; solves_second = other.0 y.solves_right }),
            λ h. together_words.from (word_of js w) letters (record { solves_left = one.1 h.solves_first; solves_right = other.1 h.solves_second }),
          );
    }

  module _ {room : Room} {answer : JoinAnswer} {tables : Tables} (join : JoinOutcome first second room answer tables) where
    -- ---- the refusals

    pub never-eleven : answer.refusal ≢ 11
    never-eleven = sets_never_eleven both-fit.0 both-fit.1 (in_told (k-told call accepted read) (told-table call accepted read)) (in_told (k-told call' accepted' read') (told-table call' accepted' read')) join
      where
        in_told : {Sol : Word → Type 0} {n k m : ℕ} {entry : ℕ → ℕ → ℕ} {final : ℕ → ℕ} → m ≡ k → IsTable Sol k n entry final → IsTable Sol m n entry final
        in_told {Sol} {n} {entry = entry} {final} e A = subst (λ k. IsTable Sol k n entry final) (sym e) A

    -- "17, a shared name with another range or kind"
    pub seventeen↔shared_differ : (answer.refusal ≡ 17) ↔ (¬ SharedAlike s.streams q.streams)
    seventeen↔shared_differ = (
      (λ e d. ((seventeen↔clash join).0 e).2 (of-tables SharedAlike d)),
      λ d. (seventeen↔clash join).1 (both-fit.0, both-fit.1, λ x. d (of_sheets SharedAlike x)),
    )

    pub seven↔streams_too_large : (answer.refusal ≡ 7) ↔ (SharedAlike s.streams q.streams × (¬ WithinBounds js))
    seven↔streams_too_large = (
      (λ e. let x = (seven↔too_large join).0 e in (of_sheets SharedAlike x.2, λ w. x.3 (of-tables (λ ss ts. WithinBounds (joined_streams ss ts)) w))),
      λ x. (seven↔too_large join).1 (both-fit.0, both-fit.1, of-tables SharedAlike x.0, λ w. x.1 (of_sheets (λ ss ts. WithinBounds (joined_streams ss ts)) w)),
    )

    -- "9 means no common solution", where none of the others applies.
    pub nine↔no_common_solution : SharedAlike s.streams q.streams → WithinBounds js → {m : ℕ} → CountFits (IsPair (tables_together first second)) (letter_count (river_streams first second)) room m
        → (answer.refusal ≡ 9) ↔ ((w : Streams) → SolvesBoth s q w → ⊥)
    nine↔no_common_solution shared bounds fits = (to, from)
      where
        to : answer.refusal ≡ 9 → (w : Streams) → SolvesBoth s q w → ⊥
        to e w h =
            let none = pair_of join (λ z. absurd (omega arith)) (λ z. absurd (omega arith)) (λ z. absurd (omega arith)) λ can c d x. (x.nine (sym d ∙ e)).3 in
            let ranged = (both-by-word shared).ranged w h in
            of_sheets NoneOver none (word_of js w) (word_of-spells js w ranged).letters (((both-by-word shared).word w ranged).1 h)

        from : ((w : Streams) → SolvesBoth s q w → ⊥) → answer.refusal ≡ 9
        from h =
            let can : CanJoin first second = record { left_fit = both-fit.0; right_fit = both-fit.1; shared = of-tables SharedAlike shared; bounds = of-tables (λ ss ts. WithinBounds (joined_streams ss ts)) bounds } in
            let stay = of-tables (λ ss ts. FinalsStay (tables_over ss ts first second)) (pairs-stay shared) in
            same_number join (together can (given (λ m f. stay) (no_solution fits (of-tables NoneOver (λ x b y. h _ ((spelled↔word (both-by-word shared) x b).1 y))))))

    -- ---- the joined table

    module _ (z : answer.refusal ≡ 0) where
      -- The used rows hold the table of the words whose cuts solve either sheet.
      given-of_sheets : GivesJoined s.streams q.streams first second room answer tables
      given-of_sheets = of_sheets (λ ss ts. GivesJoined ss ts first second room answer tables) (join_given join z)

      stored : StoredTable (Together T₂) (letter_count js) answer.states tables.entries tables.finals
      stored = given-of_sheets.held.table

      by_word : SolvesByWord js (Together T₂) (SolvesBoth s q)
      by_word = both-by-word given-of_sheets.shared

      -- "The joined solutions are those whose cuts to either sheet's streams solve that sheet": exactly along these the joined table can be followed from its
      -- start without a missing entry and meets final states again and again.
      pub join_solutions : (w : Streams) → SolvesBoth s q w ↔ FollowedAlong js tables.entries tables.finals w
      join_solutions = solves↔followed by_word prefixes_settle stored

      -- "so it equals the table of any single sheet over these streams, in this order and these ranges, with those solutions", and of none with others.
      pub join_single_sheet : {text'' : List ℕ} {lent'' : Room} {c : CompileAnswer} {u : Tables} → CompileCall text'' lent'' c u → {one : Sheet} → ReadAs text'' one → c.refusal ≡ 0
          → SameNamesAndRanges one.streams js
          → SameUsedRows (letter_count js) answer.states tables.entries tables.finals c.states u.entries u.finals ↔ HasJoinedSolutions s q one
      join_single_sheet single {one} read'' e same =
          let base : Sheet = record { streams = js; constraints = [] } in
          let differs = over-differs base one same in
          let rows = used_rows↔solutions prefixes_settle (solutions_settle (over js one)) stored (table_same differs (table-stored single read'' e)) in
          let words = words↔streams by_word (solution-by-word (over js one) (over-known base one same (read_known read''))) in (
            (λ x. let h = words.0 (rows.0 x) in record { to = λ w y. h.1 w (kinds-solution differs y); from = λ w y. kinds-solution (differ_sym differs) (h.0 w y) }),
            λ h. rows.1 (words.1 ((λ w y. kinds-solution differs (h.from w y)), λ w y. h.to w (kinds-solution (differ_sym differs) y))),
          )

      -- ---- "It covers sheets of both releases and their joins" (S-14)

      module _ (m : ℕ) (entry : ℕ → ℕ → ℕ) (final : ℕ → ℕ) (start : ℕ) where
        -- No machine with fewer states, numbered in any manner and with any choice of final states, takes the same solutions: met again and again,
        pub no_smaller_joined_table : ((w : Streams) → SolvesBoth s q w ↔ TakesStreams js m entry (MetAgain final) start w) → answer.states ≤ m
        no_smaller_joined_table = no_fewer_rows by_word stored m entry (again-tail final) start

        -- and from some time on always.
        pub no_smaller_joined_table_always : ((w : Streams) → SolvesBoth s q w ↔ TakesStreams js m entry (MetAlways final) start w) → answer.states ≤ m
        no_smaller_joined_table_always = no_fewer_rows by_word stored m entry (always-tail final) start

      -- The joined table is such a machine.
      pub joined-table-takes : (w : Streams) → SolvesBoth s q w ↔ TakesStreams js answer.states (entry_at (letter_count js) tables.entries) (MetAgain (final_at tables.finals)) 0 w
      joined-table-takes = used_rows-take by_word stored prefixes_settle
