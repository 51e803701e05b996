-- From what the calls of a join give to its outcome: the streams and tables are refused, and every table is cleared since there are no letters; or what the
-- search of the pairs and the making of the table give is the outcome of the two tables together. From the laws of pairs (pair_outcome).
use Prim.Native.Nat.{ℕ, ◌*◌, ◌/◌, ◌≤◌, ◌<◌, min}
use native.Mathlib.Omega.{arith}
use native.Mathlib.Nat.{div-one, le_refl}
use mathlib.Core.Path.{◌≡◌, sym, ap, subst, ◌∙◌}
use mathlib.Core.Bool.{Bool, true, false, cond}
use mathlib.Core.Logic.{inl, inr, ◌≢◌}
use mathlib.Core.List.{List, [], ◌∷◌}
use lib.Dec.{eqb}
use lib.ListN.{length}
use borrow.Author.Tests.{ne_eqb}
use Rattle.basics.specs.Answers.{Says}
use Rattle.basics.specs.Lists.{at}
use Rattle.meaning.specs.Letter.{letter_count}
use Rattle.automaton.specs.Stored.{final_at}
use Rattle.automaton.specs.WellFormed.{IsWellFormed}
use Rattle.streams.specs.Description.{description_of}
use Rattle.streams.specs.declared.StreamsDescription.{StreamsDescription}
use Rattle.outcome.specs.Room.{zeros}
use Rattle.outcome.specs.Compile.{situation_bound, Room, room_rows, all_zero}
use Rattle.outcome.proofs.CompileTotal.{rows_fit}
use Rattle.minimise.specs.Outcome.{GraphTables, IsRefusal, MinimiseOutcome}
use Rattle.minimise.specs.declared.Minimised.{Minimised}
use Rattle.given_tables.specs.Given.{GivenTable, table_entry}
use Rattle.joined_streams.specs.Joined.{cut_number}
use Rattle.joined_streams.specs.declared.JoinedStreams.{JoinedStreams}
use Rattle.joined_streams.specs.Outcome.{IsJoined, JoinedStreamsOutcome, unfit, clash, bounded, BoundsOutcome, over_bounds, joined}
use Rattle.pairs.specs.Rows.{tables_over}
use Rattle.pairs.specs.Found.{PairTables, pair_tables, IsPairRoom, PairWorkZero, PairsOutcome, found, none}
use Rattle.pair_outcome.specs.Outcome.{join_room, pair_answer}
use Rattle.pair_outcome.proofs.Agree.{pairs-agree}
use Rattle.pair_outcome.proofs.Made.{calls_outcome}
use Rattle.join_tables.specs.declared.JoinAnswer.{JoinAnswer}
use Rattle.join_tables.specs.Outcome.{river_streams, CanJoin, refused_join, told_of, told_by, JoinOutcome, JoinOutcome.unfit as tables-unfit, JoinOutcome.clash as names-clash, JoinOutcome.over_bounds as too_large, JoinOutcome.together as together}
use Rattle.join_tables.proofs.Fit.{states-below, some_letter}

-- ---- the refusal of the tables and streams

-- Two tables are refused, and nothing is told; or they can be joined.
pub data TablesJudged (a b : GivenTable) (room : Room) (s : JoinedStreams) : ℕ → Type 0 where
  refused : {n : ℕ} → n ≢ 0 → JoinOutcome a b room (refused_join n) (all_zero room) → TablesJudged a b room s n
  judged : CanJoin a b → IsJoined a.streams b.streams s → TablesJudged a b room s 0

pub tables-judged : {a b : GivenTable} {room : Room} {s : JoinedStreams} (fit : Bool) → Says fit (IsWellFormed a.letters a.entries a.finals × IsWellFormed b.letters b.entries b.finals)
    → JoinedStreamsOutcome a.streams b.streams a.letters b.letters s → TablesJudged a b room s (cond fit s.refusal 11)
tables-judged false told o = refused {n = 11} (omega arith) (tables-unfit (λ x. told (x.0.well_formed, x.1.well_formed)))
tables-judged true told (unfit x) = refused {n = 11} (omega arith) (tables-unfit (λ y. x (y.0.streams_fit, y.1.streams_fit)))
tables-judged true told (clash f g c) = refused {n = 17} (omega arith) (names-clash (record { well_formed = told.0; streams_fit = f }) (record { well_formed = told.1; streams_fit = g }) c)
tables-judged {a} {b} {room} {s} true told (bounded f g c o) = by o
  where
    by : {s : JoinedStreams} → BoundsOutcome a.streams b.streams s → TablesJudged a b room s s.refusal
    by (over_bounds n) = refused {n = 7} (omega arith) (too_large (record { well_formed = told.0; streams_fit = f }) (record { well_formed = told.1; streams_fit = g }) c n)
    by {s} (joined w is) =
        subst (TablesJudged a b room s) (sym is.accepted)
        (judged (record { left_fit = record { well_formed = told.0; streams_fit = f }; right_fit = record { well_formed = told.1; streams_fit = g }; shared = c; bounds = w }) is)

-- ---- the fewest rows

-- the least of some numbers
abbrev least : ℕ → List ℕ → ℕ
least m [] = m
least m (n ∷ ns) = min m (least n ns)

-- a number is at most each of them
abbrev AtMost : ℕ → ℕ → List ℕ → Type 0
AtMost r m [] = r ≤ m
AtMost r m (n ∷ ns) = (r ≤ m) × AtMost r n ns

at-most-each : (r m : ℕ) (ns : List ℕ) → r ≤ least m ns → AtMost r m ns
at-most-each r m [] h = h
at-most-each r m (n ∷ ns) h = (omega arith, at-most-each r n ns (omega arith))

within-rows : (rows bound limit : ℕ) → limit ≡ min rows bound → limit ≤ rows
within-rows rows bound limit e = omega arith

within-bound : (rows bound limit n : ℕ) → limit ≡ min rows bound → n ≤ limit → n ≤ bound
within-bound rows bound limit n e h = omega arith

all-counted : (n bound : ℕ) → n ≤ bound → min n bound ≡ n
all-counted n bound h = omega arith

-- ---- what the search leaves

work_zero : {lc rc l r limit n : ℕ} {T : _} {before after : PairTables} → PairsOutcome lc rc T l r limit before after n → PairWorkZero before after
work_zero (found h w) = w
work_zero (none m p q w) = w

few-found : {lc rc l r limit n : ℕ} {T : _} {before after : PairTables} → PairsOutcome lc rc T l r limit before after n → n ≤ limit
few-found (found h w) = h.rows.within
few-found (none m p q w) = omega arith

module _ (entries finals keys live class next heads links envelopes : List ℕ) where
  abbrev lent_room : Room
  lent_room = join_room entries finals keys live class next heads links envelopes

  -- Without letters there is no graph, so every table is cleared.
  pub calls_cleared : {letters n refusal states : ℕ} {entries₁ finals₁ keys₁ heads₁ links₁ : List ℕ} {after : GraphTables} → length entries₁ ≡ length entries → length finals₁ ≡ length finals
      → length heads₁ ≡ length heads → length links₁ ≡ length links → keys₁ ≡ zeros (length keys)
      → MinimiseOutcome (record { entries = entries₁; flags = finals₁; work = live ∷ (class ∷ (next ∷ (heads₁ ∷ (links₁ ∷ (envelopes ∷ []))))) }) letters n refusal states after → letters ≡ 0
      → all_zero lent_room ≡ record { entries = after.entries; finals = after.flags; work = keys₁ ∷ after.work }
  calls_cleared {letters} {n} {refusal} {states} {entries₁} {finals₁} {keys₁} {heads₁} {links₁} {after} el fl hl ll kz m e = by m
    where
      before : GraphTables
      before = record { entries = entries₁; flags = finals₁; work = live ∷ (class ∷ (next ∷ (heads₁ ∷ (links₁ ∷ (envelopes ∷ []))))) }

      zero : {number : ℕ} → IsRefusal number before refusal states after → all_zero lent_room ≡ record { entries = after.entries; finals = after.flags; work = keys₁ ∷ after.work }
      zero y =
          sym (λ i.
          record {
            entries = (y.entries_zero ∙ ap zeros el) i;
            finals = (y.flags_zero ∙ ap zeros fl) i;
            work = kz i ∷ (y.work_zero ∙ (λ j. zeros (length live) ∷ (zeros (length class) ∷ (zeros (length next) ∷ (zeros (hl j) ∷ (zeros (ll j) ∷ (zeros (length envelopes) ∷ []))))))) i;
          })

      by : MinimiseOutcome before letters n refusal states after → all_zero lent_room ≡ record { entries = after.entries; finals = after.flags; work = keys₁ ∷ after.work }
      by (inl x) = zero x.answer
      by (inr (inl x)) = absurd (omega (arith, e, x.accepted.graph.some_letter))
      by (inr (inr x)) = absurd (omega (arith, e, x.accepted.graph.some_letter))

  -- ---- two tables that can be joined

  module _ {a b : GivenTable} (j : CanJoin a b) {s : JoinedStreams} (is : IsJoined a.streams b.streams s) {letters rows limit : ℕ} (same : letters ≡ letter_count (river_streams a b))
      (fewest : rows ≡ min (length entries / letters) (min (length finals) (min (length keys) (min (length live) (min (length class) (min (length next) (min (length heads) (min (length links) (length envelopes)))))))))
      (cut : limit ≡ min rows situation_bound) where
    abbrev k : ℕ
    k = letter_count (river_streams a b)

    rows_are : rows ≡ room_rows lent_room k
    rows_are = fewest ∙ lent ∙ ap (room_rows lent_room) same
      where
        lent : min (length entries / letters) (min (length finals) (min (length keys) (min (length live) (min (length class) (min (length next) (min (length heads) (min (length links) (length envelopes)))))))) ≡ room_rows lent_room letters
        lent = simp div-one

    -- Each table has room for as many rows as the limit.
    ready : 0 < limit → IsPairRoom a.letters b.letters k limit (length s.left) (length s.right) (pair_tables entries finals keys heads links)
    ready h =
        let held =
        at-most-each limit (length entries / letters) (length finals ∷ (length keys ∷ (length live ∷ (length class ∷ (length next ∷ (length heads ∷ (length links ∷ (length envelopes ∷ []))))))))
        (subst (λ r. limit ≤ r) fewest (within-rows rows situation_bound limit cut)) in
        record {
          few_left = j.left_fit.streams_fit.few_letters;
          few_right = j.right_fit.streams_fit.few_letters;
          left_cut = subst (λ m. k ≤ m) (sym is.left_cuts.long) j.bounds.few_letters;
          right_cut = subst (λ m. k ≤ m) (sym is.right_cuts.long) j.bounds.few_letters;
          some_row = h;
          few_rows = within-bound rows situation_bound limit limit cut (le_refl limit);
          flags_room = held.1.0;
          keys_room = held.1.1.0;
          heads_room = held.1.1.1.1.1.1.0;
          links_room = held.1.1.1.1.1.1.1.0;
          entries_room = subst (λ m. limit * m ≤ length entries) same (rows_fit limit letters (length entries) held.0);
        }

    -- What is told of the table: the pairs within the bound are counted as they are.
    told : (n : ℕ) (table : Minimised) → n ≤ limit → told_by (pair_answer rows (min n situation_bound) table) s ≡ told_of (pair_answer (room_rows lent_room k) n table) (river_streams a b)
    told n table h =
        let counted = all-counted n situation_bound (within-bound rows situation_bound limit n cut h) in
        ap (λ m. told_by (pair_answer rows m table) s) counted ∙ ap (λ r. told_by (pair_answer r n table) s) rows_are ∙ (λ i. same-told (is.letters i) (is.streams i))
      where
        same-told : ℕ → StreamsDescription → JoinAnswer
        same-told m d =
            let c = pair_answer (room_rows lent_room k) n table in
            cond (eqb c.refusal 0) (record { refusal = 0; states = c.states; pairs = c.situations; letters = m; streams = d }) (refused_join c.refusal)

    pub tables-joined : {n : ℕ} {table : Minimised} {entries₁ finals₁ keys₁ heads₁ links₁ : List ℕ} {after : GraphTables} → length entries₁ ≡ length entries → length finals₁ ≡ length finals
        → length heads₁ ≡ length heads → length links₁ ≡ length links
        → PairsOutcome (length s.left) (length s.right) (tables_over a.entries a.finals b.entries b.finals s.left s.right a.letters b.letters letters) a.letters b.letters limit
        (pair_tables entries finals keys heads links) (pair_tables entries₁ finals₁ keys₁ heads₁ links₁) n
        → MinimiseOutcome (record { entries = entries₁; flags = finals₁; work = live ∷ (class ∷ (next ∷ (heads₁ ∷ (links₁ ∷ (envelopes ∷ []))))) }) letters n table.refusal table.states after
        → JoinOutcome a b lent_room (told_by (pair_answer rows (min n situation_bound) table) s) (record { entries = after.entries; finals = after.flags; work = keys₁ ∷ after.work })
    tables-joined {n} {table} {entries₁} {finals₁} {keys₁} {heads₁} {links₁} {after} el fl hl ll o m =
        let before : GraphTables = record { entries = entries₁; flags = finals₁; work = live ∷ (class ∷ (next ∷ (heads₁ ∷ (links₁ ∷ (envelopes ∷ []))))) } in
        let o' =
        pairs-agree k (at s.left) (cut_number (river_streams a b) (description_of a.streams)) (at s.right) (cut_number (river_streams a b) (description_of b.streams)) (table_entry a) (table_entry b) (final_at a.finals) (final_at b.finals)
        is.left_cuts.cuts is.right_cuts.cuts
        (subst (λ m. PairsOutcome (length s.left) (length s.right) (tables_over a.entries a.finals b.entries b.finals s.left s.right a.letters b.letters m) a.letters b.letters limit (pair_tables entries finals keys heads links) (pair_tables entries₁ finals₁ keys₁ heads₁ links₁) n) same o) in
        let m' = subst (λ l. MinimiseOutcome before l n table.refusal table.states after) same m in
        subst (λ (c : JoinAnswer). JoinOutcome a b lent_room c (record { entries = after.entries; finals = after.flags; work = keys₁ ∷ after.work })) (sym (told n table (few-found o)))
        (together j
        (calls_outcome entries finals keys live class next heads links envelopes (states-below j) (some_letter j) (length s.left) (length s.right) a.letters b.letters limit n table.refusal table.states entries₁ finals₁ keys₁ heads₁ links₁ after
        (cut ∙ ap (λ r. min r situation_bound) rows_are) el fl hl ll (work_zero o).keys_zero ready o' m'))

  -- ---- all calls together

  pub joined-outcome : {a b : GivenTable} {s : JoinedStreams} {refusal letters rows limit n : ℕ} {table : Minimised} {answer : JoinAnswer} {entries₁ finals₁ keys₁ heads₁ links₁ : List ℕ} {after : GraphTables}
      → TablesJudged a b lent_room s refusal → letters ≡ cond (eqb refusal 0) s.letters 0
      → rows ≡ min (length entries / letters) (min (length finals) (min (length keys) (min (length live) (min (length class) (min (length next) (min (length heads) (min (length links) (length envelopes))))))))
      → limit ≡ min rows situation_bound → length entries₁ ≡ length entries → length finals₁ ≡ length finals → length heads₁ ≡ length heads → length links₁ ≡ length links
      → PairsOutcome (length s.left) (length s.right) (tables_over a.entries a.finals b.entries b.finals s.left s.right a.letters b.letters letters) a.letters b.letters limit
      (pair_tables entries finals keys heads links) (pair_tables entries₁ finals₁ keys₁ heads₁ links₁) n
      → MinimiseOutcome (record { entries = entries₁; flags = finals₁; work = live ∷ (class ∷ (next ∷ (heads₁ ∷ (links₁ ∷ (envelopes ∷ []))))) }) letters n table.refusal table.states after
      → answer ≡ cond (eqb refusal 0) (told_by (pair_answer rows (min n situation_bound) table) s) (refused_join refusal)
      → JoinOutcome a b lent_room answer (record { entries = after.entries; finals = after.flags; work = keys₁ ∷ after.work })
  joined-outcome {a} {b} {s} {refusal} {letters} {rows} {limit} {n} {table} {answer} {entries₁} {finals₁} {keys₁} {heads₁} {links₁} {after} (refused ne o) is fewest cut el fl hl ll p m e =
      let no = ne_eqb refusal 0 ne in
      let none : letters ≡ 0 = is ∙ ap (λ t. cond t s.letters 0) no in
      let said : answer ≡ refused_join refusal = e ∙ ap (λ t. cond t (told_by (pair_answer rows (min n situation_bound) table) s) (refused_join refusal)) no in
      subst (λ (c : JoinAnswer). JoinOutcome a b lent_room c (record { entries = after.entries; finals = after.flags; work = keys₁ ∷ after.work })) (sym said)
      (subst (JoinOutcome a b lent_room (refused_join refusal)) (calls_cleared el fl hl ll (work_zero p).keys_zero m none) o)
  joined-outcome {a} {b} {s} {refusal} {letters} {rows} {limit} {n} {table} {answer} {entries₁} {finals₁} {keys₁} {heads₁} {links₁} {after} (judged j is) letters_are fewest cut el fl hl ll p m e =
      subst (λ (c : JoinAnswer). JoinOutcome a b lent_room c (record { entries = after.entries; finals = after.flags; work = keys₁ ∷ after.work })) (sym e)
      (tables-joined j is (letters_are ∙ is.letters) fewest cut el fl hl ll p m)
