-- From the exploration of an accepted sheet and the table made of its rows to the outcome: the rows are a stored graph whose language is the
-- set of solutions, so the table is that of the solutions, or there is none; and every other number of the tables is 0.
use Prim.Native.Nat.{ℕ, ◌+◌, ◌-◌, ◌*◌, ◌/◌, ◌≤◌, ◌<◌, min}
use native.Mathlib.Omega.{arith}
use native.Mathlib.Nat.{le_refl}
use native.Mathlib.Decide.{dec_lt}
use mathlib.Core.Path.{◌≡◌, sym, ◌∙◌, ap, subst}
use mathlib.Core.Bool.{cond}
use mathlib.Core.Logic.{inl, inr}
use mathlib.Core.List.{List, [], ◌∷◌}
use lib.Dec.{ltb}
use lib.ListN.{length, get_or, drop, length-drop}
use lib.Seq.{get_or-drop}
use borrow.Author.Tests.{lt-ltb, le-ltb}
use Rattle.sheet.proofs.Accepted.{not-over}
use Rattle.automaton.specs.Solutions.{SameSolutions}
use Rattle.automaton.specs.Graph.{Language}
use Rattle.automaton.proofs.Transfer.{table_transfer}
use Rattle.meaning.specs.Expression.{Sheet}
use Rattle.meaning.specs.Letter.{letter_count, SolutionWord}
use Rattle.meaning.specs.Situation.{SituationCount, MoreSituations}
use Rattle.sheet.specs.Accepted.{Accepted}
use Rattle.explore.specs.Exploration.{explore_tables}
use Rattle.explore.specs.Rows.{ExploredRows}
use Rattle.explore.proofs.GraphLaws.{row-bits, row-targets, row-flags-stay, row-graph, rows_language}
use Rattle.stored_graph.specs.StoredGraph.{IsStoredGraph, stored_graph}
use Rattle.minimise.specs.Outcome.{GraphTables, cleared, IsAccepted, IsRefusal, NoWord, TableGiven, MinimiseOutcome}
use Rattle.minimise.specs.declared.Minimised.{Minimised}
use Rattle.basics.proofs.Clearing.{all-zero}
use Rattle.outcome.specs.Room.{zeros, zero_tables}
use Rattle.outcome.specs.Compile.{refused_answer, Room, room_rows, Tables, all_zero, SituationsFit, SheetOutcome, too_many_situations, too_few_rows, no_solution, compiled, situation_bound}
use Rattle.compiled.specs.declared.Compiled.{Compiled}
use Rattle.compile.specs.Lent.{room_of}
use Rattle.compiled.specs.Answer.{answer_of, refused_with, made_of}
use Rattle.compiled.proofs.Counted.{all-counted}
use Rattle.situations.specs.Found.{SituationsFound, RoomFor}
use Rattle.compile.proofs.Rows.{Holds, fewest_hold, limit_rows, limit_bound, within-rows, within-bound, rows-lent}

-- ---- the rows are a graph

module _ (s : Sheet) {n : ℕ} {entries flags : List ℕ} (x : ExploredRows s n entries flags) (few : n ≤ situation_bound) where
  pub rows-stored : 0 < letter_count s.streams → n * letter_count s.streams ≤ length entries → n ≤ length flags → IsStoredGraph entries flags (letter_count s.streams) n
  rows-stored some e f =
      record {
        some_letter = some;
        some_row = x.rows.some_row;
        few_rows = few;
        entries_fit = e;
        flags_fit = f;
        bits = row-bits s x (omega arith);
        targets = row-targets s x (omega arith);
        stays = row-flags-stay s x (omega arith);
        first_met = x.rows.first_met;
      }

  -- The language does not depend on why the tables are a graph.
  pub stored_language : (g : IsStoredGraph entries flags (letter_count s.streams) n) → SameSolutions (letter_count s.streams) (Language (stored_graph g) 0) (SolutionWord s)
  unfolding row-graph
  stored_language g =
      let same = rows_language s x (omega arith) in
      record {
        to = λ w b l. same.to w b (record { follows = l.follows; time = l.time; is_done = l.is_done });
        from = λ w b z. let l = same.from w b z in record { follows = l.follows; time = l.time; is_done = l.is_done };
      }

-- ---- zeros

-- A list that is 0 from a place on.
zero-from : (list : List ℕ) (from size : ℕ) → length list ≡ size → ((i : ℕ) → from ≤ i → get_or list i 0 ≡ 0) → drop from list ≡ zeros (size - from)
zero-from list from size e z =
    all-zero (drop from list) (size - from) (omega (arith, length-drop from list)) λ i. get_or-drop from list i 0 ∙ z (from + i) (omega arith)

-- ---- the outcome

module _ (entries finals keys live class next heads links envelopes : List ℕ) where
  abbrev room : Room
  room = room_of entries finals keys live class next heads links envelopes

  -- What the table is made of, and what that leaves; the sizes stay.
  module _ (n refusal states : ℕ) (entries₁ finals₁ heads₁ links₁ : List ℕ) (after : GraphTables) (el : length entries₁ ≡ length entries) (fl : length finals₁ ≡ length finals)
      (hl : length heads₁ ≡ length heads) (ll : length links₁ ≡ length links) where
    abbrev before : GraphTables
    before = record { entries = entries₁; flags = finals₁; work = live ∷ (class ∷ (next ∷ (heads₁ ∷ (links₁ ∷ (envelopes ∷ []))))) }

    abbrev made : Minimised
    made = record { refusal = refusal; states = states }

    abbrev left : Tables
    left = record { entries = after.entries; finals = after.flags; work = zeros (length keys) ∷ after.work }

    work-zeros : after.work ≡ cleared before.work → left.work ≡ zero_tables room.work
    work-zeros e = ap (λ l. zeros (length keys) ∷ l) (e ∙ (λ i. zeros (length live) ∷ (zeros (length class) ∷ (zeros (length next) ∷ (zeros (hl i) ∷ (zeros (ll i) ∷ (zeros (length envelopes) ∷ [])))))))

    all-zeros : {number : ℕ} → IsRefusal number before refusal states after → all_zero room ≡ left
    all-zeros z =
        sym (λ i. record { entries = (z.entries_zero ∙ ap zeros el) i; finals = (z.flags_zero ∙ ap zeros fl) i; work = work-zeros z.work_zero i })

    -- Without letters there is no graph, so every table is cleared.
    pub cleared-tables : MinimiseOutcome before 0 n refusal states after → left ≡ all_zero room
    cleared-tables (inl x) = sym (all-zeros x.answer)
    cleared-tables (inr (inl x)) = absurd (omega (arith, x.accepted.graph.some_letter))
    cleared-tables (inr (inr x)) = absurd (omega (arith, x.accepted.graph.some_letter))

    module _ {s : Sheet} (accepted : Accepted s) (limit : ℕ) (cut : limit ≡ min (room_rows room (letter_count s.streams)) situation_bound) where
      abbrev k : ℕ
      k = letter_count s.streams

      abbrev R : ℕ
      R = room_rows room k

      -- The limit is the bound or the rows lent, whichever is less.
      more-outcome : {number : ℕ} → MoreSituations s limit → IsRefusal number before refusal states after → SheetOutcome s room (answer_of (cond (ltb R situation_bound) (refused_with 10) (refused_with 8))) left
      more-outcome more z = by (dec_lt R situation_bound)
        where
          by : Dec (R < situation_bound) → SheetOutcome s room (answer_of (cond (ltb R situation_bound) (refused_with 10) (refused_with 8))) left
          by (yes h) =
              subst (SheetOutcome s room (answer_of (cond (ltb R situation_bound) (refused_with 10) (refused_with 8)))) (all-zeros z)
              (rw (lt-ltb R situation_bound h) (too_few_rows h (subst (MoreSituations s) (limit_rows R situation_bound limit cut h) more)))
          by (no h) =
              subst (SheetOutcome s room (answer_of (cond (ltb R situation_bound) (refused_with 10) (refused_with 8)))) (all-zeros z)
              (rw (le-ltb R situation_bound (not-over h)) (too_many_situations (not-over h) (subst (MoreSituations s) (limit_bound R situation_bound limit cut (not-over h)) more)))

      -- The rows found are a graph in tables with room for them.
      module _ (within : n ≤ limit) (counted : SituationCount s n) (rows : ExploredRows s n entries₁ finals₁) where
        fit : SituationsFit s room n
        fit = record { counted = counted; within_bound = within-bound R situation_bound limit cut n within; within_room = within-rows R situation_bound limit cut n within }

        held : Holds n (record { per_row = k; size = length entries }) (record { per_row = 1; size = length finals } ∷ room.work)
        held = fewest_hold n (record { per_row = k; size = length entries }) (record { per_row = 1; size = length finals } ∷ room.work) fit.within_room

        is-accepted : IsAccepted before k n
        is-accepted =
            record {
              graph = rows-stored s rows fit.within_bound accepted.some_letter (omega (arith, held.0, el)) (omega (arith, held.1.0, fl));
              room = (omega (arith, held), (omega (arith, held), (omega (arith, held), (omega (arith, held, hl), (omega (arith, held, ll), (omega (arith, held), tt))))));
            }

        language : (x : IsAccepted before k n) → SameSolutions k (Language (stored_graph x.graph) 0) (SolutionWord s)
        language x = stored_language s rows fit.within_bound x.graph

        no_word : NoWord before k n refusal states after → SheetOutcome s room (refused_answer 9) left
        no_word x =
            subst (SheetOutcome s room (refused_answer 9)) (all-zeros x.answer)
            (no_solution fit (λ w b z. x.empty w b ((language x.accepted).from w b z)))

        has_table : TableGiven before k n refusal states after → SheetOutcome s room (record { refusal = 0; states = states; situations = n }) left
        has_table x =
            compiled fit
            (record {
              entries_size = x.entries_length ∙ el;
              finals_size = x.flags_length ∙ fl;
              table =
                  record {
                    entries_fit = x.table.entries_fit;
                    finals_fit = x.table.finals_fit;
                    table = table_transfer (language x.accepted) x.table.table;
                  };
              entries_beyond = zero-from after.entries (states * k) (length entries) (x.entries_length ∙ el) x.entries_beyond;
              finals_beyond = zero-from after.flags states (length finals) (x.flags_length ∙ fl) x.flags_beyond;
              work_zero = work-zeros x.work_zero;
            })

      -- The answer's number decides which answer is given.
      pub sheet-outcome : SituationsFound s limit n entries₁ finals₁ → MinimiseOutcome before k n refusal states after → SheetOutcome s room (answer_of (made_of R n made)) left
      sheet-outcome (inl f) (inl x) = rw x.answer.number_is (more-outcome f.1 x.answer)
      sheet-outcome (inl f) (inr (inl x)) = absurd (omega (arith, f.0, x.accepted.graph.some_row))
      sheet-outcome (inl f) (inr (inr x)) = absurd (omega (arith, f.0, x.accepted.graph.some_row))
      sheet-outcome (inr f) (inl x) = absurd (x.refused (is-accepted f.0 f.1 f.2))
      sheet-outcome (inr f) (inr (inl x)) = rw x.answer.number_is (no_word f.0 f.1 f.2 x)
      sheet-outcome (inr f) (inr (inr x)) = rw x.no_refusal (has_table f.0 f.1 f.2 x)

-- ---- the numbers and lists of the code

-- A sheet without letters leaves every table cleared.
pub calls_cleared : (entries finals keys live class next heads links envelopes : List ℕ) {letters n refusal states : ℕ} {entries₁ finals₁ heads₁ links₁ keys₂ : List ℕ} {after : GraphTables}
    → length entries₁ ≡ length entries → length finals₁ ≡ length finals → length heads₁ ≡ length heads → length links₁ ≡ length links → keys₂ ≡ zeros (length keys)
    → MinimiseOutcome (record { entries = entries₁; flags = finals₁; work = live ∷ (class ∷ (next ∷ (heads₁ ∷ (links₁ ∷ (envelopes ∷ []))))) }) letters n refusal states after → letters ≡ 0
    → record { entries = after.entries; finals = after.flags; work = keys₂ ∷ after.work } ≡ all_zero (room_of entries finals keys live class next heads links envelopes)
calls_cleared entries finals keys live class next heads links envelopes {letters} {n} {refusal} {states} {entries₁} {finals₁} {heads₁} {links₁} {keys₂} {after} el fl hl ll zero m none =
    let before : GraphTables = record { entries = entries₁; flags = finals₁; work = live ∷ (class ∷ (next ∷ (heads₁ ∷ (links₁ ∷ (envelopes ∷ []))))) } in
    ap (λ l. record { entries = after.entries; finals = after.flags; work = l ∷ after.work }) zero
    ∙ cleared-tables entries finals keys live class next heads links envelopes n refusal states entries₁ finals₁ heads₁ links₁ after el fl hl ll (subst (λ l. MinimiseOutcome before l n refusal states after) none m)

module _ (entries finals keys live class next heads links envelopes : List ℕ) {s : Sheet} (accepted : Accepted s) {letters rows work limit : ℕ} (same : letters ≡ letter_count s.streams)
    (fewest_work : work ≡ min (length live) (min (length class) (min (length next) (min (length heads) (min (length links) (length envelopes))))))
    (fewest : rows ≡ min (length entries / letters) (min (length finals) (min (length keys / 16) work))) (cut : limit ≡ min rows situation_bound) where
  abbrev lent_room : Room
  lent_room = room_of entries finals keys live class next heads links envelopes

  rows_are : rows ≡ room_rows lent_room (letter_count s.streams)
  rows_are = fewest ∙ ap (λ w. min (length entries / letters) (min (length finals) (min (length keys / 16) w))) fewest_work ∙ rows-lent entries finals keys live class next heads links envelopes letters ∙ ap (room_rows lent_room) same

  limit_is : limit ≡ min (room_rows lent_room (letter_count s.streams)) situation_bound
  limit_is = cut ∙ ap (λ r. min r situation_bound) rows_are

  -- Every table has room for as many rows as the limit.
  pub limit_fits : RoomFor limit (letter_count s.streams) (explore_tables keys heads links entries finals)
  limit_fits =
      let R = room_rows lent_room (letter_count s.streams) in
      let held = fewest_hold limit (record { per_row = letter_count s.streams; size = length entries }) (record { per_row = 1; size = length finals } ∷ lent_room.work) (within-rows R situation_bound limit limit_is limit (le_refl limit)) in
      record {
        few = within-bound R situation_bound limit limit_is limit (le_refl limit);
        keys_fit = held.1.1.0;
        heads_fit = omega (arith, held.1.1.1.1.1.1.0);
        links_fit = omega (arith, held.1.1.1.1.1.1.1.0);
        entries_fit = held.0;
        finals_fit = omega (arith, held.1.0);
      }

  -- What the code's calls give is the outcome.
  pub calls_outcome : {n : ℕ} {table : Minimised} {answer : Compiled} {entries₁ finals₁ heads₁ links₁ keys₂ : List ℕ} {after : GraphTables}
      → length entries₁ ≡ length entries → length finals₁ ≡ length finals → length heads₁ ≡ length heads → length links₁ ≡ length links → keys₂ ≡ zeros (length keys) → n ≤ limit → SituationsFound s limit n entries₁ finals₁
      → MinimiseOutcome (record { entries = entries₁; flags = finals₁; work = live ∷ (class ∷ (next ∷ (heads₁ ∷ (links₁ ∷ (envelopes ∷ []))))) }) letters n table.refusal table.states after
      → answer ≡ made_of rows (min n situation_bound) table → SheetOutcome s lent_room (answer_of answer) (record { entries = after.entries; finals = after.flags; work = keys₂ ∷ after.work })
  calls_outcome {n} {table} {answer} {entries₁} {finals₁} {heads₁} {links₁} {keys₂} {after} el fl hl ll zero within found m answers =
      let before : GraphTables = record { entries = entries₁; flags = finals₁; work = live ∷ (class ∷ (next ∷ (heads₁ ∷ (links₁ ∷ (envelopes ∷ []))))) } in
      let m' = subst (λ l. MinimiseOutcome before l n table.refusal table.states after) same m in
      let o = sheet-outcome entries finals keys live class next heads links envelopes n table.refusal table.states entries₁ finals₁ heads₁ links₁ after el fl hl ll accepted limit limit_is found m' in
      let counted = all-counted rows n table (within-bound rows situation_bound limit cut n within) in
      let answered = subst (λ a. SheetOutcome s lent_room (answer_of a) (record { entries = after.entries; finals = after.flags; work = zeros (length keys) ∷ after.work })) (sym (answers ∙ counted ∙ ap (λ r. made_of r n table) rows_are)) o in
      subst (λ x. SheetOutcome s lent_room (answer_of answer) (record { entries = after.entries; finals = after.flags; work = x ∷ after.work })) (sym zero) answered
