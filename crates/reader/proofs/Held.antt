-- The answer to a sheet of the form, from the tables and counts that hold it.
use Prim.Native.Nat.{ℕ, ◌≤◌}
use mathlib.Core.Path.{◌≡◌, sym, ap, ap₂, subst, ◌∙◌}
use mathlib.Core.Bool.{Bool, ◌||◌}
use mathlib.Core.List.{List, map}
use native.Mathlib.Omega.{arith}
use lib.IntN.{pos}
use lib.ListN.{length, take, replicate, length-map, length-take}
use lib.Seq.{length-take-le}
use Rattle.nodes.proofs.Postfix.{stored-length}
use Rattle.meaning.specs.Expression.{Constraint, Stream, Sheet}
use Rattle.meaning.specs.Window.{all_firsts, all_untils}
use Rattle.nodes.specs.Postfix.{Node, StoredConstraint, all_nodes, stored_constraints, kinds_of, values_of, starts_of}
use Rattle.nodes.specs.Evaluate.{stored}
use Rattle.nodes.specs.FirstPlaces.{all_first_places}
use Rattle.sheet.specs.Refusal.{sheet}
use Rattle.sheet.specs.Reading.{any_of, is_range_faulty, is_integer_beyond, all_expressions, answer_to_sheet}
use Rattle.parse.specs.Bounded.{zero_beyond, bounded_constraint}
use Rattle.reader.specs.Constraints.{State}
use Rattle.header.specs.Streams.{padded, StreamTables}
use Rattle.reader.specs.Stored.{relations_of, lefts_of, rights_of, stored_sheet, refused_reading, reading_of}
use Rattle.reader.specs.FirstNodes.{with_firsts, FewFirsts}
use Rattle.reader.specs.Tested.{tested_as}
use Rattle.reader.specs.Held.{constraint_tables, Held}
use Rattle.header.specs.declared.StreamsRead.{StreamsRead}
use Rattle.lowest_refusal.specs.declared.Tested.{Tested}
use Rattle.reader.specs.declared.Reading.{Reading}
use Rattle.reader.proofs.Room.{length-padded, take-padded}
use Rattle.reader.proofs.Tests.{stored_lows, stored_highs, NothingCut, accepted_as, Told, is_refused, is_sheet, tests_told}
use Rattle.reader.proofs.FirstNodes.{first-places, few_firsts}

module _ {s : Sheet} {r : StreamsRead} {tables : StreamTables} {stream_kinds : List ℕ} {new : State} (H : Held s r tables stream_kinds new) where
  abbrev ss : List Stream
  ss = s.streams

  abbrev cs : List Constraint
  cs = s.constraints

  abbrev cut_constraints : List Constraint
  cut_constraints = map bounded_constraint cs

  abbrev nodes : List Node
  nodes = all_nodes 0 0 cut_constraints

  abbrev rows : List StoredConstraint
  rows = stored_constraints 0 0 cut_constraints

  rows-length : length rows ≡ length cs
  rows-length = stored-length 0 0 cut_constraints ∙ length-map cs bounded_constraint

  -- ---- what the tables and counts are

  streams_are : r.count ≡ length ss
  streams_are = ap (λ x. x.count) H.streams

  count_is : new.counts.count ≡ length cs
  unfolding constraint_tables
  count_is = ap (λ x. x.counts.count) H.constraints

  nodes_are : new.counts.nodes ≡ length nodes
  unfolding constraint_tables
  nodes_are = ap (λ x. x.counts.nodes) H.constraints

  firsts_are : new.counts.firsts ≡ length (all_firsts cut_constraints)
  unfolding constraint_tables
  firsts_are = ap (λ x. x.counts.firsts) H.constraints

  untils_are : new.counts.untils ≡ length (all_untils cut_constraints)
  unfolding constraint_tables
  untils_are = ap (λ x. x.counts.untils) H.constraints

  faults_are : r.faulty || new.counts.beyond ≡ any_of is_range_faulty ss || any_of is_integer_beyond (all_expressions cs)
  unfolding constraint_tables
  faults_are = ap₂ (λ a b. a || b) (ap (λ x. x.faulty) H.streams) (ap (λ x. x.counts.beyond) H.constraints)

  kinds_are : new.nodes.kinds ≡ padded 1024 0 (kinds_of nodes)
  unfolding constraint_tables
  kinds_are = ap (λ x. x.nodes.kinds) H.constraints

  values_are : new.nodes.values ≡ padded 1024 (pos 0) (values_of nodes)
  unfolding constraint_tables
  values_are = ap (λ x. x.nodes.values) H.constraints

  starts_are : new.nodes.starts ≡ padded 1024 0 (starts_of nodes)
  unfolding constraint_tables
  starts_are = ap (λ x. x.nodes.starts) H.constraints

  relations_are : new.relations ≡ padded 32 0 (relations_of rows)
  unfolding constraint_tables
  relations_are = ap (λ x. x.relations) H.constraints

  lefts_are : new.lefts ≡ padded 32 0 (lefts_of rows)
  unfolding constraint_tables
  lefts_are = ap (λ x. x.lefts) H.constraints

  rights_are : new.rights ≡ padded 32 0 (rights_of rows)
  unfolding constraint_tables
  rights_are = ap (λ x. x.rights) H.constraints

  lows_are : tables.lows ≡ padded 8 (pos 0) (stored_lows ss)
  lows_are = ap (λ t. t.lows) H.stream_tables

  highs_are : tables.highs ≡ padded 8 (pos 0) (stored_highs ss)
  highs_are = ap (λ t. t.highs) H.stream_tables

  -- ---- what is used of the tables

  kinds-front : take new.counts.nodes new.nodes.kinds ≡ kinds_of nodes
  kinds-front = ap (take new.counts.nodes) kinds_are ∙ take-padded 0 1024 (kinds_of nodes) (nodes_are ∙ sym (length-map nodes (λ x. x.kind)))

  values-front : take new.counts.nodes new.nodes.values ≡ values_of nodes
  values-front = ap (take new.counts.nodes) values_are ∙ take-padded (pos 0) 1024 (values_of nodes) (nodes_are ∙ sym (length-map nodes (λ x. x.value)))

  starts-front : take new.counts.nodes new.nodes.starts ≡ starts_of nodes
  starts-front = ap (take new.counts.nodes) starts_are ∙ take-padded 0 1024 (starts_of nodes) (nodes_are ∙ sym (length-map nodes (λ x. x.start)))

  lefts-front : take new.counts.count new.lefts ≡ lefts_of rows
  lefts-front = ap (take new.counts.count) lefts_are ∙ take-padded 0 32 (lefts_of rows) (count_is ∙ sym rows-length ∙ sym (length-map rows (λ t. t.left)))

  rights-front : take new.counts.count new.rights ≡ rights_of rows
  rights-front = ap (take new.counts.count) rights_are ∙ take-padded 0 32 (rights_of rows) (count_is ∙ sym rows-length ∙ sym (length-map rows (λ t. t.right)))

  lows-front : take r.count tables.lows ≡ stored_lows ss
  lows-front = ap (take r.count) lows_are ∙ take-padded (pos 0) 8 (stored_lows ss) (streams_are ∙ sym (length-map ss (λ x. zero_beyond x.range.low)))

  highs-front : take r.count tables.highs ≡ stored_highs ss
  highs-front = ap (take r.count) highs_are ∙ take-padded (pos 0) 8 (stored_highs ss) (streams_are ∙ sym (length-map ss (λ x. zero_beyond x.range.high)))

  -- ---- refusals 4 to 7

  pub told : {t : Tested} {b : Bool} → b ≡ r.faulty || new.counts.beyond
      → t ≡ tested_as (stored (take new.counts.nodes new.nodes.kinds) (take new.counts.nodes new.nodes.values) (take new.counts.nodes new.nodes.starts)) (take r.count tables.lows) (take r.count tables.highs) (take new.counts.count new.lefts) (take new.counts.count new.rights) b new.counts.untils new.counts.firsts
      → Told s t
  told f e =
      let faulty = f ∙ faults_are in
      tests_told s H.few_nodes H.names
      (e ∙ (λ i. tested_as (stored (kinds-front i) (values-front i) (starts-front i)) (lows-front i) (highs-front i) (lefts-front i) (rights-front i) (faulty i) (untils_are i) (firsts_are i)))

  pub refused-reading : {t : Tested} → Told s t → (t.refusal ≡ 0 → ⊥) → refused_reading t.refusal ≡ reading_of (answer_to_sheet s)
  refused-reading (is_refused n e) h = sym (ap reading_of e)
  refused-reading (is_sheet e a f) h = absurd (h (ap (λ x. x.refusal) f))

  -- ---- sizes of what is used

  pub record Sizes : Type 0 where
    pub nodes : new.counts.nodes ≤ 1024
    pub kinds : length new.nodes.kinds ≡ 1024
    pub values : length new.nodes.values ≡ 1024
    pub starts : length new.nodes.starts ≡ 1024
    pub count : new.counts.count ≤ 32
    pub lefts : length new.lefts ≡ 32
    pub rights : length new.rights ≡ 32
    pub streams : r.count ≤ 8
    pub lows : length tables.lows ≡ 8
    pub highs : length tables.highs ≡ 8

  pub sizes : Sizes
  sizes =
      let n = H.few_nodes in
      let c = H.few_constraints in
      let k = H.few_streams in
      let e = rows-length in
      record {
        nodes = let i = nodes_are in omega arith;
        kinds = ap length kinds_are ∙ length-padded 0 1024 (kinds_of nodes) (omega (arith, length-map nodes (λ x. x.kind)));
        values = ap length values_are ∙ length-padded (pos 0) 1024 (values_of nodes) (omega (arith, length-map nodes (λ x. x.value)));
        starts = ap length starts_are ∙ length-padded 0 1024 (starts_of nodes) (omega (arith, length-map nodes (λ x. x.start)));
        count = let i = count_is in omega arith;
        lefts = ap length lefts_are ∙ length-padded 0 32 (lefts_of rows) (omega (arith, length-map rows (λ t. t.left)));
        rights = ap length rights_are ∙ length-padded 0 32 (rights_of rows) (omega (arith, length-map rows (λ t. t.right)));
        streams = let i = streams_are in omega arith;
        lows = ap length lows_are ∙ length-padded (pos 0) 8 (stored_lows ss) (omega (arith, length-map ss (λ x. zero_beyond x.range.low)));
        highs = ap length highs_are ∙ length-padded (pos 0) 8 (stored_highs ss) (omega (arith, length-map ss (λ x. zero_beyond x.range.high)));
      }

  pub stored-fits : (length (take new.counts.nodes new.nodes.values) ≡ length (take new.counts.nodes new.nodes.kinds)) × (length (take r.count tables.lows) ≤ 8) × (length (take new.counts.count new.rights) ≡ length (take new.counts.count new.lefts))
  stored-fits =
      let z = sizes in (
        length-take-le new.counts.nodes new.nodes.values (omega arith) ∙ sym (length-take-le new.counts.nodes new.nodes.kinds (omega arith)),
        omega (arith, length-take r.count tables.lows),
        length-take-le new.counts.count new.rights (omega arith) ∙ sym (length-take-le new.counts.count new.lefts (omega arith)),
      )

  -- ---- the sheet

  pub told-sheet : {t : Tested} → Told s t → t.refusal ≡ 0 → (answer_to_sheet s ≡ sheet s) × NothingCut s × (t ≡ accepted_as s)
  told-sheet (is_refused n e) h = absurd (n h)
  told-sheet (is_sheet e a f) h = (e, a, f)

  module _ {t : Tested} (T : Told s t) (h : t.refusal ≡ 0) where
    accepted : NothingCut s
    accepted = (told-sheet T h).1

    firsts-few : FewFirsts (take new.counts.nodes new.nodes.kinds) (take new.counts.nodes new.nodes.values)
    firsts-few =
        let same : all_nodes 0 0 cs ≡ nodes = ap (all_nodes 0 0) (sym accepted.constraints) in
        let these : FewFirsts (kinds_of nodes) (values_of nodes) = subst (λ l. FewFirsts (kinds_of l) (values_of l)) same (few_firsts cs accepted.firsts) in
        subst (λ k. FewFirsts k (take new.counts.nodes new.nodes.values)) (sym kinds-front) (subst (FewFirsts (kinds_of nodes)) (sym values-front) these)

    pub firsts-fit : (length (take new.counts.nodes new.nodes.values) ≡ length (take new.counts.nodes new.nodes.kinds)) × (length (take new.counts.nodes new.nodes.kinds) ≤ 1024)
        × FewFirsts (take new.counts.nodes new.nodes.kinds) (take new.counts.nodes new.nodes.values)
    firsts-fit = let z = sizes in (stored-fits.0, omega (arith, length-take new.counts.nodes new.nodes.kinds), firsts-few)

    first-nodes_are : {places : List ℕ} → places ≡ with_firsts 0 (take new.counts.nodes new.nodes.kinds) (take new.counts.nodes new.nodes.values) (replicate 8 0) → places ≡ padded 8 0 (all_first_places 0 cs)
    first-nodes_are e =
        let same : nodes ≡ all_nodes 0 0 cs = ap (all_nodes 0 0) accepted.constraints in
        e ∙ (λ i. with_firsts 0 (kinds-front i) (values-front i) (replicate 8 0)) ∙ ap (λ l. with_firsts 0 (kinds_of l) (values_of l) (replicate 8 0)) same ∙ first-places cs accepted.firsts

    -- What is stored is the sheet's stored form.
    pub sheet-reading : {places : List ℕ} → places ≡ with_firsts 0 (take new.counts.nodes new.nodes.kinds) (take new.counts.nodes new.nodes.values) (replicate 8 0)
        → ◌≡◌ {A = Reading}
        (record {
          refusal = 0;
          sheet = record {
            streams = r.count;
            names = tables.names;
            lengths = tables.lengths;
            lows = tables.lows;
            highs = tables.highs;
            stream_kinds = stream_kinds;
            letters = t.letters;
            constraints = new.counts.count;
            relations = new.relations;
            lefts = new.lefts;
            rights = new.rights;
            nodes = new.counts.nodes;
            kinds = new.nodes.kinds;
            values = new.nodes.values;
            starts = new.nodes.starts;
            untils = new.counts.untils;
            firsts = new.counts.firsts;
            first_nodes = places;
            ahead = t.ahead;
            back = t.back;
          };
        })
        (reading_of (answer_to_sheet s))
    unfolding stored_sheet
    sheet-reading {places} e =
        let same = accepted.constraints in
        let lows = lows_are ∙ ap (padded 8 (pos 0)) accepted.lows in
        let highs = highs_are ∙ ap (padded 8 (pos 0)) accepted.highs in
        let tested = (told-sheet T h).2 in
        let first-nodes = first-nodes_are e in
        let relations = relations_are ∙ ap (λ ds. padded 32 0 (relations_of (stored_constraints 0 0 ds))) same in
        let lefts = lefts_are ∙ ap (λ ds. padded 32 0 (lefts_of (stored_constraints 0 0 ds))) same in
        let rights = rights_are ∙ ap (λ ds. padded 32 0 (rights_of (stored_constraints 0 0 ds))) same in
        let nodes = nodes_are ∙ ap (λ ds. length (all_nodes 0 0 ds)) same in
        let kinds = kinds_are ∙ ap (λ ds. padded 1024 0 (kinds_of (all_nodes 0 0 ds))) same in
        let values = values_are ∙ ap (λ ds. padded 1024 (pos 0) (values_of (all_nodes 0 0 ds))) same in
        let starts = starts_are ∙ ap (λ ds. padded 1024 0 (starts_of (all_nodes 0 0 ds))) same in
        let untils = untils_are ∙ ap (λ ds. length (all_untils ds)) same in
        let firsts = firsts_are ∙ ap (λ ds. length (all_firsts ds)) same in
        (λ i.
        record {
          refusal = 0;
          sheet = record {
            streams = streams_are i;
            names = (H.stream_tables i).names;
            lengths = (H.stream_tables i).lengths;
            lows = lows i;
            highs = highs i;
            stream_kinds = H.stream_kinds i;
            letters = (tested i).letters;
            constraints = count_is i;
            relations = relations i;
            lefts = lefts i;
            rights = rights i;
            nodes = nodes i;
            kinds = kinds i;
            values = values i;
            starts = starts i;
            untils = untils i;
            firsts = firsts i;
            first_nodes = first-nodes i;
            ahead = (tested i).ahead;
            back = (tested i).back;
          };
        })
        ∙ sym (ap reading_of (told-sheet T h).0)
