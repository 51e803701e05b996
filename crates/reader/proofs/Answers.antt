-- The answer to header lines and constraint lines, from what was read of them: one law for each place at which the reading ends.
use Prim.Native.Nat.{ℕ, ◌+◌, ◌≤◌}
use mathlib.Core.Path.{◌≡◌, refl, sym, ap, ap₂, ◌∙◌}
use mathlib.Core.Bool.{Bool, true, false, not, cond, ◌&&◌, ◌||◌}
use mathlib.Core.List.{List, map}
use mathlib.Core.Option.{Option, none}
use native.Mathlib.Omega.{arith}
use lib.IntN.{pos}
use lib.ListN.{length, length-map}
use Rattle.nodes.proofs.Postfix.{stored-length}
use Rattle.nodes.specs.Code.{meant_kinds}
use Rattle.nodes.specs.Evaluate.{stored}
use Rattle.sheet.proofs.Release.{meant-length}
use Rattle.text.specs.Bytes.{Token, lines, tokens}
use Rattle.meaning.specs.Expression.{Constraint, Sheet}
use Rattle.meaning.specs.Window.{all_firsts, all_untils}
use Rattle.nodes.specs.Postfix.{Node, StoredConstraint, all_nodes, stored_constraints, kinds_of, values_of, starts_of}
use Rattle.sheet.specs.Release.{meant_constraints}
use Rattle.sheet.specs.Form.{names_of}
use Rattle.sheet.specs.Refusal.{Answer, refused, sheet}
use Rattle.sheet.specs.Reading.{any_of, is_integer_beyond, all_expressions, sides_below, refuses4, refuses5, refuses6, refuses7, form_of_lines, answer_to_sheet, answer_to_form}
use Rattle.parse.specs.Stored.{store}
use Rattle.parse.specs.Bounded.{bounded_constraint}
use Rattle.reader.specs.Constraints.{State, state, counts, LinesFit, ConstraintsOutcome}
use Rattle.lowest_refusal.specs.Tested.{form_refusal}
use Rattle.refusals.specs.Names.{names_refused}
use Rattle.refusals.specs.Places.{said_tokens}
use Rattle.header.specs.Streams.{padded, StreamTables, StreamsOutcome, KindsOutcome}
use Rattle.reader.specs.Stored.{relations_of, lefts_of, rights_of, refused_reading, reading_of}
use Rattle.reader.specs.Held.{constraint_tables, Held, HeldSheet, HeldReading}
use Rattle.header.specs.declared.StreamsRead.{StreamsRead}
use Rattle.reader.specs.declared.Reading.{Reading}
use Rattle.reader.proofs.Stored.{with_all, with_all_nodes, with_all_relations, with_all_lefts, with_all_rights}
use Rattle.reader.proofs.Room.{sets_padded}
use Rattle.reader.proofs.Counts.{with_all_counts, constraints-few}
use Rattle.reader.proofs.Floored.{with_node_kinds, restated_tables, kinds-room, meant-nodes}
use Rattle.reader.proofs.Form.{StreamsFound, streams-found, streams-names, found-count, no_constraints, ConstraintsFound, constraints-found, form-no_streams, form-empty, form-no_kinds, HeaderFound, header_found, form-no_constraints, form-sheet}

-- ---- refusal 3

formless : {o : Option Sheet} → o ≡ none → refused_reading 3 ≡ reading_of (answer_to_form o)
formless e = sym (ap (λ o. reading_of (answer_to_form o)) e)

pub no_streams-reading : {names lows highs : List Token} {r : StreamsRead} {tables : StreamTables} (floors : Bool) (said : Option (List Token)) (ls : List (List ℕ)) → StreamsOutcome names lows highs r tables → r.ok ≡ false
    → refused_reading 3 ≡ reading_of (answer_to_form (form_of_lines floors names lows highs said ls))
no_streams-reading floors said ls o h = formless (form-no_streams floors said ls o h)

-- There are at most as many streams as line 1 has tokens.
pub streams-few : {names lows highs : List Token} {r : StreamsRead} {tables : StreamTables} → StreamsOutcome names lows highs r tables → r.ok ≡ true → length names ≤ 8 → r.count ≤ 8
streams-few {names} {lows} {highs} o h few =
    let f = streams-found o h in
    let e = found-count f in
    let n = ap length (streams-names names lows highs f.form) in
    omega (arith, length-map f.all (λ x. x.name))

pub no_stream-reading : {names lows highs : List Token} {r : StreamsRead} {tables : StreamTables} → StreamsOutcome names lows highs r tables → r.ok ≡ true → (floors : Bool) (said : Option (List Token)) (ls : List (List ℕ)) → r.count ≡ 0
    → refused_reading 3 ≡ reading_of (answer_to_form (form_of_lines floors names lows highs said ls))
no_stream-reading o h floors said ls e = formless (form-empty (streams-found o h) floors said ls e)

-- ---- lines of the form

-- What is stored of constraints that fit the tables.
module _ (cs : List Constraint) (few-nodes : length (all_nodes 0 0 (map bounded_constraint cs)) ≤ 1024) (few_constraints : length cs ≤ 32) where
  abbrev nodes : List Node
  nodes = all_nodes 0 0 (map bounded_constraint cs)

  abbrev rows : List StoredConstraint
  rows = stored_constraints 0 0 (map bounded_constraint cs)

  rows-length : length rows ≡ length cs
  rows-length = stored-length 0 0 (map bounded_constraint cs) ∙ length-map cs bounded_constraint

  stored-nodes : (with_all no_constraints cs).nodes ≡ stored (padded 1024 0 (kinds_of nodes)) (padded 1024 (pos 0) (values_of nodes)) (padded 1024 0 (starts_of nodes))
  unfolding store
  stored-nodes =
      let kinds = sets_padded 0 1024 (kinds_of nodes) (omega (arith, length-map nodes (λ x. x.kind))) in
      let values = sets_padded (pos 0) 1024 (values_of nodes) (omega (arith, length-map nodes (λ x. x.value))) in
      let starts = sets_padded 0 1024 (starts_of nodes) (omega (arith, length-map nodes (λ x. x.start))) in
      with_all_nodes no_constraints cs ∙ (λ i. stored (kinds i) (values i) (starts i))

  stored-counts : (with_all no_constraints cs).counts ≡ counts (length cs) (length nodes) (length (all_firsts (map bounded_constraint cs))) (length (all_untils (map bounded_constraint cs))) (any_of is_integer_beyond (all_expressions cs))
  stored-counts =
      let count : 0 + length cs ≡ length cs = omega arith in
      let all : 0 + length nodes ≡ length nodes = omega arith in
      let firsts : 0 + length (all_firsts (map bounded_constraint cs)) ≡ length (all_firsts (map bounded_constraint cs)) = omega arith in
      let untils : 0 + length (all_untils (map bounded_constraint cs)) ≡ length (all_untils (map bounded_constraint cs)) = omega arith in
      with_all_counts no_constraints cs refl ∙ (λ i. counts (count i) (all i) (firsts i) (untils i) (any_of is_integer_beyond (all_expressions cs)))

  stored-all : with_all no_constraints cs ≡ constraint_tables cs
  unfolding constraint_tables
  stored-all =
      let e = rows-length in
      let relations = with_all_relations no_constraints cs ∙ sets_padded 0 32 (relations_of rows) (omega (arith, length-map rows (λ t. t.relation))) in
      let lefts = with_all_lefts no_constraints cs ∙ sets_padded 0 32 (lefts_of rows) (omega (arith, length-map rows (λ t. t.left))) in
      let rights = with_all_rights no_constraints cs ∙ sets_padded 0 32 (rights_of rows) (omega (arith, length-map rows (λ t. t.right))) in
      λ i. state (stored-nodes i) (relations i) (lefts i) (rights i) (stored-counts i)

record FormFound (names_line lows_line highs_line kinds_line text : List ℕ) (r : StreamsRead) (tables : StreamTables) (kinds : List ℕ) (new : State) : Type 0 where
  few_names : length (tokens names_line) ≤ 8
  few_lines : LinesFit (lines text)
  streams : HeaderFound (tokens names_line) (tokens lows_line) (tokens highs_line) (tokens kinds_line) r tables kinds
  some_stream : r.count ≡ 0 → ⊥
  constraints : ConstraintsFound (tokens names_line) (lines text) no_constraints new

abbrev lines_answer : Bool → List ℕ → List ℕ → List ℕ → List ℕ → List ℕ → Answer
lines_answer floors names_line lows_line highs_line kinds_line text = answer_to_form (form_of_lines floors (tokens names_line) (tokens lows_line) (tokens highs_line) (said_tokens (tokens kinds_line)) (lines text))

module _ {names_line lows_line highs_line kinds_line text : List ℕ} {r : StreamsRead} {tables : StreamTables} {kinds : List ℕ} {new : State} (F : FormFound names_line lows_line highs_line kinds_line text r tables kinds new) (floors : Bool) where
  abbrev found : Sheet
  found = record { streams = F.streams.all; constraints = meant_constraints floors F.constraints.all }

  answer-is : lines_answer floors names_line lows_line highs_line kinds_line text ≡ answer_to_sheet found
  answer-is = ap (answer_to_form) (form-sheet F.streams F.some_stream floors F.constraints)

  names_are : names_of found.streams ≡ tokens names_line
  names_are = F.streams.names_are

  names-reading : names_refused (tokens names_line) ≡ true → refused_reading 4 ≡ reading_of (lines_answer floors names_line lows_line highs_line kinds_line text)
  unfolding names_refused refuses4 answer_to_sheet
  names-reading h =
      let named : names_refused (names_of found.streams) ≡ true = ap names_refused names_are ∙ h in
      sym (ap reading_of (answer-is ∙ ap (λ b. cond b (refused 4) (cond (refuses5 found) (refused 5) (cond (refuses6 found) (refused 6) (cond (refuses7 found) (refused 7) (sheet found))))) (ap (λ b. b || any_of (λ c. not (sides_below (length found.streams) c)) found.constraints) named)))

  found-room : length new.nodes.kinds ≤ 1024
  found-room =
      let few = constraints-few names_line (lines text) 0 0 F.constraints.form in
      let few-nodes : length (all_nodes 0 0 (map bounded_constraint F.constraints.all)) ≤ 1024 = let a = few.nodes in let b = F.few_lines.tokens in omega arith in
      let few_constraints : length F.constraints.all ≤ 32 = let a = few.count in let b = F.few_lines.count in omega arith in
      omega (arith, ap (λ x. length x.nodes.kinds) (F.constraints.stored ∙ stored-all F.constraints.all few-nodes few_constraints), kinds-room F.constraints.all few-nodes)

  -- What is held once the nodes' kinds are those that the sheet means.
  found-held : names_refused (tokens names_line) ≡ false → {ks : List ℕ} → ks ≡ meant_kinds floors new.nodes.kinds → Held found r tables kinds (with_node_kinds ks new)
  found-held h {ks} restated =
      let cs = F.constraints.all in
      let few = constraints-few names_line (lines text) 0 0 F.constraints.form in
      let few-nodes : length (all_nodes 0 0 (map bounded_constraint cs)) ≤ 1024 = let a = few.nodes in let b = F.few_lines.tokens in omega arith in
      let few_constraints : length cs ≤ 32 = let a = few.count in let b = F.few_lines.count in omega arith in
      let read : new ≡ constraint_tables cs = F.constraints.stored ∙ stored-all cs few-nodes few_constraints in
      record {
        streams = F.streams.gives;
        stream_tables = F.streams.stored;
        stream_kinds = F.streams.kinds_stored;
        constraints = ap (λ l. with_node_kinds l new) restated ∙ ap (λ x. with_node_kinds (meant_kinds floors x.nodes.kinds) x) read ∙ restated_tables floors cs;
        few_streams = let n = F.few_names in let e = ap length names_are in omega (arith, length-map found.streams (λ x. x.name));
        few_constraints = omega (arith, few_constraints, meant-length floors cs);
        few_nodes = omega (arith, few-nodes, meant-nodes floors cs);
        names = ap names_refused names_are ∙ h;
      }

-- ---- lines that were read whole

-- What was read of lines with some stream, and the refusal 3 or 4 that their line of kinds, constraint lines and names give, or 0.
pub record LinesRead (names_line lows_line highs_line kinds_line text : List ℕ) (r : StreamsRead) (tables : StreamTables) (said : Bool) (kinds : List ℕ) (new : State) (refusal : ℕ) : Type 0 where
  pub few : (length (tokens names_line) ≤ 8) × LinesFit (lines text)
  pub streams : StreamsOutcome (tokens names_line) (tokens lows_line) (tokens highs_line) r tables
  pub ok : r.ok ≡ true
  pub some_stream : r.count ≡ 0 → ⊥
  pub stream_kinds : KindsOutcome (tokens kinds_line) r.count said kinds
  pub constraints : ConstraintsOutcome (tokens names_line) (lines text) no_constraints new
  pub judged : refusal ≡ form_refusal (not (said && new.counts.ok)) (names_refused (tokens names_line))

module _ {names_line lows_line highs_line kinds_line text : List ℕ} {r : StreamsRead} {tables : StreamTables} {said : Bool} {kinds : List ℕ} {new : State} {refusal : ℕ} (R : LinesRead names_line lows_line highs_line kinds_line text r tables said kinds new refusal) (floors : Bool) where
  streams_read : StreamsFound (tokens names_line) (tokens lows_line) (tokens highs_line) r tables
  streams_read = streams-found R.streams R.ok

  form_found : said ≡ true → new.counts.ok ≡ true → FormFound names_line lows_line highs_line kinds_line text r tables kinds new
  form_found k e = record { few_names = R.few.0; few_lines = R.few.1; streams = header_found streams_read R.stream_kinds k; some_stream = R.some_stream; constraints = constraints-found R.constraints e }

  refusal_is : {a ok named : Bool} → said ≡ a → new.counts.ok ≡ ok → names_refused (tokens names_line) ≡ named → refusal ≡ form_refusal (not (a && ok)) named
  refusal_is k e d = R.judged ∙ ap₂ (λ a b. form_refusal (not a) b) (ap₂ ◌&&◌ k e) d

  -- Where the kinds or the constraint lines have not the form, the sheet is 3.
  no_kinds_reading : said ≡ false → refused_reading 3 ≡ reading_of (lines_answer floors names_line lows_line highs_line kinds_line text)
  no_kinds_reading k = formless (form-no_kinds streams_read floors (lines text) R.stream_kinds k)

  no_constraints_reading : said ≡ true → new.counts.ok ≡ false → refused_reading 3 ≡ reading_of (lines_answer floors names_line lows_line highs_line kinds_line text)
  no_constraints_reading k e = formless (form-no_constraints (header_found streams_read R.stream_kinds k) R.some_stream floors R.constraints refl e)

  pub form_refused : (refusal ≡ 0 → ⊥) → refused_reading refusal ≡ reading_of (lines_answer floors names_line lows_line highs_line kinds_line text)
  form_refused n = by said refl new.counts.ok refl (names_refused (tokens names_line)) refl
    where
      by : (a : Bool) → said ≡ a → (ok : Bool) → new.counts.ok ≡ ok → (named : Bool) → names_refused (tokens names_line) ≡ named → refused_reading refusal ≡ reading_of (lines_answer floors names_line lows_line highs_line kinds_line text)
      by false k ok e named d = ap refused_reading (refusal_is k e d) ∙ no_kinds_reading k
      by true k false e named d = ap refused_reading (refusal_is k e d) ∙ no_constraints_reading k e
      by true k true e true d = ap refused_reading (refusal_is k e d) ∙ names-reading (form_found k e) floors d
      by true k true e false d = absurd (n (refusal_is k e d))

  -- Where neither refusal is given, the lines are of the form and no name of line 1 is refused.
  form_taken : refusal ≡ 0 → (F : FormFound names_line lows_line highs_line kinds_line text r tables kinds new) × (names_refused (tokens names_line) ≡ false)
  form_taken z = by said refl new.counts.ok refl (names_refused (tokens names_line)) refl
    where
      by : (a : Bool) → said ≡ a → (ok : Bool) → new.counts.ok ≡ ok → (named : Bool) → names_refused (tokens names_line) ≡ named → (F : FormFound names_line lows_line highs_line kinds_line text r tables kinds new) × (names_refused (tokens names_line) ≡ false)
      by false k ok e named d = let y = refusal_is k e d in absurd (omega arith)
      by true k false e named d = let y = refusal_is k e d in absurd (omega arith)
      by true k true e true d = let y = refusal_is k e d in absurd (omega arith)
      by true k true e false d = (form_found k e, d)

  -- The kinds of the nodes, which are restated, fill their room.
  pub kinds_fill : refusal ≡ 0 → length new.nodes.kinds ≤ 1024
  kinds_fill z = found-room (form_taken z).0 floors

  module _ (z : refusal ≡ 0) {ks : List ℕ} (restated : ks ≡ meant_kinds floors new.nodes.kinds) where
    pub held_sheet : HeldSheet r tables kinds (with_node_kinds ks new)
    held_sheet = let (F, h) = form_taken z in record { sheet = found F floors; held = found-held F floors h restated }

    pub held_reading : {reading : Reading} → HeldReading r tables kinds (with_node_kinds ks new) reading → reading ≡ reading_of (lines_answer floors names_line lows_line highs_line kinds_line text)
    held_reading g = let (F, h) = form_taken z in g.gives (found F floors) (found-held F floors h restated) ∙ sym (ap reading_of (answer-is F floors))
