-- What the reader's answer gives to the tables: a refusal's number, or the lists of the stored sheet, which have room and name nodes.
use Prim.Native.Nat.{ℕ, ◌-◌, ◌≤◌}
use native.Mathlib.Omega.{arith}
use mathlib.Core.Path.{◌≡◌, refl, sym, ◌∙◌, ap, subst}
use mathlib.Core.List.{List, map}
use lib.IntN.{ℤ, pos}
use lib.ListN.{length, take, replicate, length-append, length-map}
use lib.Seq.{take_at, length-take-le}
use Rattle.basics.proofs.Lists.{get_d_map}
use Rattle.meaning.specs.Expression.{Stream, Constraint, always, Sheet, integer, comparison}
use Rattle.meaning.specs.Value.{equal}
use Rattle.sheet.specs.Refusal.{Answer, refused, sheet, AnswerTo}
use Rattle.sheet.specs.Reading.{answer_to}
use Rattle.sheet.specs.Accepted.{Accepted}
use Rattle.sheet.proofs.Reading.{answer_correct}
use Rattle.sheet.proofs.Accepted.{accepted_facts}
use Rattle.outcome.proofs.AcceptedCompile.{refusal-positive}
use Rattle.nodes.specs.Postfix.{Node, StoredConstraint, all_nodes, stored_constraints, kinds_of, values_of, starts_of}
use Rattle.nodes.specs.Evaluate.{stored, nodes_of}
use Rattle.nodes.specs.Bounds.{lows_of, highs_of}
use Rattle.nodes.proofs.Postfix.{sides-inside, stored-length}
use Rattle.header.specs.Streams.{padded}
use Rattle.reader.specs.Stored.{relations_of, lefts_of, rights_of, stored_sheet, reading_of}
use Rattle.reader.specs.declared.StoredSheet.{StoredSheet}
use Rattle.reader.specs.declared.Reading.{Reading}
use Rattle.spans.specs.Stored.{span_table}
use Rattle.normal.specs.Rows.{rewriting_lines}
use Rattle.normal.specs.Stored.{stored_lines, range_before}
use Rattle.normal_entries.specs.Entries.{refused_made}
use Rattle.normal.specs.Table.{HasLines, LinesHaveRoom, made_tables}
use Rattle.normal.specs.Outcome.{sheet_range, entries_for}
use Rattle.normal_entries.specs.declared.Made.{Made}
use Rattle.normal.proofs.SheetRows.{lines_stored, sheet-holds, nodes-total, sheet-room}

-- ---- the lists of a stored sheet

-- The arrays hold as many elements as the sheet's numbers say.
pub record Holding (t : StoredSheet) : Type 0 where
  pub kinds : t.nodes ≤ length t.kinds
  pub values : t.nodes ≤ length t.values
  pub starts : t.nodes ≤ length t.starts
  pub lows : t.streams ≤ length t.lows
  pub highs : t.streams ≤ length t.highs
  pub relations : t.constraints ≤ length t.relations
  pub lefts : t.constraints ≤ length t.lefts
  pub rights : t.constraints ≤ length t.rights

pub cut-length : {X : Type 0} (n : ℕ) (l : List X) → n ≤ length l → n ≡ length (take n l)
cut-length n l h = sym (length-take-le n l h)

pub record Lists : Type 0 where
  pub kinds : List ℕ
  pub values : List ℤ
  pub starts : List ℕ
  pub lows : List ℤ
  pub highs : List ℤ
  pub relations : List ℕ
  pub lefts : List ℕ
  pub rights : List ℕ

-- What is passed on of a stored sheet.
abbrev pub lists_of : StoredSheet → Lists
lists_of t =
    record {
      kinds = take t.nodes t.kinds;
      values = take t.nodes t.values;
      starts = take t.nodes t.starts;
      lows = take t.streams t.lows;
      highs = take t.streams t.highs;
      relations = take t.constraints t.relations;
      lefts = take t.constraints t.lefts;
      rights = take t.constraints t.rights;
    }

abbrev sheet_lists : Sheet → Lists
sheet_lists s =
    let nodes = all_nodes 0 0 s.constraints in
    let constraints = stored_constraints 0 0 s.constraints in
    record {
      kinds = kinds_of nodes;
      values = values_of nodes;
      starts = starts_of nodes;
      lows = lows_of s.streams;
      highs = highs_of s.streams;
      relations = relations_of constraints;
      lefts = lefts_of constraints;
      rights = rights_of constraints;
    }

padded-cut : {X : Type 0} (room n : ℕ) (z : X) (l : List X) → length l ≡ n → take n (padded room z l) ≡ l
padded-cut room n z l e = take_at l (replicate (room - length l) z) n e

padded-holds : {X : Type 0} (room n : ℕ) (z : X) (l : List X) → length l ≡ n → n ≤ length (padded room z l)
padded-holds room n z l e = omega (arith, length-append l (replicate (room - length l) z))

module _ (s : Sheet) where
  abbrev nodes : List Node
  nodes = all_nodes 0 0 s.constraints

  abbrev constraints : List StoredConstraint
  constraints = stored_constraints 0 0 s.constraints

  mapped : {X Y : Type 0} (g : X → Y) (l : List X) {n : ℕ} → length l ≡ n → length (map g l) ≡ n
  mapped g l e = length-map l g ∙ e

  sheet_holding : Holding (stored_sheet s)
  unfolding stored_sheet
  sheet_holding =
      let k = stored-length 0 0 s.constraints in
      record {
        kinds = padded-holds 1024 (length nodes) 0 (kinds_of nodes) (mapped (λ x. x.kind) nodes refl);
        values = padded-holds 1024 (length nodes) (pos 0) (values_of nodes) (mapped (λ x. x.value) nodes refl);
        starts = padded-holds 1024 (length nodes) 0 (starts_of nodes) (mapped (λ x. x.start) nodes refl);
        lows = padded-holds 8 (length s.streams) (pos 0) (lows_of s.streams) (mapped (λ (x : Stream). x.range.low) s.streams refl);
        highs = padded-holds 8 (length s.streams) (pos 0) (highs_of s.streams) (mapped (λ (x : Stream). x.range.high) s.streams refl);
        relations = padded-holds 32 (length s.constraints) 0 (relations_of constraints) (mapped (λ (x : StoredConstraint). x.relation) constraints k);
        lefts = padded-holds 32 (length s.constraints) 0 (lefts_of constraints) (mapped (λ (x : StoredConstraint). x.left) constraints k);
        rights = padded-holds 32 (length s.constraints) 0 (rights_of constraints) (mapped (λ (x : StoredConstraint). x.right) constraints k);
      }

  lists_are : lists_of (stored_sheet s) ≡ sheet_lists s
  unfolding stored_sheet
  lists_are =
      let k = stored-length 0 0 s.constraints in
      λ i. record {
        kinds = padded-cut 1024 (length nodes) 0 (kinds_of nodes) (mapped (λ x. x.kind) nodes refl) i;
        values = padded-cut 1024 (length nodes) (pos 0) (values_of nodes) (mapped (λ x. x.value) nodes refl) i;
        starts = padded-cut 1024 (length nodes) 0 (starts_of nodes) (mapped (λ x. x.start) nodes refl) i;
        lows = padded-cut 8 (length s.streams) (pos 0) (lows_of s.streams) (mapped (λ (x : Stream). x.range.low) s.streams refl) i;
        highs = padded-cut 8 (length s.streams) (pos 0) (highs_of s.streams) (mapped (λ (x : Stream). x.range.high) s.streams refl) i;
        relations = padded-cut 32 (length s.constraints) 0 (relations_of constraints) (mapped (λ (x : StoredConstraint). x.relation) constraints k) i;
        lefts = padded-cut 32 (length s.constraints) 0 (lefts_of constraints) (mapped (λ (x : StoredConstraint). x.left) constraints k) i;
        rights = padded-cut 32 (length s.constraints) 0 (rights_of constraints) (mapped (λ (x : StoredConstraint). x.right) constraints k) i;
      }

  -- ---- what is asked of the lists, and what is made of them

  abbrev pub Asked : Lists → Type 0
  Asked l = HasLines l.kinds l.relations l.lefts l.rights × LinesHaveRoom (stored_lines l.kinds l.starts l.relations l.lefts l.rights) (length l.relations) (length l.lows)

  abbrev pub made_from : Lists → List ℕ → ℕ → Made
  made_from l spans room = made_tables (stored_lines l.kinds l.starts l.relations l.lefts l.rights) (length l.lows) (range_before (stored l.kinds l.values l.starts) l.lows l.highs) spans room

  lines_are : stored_lines (kinds_of nodes) (starts_of nodes) (relations_of constraints) (lefts_of constraints) (rights_of constraints) ≡ rewriting_lines 0 s.constraints
  lines_are = lines_stored (nodes_of nodes) 0 0 s.constraints (sheet-holds s.constraints)

  no_constraint : Constraint
  no_constraint = always (comparison equal) (integer (pos 0)) (integer (pos 0))

  no_stored : StoredConstraint
  no_stored = record { relation = 0; left = 0; right = 0 }

  sheet_asked : Accepted s → Asked (sheet_lists s)
  sheet_asked ok =
      let k = stored-length 0 0 s.constraints in
      let er = mapped (λ (x : StoredConstraint). x.relation) constraints k in
      let el = mapped (λ (x : StoredConstraint). x.left) constraints k in
      let et = mapped (λ (x : StoredConstraint). x.right) constraints k in
      let en = length-map nodes (λ (x : Node). x.kind) in
      let room = sheet-room ok in (
        record {
          nodes = omega (arith, ok.expression_count, nodes-total 0 0 s.constraints, en);
          left_count = el ∙ sym er;
          right_count = et ∙ sym er;
          left = λ j h.
              let b = sides-inside no_constraint no_stored s.constraints j (omega arith) in
              omega (arith, b.0, get_d_map (λ (x : StoredConstraint). x.left) constraints j no_stored 0 (omega arith), en);
          right = λ j h.
              let b = sides-inside no_constraint no_stored s.constraints j (omega arith) in
              omega (arith, b.1, get_d_map (λ (x : StoredConstraint). x.right) constraints j no_stored 0 (omega arith), en);
        },
        subst (λ ls. LinesHaveRoom ls (length (relations_of constraints)) (length (lows_of s.streams))) (sym lines_are)
            (subst (λ n. LinesHaveRoom (rewriting_lines 0 s.constraints) n (length (lows_of s.streams))) (sym er)
            (subst (LinesHaveRoom (rewriting_lines 0 s.constraints) (length s.constraints)) (sym (length-map s.streams (λ (x : Stream). x.range.low))) room)),
      )

  sheet-made : (text : List ℕ) (room : ℕ) → made_from (sheet_lists s) (span_table text) room ≡ entries_for text (sheet s) room
  sheet-made text room = λ i. made_tables (lines_are i) (length-map s.streams (λ (x : Stream). x.range.low) i) (sheet_range s) (span_table text) room

-- ---- the reader's answer

-- The reading of an accepted sheet.
pub record SheetRead (a : Answer) (x : Reading) : Type 0 where
  pub source : Sheet
  pub is : a ≡ sheet source
  pub stored : x.sheet ≡ stored_sheet source
  pub accepted : Accepted source

module _ (text : List ℕ) {x : Reading} (e : x ≡ reading_of (answer_to text)) where
  abbrev answer : Answer
  answer = answer_to text

  pub reading_refused : (x.refusal ≡ 0 → ⊥) → (room : ℕ) {m : Made} → m ≡ refused_made x.refusal → m ≡ entries_for text answer room
  reading_refused h room {m} q = q ∙ by answer e
    where
      by : (a : Answer) → x ≡ reading_of a → refused_made x.refusal ≡ entries_for text a room
      by (refused n) p = ap (λ (y : Reading). refused_made y.refusal) p
      by (sheet s) p = absurd (h (ap (λ (y : Reading). y.refusal) p))

  pub reading_sheet : x.refusal ≡ 0 → SheetRead answer x
  reading_sheet h = by answer e (answer_correct text)
    where
      by : (a : Answer) → x ≡ reading_of a → AnswerTo text a → SheetRead a x
      by (refused n) p r = let z = ap (λ (y : Reading). y.refusal) p in absurd (omega (arith, refusal-positive r))
      by (sheet s) p r = record { source = s; is = refl; stored = ap (λ (y : Reading). y.sheet) p; accepted = accepted_facts r }

module _ {a : Answer} {x : Reading} (r : SheetRead a x) where
  pub read_holding : Holding x.sheet
  read_holding = subst Holding (sym r.stored) (sheet_holding r.source)

  pub read_asked : Asked r.source (lists_of x.sheet)
  read_asked = subst (Asked r.source) (sym (ap lists_of r.stored ∙ lists_are r.source)) (sheet_asked r.source r.accepted)

  pub read_made : (text : List ℕ) (room : ℕ) {m : Made} {spans : List ℕ} → spans ≡ span_table text → m ≡ made_from r.source (lists_of x.sheet) spans room → m ≡ entries_for text a room
  read_made text room e q =
      q
      ∙ (λ i. made_from r.source ((ap lists_of r.stored ∙ lists_are r.source) i) (e i) room)
      ∙ sheet-made r.source text room
      ∙ ap (λ b. entries_for text b room) (sym r.is)
