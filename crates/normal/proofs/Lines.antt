-- What lines write: a line's own row before what it adds, and line after line. Stores to places that are apart can change their order.
use Prim.Native.Nat.{ℕ, suc, ◌+◌, ◌*◌, ◌-◌, ◌≤◌, ◌<◌}
use native.Mathlib.Omega.{arith}
use native.Mathlib.Numerals.{add-one}
use native.Mathlib.Decide.{ℕ_discrete}
use mathlib.Core.Path.{◌≡◌, refl, sym, ◌∙◌, ap, subst}
use mathlib.Core.Bool.{cond}
use mathlib.Core.List.{List, [], ◌∷◌, ◌++◌}
use lib.IntN.{ℤ, pos}
use lib.ListN.{length, get_or, set, drop, replicate, length-append}
use lib.Seq.{sets, set_comm, drop-cons}
use borrow.Author.Tests.{eq-eqb, ne_eqb, lt-ltb, le-ltb}
use Rattle.normal_entries.specs.Row.{Row}
use Rattle.normal.specs.Rows.{Rewriting, both_rewritings, until_row, until_entries, until_rewriting, Line, until_line, always_line, relation_line, own_rows, added_rows, all_rows, streams_after}
use Rattle.normal.specs.Stored.{rewriting_before, stored_line, stored_lines}
use Rattle.normal_entries.specs.Entries.{row_bound, refused_made, with_spans}
use Rattle.normal.specs.Table.{stream_limit, flat, put_rows, RewritingFits, Wrote, WroteLine, WroteLines, LinesHaveRoom, ends_up_to, numbers_with, made_tables}
use Rattle.normal_entries.specs.declared.Made.{Made}
use Rattle.normal_entries.specs.declared.NormalForm.{NormalForm}
use Rattle.normal.specs.declared.RowsWritten.{RowsWritten}
use Rattle.std.specs.Prelude.{Option}
use Rattle.nodes.specs.declared.Range.{Range}
use Rattle.normal.proofs.Writing.{length-flat, put-append, put-more, row_of, written, room-left, room-right}

-- ---- stores that are apart

set_sets : (l : List ℕ) (i j a : ℕ) (ys : List ℕ) → i < j → set (sets l j ys) i a ≡ sets (set l i a) j ys
set_sets l i j a [] h = refl
set_sets l i j a (y ∷ ys) h = set_sets (set l j y) i (suc j) a ys (omega arith) ∙ ap (λ x. sets x (suc j) ys) (sym (set_comm l i j a y (λ e. omega arith)))

sets_swap : (l : List ℕ) (i j : ℕ) (xs ys : List ℕ) → i + length xs ≤ j → sets (sets l j ys) i xs ≡ sets (sets l i xs) j ys
sets_swap l i j [] ys h = refl
sets_swap l i j (x ∷ xs) ys h = ap (λ z. sets z (suc i) xs) (set_sets l i j x ys (omega arith)) ∙ sets_swap (set l i x) (suc i) j xs ys (omega arith)

pub put-swap : (t : List ℕ) (i j : ℕ) (a b : List Row) → i + length a ≤ j → put_rows (put_rows t j b) i a ≡ put_rows (put_rows t i a) j b
put-swap t i j a b h = sets_swap t (i * 7) (j * 7) (flat a) (flat b) (omega (arith, length-flat a))

-- ---- one line

-- The own row is written behind the rows of the left side, and stands before them.
own_first : (t : List ℕ) {u v z : List ℕ} (own row : ℕ) (o : Row) (a b : List Row) {k : ℕ} → own < row → u ≡ put_rows t row a → v ≡ put_rows u own (o ∷ []) → k ≡ row + length a → z ≡ put_rows v k b
    → z ≡ put_rows (put_rows t own (o ∷ [])) row (a ++ b)
own_first t own row o a b l p q e r =
    put-more (put_rows t own (o ∷ [])) row a b (q ∙ ap (λ x. put_rows x own (o ∷ [])) p ∙ put-swap t own row (o ∷ []) a (omega arith)) e r

module _ (kinds starts : List ℕ) (relation left right : ℕ) where
  abbrev a : Rewriting
  a = rewriting_before kinds starts (left + 1)

  abbrev b : Rewriting
  b = rewriting_before kinds starts (right + 1)

  line-is : stored_line kinds starts relation left right ≡ relation_line relation (left + 1) (right + 1) a b
  line-is = λ i. relation_line relation (sym (add-one left) i) (sym (add-one right) i) (rewriting_before kinds starts (sym (add-one left) i)) (rewriting_before kinds starts (sym (add-one right) i))

  pub line-until : relation ≡ 7 → stored_line kinds starts relation left right ≡ until_line (left + 1) (right + 1) a b
  line-until e = line-is ∙ ap (λ t. cond t (until_line (left + 1) (right + 1) a b) (always_line relation (left + 1) (right + 1) a b)) (eq-eqb relation 7 e)

  pub line-always : (relation ≡ 7 → ⊥) → stored_line kinds starts relation left right ≡ always_line relation (left + 1) (right + 1) a b
  line-always e = line-is ∙ ap (λ t. cond t (until_line (left + 1) (right + 1) a b) (always_line relation (left + 1) (right + 1) a b)) (ne_eqb relation 7 e)

  until-length : (n : ℕ) → length ((until_rewriting (left + 1) (right + 1) a b).rows n) ≡ length (a.rows n) + (2 + length (b.rows (suc (suc (n + a.added)))))
  until-length n = length-append (a.rows n) (until_entries (left + 1) (right + 1) n (n + a.added) ++ b.rows (suc (suc (n + a.added)))) ∙ omega arith

  module _ {row n : ℕ} (h : RewritingFits (stored_line kinds starts relation left right).adds row n) where
    until-room : relation ≡ 7 → RewritingFits (until_rewriting (left + 1) (right + 1) a b) row n
    until-room e = subst (λ l. RewritingFits l.adds row n) (line-until e) h

    always-room : (relation ≡ 7 → ⊥) → RewritingFits (both_rewritings a b) row n
    always-room e = subst (λ l. RewritingFits l.adds row n) (line-always e) h

    pub line-left : RewritingFits a row n
    line-left = by (ℕ_discrete relation 7)
      where
        by : Dec (relation ≡ 7) → RewritingFits a row n
        by (yes e) = let g = until-room e in let k = until-length n in record { rows = omega (arith, g.rows); streams = omega (arith, g.streams) }
        by (no e) = room-left a b refl (always-room e)

    module _ {t u : List ℕ} {r : RowsWritten} (x : Wrote a row n t u r) where
      pub until-own : relation ≡ 7 → (r.row + 2 ≤ row_bound) × (r.stream + 2 ≤ stream_limit) × (n ≤ stream_limit)
      until-own e =
          let g = until-room e in
          let k = until-length n in
          (omega (arith, g.rows, x.rows), omega (arith, g.streams, x.streams), omega (arith, g.streams))

      pub until-right : relation ≡ 7 → RewritingFits b (r.row + 2) (r.stream + 2)
      until-right e =
          let g = until-room e in
          let k = until-length n in
          let s : r.stream + 2 ≡ suc (suc (n + a.added)) = omega (arith, x.streams) in
          let f = ap (λ k. length (b.rows k)) s in
          record { rows = omega (arith, g.rows, x.rows); streams = omega (arith, g.streams, x.streams) }

      pub always-right : (relation ≡ 7 → ⊥) → RewritingFits b r.row r.stream
      always-right e = room-right a b refl x (always-room e)

      pub always-own : (relation ≡ 7 → ⊥) → (row ≤ row_bound) × (n ≤ stream_limit) × (r.stream ≤ stream_limit)
      always-own e = let g = always-right e in let l = line-left in (omega (arith, l.rows), omega (arith, l.streams), omega (arith, g.streams))

  module _ {row n own : ℕ} (l : own < row) {t u : List ℕ} {r : RowsWritten} (x : Wrote a row n t u r) where
    pub wrote-until : relation ≡ 7 → {v z : List ℕ} {q : RowsWritten} → v ≡ put_rows (put_rows u own (until_row r.stream (left + 1) ∷ [])) r.row (until_entries (left + 1) (right + 1) n r.stream)
        → Wrote b (r.row + 2) (r.stream + 2) v z q → WroteLine (stored_line kinds starts relation left right) own row n t z q
    wrote-until e {v} {z} {q} p y =
        let k = until-length n in
        let s : r.stream + 2 ≡ suc (suc (n + a.added)) = omega (arith, x.streams) in
        let f = ap (λ k. length (b.rows k)) s in
        let entries = until_entries (left + 1) (right + 1) n r.stream in
        let behind = entries ++ b.rows (r.stream + 2) in
        subst (λ m. WroteLine m own row n t z q) (sym (line-until e))
        (record {
          rows = omega (arith, y.rows, x.rows);
          streams = omega (arith, y.streams, x.streams);
          table =
              own_first t own row (until_row r.stream (left + 1)) (a.rows n) behind l x.table refl x.rows
              (put-more (put_rows u own (until_row r.stream (left + 1) ∷ [])) r.row entries (b.rows (r.stream + 2)) p refl y.table)
              ∙ (λ i. put_rows (put_rows t own (until_row (x.streams i) (left + 1) ∷ [])) row (a.rows n ++ (until_entries (left + 1) (right + 1) n (x.streams i) ++ b.rows (s i))));
        })

    pub wrote-always : (relation ≡ 7 → ⊥) → {v z : List ℕ} {q : RowsWritten} → v ≡ put_rows u own (row_of 1 relation left n right r.stream 0 ∷ [])
        → Wrote b r.row r.stream v z q → WroteLine (stored_line kinds starts relation left right) own row n t z q
    wrote-always e {v} {z} {q} p y =
        let k = length-append (a.rows n) (b.rows (n + a.added)) in
        let f = ap (λ k. length (b.rows k)) x.streams in
        let el : left ≡ left + 1 - 1 = omega arith in
        let er : right ≡ right + 1 - 1 = omega arith in
        subst (λ m. WroteLine m own row n t z q) (sym (line-always e))
        (record {
          rows = omega (arith, y.rows, x.rows);
          streams = omega (arith, y.streams, x.streams);
          table =
              own_first t own row (row_of 1 relation left n right r.stream 0) (a.rows n) (b.rows r.stream) l x.table p x.rows y.table
              ∙ (λ i. put_rows (put_rows t own (row_of 1 relation (el i) n (er i) (x.streams i) 0 ∷ [])) row (a.rows n ++ b.rows (x.streams i)));
        })

-- ---- line after line

pub streams-more : (n : ℕ) (ls : List Line) → n ≤ streams_after n ls
unfolding streams_after
streams-more n [] = omega arith
streams-more n (l ∷ ls) = let h = streams-more (n + l.adds.added) ls in omega arith

pub length-own_rows : (n : ℕ) (ls : List Line) → length (own_rows n ls) ≡ length ls
unfolding own_rows
length-own_rows n [] = refl
length-own_rows n (l ∷ ls) = ap suc (length-own_rows (n + l.adds.added) ls)

module _ (l : Line) (ls : List Line) {row n : ℕ} (h : LinesHaveRoom (l ∷ ls) row n) where
  pub lines-first : RewritingFits l.adds row n
  unfolding added_rows streams_after
  lines-first =
      let e = length-append (l.adds.rows n) (added_rows (n + l.adds.added) ls) in
      record { rows = omega (arith, h.rows); streams = omega (arith, h.streams, streams-more (n + l.adds.added) ls) }

  pub lines_rest : {own : ℕ} {t u : List ℕ} {r : RowsWritten} → WroteLine l own row n t u r → LinesHaveRoom ls r.row r.stream
  unfolding added_rows streams_after
  lines_rest {r = r} w =
      let e = length-append (l.adds.rows n) (added_rows (n + l.adds.added) ls) in
      let f = ap (λ k. length (added_rows k ls)) w.streams in
      record { rows = omega (arith, h.rows, w.rows); streams = subst (λ k. streams_after k ls ≤ stream_limit) (sym w.streams) h.streams }

pub wrote_none : (own row n : ℕ) (t : List ℕ) → WroteLines [] own row n t t (written row n)
unfolding own_rows added_rows streams_after
wrote_none own row n t = record { rows = omega arith; streams = refl; table = refl }

pub wrote-cons : (l : Line) (ls : List Line) {own row n : ℕ} {t u v : List ℕ} {r q : RowsWritten} → own + suc (length ls) ≤ row → WroteLine l own row n t u r → WroteLines ls (own + 1) r.row r.stream u v q
    → WroteLines (l ∷ ls) own row n t v q
unfolding own_rows added_rows streams_after
wrote-cons l ls {own} {row} {n} {t} {u} {v} {r} {q} fits w x =
    let m = n + l.adds.added in
    let o = l.own n ∷ [] in
    let a = l.adds.rows n in
    let e = length-append a (added_rows m ls) in
    let f = ap (λ k. length (added_rows k ls)) w.streams in
    let g = length-own_rows m ls in
    record {
      rows = omega (arith, x.rows, w.rows);
      streams = x.streams ∙ ap (λ k. streams_after k ls) w.streams;
      table =
          put-more (put_rows t own (o ++ own_rows m ls)) row a (added_rows m ls)
          (ap (λ z. put_rows z (own + 1) (own_rows m ls)) w.table ∙ put-swap (put_rows t own o) (own + 1) row (own_rows m ls) a (omega arith) ∙ ap (λ z. put_rows z row a) (put-append t own o (own_rows m ls)))
          w.rows
          (x.table ∙ (λ i. put_rows (put_rows u (own + 1) (own_rows (w.streams i) ls)) r.row (added_rows (w.streams i) ls)));
    }

-- The lines from the one with the number j on.
pub lines_at : (kinds starts relations lefts rights : List ℕ) (j : ℕ) → j < length relations → length lefts ≡ length relations → length rights ≡ length relations
    → stored_lines kinds starts (drop j relations) (drop j lefts) (drop j rights)
    ≡ stored_line kinds starts (get_or relations j 0) (get_or lefts j 0) (get_or rights j 0) ∷ stored_lines kinds starts (drop (j + 1) relations) (drop (j + 1) lefts) (drop (j + 1) rights)
unfolding stored_lines
lines_at kinds starts relations lefts rights j h el er =
    (λ i. stored_lines kinds starts (drop-cons relations j 0 h i) (drop-cons lefts j 0 (omega arith) i) (drop-cons rights j 0 (omega arith) i))
    ∙ (λ i. stored_line kinds starts (get_or relations j 0) (get_or lefts j 0) (get_or rights j 0) ∷ stored_lines kinds starts (drop (sym (add-one j) i) relations) (drop (sym (add-one j) i) lefts) (drop (sym (add-one j) i) rights))

pub length-stored_lines : (kinds starts relations lefts rights : List ℕ) → length (stored_lines kinds starts relations lefts rights) ≤ length relations
unfolding stored_lines
length-stored_lines kinds starts [] lefts rights = omega arith
length-stored_lines kinds starts (p ∷ relations) [] rights = omega arith
length-stored_lines kinds starts (p ∷ relations) (l ∷ lefts) [] = omega arith
length-stored_lines kinds starts (p ∷ relations) (l ∷ lefts) (r ∷ rights) = let h = length-stored_lines kinds starts relations lefts rights in omega arith

pub stored-count : (kinds starts relations lefts rights : List ℕ) → length lefts ≡ length relations → length rights ≡ length relations → length (stored_lines kinds starts relations lefts rights) ≡ length relations
unfolding stored_lines
stored-count kinds starts [] lefts rights el er = refl
stored-count kinds starts (p ∷ relations) [] rights el er = absurd (omega arith)
stored-count kinds starts (p ∷ relations) (l ∷ lefts) [] el er = absurd (omega arith)
stored-count kinds starts (p ∷ relations) (l ∷ lefts) (r ∷ rights) el er = ap suc (stored-count kinds starts relations lefts rights (omega arith) (omega arith))

-- ---- tables of zeros

-- The answer of a refusal is put beside tables of zeros.
pub refusal-put : {m : Made} {a : NormalForm} {numbers : List ℕ} {n : ℕ} → m ≡ refused_made 0 → a ≡ (refused_made n).answer → numbers ≡ replicate 30944 0 → ◌≡◌ {A = Made} (record { answer = a; numbers = numbers; ends = m.ends }) (refused_made n)
refusal-put z a e = λ i. record { answer = a i; numbers = e i; ends = (z i).ends }

-- ---- all entries

module _ (ls : List Line) (streams : ℕ) {count : ℕ} (e : length ls ≡ count) {new : List ℕ} {r : RowsWritten} (w : WroteLines ls 0 count streams (replicate 30944 0) new r) where
  pub rows-counted : r.row ≡ length (all_rows streams ls)
  rows-counted = w.rows ∙ omega (arith, length-append (own_rows streams ls) (added_rows streams ls), length-own_rows streams ls)

  pub rows_written : new ≡ numbers_with (all_rows streams ls)
  rows_written =
      let at : count ≡ 0 + length (own_rows streams ls) = omega (arith, length-own_rows streams ls) in
      put-more (replicate 30944 0) 0 (own_rows streams ls) (added_rows streams ls) refl at w.table

  pub streams-added : streams ≤ r.stream
  streams-added = omega (arith, streams-more streams ls, w.streams)

  module _ (range : ℕ → Option Range) (spans : List ℕ) (room : ℕ) where
    pub made-short : {x : Made} → room < r.row → x ≡ refused_made 10 → x ≡ made_tables ls streams range spans room
    unfolding made_tables
    made-short h q = let c = rows-counted in q ∙ sym (simp (lt-ltb room (length (all_rows streams ls)) (omega arith)))

    pub made-whole : {ends : List ℤ} {numbers : List ℕ} → r.row ≤ room → numbers ≡ with_spans new spans → ends ≡ sets (replicate 8256 (pos 0)) 0 (ends_up_to range new r.row)
        → ◌≡◌ {A = Made} (record { answer = record { refusal = 0; entries = r.row; added = r.stream - streams }; numbers = numbers; ends = ends }) (made_tables ls streams range spans room)
    unfolding made_tables
    made-whole h p q =
        let c = rows-counted in
        let s = w.streams in
        (λ i. record {
          answer = record { refusal = 0; entries = c i; added = s i - streams };
          numbers = (p ∙ ap (λ t. with_spans t spans) rows_written) i;
          ends = (q ∙ (λ k. sets (replicate 8256 (pos 0)) 0 (ends_up_to range (rows_written k) (c k)))) i;
        })
        ∙ sym (simp (le-ltb room (length (all_rows streams ls)) (omega arith)))
