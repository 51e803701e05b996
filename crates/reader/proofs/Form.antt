-- The sheet that header lines and constraint lines have the form of, from what was read of them. "Form" is document 01's term.
use Prim.Native.Nat.{ℕ}
use mathlib.Core.Path.{◌≡◌, refl, sym, ap, subst, ◌∙◌}
use mathlib.Core.Bool.{Bool, true, false, cond, ◌&&◌}
use mathlib.Core.List.{List, [], ◌∷◌}
use mathlib.Core.Option.{Option, some, none, none-ne-some, some-injective}
use native.Mathlib.Omega.{arith}
use lib.Dec.{T}
use lib.IntN.{pos}
use lib.ListN.{length, replicate}
use Rattle.nodes.specs.Evaluate.{stored}
use Rattle.text.specs.Bytes.{Token}
use Rattle.text.specs.Token.{is_name, is_integer}
use Rattle.meaning.specs.Expression.{Constraint, StreamKind, Stream, Sheet}
use Rattle.sheet.specs.Release.{meant_constraints}
use Rattle.sheet.specs.Form.{names_of}
use Rattle.sheet.specs.Parser.{and_then}
use Rattle.sheet.specs.Reading.{stream_from, streams_from, kinds_of_streams, with_kinds, constraints_of, sheet_from, form_of_lines}
use Rattle.sheet.proofs.Form.{with_kinds-map, kinds_of_streams-sound}
use Rattle.sheet.proofs.Parser.{and_then-some}
use Rattle.refusals.specs.Places.{said_tokens}
use Rattle.reader.specs.Constraints.{State, state, counts, read_all, ConstraintsOutcome}
use Rattle.reader.specs.Constraints as constraints
use Rattle.header.specs.Streams.{padded, stream_kind_codes, StreamTables, stream_tables_of, streams_read, StreamsOutcome, KindsOutcome, no_kinds, kinds_read}
use Rattle.header.specs.Streams as streams
use Rattle.header.specs.declared.StreamsRead.{StreamsRead}
use Rattle.header.proofs.StreamKinds.{kinds-streams_read, kinds-tables, kinds_codes}
use Rattle.reader.proofs.Stored.{with_all, read_all-constraints}
use Rattle.reader.proofs.Counts.{with_all_counts}

-- ---- header lines

pub record StreamsFound (names lows highs : List Token) (r : StreamsRead) (tables : StreamTables) : Type 0 where
  pub all : List Stream
  pub form : streams_from names lows highs ≡ some all
  pub gives : r ≡ streams_read all
  pub stored : tables ≡ stream_tables_of all

pub streams-found : {names lows highs : List Token} {r : StreamsRead} {tables : StreamTables} → StreamsOutcome names lows highs r tables → r.ok ≡ true → StreamsFound names lows highs r tables
streams-found (streams.no_form p e) h = absurd (subst T (sym h ∙ e) tt)
streams-found (streams.are_read ss p e t) h = record { all = ss; form = p; gives = e; stored = t }

pub streams-missing : {names lows highs : List Token} {r : StreamsRead} {tables : StreamTables} → StreamsOutcome names lows highs r tables → r.ok ≡ false → streams_from names lows highs ≡ none
streams-missing (streams.no_form p e) h = p
streams-missing (streams.are_read ss p e t) h = absurd (subst T (sym (ap (λ z. z.ok) e) ∙ h) tt)

pub streams-names : (ns ls hs : List Token) {ss : List Stream} → streams_from ns ls hs ≡ some ss → names_of ss ≡ ns
unfolding streams_from
streams-names [] [] [] {ss} e = ap names_of (sym (some-injective [] ss e))
streams-names [] [] (h ∷ hs) {ss} e = absurd (none-ne-some ss e)
streams-names [] (l ∷ ls) hs {ss} e = absurd (none-ne-some ss e)
streams-names (n ∷ ns) [] hs {ss} e = absurd (none-ne-some ss e)
streams-names (n ∷ ns) (l ∷ ls) [] {ss} e = absurd (none-ne-some ss e)
streams-names (n ∷ ns) (l ∷ ls) (h ∷ hs) {ss} e = by (is_name n && is_integer l && is_integer h) (λ us q. streams-names ns ls hs q) e
  where
    by : (b : Bool) → ((us : List Stream) → streams_from ns ls hs ≡ some us → names_of us ≡ ns) → cond b (and_then (streams_from ns ls hs) (λ us. some (stream_from n l h ∷ us))) none ≡ some ss → names_of ss ≡ n ∷ ns
    by true more q =
        let (us, read, done) = and_then-some (streams_from ns ls hs) (λ us. some (stream_from n l h ∷ us)) q in
        ap names_of (sym (some-injective (stream_from n l h ∷ us) ss done)) ∙ ap (λ t. n ∷ t) (more us read)
    by false more q = absurd (none-ne-some ss q)

-- ---- constraint lines

-- Empty tables.
abbrev pub no_constraints : State
no_constraints = state (stored (replicate 1024 0) (replicate 1024 (pos 0)) (replicate 1024 0)) (replicate 32 0) (replicate 32 0) (replicate 32 0) (counts 0 0 0 0 false)

pub record ConstraintsFound (names : List Token) (ls : List (List ℕ)) (old new : State) : Type 0 where
  pub all : List Constraint
  pub form : constraints_of names ls ≡ some all
  pub stored : new ≡ with_all old all

pub constraints-found : {names : List Token} {ls : List (List ℕ)} {old new : State} → ConstraintsOutcome names ls old new → new.counts.ok ≡ true → ConstraintsFound names ls old new
constraints-found (constraints.no_form p e) h = absurd (subst T (sym h ∙ e) tt)
constraints-found {names} {ls} {old} {new} (constraints.are_read p) h =
    let (cs, read, done) = and_then-some (constraints_of names ls) (λ cs. some (with_all old cs)) (sym (read_all-constraints names old ls) ∙ p) in
    record { all = cs; form = read; stored = sym (some-injective (with_all old cs) new done) }

module _ (names : List Token) (ls : List (List ℕ)) (old : State) where
  no_constraints_lem : read_all names old ls ≡ none → constraints_of names ls ≡ none
  no_constraints_lem p = by (constraints_of names ls) (sym (read_all-constraints names old ls) ∙ p)
    where
      by : (o : Option (List Constraint)) → and_then o (λ cs. some (with_all old cs)) ≡ none → o ≡ none
      by none e = refl
      by (some cs) e = absurd (none-ne-some (with_all old cs) (sym e))

-- What is read of lines that begin with counts of no fault has none.
pub constraints-missing : {names : List Token} {ls : List (List ℕ)} {old new : State} → ConstraintsOutcome names ls old new → old.counts.ok ≡ true → new.counts.ok ≡ false → constraints_of names ls ≡ none
constraints-missing {names} {ls} {old} {new} (constraints.no_form p e) o h = no_constraints_lem names ls old p
constraints-missing {names} {ls} {old} {new} (constraints.are_read p) o h =
    let (cs, read, done) = and_then-some (constraints_of names ls) (λ cs. some (with_all old cs)) (sym (read_all-constraints names old ls) ∙ p) in
    absurd (subst T (sym (with_all_ok old cs o) ∙ ap (λ s. s.counts.ok) (some-injective (with_all old cs) new done) ∙ h) tt)
  where
    with_all_ok : (s : State) (cs : List Constraint) → s.counts.ok ≡ true → (with_all s cs).counts.ok ≡ true
    with_all_ok s cs o = ap (λ k. k.ok) (with_all_counts s cs o)

-- ---- the sheet

-- What is made of the streams of the three header lines: their kinds, and the sheet.
abbrev with_rest : Bool → Option (List Token) → List (List ℕ) → List Stream → Option Sheet
with_rest floors said ls ss = and_then (kinds_of_streams said (length ss)) (λ ks. sheet_from floors ls (with_kinds ks ss))

pub form-no_streams : {names lows highs : List Token} {r : StreamsRead} {tables : StreamTables} (floors : Bool) (said : Option (List Token)) (ls : List (List ℕ)) → StreamsOutcome names lows highs r tables → r.ok ≡ false
    → form_of_lines floors names lows highs said ls ≡ none
form-no_streams floors said ls o h = ap (λ x. and_then x (with_rest floors said ls)) (streams-missing o h)

sheet-empty : (floors : Bool) (said : Option (List Token)) (ls : List (List ℕ)) (ss : List Stream) → length ss ≡ 0 → with_rest floors said ls ss ≡ none
sheet-empty floors said ls [] h = by (kinds_of_streams said 0)
  where
    by : (o : Option (List StreamKind)) → and_then o (λ ks. sheet_from floors ls (with_kinds ks [])) ≡ none
    by none = refl
    by (some []) = refl
    by (some (k ∷ ks)) = refl
sheet-empty floors said ls (s ∷ ss) h = absurd (omega arith)

sheet-from : (floors : Bool) (ls : List (List ℕ)) (ss : List Stream) → (length ss ≡ 0 → ⊥) → sheet_from floors ls ss ≡ and_then (constraints_of (names_of ss) ls) (λ cs. some (record { streams = ss; constraints = meant_constraints floors cs }))
sheet-from floors ls [] h = absurd (h refl)
sheet-from floors ls (s ∷ ss) h = refl

module _ {names lows highs : List Token} {r : StreamsRead} {tables : StreamTables} (f : StreamsFound names lows highs r tables) where
  pub found-count : r.count ≡ length f.all
  found-count = ap (λ x. x.count) f.gives

  pub form-empty : (floors : Bool) (said : Option (List Token)) (ls : List (List ℕ)) → r.count ≡ 0 → form_of_lines floors names lows highs said ls ≡ none
  form-empty floors said ls h = ap (λ o. and_then o (with_rest floors said ls)) f.form ∙ sheet-empty floors said ls f.all (sym found-count ∙ h)

  pub form-no_kinds : {kinds : List Token} {ok : Bool} {table : List ℕ} (floors : Bool) (ls : List (List ℕ)) → KindsOutcome kinds r.count ok table → ok ≡ false → form_of_lines floors names lows highs (said_tokens kinds) ls ≡ none
  form-no_kinds {kinds} floors ls (no_kinds p e) h =
      ap (λ o. and_then o (with_rest floors (said_tokens kinds) ls)) f.form
      ∙ ap (λ n. and_then (kinds_of_streams (said_tokens kinds) n) (λ ks. sheet_from floors ls (with_kinds ks f.all))) (sym found-count)
      ∙ ap (λ o. and_then o (λ ks. sheet_from floors ls (with_kinds ks f.all))) p
  form-no_kinds {kinds} floors ls (kinds_read ks p e t) h = absurd (subst T (sym e ∙ h) tt)

-- The streams with their kinds, and that the tables hold them.
pub record HeaderFound (names lows highs kinds : List Token) (r : StreamsRead) (tables : StreamTables) (kind_table : List ℕ) : Type 0 where
  pub all : List Stream
  pub form : (floors : Bool) (ls : List (List ℕ)) → form_of_lines floors names lows highs (said_tokens kinds) ls ≡ sheet_from floors ls all
  pub names_are : names_of all ≡ names
  pub gives : r ≡ streams_read all
  pub stored : tables ≡ stream_tables_of all
  pub kinds_stored : kind_table ≡ padded 8 0 (stream_kind_codes all)

pub header_found : {names lows highs kinds : List Token} {r : StreamsRead} {tables : StreamTables} {ok : Bool} {kind_table : List ℕ} → StreamsFound names lows highs r tables → KindsOutcome kinds r.count ok kind_table → ok ≡ true
    → HeaderFound names lows highs kinds r tables kind_table
header_found f (no_kinds p e) h = absurd (subst T (sym h ∙ e) tt)
header_found {names} {lows} {highs} {kinds} f (kinds_read ks p e t) h =
    let ss = f.all in
    let said : kinds_of_streams (said_tokens kinds) (length ss) ≡ some ks = ap (kinds_of_streams (said_tokens kinds)) (sym (found-count f)) ∙ p in
    let each : length ks ≡ length ss = (kinds_of_streams-sound (said_tokens kinds) (length ss) ks said).1 in
    record {
      all = with_kinds ks ss;
      form = λ floors ls. ap (λ o. and_then o (with_rest floors (said_tokens kinds) ls)) f.form ∙ ap (λ o. and_then o (λ js. sheet_from floors ls (with_kinds js ss))) said;
      names_are = with_kinds-map (λ x. x.name) (λ k s. refl) ks ss ∙ streams-names names lows highs f.form;
      gives = f.gives ∙ kinds-streams_read ks ss;
      stored = f.stored ∙ kinds-tables ks ss;
      kinds_stored = t ∙ ap (padded 8 0) (kinds_codes ks ss each);
    }

module _ {names lows highs kinds : List Token} {r : StreamsRead} {tables : StreamTables} {kind_table : List ℕ} (f : HeaderFound names lows highs kinds r tables kind_table) (some_stream : r.count ≡ 0 → ⊥) (floors : Bool) where
  form-streams : (ls : List (List ℕ)) → form_of_lines floors names lows highs (said_tokens kinds) ls ≡ and_then (constraints_of names ls) (λ cs. some (record { streams = f.all; constraints = meant_constraints floors cs }))
  form-streams ls =
      f.form floors ls ∙ sheet-from floors ls f.all (λ e. some_stream (ap (λ x. x.count) f.gives ∙ e))
      ∙ ap (λ n. and_then (constraints_of n ls) (λ cs. some (record { streams = f.all; constraints = meant_constraints floors cs }))) f.names_are

  pub form-no_constraints : {ls : List (List ℕ)} {old new : State} → ConstraintsOutcome names ls old new → old.counts.ok ≡ true → new.counts.ok ≡ false → form_of_lines floors names lows highs (said_tokens kinds) ls ≡ none
  form-no_constraints {ls} o h k = form-streams ls ∙ ap (λ x. and_then x (λ cs. some (record { streams = f.all; constraints = meant_constraints floors cs }))) (constraints-missing o h k)

  pub form-sheet : {ls : List (List ℕ)} {old new : State} (k : ConstraintsFound names ls old new) → form_of_lines floors names lows highs (said_tokens kinds) ls ≡ some (record { streams = f.all; constraints = meant_constraints floors k.all })
  form-sheet {ls} k = form-streams ls ∙ ap (λ x. and_then x (λ cs. some (record { streams = f.all; constraints = meant_constraints floors cs }))) k.form
