-- `reader::read_lines` meets its contract: at each place where it ends, what was read of the lines decides the answer.
use Prim.Native.Nat.{ℕ, min}
use mathlib.Core.Path.{◌≡◌, ap, ◌∙◌, subst}
use mathlib.Core.Bool.{true, not, ◌&&◌}
use native.Mathlib.Omega.{arith}
use Rattle.text.specs.Bytes.{lines, tokens}
use Rattle.nodes.specs.Evaluate.{stored}
use Rattle.refusals.specs.Places.{said_tokens}
use Rattle.reader.specs.Constraints.{State, state}
use Rattle.header.specs.Streams.{StreamTables, stream_tables, StreamsOutcome, KindsOutcome}
use Rattle.lowest_refusal.specs.Tested.{form_refusal}
use Rattle.reader.proofs.Answers.{streams-few, no_streams-reading, no_stream-reading, LinesRead, form_refused, kinds_fill, held_sheet, held_reading}
use borrow.Author.Tests.{not-true, not-false}
use Rattle.reader.proofs.read_lines.Goals as goal

pub returns-then-not-streams : goal.returns-then-not-streams
returns-then-not-streams c =
    let tables-of : StreamTables = let arrays = c.read_header-header.result.arrays in stream_tables arrays.names arrays.lengths arrays.lows arrays.highs in
    let streams_read : let a = c.args in StreamsOutcome (tokens a.names_line.now) (tokens a.lows_line.now) (tokens a.highs_line.now) c.read_header-header.result.streams (tables-of) = c.read_header-header.ensures.streams c.requires.0 in
    let header = c in
    let a = c.args in
    c.refused.ensures ∙ no_streams-reading a.floors (said_tokens (tokens a.kinds_line.now)) (lines a.text.now) (streams_read) (not-true _ c.if-not-streams.true)

pub returns-then-streams-eq0 : goal.returns-then-streams-eq0
returns-then-streams-eq0 c =
    let tables-of : StreamTables = let arrays = c.read_header-header.result.arrays in stream_tables arrays.names arrays.lengths arrays.lows arrays.highs in
    let streams_read : let a = c.args in StreamsOutcome (tokens a.names_line.now) (tokens a.lows_line.now) (tokens a.highs_line.now) c.read_header-header.result.streams (tables-of) = c.read_header-header.ensures.streams c.requires.0 in
    let header = c in
    let a = c.args in
    c.refused-then-streams-eq0.ensures ∙ no_stream-reading (streams_read) (not-false _ c.if-not-streams.false) a.floors (said_tokens (tokens a.kinds_line.now)) (lines a.text.now) c.if-streams-eq0.true

pub returns-then-refusal-ne0 : goal.returns-then-refusal-ne0
returns-then-refusal-ne0 c =
    let tables-of : StreamTables = let arrays = c.read_header-header.result.arrays in stream_tables arrays.names arrays.lengths arrays.lows arrays.highs in
    let streams_read : let a = c.args in StreamsOutcome (tokens a.names_line.now) (tokens a.lows_line.now) (tokens a.highs_line.now) c.read_header-header.result.streams (tables-of) = c.read_header-header.ensures.streams c.requires.0 in
    let constraints-of : State = (let read = c.read_constraints-constraints in
    state (stored read.new.kinds read.new.values read.new.starts) read.new.relations read.new.lefts read.new.rights read.result) in
    let some-streams : c.read_header-header.result.streams.ok ≡ true = (not-false _ c.if-not-streams.false) in
    let kinds-read : let read = c.read_header-header.result in KindsOutcome (tokens c.args.kinds_line.now) read.streams.count read.said read.arrays.stream_kinds = (let read = c.read_header-header.result in
    let few = streams-few (streams_read) (some-streams) c.requires.0 in
    let all : min read.streams.count 8 ≡ read.streams.count = omega (arith, few) in
    subst (λ (n : ℕ). KindsOutcome (tokens c.args.kinds_line.now) n read.said read.arrays.stream_kinds) all (c.read_header-header.ensures.kinds c.requires.0)) in
    let lines-read : let read = c.read_header-header.result in LinesRead c.args.names_line.now c.args.lows_line.now c.args.highs_line.now c.args.kinds_line.now c.args.text.now read.streams (tables-of) read.said read.arrays.stream_kinds (constraints-of) c.form_refusal-refusal.result = (record {
      few = c.requires;
      streams = streams_read;
      ok = some-streams;
      some_stream = c.if-streams-eq0.false;
      stream_kinds = kinds-read;
      constraints = c.read_constraints-constraints.ensures;
      judged = c.form_refusal-refusal.ensures ∙ ap (form_refusal (not (c.read_header-header.result.said && c.read_constraints-constraints.result.ok))) c.names_refused.ensures;
    }) in
    c.refused-then-refusal-ne0.ensures ∙ form_refused (lines-read) c.args.floors c.if-refusal-ne0.true

pub restate-requires : goal.restate-requires
restate-requires c =
    let tables-of : StreamTables = let arrays = c.read_header-header.result.arrays in stream_tables arrays.names arrays.lengths arrays.lows arrays.highs in
    let streams_read : let a = c.args in StreamsOutcome (tokens a.names_line.now) (tokens a.lows_line.now) (tokens a.highs_line.now) c.read_header-header.result.streams (tables-of) = c.read_header-header.ensures.streams c.requires.0 in
    let constraints-of : State = (let read = c.read_constraints-constraints in
    state (stored read.new.kinds read.new.values read.new.starts) read.new.relations read.new.lefts read.new.rights read.result) in
    let some-streams : c.read_header-header.result.streams.ok ≡ true = (not-false _ c.if-not-streams.false) in
    let kinds-read : let read = c.read_header-header.result in KindsOutcome (tokens c.args.kinds_line.now) read.streams.count read.said read.arrays.stream_kinds = (let read = c.read_header-header.result in
    let few = streams-few (streams_read) (some-streams) c.requires.0 in
    let all : min read.streams.count 8 ≡ read.streams.count = omega (arith, few) in
    subst (λ (n : ℕ). KindsOutcome (tokens c.args.kinds_line.now) n read.said read.arrays.stream_kinds) all (c.read_header-header.ensures.kinds c.requires.0)) in
    let lines-read : let read = c.read_header-header.result in LinesRead c.args.names_line.now c.args.lows_line.now c.args.highs_line.now c.args.kinds_line.now c.args.text.now read.streams (tables-of) read.said read.arrays.stream_kinds (constraints-of) c.form_refusal-refusal.result = (record {
      few = c.requires;
      streams = streams_read;
      ok = some-streams;
      some_stream = c.if-streams-eq0.false;
      stream_kinds = kinds-read;
      constraints = c.read_constraints-constraints.ensures;
      judged = c.form_refusal-refusal.ensures ∙ ap (form_refusal (not (c.read_header-header.result.said && c.read_constraints-constraints.result.ok))) c.names_refused.ensures;
    }) in
    kinds_fill (lines-read) c.args.floors c.if-refusal-ne0.false

pub store_sheet-requires : goal.store_sheet-requires
store_sheet-requires c =
    let tables-of : StreamTables = let arrays = c.read_header-header.result.arrays in stream_tables arrays.names arrays.lengths arrays.lows arrays.highs in
    let streams_read : let a = c.args in StreamsOutcome (tokens a.names_line.now) (tokens a.lows_line.now) (tokens a.highs_line.now) c.read_header-header.result.streams (tables-of) = c.read_header-header.ensures.streams c.requires.0 in
    let constraints-of : State = (let read = c.read_constraints-constraints in
    state (stored read.new.kinds read.new.values read.new.starts) read.new.relations read.new.lefts read.new.rights read.result) in
    let some-streams : c.read_header-header.result.streams.ok ≡ true = (not-false _ c.if-not-streams.false) in
    let kinds-read : let read = c.read_header-header.result in KindsOutcome (tokens c.args.kinds_line.now) read.streams.count read.said read.arrays.stream_kinds = (let read = c.read_header-header.result in
    let few = streams-few (streams_read) (some-streams) c.requires.0 in
    let all : min read.streams.count 8 ≡ read.streams.count = omega (arith, few) in
    subst (λ (n : ℕ). KindsOutcome (tokens c.args.kinds_line.now) n read.said read.arrays.stream_kinds) all (c.read_header-header.ensures.kinds c.requires.0)) in
    let lines-read : let read = c.read_header-header.result in LinesRead c.args.names_line.now c.args.lows_line.now c.args.highs_line.now c.args.kinds_line.now c.args.text.now read.streams (tables-of) read.said read.arrays.stream_kinds (constraints-of) c.form_refusal-refusal.result = (record {
      few = c.requires;
      streams = streams_read;
      ok = some-streams;
      some_stream = c.if-streams-eq0.false;
      stream_kinds = kinds-read;
      constraints = c.read_constraints-constraints.ensures;
      judged = c.form_refusal-refusal.ensures ∙ ap (form_refusal (not (c.read_header-header.result.said && c.read_constraints-constraints.result.ok))) c.names_refused.ensures;
    }) in
    held_sheet (lines-read) c.args.floors c.if-refusal-ne0.false c.restate.ensures

pub returns : goal.returns
returns c =
    let tables-of : StreamTables = let arrays = c.read_header-header.result.arrays in stream_tables arrays.names arrays.lengths arrays.lows arrays.highs in
    let streams_read : let a = c.args in StreamsOutcome (tokens a.names_line.now) (tokens a.lows_line.now) (tokens a.highs_line.now) c.read_header-header.result.streams (tables-of) = c.read_header-header.ensures.streams c.requires.0 in
    let constraints-of : State = (let read = c.read_constraints-constraints in
    state (stored read.new.kinds read.new.values read.new.starts) read.new.relations read.new.lefts read.new.rights read.result) in
    let some-streams : c.read_header-header.result.streams.ok ≡ true = (not-false _ c.if-not-streams.false) in
    let kinds-read : let read = c.read_header-header.result in KindsOutcome (tokens c.args.kinds_line.now) read.streams.count read.said read.arrays.stream_kinds = (let read = c.read_header-header.result in
    let few = streams-few (streams_read) (some-streams) c.requires.0 in
    let all : min read.streams.count 8 ≡ read.streams.count = omega (arith, few) in
    subst (λ (n : ℕ). KindsOutcome (tokens c.args.kinds_line.now) n read.said read.arrays.stream_kinds) all (c.read_header-header.ensures.kinds c.requires.0)) in
    let lines-read : let read = c.read_header-header.result in LinesRead c.args.names_line.now c.args.lows_line.now c.args.highs_line.now c.args.kinds_line.now c.args.text.now read.streams (tables-of) read.said read.arrays.stream_kinds (constraints-of) c.form_refusal-refusal.result = (record {
      few = c.requires;
      streams = streams_read;
      ok = some-streams;
      some_stream = c.if-streams-eq0.false;
      stream_kinds = kinds-read;
      constraints = c.read_constraints-constraints.ensures;
      judged = c.form_refusal-refusal.ensures ∙ ap (form_refusal (not (c.read_header-header.result.said && c.read_constraints-constraints.result.ok))) c.names_refused.ensures;
    }) in
    let read = c in
    held_reading (lines-read) c.args.floors c.if-refusal-ne0.false c.restate.ensures c.store_sheet.ensures
