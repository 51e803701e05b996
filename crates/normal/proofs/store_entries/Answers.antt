-- `normal::store_entries` meets its contract: a refusal of the reader is passed on, and the lists of a stored sheet are made into tables. From
-- `StoredReading`.
use Rattle.normal.proofs.StoredReading.{cut-length, reading_refused, reading_sheet, read_holding, read_asked, read_made}
use Rattle.normal.proofs.store_entries.Goals as goal
use mathlib.Core.Path.{ap}
use Rattle.normal_entries.specs.declared.Made.{Made}
use Rattle.normal.proofs.Lines.{refusal-put}

pub returns-then-reading-ne0 : goal.returns-then-reading-ne0
returns-then-reading-ne0 c =
    let s = c in
    reading_refused s.args.text.now c.read-reading.ensures c.if-reading-ne0.true s.args.room (refusal-put c.requires c.refused_answer-made.ensures (ap (λ (m : Made). m.numbers) c.requires))

pub slice_bounds-kinds-end : goal.slice_bounds-kinds-end
slice_bounds-kinds-end c =
    let s = c in
    let read = c.read-reading in
    let got = reading_sheet s.args.text.now read.ensures c.if-reading-ne0.false in
    (read_holding got).kinds

pub slice_bounds-make-end : goal.slice_bounds-make-end
slice_bounds-make-end c =
    let s = c in
    let read = c.read-reading in
    let got = reading_sheet s.args.text.now read.ensures c.if-reading-ne0.false in
    cut-length read.result.sheet.nodes read.result.sheet.kinds (read_holding got).kinds

pub slice_bounds-values-end : goal.slice_bounds-values-end
slice_bounds-values-end c =
    let s = c in
    let read = c.read-reading in
    let got = reading_sheet s.args.text.now read.ensures c.if-reading-ne0.false in
    (read_holding got).values

pub slice_bounds-make-end-2 : goal.slice_bounds-make-end-2
slice_bounds-make-end-2 c =
    let s = c in
    let read = c.read-reading in
    let got = reading_sheet s.args.text.now read.ensures c.if-reading-ne0.false in
    cut-length read.result.sheet.nodes read.result.sheet.values (read_holding got).values

pub slice_bounds-starts-end : goal.slice_bounds-starts-end
slice_bounds-starts-end c =
    let s = c in
    let read = c.read-reading in
    let got = reading_sheet s.args.text.now read.ensures c.if-reading-ne0.false in
    (read_holding got).starts

pub slice_bounds-make-end-3 : goal.slice_bounds-make-end-3
slice_bounds-make-end-3 c =
    let s = c in
    let read = c.read-reading in
    let got = reading_sheet s.args.text.now read.ensures c.if-reading-ne0.false in
    cut-length read.result.sheet.nodes read.result.sheet.starts (read_holding got).starts

pub slice_bounds-lows-end : goal.slice_bounds-lows-end
slice_bounds-lows-end c =
    let s = c in
    let read = c.read-reading in
    let got = reading_sheet s.args.text.now read.ensures c.if-reading-ne0.false in
    (read_holding got).lows

pub slice_bounds-make-end-4 : goal.slice_bounds-make-end-4
slice_bounds-make-end-4 c =
    let s = c in
    let read = c.read-reading in
    let got = reading_sheet s.args.text.now read.ensures c.if-reading-ne0.false in
    cut-length read.result.sheet.streams read.result.sheet.lows (read_holding got).lows

pub slice_bounds-highs-end : goal.slice_bounds-highs-end
slice_bounds-highs-end c =
    let s = c in
    let read = c.read-reading in
    let got = reading_sheet s.args.text.now read.ensures c.if-reading-ne0.false in
    (read_holding got).highs

pub slice_bounds-make-end-5 : goal.slice_bounds-make-end-5
slice_bounds-make-end-5 c =
    let s = c in
    let read = c.read-reading in
    let got = reading_sheet s.args.text.now read.ensures c.if-reading-ne0.false in
    cut-length read.result.sheet.streams read.result.sheet.highs (read_holding got).highs

pub slice_bounds-relations-end : goal.slice_bounds-relations-end
slice_bounds-relations-end c =
    let s = c in
    let read = c.read-reading in
    let got = reading_sheet s.args.text.now read.ensures c.if-reading-ne0.false in
    (read_holding got).relations

pub slice_bounds-make-end-6 : goal.slice_bounds-make-end-6
slice_bounds-make-end-6 c =
    let s = c in
    let read = c.read-reading in
    let got = reading_sheet s.args.text.now read.ensures c.if-reading-ne0.false in
    cut-length read.result.sheet.constraints read.result.sheet.relations (read_holding got).relations

pub slice_bounds-lefts-end : goal.slice_bounds-lefts-end
slice_bounds-lefts-end c =
    let s = c in
    let read = c.read-reading in
    let got = reading_sheet s.args.text.now read.ensures c.if-reading-ne0.false in
    (read_holding got).lefts

pub slice_bounds-make-end-7 : goal.slice_bounds-make-end-7
slice_bounds-make-end-7 c =
    let s = c in
    let read = c.read-reading in
    let got = reading_sheet s.args.text.now read.ensures c.if-reading-ne0.false in
    cut-length read.result.sheet.constraints read.result.sheet.lefts (read_holding got).lefts

pub slice_bounds-rights-end : goal.slice_bounds-rights-end
slice_bounds-rights-end c =
    let s = c in
    let read = c.read-reading in
    let got = reading_sheet s.args.text.now read.ensures c.if-reading-ne0.false in
    (read_holding got).rights

pub slice_bounds-make-end-8 : goal.slice_bounds-make-end-8
slice_bounds-make-end-8 c =
    let s = c in
    let read = c.read-reading in
    let got = reading_sheet s.args.text.now read.ensures c.if-reading-ne0.false in
    cut-length read.result.sheet.constraints read.result.sheet.rights (read_holding got).rights

pub make-requires : goal.make-requires
make-requires c =
    let s = c in
    let read = c.read-reading in
    let got = reading_sheet s.args.text.now read.ensures c.if-reading-ne0.false in
    let asked = read_asked got in
    record { has_lines = asked.0; lines_have_room = asked.1; zeros = c.requires }

pub returns : goal.returns
returns c =
    let s = c in
    let read = c.read-reading in
    let got = reading_sheet s.args.text.now read.ensures c.if-reading-ne0.false in
    read_made got s.args.text.now s.args.room c.spans-spans.ensures c.make.ensures
