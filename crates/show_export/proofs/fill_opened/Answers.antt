-- `show_export::fill_opened` meets its contract: the line of the refusal, or the header of the used rows with the checksum of the text (Opened).
use native.Mathlib.Omega.{arith}
use mathlib.Core.Path.{sym}
use lib.ListN.{take}
use lib.Seq.{length-take-le}
use Rattle.print.proofs.Append.{appends_same}
use Rattle.opening.proofs.Sizes.{opened-sizes}
use Rattle.export_text.specs.Export.{export_text}
use Rattle.export_text.specs.Described.{described_export}
use Rattle.show_export.proofs.Opened.{refusal-filled, header_filled}
use Rattle.show_export.proofs.fill_opened.Goals as goal

pub checksum-checksum-requires : goal.checksum-checksum-requires
checksum-checksum-requires c = tt

pub refusal_line-requires : goal.refusal_line-requires
refusal_line-requires c = tt

pub returns-then-table-ne0 : goal.returns-then-table-ne0
returns-then-table-ne0 c =
    let s = c in
    refusal-filled s.requires.1 s.requires.0 c.if-table-ne0.true (omega (arith, c.struct_known-1.given)) c.refusal_line.ensures

pub used_rows-rows-requires : goal.used_rows-rows-requires
used_rows-rows-requires c = tt

pub used_entries-used-requires : goal.used_entries-used-requires
used_entries-used-requires c = tt

pub stored_streams-requires : goal.stored_streams-requires
stored_streams-requires c = tt

pub slice_bounds-fill-end : goal.slice_bounds-fill-end
slice_bounds-fill-end c = sym (length-take-le _ _ (omega (arith, c.used_entries-used.ensures, (opened-sizes c.requires.0).0)))

pub slice_bounds-fill-end-2 : goal.slice_bounds-fill-end-2
slice_bounds-fill-end-2 c = sym (length-take-le _ _ (omega (arith, c.used_rows-rows.ensures, (opened-sizes c.requires.0).1)))

pub fill-requires : goal.fill-requires
fill-requires c = tt

pub returns : goal.returns
returns c =
    let s = c in
    let a = s.args in
    let streams = c.stored_streams.ensures in
    let used = c.used_entries-used.ensures in
    let rows = c.used_rows-rows.ensures in
    let checksum = c.checksum-checksum in
    header_filled s.requires.1 s.requires.0 c.if-table-ne0.false checksum.ensures (omega (arith, checksum.type_inv)) (λ i. omega (arith, c.type_inv.finals i)) (appends_same c.fill.ensures (λ i. export_text (described_export (streams i) a.table.sheet.letters checksum.result (take (used i) a.entries.now) (take (rows i) a.finals.now))))
