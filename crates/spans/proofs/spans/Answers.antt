-- `spans::spans` meets its contract.
use Prim.Native.Nat.{suc, ◌≤◌, ◌<◌}
use native.Mathlib.Omega.{arith}
use mathlib.Core.Path.{◌≡◌, sym, ap, ◌∙◌}
use lib.ListN.{length}
use Rattle.spans.specs.Spans.{constraints_to, constraints_offset, spans_in}
use Rattle.spans.specs.Stored.{span_bound, put_spans, no_spans}
use Rattle.spans.proofs.Tables.{table-few, table-many}
use Rattle.spans.proofs.Lines.{constraints_offset_lem, spans-long, spans-short}
use Rattle.spans.proofs.spans.Goals as goal

pub returns-then-text-gt65535 : goal.returns-then-text-gt65535
returns-then-text-gt65535 c =
    let text = c.args.text.now in
    let none = spans-long text c.if-text-gt65535.true in
    let few : length (spans_in text) ≤ span_bound = omega (arith, ap length none) in
    sym (table-few text few ∙ ap (put_spans no_spans 0) none)

pub constraints-count-requires : goal.constraints-count-requires
constraints-count-requires c =
    let text = c.args.text.now in
    record {
      short = omega (arith, c.if-text-gt65535.false);
      inside = c.header_of-header.ensures.constraints_within;
      few = omega arith;
    }

pub returns-then-count-gt1024 : goal.returns-then-count-gt1024
returns-then-count-gt1024 c =
    let begins : c.header_of-header.result.constraints ≡ constraints_offset c.args.text.now = constraints_offset_lem c.header_of-header.ensures in
    let text = c.args.text.now in
    let short : length text ≤ 65535 = omega (arith, c.if-text-gt65535.false) in
    let all = ap (constraints_to text (suc (length text))) (begins) ∙ sym (spans-short text short) in
    let many : span_bound < length (spans_in text) = omega (arith, c.constraints-count.ensures.0, ap length all, c.if-count-gt1024.true) in
    sym (table-many text many)

pub returns : goal.returns
returns c =
    let begins : c.header_of-header.result.constraints ≡ constraints_offset c.args.text.now = constraints_offset_lem c.header_of-header.ensures in
    let text = c.args.text.now in
    let short : length text ≤ 65535 = omega (arith, c.if-text-gt65535.false) in
    let all = ap (constraints_to text (suc (length text))) (begins) ∙ sym (spans-short text short) in
    let few : length (spans_in text) ≤ span_bound = omega (arith, c.constraints-count.ensures.0, ap length all, c.if-count-gt1024.false) in
    c.constraints-count.ensures.1 (omega (arith, c.if-count-gt1024.false)) ∙ ap (put_spans no_spans 0) all ∙ sym (table-few text few)
