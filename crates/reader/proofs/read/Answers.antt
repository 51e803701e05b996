-- `reader::read` meets its contract: the tests of the bytes and lines decide, and then the header lines and constraint lines.
use mathlib.Core.Path.{sym, ◌∙◌}
use Rattle.reader.proofs.TextAnswer.{bytes-reading, lines-reading, HeaderKnown, header_reading, whole_reading, lines_few}
use borrow.Author.Tests.{not-true, not-false}
use Rattle.reader.proofs.read.Goals as goal

pub returns-then-bytes_refused : goal.returns-then-bytes_refused
returns-then-bytes_refused c = c.refused.ensures ∙ bytes-reading _ (sym c.bytes_refused.ensures ∙ c.if-bytes_refused.true)

pub returns-then-lines_refused : goal.returns-then-lines_refused
returns-then-lines_refused c = c.refused-then-lines_refused.ensures ∙ lines-reading _ (sym c.bytes_refused.ensures ∙ c.if-bytes_refused.false) (sym c.lines_refused.ensures ∙ c.if-lines_refused.true)

pub returns-then-not-header : goal.returns-then-not-header
returns-then-not-header c =
    let known : HeaderKnown c.args.text.now c.header_of-header.result = (record {
      bytes = sym c.bytes_refused.ensures ∙ c.if-bytes_refused.false;
      counted = sym c.lines_refused.ensures ∙ c.if-lines_refused.false;
      places = c.header_of-header.ensures;
    }) in
    c.refused-then-not-header.ensures ∙ header_reading (known) (not-true _ c.if-not-header.true)

pub read_lines-requires : goal.read_lines-requires
read_lines-requires c =
    let known : HeaderKnown c.args.text.now c.header_of-header.result = (record {
      bytes = sym c.bytes_refused.ensures ∙ c.if-bytes_refused.false;
      counted = sym c.lines_refused.ensures ∙ c.if-lines_refused.false;
      places = c.header_of-header.ensures;
    }) in
    lines_few (known)

pub returns : goal.returns
returns c =
    let known : HeaderKnown c.args.text.now c.header_of-header.result = (record {
      bytes = sym c.bytes_refused.ensures ∙ c.if-bytes_refused.false;
      counted = sym c.lines_refused.ensures ∙ c.if-lines_refused.false;
      places = c.header_of-header.ensures;
    }) in
    c.read_lines.ensures ∙ whole_reading (known) (not-false _ c.if-not-header.false)
