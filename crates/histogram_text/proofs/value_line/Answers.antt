-- `histogram_text::value_line` meets its contract: nothing, or the stream's name with the value and its lines (Output).
use Prim.Native.Nat.{◌+◌, ◌-◌}
use native.Mathlib.Omega.{arith}
use mathlib.Core.Path.{◌≡◌, refl, sym, ◌∙◌}
use lib.IntN.{pos}
use lib.ListN.{length, replicate}
use lib.Seq.{length-take-le}
use Rattle.print.proofs.Append.{appends_nothing, appends_same}
use Rattle.held_lines.proofs.Streams.{one-stream}
use Rattle.histogram_text.proofs.Output.{no_value, value_there}
use Rattle.histogram_text.proofs.value_line.Goals as goal

pub returns-then-not-letter_values : goal.returns-then-not-letter_values
returns-then-not-letter_values c =
    let a = c.args in
    let one : a.stream + 1 - a.stream ≡ 1 = omega arith in
    λ refusal total.
    appends_same (appends_nothing (omega arith))
    (no_value (record { refusal = refusal; total = total; names = a.names.now; lengths = a.lengths.now; lows = a.lows.now; highs = a.highs.now; counts = a.counts.now }) a.stream a.digit (one-stream a.lows.now a.highs.now a.stream _ one)
    (sym c.letter_values.ensures.0 ∙ c.if-not-letter_values.true))

pub slice_bounds-values-end : goal.slice_bounds-values-end
slice_bounds-values-end c = let k : length c.letter_values.new.out ≡ 8 = c.letter_values.auto.out in omega arith

pub slice_bounds-named_line-end : goal.slice_bounds-named_line-end
slice_bounds-named_line-end c = sym (length-take-le 1 c.letter_values.new.out (let k : length c.letter_values.new.out ≡ 8 = c.letter_values.auto.out in omega arith))

pub returns : goal.returns
returns c =
    let a = c.args in
    let one : a.stream + 1 - a.stream ≡ 1 = omega arith in
    λ refusal total.
    appends_same c.named_line.ensures
    (value_there (record { refusal = refusal; total = total; names = a.names.now; lengths = a.lengths.now; lows = a.lows.now; highs = a.highs.now; counts = a.counts.now }) a.stream a.digit (one-stream a.lows.now a.highs.now a.stream _ one)
    (sym c.letter_values.ensures.0 ∙ c.if-not-letter_values.false) c.requires (replicate 8 (pos 0)) refl c.letter_values.ensures.1 c.held_lines-held.ensures c.name_in-name.ensures)
