-- `table_text::entry_text` meets its contract: nothing, or the line of the entry (Places).
use native.Mathlib.Nat.{mod-lt}
use native.Mathlib.Omega.{arith}
use mathlib.Core.Path.{◌≡◌, refl, sym, ◌∙◌}
use lib.IntN.{pos}
use lib.ListN.{length, replicate}
use lib.Seq.{length-take-le}
use Rattle.letters.proofs.Counts.{length-described}
use Rattle.print.proofs.Append.{appends_nothing, appends_same}
use Rattle.table_text.proofs.Places.{nothing-there, nothing-beyond, no_letters, no_values, few_streams, line-there}
use Rattle.table_text.proofs.entry_text.Goals as goal

pub returns-then-entries-place : goal.returns-then-entries-place
returns-then-entries-place c = appends_same (appends_nothing (omega arith)) (sym (let a = c.args in nothing-beyond a.lows.now a.highs.now a.entries.now a.finals.now a.place c.if-entries-place.true))

pub returns-then-next : goal.returns-then-next
returns-then-next c = appends_same (appends_nothing (omega arith)) (sym (let a = c.args in nothing-there a.lows.now a.highs.now a.entries.now a.finals.now a.place c.if-entries-place.false c.if-next.true))

pub returns-then-count-eq0 : goal.returns-then-count-eq0
returns-then-count-eq0 c = appends_same (appends_nothing (omega arith)) (sym (let a = c.args in no_letters a.lows.now a.highs.now a.entries.now a.finals.now a.place c.letter_count-count.ensures c.if-count-eq0.true))

pub overflow_cast-letter : goal.overflow_cast-letter
overflow_cast-letter c =
    let e = c.letter_count-count.ensures in
    let h = mod-lt c.args.place {m = c.letter_count-count.result} (omega arith) in
    omega arith

pub returns-then-not-letter_values : goal.returns-then-not-letter_values
returns-then-not-letter_values c = appends_same (appends_nothing (omega arith)) (sym (let a = c.args in no_values a.lows.now a.highs.now a.entries.now a.finals.now a.place c.letter_count-count.ensures (sym c.letter_values.ensures.0 ∙ c.if-not-letter_values.true)))

pub slice_bounds-values-end : goal.slice_bounds-values-end
slice_bounds-values-end c =
    let a = c.args in
    let h = few_streams a.lows.now a.highs.now a.entries.now a.finals.now a.place c.letter_count-count.ensures (sym c.letter_values.ensures.0 ∙ c.if-not-letter_values.false) in
    let d = length-described a.lows.now a.highs.now in
    let k : length c.letter_values.new.out ≡ 8 = c.letter_values.auto.out in
    omega arith

pub slice_bounds-entry_line-end : goal.slice_bounds-entry_line-end
slice_bounds-entry_line-end c =
    let a = c.args in
    let h = few_streams a.lows.now a.highs.now a.entries.now a.finals.now a.place c.letter_count-count.ensures (sym c.letter_values.ensures.0 ∙ c.if-not-letter_values.false) in
    let d = length-described a.lows.now a.highs.now in
    let k : length c.letter_values.new.out ≡ 8 = c.letter_values.auto.out in
    sym (length-take-le _ _ (omega arith))

pub returns : goal.returns
returns c =
    let a = c.args in
    appends_same c.entry_line.ensures
    (line-there a.lows.now a.highs.now a.entries.now a.finals.now a.place c.letter_count-count.ensures (sym c.letter_values.ensures.0 ∙ c.if-not-letter_values.false) c.if-entries-place.false c.if-next.false c.min-streams.ensures (replicate 8 (pos 0)) refl c.letter_values.ensures.1 c.byte_at.ensures)
