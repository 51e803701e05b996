-- `normal::make` meets its contract: the entries of all lines stand in the tables, or they are more than the list holds.
use Prim.Native.Nat.{ℕ}
use mathlib.Core.Path.{◌≡◌, ◌∙◌, ap, subst}
use mathlib.Core.List.{List}
use native.Mathlib.Omega.{arith}
use lib.ListN.{length, replicate}
use Rattle.std.proofs.lemmas.List.Edits.{sets}
use Rattle.normal_entries.specs.declared.Made.{Made}
use Rattle.normal.specs.Table.{WroteLines, ends_up_to}
use Rattle.nodes.specs.Evaluate.{stored}
use Rattle.normal.specs.Stored.{stored_lines, range_before}
use Rattle.normal.proofs.Lines.{stored-count, streams-added, made-short, made-whole, refusal-put}
use Rattle.normal.proofs.make.Goals as goal

pub returns-then-room-rows : goal.returns-then-room-rows
returns-then-room-rows c =
    let s = c in
    let a = s.args in
    let ls = stored_lines a.kinds.now a.starts.now a.relations.now a.lefts.now a.rights.now in
    let count = stored-count a.kinds.now a.starts.now a.relations.now a.lefts.now a.rights.now s.requires.has_lines.left_count s.requires.has_lines.right_count in
    let zeros : a.made.now.numbers ≡ replicate 30944 0 = ap (λ (m : Made). m.numbers) c.requires.zeros in
    let wrote = subst (λ (t : List ℕ). WroteLines ls 0 (length a.relations.now) (length a.lows.now) t c.write_lines-written.new.table c.write_lines-written.result) zeros c.write_lines-written.ensures in
    let long : length c.write_lines-written.new.table ≡ 30944 = omega (arith, c.write_lines-written.array_long) in
    made-short ls (length a.lows.now) count wrote (range_before (stored a.kinds.now a.values.now a.starts.now) a.lows.now a.highs.now) a.spans.now a.room c.if-room-rows.true
    (refusal-put c.requires.zeros c.refused_answer-made.ensures (c.fill.ensures.after (λ y e. e) ∙ ap (λ n. replicate n 0) long))

pub overflow_sub-made : goal.overflow_sub-made
overflow_sub-made c =
    let s = c in
    let a = s.args in
    let ls = stored_lines a.kinds.now a.starts.now a.relations.now a.lefts.now a.rights.now in
    let count = stored-count a.kinds.now a.starts.now a.relations.now a.lefts.now a.rights.now s.requires.has_lines.left_count s.requires.has_lines.right_count in
    let zeros : a.made.now.numbers ≡ replicate 30944 0 = ap (λ (m : Made). m.numbers) c.requires.zeros in
    let wrote = subst (λ (t : List ℕ). WroteLines ls 0 (length a.relations.now) (length a.lows.now) t c.write_lines-written.new.table c.write_lines-written.result) zeros c.write_lines-written.ensures in
    streams-added ls (length a.lows.now) count wrote

pub returns : goal.returns
returns c =
    let s = c in
    let a = s.args in
    let ls = stored_lines a.kinds.now a.starts.now a.relations.now a.lefts.now a.rights.now in
    let count = stored-count a.kinds.now a.starts.now a.relations.now a.lefts.now a.rights.now s.requires.has_lines.left_count s.requires.has_lines.right_count in
    let zeros : a.made.now.numbers ≡ replicate 30944 0 = ap (λ (m : Made). m.numbers) c.requires.zeros in
    let wrote = subst (λ (t : List ℕ). WroteLines ls 0 (length a.relations.now) (length a.lows.now) t c.write_lines-written.new.table c.write_lines-written.result) zeros c.write_lines-written.ensures in
    made-whole ls (length a.lows.now) count wrote (range_before (stored a.kinds.now a.values.now a.starts.now) a.lows.now a.highs.now) a.spans.now a.room c.if-room-rows.false c.put_spans.ensures
    (c.write_ends.ensures ∙ ap (λ (m : Made). sets m.ends 0 (ends_up_to (range_before (stored a.kinds.now a.values.now a.starts.now) a.lows.now a.highs.now) c.write_lines-written.new.table c.write_lines-written.result.row)) c.requires.zeros)
