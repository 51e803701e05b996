-- `play_text::held_line` meets its contract: nothing, or the line of the entry (Output).
use Prim.Native.Nat.{◌<◌}
use native.Mathlib.Omega.{arith}
use mathlib.Core.Path.{◌∙◌}
use lib.ListN.{length}
use borrow.Author.Rules.{rules}
use Rattle.print.proofs.Append.{appends_nothing, appends_same}
use Rattle.play_text.proofs.Output.{held-beyond, held-nothing, quotient, held-fitting}
use Rattle.play_text.proofs.held_line.Goals.{then-play-place-via-then-play-place, then-play-place-via-else-play-place+then-play-place-2}
use Rattle.play_text.proofs.held_line.Goals as goal

pub returns-then-play-place : goal.returns-then-play-place
returns-then-play-place c =
    let a = c.args in
    appends_same (appends_nothing (omega arith))
    (elim c.then-play-place.branch [
      | then-play-place-via-then-play-place w ↦ held-beyond a.choices a.lows.now a.highs.now a.entries.now a.finals.now a.play.now a.place w.if-play-place.true
      | then-play-place-via-else-play-place+then-play-place-2 w ↦
          held-nothing a.choices a.lows.now a.highs.now a.entries.now a.finals.now a.play.now a.place (omega (arith, w.if-play-place.false)) w.if-play-place-2.true
    ])

pub returns : goal.returns
returns c =
    let a = c.args in
    let size : length a.entries.now < 18446744073709551616 = search rules in
    appends_same c.entry_text.ensures
    (held-fitting a.choices a.lows.now a.highs.now a.entries.now a.finals.now a.play.now a.place (omega (arith, c.if-play-place.false)) c.if-play-place-2.false size c.letter_count-letters.ensures
    (c.unwrap_or-state.ensures ∙ quotient c.checked_div.result a.place a.choices c.checked_div.ensures) c.saturating_mul.ensures (omega (arith, c.saturating_add-held.ensures, c.from.ensures)))
