-- `play_text::PrintedPlay::place_count` meets its contract, by the cases of a refusal's number.
use Prim.Native.Nat.{suc}
use native.Mathlib.Numerals.{add-one}
use mathlib.Core.Path.{◌∙◌, ap}
use Rattle.pages.proofs.Refused.{refused-places, given-places}
use Rattle.play_text.proofs.PrintedPlayPlacedText.place_count.Goals as goal

pub returns-then-self-ne0 : goal.returns-then-self-ne0
returns-then-self-ne0 c = refused-places c.args.self.now.table.refusal c.if-self-ne0.true _

pub returns : goal.returns
returns c = add-one c.min.result ∙ ap suc c.min.ensures ∙ given-places c.args.self.now.table.refusal c.if-self-ne0.false _
