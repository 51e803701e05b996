-- `minimise::find_refusal` meets its contract: row 0 is live exactly if the graph's language has a word.
use mathlib.Core.Logic.{inl, inr}
use Rattle.basics.proofs.Answers.{says_yes}
use Rattle.minimise.proofs.Reducing.{reduced_empty}
use Rattle.minimise.proofs.find_refusal.Goals as goal

pub returns-else-live-eq1 : goal.returns-else-live-eq1
returns-else-live-eq1 c =
    let g = says_yes c.if-not-is_graph.false c.is_graph.ensures in
    inr (inl (reduced_empty g c.find_live.auto.live (c.find_live.ensures.fits (record { entries_fit = g.entries_fit; flags_fit = g.flags_fit })) c.if-live-eq1.false))
