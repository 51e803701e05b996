-- `winning_rows::rank_rows` meets its contract: each pass starts from what the pass before left.
use mathlib.Core.Path.{refl, sym, ◌∙◌}
use Rattle.winning_rows.proofs.Sweeping.{fits-sized, passes-ranked}
use Rattle.winning_rows.proofs.rank_rows.Goals as goal

pub sweeps-requires : goal.sweeps-requires
sweeps-requires c =
    fits-sized refl (sym c.fill.auto.self) c.requires

pub sweeps-requires-2 : goal.sweeps-requires-2
sweeps-requires-2 c =
    fits-sized (sym c.sweeps.auto.answers) (sym (c.keep_flagged.auto.marks ∙ c.sweeps.auto.ranks ∙ c.fill.auto.self)) c.requires

pub returns : goal.returns
returns c =
    let args = c.args in
    passes-ranked args.entries.now args.choice.now args.finals.now args.ranks.now (c.fill.ensures.after (λ y e. e)) c.fill.auto.self c.sweeps.auto.ranks c.keep_flagged.auto.marks c.sweeps.auto.answers
    c.sweeps.ensures c.keep_flagged.ensures c.sweeps-2.ensures
