-- `streams::each_fits` meets its contract.
use Rattle.std.proofs.Common.{rules}
use Rattle.streams.specs.Description.{StreamFits}
use Rattle.streams.proofs.Below.{says_all_below}
use Rattle.streams.proofs.each_fits.Goals as goal

pub returns : goal.returns
returns c = says_all_below _ _ _ (StreamFits c.args.streams.now) c.args.streams.now.count _ c.all.ensures.ran (search rules) (λ x q k. search rules) (λ x q k. search rules)
