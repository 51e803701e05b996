-- `shared_alike` meets its contract: each stream is alike the one with its name.
use Rattle.std.proofs.Common.{rules}
use Rattle.streams.specs.Description.{stream_in, description_of}
use Rattle.streams.proofs.Below.{says_all_below}
use Rattle.joined_streams.specs.Describing.{AlikeAt}
use Rattle.joined_streams.proofs.shared_alike.Goals as goal

pub returns : goal.returns
returns c = says_all_below _ _ _ (λ k. AlikeAt (description_of c.args.left.now) (stream_in c.args.right.now k)) c.args.right.now.count _ c.all.ensures.ran (search rules) (λ x q k. search rules) (λ x q k. search rules)
