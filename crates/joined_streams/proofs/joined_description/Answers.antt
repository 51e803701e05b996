-- `joined_description` meets its contract: the left streams come first, then the right one's others (Describing).
use mathlib.Core.Path.{◌≡◌, ◌∙◌, ap}
use native.Mathlib.Omega.{arith}
use Rattle.streams.specs.declared.StreamsDescription.{StreamsDescription}
use Rattle.streams.specs.Description.{none_described}
use Rattle.joined_streams.specs.Describing.{with_others}
use Rattle.joined_streams.proofs.Describing.{first_count}
use Rattle.joined_streams.proofs.joined_description.Goals as goal

pub with_others-first-requires : goal.with_others-first-requires
with_others-first-requires c =
    let none = ap (λ (s : StreamsDescription). s.count) c.none-none.ensures in
    (omega arith, omega arith, c.requires.0)

pub with_others-requires : goal.with_others-requires
with_others-requires c =
    let first : c.with_others-first.result ≡ with_others none_described c.args.left.now none_described 0 c.args.left.now.count = let left = c.args.left.now in c.with_others-first.ensures ∙ ap (λ s. with_others s left s 0 left.count) c.none-none.ensures in
    let count = ap (λ (s : StreamsDescription). s.count) (first) in
    let few = first_count c.args.left.now in
    (omega (arith, c.requires.0), c.requires.0, c.requires.1)

pub returns : goal.returns
returns c =
    let first : c.with_others-first.result ≡ with_others none_described c.args.left.now none_described 0 c.args.left.now.count = let left = c.args.left.now in c.with_others-first.ensures ∙ ap (λ s. with_others s left s 0 left.count) c.none-none.ensures in
    let a = c.args in c.with_others.ensures ∙ ap (λ s. with_others a.left.now a.right.now s 0 a.right.now.count) (first)
