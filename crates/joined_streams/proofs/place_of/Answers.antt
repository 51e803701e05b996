-- `place_of` meets its contract: the first stream with the name is found (Places).
use Rattle.std.proofs.Common.{rules, ◌≡◌}
use Rattle.std.proofs.lemmas.Iterator.{first_from_Range}
use Rattle.sheet.specs.Names.{name_in}
use Rattle.joined_streams.proofs.Places.{place-found}
use Rattle.joined_streams.proofs.place_of.Goals as goal

pub returns : goal.returns
returns c =
    let s = c.args.streams.now in
    let name = name_in c.args.other.now.names c.args.other.now.lengths c.args.stream in
    place-found s name c.find.result (first_from_Range _ _ _ c.find.result (λ k. name_in s.names s.lengths k ≡ name) (λ k. name_in s.names s.lengths k ≡ name → ⊥) c.find.ensures.ran (λ x q k. search rules) (λ x q k. search rules))
