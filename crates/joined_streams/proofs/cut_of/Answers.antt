-- `cut_of` meets its contract: the values at the places of the own streams are the cut of the letter (Cuts).
use mathlib.Core.Path.{◌≡◌, ◌∙◌, ap}
use lib.ListN.{length, take}
use Rattle.letters.specs.Described.{described, number_of}
use Rattle.joined_streams.proofs.Cuts.{values_are, number_is, picked_is, cut-is-letter}
use borrow.Author.Rules.{rules}
use Rattle.joined_streams.proofs.cut_of.Goals as goal

pub returns : goal.returns
returns c =
    let joined = c.args.joined.now in
    let own = c.args.own.now in
    let lows-long : length c.args.joined.now.lows ≡ 8 = search rules in
    let highs-long : length c.args.joined.now.highs ≡ 8 = search rules in
    let own-lows-long : length c.args.own.now.lows ≡ 8 = search rules in
    let own-highs-long : length c.args.own.now.highs ≡ 8 = search rules in
    let can = c.requires.0 in
    let picks = c.picked-own_values.ensures in
    let vs = values_are joined lows-long highs-long can.few_joined c.args.letter c.requires.2 can.joined_letters c.letter_values.ensures.1 in
    number_is own own-lows-long own-highs-long can.few_own can.own_letters (cut-is-letter can c.requires.1 c.args.letter c.requires.2 vs picks picks.long)
    (c.letter_number.ensures ∙ ap (number_of (described (take own.count own.lows) (take own.count own.highs))) (picked_is can c.requires.1 c.args.letter c.requires.2 vs picks picks.long))
