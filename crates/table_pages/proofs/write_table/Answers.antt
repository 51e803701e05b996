-- The ranges of streams that fit are numbers of the machine (Pages), and with a refusal its line alone is written.
use Rattle.std.proofs.Common.{◌≡◌, length, rules}
use Rattle.basics.proofs.Answers.{says_yes}
use Rattle.table_pages.proofs.Pages.{fit-held}
use Rattle.table_pages.proofs.write_table.Goals as goal

pub write_pages-requires : goal.write_pages-requires
write_pages-requires g c =
    let lows : length c.args.streams.lows ≡ 8 = search rules in
    let highs : length c.args.streams.highs ≡ 8 = search rules in
    (fit-held c.args.streams lows highs (says_yes {b = c.streams_fit.result} c.if-not-streams_fit.false c.streams_fit.ensures), search rules)
