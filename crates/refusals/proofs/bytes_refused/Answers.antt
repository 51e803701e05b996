-- `refusals::bytes_refused` meets its contract: the number of bytes and each byte are tested.
use Rattle.std.proofs.Common.{rules, ◌≡◌, slice_index_or, IsTrue, EachIndex, ◌↔◌, true}
use Rattle.std.proofs.iter.runs.Made.{chains}
use mathlib.Core.Path.{◌∙◌}
use borrow.Author.Tests.{lt-ltb}
use Rattle.sheet.specs.Refusal.{is_allowed}
use Rattle.refusals.proofs.Lines.{allowed_told, refuses1-long, refuses1-short}
use Rattle.refusals.proofs.bytes_refused.Goals as goal

pub returns-then-text-gt16384 : goal.returns-then-text-gt16384
returns-then-text-gt16384 c = lt-ltb _ _ c.if-text-gt16384.true ∙ refuses1-long c.args.text.now c.if-text-gt16384.true

pub returns-else-text-gt16384 : goal.returns-else-text-gt16384
returns-else-text-gt16384 c =
    let each : IsTrue c.all.result ↔ EachIndex c.args.text.now (λ k. is_allowed (slice_index_or c.args.text.now k 0) ≡ true) = search (rules, chains) in
    refuses1-short c.args.text.now c.if-text-gt16384.false (allowed_told c.args.text.now c.all.result each)
