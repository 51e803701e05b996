-- `refine::split_row` meets its contract: the chain of the row's bucket is searched, and the row is put into it if no row of it
-- has its signature.
use mathlib.Core.Path.{◌≡◌, ap, ◌∙◌}
use mathlib.Core.Logic.{inl, inr}
use lib.ListN.{length}
use Rattle.refine.specs.Signatures.{signature_bucket, row_bucket}
use Rattle.refine.proofs.Chains.{joins_found, begins_missed}
use Rattle.refine.proofs.split_row.Goals as goal

pub returns-in-Some : goal.returns-in-Some
returns-in-Some c =
    let its-bucket : c.bucket-b.result ≡ row_bucket (length c.args.heads.now) c.args.letters c.args.entries.now c.args.class.now c.args.envelopes.now c.args.row = c.bucket-b.ensures.1 ∙ ap (signature_bucket (length c.args.heads.now)) c.hash_row-h.ensures.1 in
    let args = c.args in
    inl (joins_found args.letters args.entries.now args.class.now args.envelopes.now args.heads.now args.links.now args.row c.bucket-b.result its-bucket c.in-Some.first c.in-Some.ensures)

pub returns : goal.returns
returns c =
    let its-bucket : c.bucket-b.result ≡ row_bucket (length c.args.heads.now) c.args.letters c.args.entries.now c.args.class.now c.args.envelopes.now c.args.row = c.bucket-b.ensures.1 ∙ ap (signature_bucket (length c.args.heads.now)) c.hash_row-h.ensures.1 in
    let args = c.args in
    inr (begins_missed args.letters args.entries.now args.class.now args.envelopes.now args.heads.now args.links.now args.row c.bucket-b.result its-bucket c.in_default.ensures)
