-- `refine::same_row` meets its contract: rows of one signature have one class and one envelope; those that do are compared in the envelope, outside which both have
-- no class.
use lib.ListN.{length, get_or}
use Rattle.basics.proofs.Answers.{says_both}
use Rattle.row_envelopes.proofs.Laws.{envelope_fits}
use Rattle.refine.proofs.Signatures.{same_in_envelope, envelope_same}
use Rattle.refine.proofs.same_row.Goals as goal

pub same_part-requires : goal.same_part-requires
same_part-requires c =
    let args = c.args in
    let number = get_or args.envelopes.now args.q 0 in
    let e = c.envelope_of-envelope.ensures.0 in
    let f = c.envelope_of-envelope.ensures.1 in (
      rw (e, f) (envelope_fits args.p (length args.class.now) args.letters (length args.entries.now) number c.requires.0 c.requires.2),
      rw (e, f) (envelope_fits args.q (length args.class.now) args.letters (length args.entries.now) number c.requires.1 c.requires.2),
    )

pub returns : goal.returns
returns c =
    let e = c.envelope_of-envelope.ensures.0 in
    let f = c.envelope_of-envelope.ensures.1 in
    says_both c.same_part.result
    (λ h. envelope_same c.requires.4 c.requires.0 c.requires.1 c.if-class-p.false c.if-envelopes-p.false (rw (e, f) at h))
    (λ s. rw (e, f) (same_in_envelope c.requires.4 c.requires.0 c.requires.1 s))
    c.same_part.ensures
