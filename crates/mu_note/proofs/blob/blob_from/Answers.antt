use Rattle.mu_note.proofs.Parts.{all_zero, zero_all}
use Rattle.mu_note.proofs.Spelled.{none_spelled}
use Rattle.mu_note.proofs.blob.blob_from.Goals as goal

pub returns-then-is_zero-clause-read : goal.returns-then-is_zero-clause-read
returns-then-is_zero-clause-read c = all_zero c.args.octets.now 64 c.requires (c.is_zero.ensures.0 c.if-is_zero.true)

pub returns-in-Err-clause-foreign : goal.returns-in-Err-clause-foreign
returns-in-Err-clause-foreign c part e =
    none_spelled c.args.octets.now (λ is. absurd (cc (c.if-is_zero.false, c.is_zero.ensures.1 (zero_all c.args.octets.now 64 is)))) c.in-Err.ensures.foreign part e
