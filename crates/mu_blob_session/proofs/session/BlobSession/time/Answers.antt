use Rattle.std.proofs.Common.{refl, inl, inr}
use Rattle.mu_blob_session.proofs.session.BlobSession.time.Goals as goal

pub returns-in-Wait-clause-stays : goal.returns-in-Wait-clause-stays
returns-in-Wait-clause-stays c = inl refl

pub returns-in-Unlink-clause-stays : goal.returns-in-Unlink-clause-stays
returns-in-Unlink-clause-stays c = inr c.unlink.ensures.block

pub returns-in-Pull-clause-stays : goal.returns-in-Pull-clause-stays
returns-in-Pull-clause-stays c = inl c.pull.ensures.block
