use Rattle.std.proofs.Common.{◌∙◌, sym}
use Rattle.mu_blobsrv.specs.Views.{store_of}
use Rattle.mu_kept.specs.Views.{job_in, flags_in}
use Rattle.mu_node.proofs.Looked.{look_is}
use Rattle.mu_node.proofs.node.Node.job_look.Goals as goal

pub returns-in-Some-Some-clause-shown : goal.returns-in-Some-Some-clause-shown
returns-in-Some-Some-clause-shown g c n h =
    look_is c.memory_is_looked_at.ensures.full (job_in (store_of c.args.self.now.server)) c.in-Some-Some.expect (sym c.in-Some-Some.is-0 ∙ c.job.ensures) c.args.self.now.note.job c.in-Some-Some.job c.in-Some-Some.is-1
    (flags_in (store_of c.args.self.now.server)) h.kept.blocks h.kept.held c.is_whole.result c.is_whole.ensures n.durable.job h.kept.job
