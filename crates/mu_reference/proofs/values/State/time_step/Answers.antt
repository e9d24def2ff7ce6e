use Rattle.std.proofs.Common.{◌≡◌, ◌∙◌, subst}
use Rattle.mu_model_node.specs.BlobServer.{Server}
use Rattle.mu_model_node.specs.BlobTable.{on_server_time}
use Rattle.mu_blob_rows.specs.declared.timing.TimeStep.TheVariants.{Wait, Unlink, Pull}
use Rattle.mu_blob_rows.specs.Rows.{time_stepped}
use Rattle.mu_reference.specs.View.{state_of}
use Rattle.mu_reference.specs.BlobRows.{held_by, chunks_by}
use Rattle.mu_reference.proofs.values.State.time_step.Goals as goal

pub returns-in-Wait : goal.returns-in-Wait
returns-in-Wait c = subst (λ (x : Server). on_server_time x x.serving ≡ time_stepped x Wait) c.look.ensures.server (c.in-Wait.ensures.stepped (held_by (state_of c.args.self.now)) (chunks_by (state_of c.args.self.now)))

pub returns-in-Unlink : goal.returns-in-Unlink
returns-in-Unlink c = subst (λ (x : Server). on_server_time x x.serving ≡ time_stepped x Unlink) c.look.ensures.server (c.in-Unlink.ensures.stepped (held_by (state_of c.args.self.now)) (chunks_by (state_of c.args.self.now)))

pub returns-in-Pull : goal.returns-in-Pull
returns-in-Pull c = subst (λ (x : Server). on_server_time x x.serving ≡ time_stepped x Pull) c.look.ensures.server (c.in-Pull.ensures.stepped (held_by (state_of c.args.self.now)) (chunks_by (state_of c.args.self.now))) ∙ c.pull_step.ensures
