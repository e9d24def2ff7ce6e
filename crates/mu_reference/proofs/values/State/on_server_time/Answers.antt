use Rattle.std.proofs.Common.{refl, ap, Ok}
use Rattle.mu_model_node.specs.BlobServer.{unlinked}
use Rattle.mu_reference.specs.View.{state_of, session_of}
use Rattle.mu_reference.proofs.Received.{served_same, served_as}
use Rattle.mu_reference.proofs.values.State.on_server_time.Goals as goal

pub returns-in-Wait : goal.returns-in-Wait
returns-in-Wait c = served_same (state_of c.args.self.now) (state_of c.args.self.now) (session_of c.args.self.now.session) _ _ c.in-Wait.ensures refl c.nothing.ensures

pub returns-in-Unlink : goal.returns-in-Unlink
returns-in-Unlink c =
    served_same (state_of c.args.self.now) (state_of (record (c.args.self.now) { session = c.unlink.new.self })) (unlinked (session_of c.args.self.now.session)) _ _ c.in-Unlink.ensures
    (ap (λ l. record (state_of c.args.self.now) { session = l }) c.unlink.ensures) c.nothing-in-Unlink.ensures

pub returns-in-Ask : goal.returns-in-Ask
returns-in-Ask c = served_as (state_of c.args.self.now) _ _ _ (Ok c.ask.result) c.in-Ask.ensures c.ask.ensures
