use Rattle.std.proofs.Common.{◌∙◌, ap}
use Rattle.std.specs.List.{list_any}
use Rattle.mu_model_client.specs.Client.{is_pending}
use Rattle.mu_receivers.specs.Receivers.{receiver_of}
use Rattle.mu_rounds.proofs.Stepping.{done_chunks, done_messages, is_none_so}
use Rattle.mu_rounds.proofs.rounds.Rounds.is_done.Goals as goal

pub returns-then-is_chunk_step : goal.returns-then-is_chunk_step
returns-then-is_chunk_step c =
    done_chunks c.args.self.now c.args.step _ _ c.requires.shape c.requires.at c.is_chunk_step.ensures c.if-is_chunk_step.true (is_none_so c.args.self.now.left c.is_none.result c.is_none.ensures)

pub returns-else-is_chunk_step : goal.returns-else-is_chunk_step
returns-else-is_chunk_step c =
    done_messages c.args.self.now c.args.step _ _ c.is_chunk_step.ensures c.if-is_chunk_step.false
    (c.is_any_pending.ensures ∙ ap (list_any (λ s. is_pending (receiver_of s))) c.deref.ensures.0)
