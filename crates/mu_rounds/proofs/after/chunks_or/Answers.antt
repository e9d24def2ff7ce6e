use Rattle.mu_model_client.specs.Going.{next_block}
use Rattle.mu_receivers.specs.Receivers.{receivers_of}
use Rattle.mu_rounds.proofs.Coming.{chunks_missed, chunks_not_missed}
use Rattle.mu_rounds.proofs.after.chunks_or.Goals as goal

pub returns-then-is_any_missing_chunks-clause-next : goal.returns-then-is_any_missing_chunks-clause-next
returns-then-is_any_missing_chunks-clause-next c =
    chunks_missed c.args.step (next_block c.args.sending.now c.args.purpose.now (receivers_of c.args.slots.now)) c.args.slots.now _ c.is_any_missing_chunks.ensures c.if-is_any_missing_chunks.true

pub returns-else-is_any_missing_chunks-clause-next : goal.returns-else-is_any_missing_chunks-clause-next
returns-else-is_any_missing_chunks-clause-next c =
    chunks_not_missed c.args.step (next_block c.args.sending.now c.args.purpose.now (receivers_of c.args.slots.now)) _ c.args.slots.now _ c.is_any_missing_chunks.ensures c.if-is_any_missing_chunks.false c.next_block.ensures.next
