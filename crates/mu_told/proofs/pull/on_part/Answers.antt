use Rattle.std.proofs.Common.{◌∙◌, sym}
use Rattle.mu_told.proofs.Parts.{wants_same, no_chunks, some_chunks, part_none, part_some}
use Rattle.mu_told.proofs.pull.on_part.Goals as goal

pub want-requires : goal.want-requires
want-requires c =
    wants_same _ _ c.args.slot.now c.hear.new.slot c.hear.ensures.receiver (sym (c.in-Some.ensures.bound ∙ c.chunk_total-total.ensures.total)) c.requires.wanted

pub returns-then-is_empty : goal.returns-then-is_empty
returns-then-is_empty c =
    part_none c.args.sending.now c.args.b c.chunk_total-total.result c.args.chunks.now _ _ _ _ _ c.chunk_total-total.ensures.total
    (no_chunks c.args.chunks.now _ c.is_empty.ensures c.if-is_empty.true) c.new.ensures c.hear.ensures c.hold_chunks.ensures
    (record { receiver = c.answer.ensures.receiver; list = c.answer.ensures.list; few = c.answer.ensures.few })

pub returns-else-is_empty : goal.returns-else-is_empty
returns-else-is_empty c =
    part_some c.args.sending.now c.args.b c.chunk_total-total.result c.args.chunks.now _ _ _ _ c.chunk_total-total.ensures.total
    (some_chunks c.args.chunks.now _ c.is_empty.ensures c.if-is_empty.false) c.in-Some.ensures.below c.in-Some.ensures.set c.hear.ensures c.want.ensures
