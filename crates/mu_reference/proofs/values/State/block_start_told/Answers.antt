use Rattle.std.proofs.Common.{◌≡◌, sym, subst}
use Rattle.mu_model_node.specs.BlobServer.{Server, server_phase}
use Rattle.mu_model_node.specs.BlobMessages.{BlockStart}
use Rattle.mu_model_node.specs.BlobTable.{on_blob}
use Rattle.mu_model_node.specs.Sound.{IsPhase}
use Rattle.mu_blob_rows.specs.Rows.{block_told_by}
use Rattle.mu_reference.specs.View.{state_of}
use Rattle.mu_reference.specs.BlobRows.{held_by, chunks_by}
use Rattle.mu_reference.proofs.Looked.{can_report, opens_within}
use Rattle.mu_reference.proofs.values.State.block_start_told.Goals as goal

pub returns-clause-report : goal.returns-clause-report
returns-clause-report c = can_report (state_of c.args.self.now) c.look.result c.block_start.result.report c.states_are_sound.ensures.phases c.requires c.look.ensures.current c.block_start.ensures.report

pub returns-clause-within : goal.returns-clause-within
returns-clause-within c =
    opens_within c.look.result (held_by (state_of c.args.self.now)) (chunks_by (state_of c.args.self.now)) c.args.block c.blocks_look-blocks.result c.block_start.result.session
    (subst (λ (x : Server). IsPhase (server_phase x)) (sym c.look.ensures.server) (c.states_are_sound.ensures.phases (state_of c.args.self.now) c.requires)) c.blocks_look-blocks.ensures c.block_start.ensures.session

pub returns-clause-told : goal.returns-clause-told
returns-clause-told c = λ from.
    subst (λ (x : Server). on_blob x from (BlockStart c.args.block c.args.chunk_size) ≡ block_told_by x from (chunks_by (state_of c.args.self.now)) c.block_start.result) c.look.ensures.server
    (c.block_start.ensures.told (held_by (state_of c.args.self.now)) (chunks_by (state_of c.args.self.now)) from c.blocks_look-blocks.ensures)
