use Rattle.std.proofs.Common.{◌∙◌, sym, ap}
use Rattle.mu_model_node.specs.BlobServer.{blob_number, server_phase}
use Rattle.mu_node.proofs.Looked.{server_is}
use Rattle.mu_node.proofs.node.Node.blob_phase.Goals as goal

pub returns : goal.returns
returns g c n h =
    c.phase.ensures h.kept.blocks n.moment
    ∙ ap blob_number (ap server_phase (server_is c.args.self.now n c.memory_is_looked_at.ensures.full (c.known.ensures.memory c.requires) h) ∙ sym (c.nodes_serve_by_their_blocks.ensures.phases n h.sound h.linked))
