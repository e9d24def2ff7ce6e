use Rattle.std.proofs.Common.{◌∙◌, sym, ap}
use Rattle.mu_blobsrv.specs.Views.{store_of, place_of}
use Rattle.mu_kept.specs.Views.{job_in}
use Rattle.mu_note.specs.Views.{active_banks}
use Rattle.mu_node.specs.Readings.{filling_count}
use Rattle.mu_node.proofs.Looked.{filled}
use Rattle.mu_node.proofs.node.Node.held_count.Goals as goal

pub returns-then-fills : goal.returns-then-fills
returns-then-fills g c n h =
    let node = c.args.self.now in
    let rules = c.known.ensures.memory c.requires in
    c.held_count.ensures
    ∙ filled (place_of node.server) (job_in (store_of node.server)) (active_banks node.note.active) node.note.job h.kept.blocks rules.blob.rules rules.job h.kept.held (sym c.fills.ensures ∙ c.if-fills.true)
    ∙ ap filling_count (sym h.kept.job)
