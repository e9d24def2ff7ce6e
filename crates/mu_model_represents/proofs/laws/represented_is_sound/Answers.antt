use Rattle.mu_model_represents.proofs.StoreLemmas.{a_state}
use Rattle.mu_model_represents.proofs.NodeSound.{node_sound}
use Rattle.mu_model_represents.proofs.laws.represented_is_sound.Goals as goal

pub returns-clause-store : goal.returns-clause-store
returns-clause-store c = a_state c.ranges_of_octets.ensures c.changes.ensures.places

pub returns-clause-node : goal.returns-clause-node
returns-clause-node c = node_sound c.blocks-2.ensures.length c.blocks-2.ensures.joined c.metadata.ensures.in_range

pub returns-clause-node_octets : goal.returns-clause-node_octets
returns-clause-node_octets c image d h =
    node_sound c.blocks-2.ensures.length c.blocks-2.ensures.joined c.metadata.ensures.in_range h.0 d (a_state c.ranges_of_octets.ensures c.changes.ensures.places h.0 image h.1) h.2
