use Rattle.std.proofs.Common.{◌∙◌, ◌++◌, ℕ, List, ap}
use Rattle.mu_model_record.specs.Record.{zeros}
use Rattle.mu_model_distributor.specs.DistEvents.{new_distributor}
use Rattle.mu_model_represents_distributor.specs.DistributorNote.{distributor_octets}
use Rattle.mu_model_represents_distributor.specs.RepresentsDistributor.{note_of_distributor}
use Rattle.mu_dist.proofs.making.new_tag.Goals as goal

pub returns : goal.returns
returns c =
    c.tag_of.ensures ∙ ap (λ (octets : List ℕ). zeros 64 ++ octets)
    (c.distributor_note_octets.ensures ∙ ap (λ (banks : List ℕ). distributor_octets (record (note_of_distributor (new_distributor 1)) { banks = banks })) c.new.ensures)
