use Rattle.mu_model_represents.proofs.TagLaws.{tag_laws}
use Rattle.mu_model_represents.proofs.laws.octets_of_tags.Goals as goal

pub returns : goal.returns
returns c = tag_laws c.ranges_of_octets.ensures
