use Rattle.mu_model_flash.specs.Bits.{part_of}
use Rattle.mu_record.proofs.octets.tag_of.Goals as goal

pub returns : goal.returns
unfolding part_of
returns c = c.copy_from_slice.ensures.after
