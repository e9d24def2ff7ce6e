use Rattle.mu_model_script.proofs.Texts.{octets_of-encode_lower}
use Rattle.mu_model_script.proofs.laws.printed_octets_are_read.Goals as goal

pub returns : goal.returns
returns c = octets_of-encode_lower
