use Rattle.mu_model_script.proofs.Texts.{address_of-address_text}
use Rattle.mu_model_script.proofs.laws.printed_address_is_read.Goals as goal

pub returns : goal.returns
returns c = address_of-address_text
