use Rattle.std.proofs.lemmas.List.FromFn.{length-map-range_with_len, get_or-map-range_with_len}
use Rattle.mu_model_image.specs.Made.{made_octet}
use Rattle.std.proofs.Common.{arith}
use Rattle.mu_model_image.proofs.laws.made.Goals as goal

pub returns-clause-size : goal.returns-clause-size
returns-clause-size c seed size = length-map-range_with_len (made_octet seed) 0 size

pub returns-clause-octets : goal.returns-clause-octets
returns-clause-octets c seed size i h = get_or-map-range_with_len (made_octet seed) 0 size i i 0 h (omega arith)
