use Rattle.std.proofs.Common.{◌<◌, ℕ, arith}
use Rattle.std.proofs.lemmas.List.Elements.{All-from_get_or}
use Rattle.mu_distributor_answers.proofs.Ranges.{metadata_fit}
use Rattle.mu_distributor_answers.proofs.reading.metadata_fits.Goals as goal

pub returns : goal.returns
returns c =
    metadata_fit c.metadata.ensures.in_range c.args.octets.now
    (All-from_get_or (λ (octet : ℕ). octet < 256) c.args.octets.now 0 (λ i lt. omega (arith, c.type_inv.octets i)))
