use Rattle.std.proofs.Common.{rules}
use Rattle.mu_store.proofs.SealLemmas.{all_octets}
use Rattle.mu_store.proofs.sealing.is_meta.Goals as goal

pub returns : goal.returns
returns c = record {
  some = c.requires;
  size = search rules;
  version = search rules;
  digest_length = search rules;
  digest_octets = all_octets c.args.meta.digest c.are_octets.ensures;
}
