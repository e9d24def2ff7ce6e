use Rattle.std.proofs.Common.{◌∙◌}
use Rattle.mu_record.proofs.EntryLemmas.{sealed_entry}
use Rattle.mu_record.proofs.entry.sealed_octets.Goals as goal

pub returns : goal.returns
returns c = sealed_entry c.args.meta.now c.copy_from_slice.new.self c.requires c.metadata.ensures.read_back (c.copy_from_slice.ensures.after ∙ c.meta_octets.ensures)
