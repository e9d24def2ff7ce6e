use Rattle.mu_model_record.specs.Record.{zeros}
use Rattle.mu_record.proofs.EntryLemmas.{filling_entry}
use Rattle.mu_record.proofs.entry.filling_octets.Goals as goal

pub returns : goal.returns
unfolding zeros
returns c = filling_entry c.args.size c.args.log c.write_u32.new.buf c.ranges.size.fits c.write_u32.ensures
