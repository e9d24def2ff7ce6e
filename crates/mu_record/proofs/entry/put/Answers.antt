use Rattle.std.proofs.Common.{◌+◌, ◌-◌, length, arith}
use Rattle.mu_record.proofs.EntryLemmas.{put_written}
use Rattle.mu_record.proofs.entry.put.Goals as goal

pub returns-clause-written : goal.returns-clause-written
returns-clause-written c = put_written c.args.octets.now c.copy_from_slice.new.self c.args.bytes.now c.args.at (c.args.at + length c.args.bytes.now - c.args.at) c.copy_from_slice.ensures.after (omega arith)

pub returns-clause-small : goal.returns-clause-small
returns-clause-small c i = (c.type_inv.octets i).fits
