use Rattle.std.proofs.Common.{refl}
use Rattle.mu_model_record.specs.declared.BankState.TheVariants.{Empty}
use Rattle.mu_model_record.proofs.FrameLemmas.{bank_within, block_begins, banks_same}
use Rattle.mu_model_record.proofs.FreeLemmas.{free_reads}
use Rattle.mu_model_record.proofs.ChangeLemmas.{tagged_record, bank_record, released_record, cleared_at, tagged_next, bank_next, released_next}
use Rattle.mu_model_record.proofs.BlockLemmas.{block_free, block_represents, mark_reads}
use Rattle.mu_model_record.proofs.JoinLemmas.{bank_joined}
use Rattle.mu_model_record.proofs.laws.changes.Goals as goal

pub returns-clause-records : goal.returns-clause-records
returns-clause-records c = record {
  tagged = λ r tag sound next is. tagged_record r tag sound next is.0 is.1;
  banked = λ r tag sound next is. bank_record r tag sound next is.0 is.1;
  released = λ r tag sound next is. released_record r tag sound next is.0 is.1;
  cleared_at = cleared_at Empty;
}

pub returns-clause-states : goal.returns-clause-states
returns-clause-states c = record { tagged = (tagged_next c.ranges_of_octets.ensures); banked = (bank_next c.ranges_of_octets.ensures); released = (released_next c.ranges_of_octets.ensures) }

pub returns-clause-places : goal.returns-clause-places
returns-clause-places c = record { bank_within = bank_within; block_begins = block_begins; banks_same = (banks_same c.ranges_of_octets.ensures); free_reads = (free_reads c.ranges_of_octets.ensures) }

pub returns-clause-blocks : goal.returns-clause-blocks
returns-clause-blocks c = record {
  free = λ page word d image bank size log blocks is i lt. (block_free c.ranges_of_octets.ensures) page word d image is.represents bank size log is.there is.entry blocks is.content i lt;
  represents = λ page word d image bank size log blocks is i lt octets lies. (block_represents c.ranges_of_octets.ensures) page word d image is.represents bank size log is.there is.entry blocks is.content i lt octets lies _ refl;
  reads = λ page word d image bank size log blocks is i lt octets lies. (mark_reads c.ranges_of_octets.ensures) page word d image is.represents bank size log is.there is.entry blocks is.content i lt octets lies;
  joined_lie = bank_joined;
}
