use Rattle.std.proofs.Common.{refl}
use Rattle.mu_model_record.specs.Page.{page_of}
use Rattle.mu_model_record.proofs.NextLemmas.{other_safe, erase_reads, erased, erased_next, erased_blank, long_reads, long_after, first_reads, first_after, next_reads, next_after}
use Rattle.mu_model_record.proofs.FirstLemmas.{blank_slots, first_long, first_short}
use Rattle.mu_model_record.proofs.laws.next_records.Goals as goal

pub returns-clause-other_page : goal.returns-clause-other_page
returns-clause-other_page c page other two word d e old at next = record {
  safe = (other_safe c.ranges_of_octets.ensures) page other two word d e old at;
  erase = (erase_reads c.ranges_of_octets.ensures) page other two word d e old at next;
  erased = λ x turn. ((erased c.ranges_of_octets.ensures) page other two word d e old at next x turn, (erased_next c.ranges_of_octets.ensures) page other two word d e old at next x turn, (erased_blank c.ranges_of_octets.ensures) page other two word d e old at next x turn);
  long = λ octets is. (long_reads c.ranges_of_octets.ensures) page other two word d e old at next octets is.many is.small is.spells;
  long_after = λ octets is. (long_after c.ranges_of_octets.ensures) page other two word d e old at next octets is.many is.small is.spells;
  short = λ ff octets is. (first_reads c.ranges_of_octets.ensures) page other two word d e old at next ff ((blank_slots c.ranges_of_octets.ensures) (page_of old other) ff) octets is.many is.small is.spells;
  short_after = λ ff octets is. (first_after c.ranges_of_octets.ensures) page other two word d e old at next ff ((blank_slots c.ranges_of_octets.ensures) (page_of old other) ff) octets is.many is.small is.spells;
}

pub returns-clause-next_slot : goal.returns-clause-next_slot
returns-clause-next_slot c page slot content d e old at next few = record {
  short = λ octets is. (next_reads c.ranges_of_octets.ensures) page slot content d e old at next few octets is.many is.small is.spells;
  short_after = λ octets is. (next_after c.ranges_of_octets.ensures) page slot content d e old at next few octets is.many is.small is.spells;
}

pub returns-clause-first : goal.returns-clause-first
returns-clause-first c = record {
  long = λ old within one r octets is. (first_long c.ranges_of_octets.ensures) _ old within one r octets is.many is.small is.spells refl;
  short = λ old within one zero r octets is. (first_short c.ranges_of_octets.ensures) _ old within one r zero octets is.many is.small is.spells refl;
}
