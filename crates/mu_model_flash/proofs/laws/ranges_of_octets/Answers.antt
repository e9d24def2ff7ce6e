use Rattle.mu_model_flash.proofs.BitLemmas.{length-blank, get-blank, written-inside, written-written, octets-written, octets-between}
use Rattle.mu_model_flash.proofs.RangeLemmas.{length-part, get-part, range-part, part-written, outside-written, part-outside, outside_same, outside_on, same-whole, torn-outside, torn-part, outside-between, part-between, mark_torn, one_blank, reads_one}
use Rattle.mu_model_flash.proofs.MadeLemmas.{made_between}
use Rattle.mu_model_flash.proofs.laws.ranges_of_octets.Goals as goal

pub returns : goal.returns
returns c = record {
  parts = record { length_blank = length-blank; get_blank = get-blank; length_part = length-part; get_part = get-part; range_part = range-part };
  writes = record {
    part_written = part-written;
    written_inside = written-inside;
    outside_written = outside-written;
    part_outside = part-outside;
    outside_same = outside_same;
    outside_on = outside_on;
    same_whole = same-whole;
    written_twice = written-written;
    octets_written = octets-written;
  };
  torn = record {
    torn_outside = torn-outside;
    torn_part = torn-part;
    outside_between = outside-between;
    part_between = part-between;
    octets_between = octets-between;
    made_between = made_between;
    mark_torn = λ old at within is new torn. mark_torn old at new within (one_blank old at within is) torn;
    mark_blank = λ old at within is. reads_one old at (one_blank old at within is);
  };
}
