-- Octets that are cut, joined and compared field by field.
use Rattle.std.proofs.Common.{◌<◌}
use Rattle.mu_model_flash.specs.Laws.{RangeLaws}
use Rattle.mu_model_represents.specs.Octets.{TagLaws}
use Rattle.mu_model_represents.proofs.Octets.{octets_none, octets_cons, octets_append, octets_all, octets_zeros, octets_little, octets_part, all_octets, number_fits, length_zeros, part_zeros, part_whole, part_past}
use Rattle.mu_model_represents.proofs.NoteWritten.{octets_meta}
use Rattle.mu_model_represents.proofs.Shorts.{part_in}
use Rattle.mu_model_represents.proofs.Agree.{joined, one_octet, number_agrees, part_agrees, parts_agree, meta_agrees, all_agree}

pub tag_laws : RangeLaws → TagLaws
tag_laws ranges = record {
  octets = record {
    of_none = octets_none;
    of_cons = octets_cons;
    of_append = octets_append;
    of_all = octets_all;
    of_zeros = octets_zeros;
    of_little = octets_little;
    of_meta = octets_meta;
    of_part = octets_part;
    each = all_octets;
    number = number_fits;
  };
  joins = record { length_zeros = length_zeros; part_zeros = part_zeros; zeros_within = part_in ranges; part_whole = part_whole; part_past = part_past };
  fields = record {
    joined = λ a b. joined a b;
    one_octet = λ a b. one_octet a b;
    number = number_agrees;
    part = part_agrees ranges;
    rows = parts_agree ranges;
    meta = meta_agrees ranges;
    whole = λ a b. all_agree a b;
  };
}
