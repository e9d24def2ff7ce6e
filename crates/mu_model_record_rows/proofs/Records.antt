-- Worked rows of records.
use Rattle.std.proofs.Common.{◌≡◌, ◌↔◌, ℕ, ◌+◌, ◌*◌, ◌<◌, zero, suc, true, refl, inl, inr, arith, drop}
use Rattle.std.proofs.lemmas.Slice.Eq.{bytes_eq-Decides}
use Rattle.mu_model_flash.specs.Bits.{part_of}
use Rattle.mu_model_record.specs.declared.Record.{Record}
use Rattle.mu_model_record.specs.Next.{is_short}
use Rattle.mu_model_record.specs.Record.{IsEntry, IsSpelled, IsShort, entry_of, zeros}
use Rattle.mu_model_record_rows.specs.Records.{EachRecord, sealed_and_filling, spelled}

entries : (format b : ℕ) → b < 4 → IsEntry (entry_of sealed_and_filling b) (part_of (spelled format) (16 + 48 * b) 48)
unfolding part_of zeros
entries format zero l = record { state = refl; no_log_at_1 = refl; zero_at_2 = refl; no_size_at_4 = refl; metadata_at_8 = refl }
entries format (suc zero) l = record { state = refl; log_at_1 = refl; zero_at_2 = refl; size_at_4 = refl; no_metadata_at_8 = refl }
entries format (suc (suc zero)) l = refl
entries format (suc (suc (suc zero))) l = refl
entries format (suc (suc (suc (suc b)))) l = absurd (omega (arith, l))

is_spelled : (format : ℕ) → IsSpelled format sealed_and_filling (spelled format)
unfolding part_of zeros
is_spelled format = record {
  whole = refl;
  name_at_0 = refl;
  format_at_4 = refl;
  number_at_5 = refl;
  pages_at_6 = refl;
  count_at_8 = refl;
  zero_at_12 = refl;
  bank_at_16 = entries format;
  zero_at_208 = refl;
  tag_at_256 = refl;
}

short_is : (r : Record) → (is_short r ≡ true) ↔ IsShort r
short_is r = bytes_eq-Decides (drop 256 r.tag) (zeros 1536)

pub each_record : EachRecord
unfolding part_of zeros
each_record = record {
  long = is_spelled 1;
  short = is_spelled 2;
  short_is = short_is;
  short_there = refl;
  none_short = refl;
  last_octet = refl;
  tag_less = λ h. (let e : 1791 ≡ 1792 = h.tag_size in absurd (omega (arith, e)));
  tag_more = λ h. (let e : 1793 ≡ 1792 = h.tag_size in absurd (omega (arith, e)));
  short_operations = refl;
  long_operations = refl;
  first_leaves_old = refl;
  last_makes_new = refl;
  short_fresh = refl;
  long_fresh = refl;
  block_operations = refl;
  marked_last = refl;
  pages = refl;
  capacity = refl;
  marks = refl;
  banks = refl;
  blocks = refl;
  lower_page = inl (omega arith);
  higher_page = λ h. elim h [ inl l ↦ absurd (omega (arith, l)) | inr e ↦ absurd cc ];
  lower_slot = inr (refl, omega arith);
  higher_slot = λ h. elim h [ inl l ↦ absurd (omega (arith, l)) | inr e ↦ (let l = e.1 in absurd (omega (arith, l))) ];
  page_begins = inr (refl, omega arith);
  coded_is = refl;
  content_is = refl;
  code = refl;
  no_code = refl;
  first_counts = refl;
  odd = refl;
}
