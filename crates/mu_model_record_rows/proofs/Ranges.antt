-- Ranges of a record's fields.
use Rattle.std.proofs.Common.{◌≡◌, ℕ, ◌^◌, ◌<◌, ◌≤◌, zero, suc, replicate, refl, arith}
use Rattle.std.specs.Prelude.{slice_index}
use Rattle.std.proofs.lemmas.List.Elements.{All-replicate}
use Rattle.mu_model_image.specs.Meta.{IsMeta}
use Rattle.mu_model_record.specs.declared.Record.{Record}
use Rattle.mu_model_record.specs.declared.BankState.TheVariants.{Empty, Filling}
use Rattle.mu_model_record.specs.Record.{IsRecord, IsFilling, IsEntryInRange, entry_of}
use Rattle.mu_model_record_rows.specs.Ranges.{EachRange, of_numbers, of_banks, meta_of}

zero_octets : (n i : ℕ) → slice_index (replicate n 0) i < 256
zero_octets zero i = omega arith
zero_octets (suc n) zero = omega arith
zero_octets (suc n) (suc i) = zero_octets n i

empty_entries : (r : Record) (count pages number b : ℕ) → IsEntryInRange r (entry_of (of_numbers count pages number) b)
empty_entries r count pages number zero = tt
empty_entries r count pages number (suc zero) = tt
empty_entries r count pages number (suc (suc zero)) = tt
empty_entries r count pages number (suc (suc (suc zero))) = tt
empty_entries r count pages number (suc (suc (suc (suc b)))) = tt

none_there : (count pages number b : ℕ) → b < 4 → entry_of (of_numbers count pages number) b ≡ Empty
none_there count pages number zero l = refl
none_there count pages number (suc zero) l = refl
none_there count pages number (suc (suc zero)) l = refl
none_there count pages number (suc (suc (suc zero))) l = refl
none_there count pages number (suc (suc (suc (suc b)))) l = absurd (omega (arith, l))

none_filling : (count pages number b : ℕ) → IsFilling (entry_of (of_numbers count pages number) b) → ⊥
none_filling count pages number zero h = h
none_filling count pages number (suc zero) h = h
none_filling count pages number (suc (suc zero)) h = h
none_filling count pages number (suc (suc (suc zero))) h = h
none_filling count pages number (suc (suc (suc (suc b)))) h = h

least_is : IsRecord (of_numbers 1 1 2)
least_is = record {
  number_least = omega arith;
  number_most = omega arith;
  pages_least = omega arith;
  pages_most = omega arith;
  count_least = omega arith;
  count_most = omega arith;
  four = refl;
  entries = λ b l. empty_entries (of_numbers 1 1 2) 1 1 2 b;
  not_there = λ b past l. none_there 1 1 2 b l;
  one_filling = λ a b h g. absurd (none_filling 1 1 2 a h);
  tag_size = refl;
  tag_octets = zero_octets 1792;
}

most_is : IsRecord (of_numbers 4294967295 256 4)
most_is = record {
  number_least = omega arith;
  number_most = omega arith;
  pages_least = omega arith;
  pages_most = omega arith;
  count_least = omega arith;
  count_most = omega arith;
  four = refl;
  entries = λ b l. empty_entries (of_numbers 4294967295 256 4) 4294967295 256 4 b;
  not_there = λ b past l. none_there 4294967295 256 4 b l;
  one_filling = λ a b h g. absurd (none_filling 4294967295 256 4 a h);
  tag_size = refl;
  tag_octets = zero_octets 1792;
}

-- ---- one bank is Filling

one_entry : (b : ℕ) → IsEntryInRange (of_banks Empty (Filling 1 12) Empty) (entry_of (of_banks Empty (Filling 1 12) Empty) b)
one_entry zero = tt
one_entry (suc zero) = (omega arith, omega arith, omega arith, omega arith)
one_entry (suc (suc zero)) = tt
one_entry (suc (suc (suc zero))) = tt
one_entry (suc (suc (suc (suc b)))) = tt

past_two : (b : ℕ) → 2 ≤ b → b < 4 → entry_of (of_banks Empty (Filling 1 12) Empty) b ≡ Empty
past_two zero past l = absurd (omega (arith, past))
past_two (suc zero) past l = absurd (omega (arith, past))
past_two (suc (suc zero)) past l = refl
past_two (suc (suc (suc zero))) past l = refl
past_two (suc (suc (suc (suc b)))) past l = absurd (omega (arith, l))

is_second : (b : ℕ) → IsFilling (entry_of (of_banks Empty (Filling 1 12) Empty) b) → b ≡ 1
is_second zero h = absurd h
is_second (suc zero) h = refl
is_second (suc (suc zero)) h = absurd h
is_second (suc (suc (suc zero))) h = absurd h
is_second (suc (suc (suc (suc b)))) h = absurd h

same_one : (a b : ℕ) → a ≡ 1 → b ≡ 1 → a ≡ b
same_one a b e f = omega (arith, e, f)

one_filling_is : IsRecord (of_banks Empty (Filling 1 12) Empty)
one_filling_is = record {
  number_least = omega arith;
  number_most = omega arith;
  pages_least = omega arith;
  pages_most = omega arith;
  count_least = omega arith;
  count_most = omega arith;
  four = refl;
  entries = λ b l. one_entry b;
  not_there = λ b past l. past_two b past l;
  one_filling = λ a b h g. same_one a b (is_second a h) (is_second b g);
  tag_size = refl;
  tag_octets = zero_octets 1792;
}

-- ---- metadata

is_meta : (size : ℕ) → 0 < size → size < 2 ^ 32 → IsMeta (meta_of size)
is_meta size some few = record { some = some; size = few; version = omega arith; digest_length = refl; digest_octets = All-replicate (λ octet. octet < 256) 32 0x5a (omega arith) }

filling_is_none : (Filling 1 12) ≡ Empty → ⊥
filling_is_none e = cc

zero_is_not_one : (a b : ℕ) → a ≡ 0 → b ≡ 1 → a ≡ b → ⊥
zero_is_not_one a b first second e = omega (arith, first, second, e)

pub each_range : EachRange
each_range = record {
  least = least_is;
  most = most_is;
  no_count = λ h. (let l = h.count_least in absurd (omega (arith, l)));
  past_count = λ h. (let l = h.count_most in absurd (omega (arith, l)));
  no_page = λ h. (let l = h.pages_least in absurd (omega (arith, l)));
  page_257 = λ h. (let l = h.pages_most in absurd (omega (arith, l)));
  one_bank = λ h. (let l = h.number_least in absurd (omega (arith, l)));
  five_banks = λ h. (let l = h.number_most in absurd (omega (arith, l)));
  bank_past = λ h. absurd (filling_is_none (h.not_there 2 (omega arith) (omega arith)));
  one_filling = one_filling_is;
  two_filling = λ h. zero_is_not_one 0 1 refl refl (h.one_filling 0 1 tt tt);
  least_filling = (omega arith, omega arith, omega arith, omega arith);
  most_filling = (omega arith, omega arith, omega arith, omega arith);
  no_size = λ h. (let l = h.0 in absurd (omega (arith, l)));
  past_bank = λ h. (let l = h.1 in absurd (omega (arith, l)));
  log_11 = λ h. (let l = h.2 in absurd (omega (arith, l)));
  log_15 = λ h. (let l = h.3 in absurd (omega (arith, l)));
  least_sealed = (is_meta 1 (omega arith) (omega arith), omega arith);
  most_sealed = (is_meta 4096 (omega arith) (omega arith), omega arith);
  sealed_none = λ h. (let l = h.0.some in absurd (omega (arith, l)));
  sealed_past = λ h. (let l = h.1 in absurd (omega (arith, l)));
}
