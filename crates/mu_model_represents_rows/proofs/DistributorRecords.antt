-- Records that are a distributor's.
use Rattle.std.proofs.Common.{◌≡◌, ℕ, zero, suc, ◌+◌, ◌*◌, ◌<◌, ◌≤◌, true, None, inl, inr, List, ◌++◌, length, take, drop, get_or, refl, sym, ◌∙◌, ap, arith}
use Rattle.std.specs.Prelude.{replicate, slice_get, slice_index, slice_index_or}
use Rattle.std.proofs.lemmas.List.{get_or-drop, get_or-take, drop_at, drop-drop, ext_get_or, length-drop, length-take-le, get_or-replicate, length-replicate}
use Rattle.mu_model_flash.specs.Bits.{part_of}
use Rattle.mu_model_record.specs.Record.{zeros, entry_of, IsFilling}
use Rattle.mu_model_represents.specs.BlobPart.{note_part}
use Rattle.mu_model_represents.specs.Images.{IsSealed, is_among}
use Rattle.mu_model_represents_distributor.specs.RepresentsDistributor.{IsDistributorRecord}
use Rattle.mu_model_represents_distributor.specs.DistributorNote.{IsRow}
use Rattle.mu_model_represents_rows.specs.DistributorRecords as d

-- ---- rows past the last

zeros_at : (n k m i : ℕ) → k + m ≤ n → i < m → get_or (take m (drop k (replicate {A = ℕ} n 0))) i 0 ≡ get_or (replicate {A = ℕ} m 0) i 0
zeros_at n k m i within low =
    get_or-take m (drop k (replicate n 0)) i 0 low ∙ get_or-drop k (replicate n 0) i 0 ∙ get_or-replicate n (k + i) 0 0 (omega arith) ∙ sym (get_or-replicate m i 0 0 low)

some_zeros : (n k m : ℕ) → k + m ≤ n → take m (drop k (replicate {A = ℕ} n 0)) ≡ replicate m 0
some_zeros n k m within =
    let many : length (take m (drop k (replicate {A = ℕ} n 0))) ≡ m = length-take-le m (drop k (replicate n 0)) (omega (arith, length-drop k (replicate {A = ℕ} n 0), length-replicate {A = ℕ} n 0)) in
    ext_get_or 0 (take m (drop k (replicate n 0))) (replicate m 0) (many ∙ sym (length-replicate m 0)) (λ i lt. zeros_at n k m i within (omega (arith, lt, many)))

-- six octets behind what is written
row_behind : (written : List ℕ) (n place k : ℕ) → place ≡ length written + k → k + 6 ≤ n → part_of (written ++ zeros n) place 6 ≡ zeros 6
unfolding part_of zeros
row_behind written n place k at within =
    ap (λ p. take 6 (drop p (written ++ replicate n 0))) at ∙ ap (take 6) (sym (drop-drop k (length written) (written ++ replicate n 0)) ∙ ap (drop k) (drop_at written (replicate n 0) (length written) refl))
    ∙ some_zeros n k 6 within

-- ---- nothing but the four banks

least_none : (b : ℕ) → IsFilling (entry_of d.least_record b) → ⊥
least_none zero h = h
least_none (suc zero) h = h
least_none (suc (suc zero)) h = h
least_none (suc (suc (suc zero))) h = h
least_none (suc (suc (suc (suc b)))) h = h

least_sealed : (b : ℕ) → IsSealed (entry_of d.least_record b) → is_among (d.least_note).banks b ≡ true
least_sealed zero h = absurd h
least_sealed (suc zero) h = absurd h
least_sealed (suc (suc zero)) h = absurd h
least_sealed (suc (suc (suc zero))) h = absurd h
least_sealed (suc (suc (suc (suc b)))) h = absurd h

least_banks : (k : ℕ) → k < 4 → slice_index (note_part (d.least_record).tag) (4 + k) ≡ slice_index_or (d.least_note).banks k 0
unfolding part_of zeros
least_banks zero h = refl
least_banks (suc zero) h = refl
least_banks (suc (suc zero)) h = refl
least_banks (suc (suc (suc zero))) h = refl
least_banks (suc (suc (suc (suc k)))) h = absurd (omega (arith, h))

least_tag : note_part (d.least_record).tag ≡ d.least_written ++ zeros 1600
unfolding part_of zeros
least_tag = refl

least_place : (k : ℕ) → 128 + 6 * k ≡ length d.least_written + 6 * k
unfolding zeros
least_place k = least_sum k (length d.least_written) refl
  where
    least_sum : (k n : ℕ) → n ≡ 128 → 128 + 6 * k ≡ n + 6 * k
    least_sum k n e = omega (arith, e)

least_rows : (k : ℕ) → k < 128 → IsRow (slice_get (d.least_note).receivers k) (part_of (note_part (d.least_record).tag) (128 + 6 * k) 6)
least_rows k h = ap (λ xs. part_of xs (128 + 6 * k) 6) least_tag ∙ row_behind d.least_written 1600 (128 + 6 * k) (6 * k) (least_place k) (omega (arith, h))

least_is : IsDistributorRecord d.least_record None d.least_note
unfolding part_of zeros
least_is = record {
  four_banks = refl;
  blob = record { octets = refl; rules = least_none };
  note_octets = record {
    kind_at_0 = refl;
    phase_at_1 = refl;
    upload_at_2 = refl;
    images_at_3 = refl;
    few_images = omega arith;
    banks_at_4 = least_banks;
    counter_at_8 = refl;
    settings_at_16 = record { ttl_at_16 = refl; base_at_17 = refl; mode_at_19 = refl; policy_at_19 = refl; image_at_20 = refl; group_at_22 = refl; appkey_at_24 = refl };
    receivers_at_26 = refl;
    few_receivers = omega arith;
    upload_ttl_at_27 = refl;
    upload_metadata_at_28 = refl;
    zero_at_68 = refl;
    rows_at_128 = least_rows;
    zero_at_896 = refl;
  };
  banks_differ = tt;
  banks_sealed = tt;
  all_sealed = least_sealed;
  counter = omega arith;
  unbegun = λ e. (refl, refl);
  begun = λ e. absurd (omega (arith, e));
  image = λ e. absurd cc;
  some_receiver = λ e. absurd cc;
  receivers = tt;
  addresses = tt;
  upload = refl;
  upload_job = tt;
}

-- ---- each number at its greatest

most_none : (b : ℕ) → IsFilling (entry_of d.most_record b) → ⊥
most_none zero h = h
most_none (suc zero) h = h
most_none (suc (suc zero)) h = h
most_none (suc (suc (suc zero))) h = h
most_none (suc (suc (suc (suc b)))) h = h

most_sealed : (b : ℕ) → IsSealed (entry_of d.most_record b) → is_among (d.most_note).banks b ≡ true
most_sealed zero h = refl
most_sealed (suc zero) h = refl
most_sealed (suc (suc zero)) h = refl
most_sealed (suc (suc (suc zero))) h = refl
most_sealed (suc (suc (suc (suc b)))) h = absurd h

most_banks : (k : ℕ) → k < 4 → slice_index (note_part (d.most_record).tag) (4 + k) ≡ slice_index_or (d.most_note).banks k 0
unfolding part_of zeros
most_banks zero h = refl
most_banks (suc zero) h = refl
most_banks (suc (suc zero)) h = refl
most_banks (suc (suc (suc zero))) h = refl
most_banks (suc (suc (suc (suc k)))) h = absurd (omega (arith, h))

most_tag : note_part (d.most_record).tag ≡ d.most_written ++ zeros 1594
unfolding part_of zeros
most_tag = refl

most_place : (k : ℕ) → 128 + 6 * suc k ≡ length d.most_written + 6 * k
unfolding zeros
most_place k = most_sum k (length d.most_written) refl
  where
    most_sum : (k n : ℕ) → n ≡ 134 → 128 + 6 * suc k ≡ n + 6 * k
    most_sum k n e = omega (arith, e)

most_behind : (k : ℕ) → suc k < 128 → part_of (note_part (d.most_record).tag) (128 + 6 * suc k) 6 ≡ zeros 6
most_behind k h = ap (λ xs. part_of xs (128 + 6 * suc k) 6) most_tag ∙ row_behind d.most_written 1594 (128 + 6 * suc k) (6 * k) (most_place k) (omega (arith, h))

most_rows : (k : ℕ) → k < 128 → IsRow (slice_get (d.most_note).receivers k) (part_of (note_part (d.most_record).tag) (128 + 6 * k) 6)
unfolding part_of zeros
most_rows zero h = record { address_at_0 = refl; index_at_2 = refl; phase_at_3 = refl; update_status_at_4 = refl; transfer_status_at_5 = refl }
most_rows (suc k) h = most_behind k h

most_is : IsDistributorRecord d.most_record None d.most_note
unfolding part_of zeros
most_is = record {
  four_banks = refl;
  blob = record { octets = refl; rules = most_none };
  note_octets = record {
    kind_at_0 = refl;
    phase_at_1 = refl;
    upload_at_2 = refl;
    images_at_3 = refl;
    few_images = omega arith;
    banks_at_4 = most_banks;
    counter_at_8 = refl;
    settings_at_16 = record { ttl_at_16 = refl; base_at_17 = refl; mode_at_19 = refl; policy_at_19 = refl; image_at_20 = refl; group_at_22 = refl; appkey_at_24 = refl };
    receivers_at_26 = refl;
    few_receivers = omega arith;
    upload_ttl_at_27 = refl;
    upload_metadata_at_28 = refl;
    zero_at_68 = refl;
    rows_at_128 = most_rows;
    zero_at_896 = refl;
  };
  banks_differ = (refl, (refl, (refl, (refl, tt))));
  banks_sealed = (tt, (tt, (tt, (tt, tt))));
  all_sealed = most_sealed;
  counter = omega arith;
  unbegun = λ e. absurd (omega (arith, e));
  begun = λ e. record { appkey = omega arith; ttl = omega arith; base = omega arith; mode_above = omega arith; mode_below = omega arith; policy = omega arith; image = omega arith; group = inr (omega arith, omega arith) };
  image = λ e. absurd cc;
  some_receiver = λ e. absurd cc;
  receivers = (record { address_above = omega arith; address_below = omega arith; index = omega arith; phase = omega arith; update_status = omega arith; transfer_status = omega arith }, tt);
  addresses = (refl, tt);
  upload = refl;
  upload_job = tt;
}

-- ---- a suspended distribution of the last of four images, each other number at its least

last_image_none : (b : ℕ) → IsFilling (entry_of d.last_image_record b) → ⊥
last_image_none zero h = h
last_image_none (suc zero) h = h
last_image_none (suc (suc zero)) h = h
last_image_none (suc (suc (suc zero))) h = h
last_image_none (suc (suc (suc (suc b)))) h = h

last_image_sealed : (b : ℕ) → IsSealed (entry_of d.last_image_record b) → is_among (d.last_image_note).banks b ≡ true
last_image_sealed zero h = refl
last_image_sealed (suc zero) h = refl
last_image_sealed (suc (suc zero)) h = refl
last_image_sealed (suc (suc (suc zero))) h = refl
last_image_sealed (suc (suc (suc (suc b)))) h = absurd h

last_image_banks : (k : ℕ) → k < 4 → slice_index (note_part (d.last_image_record).tag) (4 + k) ≡ slice_index_or (d.last_image_note).banks k 0
unfolding part_of zeros
last_image_banks zero h = refl
last_image_banks (suc zero) h = refl
last_image_banks (suc (suc zero)) h = refl
last_image_banks (suc (suc (suc zero))) h = refl
last_image_banks (suc (suc (suc (suc k)))) h = absurd (omega (arith, h))

last_image_tag : note_part (d.last_image_record).tag ≡ d.last_image_written ++ zeros 1594
unfolding part_of zeros
last_image_tag = refl

last_image_place : (k : ℕ) → 128 + 6 * suc k ≡ length d.last_image_written + 6 * k
unfolding zeros
last_image_place k = last_image_sum k (length d.last_image_written) refl
  where
    last_image_sum : (k n : ℕ) → n ≡ 134 → 128 + 6 * suc k ≡ n + 6 * k
    last_image_sum k n e = omega (arith, e)

last_image_behind : (k : ℕ) → suc k < 128 → part_of (note_part (d.last_image_record).tag) (128 + 6 * suc k) 6 ≡ zeros 6
last_image_behind k h = ap (λ xs. part_of xs (128 + 6 * suc k) 6) last_image_tag ∙ row_behind d.last_image_written 1594 (128 + 6 * suc k) (6 * k) (last_image_place k) (omega (arith, h))

last_image_rows : (k : ℕ) → k < 128 → IsRow (slice_get (d.last_image_note).receivers k) (part_of (note_part (d.last_image_record).tag) (128 + 6 * k) 6)
unfolding part_of zeros
last_image_rows zero h = record { address_at_0 = refl; index_at_2 = refl; phase_at_3 = refl; update_status_at_4 = refl; transfer_status_at_5 = refl }
last_image_rows (suc k) h = last_image_behind k h

last_image_is : IsDistributorRecord d.last_image_record None d.last_image_note
unfolding part_of zeros
last_image_is = record {
  four_banks = refl;
  blob = record { octets = refl; rules = last_image_none };
  note_octets = record {
    kind_at_0 = refl;
    phase_at_1 = refl;
    upload_at_2 = refl;
    images_at_3 = refl;
    few_images = omega arith;
    banks_at_4 = last_image_banks;
    counter_at_8 = refl;
    settings_at_16 = record { ttl_at_16 = refl; base_at_17 = refl; mode_at_19 = refl; policy_at_19 = refl; image_at_20 = refl; group_at_22 = refl; appkey_at_24 = refl };
    receivers_at_26 = refl;
    few_receivers = omega arith;
    upload_ttl_at_27 = refl;
    upload_metadata_at_28 = refl;
    zero_at_68 = refl;
    rows_at_128 = last_image_rows;
    zero_at_896 = refl;
  };
  banks_differ = (refl, (refl, (refl, (refl, tt))));
  banks_sealed = (tt, (tt, (tt, (tt, tt))));
  all_sealed = last_image_sealed;
  counter = omega arith;
  unbegun = λ e. absurd (omega (arith, e));
  begun = λ e. record { appkey = omega arith; ttl = omega arith; base = omega arith; mode_above = omega arith; mode_below = omega arith; policy = omega arith; image = omega arith; group = inr (omega arith, omega arith) };
  image = λ e. omega arith;
  some_receiver = λ e. omega arith;
  receivers = (record { address_above = omega arith; address_below = omega arith; index = omega arith; phase = omega arith; update_status = omega arith; transfer_status = omega arith }, tt);
  addresses = (refl, tt);
  upload = tt;
  upload_job = tt;
}

-- ---- an upload into the last bank, beside a distribution that has failed

uploading_none : (b : ℕ) → IsFilling (entry_of d.uploading_record b) → ⊥
uploading_none zero h = h
uploading_none (suc zero) h = h
uploading_none (suc (suc zero)) h = h
uploading_none (suc (suc (suc zero))) h = h
uploading_none (suc (suc (suc (suc b)))) h = h

uploading_sealed : (b : ℕ) → IsSealed (entry_of d.uploading_record b) → is_among (d.uploading_note).banks b ≡ true
uploading_sealed zero h = absurd h
uploading_sealed (suc zero) h = absurd h
uploading_sealed (suc (suc zero)) h = absurd h
uploading_sealed (suc (suc (suc zero))) h = absurd h
uploading_sealed (suc (suc (suc (suc b)))) h = absurd h

uploading_banks : (k : ℕ) → k < 4 → slice_index (note_part (d.uploading_record).tag) (4 + k) ≡ slice_index_or (d.uploading_note).banks k 0
unfolding part_of zeros
uploading_banks zero h = refl
uploading_banks (suc zero) h = refl
uploading_banks (suc (suc zero)) h = refl
uploading_banks (suc (suc (suc zero))) h = refl
uploading_banks (suc (suc (suc (suc k)))) h = absurd (omega (arith, h))

uploading_tag : note_part (d.uploading_record).tag ≡ d.uploading_written ++ zeros 1600
unfolding part_of zeros
uploading_tag = refl

uploading_place : (k : ℕ) → 128 + 6 * k ≡ length d.uploading_written + 6 * k
unfolding zeros
uploading_place k = uploading_sum k (length d.uploading_written) refl
  where
    uploading_sum : (k n : ℕ) → n ≡ 128 → 128 + 6 * k ≡ n + 6 * k
    uploading_sum k n e = omega (arith, e)

uploading_rows : (k : ℕ) → k < 128 → IsRow (slice_get (d.uploading_note).receivers k) (part_of (note_part (d.uploading_record).tag) (128 + 6 * k) 6)
uploading_rows k h = ap (λ xs. part_of xs (128 + 6 * k) 6) uploading_tag ∙ row_behind d.uploading_written 1600 (128 + 6 * k) (6 * k) (uploading_place k) (omega (arith, h))

uploading_is : IsDistributorRecord d.uploading_record d.uploading_part d.uploading_note
unfolding part_of zeros
uploading_is = record {
  four_banks = refl;
  blob = record { octets = record { there_at_0 = refl; parameters = record { no_mode_at_1 = refl; no_mtu_at_2 = refl; no_log_at_19 = refl }; id_at_4 = refl; size_at_12 = refl; base_at_16 = refl; bank_at_18 = refl; zero_at_20 = refl }; rules = record { size_least = omega arith; size_most = omega arith; bank = omega arith; goes_with = uploading_none } };
  note_octets = record {
    kind_at_0 = refl;
    phase_at_1 = refl;
    upload_at_2 = refl;
    images_at_3 = refl;
    few_images = omega arith;
    banks_at_4 = uploading_banks;
    counter_at_8 = refl;
    settings_at_16 = record { ttl_at_16 = refl; base_at_17 = refl; mode_at_19 = refl; policy_at_19 = refl; image_at_20 = refl; group_at_22 = refl; appkey_at_24 = refl };
    receivers_at_26 = refl;
    few_receivers = omega arith;
    upload_ttl_at_27 = refl;
    upload_metadata_at_28 = refl;
    zero_at_68 = refl;
    rows_at_128 = uploading_rows;
    zero_at_896 = refl;
  };
  banks_differ = tt;
  banks_sealed = tt;
  all_sealed = uploading_sealed;
  counter = omega arith;
  unbegun = λ e. absurd (omega (arith, e));
  begun = λ e. record { appkey = omega arith; ttl = omega arith; base = omega arith; mode_above = omega arith; mode_below = omega arith; policy = omega arith; image = omega arith; group = inl refl };
  image = λ e. absurd cc;
  some_receiver = λ e. absurd cc;
  receivers = tt;
  addresses = tt;
  upload = (refl, refl);
  upload_job = record { bank = refl; size = refl };
}

-- ---- one that was broken off, during a distribution

broken_none : (b : ℕ) → IsFilling (entry_of d.broken_record b) → ⊥
broken_none zero h = h
broken_none (suc zero) h = h
broken_none (suc (suc zero)) h = h
broken_none (suc (suc (suc zero))) h = h
broken_none (suc (suc (suc (suc b)))) h = h

broken_sealed : (b : ℕ) → IsSealed (entry_of d.broken_record b) → is_among (d.broken_note).banks b ≡ true
broken_sealed zero h = refl
broken_sealed (suc zero) h = absurd h
broken_sealed (suc (suc zero)) h = absurd h
broken_sealed (suc (suc (suc zero))) h = absurd h
broken_sealed (suc (suc (suc (suc b)))) h = absurd h

broken_banks : (k : ℕ) → k < 4 → slice_index (note_part (d.broken_record).tag) (4 + k) ≡ slice_index_or (d.broken_note).banks k 0
unfolding part_of zeros
broken_banks zero h = refl
broken_banks (suc zero) h = refl
broken_banks (suc (suc zero)) h = refl
broken_banks (suc (suc (suc zero))) h = refl
broken_banks (suc (suc (suc (suc k)))) h = absurd (omega (arith, h))

broken_tag : note_part (d.broken_record).tag ≡ d.broken_written ++ zeros 1594
unfolding part_of zeros
broken_tag = refl

broken_place : (k : ℕ) → 128 + 6 * suc k ≡ length d.broken_written + 6 * k
unfolding zeros
broken_place k = broken_sum k (length d.broken_written) refl
  where
    broken_sum : (k n : ℕ) → n ≡ 134 → 128 + 6 * suc k ≡ n + 6 * k
    broken_sum k n e = omega (arith, e)

broken_behind : (k : ℕ) → suc k < 128 → part_of (note_part (d.broken_record).tag) (128 + 6 * suc k) 6 ≡ zeros 6
broken_behind k h = ap (λ xs. part_of xs (128 + 6 * suc k) 6) broken_tag ∙ row_behind d.broken_written 1594 (128 + 6 * suc k) (6 * k) (broken_place k) (omega (arith, h))

broken_rows : (k : ℕ) → k < 128 → IsRow (slice_get (d.broken_note).receivers k) (part_of (note_part (d.broken_record).tag) (128 + 6 * k) 6)
unfolding part_of zeros
broken_rows zero h = record { address_at_0 = refl; index_at_2 = refl; phase_at_3 = refl; update_status_at_4 = refl; transfer_status_at_5 = refl }
broken_rows (suc k) h = broken_behind k h

broken_is : IsDistributorRecord d.broken_record d.broken_part d.broken_note
unfolding part_of zeros
broken_is = record {
  four_banks = refl;
  blob = record { octets = record { there_at_0 = refl; parameters = record { no_mode_at_1 = refl; no_mtu_at_2 = refl; no_log_at_19 = refl }; id_at_4 = refl; size_at_12 = refl; base_at_16 = refl; bank_at_18 = refl; zero_at_20 = refl }; rules = record { size_least = omega arith; size_most = omega arith; bank = omega arith; goes_with = broken_none } };
  note_octets = record {
    kind_at_0 = refl;
    phase_at_1 = refl;
    upload_at_2 = refl;
    images_at_3 = refl;
    few_images = omega arith;
    banks_at_4 = broken_banks;
    counter_at_8 = refl;
    settings_at_16 = record { ttl_at_16 = refl; base_at_17 = refl; mode_at_19 = refl; policy_at_19 = refl; image_at_20 = refl; group_at_22 = refl; appkey_at_24 = refl };
    receivers_at_26 = refl;
    few_receivers = omega arith;
    upload_ttl_at_27 = refl;
    upload_metadata_at_28 = refl;
    zero_at_68 = refl;
    rows_at_128 = broken_rows;
    zero_at_896 = refl;
  };
  banks_differ = (refl, tt);
  banks_sealed = (tt, tt);
  all_sealed = broken_sealed;
  counter = omega arith;
  unbegun = λ e. absurd (omega (arith, e));
  begun = λ e. record { appkey = omega arith; ttl = omega arith; base = omega arith; mode_above = omega arith; mode_below = omega arith; policy = omega arith; image = omega arith; group = inl refl };
  image = λ e. omega arith;
  some_receiver = λ e. omega arith;
  receivers = (record { address_above = omega arith; address_below = omega arith; index = omega arith; phase = omega arith; update_status = omega arith; transfer_status = omega arith }, tt);
  addresses = (refl, tt);
  upload = tt;
  upload_job = record { bank = refl; size = refl };
}

pub distributor_records : d.DistributorRecords
distributor_records = record { least = least_is; most = most_is; last_image = last_image_is; uploading = uploading_is; broken = broken_is }
