-- Notes of a distributor with as many receivers as there may be, and with one more.
use Rattle.std.proofs.Common.{◌≡◌, ℕ, zero, suc, ◌+◌, ◌*◌, ◌<◌, ◌≤◌, true, false, None, List, ◌++◌, length, take, drop, refl, sym, ◌∙◌, ap, subst, arith}
use Rattle.std.specs.Prelude.{map, slice_get, slice_index, slice_index_or, ◌||◌}
use Rattle.std.specs.List.{flat_map, range_with_len}
use Rattle.std.proofs.lemmas.List.{drop_at, drop-drop}
use Rattle.std.proofs.lemmas.Bool.{ne_eqb}
use Rattle.mu_model_flash.specs.Bits.{part_of}
use Rattle.mu_model_record.specs.Record.{zeros, entry_of, IsFilling}
use Rattle.mu_model_distributor.specs.Receivers.{has_address}
use Rattle.mu_model_distributor.specs.Sound.{AreReceivers, AddressesDiffer}
use Rattle.mu_model_represents.specs.BlobPart.{note_part}
use Rattle.mu_model_represents.specs.Images.{IsSealed, is_among}
use Rattle.mu_model_represents_distributor.specs.RepresentsDistributor.{IsDistributorRecord, IsNoDistributorRecord}
use Rattle.mu_model_represents_distributor.specs.DistributorNote.{IsRow}
use Rattle.mu_model_represents_rows.specs.ManyReceivers as d

-- ---- rows, the first of them at this address

next_row : (k : ℕ) → 6 * suc k ≡ 6 + 6 * k
next_row k = omega arith

row_at : (n k address : ℕ) (rest : List ℕ) → k < n → address + n ≤ 256 → IsRow (slice_get (map d.receiver_at (range_with_len address n)) k) (take 6 (drop (6 * k) (flat_map d.row_octets (range_with_len address n) ++ rest)))
row_at zero k address rest few low = absurd (omega (arith, few))
row_at (suc n) zero address rest few low = record {
  address_at_0 = omega arith;
  index_at_2 = refl;
  phase_at_3 = refl;
  update_status_at_4 = refl;
  transfer_status_at_5 = refl;
}
row_at (suc n) (suc k) address rest few low =
    let others = row_at n k (address + 1) rest (omega (arith, few)) (omega (arith, low)) in
    let place : take 6 (drop (6 * suc k) (flat_map d.row_octets (range_with_len address (suc n)) ++ rest)) ≡ take 6 (drop (6 * k) (flat_map d.row_octets (range_with_len (address + 1) n) ++ rest)) =
    ap (λ (p : ℕ). take 6 (drop p (flat_map d.row_octets (range_with_len address (suc n)) ++ rest))) (next_row k)
    ∙ ap (take 6) (sym (drop-drop (6 * k) 6 (flat_map d.row_octets (range_with_len address (suc n)) ++ rest))) in
    subst (λ (xs : List ℕ). IsRow (slice_get (map d.receiver_at (range_with_len (address + 1) n)) k) xs) (sym place) others

-- ---- their addresses

not_before : (n address other : ℕ) → other < address → has_address (map d.receiver_at (range_with_len address n)) other ≡ false
not_before zero address other less = refl
not_before (suc n) address other less =
    let rest = not_before n (address + 1) other (omega (arith, less)) in
    ap (λ b. b || has_address (map d.receiver_at (range_with_len (address + 1) n)) other) (ne_eqb address other (λ e. omega (arith, e, less))) ∙ rest

all_differ : (n address : ℕ) → AddressesDiffer (map d.receiver_at (range_with_len address n))
all_differ zero address = tt
all_differ (suc n) address = (not_before n (address + 1) address (omega arith), all_differ n (address + 1))

are_receivers : (n address : ℕ) → 1 ≤ address → address + n ≤ 0x8000 → AreReceivers (map d.receiver_at (range_with_len address n))
are_receivers zero address above below = tt
are_receivers (suc n) address above below =
    (record { address_above = above; address_below = omega (arith, below); index = omega arith; phase = omega arith; update_status = omega arith; transfer_status = omega arith }, are_receivers n (address + 1) (omega arith) (omega (arith, below)))

-- ---- the note

most_none : (b : ℕ) → IsFilling (entry_of d.most_record b) → ⊥
most_none zero h = h
most_none (suc zero) h = h
most_none (suc (suc zero)) h = h
most_none (suc (suc (suc zero))) h = h
most_none (suc (suc (suc (suc b)))) h = h

most_sealed : (b : ℕ) → IsSealed (entry_of d.most_record b) → is_among (d.most_note).banks b ≡ true
most_sealed zero h = absurd h
most_sealed (suc zero) h = absurd h
most_sealed (suc (suc zero)) h = absurd h
most_sealed (suc (suc (suc zero))) h = absurd h
most_sealed (suc (suc (suc (suc b)))) h = absurd h

most_banks : (k : ℕ) → k < 4 → slice_index (note_part (d.most_record).tag) (4 + k) ≡ slice_index_or (d.most_note).banks k 0
unfolding part_of zeros
most_banks zero h = refl
most_banks (suc zero) h = refl
most_banks (suc (suc zero)) h = refl
most_banks (suc (suc (suc zero))) h = refl
most_banks (suc (suc (suc (suc k)))) h = absurd (omega (arith, h))

most_tag : note_part (d.most_record).tag ≡ d.written_for 128 ++ (flat_map d.row_octets (range_with_len 1 128) ++ zeros 832)
unfolding part_of zeros
most_tag = refl

most_head : length (d.written_for 128) ≡ 128
unfolding zeros
most_head = refl

-- what stands behind the head
behind : (head rest : List ℕ) (k : ℕ) → length head ≡ 128 → take 6 (drop (128 + 6 * k) (head ++ rest)) ≡ take 6 (drop (6 * k) rest)
behind head rest k is =
    ap (λ (p : ℕ). take 6 (drop (p + 6 * k) (head ++ rest))) (sym is)
    ∙ ap (take 6) (sym (drop-drop (6 * k) (length head) (head ++ rest)) ∙ ap (drop (6 * k)) (drop_at head rest (length head) refl))

most_rows : (k : ℕ) → k < 128 → IsRow (slice_get (d.most_note).receivers k) (part_of (note_part (d.most_record).tag) (128 + 6 * k) 6)
unfolding part_of
most_rows k h =
    let place = ap (λ (xs : List ℕ). take 6 (drop (128 + 6 * k) xs)) most_tag ∙ behind (d.written_for 128) (flat_map d.row_octets (range_with_len 1 128) ++ zeros 832) k most_head in
    subst (λ (xs : List ℕ). IsRow (slice_get (d.most_note).receivers k) xs) (sym place) (row_at 128 k 1 (zeros 832) h (omega arith))

most_is : IsDistributorRecord d.most_record None d.most_note
unfolding part_of zeros
most_is = record {
  four_banks = refl;
  blob = record { octets = refl; rules = most_none };
  note_octets = record {
    kind_at_0 = refl;
    phase_at_1 = refl;
    upload_at_2 = refl;
    images_at_3 = refl;
    few_images = omega arith;
    banks_at_4 = most_banks;
    counter_at_8 = refl;
    settings_at_16 = record { ttl_at_16 = refl; base_at_17 = refl; mode_at_19 = refl; policy_at_19 = refl; image_at_20 = refl; group_at_22 = refl; appkey_at_24 = refl };
    receivers_at_26 = refl;
    few_receivers = omega arith;
    upload_ttl_at_27 = refl;
    upload_metadata_at_28 = refl;
    zero_at_68 = refl;
    rows_at_128 = most_rows;
    zero_at_896 = refl;
  };
  banks_differ = tt;
  banks_sealed = tt;
  all_sealed = most_sealed;
  counter = omega arith;
  unbegun = λ e. (refl, refl);
  begun = λ e. absurd (omega (arith, e));
  image = λ e. absurd cc;
  some_receiver = λ e. absurd cc;
  receivers = are_receivers 128 1 (omega arith) (omega arith);
  addresses = all_differ 128 1;
  upload = refl;
  upload_job = tt;
}

-- ---- one more

longer_number : slice_index (note_part (d.longer_record).tag) 26 ≡ 129
unfolding part_of zeros
longer_number = refl

longer_is_none : IsNoDistributorRecord d.longer_record
longer_is_none part n h =
    let is : 129 ≡ length n.receivers = sym longer_number ∙ h.note_octets.receivers_at_26 in
    let few = h.note_octets.few_receivers in
    omega (arith, is, few)

pub many_receivers : d.ManyReceivers
many_receivers = record { most = most_is; one_more = longer_is_none }
