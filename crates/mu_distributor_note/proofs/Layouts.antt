-- When octets are laid out as a distributor's note.
use Rattle.std.proofs.Common.{◌≡◌, ◌⊎◌, ⊎_elim, ℕ, zero, suc, ◌+◌, ◌-◌, ◌*◌, ◌/◌, ◌%◌, ◌<◌, ◌≤◌, List, length, map, get_or, Option, Some, None, refl, sym, ap, ◌∙◌, subst, arith}
use Rattle.std.specs.Prelude.{slice_get, slice_index}
use Rattle.std.specs.List.{range_with_len}
use Rattle.std.proofs.lemmas.List.{get_or_past}
use Rattle.std.proofs.lemmas.List.FromFn.{get_or-map-range_with_len, length-map-range_with_len}
use Rattle.std.proofs.lemmas.Option.{slice_get-get_or, slice_get_past}
use Rattle.mu_model_flash.specs.Bits.{part_of}
use Rattle.mu_model_record.specs.Record.{zeros}
use Rattle.mu_model_distributor.specs.declared.DistPhase.{DistPhase}
use Rattle.mu_model_distributor.specs.declared.DistPhase.TheVariants.{Idle, TransferActive, TransferSuccess, ApplyingUpdate, Completed, Failed, CancelingUpdate, TransferSuspended}
use Rattle.mu_model_distributor.specs.DistState.{Receiver, dist_number}
use Rattle.mu_model_represents_distributor.specs.DistributorNote.{UploadPhase, UploadIdle, UploadActive, UploadError, UploadSuccess, upload_phase_number, IsRow, SpellsReceiver, SpellsSettings, SpellsDistributor}
use Rattle.mu_model_stored_distributor.specs.DistributorIn.{phase_in, upload_in, settings_in, receiver_in, row_in, bank_in, note_in}
use Rattle.mu_distributor_note.specs.Layout.{HasNumbers, HasZeros}
use Rattle.mu_distributor_note.proofs.Octets.{zero_part, part_zero}

split : (a b : ℕ) → (a < b) ⊎ (b ≤ a)
split a b = grind arith

-- ---- numbers

phase_is : (n : ℕ) → n ≤ 7 → n ≡ dist_number (phase_in n)
phase_is zero h = refl
phase_is (suc zero) h = refl
phase_is (suc (suc zero)) h = refl
phase_is (suc (suc (suc zero))) h = refl
phase_is (suc (suc (suc (suc zero)))) h = refl
phase_is (suc (suc (suc (suc (suc zero))))) h = refl
phase_is (suc (suc (suc (suc (suc (suc zero)))))) h = refl
phase_is (suc (suc (suc (suc (suc (suc (suc zero))))))) h = refl
phase_is (suc (suc (suc (suc (suc (suc (suc (suc n)))))))) h = absurd (omega arith)

phase_below : (p : DistPhase) → dist_number p ≤ 7
phase_below Idle = omega arith
phase_below TransferActive = omega arith
phase_below TransferSuccess = omega arith
phase_below ApplyingUpdate = omega arith
phase_below Completed = omega arith
phase_below Failed = omega arith
phase_below CancelingUpdate = omega arith
phase_below TransferSuspended = omega arith

upload_is : (n : ℕ) → n ≤ 3 → n ≡ upload_phase_number (upload_in n)
upload_is zero h = refl
upload_is (suc zero) h = refl
upload_is (suc (suc zero)) h = refl
upload_is (suc (suc (suc zero))) h = refl
upload_is (suc (suc (suc (suc n)))) h = absurd (omega arith)

upload_below : (u : UploadPhase) → upload_phase_number u ≤ 3
upload_below UploadIdle = omega arith
upload_below UploadActive = omega arith
upload_below UploadError = omega arith
upload_below UploadSuccess = omega arith

-- ---- lists

bank_past : (o : List ℕ) (k : ℕ) → slice_index o 3 ≤ k → get_or (map (bank_in o) (range_with_len 0 (slice_index o 3))) k 0 ≡ 0
bank_past o k past = get_or_past _ k 0 (omega (arith, length-map-range_with_len (bank_in o) 0 (slice_index o 3), past))

bank_there : (o : List ℕ) (k : ℕ) → k < slice_index o 3 → get_or (map (bank_in o) (range_with_len 0 (slice_index o 3))) k 0 ≡ bank_in o k
bank_there o k there = get_or-map-range_with_len (bank_in o) 0 (slice_index o 3) k k 0 there (omega arith)

abbrev receivers_in : List ℕ → List Receiver
receivers_in o = map (row_in o) (range_with_len 0 (slice_index o 26))

row_past : (o : List ℕ) (k : ℕ) → slice_index o 26 ≤ k → slice_get (receivers_in o) k ≡ None
row_past o k past = slice_get_past (receivers_in o) k (omega (arith, length-map-range_with_len (row_in o) 0 (slice_index o 26), past))

row_there : (o : List ℕ) (k : ℕ) → k < slice_index o 26 → slice_get (receivers_in o) k ≡ Some (row_in o k)
row_there o k there =
    let none : Receiver = record { address = 0; index = 0; phase = 0; update_status = 0; transfer_status = 0 } in
    slice_get-get_or (receivers_in o) k none (omega (arith, length-map-range_with_len (row_in o) 0 (slice_index o 26), there))
    ∙ ap Some (get_or-map-range_with_len (row_in o) 0 (slice_index o 26) k k none there (omega arith))

read_row : (octets : List ℕ) → SpellsReceiver (receiver_in octets) octets
read_row octets = record { address_at_0 = refl; index_at_2 = refl; phase_at_3 = refl; update_status_at_4 = refl; transfer_status_at_5 = refl }

read_settings : (octets : List ℕ) → SpellsSettings (settings_in octets) octets
read_settings octets = record { ttl_at_16 = refl; base_at_17 = refl; mode_at_19 = refl; policy_at_19 = refl; image_at_20 = refl; group_at_22 = refl; appkey_at_24 = refl }

-- ---- the note

bank_spelled : (o : List ℕ) → HasZeros o → (k : ℕ) → k < 4 → slice_index o (4 + k) ≡ get_or (map (bank_in o) (range_with_len 0 (slice_index o 3))) k 0
bank_spelled o z k lt =
    ⊎_elim (λ there. sym (bank_there o k there)) (λ past. z.banks (4 + k) (omega (arith, past)) (omega (arith, lt)) ∙ sym (bank_past o k past)) (split k (slice_index o 3))

row_spelled : (o : List ℕ) → length o ≡ 1728 → HasZeros o → (k : ℕ) → k < 128 → IsRow (slice_get (receivers_in o) k) (part_of o (128 + 6 * k) 6)
row_spelled o long z k lt =
    let P : Option Receiver → Type 0 = λ r. IsRow r (part_of o (128 + 6 * k) 6) in
    ⊎_elim (λ there. subst P (sym (row_there o k there)) (read_row (part_of o (128 + 6 * k) 6)))
    (λ past. subst P (sym (row_past o k past)) (zero_part o (128 + 6 * slice_index o 26) 1728 (128 + 6 * k) 6 z.rows (omega (arith, past)) (omega (arith, lt)) (omega (arith, long))))
    (split k (slice_index o 26))

pub spelled : (o : List ℕ) → length o ≡ 1728 → HasNumbers o → HasZeros o → SpellsDistributor (note_in o) o
spelled o long n z = record {
  kind_at_0 = n.kind;
  phase_at_1 = phase_is (slice_index o 1) n.phase;
  upload_at_2 = upload_is (slice_index o 2) n.upload;
  images_at_3 = sym (length-map-range_with_len (bank_in o) 0 (slice_index o 3));
  few_images = omega (arith, length-map-range_with_len (bank_in o) 0 (slice_index o 3), n.images);
  banks_at_4 = bank_spelled o z;
  counter_at_8 = refl;
  settings_at_16 = read_settings o;
  receivers_at_26 = sym (length-map-range_with_len (row_in o) 0 (slice_index o 26));
  few_receivers = omega (arith, length-map-range_with_len (row_in o) 0 (slice_index o 26), n.receivers);
  upload_ttl_at_27 = refl;
  upload_metadata_at_28 = refl;
  zero_at_68 = zero_part o 68 128 68 60 z.middle (omega arith) (omega arith) (omega (arith, long));
  rows_at_128 = row_spelled o long z;
  zero_at_896 = zero_part o (128 + 6 * slice_index o 26) 1728 896 832 z.rows (omega (arith, n.receivers)) (omega arith) (omega (arith, long));
}

pub numbers_of : (o : List ℕ) → SpellsDistributor (note_in o) o → HasNumbers o
numbers_of o s = record {
  kind = s.kind_at_0;
  phase = omega (arith, s.phase_at_1, phase_below (phase_in (slice_index o 1)));
  upload = omega (arith, s.upload_at_2, upload_below (upload_in (slice_index o 2)));
  images = omega (arith, length-map-range_with_len (bank_in o) 0 (slice_index o 3), s.few_images);
  receivers = omega (arith, length-map-range_with_len (row_in o) 0 (slice_index o 26), s.few_receivers);
}

-- ---- what is 0 of a note

at_place : (o : List ℕ) (a b : ℕ) → a ≡ b → slice_index o a ≡ 0 → slice_index o b ≡ 0
at_place o a b e h = subst (λ (n : ℕ). slice_index o n ≡ 0) e h

bank_zero : (o : List ℕ) → SpellsDistributor (note_in o) o → (k : ℕ) → 4 + slice_index o 3 ≤ k → k < 8 → slice_index o k ≡ 0
bank_zero o s k low high =
    at_place o (4 + (k - 4)) k (omega (arith, low)) (s.banks_at_4 (k - 4) (omega (arith, low, high)) ∙ bank_past o (k - 4) (omega (arith, low)))

middle_zero : (o : List ℕ) → SpellsDistributor (note_in o) o → (k : ℕ) → 68 ≤ k → k < 128 → slice_index o k ≡ 0
middle_zero o s k low high = at_place o (68 + (k - 68)) k (omega (arith, low)) (part_zero o 68 60 (k - 68) s.zero_at_68 (omega (arith, low, high)))

-- an octet of a row that isn't there
row_zero : (o : List ℕ) → SpellsDistributor (note_in o) o → (k : ℕ) → 128 + 6 * slice_index o 26 ≤ k → k < 896 → slice_index o k ≡ 0
row_zero o s k low high =
    let q : ℕ = (k - 128) / 6 in
    let r : ℕ = (k - 128) % 6 in
    let is : 6 * q + r ≡ k - 128 = omega arith in
    let small : r < 6 = omega arith in
    let row : part_of o (128 + 6 * q) 6 ≡ zeros 6 =
    subst (λ (row : Option Receiver). IsRow row (part_of o (128 + 6 * q) 6)) (row_past o q (omega (arith, is, small, low))) (s.rows_at_128 q (omega (arith, is, high))) in
    at_place o (128 + 6 * q + r) k (omega (arith, is, low)) (part_zero o (128 + 6 * q) 6 r row small)

rest_zero : (o : List ℕ) → SpellsDistributor (note_in o) o → (k : ℕ) → 896 ≤ k → k < 1728 → slice_index o k ≡ 0
rest_zero o s k low high = at_place o (896 + (k - 896)) k (omega (arith, low)) (part_zero o 896 832 (k - 896) s.zero_at_896 (omega (arith, low, high)))

pub zeros_of : (o : List ℕ) → SpellsDistributor (note_in o) o → HasZeros o
zeros_of o s = record {
  banks = bank_zero o s;
  middle = middle_zero o s;
  rows = λ k low high. ⊎_elim (λ below. row_zero o s k low below) (λ past. rest_zero o s k past high) (split k 896);
}
