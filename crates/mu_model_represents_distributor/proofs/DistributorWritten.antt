-- The note of a distributor that is written is read back.
use Rattle.std.proofs.Common.{◌≡◌, ℕ, zero, suc, ◌+◌, ◌-◌, ◌*◌, ◌/◌, ◌%◌, ◌^◌, ◌<◌, ◌≤◌, List, [], ◌∷◌, ◌++◌, length, drop, refl, sym, ◌∙◌, ap, subst, arith, length-append}
use Rattle.std.specs.Prelude.{slice_get, slice_index, slice_index_or}
use Rattle.std.specs.List.{AllByRecursion, flat_map}
use Rattle.std.proofs.lemmas.List.{take_at}
use Rattle.byteorder.specs.Endian.{little_bytes}
use Rattle.byteorder.specs.Numbers.{little_number-reads_back}
use Rattle.mu_model_image.specs.declared.Meta.{Meta}
use Rattle.mu_model_image.specs.Meta.{meta_octets, meta_of}
use Rattle.mu_model_flash.specs.Bits.{AreOctets, part_of}
use Rattle.mu_model_record.specs.Record.{zeros}
use Rattle.mu_model_distributor.specs.declared.Settings.{Settings}
use Rattle.mu_model_distributor.specs.declared.DistPhase.{DistPhase}
use Rattle.mu_model_distributor.specs.declared.DistPhase.TheVariants.{Idle, TransferActive, TransferSuccess, ApplyingUpdate, Completed, Failed, CancelingUpdate, TransferSuspended}
use Rattle.mu_model_distributor.specs.DistState.{Receiver, dist_number}
use Rattle.mu_model_distributor.specs.Sound.{AreMetaNumbers}
use Rattle.mu_model_represents_distributor.specs.DistributorNote.{UploadPhase, UploadIdle, UploadActive, UploadError, UploadSuccess, upload_phase_number, DistributorNote, IsRow, SpellsDistributor, receiver_octets, settings_octets, bank_octets, head_octets, distributor_octets}
use Rattle.mu_model_represents.specs.Octets.{TagLaws}

-- ---- what has its places

pub record FitSettings (s : Settings) : Type 0 where
  pub ttl : s.ttl < 256
  pub base : s.base < 2 ^ 16
  pub mode : s.mode < 4
  pub policy : s.policy < 64
  pub image : s.image < 2 ^ 16
  pub group : s.group < 2 ^ 16
  pub appkey : s.appkey < 2 ^ 16

pub record FitsRow (r : Receiver) : Type 0 where
  pub address : r.address < 2 ^ 16
  pub index : r.index < 256
  pub phase : r.phase < 256
  pub update_status : r.update_status < 256
  pub transfer_status : r.transfer_status < 256

pub record FitsDistributor (n : DistributorNote) : Type 0 where
  pub few_images : length n.banks ≤ 4
  pub banks : AllByRecursion (λ (b : ℕ). b < 256) n.banks
  pub counter : n.counter < 2 ^ 64
  pub settings : FitSettings n.settings
  pub few_receivers : length n.receivers ≤ 128
  pub receivers : AllByRecursion FitsRow n.receivers
  pub upload_ttl : n.upload_ttl < 256
  pub upload_meta : AreMetaNumbers n.upload_meta

-- ---- rows

pub length_rows : (rs : List Receiver) → length (flat_map receiver_octets rs) ≡ 6 * length rs
length_rows [] = refl
length_rows (r ∷ rs) = let rest = length_rows rs in omega (arith, rest)

next_row : (k : ℕ) → 6 * suc k ≡ 6 + 6 * k
next_row k = omega arith

row_at : TagLaws → (rs : List Receiver) (m k : ℕ) → AllByRecursion FitsRow rs → 6 * k + 6 ≤ 6 * length rs + m → IsRow (slice_get rs k) (part_of (flat_map receiver_octets rs ++ zeros m) (6 * k) 6)
unfolding part_of
row_at t [] m k are within = t.joins.part_zeros m (6 * k) 6 (omega arith)
row_at t (r ∷ rs) m zero are within = record {
  address_at_0 = little_number-reads_back 2 r.address (r.index ∷ r.phase ∷ r.update_status ∷ r.transfer_status ∷ []) are.0.address;
  index_at_2 = refl;
  phase_at_3 = refl;
  update_status_at_4 = refl;
  transfer_status_at_5 = refl;
}
row_at t (r ∷ rs) m (suc k) are within =
    let rest : IsRow (slice_get rs k) (part_of (flat_map receiver_octets rs ++ zeros m) (6 * k) 6) = row_at t rs m k are.1 (omega arith) in
    let place : part_of (flat_map receiver_octets (r ∷ rs) ++ zeros m) (6 * suc k) 6 ≡ part_of (flat_map receiver_octets rs ++ zeros m) (6 * k) 6 =
    ap (λ (p : ℕ). part_of (flat_map receiver_octets (r ∷ rs) ++ zeros m) p 6) (next_row k) ∙ t.joins.part_past (receiver_octets r) (flat_map receiver_octets rs ++ zeros m) 6 (6 * k) 6 refl in
    subst (λ (xs : List ℕ). IsRow (slice_get rs k) xs) (sym place) rest

-- ---- metadata, also of no size

pub meta_back : (meta : Meta) → meta.size < 2 ^ 32 → meta.version < 2 ^ 32 → meta_of (meta_octets meta) ≡ meta
meta_back meta size version =
    let first = little_number-reads_back 4 meta.size (little_bytes 4 meta.version ++ meta.digest) size in
    let second = little_number-reads_back 4 meta.version meta.digest version in
    λ i. record { size = first i; version = second i; digest = meta.digest }

length_meta : (meta : Meta) → length meta.digest ≡ 32 → length (meta_octets meta) ≡ 40
length_meta meta is = omega (arith, is)

-- ---- the note

mode_back : (m p : ℕ) → m < 4 → (m + 4 * p) % 4 ≡ m
mode_back m p lt = omega arith

policy_back : (m p : ℕ) → m < 4 → (m + 4 * p) / 4 ≡ p
policy_back m p lt = omega arith

module _ (t : TagLaws) (n : DistributorNote) (fits : FitsDistributor n) where
  abbrev octets : List ℕ
  octets = distributor_octets n

  abbrev rows : List ℕ
  rows = flat_map receiver_octets n.receivers ++ zeros (1600 - 6 * length n.receivers)

  banks_back : (k : ℕ) → k < 4 → slice_index octets (4 + k) ≡ slice_index_or n.banks k 0
  banks_back zero lt = refl
  banks_back (suc zero) lt = refl
  banks_back (suc (suc zero)) lt = refl
  banks_back (suc (suc (suc zero))) lt = refl
  banks_back (suc (suc (suc (suc k)))) lt = absurd (omega arith)

  meta_part : part_of octets 28 40 ≡ meta_octets n.upload_meta
  unfolding part_of
  meta_part = take_at (meta_octets n.upload_meta) (zeros 60 ++ rows) 40 (length_meta n.upload_meta fits.upload_meta.digest_length)

  -- past the metadata
  past_meta : (k m : ℕ) → part_of octets (68 + k) m ≡ part_of (zeros 60 ++ rows) k m
  past_meta k m = t.joins.part_past (head_octets n ++ meta_octets n.upload_meta) (zeros 60 ++ rows) 68 k m (omega (arith, length_meta n.upload_meta fits.upload_meta.digest_length))

  past_zeros : (k m : ℕ) → part_of octets (128 + k) m ≡ part_of rows k m
  past_zeros k m = ap (λ (p : ℕ). part_of octets p m) (place k) ∙ past_meta (60 + k) m ∙ t.joins.part_past (zeros 60) rows 60 k m (t.joins.length_zeros 60)
    where
      place : (k : ℕ) → 128 + k ≡ 68 + (60 + k)
      place k = omega arith

  last : part_of octets 896 832 ≡ zeros 832
  last =
      let rest = 768 - 6 * length n.receivers in
      let place : 768 ≡ 6 * length n.receivers + (768 - 6 * length n.receivers) = omega (arith, fits.few_receivers) in
      past_zeros 768 832
      ∙ ap (λ (p : ℕ). part_of rows p 832) place
      ∙ t.joins.part_past (flat_map receiver_octets n.receivers) (zeros (1600 - 6 * length n.receivers)) (6 * length n.receivers) (768 - 6 * length n.receivers) 832 (length_rows n.receivers)
      ∙ t.joins.part_zeros (1600 - 6 * length n.receivers) (768 - 6 * length n.receivers) 832 (omega (arith, fits.few_receivers))

  pub distributor_written : SpellsDistributor n (distributor_octets n)
  distributor_written = record {
    kind_at_0 = refl;
    phase_at_1 = refl;
    upload_at_2 = refl;
    images_at_3 = refl;
    few_images = fits.few_images;
    banks_at_4 = banks_back;
    counter_at_8 = little_number-reads_back 8 n.counter (drop 16 octets) fits.counter;
    settings_at_16 = record {
      ttl_at_16 = refl;
      base_at_17 = little_number-reads_back 2 n.settings.base (drop 19 octets) fits.settings.base;
      mode_at_19 = mode_back n.settings.mode n.settings.policy fits.settings.mode;
      policy_at_19 = policy_back n.settings.mode n.settings.policy fits.settings.mode;
      image_at_20 = little_number-reads_back 2 n.settings.image (drop 22 octets) fits.settings.image;
      group_at_22 = little_number-reads_back 2 n.settings.group (drop 24 octets) fits.settings.group;
      appkey_at_24 = little_number-reads_back 2 n.settings.appkey (drop 26 octets) fits.settings.appkey;
    };
    receivers_at_26 = refl;
    few_receivers = fits.few_receivers;
    upload_ttl_at_27 = refl;
    upload_metadata_at_28 = ap meta_of meta_part ∙ meta_back n.upload_meta fits.upload_meta.size fits.upload_meta.version;
    zero_at_68 = past_meta 0 60 ∙ t.joins.part_whole (zeros 60) rows 60 (t.joins.length_zeros 60);
    rows_at_128 = λ k lt. subst (λ (xs : List ℕ). IsRow (slice_get n.receivers k) xs) (sym (past_zeros (6 * k) 6)) (row_at t n.receivers (1600 - 6 * length n.receivers) k fits.receivers (omega (arith, lt, fits.few_receivers)));
    zero_at_896 = last;
  }

  pub length_distributor : length (distributor_octets n) ≡ 1728
  length_distributor = omega (
    arith,
    length-append (meta_octets n.upload_meta) (zeros 60 ++ rows),
    length_meta n.upload_meta fits.upload_meta.digest_length,
    length-append (zeros 60) rows,
    t.joins.length_zeros 60,
    length-append (flat_map receiver_octets n.receivers) (zeros (1600 - 6 * length n.receivers)),
    length_rows n.receivers,
    t.joins.length_zeros (1600 - 6 * length n.receivers),
    fits.few_receivers,
  )

-- ---- octets

phase_small : (p : DistPhase) → dist_number p < 256
phase_small Idle = omega arith
phase_small TransferActive = omega arith
phase_small TransferSuccess = omega arith
phase_small ApplyingUpdate = omega arith
phase_small Completed = omega arith
phase_small Failed = omega arith
phase_small CancelingUpdate = omega arith
phase_small TransferSuspended = omega arith

upload_small : (p : UploadPhase) → upload_phase_number p < 256
upload_small UploadIdle = omega arith
upload_small UploadActive = omega arith
upload_small UploadError = omega arith
upload_small UploadSuccess = omega arith

bank_small : (banks : List ℕ) → AllByRecursion (λ (b : ℕ). b < 256) banks → (k : ℕ) → slice_index_or banks k 0 < 256
bank_small [] all k = omega arith
bank_small (b ∷ banks) all zero = all.0
bank_small (b ∷ banks) all (suc k) = bank_small banks all.1 k

octets_rows : TagLaws → (rs : List Receiver) → AllByRecursion FitsRow rs → AreOctets (flat_map receiver_octets rs)
octets_rows t [] are = t.octets.of_none
octets_rows t (r ∷ rs) are = t.octets.of_append (receiver_octets r) (flat_map receiver_octets rs)
    (t.octets.of_append (little_bytes 2 r.address) (r.index ∷ r.phase ∷ r.update_status ∷ r.transfer_status ∷ []) (t.octets.of_little 2 r.address)
    (t.octets.of_cons r.index (r.phase ∷ r.update_status ∷ r.transfer_status ∷ []) are.0.index
    (t.octets.of_cons r.phase (r.update_status ∷ r.transfer_status ∷ []) are.0.phase
    (t.octets.of_cons r.update_status (r.transfer_status ∷ []) are.0.update_status (t.octets.of_cons r.transfer_status [] are.0.transfer_status t.octets.of_none)))))
    (octets_rows t rs are.1)

octets_settings : TagLaws → (s : Settings) → FitSettings s → AreOctets (settings_octets s)
octets_settings t s fits =
    let last = t.octets.of_append (little_bytes 2 s.image) (little_bytes 2 s.group ++ little_bytes 2 s.appkey) (t.octets.of_little 2 s.image) (t.octets.of_append (little_bytes 2 s.group) (little_bytes 2 s.appkey) (t.octets.of_little 2 s.group) (t.octets.of_little 2 s.appkey)) in
    let mode = t.octets.of_cons (s.mode + 4 * s.policy) (little_bytes 2 s.image ++ (little_bytes 2 s.group ++ little_bytes 2 s.appkey)) (omega (arith, fits.mode, fits.policy)) last in
    t.octets.of_cons s.ttl (little_bytes 2 s.base ++ ((s.mode + 4 * s.policy) ∷ (little_bytes 2 s.image ++ (little_bytes 2 s.group ++ little_bytes 2 s.appkey)))) fits.ttl
    (t.octets.of_append (little_bytes 2 s.base) ((s.mode + 4 * s.policy) ∷ (little_bytes 2 s.image ++ (little_bytes 2 s.group ++ little_bytes 2 s.appkey))) (t.octets.of_little 2 s.base) mode)

octets_banks : TagLaws → (banks : List ℕ) → AllByRecursion (λ (b : ℕ). b < 256) banks → AreOctets (bank_octets banks)
octets_banks t banks all =
    let at : (k : ℕ) → slice_index_or banks k 0 < 256 = bank_small banks all in
    t.octets.of_cons (slice_index_or banks 0 0) (slice_index_or banks 1 0 ∷ slice_index_or banks 2 0 ∷ slice_index_or banks 3 0 ∷ []) (at 0)
    (t.octets.of_cons (slice_index_or banks 1 0) (slice_index_or banks 2 0 ∷ slice_index_or banks 3 0 ∷ []) (at 1)
    (t.octets.of_cons (slice_index_or banks 2 0) (slice_index_or banks 3 0 ∷ []) (at 2) (t.octets.of_cons (slice_index_or banks 3 0) [] (at 3) t.octets.of_none)))

module _ (t : TagLaws) (n : DistributorNote) (fits : FitsDistributor n) where
  octets_head : AreOctets (head_octets n)
  octets_head =
      let ends = t.octets.of_cons (length n.receivers) (n.upload_ttl ∷ []) (omega (arith, fits.few_receivers)) (t.octets.of_cons n.upload_ttl [] fits.upload_ttl t.octets.of_none) in
      let settings = t.octets.of_append (settings_octets n.settings) (length n.receivers ∷ n.upload_ttl ∷ []) (octets_settings t n.settings fits.settings) ends in
      let counter = t.octets.of_append (little_bytes 8 n.counter) (settings_octets n.settings ++ (length n.receivers ∷ n.upload_ttl ∷ [])) (t.octets.of_little 8 n.counter) settings in
      let banks = t.octets.of_append (bank_octets n.banks) (little_bytes 8 n.counter ++ (settings_octets n.settings ++ (length n.receivers ∷ n.upload_ttl ∷ []))) (octets_banks t n.banks fits.banks) counter in
      let rest = bank_octets n.banks ++ (little_bytes 8 n.counter ++ (settings_octets n.settings ++ (length n.receivers ∷ n.upload_ttl ∷ []))) in
      t.octets.of_cons 2 (dist_number n.phase ∷ upload_phase_number n.upload ∷ length n.banks ∷ rest) (omega arith)
      (t.octets.of_cons (dist_number n.phase) (upload_phase_number n.upload ∷ length n.banks ∷ rest) (phase_small n.phase)
      (t.octets.of_cons (upload_phase_number n.upload) (length n.banks ∷ rest) (upload_small n.upload) (t.octets.of_cons (length n.banks) rest (omega (arith, fits.few_images)) banks)))

  pub octets_distributor : AreOctets (distributor_octets n)
  octets_distributor =
      let zero = zeros (1600 - 6 * length n.receivers) in
      let rows = t.octets.of_append (flat_map receiver_octets n.receivers) zero (octets_rows t n.receivers fits.receivers) (t.octets.of_zeros (1600 - 6 * length n.receivers)) in
      let gap = t.octets.of_append (zeros 60) (flat_map receiver_octets n.receivers ++ zero) (t.octets.of_zeros 60) rows in
      let meta = t.octets.of_append (meta_octets n.upload_meta) (zeros 60 ++ (flat_map receiver_octets n.receivers ++ zero))
      (t.octets.of_meta n.upload_meta fits.upload_meta.digest_length (t.octets.of_all n.upload_meta.digest fits.upload_meta.digest_octets)) gap in
      t.octets.of_append (head_octets n) (meta_octets n.upload_meta ++ (zeros 60 ++ (flat_map receiver_octets n.receivers ++ zero))) octets_head meta
