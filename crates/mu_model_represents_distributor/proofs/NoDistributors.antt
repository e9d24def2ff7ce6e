-- Records that are no distributor's.
use Rattle.std.proofs.Common.{◌≡◌, ⊎_elim, ℕ, ◌^◌, ◌<◌, ◌≤◌, Option, Some, None, List, [], ◌∷◌, ◌++◌, length, get_or, refl, sym, ap, subst, arith}
use Rattle.std.specs.Prelude.{slice_get, slice_set}
use Rattle.std.specs.List.{AllByRecursion}
use Rattle.std.proofs.lemmas.Option.{slice_get_past}
use Rattle.mu_model_flash.specs.Bits.{part_of}
use Rattle.mu_model_record.specs.declared.BankState.{BankState}
use Rattle.mu_model_record.specs.declared.BankState.TheVariants.{Empty, Sealed}
use Rattle.mu_model_record.specs.Record.{zeros}
use Rattle.mu_model_node.specs.Worked.{image_a, digest_abc}
use Rattle.mu_model_distributor.specs.declared.Settings.{Settings}
use Rattle.mu_model_distributor.specs.declared.DistPhase.{DistPhase}
use Rattle.mu_model_distributor.specs.declared.DistPhase.TheVariants.{Idle, TransferActive, Completed}
use Rattle.mu_model_distributor.specs.DistState.{Receiver}
use Rattle.mu_model_distributor.specs.Sound.{no_settings}
use Rattle.mu_model_represents.specs.BlobPart.{BlobJob, blob_part, note_part, IsBlobPart, PartFits, blob_octets}
use Rattle.mu_model_represents_distributor.specs.DistributorNote.{UploadPhase, UploadIdle, UploadActive, UploadSuccess, DistributorNote, IsRow, SpellsDistributor, distributor_octets}
use Rattle.mu_model_represents_distributor.specs.RepresentsDistributor.{IsDistributorRecord}
use Rattle.mu_model_represents.specs.Laws.{OctetsAreOneJob}
use Rattle.mu_model_represents.specs.Octets.{TagLaws}
use Rattle.mu_model_represents.specs.WorkedNode.{coming, DigestIsOctets}
use Rattle.mu_model_represents.specs.Written.{BlobPartIsReadBack}
use Rattle.mu_model_represents_distributor.specs.WorkedDistributor.{settings_of, receiver_of, plain, with_note, noted, part_in, uploading_note, NoDistributors}
use Rattle.mu_model_represents_distributor.proofs.DistributorWritten.{FitSettings, FitsRow, FitsDistributor, distributor_written, length_distributor, octets_distributor}
use Rattle.mu_model_represents_distributor.proofs.DistributorOnce.{distributor_note_once}

-- a record says the parts that its tag was written from
module _ (t : TagLaws) (read : BlobPartIsReadBack) (one : OctetsAreOneJob) where
  said : (second : BankState) (part : Option BlobJob) (note : DistributorNote) → PartFits part → FitsDistributor note → (p : Option BlobJob) (n : DistributorNote) → IsDistributorRecord (with_note second part note) p n → IsDistributorRecord (with_note second part note) part note
  said second part note fits fine p n is =
      let r = with_note second part note in
      let back = read part (distributor_octets note) fits (length_distributor t note fine) (octets_distributor t note fine) in
      let octets : IsBlobPart part (blob_part r.tag) = back.1 in
      let written : SpellsDistributor note (note_part r.tag) = subst (λ (xs : List ℕ). SpellsDistributor note xs) (sym back.2) (distributor_written t note fine) in
      let same_part : p ≡ part = one p part (blob_part r.tag) is.blob.octets octets in
      let same_note : n ≡ note = distributor_note_once n note (note_part r.tag) is.note_octets written in
      subst (λ (m : DistributorNote). IsDistributorRecord r part m) same_note (subst (λ (q : Option BlobJob). IsDistributorRecord r q n) same_part is)

settings_fit : (appkey mode policy image group : ℕ) → appkey < 2 ^ 16 → mode < 4 → policy < 64 → image < 2 ^ 16 → group < 2 ^ 16 → FitSettings (settings_of appkey mode policy image group)
settings_fit appkey mode policy image group a m p i g = record { ttl = omega arith; base = omega arith; mode = m; policy = p; image = i; group = g; appkey = a }

usual_settings : FitSettings (settings_of 0 1 1 0 0)
usual_settings = settings_fit 0 1 1 0 0 (omega arith) (omega arith) (omega arith) (omega arith) (omega arith)

no_settings_fit : FitSettings no_settings
no_settings_fit = record { ttl = omega arith; base = omega arith; mode = omega arith; policy = omega arith; image = omega arith; group = omega arith; appkey = omega arith }

row_fits : (address phase update_status transfer_status : ℕ) → address < 2 ^ 16 → phase < 256 → update_status < 256 → transfer_status < 256 → FitsRow (receiver_of address phase update_status transfer_status)
row_fits address phase update_status transfer_status a p u t = record { address = a; index = omega arith; phase = p; update_status = u; transfer_status = t }

usual_row : FitsRow (receiver_of 2 8 0 0)
usual_row = row_fits 2 8 0 0 (omega arith) (omega arith) (omega arith) (omega arith)

job_fits : (bank : ℕ) → bank < 256 → PartFits (Some (part_in bank None))
job_fits bank low = record { id = omega arith; size = omega arith; base = omega arith; bank = low; parameters = tt }

-- a row past the number of receivers
past_row : (n : DistributorNote) → SpellsDistributor n (note_part (slice_set (blob_octets None ++ distributor_octets plain) 198 3)) → ⊥
unfolding part_of zeros
past_row n h =
    let many : 1 ≡ length n.receivers = h.receivers_at_26 in
    let none : slice_get n.receivers 1 ≡ None = slice_get_past n.receivers 1 (omega (arith, many)) in
    let row : part_of (note_part (slice_set (blob_octets None ++ distributor_octets plain) 198 3)) 134 6 ≡ zeros 6 =
    subst (λ (o : Option Receiver). IsRow o (part_of (note_part (slice_set (blob_octets None ++ distributor_octets plain) 198 3)) 134 6)) none (h.rows_at_128 1 (omega arith)) in
    let three : 3 ≡ 0 = ap (λ (xs : List ℕ). get_or xs 0 0) row in
    absurd (omega (arith, three))

module _ (t : TagLaws) (read : BlobPartIsReadBack) (one : OctetsAreOneJob) (digest : DigestIsOctets) where
  fits : (phase : DistPhase) (upload : UploadPhase) (banks : List ℕ) (counter : ℕ) (settings : Settings) (receivers : List Receiver) (size : ℕ)
      → length banks ≤ 4 → AllByRecursion (λ (b : ℕ). b < 256) banks → counter < 2 ^ 64 → FitSettings settings → length receivers ≤ 128 → AllByRecursion FitsRow receivers → size < 2 ^ 32
      → FitsDistributor (record { phase = phase; upload = upload; banks = banks; counter = counter; settings = settings; receivers = receivers; upload_ttl = 0; upload_meta = record { size = size; version = 3; digest = digest_abc } })
  fits phase upload banks counter settings receivers size few low count set many rows most = record {
    few_images = few;
    banks = low;
    counter = count;
    settings = set;
    few_receivers = many;
    receivers = rows;
    upload_ttl = omega arith;
    upload_meta = record { size = most; version = omega arith; digest_length = refl; digest_octets = digest };
  }

  -- one image in bank 0 and one receiver, with these settings and this row
  with_settings : (settings : Settings) → FitSettings settings → FitsDistributor (record plain { settings = settings })
  with_settings settings set = fits Completed UploadIdle (0 ∷ []) 1 settings (receiver_of 2 8 0 0 ∷ []) 3 (omega arith) (omega arith, tt) (omega arith) set (omega arith) (usual_row, tt) (omega arith)

  with_row : (r : Receiver) → FitsRow r → FitsDistributor (record plain { receivers = r ∷ [] })
  with_row r row = fits Completed UploadIdle (0 ∷ []) 1 (settings_of 0 1 1 0 0) (r ∷ []) 3 (omega arith) (omega arith, tt) (omega arith) usual_settings (omega arith) (row, tt) (omega arith)

  with_counter : (phase : DistPhase) (counter : ℕ) (settings : Settings) → counter < 2 ^ 64 → FitSettings settings → FitsDistributor (record plain { phase = phase; counter = counter; settings = settings })
  with_counter phase counter settings count set = fits phase UploadIdle (0 ∷ []) counter settings (receiver_of 2 8 0 0 ∷ []) 3 (omega arith) (omega arith, tt) count set (omega arith) (usual_row, tt) (omega arith)

  with_upload : (phase : DistPhase) (upload : UploadPhase) (size : ℕ) → size < 2 ^ 32 → FitsDistributor (record plain { phase = phase; upload = upload; upload_meta = record { size = size; version = 3; digest = digest_abc } })
  with_upload phase upload size most = fits phase upload (0 ∷ []) 1 (settings_of 0 1 1 0 0) (receiver_of 2 8 0 0 ∷ []) size (omega arith) (omega arith, tt) (omega arith) usual_settings (omega arith) (usual_row, tt) most

  set : (appkey mode policy image group : ℕ) → appkey < 2 ^ 16 → mode < 4 → policy < 64 → image < 2 ^ 16 → group < 2 ^ 16 → (p : Option BlobJob) (n : DistributorNote)
      → IsDistributorRecord (noted (record plain { settings = settings_of appkey mode policy image group })) p n → IsDistributorRecord (noted (record plain { settings = settings_of appkey mode policy image group })) None (record plain { settings = settings_of appkey mode policy image group })
  set appkey mode policy image group a m q i g = said t read one Empty None (record plain { settings = settings_of appkey mode policy image group }) tt (with_settings (settings_of appkey mode policy image group) (settings_fit appkey mode policy image group a m q i g))

  row : (address phase update_status transfer_status : ℕ) → address < 2 ^ 16 → phase < 256 → update_status < 256 → transfer_status < 256 → (p : Option BlobJob) (n : DistributorNote)
      → IsDistributorRecord (noted (record plain { receivers = receiver_of address phase update_status transfer_status ∷ [] })) p n → IsDistributorRecord (noted (record plain { receivers = receiver_of address phase update_status transfer_status ∷ [] })) None (record plain { receivers = receiver_of address phase update_status transfer_status ∷ [] })
  row address phase update_status transfer_status a q u v = said t read one Empty None (record plain { receivers = receiver_of address phase update_status transfer_status ∷ [] }) tt (with_row (receiver_of address phase update_status transfer_status) (row_fits address phase update_status transfer_status a q u v))

  pub no_distributors : NoDistributors
  no_distributors = record {
    three_banks = λ p n is. absurd (omega (arith, is.four_banks));
    image_empty = λ p n is. (said t read one Empty None (record plain { banks = 1 ∷ [] }) tt (fits Completed UploadIdle (1 ∷ []) 1 (settings_of 0 1 1 0 0) (receiver_of 2 8 0 0 ∷ []) 3 (omega arith) (omega arith, tt) (omega arith) usual_settings (omega arith) (usual_row, tt) (omega arith)) p n is).banks_sealed.0;
    bank_twice = λ p n is. let h = (said t read one Empty None (record plain { banks = 0 ∷ 0 ∷ [] }) tt (fits Completed UploadIdle (0 ∷ 0 ∷ []) 1 (settings_of 0 1 1 0 0) (receiver_of 2 8 0 0 ∷ []) 3 (omega arith) (omega arith, (omega arith, tt)) (omega arith) usual_settings (omega arith) (usual_row, tt) (omega arith)) p n is).banks_differ.0 in cc h;
    other_sealed = λ p n is. let h = (said t read one (Sealed image_a.meta) None plain tt (with_settings (settings_of 0 1 1 0 0) usual_settings) p n is).all_sealed 1 tt in cc h;
    unbegun_settings = λ p n is. let h = ((said t read one Empty None (record plain { phase = Idle; counter = 0 }) tt (with_counter Idle 0 (settings_of 0 1 1 0 0) (omega arith) usual_settings) p n is).unbegun refl).1 in
        let ttl : 5 ≡ 0 = ap (λ (s : Settings). s.ttl) h in absurd (omega (arith, ttl));
    unbegun_phase = λ p n is. let h = ((said t read one Empty None (record plain { counter = 0; settings = no_settings }) tt (with_counter Completed 0 no_settings (omega arith) no_settings_fit) p n is).unbegun refl).0 in cc h;
    past_counter = λ p n is. let h = (said t read one Empty None (record plain { counter = 2 ^ 48 }) tt (with_counter Completed (2 ^ 48) (settings_of 0 1 1 0 0) (omega arith) usual_settings) p n is).counter in absurd (omega (arith, h));
    no_mode = λ p n is. let h = (set 0 0 1 0 0 (omega arith) (omega arith) (omega arith) (omega arith) (omega arith) p n is).begun (omega arith) in absurd (omega (arith, h.mode_above));
    other_mode = λ p n is. let h = (set 0 3 1 0 0 (omega arith) (omega arith) (omega arith) (omega arith) (omega arith) p n is).begun (omega arith) in absurd (omega (arith, h.mode_below));
    past_policy = λ p n is. let h = (set 0 1 2 0 0 (omega arith) (omega arith) (omega arith) (omega arith) (omega arith) p n is).begun (omega arith) in absurd (omega (arith, h.policy));
    no_group = λ p n is. let h = (set 0 1 1 0 1 (omega arith) (omega arith) (omega arith) (omega arith) (omega arith) p n is).begun (omega arith) in ⊎_elim (λ zero. absurd (omega (arith, zero))) (λ high. absurd (omega (arith, high.0))) h.group;
    past_appkey = λ p n is. let h = (set 4096 1 1 0 0 (omega arith) (omega arith) (omega arith) (omega arith) (omega arith) p n is).begun (omega arith) in absurd (omega (arith, h.appkey));
    no_address = λ p n is. let h = (row 0 8 0 0 (omega arith) (omega arith) (omega arith) (omega arith) p n is).receivers.0 in absurd (omega (arith, h.address_above));
    group_address = λ p n is. let h = (row 0x8000 8 0 0 (omega arith) (omega arith) (omega arith) (omega arith) p n is).receivers.0 in absurd (omega (arith, h.address_below));
    past_phase = λ p n is. let h = (row 2 11 0 0 (omega arith) (omega arith) (omega arith) (omega arith) p n is).receivers.0 in absurd (omega (arith, h.phase));
    past_update_status = λ p n is. let h = (row 2 8 8 0 (omega arith) (omega arith) (omega arith) (omega arith) p n is).receivers.0 in absurd (omega (arith, h.update_status));
    past_transfer_status = λ p n is. let h = (row 2 8 0 11 (omega arith) (omega arith) (omega arith) (omega arith) p n is).receivers.0 in absurd (omega (arith, h.transfer_status));
    address_twice = λ p n is. let h = (said t read one Empty None (record plain { receivers = receiver_of 2 8 0 0 ∷ receiver_of 2 4 0 0 ∷ [] }) tt (fits Completed UploadIdle (0 ∷ []) 1 (settings_of 0 1 1 0 0) (receiver_of 2 8 0 0 ∷ receiver_of 2 4 0 0 ∷ []) 3 (omega arith) (omega arith, tt) (omega arith) usual_settings (omega arith) (usual_row, (row_fits 2 4 0 0 (omega arith) (omega arith) (omega arith) (omega arith), tt)) (omega arith)) p n is).addresses.0 in cc h;
    no_image = λ p n is. let h = (said t read one Empty None (record plain { phase = TransferActive; settings = settings_of 0 1 1 1 0 }) tt (with_counter TransferActive 1 (settings_of 0 1 1 1 0) (omega arith) (settings_fit 0 1 1 1 0 (omega arith) (omega arith) (omega arith) (omega arith) (omega arith))) p n is).image refl in absurd (omega (arith, h));
    no_receiver = λ p n is. let h = (said t read one Empty None (record plain { phase = TransferActive; receivers = [] }) tt (fits TransferActive UploadIdle (0 ∷ []) 1 (settings_of 0 1 1 0 0) [] 3 (omega arith) (omega arith, tt) (omega arith) usual_settings (omega arith) tt (omega arith)) p n is).some_receiver refl in absurd (omega (arith, h));
    row_past = λ p n is. past_row n is.note_octets;
    active_alone = λ p n is. let h = (said t read one Empty None uploading_note tt (with_upload Completed UploadActive 3 (omega arith)) p n is).upload.0 in cc h;
    active_distributing = λ p n is. let h = (said t read one Empty (Some (part_in 1 None)) (record uploading_note { phase = TransferActive }) (job_fits 1 (omega arith)) (with_upload TransferActive UploadActive 3 (omega arith)) p n is).upload.1 in cc h;
    idle_job = λ p n is. let h = (said t read one Empty (Some (part_in 1 None)) plain (job_fits 1 (omega arith)) (with_upload Completed UploadIdle 3 (omega arith)) p n is).upload in cc h;
    success_job = λ p n is. let h = (said t read one Empty (Some (part_in 1 None)) (record plain { upload = UploadSuccess }) (job_fits 1 (omega arith)) (with_upload Completed UploadSuccess 3 (omega arith)) p n is).upload in cc h;
    job_in_image = λ p n is. let h = (said t read one Empty (Some (part_in 0 None)) uploading_note (job_fits 0 (omega arith)) (with_upload Completed UploadActive 3 (omega arith)) p n is).upload_job.bank in cc h;
    job_filling = λ p n is. (said t read one coming (Some (part_in 1 None)) uploading_note (job_fits 1 (omega arith)) (with_upload Completed UploadActive 3 (omega arith)) p n is).blob.rules.goes_with 1 tt;
    job_sealed = λ p n is. (said t read one Empty (Some (record { id = 7; size = 1; base = 0; bank = 0; parameters = Some (record { mode = 1; size = 1; log = 12; mtu = 380 }) })) (record uploading_note { upload_meta = record { size = 1; version = 3; digest = digest_abc } })
        (record { id = omega arith; size = omega arith; base = omega arith; bank = omega arith; parameters = record { mode_least = omega arith; mode_most = omega arith; mtu_least = omega arith; mtu_most = omega arith; log_most = omega arith; same_size = refl } })
        (with_upload Completed UploadActive 1 (omega arith)) p n is).upload_job.bank;
    other_size = λ p n is. let h = (said t read one Empty (Some (part_in 1 None)) (record uploading_note { upload_meta = record { size = 4; version = 3; digest = digest_abc } }) (job_fits 1 (omega arith)) (with_upload Completed UploadActive 4 (omega arith)) p n is).upload_job.size in absurd (omega (arith, h));
  }
