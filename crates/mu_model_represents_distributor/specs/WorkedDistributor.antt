-- Worked rows: the tags of a distributor, octet by octet, and records that are no distributor's. The image is 61 62 63 at version 2, the
-- receiver is 0002, and the upload is of version 3.
use Rattle.std.specs.Prelude.{◌≡◌, ◌++◌, ◌^◌, ℕ, List, [], ◌∷◌, Option, Some, None, slice_set}
use Rattle.mu_model_record.specs.declared.Record.{Record}
use Rattle.mu_model_record.specs.declared.BankState.{BankState}
use Rattle.mu_model_record.specs.declared.BankState.TheVariants.{Empty, Sealed}
use Rattle.mu_model_record.specs.Record.{zeros}
use Rattle.mu_model_node.specs.declared.Parameters.{Parameters}
use Rattle.mu_model_node.specs.Events.{PacketComes}
use Rattle.mu_model_node.specs.Safe.{Happening, Done}
use Rattle.mu_model_node.specs.Worked.{image_a, image_abc, digest_abc, id7, metadata_at}
use Rattle.mu_model_distributor.specs.declared.Settings.{Settings}
use Rattle.mu_model_distributor.specs.declared.DistPhase.TheVariants.{Idle, TransferActive, Completed}
use Rattle.mu_model_distributor.specs.DistState.{Receiver, DistState}
use Rattle.mu_model_distributor.specs.DistEvents.{new_distributor, stocked, restarted}
use Rattle.mu_model_distributor.specs.Runs.{state_after}
use Rattle.mu_model_distributor.specs.Sound.{no_settings}
use Rattle.mu_model_represents.specs.BlobPart.{BlobJob, blob_octets}
use Rattle.mu_model_represents_distributor.specs.DistributorNote.{UploadIdle, UploadActive, UploadSuccess, DistributorNote, distributor_octets}
use Rattle.mu_model_represents_distributor.specs.RepresentsDistributor.{IsNoDistributorRecord, distributor_tag}
use Rattle.mu_model_represents.specs.WorkedNode.{record_of, first, coming}

-- ---- tags that are written

abbrev pub new_one : DistState
new_one = restarted 1 (new_distributor 1)

abbrev pub stocked_one : DistState
stocked_one = stocked new_one image_abc

abbrev pub said : List ℕ → Happening
said payload = Done (PacketComes (record { from = 9; to = 1; payload = payload })) 0

-- the tag after these packets came to a distributor with one image
abbrev pub tag_after : List Happening → List ℕ
tag_after happenings = distributor_tag (state_after 1 stocked_one happenings).durable

abbrev pub receivers_add : List ℕ
receivers_add = 0x83 ∷ 0x11 ∷ 2 ∷ 0 ∷ 0 ∷ []

-- TTL 5, push, Verify And Apply
abbrev pub distribution_start : List ℕ
distribution_start = 0x83 ∷ 0x19 ∷ 0 ∷ 0 ∷ 5 ∷ 0 ∷ 0 ∷ 5 ∷ 0 ∷ 0 ∷ 0 ∷ 0 ∷ []

abbrev pub upload_start : List ℕ
upload_start = (0x83 ∷ 0x1f ∷ 5 ∷ 0 ∷ 0 ∷ []) ++ (id7 ++ ((3 ∷ 0 ∷ 0 ∷ 0 ∷ 40 ∷ []) ++ (metadata_at 3 ++ ((0xff ∷ 0xff ∷ 3 ∷ 0 ∷ 0 ∷ 0 ∷ []) ++ digest_abc))))

-- the receiver's row, of which nothing is known yet
abbrev pub row_octets : List ℕ
row_octets = 2 ∷ 0 ∷ 0 ∷ 10 ∷ 0 ∷ 0 ∷ []

pub record DistributorTags : Type 0 where
  pub new_distributor : distributor_tag new_one.durable ≡ zeros 64 ++ (2 ∷ zeros 1727)
  -- one image, in bank 0
  pub stocked : distributor_tag stocked_one.durable ≡ zeros 64 ++ (2 ∷ 0 ∷ 0 ∷ 1 ∷ zeros 1724)
  pub with_receiver : tag_after (said receivers_add ∷ []) ≡ zeros 64 ++ ((2 ∷ 0 ∷ 0 ∷ 1 ∷ zeros 22) ++ ((1 ∷ zeros 101) ++ (row_octets ++ zeros 1594)))
  pub distributing : tag_after (said receivers_add ∷ said distribution_start ∷ [])
      ≡ zeros 64 ++ ((2 ∷ 1 ∷ 0 ∷ 1 ∷ zeros 4) ++ ((1 ∷ zeros 7) ++ ((5 ∷ 0 ∷ 0 ∷ 5 ∷ zeros 6) ++ ((1 ∷ zeros 101) ++ (row_octets ++ zeros 1594)))))
  -- into bank 1
  pub uploading : tag_after (said upload_start ∷ [])
      ≡ ((1 ∷ 0 ∷ 0 ∷ 0 ∷ []) ++ (id7 ++ (3 ∷ 0 ∷ 0 ∷ 0 ∷ 0 ∷ 0 ∷ 1 ∷ 0 ∷ zeros 44))) ++ ((2 ∷ 0 ∷ 1 ∷ 1 ∷ zeros 23) ++ (5 ∷ (metadata_at 3 ++ zeros 1660)))

-- ---- records that are no distributor's

abbrev pub settings_of : (appkey mode policy image group : ℕ) → Settings
settings_of appkey mode policy image group = record { appkey = appkey; ttl = 5; base = 0; mode = mode; policy = policy; image = image; group = group }

abbrev pub receiver_of : (address phase update_status transfer_status : ℕ) → Receiver
receiver_of address phase update_status transfer_status =
    record { address = address; index = 0; phase = phase; update_status = update_status; transfer_status = transfer_status }

-- one image in bank 0 and one receiver; a distribution has ended
abbrev pub plain : DistributorNote
plain = record {
  phase = Completed;
  upload = UploadIdle;
  banks = 0 ∷ [];
  counter = 1;
  settings = settings_of 0 1 1 0 0;
  receivers = receiver_of 2 8 0 0 ∷ [];
  upload_ttl = 0;
  upload_meta = record { size = 3; version = 3; digest = digest_abc };
}

-- four banks, the first with the image
abbrev pub with_note : BankState → Option BlobJob → DistributorNote → Record
with_note second part note = record_of 4 (first ∷ second ∷ Empty ∷ Empty ∷ []) (blob_octets part ++ distributor_octets note)

abbrev pub noted : DistributorNote → Record
noted note = with_note Empty None note

-- a job of the upload, in a bank
abbrev pub part_in : ℕ → Option Parameters → BlobJob
part_in bank parameters = record { id = 7; size = 3; base = 0; bank = bank; parameters = parameters }

abbrev pub uploading_note : DistributorNote
uploading_note = record plain { upload = UploadActive }

pub record NoDistributors : Type 0 where
  pub three_banks : IsNoDistributorRecord (record_of 3 (first ∷ Empty ∷ Empty ∷ Empty ∷ []) (blob_octets None ++ distributor_octets plain))
  -- an image's bank is Empty, two images have one bank, a Sealed bank is no image's
  pub image_empty : IsNoDistributorRecord (noted (record plain { banks = 1 ∷ [] }))
  pub bank_twice : IsNoDistributorRecord (noted (record plain { banks = 0 ∷ 0 ∷ [] }))
  pub other_sealed : IsNoDistributorRecord (with_note (Sealed image_a.meta) None plain)
  -- while the counter is 0, settings or another phase than Idle
  pub unbegun_settings : IsNoDistributorRecord (noted (record plain { phase = Idle; counter = 0 }))
  pub unbegun_phase : IsNoDistributorRecord (noted (record plain { counter = 0; settings = no_settings }))
  pub past_counter : IsNoDistributorRecord (noted (record plain { counter = 2 ^ 48 }))
  -- numbers that the messages don't have
  pub no_mode : IsNoDistributorRecord (noted (record plain { settings = settings_of 0 0 1 0 0 }))
  pub other_mode : IsNoDistributorRecord (noted (record plain { settings = settings_of 0 3 1 0 0 }))
  pub past_policy : IsNoDistributorRecord (noted (record plain { settings = settings_of 0 1 2 0 0 }))
  pub no_group : IsNoDistributorRecord (noted (record plain { settings = settings_of 0 1 1 0 1 }))
  pub past_appkey : IsNoDistributorRecord (noted (record plain { settings = settings_of 4096 1 1 0 0 }))
  pub no_address : IsNoDistributorRecord (noted (record plain { receivers = receiver_of 0 8 0 0 ∷ [] }))
  pub group_address : IsNoDistributorRecord (noted (record plain { receivers = receiver_of 0x8000 8 0 0 ∷ [] }))
  pub past_phase : IsNoDistributorRecord (noted (record plain { receivers = receiver_of 2 11 0 0 ∷ [] }))
  pub past_update_status : IsNoDistributorRecord (noted (record plain { receivers = receiver_of 2 8 8 0 ∷ [] }))
  pub past_transfer_status : IsNoDistributorRecord (noted (record plain { receivers = receiver_of 2 8 0 11 ∷ [] }))
  pub address_twice : IsNoDistributorRecord (noted (record plain { receivers = receiver_of 2 8 0 0 ∷ receiver_of 2 4 0 0 ∷ [] }))
  -- a distribution without its image, or without a receiver
  pub no_image : IsNoDistributorRecord (noted (record plain { phase = TransferActive; settings = settings_of 0 1 1 1 0 }))
  pub no_receiver : IsNoDistributorRecord (noted (record plain { phase = TransferActive; receivers = [] }))
  -- a row past the number of receivers
  pub row_past : IsNoDistributorRecord (record_of 4 (first ∷ Empty ∷ Empty ∷ Empty ∷ []) (slice_set (blob_octets None ++ distributor_octets plain) 198 3))
  -- an upload that is active without a job, or during a distribution, and one that isn't with one
  pub active_alone : IsNoDistributorRecord (noted uploading_note)
  pub active_distributing : IsNoDistributorRecord (with_note Empty (Some (part_in 1 None)) (record uploading_note { phase = TransferActive }))
  pub idle_job : IsNoDistributorRecord (with_note Empty (Some (part_in 1 None)) plain)
  pub success_job : IsNoDistributorRecord (with_note Empty (Some (part_in 1 None)) (record plain { upload = UploadSuccess }))
  -- its bank is an image's, or isn't Empty without parameters, or isn't Filling with them
  pub job_in_image : IsNoDistributorRecord (with_note Empty (Some (part_in 0 None)) uploading_note)
  pub job_filling : IsNoDistributorRecord (with_note coming (Some (part_in 1 None)) uploading_note)
  pub job_sealed : IsNoDistributorRecord (with_note Empty (Some (record { id = 7; size = 1; base = 0; bank = 0; parameters = Some (record { mode = 1; size = 1; log = 12; mtu = 380 }) })) (record uploading_note { upload_meta = record { size = 1; version = 3; digest = digest_abc } }))
  -- its metadata have another size
  pub other_size : IsNoDistributorRecord (with_note Empty (Some (part_in 1 None)) (record uploading_note { upload_meta = record { size = 4; version = 3; digest = digest_abc } }))
