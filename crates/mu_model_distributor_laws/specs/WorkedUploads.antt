-- Worked rows: uploads.
use Rattle.std.specs.Prelude.{ℕ, ◌≡◌, ◌++◌, List, [], ◌∷◌, map}
use Rattle.mu_model_node.specs.Safe.{Happening, CutPower, Torn}
use Rattle.mu_model_node.specs.Events.{TimeComes}
use Rattle.mu_model_node.specs.BlobServer.{server_phase, blob_number}
use Rattle.mu_model_node.specs.Worked.{digest_abc, image_abc, metadata_at}
use Rattle.mu_model_distributor.specs.DistState.{StoredImage, server_of}
use Rattle.mu_model_distributor.specs.DistEvents.{stocked}
use Rattle.mu_model_distributor_laws.specs.Scenes.{empty_one, stocked_one, said, time_passes, after, answers, seen, receivers_add, upload_get, upload_start, upload_start_of, upload_cancel, transfer_start, block_start, chunk, firmware_delete, firmware_delete_all, id_at, upload_status, no_upload, idle_status, distribution_start, capabilities, capabilities_get}

abbrev pub started : List Happening
started = said (upload_start 5 3) ∷ []

abbrev pub up_to_block : List Happening
up_to_block = started ++ said transfer_start ∷ said block_start ∷ []

-- the last octet of the image is this
abbrev pub up_to_chunk : ℕ → List Happening
up_to_chunk last = up_to_block ++ said (chunk last) ∷ []

abbrev pub uploaded : List Happening
uploaded = up_to_chunk 0x63 ++ time_passes 1 ∷ []

-- a transfer that was cut off by time
abbrev pub broken : List Happening
broken = started ++ said transfer_start ∷ time_passes 10000 ∷ []

-- the power went while it came
abbrev pub cut : List Happening
cut = started ++ said transfer_start ∷ CutPower ∷ []

-- BLOB Transfer Cancel
abbrev pub blob_cancel : List ℕ
blob_cancel = 0x83 ∷ 0x02 ∷ 7 ∷ 0 ∷ 0 ∷ 0 ∷ 0 ∷ 0 ∷ 1 ∷ 0 ∷ []

-- what is seen: count, distribution phase, upload phase of the run and of the record, counter, images, and `fresh`
pub record AWholeUpload : Type 0 where
  pub told_started : answers empty_one [] (upload_start 5 3) ≡ upload_status 0 1 0 ∷ []
  pub seen_started : seen (after empty_one started) ≡ 2 ∷ 0 ∷ 1 ∷ 1 ∷ 0 ∷ 0 ∷ 3 ∷ []
  pub again : answers empty_one started (upload_start 5 3) ≡ upload_status 0 1 0 ∷ []
  pub other : answers empty_one started (upload_start 6 3) ≡ upload_status 8 1 0 ∷ []
  pub block_held : answers empty_one (up_to_chunk 0x63) upload_get ≡ upload_status 0 1 100 ∷ []
  pub filled_bank : answers empty_one up_to_block capabilities_get ≡ capabilities 0x30 ∷ []
  pub unfilled_bank : answers empty_one started capabilities_get ≡ capabilities 0x40 ∷ []
  pub verified : answers empty_one uploaded upload_get ≡ upload_status 0 3 100 ∷ []
  pub seen_verified : seen (after empty_one uploaded) ≡ 4 ∷ 0 ∷ 3 ∷ 3 ∷ 0 ∷ 1 ∷ 1 ∷ []
  pub image : map (λ (x : StoredImage). x.image.octets) (after empty_one uploaded).durable.images ≡ (0x61 ∷ 0x62 ∷ 0x63 ∷ []) ∷ []
  -- one that isn't what was offered
  pub unfit : answers empty_one (up_to_chunk 0x64 ++ time_passes 1 ∷ []) upload_get ≡ upload_status 0 2 0 ∷ []
  pub seen_unfit : seen (after empty_one (up_to_chunk 0x64 ++ time_passes 1 ∷ [])) ≡ 4 ∷ 0 ∷ 2 ∷ 2 ∷ 0 ∷ 0 ∷ 1 ∷ []
  -- one that is stored already: a record the first time, and none the second
  pub stored : answers empty_one uploaded (upload_start 6 3) ≡ upload_status 0 3 100 ∷ []
  pub seen_stored : seen (after empty_one (uploaded ++ said (upload_start 6 3) ∷ [])) ≡ 5 ∷ 0 ∷ 3 ∷ 3 ∷ 0 ∷ 1 ∷ 0 ∷ []
  pub seen_stored_again : seen (after empty_one (uploaded ++ said (upload_start 6 3) ∷ said (upload_start 6 3) ∷ [])) ≡ 5 ∷ 0 ∷ 3 ∷ 3 ∷ 0 ∷ 1 ∷ 0 ∷ []
  -- the power goes between seal and record: the blocks are held, so it is verified again
  pub unsealed : seen (after empty_one (up_to_chunk 0x63 ++ Torn TimeComes 1 0 ∷ [])) ≡ 3 ∷ 0 ∷ 1 ∷ 1 ∷ 0 ∷ 0 ∷ 0 ∷ []
  pub sealed : seen (after empty_one (up_to_chunk 0x63 ++ Torn TimeComes 1 1 ∷ [])) ≡ 4 ∷ 0 ∷ 3 ∷ 3 ∷ 0 ∷ 1 ∷ 0 ∷ []

pub record BrokenUploads : Type 0 where
  pub told_broken : answers empty_one broken upload_get ≡ upload_status 0 2 0 ∷ []
  pub seen_broken : seen (after empty_one broken) ≡ 4 ∷ 0 ∷ 2 ∷ 2 ∷ 0 ∷ 0 ∷ 1 ∷ []
  -- it is resumed, which a record says
  pub resumed : answers empty_one broken (upload_start 5 3) ≡ upload_status 0 1 0 ∷ []
  pub seen_resumed : seen (after empty_one (broken ++ said (upload_start 5 3) ∷ [])) ≡ 5 ∷ 0 ∷ 1 ∷ 1 ∷ 0 ∷ 0 ∷ 0 ∷ []
  -- or another takes its bank
  pub replaced : answers empty_one broken (upload_start 6 3) ≡ upload_status 0 1 0 ∷ []
  pub last_bank : answers (stocked (stocked stocked_one image_abc) image_abc) broken (upload_start 6 3) ≡ upload_status 0 1 0 ∷ []
  -- after a boot it is broken off, and no record says so until the next
  pub seen_cut : seen (after empty_one cut) ≡ 3 ∷ 0 ∷ 2 ∷ 1 ∷ 0 ∷ 0 ∷ 0 ∷ []
  pub seen_cut_later : seen (after empty_one (cut ++ time_passes 20000 ∷ [])) ≡ 3 ∷ 0 ∷ 2 ∷ 1 ∷ 0 ∷ 0 ∷ 0 ∷ []
  pub seen_cut_said : seen (after empty_one (cut ++ said (receivers_add 0) ∷ [])) ≡ 4 ∷ 0 ∷ 2 ∷ 2 ∷ 0 ∷ 0 ∷ 3 ∷ []
  -- resumed before that, it needs none
  pub seen_cut_resumed : seen (after empty_one (cut ++ said (upload_start 5 3) ∷ [])) ≡ 3 ∷ 0 ∷ 1 ∷ 1 ∷ 0 ∷ 0 ∷ 0 ∷ []
  pub cut_resumed_blob : blob_number (server_phase (server_of (after empty_one (cut ++ said (upload_start 5 3) ∷ [])))) ≡ 5
  -- a record that a BLOB message writes keeps the phase of the last one
  pub seen_cut_blob_canceled : seen (after empty_one (cut ++ said blob_cancel ∷ [])) ≡ 4 ∷ 0 ∷ 2 ∷ 1 ∷ 0 ∷ 0 ∷ 3 ∷ []
  -- the uploader cancels the transfer: the upload is broken off in the next time event
  pub seen_blob_canceled : seen (after empty_one (started ++ said blob_cancel ∷ [])) ≡ 2 ∷ 0 ∷ 1 ∷ 1 ∷ 0 ∷ 0 ∷ 3 ∷ []
  pub seen_blob_canceled_later : seen (after empty_one (started ++ said blob_cancel ∷ time_passes 1 ∷ [])) ≡ 3 ∷ 0 ∷ 2 ∷ 2 ∷ 0 ∷ 0 ∷ 2 ∷ []
  -- the upload is canceled; without one there is no record
  pub canceled : answers empty_one started upload_cancel ≡ no_upload 0 ∷ []
  pub seen_canceled : seen (after empty_one (started ++ said upload_cancel ∷ [])) ≡ 3 ∷ 0 ∷ 0 ∷ 0 ∷ 0 ∷ 0 ∷ 2 ∷ []
  pub seen_canceled_again : seen (after empty_one (started ++ said upload_cancel ∷ said upload_cancel ∷ [])) ≡ 3 ∷ 0 ∷ 0 ∷ 0 ∷ 0 ∷ 0 ∷ 2 ∷ []

pub record RefusedUploads : Type 0 where
  -- an ID that isn't the metadata's, a size that isn't, metadata that are none, another company
  pub id : answers empty_one [] (upload_start_of (3 ∷ 0 ∷ []) 40 (metadata_at 3) (id_at 2)) ≡ no_upload 3 ∷ []
  pub size : answers empty_one [] (upload_start_of (4 ∷ 0 ∷ []) 40 (metadata_at 3) (id_at 3)) ≡ no_upload 3 ∷ []
  pub metadata : answers empty_one [] (upload_start_of (3 ∷ 0 ∷ []) 2 (1 ∷ 2 ∷ []) (id_at 3)) ≡ no_upload 3 ∷ []
  pub company : answers empty_one [] (upload_start_of (3 ∷ 0 ∷ []) 40 (metadata_at 3) ((0xfe ∷ 0xff ∷ 3 ∷ 0 ∷ 0 ∷ 0 ∷ []) ++ digest_abc)) ≡ no_upload 3 ∷ []
  pub large : answers empty_one [] (upload_start_of (1 ∷ 0x10 ∷ []) 40 ((1 ∷ 0x10 ∷ 0 ∷ 0 ∷ 3 ∷ 0 ∷ 0 ∷ 0 ∷ []) ++ digest_abc) (id_at 3)) ≡ no_upload 1 ∷ []
  pub no_bank : answers (stocked (stocked (stocked stocked_one image_abc) image_abc) image_abc) [] (upload_start 5 3) ≡ no_upload 1 ∷ []
  pub uri : answers empty_one [] ((0x83 ∷ 0x20 ∷ 0 ∷ []) ++ id_at 3) ≡ no_upload 9 ∷ []
  -- no distribution starts while one comes; it does where one was broken off, which its record says
  pub start_active : answers stocked_one (said (receivers_add 0) ∷ said (upload_start 5 3) ∷ []) (distribution_start 0) ≡ idle_status 8 ∷ []
  pub start_broken : seen (after stocked_one (said (receivers_add 0) ∷ said (upload_start 5 3) ∷ CutPower ∷ said (distribution_start 0) ∷ [])) ≡ 5 ∷ 1 ∷ 2 ∷ 2 ∷ 1 ∷ 1 ∷ 3 ∷ []
  -- an image isn't deleted while an upload comes or was broken off
  pub delete_active : answers empty_one started (firmware_delete 3) ≡ ((0x83 ∷ 0x27 ∷ 8 ∷ 0 ∷ 0 ∷ 0xff ∷ 0xff ∷ []) ++ id_at 3) ∷ []
  pub delete_broken : answers empty_one broken firmware_delete_all ≡ (0x83 ∷ 0x27 ∷ 8 ∷ 0 ∷ 0 ∷ 0xff ∷ 0xff ∷ []) ∷ []
  pub delete_unknown : answers empty_one uploaded (firmware_delete 2) ≡ ((0x83 ∷ 0x27 ∷ 4 ∷ 1 ∷ 0 ∷ 0xff ∷ 0xff ∷ []) ++ id_at 2) ∷ []
