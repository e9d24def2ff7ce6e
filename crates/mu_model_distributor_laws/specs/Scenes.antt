-- Of worked rows: what comes to a distributor, octet by octet, and what is seen of it. The distributor is at 0001, its receiver at
-- 0002, and a stranger at 0009. The image is 61 62 63: version 2 is stocked, version 3 is uploaded.
use Rattle.std.specs.Prelude.{ℕ, ◌++◌, List, [], ◌∷◌, length, map, replicate, slice_index}
pub use Rattle.mu_model_node.specs.Worked.{block_start, transfer_start}
pub use Rattle.mu_model_scenes.specs.Octets.{receivers_delete_all, capabilities_get, distribution_get, distribution_suspend, distribution_cancel, distribution_apply, upload_get, upload_cancel, firmware_delete_all}
use Rattle.mu_model_wire.specs.Packet.{Packet}
use Rattle.mu_model_node.specs.Events.{NodeEvent, PacketComes, TimeComes}
use Rattle.mu_model_node.specs.Safe.{Happening, Done}
use Rattle.mu_model_node.specs.Worked.{digest_abc, image_abc, id7, metadata_at}
use Rattle.mu_model_distributor.specs.DistState.{DistState, dist_number, upload_number, run_upload}
use Rattle.mu_model_distributor.specs.DistEvents.{new_distributor, stocked, restarted, dist_step}
use Rattle.mu_model_distributor.specs.Runs.{state_after}

abbrev pub empty_one : DistState
empty_one = restarted 1 (new_distributor 1)

abbrev pub stocked_one : DistState
stocked_one = stocked empty_one image_abc

-- ---- what comes

abbrev pub heard : List ℕ → NodeEvent
heard payload = PacketComes (record { from = 9; to = 1; payload = payload })

abbrev pub said : List ℕ → Happening
said payload = Done (heard payload) 0

-- from the receiver
abbrev pub told : List ℕ → Happening
told payload = Done (PacketComes (record { from = 2; to = 1; payload = payload })) 0

abbrev pub time_passes : ℕ → Happening
time_passes now = Done TimeComes now

-- the receiver, for its image of this index
abbrev pub receivers_add : ℕ → List ℕ
receivers_add index = 0x83 ∷ 0x11 ∷ 2 ∷ 0 ∷ index ∷ []

abbrev pub receivers_get : List ℕ
receivers_get = 0x83 ∷ 0x14 ∷ 0 ∷ 0 ∷ 9 ∷ 0 ∷ []

-- a TTL, an octet of mode and policy, the image of an index, and the upper octet of a group
abbrev pub distribution_start_of : ℕ → ℕ → ℕ → ℕ → List ℕ
distribution_start_of ttl means image group = 0x83 ∷ 0x19 ∷ 0 ∷ 0 ∷ ttl ∷ 0 ∷ 0 ∷ means ∷ image ∷ 0 ∷ 0 ∷ group ∷ []

-- push, Verify And Apply, the group C000
abbrev pub distribution_start_by : ℕ → ℕ → List ℕ
distribution_start_by ttl image = distribution_start_of ttl 5 image 0xc0

abbrev pub distribution_start : ℕ → List ℕ
distribution_start image = distribution_start_by 5 image

-- the same to a label
abbrev pub label_start : List ℕ
label_start = (0x83 ∷ 0x19 ∷ 0 ∷ 0 ∷ 5 ∷ 0 ∷ 0 ∷ 5 ∷ 0 ∷ 0 ∷ []) ++ replicate 16 7

-- the Firmware ID of a version of 61 62 63
abbrev pub id_at : ℕ → List ℕ
id_at version = (0xff ∷ 0xff ∷ version ∷ 0 ∷ 0 ∷ 0 ∷ []) ++ digest_abc

-- a TTL and a version
abbrev pub upload_start : ℕ → ℕ → List ℕ
upload_start ttl version =
    (0x83 ∷ 0x1f ∷ ttl ∷ 0 ∷ 0 ∷ []) ++ (id7 ++ ((3 ∷ 0 ∷ 0 ∷ 0 ∷ 40 ∷ []) ++ (metadata_at version ++ id_at version)))

-- a size in two octets, metadata of such a length, and a Firmware ID
abbrev pub upload_start_of : List ℕ → ℕ → List ℕ → List ℕ → List ℕ
upload_start_of size len metadata fwid = (0x83 ∷ 0x1f ∷ 5 ∷ 0 ∷ 0 ∷ []) ++ (id7 ++ (size ++ ((0 ∷ 0 ∷ len ∷ []) ++ (metadata ++ fwid))))

abbrev pub firmware_get : ℕ → List ℕ
firmware_get version = (0x83 ∷ 0x23 ∷ []) ++ id_at version

abbrev pub firmware_get_by_index : ℕ → List ℕ
firmware_get_by_index index = 0x83 ∷ 0x24 ∷ index ∷ 0 ∷ []

abbrev pub firmware_delete : ℕ → List ℕ
firmware_delete version = (0x83 ∷ 0x25 ∷ []) ++ id_at version

-- 61 62 and this octet
abbrev pub chunk : ℕ → List ℕ
chunk last = 0x66 ∷ 0 ∷ 0 ∷ 0x61 ∷ 0x62 ∷ last ∷ []

-- ---- what is seen

abbrev pub after : DistState → List Happening → DistState
after s hs = state_after 1 s hs

-- what is sent where these octets come after these happenings
abbrev pub answers : DistState → List Happening → List ℕ → List (List ℕ)
answers s hs payload = map (λ (p : Packet). p.payload) (dist_step 1 (after s hs) (heard payload) 0).sent

-- what a time event sends after these happenings
abbrev pub sends_at : ℕ → DistState → List Happening → List (List ℕ)
sends_at now s hs = map (λ (p : Packet). p.payload) (dist_step 1 (after s hs) TimeComes now).sent

-- the record count, the distribution phase, the upload phase of the run and of the record, the counter, how many images, and `fresh`
abbrev pub seen : DistState → List ℕ
seen s =
    s.durable.count ∷ dist_number s.durable.phase ∷ upload_number (run_upload s) ∷ upload_number s.durable.upload ∷ s.durable.counter
    ∷ length s.durable.images ∷ s.fresh ∷ []

-- ---- what is answered

abbrev pub receivers_status : ℕ → ℕ → List ℕ
receivers_status status count = 0x83 ∷ 0x13 ∷ status ∷ count ∷ 0 ∷ []

abbrev pub distribution_status : ℕ → ℕ → List ℕ
distribution_status status phase = 0x83 ∷ 0x1d ∷ status ∷ phase ∷ 0 ∷ 0xc0 ∷ 0 ∷ 0 ∷ 5 ∷ 0 ∷ 0 ∷ 5 ∷ 0 ∷ 0 ∷ []

-- in phase 0
abbrev pub idle_status : ℕ → List ℕ
idle_status status = 0x83 ∷ 0x1d ∷ status ∷ 0 ∷ []

abbrev pub upload_status : ℕ → ℕ → ℕ → List ℕ
upload_status status phase progress = (0x83 ∷ 0x22 ∷ status ∷ phase ∷ progress ∷ []) ++ id_at 3

abbrev pub no_upload : ℕ → List ℕ
no_upload status = 0x83 ∷ 0x22 ∷ status ∷ 0 ∷ []

abbrev pub capabilities : ℕ → List ℕ
capabilities pages = 0x83 ∷ 0x17 ∷ 0x80 ∷ 0 ∷ 4 ∷ 0 ∷ 0 ∷ 0x10 ∷ 0 ∷ 0 ∷ 0 ∷ 0x40 ∷ 0 ∷ 0 ∷ 0 ∷ pages ∷ 0 ∷ 0 ∷ 0 ∷ []

-- the second octet after the opcode: the status of an answer
abbrev pub status_in : List (List ℕ) → ℕ
status_in [] = 99
status_in (payload ∷ others) = slice_index payload 2
