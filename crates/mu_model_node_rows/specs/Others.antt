-- Addressing, the log, operations of the flash and torn ones, and nodes with two images.
use Rattle.std.specs.Prelude.{ℕ, ◌≡◌, ◌++◌, Bool, true, false, List, [], ◌∷◌, map}
use Rattle.mu_model_wire.specs.Packet.{Packet}
use Rattle.mu_model_image.specs.declared.Meta.{Meta}
use Rattle.mu_model_node.specs.NodeState.{NodeState, new_pair, restarted}
use Rattle.mu_model_node.specs.Events.{NodeEvent, PacketComes, TimeComes, node_step, node_work, node_passed, is_worn}
use Rattle.mu_model_node.specs.Safe.{Happening, Done, CutPower, Torn, state_after, log_after}
use Rattle.mu_model_node.specs.Log.{LogEntry, Took, Asked, Active, Canceled, Reached}
use Rattle.mu_model_node.specs.Worked.{node_two, one_image, image_a, image_abc, digest_a, digest_abc}
use Rattle.mu_model_node_rows.specs.Scenes.{heard, said, at, to_start, to_transfer, to_block, to_whole, to_verified, to_applying, to_failed, to_suspended, metadata, start, update_start, update_get, update_cancel, update_apply, transfer_start, transfer_cancel, block_start, chunk, abc, idle_status, metadata_status, information_get, metadata_check}
use Rattle.mu_model_node_rows.specs.Turns.{seen, Turn, Goes, answers}

-- ---- addressing

-- whether a packet is handled, and its answers, from and to, by a node at 0002 of this group
abbrev pub heard_at : ℕ → (from to : ℕ) → List ℕ → Bool × List (ℕ × ℕ)
heard_at group from to payload =
    let step = node_step (record { address = 2; group = group }) one_image (PacketComes (record { from = from; to = to; payload = payload })) 0 in
    (step.handled, map (λ (p : Packet). (p.from, p.to)) step.sent)

pub record Addresses : Type 0 where
  pub own : heard_at 0xc000 9 2 update_get ≡ (true, (2, 9) ∷ [])
  pub group : heard_at 0xc000 9 0xc000 update_get ≡ (true, (2, 9) ∷ [])
  pub other_group : heard_at 0xc000 9 0xc001 update_get ≡ (false, [])
  pub other : heard_at 0xc000 9 3 update_get ≡ (false, [])
  -- 0000 is no group
  pub none : heard_at 0 9 0 update_get ≡ (false, [])
  -- a message that is passed over by its table is handled, and an answer of a server, a request to a distributor, a payload that
  -- is no message and an empty one aren't
  pub passed_over : heard_at 0 9 2 (chunk 0 abc) ≡ (true, [])
  pub update_status : heard_at 0 9 2 (idle_status 0) ≡ (false, [])
  pub block_status : heard_at 0 9 2 (0x67 ∷ 0 ∷ 0 ∷ 0 ∷ 8 ∷ 0 ∷ []) ≡ (false, [])
  pub part_report : heard_at 0 9 2 (0x68 ∷ []) ≡ (false, [])
  pub upload_get : heard_at 0 9 2 (0x83 ∷ 0x1e ∷ []) ≡ (false, [])
  pub no_message : heard_at 0 9 2 (0x83 ∷ 0x0c ∷ 0 ∷ []) ≡ (false, [])
  pub empty : heard_at 0 9 2 [] ≡ (false, [])

-- a packet that isn't handled changes nothing but the last moment
pub record Moments : Type 0 where
  pub unread : seen (state_after node_two (at to_start) (Done (heard []) 10000 ∷ Done TimeComes 0 ∷ [])) ≡ 3 ∷ 1 ∷ 0 ∷ []
  pub to_another : seen (state_after node_two (at to_start) (Done (PacketComes (record { from = 1; to = 3; payload = update_cancel })) 9999 ∷ Done TimeComes 0 ∷ [])) ≡ 3 ∷ 2 ∷ 1 ∷ []
  pub to_another_later : seen (state_after node_two (at to_start) (Done (PacketComes (record { from = 1; to = 3; payload = update_cancel })) 10000 ∷ Done TimeComes 0 ∷ [])) ≡ 3 ∷ 1 ∷ 0 ∷ []
  pub heard_then : seen (state_after node_two (at to_start) (Done (heard update_start) 4000 ∷ Done TimeComes 13999 ∷ [])) ≡ 3 ∷ 2 ∷ 1 ∷ []

-- ---- the log

abbrev pub logs : List Happening → List Happening → List LogEntry
logs before happenings = log_after node_two (at before) happenings

abbrev pub offered : Meta
offered = record { size = 3; version = 2; digest = digest_abc }

pub record Logs : Type 0 where
  pub started : logs [] to_start ≡ Took 0x0001_0000_0000_0007 0 offered ∷ Reached 0x0001_0000_0000_0007 2 ∷ []
  pub started_again : logs to_start (said update_start ∷ said update_get ∷ said transfer_start ∷ said (block_start 0 8 0) ∷ []) ≡ []
  pub whole : logs to_block (said (chunk 0 abc) ∷ Done TimeComes 0 ∷ Done TimeComes 0 ∷ []) ≡ Reached 0x0001_0000_0000_0007 3 ∷ Reached 0x0001_0000_0000_0007 4 ∷ []
  pub applied : logs to_verified (said update_apply ∷ said update_apply ∷ Done TimeComes 0 ∷ []) ≡ Asked 0x0001_0000_0000_0007 ∷ Reached 0x0001_0000_0000_0007 6 ∷ Active 0 offered ∷ []
  -- an equal start after Verification Failed writes a new job
  pub failed_again : logs to_failed (said update_start ∷ []) ≡ Took 0x0001_0000_0000_0007 0 offered ∷ Reached 0x0001_0000_0000_0007 2 ∷ []
  pub unfit : logs to_block (said (chunk 0 (0x61 ∷ 0x62 ∷ 0x64 ∷ [])) ∷ Done TimeComes 0 ∷ []) ≡ Reached 0x0001_0000_0000_0007 3 ∷ Reached 0x0001_0000_0000_0007 5 ∷ []
  -- the power goes in a transfer, and the update goes on: nothing new is taken
  pub cut : logs to_transfer (CutPower ∷ said update_start ∷ said transfer_start ∷ []) ≡ Reached 0x0001_0000_0000_0007 1 ∷ Reached 0x0001_0000_0000_0007 2 ∷ []
  pub cut_verified : logs to_verified (CutPower ∷ CutPower ∷ []) ≡ []
  -- the update that takes its place is taken, though it differs in its TTL alone
  pub replaced : logs to_suspended (said (start 6 0 7 0 (metadata 3 0 2)) ∷ []) ≡ Took 0x0001_0000_0000_0007 0 offered ∷ Reached 0x0001_0000_0000_0007 2 ∷ []
  pub timed_out : logs to_transfer (Done TimeComes 10000 ∷ Done TimeComes 10000 ∷ []) ≡ Reached 0x0001_0000_0000_0007 1 ∷ []
  pub transfer_canceled : logs to_transfer (said (transfer_cancel 7) ∷ []) ≡ Reached 0x0001_0000_0000_0007 1 ∷ []
  pub canceled : logs to_whole (said update_cancel ∷ []) ≡ Canceled 0x0001_0000_0000_0007 ∷ []
  pub canceled_failed : logs to_failed (said update_cancel ∷ said update_cancel ∷ []) ≡ Canceled 0x0001_0000_0000_0007 ∷ []
  -- a torn event logs what stands after the boot
  pub torn_start : logs [] (Torn (heard update_start) 0 1 ∷ Torn (heard update_start) 0 2 ∷ []) ≡ Took 0x0001_0000_0000_0007 0 offered ∷ Reached 0x0001_0000_0000_0007 1 ∷ []
  pub torn_cancel : logs to_whole (Torn (heard update_cancel) 0 1 ∷ []) ≡ Canceled 0x0001_0000_0000_0007 ∷ []
  pub torn_apply : logs to_verified (Torn (heard update_apply) 0 0 ∷ Torn (heard update_apply) 0 2 ∷ []) ≡ Asked 0x0001_0000_0000_0007 ∷ Reached 0x0001_0000_0000_0007 6 ∷ []
  pub torn_switch : logs to_applying (Torn TimeComes 0 1 ∷ Torn TimeComes 0 2 ∷ []) ≡ Active 0 offered ∷ []

-- ---- operations of the flash

-- what is seen after each operation of an event, once the power is back
abbrev pub left : List Happening → NodeEvent → List (List ℕ)
left before event = map (λ d. seen (restarted d)) (node_work node_two (at before) event 0)

pub record Operations : Type 0 where
  -- a page is erased for the first record after a boot, and then programmed
  pub started : left [] (heard update_start) ≡ (2 ∷ 0 ∷ 0 ∷ []) ∷ (3 ∷ 1 ∷ 0 ∷ []) ∷ []
  -- the mark page is erased; the next slot is programmed
  pub begun : left to_start (heard transfer_start) ≡ (3 ∷ 1 ∷ 0 ∷ []) ∷ (4 ∷ 1 ∷ 5 ∷ []) ∷ []
  pub opened : left to_transfer (heard (block_start 0 8 0)) ≡ []
  -- the block's page is erased and programmed; then its mark
  pub put : left to_block (heard (chunk 0 abc)) ≡ (4 ∷ 1 ∷ 5 ∷ []) ∷ (4 ∷ 1 ∷ 5 ∷ []) ∷ (4 ∷ 3 ∷ 4 ∷ []) ∷ []
  pub verified : left to_whole TimeComes ≡ (5 ∷ 4 ∷ 4 ∷ []) ∷ []
  pub applied : left to_verified (heard update_apply) ≡ (6 ∷ 6 ∷ 4 ∷ []) ∷ []
  -- all four slots of the page are used: the other one is erased
  pub active : left to_applying TimeComes ≡ (6 ∷ 6 ∷ 4 ∷ []) ∷ (7 ∷ 0 ∷ 0 ∷ []) ∷ []
  pub canceled : left to_transfer (heard (transfer_cancel 7)) ≡ (5 ∷ 1 ∷ 0 ∷ []) ∷ []
  pub repeated : left to_transfer (heard transfer_start) ≡ []
  pub timed_out : map (λ d. seen (restarted d)) (node_work node_two (at to_transfer) TimeComes 10000) ≡ []
  -- what an event goes through
  pub passed : map (λ d. d.count) (node_passed node_two (at to_start) (heard transfer_start) 0) ≡ 3 ∷ 4 ∷ []
  pub passed_mark : map (λ d. d.count) (node_passed node_two (at to_block) (heard (chunk 0 abc)) 0) ≡ 4 ∷ 4 ∷ []
  pub passed_nothing : map (λ d. d.count) (node_passed node_two (at to_transfer) (heard update_get) 0) ≡ 4 ∷ []

-- whether a node whose record count is the last one is worn out by an event
abbrev pub worn : (count : ℕ) → List Happening → NodeEvent → Bool
worn count before event =
    let s = at before in is_worn node_two (record s { durable = record (s.durable) { count = count } }) event 0

pub record Worn : Type 0 where
  pub started : worn 4294967295 [] (heard update_start) ≡ true
  pub begun : worn 4294967295 to_start (heard transfer_start) ≡ true
  pub put : worn 4294967295 to_block (heard (chunk 0 abc)) ≡ false
  pub verified : worn 4294967295 to_whole TimeComes ≡ true
  pub refused : worn 4294967295 [] (heard (start 5 0 7 0 (metadata 3 0 1))) ≡ false
  pub last : worn 4294967294 [] (heard update_start) ≡ false

-- ---- two images: 61 as version 1 at index 0, and 61 62 63 as version 2 at index 1

abbrev pub pair : NodeState
pair = restarted (new_pair 1 image_a image_abc)

abbrev pub entry_a : List ℕ
entry_a = (0x26 ∷ 0xff ∷ 0xff ∷ 1 ∷ 0 ∷ 0 ∷ 0 ∷ []) ++ (digest_a ++ (0 ∷ []))

abbrev pub entry_abc : List ℕ
entry_abc = (0x26 ∷ 0xff ∷ 0xff ∷ 2 ∷ 0 ∷ 0 ∷ 0 ∷ []) ++ (digest_abc ++ (0 ∷ []))

abbrev pub new_pair_seen : List ℕ
new_pair_seen = 3 ∷ 0 ∷ 0 ∷ []

abbrev pub images_told : List Turn
images_told =
    answers 0 (information_get 0 2) ((0x83 ∷ 0x09 ∷ 2 ∷ 0 ∷ []) ++ (entry_a ++ entry_abc)) new_pair_seen
    ∷ answers 0 (information_get 0 255) ((0x83 ∷ 0x09 ∷ 2 ∷ 0 ∷ []) ++ (entry_a ++ entry_abc)) new_pair_seen
    ∷ answers 0 (information_get 0 1) ((0x83 ∷ 0x09 ∷ 2 ∷ 0 ∷ []) ++ entry_a) new_pair_seen
    ∷ answers 0 (information_get 1 1) ((0x83 ∷ 0x09 ∷ 2 ∷ 1 ∷ []) ++ entry_abc) new_pair_seen
    ∷ answers 0 (information_get 2 1) (0x83 ∷ 0x09 ∷ 2 ∷ 2 ∷ []) new_pair_seen
    ∷ answers 0 (information_get 0 0) (0x83 ∷ 0x09 ∷ 2 ∷ 0 ∷ []) new_pair_seen
    ∷ []

-- each index has the version of its own image
abbrev pub versions_compared : List Turn
versions_compared =
    answers 0 (metadata_check 0 (metadata 3 0 2)) (metadata_status 0 0) new_pair_seen
    ∷ answers 0 (metadata_check 1 (metadata 3 0 2)) (metadata_status 5 1) new_pair_seen
    ∷ answers 0 (metadata_check 1 (metadata 3 0 3)) (metadata_status 0 1) new_pair_seen
    ∷ answers 0 (metadata_check 2 (metadata 3 0 3)) (metadata_status 4 2) new_pair_seen
    ∷ answers 0 (start 5 0 7 1 (metadata 3 0 2)) (idle_status 5) new_pair_seen
    ∷ answers 0 (start 5 0 7 2 (metadata 3 0 3)) (idle_status 4) new_pair_seen
    ∷ answers 0 (start 5 0 7 1 (metadata 3 0 3)) ((0x83 ∷ 0x10 ∷ 0x40 ∷ 5 ∷ 0 ∷ 0 ∷ 0 ∷ []) ++ (7 ∷ 0 ∷ 0 ∷ 0 ∷ 0 ∷ 0 ∷ 1 ∷ 0 ∷ 1 ∷ [])) (4 ∷ 2 ∷ 1 ∷ [])
    ∷ answers 0 (start 5 0 7 0 (metadata 3 0 3)) ((0x83 ∷ 0x10 ∷ 0x42 ∷ 5 ∷ 0 ∷ 0 ∷ 0 ∷ []) ++ (7 ∷ 0 ∷ 0 ∷ 0 ∷ 0 ∷ 0 ∷ 1 ∷ 0 ∷ 1 ∷ [])) (4 ∷ 2 ∷ 1 ∷ [])
    ∷ []

-- an update of the image of index 1
abbrev pub second_updated : List Happening
second_updated =
    said (start 5 0 7 1 (metadata 3 0 3)) ∷ said transfer_start ∷ said (block_start 0 8 0) ∷ said (chunk 0 abc) ∷ Done TimeComes 0
    ∷ said update_apply ∷ Done TimeComes 0 ∷ []

pub record Pairs : Type 0 where
  pub told : Goes pair images_told
  pub compared : Goes pair versions_compared
  pub active : map (λ image. image.meta.version) (state_after node_two pair second_updated).durable.images ≡ 1 ∷ 3 ∷ []
  pub log : log_after node_two pair second_updated ≡ Took 0x0001_0000_0000_0007 1 (record { size = 3; version = 3; digest = digest_abc }) ∷ Reached 0x0001_0000_0000_0007 2 ∷ Reached 0x0001_0000_0000_0007 3 ∷ Reached 0x0001_0000_0000_0007 4 ∷ Asked 0x0001_0000_0000_0007 ∷ Reached 0x0001_0000_0000_0007 6 ∷ Active 1 (record { size = 3; version = 3; digest = digest_abc }) ∷ []
