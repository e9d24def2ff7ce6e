-- Of worked rows: what comes to an initiator, octet by octet, and what is seen of it. The initiator is at 0001, its distributor at
-- 0009; it has 61 62 63 as version 2 sent to 0002 and 0003 in the group C000, by pull, and applied.
use Rattle.std.specs.Prelude.{ℕ, ◌≡◌, ◌++◌, ◌+◌, ◌-◌, Bool, true, false, List, [], ◌∷◌, length, map, take, Option, nat_le, if◌then◌else◌}
use Rattle.std.specs.List.{flat_map}
pub use Rattle.mu_model_scenes.specs.Octets.{distribution_cancel, distribution_get, receivers_delete_all, upload_get}
use Rattle.mu_model_wire.specs.Packet.{Packet}
use Rattle.mu_model_node.specs.Worked.{digest_abc}
use Rattle.mu_model_client.specs.declared.InitEnd.{InitEnd}
use Rattle.mu_model_client.specs.Initiator.{Ask, Initiator, new_initiator, InitiatorStep, initiator_packet, initiator_time, initiator_end}
use Rattle.mu_model_client.specs.Sets.{below}
use Rattle.mu_model_client_rows.specs.Scenes.{Comes, Says, Passes, image, id_of, metadata, low, high, limits}

abbrev pub ask : (apply : Bool) → Ask
ask apply = record {
  plan = record {
    sending = record { from = 1; id = 0x0001_0000_0000_0007; size = 3; log = 14; chunk = 8; mode = 2; group = 0xC000; ttl = 5; base = 0 };
    meta = record { size = 3; version = 2; digest = digest_abc };
    apply = apply;
  };
  distributor = 9;
  to = 2 ∷ 3 ∷ [];
}

abbrev pub new : (apply : Bool) → Initiator
new apply = new_initiator (ask apply)

abbrev pub alone : Initiator → InitiatorStep
alone i = record { next = i; sent = []; handled = true }

abbrev pub step_by : Initiator → Comes → InitiatorStep
step_by i (Says now from payload) = initiator_packet i (record { from = from; to = 1; payload = payload }) now
step_by i (Passes now) = initiator_time i image now
step_by i _ = alone i

abbrev pub after : Initiator → List Comes → Initiator
after i [] = i
after i (event ∷ events) = after (step_by i event).next events

-- what comes, whether it is handled, what is sent, and then the end, if there is one, and how many rows are had
abbrev pub InitTurn : Type 0
InitTurn = Comes × Bool × List (ℕ × List ℕ) × Option InitEnd × ℕ

abbrev pub turn_of : Comes → InitiatorStep → InitTurn
turn_of event step = (event, step.handled, map (λ (p : Packet). (p.to, p.payload)) step.sent, initiator_end step.next, length step.next.rows)

abbrev pub turns_of : Initiator → List InitTurn → List InitTurn
turns_of i [] = []
turns_of i (turn ∷ turns) = turn_of turn.0 (step_by i turn.0) ∷ turns_of (step_by i turn.0).next turns

abbrev pub Initiates : Initiator → List InitTurn → Type 0
Initiates i turns = turns_of i turns ≡ turns

abbrev pub is : Comes → List (ℕ × List ℕ) → Option InitEnd → ℕ → InitTurn
is event sent end had = (event, true, sent, end, had)

abbrev pub passes_over : Comes → List (ℕ × List ℕ) → Option InitEnd → ℕ → InitTurn
passes_over event sent end had = (event, false, sent, end, had)

-- ---- what is asked

abbrev pub firmware_id : List ℕ
firmware_id = (0xff ∷ 0xff ∷ 2 ∷ 0 ∷ 0 ∷ 0 ∷ []) ++ digest_abc

-- TTL, base, BLOB ID, size, the metadata's length and they, and the Firmware ID
abbrev pub upload_start : List ℕ
upload_start = (0x83 ∷ 0x1f ∷ 5 ∷ 0 ∷ 0 ∷ []) ++ (id_of 7 ++ ((3 ∷ 0 ∷ 0 ∷ 0 ∷ 40 ∷ []) ++ (metadata ++ firmware_id)))

abbrev pub receivers_add : List ℕ
receivers_add = 0x83 ∷ 0x11 ∷ 2 ∷ 0 ∷ 0 ∷ 3 ∷ 0 ∷ 0 ∷ []

abbrev pub firmware_get : List ℕ
firmware_get = 0x83 ∷ 0x23 ∷ firmware_id

-- ---- what is answered

abbrev pub upload_status : (status phase : ℕ) → List ℕ
upload_status status phase = 0x83 ∷ 0x22 ∷ status ∷ phase ∷ 0x32 ∷ firmware_id

abbrev pub no_upload_status : (status : ℕ) → List ℕ
no_upload_status status = 0x83 ∷ 0x22 ∷ status ∷ 0 ∷ []

-- group C000, AppKey 0, TTL 5, base 0, pull and apply, image 3
abbrev pub distribution_status : (status phase : ℕ) → List ℕ
distribution_status status phase = 0x83 ∷ 0x1d ∷ status ∷ phase ∷ 0 ∷ 0xc0 ∷ 0 ∷ 0 ∷ 5 ∷ 0 ∷ 0 ∷ 6 ∷ 3 ∷ 0 ∷ []

abbrev pub no_distribution_status : (status : ℕ) → List ℕ
no_distribution_status status = 0x83 ∷ 0x1d ∷ status ∷ 0 ∷ []

abbrev pub receivers_status : (status count : ℕ) → List ℕ
receivers_status status count = 0x83 ∷ 0x13 ∷ status ∷ low count ∷ high count ∷ []

abbrev pub firmware_status : (status index : ℕ) → List ℕ
firmware_status status index = (0x83 ∷ 0x27 ∷ status ∷ 4 ∷ 0 ∷ low index ∷ high index ∷ []) ++ firmware_id

-- so many entries of addresses from one on, each in Phase Unknown
abbrev pub entries : (number from : ℕ) → List ℕ
entries number from = flat_map (λ k. (from + k) ∷ 0 ∷ 5 ∷ 0 ∷ 0 ∷ []) (below number)

abbrev pub list : (count first : ℕ) → List ℕ → List ℕ
list count first shown = (0x83 ∷ 0x15 ∷ low count ∷ high count ∷ low first ∷ high first ∷ []) ++ shown

-- ---- up to each step's first time event

abbrev pub answers : List ℕ → List Comes
answers payload = Says 0 9 payload ∷ Passes 0 ∷ []

abbrev pub to_transfer : List Comes
to_transfer = Passes 0 ∷ answers (upload_status 0 1)

abbrev pub to_uploaded : List Comes
to_uploaded =
    to_transfer ++ (answers (limits 12 14 2048 376 4096 380 3)
    ++ (answers ((0x83 ∷ 0x03 ∷ 0x40 ∷ 2 ∷ []) ++ (id_of 7 ++ (3 ∷ 0 ∷ 0 ∷ 0 ∷ 12 ∷ 0x7c ∷ 1 ∷ 1 ∷ [])))
    ++ (answers (0x67 ∷ 0 ∷ 0 ∷ 0 ∷ 200 ∷ 0 ∷ []) ++ (Passes 0 ∷ answers (0x67 ∷ 0x40 ∷ 0 ∷ 0 ∷ 200 ∷ 0 ∷ [])))))

-- what was answered in the steps from 3 on
abbrev pub later_answers : List (List ℕ)
later_answers =
    upload_status 0 3 ∷ no_distribution_status 0 ∷ receivers_status 0 2 ∷ receivers_status 0 2 ∷ firmware_status 0 3 ∷ distribution_status 0 1 ∷ distribution_status 0 4
    ∷ []

abbrev pub to_step : (step : ℕ) → List Comes
to_step step = if nat_le step 2 then to_transfer else to_uploaded ++ flat_map answers (take (step - 3) later_answers)

-- the initiator in a step from 2 on
abbrev pub at : (step : ℕ) → Initiator
at step = after (new true) (to_step step)
