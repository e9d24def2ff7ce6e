-- What stands against a line of a script in a world with updaters and distributors.
use Rattle.std.specs.Prelude.{ℕ, ◌+◌, ◌*◌, nat_le, nat_lt, ◌||◌, Bool, List, length, is_some, slice_get, Option, Some, None, Result, Ok, Err, if◌then◌else◌}
use Rattle.mu_model_image.specs.Sizes.{page_octets}
use Rattle.mu_model_wire.specs.Packet.{Packet}
use Rattle.mu_model_node.specs.NodeMessages.{request_at}
use Rattle.mu_model_distributor.specs.Receivers.{banks}
use Rattle.mu_model_script.specs.declared.LineFault.{LineFault}
use Rattle.mu_model_script.specs.declared.BadWhy.TheVariants.{Token as BadToken, Member as BadMember, Packet as BadPacket, Premise}
use Rattle.mu_model_script.specs.Event.{Event, Node, Old, Pair, Updater as UpdaterLine, Distributor, Stock, Say, Deliver, Time, Cut, Tear, Active, Phase, Settle, Rows, Packet as PacketLine}
use Rattle.mu_model_script.specs.Limits.{most_turns}
use Rattle.mu_model_script.specs.Lines.{script_event}
use Rattle.mu_model_script.specs.Texts.{line_word}
use Rattle.mu_model_script.specs.Tokens.{Content}
use Rattle.mu_model_world.specs.Judged.{Objection, against, or_else, most_members, most_events, owner_of, offered, Judged, Silent, Refused, judged_event}
use Rattle.mu_model_world.specs.Outcomes.{content_octets}
use Rattle.mu_model_mesh.specs.Mesh.{DistributorMember, Mesh, is_member, node_at, updater_at, distributor_at, takes}

-- ---- member lines

-- a member line comes before all others, for at most 32 members of different addresses
abbrev pub against_new : Mesh → (address : ℕ) → Option Objection
against_new m address =
    if m.nodes.begun || nat_le most_members (length m.order) then against 0 BadMember
    else if is_member m address then against 1 BadMember
    else None

-- a content, by its token, is past the bank
abbrev pub against_past : (token capacity : ℕ) → Content → Option Objection
against_past token capacity content = if nat_lt capacity (length (content_octets content)) then against token BadToken else None

abbrev pub bank : (pages : ℕ) → ℕ
bank pages = page_octets * pages

-- at most 4 images in a distributor that is there, each of them within its bank
abbrev pub against_image : Content → Option DistributorMember → Option Objection
against_image content None = against 1 BadMember
against_image content (Some d) =
    if nat_le (length banks) (length d.state.durable.images) then against 1 BadMember else against_past 3 d.state.durable.capacity content

abbrev pub against_stock : Mesh → Content → Option DistributorMember → Option Objection
against_stock m content d = if m.nodes.begun then against 0 BadMember else against_image content d

-- ---- other lines

-- the member isn't there, or is of another kind
abbrev pub unless : Bool → (token : ℕ) → Option Objection
unless there token = if there then None else against token BadMember

-- a stranger has no member's address
abbrev pub against_member : Mesh → (token address : ℕ) → Option Objection
against_member m token address = if is_member m address then against token Premise else None

-- and offers no update under a member's BLOB ID
abbrev pub against_id : Mesh → Option ℕ → Option Objection
against_id m (Some id) = against_member m 3 (owner_of id)
against_id m None = None

abbrev pub against_packet : Mesh → (address : ℕ) → Option Packet → Option Objection
against_packet m address None = against 1 BadPacket
against_packet m address (Some packet) = if takes m packet address then None else against 2 BadPacket

abbrev pub against_shown : Option Packet → Option Objection
against_shown (Some packet) = None
against_shown None = against 1 BadPacket

-- what stands first against a line, in the order of the reasons and of the tokens
abbrev pub mesh_objection : Mesh → Event → Option Objection
mesh_objection m (Node address group pages version content) = or_else (against_new m address) (against_past 5 (bank pages) content)
mesh_objection m (Old address group pages version content) = or_else (against_new m address) (against_past 5 (bank pages) content)
mesh_objection m (Pair address group pages version content second_version second) =
    or_else (against_new m address) (or_else (against_past 5 (bank pages) content) (against_past 7 (bank pages) second))
mesh_objection m (UpdaterLine address group id ttl base way log chunk version content to) = against_new m address
mesh_objection m (Distributor address pages) = against_new m address
mesh_objection m (Stock address version content) = against_stock m content (distributor_at m address)
mesh_objection m (Say from to payload) = or_else (against_member m 1 from) (against_id m (offered (request_at payload)))
mesh_objection m (Deliver number address) = or_else (unless (is_member m address) 2) (against_packet m address (slice_get m.nodes.bag number))
mesh_objection m (Time address ms) = unless (is_member m address) 1
mesh_objection m (Cut address) = unless (is_some (node_at m address) || is_some (distributor_at m address)) 1
mesh_objection m (Tear address operation pattern) = unless (is_some (node_at m address) || is_some (distributor_at m address)) 1
mesh_objection m (Active address) = unless (is_some (node_at m address)) 1
mesh_objection m (Phase address) = unless (is_member m address) 1
mesh_objection m (Settle turns) = None
mesh_objection m (Rows address) = unless (is_some (updater_at m address) || is_some (distributor_at m address)) 1
mesh_objection m (PacketLine number) = against_shown (slice_get m.nodes.bag number)

-- ---- limits

-- a world takes so many events, and so many turns in all; a line that would pass a limit isn't carried out
abbrev pub is_past : Mesh → Event → Bool
is_past m (Settle turns) = nat_le most_events m.nodes.events || nat_lt most_turns (m.turns + turns)
is_past m _ = nat_le most_events m.nodes.events

-- ---- any line

abbrev pub mesh_judged_by : Mesh → List ℕ → Result (Option Event) LineFault → Judged
mesh_judged_by m line (Ok None) = Silent
mesh_judged_by m line (Ok (Some event)) = judged_event line event (mesh_objection m event)
mesh_judged_by m line (Err fault) = Refused fault.at (line_word fault.why)

abbrev pub mesh_judged : Mesh → List ℕ → Judged
mesh_judged m line = mesh_judged_by m line (script_event line)
