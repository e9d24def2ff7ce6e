-- What a line other than `settle` makes of a world with updaters and distributors, and what is printed: all that may come of it.
use Rattle.std.specs.Prelude.{ℕ, ◌+◌, ◌*◌, ◌^◌, max, nat_le, Bool, List, [], ◌∷◌, ◌++◌, length, map, slice_get, Contains, Option, Some, None, if◌then◌else◌}
use Rattle.mu_model_image.specs.Meta.{image_of}
use Rattle.mu_model_wire.specs.Packet.{Packet}
use Rattle.mu_model_node.specs.Slots.{held_count}
use Rattle.mu_model_node.specs.Events.{NodeEvent, PacketComes, TimeComes}
use Rattle.mu_model_client.specs.Begin.{is_ended}
use Rattle.mu_model_client.specs.Client.{rows}
use Rattle.mu_model_client.specs.Rows.{Row}
use Rattle.mu_model_distributor.specs.DistState.{UploadJob, job_of, DistDurable, DistState, dist_number, upload_number, run_upload, rows_of, transfer_id}
use Rattle.mu_model_distributor.specs.DistEvents.{DistStep, dist_step, dist_work, is_worn, new_distributor, stocked, restarted}
use Rattle.mu_model_distributor.specs.Runs.{left_after}
use Rattle.mu_model_script.specs.Event.{Event, Node, Old, Pair, Updater as UpdaterLine, Distributor, Stock, Say, Deliver, Time, Cut, Tear as TearLine, Active, Phase, Settle, Rows, Packet as PacketLine}
use Rattle.mu_model_script.specs.Texts.{sent_text, unread_text, boot_text, phase_text, ended_text, row_text}
use Rattle.mu_model_script.specs.Tokens.{Content}
use Rattle.mu_model_updater.specs.Updater.{UpdaterStep, updater_of, updater_step}
use Rattle.mu_model_world.specs.World.{Tear, Member, World}
use Rattle.mu_model_world.specs.Outcomes.{Outcome, outcomes, content_octets, counted, begun, sent_texts, done_by, happens, unread, timed, booted, active_texts, phase_line, with_changed}
use Rattle.mu_model_mesh.specs.Mesh.{UpdaterMember, DistributorMember, Mesh, node_at, updater_at, distributor_at, with_nodes, with_updater, with_distributor, with_sent, without_transfer}

-- a next world, and the text that is printed on the way
pub record MeshOutcome : Type 0 where
  pub mesh : Mesh
  pub text : List ℕ

abbrev pub one : Mesh → List ℕ → List MeshOutcome
one m text = record { mesh = m; text = text } ∷ []

-- ---- nodes

-- what comes of the world of the nodes
abbrev pub of_nodes : Mesh → Outcome → MeshOutcome
of_nodes m o = record { mesh = without_transfer m o.world; text = o.text }

abbrev pub all_of_nodes : Mesh → List Outcome → List MeshOutcome
all_of_nodes m os = map (of_nodes m) os

-- ---- updaters

-- the transfer of an updater is always present
abbrev pub updater_transfer : UpdaterMember → ℕ
updater_transfer u = u.updater.client.sending.id

abbrev pub updater_ran : Mesh → ℕ → UpdaterMember → (first : List ℕ) → UpdaterStep → MeshOutcome
updater_ran m address u first step = record {
  mesh = with_sent (with_updater m address (record u { updater = step.next })) step.sent (Some (updater_transfer u));
  text = first ++ sent_texts (length m.nodes.bag) step.sent;
}

-- an event at the updater's present moment
abbrev pub updater_happens : Mesh → ℕ → UpdaterMember → NodeEvent → (first : List ℕ) → List MeshOutcome
updater_happens m address u event first = updater_ran m address u first (updater_step u.updater event u.moment) ∷ []

-- ---- distributors

abbrev pub dist_ran : Mesh → ℕ → DistributorMember → (first : List ℕ) → DistStep → MeshOutcome
dist_ran m address d first step = record {
  mesh = with_sent (with_distributor m address (record d { state = step.next })) step.sent (Some (transfer_id address step.next.durable));
  text = first ++ sent_texts (length m.nodes.bag) step.sent;
}

-- the held blocks of the bank that an upload fills, else 0
abbrev pub held_of : Option UploadJob → ℕ
held_of None = 0
held_of (Some j) = held_count j.transfer.held

-- the distributor boots from what is kept; a tear is spent
abbrev pub dist_booted : Mesh → ℕ → DistributorMember → DistDurable → MeshOutcome
dist_booted m address d left = record {
  mesh = with_distributor m address (record d { tear = None; state = restarted address left });
  text = boot_text address left.count (held_of (job_of left.upload));
}

abbrev pub dist_torn : Mesh → ℕ → DistributorMember → NodeEvent → Tear → List MeshOutcome
dist_torn m address d event tear =
    map (λ operations. dist_booted m address d (left_after address d.state event d.moment operations)) (done_by tear.pattern tear.operation)

-- an event at the distributor's present moment, by a tear that is still to come
abbrev pub dist_happens_by : Mesh → ℕ → DistributorMember → NodeEvent → (first : List ℕ) → Option Tear → List MeshOutcome
dist_happens_by m address d event first None = dist_ran m address d first (dist_step address d.state event d.moment) ∷ []
dist_happens_by m address d event first (Some tear) =
    if nat_le tear.operation (length (dist_work address d.state event d.moment))
    then dist_torn m address d event tear
    else dist_ran m address d first (dist_step address d.state event d.moment) ∷ []

-- an event that would wear the flash out isn't done
abbrev pub dist_happens : Mesh → ℕ → DistributorMember → NodeEvent → (first : List ℕ) → List MeshOutcome
dist_happens m address d event first =
    if is_worn address d.state event d.moment then [] else dist_happens_by m address d event first d.tear

-- ---- packets

abbrev pub unread_if : (number address : ℕ) → (handled : Bool) → List ℕ
unread_if number address handled = if handled then [] else unread_text number address

abbrev pub given_by : Mesh → (number address : ℕ) → Packet → Option Member → Option UpdaterMember → Option DistributorMember → List MeshOutcome
given_by m number address packet (Some n) u d = all_of_nodes m (happens m.nodes address n (PacketComes packet) (unread number address n packet))
given_by m number address packet None (Some u) d =
    updater_happens m address u (PacketComes packet) (unread_if number address (updater_step u.updater (PacketComes packet) u.moment).handled)
given_by m number address packet None None (Some d) =
    dist_happens m address d (PacketComes packet) (unread_if number address (dist_step address d.state (PacketComes packet) d.moment).handled)
given_by m number address packet None None None = []

abbrev pub given_packet : Mesh → (number address : ℕ) → Option Packet → List MeshOutcome
given_packet m number address None = []
given_packet m number address (Some packet) = given_by m number address packet (node_at m address) (updater_at m address) (distributor_at m address)

-- packet `number` comes to the member of an address
abbrev pub given : Mesh → (number address : ℕ) → List MeshOutcome
given m number address = given_packet m number address (slice_get m.nodes.bag number)

-- ---- time

abbrev pub updater_later : ℕ → UpdaterMember → UpdaterMember
updater_later ms u = record u { moment = max u.moment ms }

abbrev pub dist_later : ℕ → DistributorMember → DistributorMember
dist_later ms d = record d { moment = max d.moment ms }

abbrev pub timed_by : Mesh → (address ms : ℕ) → Option Member → Option UpdaterMember → Option DistributorMember → List MeshOutcome
timed_by m address ms (Some n) u d = all_of_nodes m (timed m.nodes address ms (Some n))
timed_by m address ms None (Some u) d = updater_happens m address (updater_later ms u) TimeComes []
timed_by m address ms None None (Some d) = dist_happens m address (dist_later ms d) TimeComes []
timed_by m address ms None None None = []

-- time comes to the member of an address, whose moment is the greatest that it was given
abbrev pub time_comes : Mesh → (address ms : ℕ) → List MeshOutcome
time_comes m address ms = timed_by m address ms (node_at m address) (updater_at m address) (distributor_at m address)

-- ---- power

abbrev pub cut_by : Mesh → ℕ → Option Member → Option DistributorMember → List MeshOutcome
cut_by m address (Some n) d = all_of_nodes m (booted m.nodes address n n.state.durable ∷ [])
cut_by m address None (Some d) = dist_booted m address d d.state.durable ∷ []
cut_by m address None None = []

abbrev pub armed_by : Mesh → ℕ → Tear → Option Member → Option DistributorMember → List MeshOutcome
armed_by m address tear (Some n) d = one (with_nodes m (with_changed m.nodes address (record n { tear = Some tear }))) []
armed_by m address tear None (Some d) = one (with_distributor m address (record d { tear = Some tear })) []
armed_by m address tear None None = []

-- ---- what is shown

abbrev pub active_by : Mesh → ℕ → Option Member → List MeshOutcome
active_by m address (Some n) = one m (active_texts address n.state.durable.images)
active_by m address None = []

abbrev pub phase_by : Mesh → ℕ → Option Member → Option UpdaterMember → Option DistributorMember → List MeshOutcome
phase_by m address (Some n) u d = one m (phase_line address n.state)
phase_by m address None (Some u) d = one m (ended_text address (is_ended u.updater.client.place))
phase_by m address None None (Some d) = one m (phase_text address (dist_number d.state.durable.phase) (upload_number (run_upload d.state)))
phase_by m address None None None = []

abbrev pub row_texts : List Row → List ℕ
row_texts [] = []
row_texts (row ∷ more) = row_text row.address row.phase row.update_status row.transfer_status row.progress ++ row_texts more

abbrev pub rows_by : Mesh → Option UpdaterMember → Option DistributorMember → List MeshOutcome
rows_by m (Some u) d = one m (row_texts (rows u.updater.client))
rows_by m None (Some d) = one m (row_texts (rows_of d.state))
rows_by m None None = []

abbrev pub packet_by : Mesh → ℕ → Option Packet → List MeshOutcome
packet_by m number (Some packet) = one m (sent_text number packet.from packet.to packet.payload)
packet_by m number None = []

-- ---- new members

abbrev pub in_order : Mesh → ℕ → Mesh
in_order m address = record m { order = m.order ++ address ∷ [] }

-- a node is made as in a world of nodes alone
abbrev pub with_node : Mesh → ℕ → List Outcome → List MeshOutcome
with_node m address os = all_of_nodes (in_order m address) os

abbrev pub with_new_updater : Mesh → ℕ → UpdaterMember → Mesh
with_new_updater m address u = record (in_order m address) { nodes = counted m.nodes; updaters = m.updaters ++ (address, u) ∷ [] }

abbrev pub with_new_distributor : Mesh → ℕ → DistributorMember → Mesh
with_new_distributor m address d = record (in_order m address) { nodes = counted m.nodes; distributors = m.distributors ++ (address, d) ∷ [] }

abbrev pub stocked_by : Mesh → (address version : ℕ) → Content → Option DistributorMember → List MeshOutcome
stocked_by m address version content (Some d) =
    one (with_distributor (with_nodes m (counted m.nodes)) address (record d { state = stocked d.state (image_of version (content_octets content)) })) []
stocked_by m address version content None = []

-- ---- any line

-- one event more, which is no member line
abbrev pub mesh_begun : Mesh → Mesh
mesh_begun m = with_nodes m (begun m.nodes)

-- all that may come of a line in a world in which nothing stands against it; for `settle` see there
abbrev pub mesh_outcomes : Mesh → Event → List MeshOutcome
mesh_outcomes m (Node address group pages version content) = with_node m address (outcomes m.nodes (Node address group pages version content))
mesh_outcomes m (Old address group pages version content) = with_node m address (outcomes m.nodes (Old address group pages version content))
mesh_outcomes m (Pair address group pages version content second_version second) =
    with_node m address (outcomes m.nodes (Pair address group pages version content second_version second))
mesh_outcomes m (UpdaterLine address group id ttl base way log chunk version content to) =
    one (with_new_updater m address (record {
      moment = 0;
      updater =
          updater_of (record {
            address = address;
            group = group;
            id = id;
            ttl = ttl;
            base = base;
            mode = way;
            log = log;
            chunk = chunk;
            version = version;
            content = content_octets content;
            receivers = to;
          });
    })) []
mesh_outcomes m (Distributor address pages) =
    one (with_new_distributor m address (record { moment = 0; tear = None; state = restarted address (new_distributor pages) })) []
mesh_outcomes m (Stock address version content) = stocked_by m address version content (distributor_at m address)
mesh_outcomes m (Say from to payload) = all_of_nodes m (outcomes m.nodes (Say from to payload))
mesh_outcomes m (Deliver number address) = given (mesh_begun m) number address
mesh_outcomes m (Time address ms) = time_comes (mesh_begun m) address ms
mesh_outcomes m (Cut address) = cut_by (mesh_begun m) address (node_at m address) (distributor_at m address)
mesh_outcomes m (TearLine address operation pattern) =
    armed_by (mesh_begun m) address (record { operation = operation; pattern = pattern }) (node_at m address) (distributor_at m address)
mesh_outcomes m (Active address) = active_by (mesh_begun m) address (node_at m address)
mesh_outcomes m (Phase address) = phase_by (mesh_begun m) address (node_at m address) (updater_at m address) (distributor_at m address)
mesh_outcomes m (Settle turns) = []
mesh_outcomes m (Rows address) = rows_by (mesh_begun m) (updater_at m address) (distributor_at m address)
mesh_outcomes m (PacketLine number) = packet_by (mesh_begun m) number (slice_get m.nodes.bag number)
