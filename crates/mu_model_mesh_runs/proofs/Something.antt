-- Each line that says no `settle` comes to something.
use Rattle.std.proofs.Common.{◌≡◌, ◌<◌, ℕ, Bool, true, false, List, [], ◌∷◌, refl, sym, ap, subst, ◌∙◌, cond, Option, Some, None, Result, Ok, Err, Contains, ◌⊎◌, inl, inr, ⊎_elim, arith, map, length}
use Rattle.std.specs.Prelude.{slice_get, is_some, nat_le, ◌||◌}
use Rattle.mu_model_wire.specs.Packet.{Packet}
use Rattle.mu_model_node.specs.Events.{NodeEvent, PacketComes, TimeComes, is_worn, node_work, node_step}
use Rattle.mu_model_distributor.specs.DistEvents.{is_worn as dist_is_worn, dist_work, dist_step}
use Rattle.mu_model_flash.specs.declared.Pattern.{Pattern}
use Rattle.mu_model_flash.specs.declared.Pattern.TheVariants.{Old as OldBits, New as NewBits, Made as MadeBits}
use Rattle.mu_model_script.specs.Event.{Event, Node, Old, Pair, Updater as UpdaterLine, Distributor, Stock, Say, Deliver, Time, Cut, Tear as TearLine, Active, Phase, Settle, Rows, Packet as PacketLine}
use Rattle.mu_model_script.specs.Lines.{script_event}
use Rattle.mu_model_script.specs.Tokens.{Content}
use Rattle.mu_model_script.specs.declared.BadWhy.TheVariants.{Member as BadMember}
use Rattle.mu_model_script.specs.declared.LineFault.{LineFault}
use Rattle.mu_model_world.specs.World.{Tear, Member, World, config_of}
use Rattle.mu_model_world.specs.Judged.{Objection, or_else, Judged, Silent, Refused, Sound, judged_event}
use Rattle.mu_model_world.specs.Outcomes.{happens, happens_by, torn, done_by, Outcome, at_moment}
use Rattle.mu_model_mesh.specs.Mesh.{UpdaterMember, DistributorMember, Mesh, is_member, node_at, updater_at, distributor_at}
use Rattle.mu_model_mesh.specs.MeshOutcomes.{MeshOutcome, mesh_outcomes, mesh_begun, given, given_packet, given_by, time_comes, timed_by, cut_by, armed_by, active_by, phase_by, rows_by, packet_by, stocked_by, all_of_nodes, dist_happens, dist_happens_by, dist_torn, dist_later}
use Rattle.mu_model_mesh.specs.MeshJudged.{mesh_judged, mesh_judged_by, mesh_objection, is_past, unless, against_packet, against_stock, against_image, against_shown}
use Rattle.mu_model_mesh.specs.MeshRun.{MeshMoves, IsDone, MeshStep, PassesNone, MeshBars}
use Rattle.mu_model_mesh_runs.specs.Goes.{Coming, ByTime, ByPacket}
use Rattle.mu_model_mesh_runs.specs.Stops.{worn_by, node_later, distributor_later, packet_wears, would_wear, EventWears, MeshWears, MeshPasses}
use Rattle.mu_model_mesh_runs.specs.Laws.{IsOther, IsNoSettle, ComesTo, done, refused, wears, passes, HasMembers, LinesComeToSomething}

-- ---- outcomes

pub data HasOne : List MeshOutcome → Type 0 where
  has : (o : MeshOutcome) (os : List MeshOutcome) → HasOne (o ∷ os)

its_one : (os : List MeshOutcome) → HasOne os → (o : MeshOutcome) × Contains os o
its_one (o ∷ os) h = (o, (0, omega arith, refl))
its_one [] h = absurd (none h refl)
  where
    none : {xs : List MeshOutcome} → HasOne xs → xs ≡ [] → ⊥
    none (has o os) e = cc

-- there is one, or the event would wear out a flash
abbrev pub Either : Bool → List MeshOutcome → Type 0
Either worn os = (worn ≡ true) ⊎ HasOne os

torn_some : (w : World) (address : ℕ) (m : Member) (event : NodeEvent) (t : Tear) (p : Pattern) (mesh : Mesh) → t.pattern ≡ p → HasOne (all_of_nodes mesh (torn w address m event t))
torn_some w address m event t OldBits mesh e = rw e (has _ _)
torn_some w address m event t NewBits mesh e = rw e (has _ _)
torn_some w address m event t (MadeBits seed) mesh e = rw e (has _ _)

by_tear : (mesh : Mesh) (b : Bool) (xs : List Outcome) (o : Outcome) → HasOne (all_of_nodes mesh xs) → HasOne (all_of_nodes mesh (cond b xs (o ∷ [])))
by_tear mesh true xs o h = h
by_tear mesh false xs o h = has _ _

happens_some : (mesh : Mesh) (w : World) (address : ℕ) (m : Member) (event : NodeEvent) (first : List ℕ) (tear : Option Tear) → HasOne (all_of_nodes mesh (happens_by w address m event first tear))
happens_some mesh w address m event first None = has _ _
happens_some mesh w address m event first (Some t) = by_tear mesh (nat_le t.operation (length (node_work (config_of address m) m.state event m.moment))) (torn w address m event t) _ (torn_some w address m event t t.pattern mesh refl)

node_either : (mesh : Mesh) (address : ℕ) (m : Member) (event : NodeEvent) (first : List ℕ) (b : Bool) → is_worn (config_of address m) m.state event m.moment ≡ b → Either (is_worn (config_of address m) m.state event m.moment) (all_of_nodes mesh (happens mesh.nodes address m event first))
node_either mesh address m event first true e = inl e
node_either mesh address m event first false e = inr (subst (λ b. HasOne (all_of_nodes mesh (cond b [] (happens_by mesh.nodes address m event first m.tear)))) (sym e) (happens_some mesh mesh.nodes address m event first m.tear))

dist_torn_some : (mesh : Mesh) (address : ℕ) (d : DistributorMember) (event : NodeEvent) (t : Tear) (p : Pattern) → t.pattern ≡ p → HasOne (dist_torn mesh address d event t)
dist_torn_some mesh address d event t OldBits e = rw e (has _ _)
dist_torn_some mesh address d event t NewBits e = rw e (has _ _)
dist_torn_some mesh address d event t (MadeBits seed) e = rw e (has _ _)

dist_by_tear : (b : Bool) (xs : List MeshOutcome) (o : MeshOutcome) → HasOne xs → HasOne (cond b xs (o ∷ []))
dist_by_tear true xs o h = h
dist_by_tear false xs o h = has _ _

dist_happens_some : (mesh : Mesh) (address : ℕ) (d : DistributorMember) (event : NodeEvent) (first : List ℕ) (tear : Option Tear) → HasOne (dist_happens_by mesh address d event first tear)
dist_happens_some mesh address d event first None = has _ _
dist_happens_some mesh address d event first (Some t) = dist_by_tear (nat_le t.operation (length (dist_work address d.state event d.moment))) (dist_torn mesh address d event t) _ (dist_torn_some mesh address d event t t.pattern refl)

dist_either : (mesh : Mesh) (address : ℕ) (d : DistributorMember) (event : NodeEvent) (first : List ℕ) (b : Bool) → dist_is_worn address d.state event d.moment ≡ b → Either (dist_is_worn address d.state event d.moment) (dist_happens mesh address d event first)
dist_either mesh address d event first true e = inl e
dist_either mesh address d event first false e = inr (subst (λ b. HasOne (cond b [] (dist_happens_by mesh address d event first d.tear))) (sym e) (dist_happens_some mesh address d event first d.tear))

-- ---- members

abbrev pub Nobody : Option Member → Option UpdaterMember → Option DistributorMember → Type 0
Nobody n u d = n ≡ None → u ≡ None → d ≡ None → ⊥

given_either : (m : Mesh) (number address : ℕ) (p : Packet) (n : Option Member) (u : Option UpdaterMember) (d : Option DistributorMember) → Nobody n u d → Either (worn_by address (PacketComes p) n u d) (given_by m number address p n u d)
given_either m number address p (Some n) u d h = node_either m address n (PacketComes p) _ _ refl
given_either m number address p None (Some u) d h = inr (has _ _)
given_either m number address p None None (Some d) h = dist_either m address d (PacketComes p) _ _ refl
given_either m number address p None None None h = absurd (h refl refl refl)

pub timed_either : (m : Mesh) (address ms : ℕ) (n : Option Member) (u : Option UpdaterMember) (d : Option DistributorMember) → Nobody n u d → Either (worn_by address TimeComes (node_later ms n) u (distributor_later ms d)) (timed_by m address ms n u d)
timed_either m address ms (Some n) u d h = node_either m address (at_moment ms n) TimeComes [] _ refl
timed_either m address ms None (Some u) d h = inr (has _ _)
timed_either m address ms None None (Some d) h = dist_either m address (dist_later ms d) TimeComes [] _ refl
timed_either m address ms None None None h = absurd (h refl refl refl)

-- ---- what stands against nothing

there_of : (b : Bool) (token : ℕ) → unless b token ≡ None → b ≡ true
there_of true token e = refl
there_of false token e = cc

first_none : (a b : Option Objection) → or_else a b ≡ None → (a ≡ None) × (b ≡ None)
first_none None b e = (refl, e)
first_none (Some o) b e = cc

phase_some : (m : Mesh) (address : ℕ) (n : Option Member) (u : Option UpdaterMember) (d : Option DistributorMember) → Nobody n u d → HasOne (phase_by m address n u d)
phase_some m address (Some n) u d h = has _ _
phase_some m address None (Some u) d h = has _ _
phase_some m address None None (Some d) h = has _ _
phase_some m address None None None h = absurd (h refl refl refl)

cut_some : (m : Mesh) (address : ℕ) (n : Option Member) (d : Option DistributorMember) → (is_some n || is_some d) ≡ true → HasOne (cut_by m address n d)
cut_some m address (Some n) d e = has _ _
cut_some m address None (Some d) e = has _ _
cut_some m address None None e = cc

armed_some : (m : Mesh) (address : ℕ) (t : Tear) (n : Option Member) (d : Option DistributorMember) → (is_some n || is_some d) ≡ true → HasOne (armed_by m address t n d)
armed_some m address t (Some n) d e = has _ _
armed_some m address t None (Some d) e = has _ _
armed_some m address t None None e = cc

active_some : (m : Mesh) (address : ℕ) (n : Option Member) → is_some n ≡ true → HasOne (active_by m address n)
active_some m address (Some n) e = has _ _
active_some m address None e = cc

rows_some : (m : Mesh) (u : Option UpdaterMember) (d : Option DistributorMember) → (is_some u || is_some d) ≡ true → HasOne (rows_by m u d)
rows_some m (Some u) d e = has _ _
rows_some m None (Some d) e = has _ _
rows_some m None None e = cc

shown_some : (m : Mesh) (number : ℕ) (p : Option Packet) → against_shown p ≡ None → HasOne (packet_by m number p)
shown_some m number (Some p) e = has _ _
shown_some m number None e = cc

image_there : (content : Content) (d : Option DistributorMember) → against_image content d ≡ None → is_some d ≡ true
image_there content (Some d) e = refl
image_there content None e = cc

stock_there : (begun : Bool) (o : Objection) (content : Content) (d : Option DistributorMember) → cond begun (Some o) (against_image content d) ≡ None → is_some d ≡ true
stock_there true o content d e = cc
stock_there false o content d e = image_there content d e

stocked_some : (m : Mesh) (address version : ℕ) (content : Content) (d : Option DistributorMember) → is_some d ≡ true → HasOne (stocked_by m address version content d)
stocked_some m address version content (Some d) e = has _ _
stocked_some m address version content None e = cc

packet_there : (m : Mesh) (address : ℕ) (p : Option Packet) → against_packet m address p ≡ None → is_some p ≡ true
packet_there m address (Some p) e = refl
packet_there m address None e = cc

pub packet_either : (m : Mesh) (number address : ℕ) (p : Option Packet) → is_some p ≡ true → Nobody (node_at m address) (updater_at m address) (distributor_at m address) → Either (packet_wears m address p) (given_packet m number address p)
packet_either m number address (Some p) e h = given_either m number address p (node_at m address) (updater_at m address) (distributor_at m address) h
packet_either m number address None e h = cc

-- ---- any event

-- it leads on, or would wear out a flash
abbrev pub Comes : Mesh → Event → Type 0
Comes m event = ((text : List ℕ) × (next : Mesh) × MeshMoves m event text next) ⊎ EventWears (mesh_begun m) event

moves_on : (m : Mesh) (event : Event) → IsOther event → HasOne (mesh_outcomes m event) → (text : List ℕ) × (next : Mesh) × MeshMoves m event text next
moves_on m (Settle turns) o h = absurd o
moves_on m event o h = let k = its_one (mesh_outcomes m event) h in (k.0.text, k.0.mesh, k.1)

event_comes : (m : Mesh) (event : Event) → HasMembers m → IsOther event → mesh_objection m event ≡ None → Comes m event
event_comes m (Node address group pages version content) there o e = inl (moves_on m (Node address group pages version content) o (has _ _))
event_comes m (Old address group pages version content) there o e = inl (moves_on m (Old address group pages version content) o (has _ _))
event_comes m (Pair address group pages version content second_version second) there o e = inl (moves_on m (Pair address group pages version content second_version second) o (has _ _))
event_comes m (UpdaterLine address group id ttl base way log chunk version content to) there o e = inl (moves_on m (UpdaterLine address group id ttl base way log chunk version content to) o (has _ _))
event_comes m (Distributor address pages) there o e = inl (moves_on m (Distributor address pages) o (has _ _))
event_comes m (Stock address version content) there o e = inl (moves_on m (Stock address version content) o (stocked_some m address version content (distributor_at m address) (stock_there m.nodes.begun (record { token = 0; why = BadMember }) content (distributor_at m address) e)))
event_comes m (Say from to payload) there o e = inl (moves_on m (Say from to payload) o (has _ _))
event_comes m (Deliver number address) there o e =
    let k = first_none (unless (is_member m address) 2) (against_packet m address (slice_get m.nodes.bag number)) e in
    ⊎_elim (λ worn. inr worn) (λ some. inl (moves_on m (Deliver number address) o some))
    (packet_either (mesh_begun m) number address (slice_get m.nodes.bag number) (packet_there m address (slice_get m.nodes.bag number) k.1) (there address (there_of (is_member m address) 2 k.0)))
event_comes m (Time address ms) there o e =
    ⊎_elim (λ worn. inr worn) (λ some. inl (moves_on m (Time address ms) o some))
    (timed_either (mesh_begun m) address ms (node_at m address) (updater_at m address) (distributor_at m address) (there address (there_of (is_member m address) 1 e)))
event_comes m (Cut address) there o e = inl (moves_on m (Cut address) o (cut_some (mesh_begun m) address (node_at m address) (distributor_at m address) (there_of _ 1 e)))
event_comes m (TearLine address operation pattern) there o e = inl (moves_on m (TearLine address operation pattern) o (armed_some (mesh_begun m) address _ (node_at m address) (distributor_at m address) (there_of _ 1 e)))
event_comes m (Active address) there o e = inl (moves_on m (Active address) o (active_some (mesh_begun m) address (node_at m address) (there_of _ 1 e)))
event_comes m (Phase address) there o e = inl (moves_on m (Phase address) o (phase_some (mesh_begun m) address (node_at m address) (updater_at m address) (distributor_at m address) (there address (there_of (is_member m address) 1 e))))
event_comes m (Settle turns) there o e = absurd o
event_comes m (Rows address) there o e = inl (moves_on m (Rows address) o (rows_some (mesh_begun m) (updater_at m address) (distributor_at m address) (there_of _ 1 e)))
event_comes m (PacketLine number) there o e = inl (moves_on m (PacketLine number) o (shown_some (mesh_begun m) number (slice_get m.nodes.bag number) e))

-- ---- any line

module _ (m : Mesh) (line : List ℕ) (there : HasMembers m) where
  by_objection : (event : Event) → script_event line ≡ Ok (Some event) → IsOther event → is_past m event ≡ false → (o : Option Objection) → mesh_objection m event ≡ o → mesh_judged m line ≡ judged_event line event o → ComesTo m line
  by_objection event says other within None e judged =
      ⊎_elim (λ moved. done moved.0 moved.1 (record { done = subst (λ j. IsDone m j moved.0 moved.1) (sym judged) (within, moved.2) }))
      (λ worn. wears (record { event = event; sound = judged; within = within; wears = worn })) (event_comes m event there other e)
  by_objection event says other within (Some o) e judged = refused _ _ (record { within = subst (PassesNone m) (sym says) within; judged = judged })

  by_past : (event : Event) → script_event line ≡ Ok (Some event) → IsOther event → (b : Bool) → is_past m event ≡ b → ComesTo m line
  by_past event says other true past = passes (record { event = event; says = says; past = past })
  by_past event says other false within = by_objection event says other within (mesh_objection m event) refl (ap (mesh_judged_by m line) says)

  by_read : (r : Result (Option Event) LineFault) → script_event line ≡ r → IsNoSettle r → ComesTo m line
  by_read (Err fault) says other = refused _ _ (record { within = subst (PassesNone m) (sym says) tt; judged = ap (mesh_judged_by m line) says })
  by_read (Ok None) says other = done [] m (record { done = subst (λ j. IsDone m j [] m) (sym (ap (mesh_judged_by m line) says)) (refl, refl) })
  by_read (Ok (Some event)) says other = by_past event says other (is_past m event) refl

pub something : LinesComeToSomething
something m line there other = by_read m line there (script_event line) refl other
