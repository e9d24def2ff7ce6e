-- A time event and a packet do to the members of a world what they do to typed members.
use Rattle.std.proofs.Common.{◌≡◌, ◌≤◌, ◌+◌, ℕ, Bool, true, false, List, [], ◌∷◌, ◌++◌, map, refl, sym, ap, subst, ◌∙◌, cond, arith, max, append-nil, Option, Some, None, ◌⊎◌}
use Rattle.std.specs.Prelude.{◌==◌, ◌||◌, Contains, slice_get}
use Rattle.std.specs.List.{AllByRecursion, flat_map}
use Rattle.std.proofs.lemmas.Bool.{eqb-true}
use Rattle.mu_model_wire.specs.Opcodes.{OneOctetIsKept}
use Rattle.mu_model_wire.specs.Packet.{Packet}
use Rattle.mu_model_wire.specs.Laws.{GrammarHolds, CanonicalIsRead}
use Rattle.mu_model_node.specs.declared.NodeConfig.{NodeConfig}
use Rattle.mu_model_node.specs.Events as e
use Rattle.mu_model_node.specs.Events.{PacketComes, TimeComes, NodeStep, node_step, on_request, stepped, passed_over}
use Rattle.mu_model_node.specs.NodeMessages.{Request, Reply, request_at, reply_packet}
use Rattle.mu_model_node.specs.NodeState.{NodeState, is_addressee, update_phase}
use Rattle.mu_model_node.specs.TimeTable.{on_time}
use Rattle.mu_model_client.specs.Answers.{Answer, answer_at, heard}
use Rattle.mu_model_client.specs.Begin.{is_ended}
use Rattle.mu_model_client.specs.Client as client
use Rattle.mu_model_client.specs.Client.{Client}
use Rattle.mu_model_client.specs.Due.{due}
use Rattle.mu_model_client.specs.Packets.{request_packet, ClientStep, answer_handled, client_packet}
use Rattle.mu_model_client.specs.Told.{told}
use Rattle.mu_model_client_laws.specs.Wire.{RequestsAreRead, RequestsAreNoAnswers, RepliesAreRead}
use Rattle.mu_model_distributor.specs.DistEvents.{DistStep, dist_step}
use Rattle.mu_model_updater.specs.Updater.{UpdaterStep, updater_step}
use Rattle.mu_model_world.specs.World as w
use Rattle.mu_model_world.specs.World.{config_of}
use Rattle.mu_model_world.specs.Outcomes as o
use Rattle.mu_model_world.specs.Outcomes.{ran}
use Rattle.mu_model_mesh.specs.Mesh.{UpdaterMember, DistributorMember, Mesh, node_at, updater_at, distributor_at, moment_by}
use Rattle.mu_model_mesh.specs.MeshOutcomes as mo
use Rattle.mu_model_mesh.specs.MeshOutcomes.{MeshOutcome, of_nodes, updater_ran, updater_later, dist_ran, dist_later, timed_by, given_by, given_packet, unread_if}
use Rattle.mu_model_mesh.specs.Settle.{turn_comes}
use Rattle.mu_model_completion.specs.Turn.{Member, IsNode, IsUpdater, Body, Asks, Replies, Sent, Moved, asked_by, replied_by, part_timed, timed, part_given, is_for, given_if, given, stands}
use Rattle.mu_model_mesh_completion.proofs.Apart.{none_some}
use Rattle.mu_model_mesh_completion.proofs.Replies.{reply_read, reply_asks_nothing}
use Rattle.mu_model_mesh_completion.proofs.Members.{MemberFits, Handed, BodyFits, SentFits}
use Rattle.mu_model_mesh_completion.proofs.Aims.{ClientAims, MemberAims}
use Rattle.mu_model_mesh_completion.proofs.Worlds.{members_by, member_of, body_octets, packet_of, only, none, Stable, NoneComes, NoneGoes, NodeRan, node_ran, happens_only, UpdaterRan, updater_went, DistRan, dist_went, dist_only}
use Rattle.mu_model_mesh_completion.proofs.Strays.{SaysPart, says_only, asks_nothing, told_same, IsStray, Own, Stray, packet_in, Mixed, NoStray, own_packets, own_all, own_strays, stray_packets, stray_none, stray_all}
use Rattle.mu_model_mesh_completion.proofs.Resting.{Rests, StepRests, dist_time_rests, dist_hears, dist_hears_report, dist_passes}

pub record Wire : Type 0 where
  pub grammar : GrammarHolds
  pub kept : OneOctetIsKept
  pub canonical : CanonicalIsRead
  pub requests : RequestsAreRead
  pub no_answers : RequestsAreNoAnswers
  pub replies : RepliesAreRead

-- an event at an address does what it does to the typed member there, beside strays
pub record Does (S : Packet → Type 0) (m next : Mesh) (address : ℕ) (step : Member → Moved) : Type 0 where
  pub here : member_of next address ≡ map (λ (x : Member). (step x).member) (member_of m address)
  pub there : (b : ℕ) → (address ≡ b → ⊥) → member_of next b ≡ member_of m b
  pub mixed : Mixed S (flat_map (λ (x : Member). (step x).sent) (member_of m address))
  pub bag : next.nodes.bag ≡ m.nodes.bag ++ map packet_in mixed.entries
  pub order : next.order ≡ m.order
  pub stable : Stable next
  pub none_comes : NoneComes m next
  pub none_goes : NoneGoes m next

does_at : (S : Packet → Type 0) (m next : Mesh) (address : ℕ) (step : Member → Moved) (x : Member) → member_of m address ≡ x ∷ [] → member_of next address ≡ (step x).member ∷ []
    → ((b : ℕ) → (address ≡ b → ⊥) → member_of next b ≡ member_of m b) → next.nodes.bag ≡ m.nodes.bag ++ map packet_of (step x).sent → next.order ≡ m.order → Stable next
    → NoneComes m next → NoneGoes m next → Does S m next address step
does_at S m next address step x is here there bag order stable none_comes none_goes = record {
  here = here ∙ sym (ap (map (λ (y : Member). (step y).member)) is);
  there = there;
  mixed = record {
    entries = map Own (step x).sent;
    own = own_all (step x).sent ∙ (sym (append-nil (step x).sent) ∙ sym (ap (λ (ys : List Member). flat_map (λ (y : Member). (step y).sent) ys) is));
    strays = own_strays S (step x).sent;
  };
  bag = bag ∙ ap (λ (ps : List Packet). m.nodes.bag ++ ps) (sym (own_packets (step x).sent));
  order = order;
  stable = stable;
  none_comes = none_comes;
  none_goes = none_goes;
}

replies_same : (from : ℕ) (rs : List (ℕ × Reply)) → map (reply_packet from) rs ≡ map packet_of (map (replied_by from) rs)
replies_same from [] = refl
replies_same from (r ∷ rs) = ap (λ (ps : List Packet). reply_packet from r ∷ ps) (replies_same from rs)

asks_same : (from : ℕ) (xs : List (ℕ × Request)) → map (request_packet from) xs ≡ map packet_of (map (asked_by from) xs)
asks_same from [] = refl
asks_same from (x ∷ xs) = ap (λ (ps : List Packet). request_packet from x ∷ ps) (asks_same from xs)

-- nobody is there but a distributor at rest, and all that it sends are strays
does_rest : (S : Packet → Type 0) (m next : Mesh) (address : ℕ) (step : Member → Moved) (sent : List Packet) → member_of m address ≡ [] → AllByRecursion S sent → DistRan m next sent → Does S m next address step
does_rest S m next address step sent is strays r = record {
  here = r.same address ∙ (is ∙ sym (ap (map (λ (y : Member). (step y).member)) is));
  there = λ b ne. r.same b;
  mixed = record {
    entries = map Stray sent;
    own = stray_none sent ∙ sym (ap (λ (ys : List Member). flat_map (λ (y : Member). (step y).sent) ys) is);
    strays = stray_all S sent strays;
  };
  bag = r.bag ∙ ap (λ (ps : List Packet). m.nodes.bag ++ ps) (sym (stray_packets sent));
  order = r.order;
  stable = r.stable;
  none_comes = r.none_comes;
  none_goes = r.none_goes;
}

pub nobody_else : (m : Mesh) (address : ℕ) → node_at m address ≡ None → updater_at m address ≡ None → member_of m address ≡ []
nobody_else m address n u = ap (λ (x : Option w.Member). members_by address x (updater_at m address)) n ∙ ap (λ (x : Option UpdaterMember). members_by address None x) u

-- ---- time

later_moment : (a : ℕ) → max a (a + 100) ≡ a + 100
later_moment a = omega arith

abbrev node_timed : (address : ℕ) (n : w.Member) (t : ℕ) → Moved
node_timed address n t = part_timed (record { config = config_of address n; moment = t; part = IsNode n.state }) (IsNode n.state)

-- no distributor stands where D holds
abbrev pub NoDistributors : (ℕ → Type 0) → Mesh → Type 0
NoDistributors D m = (b : ℕ) → D b → distributor_at m b ≡ None

module _ (kept : OneOctetIsKept) (D : ℕ → Type 0) where
  node_time : (m : Mesh) (address : ℕ) (n : w.Member) (u : Option UpdaterMember) (d : Option DistributorMember) (out : MeshOutcome) → Stable m → node_at m address ≡ Some n
      → Contains (timed_by m address (moment_by (Some n) u d + 100) (Some n) u d) out → Does (IsStray D) m out.mesh address timed
  node_time m address n u d out s at h =
      let later : w.Member = o.at_moment (n.moment + 100) n in
      let step : NodeStep = node_step (config_of address later) later.state TimeComes later.moment in
      let same : of_nodes m (ran m.nodes address later [] step) ≡ out = happens_only m address later TimeComes [] out (s.no_tear address n at) h in
      let r : NodeRan m out.mesh address later step = subst (λ (x : MeshOutcome). NodeRan m x.mesh address later step) same (node_ran m address n later [] step s at (s.no_tear address n at)) in
      let moment = later_moment n.moment in
      does_at (IsStray D) m out.mesh address timed (record { config = config_of address n; moment = n.moment; part = IsNode n.state })
      (ap (λ (x : Option w.Member). members_by address x (updater_at m address)) at)
      (r.here ∙ ap (λ t. (node_timed address n t).member ∷ []) moment)
      r.there
      (r.bag
      ∙ ap (λ (ps : List Packet). m.nodes.bag ++ ps) (replies_same address (on_time (e.at_moment n.state later.moment) (update_phase (e.at_moment n.state later.moment))).replies ∙ ap (λ t. map packet_of (node_timed address n t).sent) moment))
      r.order r.stable r.none_comes r.none_goes

  updater_time : (m : Mesh) (address : ℕ) (u : UpdaterMember) (d : Option DistributorMember) (out : MeshOutcome) → Stable m → node_at m address ≡ None → updater_at m address ≡ Some u
      → u.updater.client.sending.from ≡ address → Contains (timed_by m address (moment_by None (Some u) d + 100) None (Some u) d) out → Does (IsStray D) m out.mesh address timed
  updater_time m address u d out s nobody_there at from h =
      let later : UpdaterMember = updater_later (u.moment + 100) u in
      let step : UpdaterStep = updater_step u.updater TimeComes later.moment in
      let same : updater_ran m address later [] step ≡ out = only (updater_ran m address later [] step) out h in
      let r : UpdaterRan m out.mesh address later step = subst (λ (x : MeshOutcome). UpdaterRan m x.mesh address later step) same (updater_went m address u later [] step s nobody_there at) in
      let moment = later_moment u.moment in
      let c : Client = u.updater.client in
      let image : List ℕ = u.updater.image.octets in
      does_at (IsStray D) m out.mesh address timed (record { config = record { address = address; group = 0 }; moment = u.moment; part = IsUpdater c image })
      (ap (λ (x : Option w.Member). members_by address x (updater_at m address)) nobody_there ∙ ap (λ (x : Option UpdaterMember). members_by address None x) at)
      (r.here ∙ ap (λ t. record { config = record { address = address; group = 0 }; moment = t; part = IsUpdater (due c image t).next image } ∷ []) moment)
      r.there
      (r.bag
      ∙ ap (λ (ps : List Packet). m.nodes.bag ++ ps)
      (ap (λ (a : ℕ). map (request_packet a) (due c image later.moment).packets) from
      ∙ (asks_same address (due c image later.moment).packets ∙ ap (λ t. map packet_of (map (asked_by address) (due c image t).packets)) moment)))
      r.order r.stable r.none_comes r.none_goes

  dist_time : (m : Mesh) (address : ℕ) (d : DistributorMember) (out : MeshOutcome) → Stable m → NoDistributors D m → node_at m address ≡ None → updater_at m address ≡ None → distributor_at m address ≡ Some d
      → Contains (timed_by m address (d.moment + 100) None None (Some d)) out → Does (IsStray D) m out.mesh address timed
  dist_time m address d out s alone no_node no_updater at h =
      let rest = s.at_rest address d at in
      let later : DistributorMember = dist_later (d.moment + 100) d in
      let step : DistStep = dist_step address later.state TimeComes later.moment in
      let rests = dist_time_rests kept D address (λ own. none_some (sym (alone address own) ∙ at)) d.state later.moment rest.rests in
      let same : dist_ran m address later [] step ≡ out = dist_only m address later TimeComes [] out rest.no_tear h in
      does_rest (IsStray D) m out.mesh address timed step.sent (nobody_else m address no_node no_updater) rests.strays
      (subst (λ (x : MeshOutcome). DistRan m x.mesh step.sent) same (dist_went m address d later [] step s at (record { rests = rests.next; no_tear = rest.no_tear })))

  time_by : (m : Mesh) (address : ℕ) (n : Option w.Member) (u : Option UpdaterMember) (d : Option DistributorMember) (out : MeshOutcome) → Stable m → NoDistributors D m → node_at m address ≡ n → updater_at m address ≡ u
      → distributor_at m address ≡ d → AllByRecursion MemberFits (members_by address n u) → Contains (timed_by m address (moment_by n u d + 100) n u d) out → Does (IsStray D) m out.mesh address timed
  time_by m address (Some n) u d out s alone at up there fit h = node_time m address n u d out s at h
  time_by m address None (Some u) d out s alone at up there fit h = updater_time m address u d out s at up fit.0.0 h
  time_by m address None None None out s alone at up there fit h = absurd (none out h)
  time_by m address None None (Some d) out s alone at up there fit h = dist_time m address d out s alone at up there h

  pub time_does : (m : Mesh) (address : ℕ) (out : MeshOutcome) → Stable m → NoDistributors D m → AllByRecursion MemberFits (member_of m address) → Contains (turn_comes m address) out → Does (IsStray D) m out.mesh address timed
  time_does m address out s alone fit h = time_by m address (node_at m address) (updater_at m address) (distributor_at m address) out s alone refl refl refl fit h

-- ---- packets

handed_node : (s : NodeState) (now : ℕ) → now ≤ s.moment → e.at_moment s now ≡ s
handed_node s now h = let same : max s.moment now ≡ s.moment = omega (arith, h) in ap (λ t. record s { moment = t }) same

handed_client : (c : Client) (now : ℕ) → now ≤ c.moment → client.at_moment c now ≡ c
handed_client c now h = let same : max c.moment now ≡ c.moment = omega (arith, h) in ap (λ t. record c { moment = t }) same

-- a distributor at rest sends nothing at a packet
does_quietly : (m : Mesh) (address : ℕ) (d : DistributorMember) (packet : Packet) (first : List ℕ) (out : MeshOutcome) (step : Member → Moved) → Stable m → node_at m address ≡ None → updater_at m address ≡ None
    → distributor_at m address ≡ Some d → StepRests (dist_step address d.state (PacketComes packet) d.moment) → Contains (mo.dist_happens m address d (PacketComes packet) first) out → Does NoStray m out.mesh address step
does_quietly m address d packet first out step s no_node no_updater at rests h =
    let rest = s.at_rest address d at in
    let ran : DistStep = dist_step address d.state (PacketComes packet) d.moment in
    let same : dist_ran m address d first ran ≡ out = dist_only m address d (PacketComes packet) first out rest.no_tear h in
    does_rest NoStray m out.mesh address step ran.sent (nobody_else m address no_node no_updater) (subst (λ (sent : List Packet). AllByRecursion NoStray sent) (sym rests.quiet) tt)
    (subst (λ (x : MeshOutcome). DistRan m x.mesh ran.sent) same (dist_went m address d d first ran s at (record { rests = rests.next; no_tear = rest.no_tear })))

-- what a node does with a packet that is addressed to it
abbrev node_does : NodeConfig → NodeState → ℕ → ℕ → Body → NodeStep
node_does config s now from (Asks request) = stepped config (on_request (e.at_moment s now) from request)
node_does config s now from (Replies reply) = passed_over (e.at_moment s now)

node_reads : Wire → (config : NodeConfig) (s : NodeState) (now from : ℕ) (body : Body) → BodyFits body
    → e.on_packet config (e.at_moment s now) from (request_at (body_octets body)) ≡ node_does config s now from body
node_reads wire config s now from (Asks request) h = ap (e.on_packet config (e.at_moment s now) from) (wire.requests request h)
node_reads wire config s now from (Replies reply) h = ap (e.on_packet config (e.at_moment s now) from) (reply_asks_nothing wire.grammar wire.canonical reply h)

node_steps : Wire → (config : NodeConfig) (s : NodeState) (now : ℕ) (p : Sent) → is_addressee config (packet_of p) ≡ true → SentFits p
    → node_step config s (PacketComes (packet_of p)) now ≡ node_does config s now p.from p.body
node_steps wire config s now p its h =
    ap (λ b. cond b (e.on_packet config (e.at_moment s now) p.from (request_at (body_octets p.body))) (passed_over (e.at_moment s now))) its
    ∙ node_reads wire config s now p.from p.body h

node_moved : (address : ℕ) (n : w.Member) (p : Sent) (body : Body) → n.moment ≤ n.state.moment
    → ((record { config = config_of address n; moment = n.moment; part = IsNode (node_does (config_of address n) n.state n.moment p.from body).next })
    ≡ (part_given (record { config = config_of address n; moment = n.moment; part = IsNode n.state }) (record p { body = body }) (IsNode n.state)).member)
    × ((node_does (config_of address n) n.state n.moment p.from body).sent
    ≡ map packet_of (part_given (record { config = config_of address n; moment = n.moment; part = IsNode n.state }) (record p { body = body }) (IsNode n.state)).sent)
node_moved address n p (Asks request) h = (refl, replies_same address (on_request (e.at_moment n.state n.moment) p.from request).replies)
node_moved address n p (Replies reply) h = (ap (λ (s : NodeState). record { config = config_of address n; moment = n.moment; part = IsNode s }) (handed_node n.state n.moment h), refl)

node_packet : Wire → (m : Mesh) (number address : ℕ) (n : w.Member) (p : Sent) (first : List ℕ) (out : MeshOutcome) → Stable m → node_at m address ≡ Some n → SentFits p
    → is_addressee (config_of address n) (packet_of p) ≡ true → n.moment ≤ n.state.moment
    → Contains (mo.all_of_nodes m (o.happens m.nodes address n (PacketComes (packet_of p)) first)) out → Does NoStray m out.mesh address (given p)
node_packet wire m number address n p first out s at fit its handed h =
    let step : NodeStep = node_step (config_of address n) n.state (PacketComes (packet_of p)) n.moment in
    let same : of_nodes m (ran m.nodes address n first step) ≡ out = happens_only m address n (PacketComes (packet_of p)) first out (s.no_tear address n at) h in
    let r : NodeRan m out.mesh address n step = subst (λ (x : MeshOutcome). NodeRan m x.mesh address n step) same (node_ran m address n n first step s at (s.no_tear address n at)) in
    let does : step ≡ node_does (config_of address n) n.state n.moment p.from p.body = node_steps wire (config_of address n) n.state n.moment p its fit in
    let moved = node_moved address n p p.body handed in
    let x : Member = record { config = config_of address n; moment = n.moment; part = IsNode n.state } in
    let goes : given p x ≡ part_given x p (IsNode n.state) = ap (given_if p x) its in
    does_at NoStray m out.mesh address (given p) x
    (ap (λ (y : Option w.Member). members_by address y (updater_at m address)) at)
    (r.here
    ∙ (ap (λ (st : NodeStep). record { config = config_of address n; moment = n.moment; part = IsNode st.next } ∷ []) does
    ∙ (ap (λ (y : Member). y ∷ []) moved.0 ∙ sym (ap (λ (g : Moved). g.member ∷ []) goes))))
    r.there
    (r.bag
    ∙ ap (λ (ps : List Packet). m.nodes.bag ++ ps)
    (ap (λ (st : NodeStep). st.sent) does ∙ (moved.1 ∙ sym (ap (λ (g : Moved). map packet_of g.sent) goes))))
    r.order r.stable r.none_comes r.none_goes

-- what a client is left with after a packet that is addressed to it; it sends nothing
abbrev client_after : Client → ℕ → ℕ → Body → Client
client_after c now from (Asks request) = client.at_moment c now
client_after c now from (Replies reply) = told c from (heard reply) now

client_reads : Wire → (c : Client) (now from : ℕ) (body : Body) → BodyFits body
    → ((answer_handled c from now (answer_at (body_octets body))).next ≡ client_after c now from body) × ((answer_handled c from now (answer_at (body_octets body))).sent ≡ [])
client_reads wire c now from (Asks request) h = rw (wire.no_answers request) (refl, refl)
client_reads wire c now from (Replies reply) h = rw (reply_read wire.replies reply h) (refl, refl)

client_steps : Wire → (c : Client) (now : ℕ) (p : Sent) → (p.to == c.sending.from) ≡ true → SentFits p
    → ((client_packet c (packet_of p) now).next ≡ client_after c now p.from p.body) × ((client_packet c (packet_of p) now).sent ≡ [])
client_steps wire c now p its h = rw its (client_reads wire c now p.from p.body h)

client_moved : (address : ℕ) (u : UpdaterMember) (p : Sent) (body : Body) → u.moment ≤ u.updater.client.moment
    → ((record { config = record { address = address; group = 0 }; moment = u.moment; part = IsUpdater (client_after u.updater.client u.moment p.from body) u.updater.image.octets })
    ≡ (part_given (record { config = record { address = address; group = 0 }; moment = u.moment; part = IsUpdater u.updater.client u.updater.image.octets }) (record p { body = body }) (IsUpdater u.updater.client u.updater.image.octets)).member)
    × ([] ≡ (part_given (record { config = record { address = address; group = 0 }; moment = u.moment; part = IsUpdater u.updater.client u.updater.image.octets }) (record p { body = body }) (IsUpdater u.updater.client u.updater.image.octets)).sent)
client_moved address u p (Asks request) h =
    (ap (λ (c : Client). record { config = record { address = address; group = 0 }; moment = u.moment; part = IsUpdater c u.updater.image.octets }) (handed_client u.updater.client u.moment h), refl)
client_moved address u p (Replies reply) h = (refl, refl)

or_false : (b : Bool) → (b || false) ≡ true → b ≡ true
or_false true h = refl
or_false false h = h

updater_packet : Wire → (m : Mesh) (number address : ℕ) (u : UpdaterMember) (p : Sent) (first : List ℕ) (out : MeshOutcome) → Stable m → node_at m address ≡ None → updater_at m address ≡ Some u → SentFits p
    → (p.to == address) ≡ true → u.updater.client.sending.from ≡ address → u.moment ≤ u.updater.client.moment
    → is_for (record { config = record { address = address; group = 0 }; moment = u.moment; part = IsUpdater u.updater.client u.updater.image.octets }) p ≡ true
    → Contains (mo.updater_happens m address u (PacketComes (packet_of p)) first) out → Does NoStray m out.mesh address (given p)
updater_packet wire m number address u p first out s nobody_there at fit to from handed its h =
    let step : UpdaterStep = updater_step u.updater (PacketComes (packet_of p)) u.moment in
    let same : updater_ran m address u first step ≡ out = only (updater_ran m address u first step) out h in
    let r : UpdaterRan m out.mesh address u step = subst (λ (x : MeshOutcome). UpdaterRan m x.mesh address u step) same (updater_went m address u u first step s nobody_there at) in
    let c : Client = u.updater.client in
    let image : List ℕ = u.updater.image.octets in
    let own : (p.to == c.sending.from) ≡ true = ap (λ a. p.to == a) from ∙ to in
    let does = client_steps wire c u.moment p own fit in
    let moved = client_moved address u p p.body handed in
    let x : Member = record { config = record { address = address; group = 0 }; moment = u.moment; part = IsUpdater c image } in
    let goes : given p x ≡ part_given x p (IsUpdater c image) = ap (given_if p x) its in
    does_at NoStray m out.mesh address (given p) x
    (ap (λ (y : Option w.Member). members_by address y (updater_at m address)) nobody_there ∙ ap (λ (y : Option UpdaterMember). members_by address None y) at)
    (r.here
    ∙ (ap (λ (k : Client). record { config = record { address = address; group = 0 }; moment = u.moment; part = IsUpdater k image } ∷ []) does.0
    ∙ (ap (λ (y : Member). y ∷ []) moved.0 ∙ sym (ap (λ (g : Moved). g.member ∷ []) goes))))
    r.there
    (r.bag
    ∙ ap (λ (ps : List Packet). m.nodes.bag ++ ps)
    (does.1 ∙ ap (λ (ps : List Sent). map packet_of ps) (moved.1 ∙ sym (ap (λ (g : Moved). g.sent) goes))))
    r.order r.stable r.none_comes r.none_goes

-- a member to which a packet is addressed
pub record Takes (p : Sent) (x : Member) : Type 0 where
  pub fits : MemberFits x
  pub handed : Handed x
  pub its : is_for x p ≡ true

-- a request goes to no distributor
abbrev pub BodyAimed : Mesh → ℕ → Body → Type 0
BodyAimed m to (Asks request) = distributor_at m to ≡ None
BodyAimed m to (Replies reply) = Unit {0}

abbrev pub Aimed : Mesh → Sent → Type 0
Aimed m p = BodyAimed m p.to p.body

not_asked : (m : Mesh) (address : ℕ) (d : DistributorMember) (p : Sent) (t : Bool) → (p.to == address) ≡ t → distributor_at m p.to ≡ None → distributor_at m address ≡ Some d → Rests d.state
    → StepRests (dist_step address d.state (PacketComes (packet_of p)) d.moment)
not_asked m address d p true t aimed at h =
    let same : p.to ≡ address = eqb-true p.to address t in
    let there : distributor_at m p.to ≡ Some d = subst (λ a. distributor_at m a ≡ Some d) (sym same) at in
    absurd (none_some (sym aimed ∙ there))
not_asked m address d p false t aimed at h = dist_passes address d.state d.moment (packet_of p) t h

dist_body : Wire → (m : Mesh) (address : ℕ) (d : DistributorMember) (p : Sent) (body : Body) → BodyFits body → BodyAimed m p.to body → distributor_at m address ≡ Some d → Rests d.state
    → StepRests (dist_step address d.state (PacketComes (packet_of (record p { body = body }))) d.moment)
dist_body wire m address d p (Asks request) fit aimed at h = not_asked m address d (record p { body = Asks request }) (p.to == address) refl aimed at h
dist_body wire m address d p (Replies reply) fit aimed at h =
    dist_hears wire.grammar wire.canonical address d.state d.moment (packet_of (record p { body = Replies reply })) reply refl fit h

dist_packet : Wire → (m : Mesh) (address : ℕ) (d : DistributorMember) (p : Sent) (first : List ℕ) (out : MeshOutcome) → Stable m → node_at m address ≡ None → updater_at m address ≡ None → distributor_at m address ≡ Some d
    → SentFits p → Aimed m p → Contains (mo.dist_happens m address d (PacketComes (packet_of p)) first) out → Does NoStray m out.mesh address (given p)
dist_packet wire m address d p first out s no_node no_updater at fit aimed h =
    let rest = s.at_rest address d at in
    does_quietly m address d (packet_of p) first out (given p) s no_node no_updater at (dist_body wire m address d p p.body fit aimed at rest.rests) h

packet_by : Wire → (m : Mesh) (number address : ℕ) (p : Sent) (n : Option w.Member) (u : Option UpdaterMember) (d : Option DistributorMember) (out : MeshOutcome) → Stable m
    → node_at m address ≡ n → updater_at m address ≡ u → distributor_at m address ≡ d → SentFits p → Aimed m p → AllByRecursion (Takes p) (members_by address n u)
    → Contains (given_by m number address (packet_of p) n u d) out → Does NoStray m out.mesh address (given p)
packet_by wire m number address p (Some n) u d out s at up there fit aimed t h = node_packet wire m number address n p _ out s at fit t.0.its t.0.handed h
packet_by wire m number address p None (Some u) d out s at up there fit aimed t h =
    updater_packet wire m number address u p _ out s at up fit (or_false (p.to == address) t.0.its) t.0.fits.0 t.0.handed t.0.its h
packet_by wire m number address p None None None out s at up there fit aimed t h = absurd (none out h)
packet_by wire m number address p None None (Some d) out s at up there fit aimed t h = dist_packet wire m address d p (mo.unread_if number address (dist_step address d.state (PacketComes (packet_of p)) d.moment).handled) out s at up there fit aimed h

pub packet_does : Wire → (m : Mesh) (number address : ℕ) (p : Sent) (out : MeshOutcome) → Stable m → slice_get m.nodes.bag number ≡ Some (packet_of p) → SentFits p → Aimed m p
    → AllByRecursion (Takes p) (member_of m address) → Contains (mo.given m number address) out → Does NoStray m out.mesh address (given p)
packet_does wire m number address p out s at fit aimed t h =
    packet_by wire m number address p (node_at m address) (updater_at m address) (distributor_at m address) out s refl refl refl fit aimed t
    (subst (λ (x : Option Packet). Contains (given_packet m number address x) out) at h)

-- ---- strays

-- a member that has its moment already, and sends only where D holds
pub record Steady (D : ℕ → Type 0) (x : Member) : Type 0 where
  pub fits : MemberFits x
  pub handed : Handed x
  pub aims : MemberAims D x

module _ (D : ℕ → Type 0) (packet : Packet) (stray : IsStray D packet) where
  node_passes : (config : NodeConfig) (s : NodeState) (now : ℕ) → now ≤ s.moment → node_step config s (PacketComes packet) now ≡ passed_over s
  node_passes config s now handed =
      elim (is_addressee config packet) as (λ b. cond b (e.on_packet config (e.at_moment s now) packet.from (request_at packet.payload)) (passed_over (e.at_moment s now)) ≡ passed_over s) [
        | true ↦ ap (e.on_packet config (e.at_moment s now) packet.from) (asks_nothing packet.payload stray.report) ∙ ap passed_over (handed_node s now handed)
        | false ↦ ap passed_over (handed_node s now handed)
      ]

  stray_node : (m : Mesh) (address : ℕ) (n : w.Member) (first : List ℕ) (out : MeshOutcome) → Stable m → node_at m address ≡ Some n → n.moment ≤ n.state.moment
      → Contains (mo.all_of_nodes m (o.happens m.nodes address n (PacketComes packet) first)) out → Does NoStray m out.mesh address stands
  stray_node m address n first out s at handed h =
      let step : NodeStep = node_step (config_of address n) n.state (PacketComes packet) n.moment in
      let same : of_nodes m (ran m.nodes address n first step) ≡ out = happens_only m address n (PacketComes packet) first out (s.no_tear address n at) h in
      let r : NodeRan m out.mesh address n step = subst (λ (x : MeshOutcome). NodeRan m x.mesh address n step) same (node_ran m address n n first step s at (s.no_tear address n at)) in
      let does : step ≡ passed_over n.state = node_passes (config_of address n) n.state n.moment handed in
      does_at NoStray m out.mesh address stands (record { config = config_of address n; moment = n.moment; part = IsNode n.state })
      (ap (λ (y : Option w.Member). members_by address y (updater_at m address)) at)
      (r.here ∙ ap (λ (st : NodeStep). record { config = config_of address n; moment = n.moment; part = IsNode st.next } ∷ []) does)
      r.there
      (r.bag ∙ ap (λ (st : NodeStep). m.nodes.bag ++ st.sent) does)
      r.order r.stable r.none_comes r.none_goes

  abbrev Silent : Client → ClientStep → Type 0
  Silent c step = (step.next ≡ c) × (step.sent ≡ [])

  says_nothing : (c : Client) (image : List ℕ) (now : ℕ) → (is_ended c.place ≡ true) ⊎ ClientAims D c image → now ≤ c.moment → (answer : Option Answer) → SaysPart answer → Silent c (answer_handled c packet.from now answer)
  says_nothing c image now aims handed None h = (handed_client c now handed, refl)
  says_nothing c image now aims handed (Some answer) h =
      (ap (λ (x : Answer). told c packet.from x now) h.1 ∙ (told_same D c image packet.from h.0 now aims stray.sender ∙ handed_client c now handed), refl)

  client_passes : (c : Client) (image : List ℕ) (now : ℕ) → (is_ended c.place ≡ true) ⊎ ClientAims D c image → now ≤ c.moment → Silent c (client_packet c packet now)
  client_passes c image now aims handed =
      elim (packet.to == c.sending.from) as (λ b. Silent c (cond b (answer_handled c packet.from now (answer_at packet.payload)) (answer_handled c packet.from now None))) [
        | true ↦ says_nothing c image now aims handed (answer_at packet.payload) (says_only packet.payload stray.report)
        | false ↦ says_nothing c image now aims handed None tt
      ]

  stray_updater : (m : Mesh) (address : ℕ) (u : UpdaterMember) (first : List ℕ) (out : MeshOutcome) → Stable m → node_at m address ≡ None → updater_at m address ≡ Some u
      → (is_ended u.updater.client.place ≡ true) ⊎ ClientAims D u.updater.client u.updater.image.octets → u.moment ≤ u.updater.client.moment
      → Contains (mo.updater_happens m address u (PacketComes packet) first) out → Does NoStray m out.mesh address stands
  stray_updater m address u first out s nobody_there at aims handed h =
      let step : UpdaterStep = updater_step u.updater (PacketComes packet) u.moment in
      let same : updater_ran m address u first step ≡ out = only (updater_ran m address u first step) out h in
      let r : UpdaterRan m out.mesh address u step = subst (λ (x : MeshOutcome). UpdaterRan m x.mesh address u step) same (updater_went m address u u first step s nobody_there at) in
      let does = client_passes u.updater.client u.updater.image.octets u.moment aims handed in
      does_at NoStray m out.mesh address stands (record { config = record { address = address; group = 0 }; moment = u.moment; part = IsUpdater u.updater.client u.updater.image.octets })
      (ap (λ (y : Option w.Member). members_by address y (updater_at m address)) nobody_there ∙ ap (λ (y : Option UpdaterMember). members_by address None y) at)
      (r.here ∙ ap (λ (c : Client). record { config = record { address = address; group = 0 }; moment = u.moment; part = IsUpdater c u.updater.image.octets } ∷ []) does.0)
      r.there
      (r.bag ∙ ap (λ (ps : List Packet). m.nodes.bag ++ ps) does.1)
      r.order r.stable r.none_comes r.none_goes

  stray_by : (m : Mesh) (number address : ℕ) (n : Option w.Member) (u : Option UpdaterMember) (d : Option DistributorMember) (out : MeshOutcome) → Stable m
      → node_at m address ≡ n → updater_at m address ≡ u → distributor_at m address ≡ d → AllByRecursion (Steady D) (members_by address n u) → Contains (given_by m number address packet n u d) out → Does NoStray m out.mesh address stands
  stray_by m number address (Some n) u d out s at up there t h = stray_node m address n _ out s at t.0.handed h
  stray_by m number address None (Some u) d out s at up there t h = stray_updater m address u _ out s at up t.0.aims t.0.handed h
  stray_by m number address None None None out s at up there t h = absurd (none out h)
  stray_by m number address None None (Some d) out s at up there t h =
      does_quietly m address d packet (mo.unread_if number address (dist_step address d.state (PacketComes packet) d.moment).handled) out stands s at up there
      (dist_hears_report address d.state d.moment packet stray.report (s.at_rest address d there).rests) h

  pub stray_does : (m : Mesh) (number address : ℕ) (out : MeshOutcome) → Stable m → slice_get m.nodes.bag number ≡ Some packet → AllByRecursion (Steady D) (member_of m address) → Contains (mo.given m number address) out
      → Does NoStray m out.mesh address stands
  stray_does m number address out s at t h =
      stray_by m number address (node_at m address) (updater_at m address) (distributor_at m address) out s refl refl refl t
      (subst (λ (x : Option Packet). Contains (given_packet m number address x) out) at h)
