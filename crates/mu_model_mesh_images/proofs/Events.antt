-- What comes at a member adds packets to the bag, and each Update Start among them under a member's BLOB ID offers an image that this
-- member has then.
use Rattle.std.proofs.Common.{◌≡◌, ◌<◌, ◌+◌, ◌*◌, ◌^◌, ℕ, nat_eq, Bool, true, false, List, [], ◌∷◌, ◌++◌, length, refl, sym, ap, subst, ◌∙◌, cond, arith, append-nil, Option, Some, None, slice_get, nat_le}
use Rattle.std.specs.Prelude.{◌==◌}
use Rattle.std.specs.List.{AllByRecursion}
use Rattle.std.proofs.lemmas.Nat.{div-mul-add}
use Rattle.mu_model_flash.specs.declared.Pattern.{Pattern}
use Rattle.mu_model_flash.specs.declared.Pattern.TheVariants.{Old as OldBits, New as NewBits, Made as MadeBits}
use Rattle.mu_model_image.specs.declared.Meta.{Meta}
use Rattle.mu_model_image.specs.Meta.{Image, IsMeta, IsFit, meta_octets}
use Rattle.mu_model_wire.specs.Packet.{Packet}
use Rattle.mu_model_node.specs.Events.{NodeEvent, PacketComes, TimeComes, node_step, node_work, is_worn}
use Rattle.mu_model_node.specs.NodeMessages.{OfUpdate, Request, request_at}
use Rattle.mu_model_node.specs.NodeState.{NodeDurable}
use Rattle.mu_model_node.specs.Safe.{Done}
use Rattle.mu_model_node.specs.UpdateMessages.{UpdateStart, StartUpdate}
use Rattle.mu_model_client.specs.Answers.{Answer, answer_at}
use Rattle.mu_model_client.specs.Begin.{purpose_of}
use Rattle.mu_model_client.specs.Client.{Update}
use Rattle.mu_model_client.specs.Packets.{answer_handled}
use Rattle.mu_model_client_laws.specs.Laws.{PlansStay}
use Rattle.mu_model_distributor.specs.DistEvents.{dist_step, dist_work, is_worn as dist_worn}
use Rattle.mu_model_distributor.specs.DistState.{DistDurable}
use Rattle.mu_model_distributor.specs.Runs.{state_after as dist_state_after}
use Rattle.mu_model_distributor.specs.Sound.{IsStored}
use Rattle.mu_model_distributor_laws.specs.Laws.{EventFits as DistributorEventFits}
use Rattle.mu_model_distributor_laws.specs.RunLaws.{IsInOrder, RunsAreInOrder}
use Rattle.mu_model_offers.specs.Laws.{begin_of}
use Rattle.mu_model_offers.specs.Packets.{IsOfImage, StartsAreOfImages}
use Rattle.mu_model_packets.specs.Laws.{PacketFits, IsAnswer, NodesSendFit}
use Rattle.mu_model_updater.specs.Laws.{IsOffered, IsOfferedAs, ReadStartsAreOffered}
use Rattle.mu_model_updater.specs.Updater.{Updater, new_updater, updater_step, updater_after, sent_in as updater_sent_in}
use Rattle.mu_model_world.specs.Judged.{owner_of}
use Rattle.mu_model_world.specs.World.{Tear, Member, config_of}
use Rattle.mu_model_world.specs.Outcomes.{ran, booted, torn, happens, happens_by, unread, at_moment as member_later}
use Rattle.mu_model_mesh.specs.Mesh.{UpdaterMember, DistributorMember, Mesh, is_member, node_at, updater_at, distributor_at}
use Rattle.mu_model_mesh.specs.MeshOutcomes.{MeshOutcome, of_nodes, all_of_nodes, updater_ran, updater_later, dist_ran, dist_booted, dist_torn, dist_happens, dist_happens_by, dist_later, unread_if, given_by, given_packet, given, timed_by, time_comes, cut_by, armed_by, active_by, phase_by, rows_by, packet_by}
use Rattle.mu_model_mesh_safety.specs.Runs.{UpdaterRun, DistributorRun, IsOfRuns}
use Rattle.mu_model_mesh_images.specs.Laws.{HasImage, of_updater, of_distributor}
use Rattle.mu_model_mesh_images.proofs.Lists.{AllOf, of_all, contains_at, found, set_all}

pub record EventLaws : Type 0 where
  pub order : RunsAreInOrder
  pub stored : StartsAreOfImages
  pub read : ReadStartsAreOffered
  pub nodes : NodesSendFit
  pub plans : PlansStay

-- ---- updaters send their image

pub record HasPlan (u : UpdaterMember) : Type 0 where
  pub apply : Bool
  pub purpose : u.updater.client.purpose ≡ Update u.updater.image.meta apply
  pub fits : IsFit u.updater.image.octets u.updater.image.meta

-- ---- what is added

-- the owner of the BLOB ID has the image that is offered
pub record OffersNow (m : Mesh) (u : UpdateStart) : Type 0 where
  pub image : Image
  pub has : HasImage m (owner_of u.id) image
  pub metadata : u.metadata ≡ meta_octets image.meta
  pub range : IsMeta image.meta
  pub fits : IsFit image.octets image.meta

abbrev pub IsAdded : Mesh → Packet → Type 0
IsAdded m p = (u : UpdateStart) → request_at p.payload ≡ Some (OfUpdate (StartUpdate u)) → is_member m (owner_of u.id) ≡ true → OffersNow m u

pub record Adds (m next : Mesh) : Type 0 where
  pub order : next.order ≡ m.order
  pub begun : next.nodes.begun ≡ true
  pub more : List Packet
  pub bag : next.nodes.bag ≡ m.nodes.bag ++ more
  pub offers : AllByRecursion (IsAdded m) more
  pub updaters : AllOf HasPlan next.updaters

abbrev pub AllAdd : Mesh → List MeshOutcome → Type 0
AllAdd m outs = AllByRecursion (λ (o : MeshOutcome). Adds m o.mesh) outs

-- ---- lists

all_left : {X : Type 0} (P : X → Type 0) (xs ys : List X) → AllByRecursion P (xs ++ ys) → AllByRecursion P xs
all_left P [] ys h = tt
all_left P (x ∷ xs) ys h = (h.0, all_left P xs ys h.1)

all_right : {X : Type 0} (P : X → Type 0) (xs ys : List X) → AllByRecursion P (xs ++ ys) → AllByRecursion P ys
all_right P [] ys h = h
all_right P (x ∷ xs) ys h = all_right P xs ys h.1

each : {X : Type 0} (P Q : X → Type 0) (xs : List X) → ((x : X) → P x → Q x) → AllByRecursion P xs → AllByRecursion Q xs
each P Q [] f h = tt
each P Q (x ∷ xs) f h = (f x h.0, each P Q xs f h.1)

-- ---- plans of updaters

answer_purpose : PlansStay → (u : Updater) (from now : ℕ) (answer : Option Answer) → (answer_handled u.client from now answer).next.purpose ≡ u.client.purpose
answer_purpose plans u from now None = refl
answer_purpose plans u from now (Some answer) = (plans.tells u.client from answer now).purpose

event_purpose : PlansStay → (u : Updater) (event : NodeEvent) (now : ℕ) → (updater_step u event now).next.client.purpose ≡ u.client.purpose
event_purpose plans u (PacketComes packet) now =
    elim (packet.to == u.client.sending.from)
    as (λ b. (cond b (answer_handled u.client packet.from now (answer_at packet.payload)) (answer_handled u.client packet.from now None)).next.purpose ≡ u.client.purpose) [
      | true ↦ answer_purpose plans u packet.from now (answer_at packet.payload)
      | false ↦ refl
    ]
event_purpose plans u TimeComes now = (plans.dues u.client u.image.octets now).purpose

event_image : (u : Updater) (event : NodeEvent) (now : ℕ) → (updater_step u event now).next.image ≡ u.image
event_image u (PacketComes packet) now = refl
event_image u TimeComes now = refl

run_purpose : PlansStay → (u : Updater) (run : List (NodeEvent × ℕ)) → (updater_after u run).client.purpose ≡ u.client.purpose
run_purpose plans u [] = refl
run_purpose plans u (e ∷ run) = run_purpose plans (updater_step u e.0 e.1).next run ∙ event_purpose plans u e.0 e.1

stepped_plan : PlansStay → (moment : ℕ) (u : UpdaterMember) (event : NodeEvent) (now : ℕ) → HasPlan u → HasPlan (record { moment = moment; updater = (updater_step u.updater event now).next })
stepped_plan plans moment u event now h = record {
  apply = h.apply;
  purpose = event_purpose plans u.updater event now ∙ (h.purpose ∙ ap (λ (i : Image). Update i.meta h.apply) (sym (event_image u.updater event now)));
  fits = subst (λ (i : Image). IsFit i.octets i.meta) (sym (event_image u.updater event now)) h.fits;
}

same_update : (a b : Meta) (x y : Bool) → Update a x ≡ Update b y → a ≡ b
same_update a b x y e = cc

-- the last event of a run
sent_last : (w : Updater) (run : List (NodeEvent × ℕ)) (e : NodeEvent × ℕ) → updater_sent_in w (run ++ e ∷ []) ≡ updater_sent_in w run ++ ((updater_step (updater_after w run) e.0 e.1).sent ++ [])
sent_last w [] e = refl
sent_last w (own ∷ run) e =
    ap (λ ps. (updater_step w own.0 own.1).sent ++ ps) (sent_last (updater_step w own.0 own.1).next run e)
    ∙ sym (joins (updater_step w own.0 own.1).sent (updater_sent_in (updater_step w own.0 own.1).next run) _)
  where
    joins : (xs ys zs : List Packet) → (xs ++ ys) ++ zs ≡ xs ++ (ys ++ zs)
    joins [] ys zs = refl
    joins (x ∷ xs) ys zs = ap (λ t. x ∷ t) (joins xs ys zs)

owner_is : (address own id : ℕ) → id ≡ address * 2 ^ 48 + own → own < 2 ^ 48 → owner_of id ≡ address
owner_is address own id e small = rw e (div-mul-add address (2 ^ 48) own small)

module _ (laws : EventLaws) (m : Mesh) (runs : IsOfRuns m) (begun : m.nodes.begun ≡ true) (plans : AllOf HasPlan m.updaters) where
  still : (next : Mesh) → next.order ≡ m.order → next.nodes.begun ≡ true → next.nodes.bag ≡ m.nodes.bag → next.updaters ≡ m.updaters → Adds m next
  still next order late bag updaters = record {
    order = order;
    begun = late;
    more = [];
    bag = bag ∙ sym (append-nil m.nodes.bag);
    offers = tt;
    updaters = subst (λ (us : List (ℕ × UpdaterMember)). AllOf HasPlan us) (sym updaters) plans;
  }

  -- ---- nodes

  module _ (address : ℕ) (n : Member) where
    node_boots : (left : NodeDurable) → Adds m (of_nodes m (booted m.nodes address n left)).mesh
    node_boots left = still _ refl begun refl refl

    module _ (event : NodeEvent) (first : List ℕ) where
      node_sends : AllByRecursion IsAnswer (node_step (config_of address n) n.state event n.moment).sent
      node_sends = all_left IsAnswer (node_step (config_of address n) n.state event n.moment).sent [] (laws.nodes (config_of address n) n.state (Done event n.moment ∷ []))

      node_ran : Adds m (of_nodes m (ran m.nodes address n first (node_step (config_of address n) n.state event n.moment))).mesh
      node_ran = record {
        order = refl;
        begun = begun;
        more = (node_step (config_of address n) n.state event n.moment).sent;
        bag = refl;
        offers = each IsAnswer (IsAdded m) (node_step (config_of address n) n.state event n.moment).sent (λ p is u e own. absurd (is.offers_nothing.no_start u e)) node_sends;
        updaters = plans;
      }

      node_torn : (operation : ℕ) (pattern : Pattern) → AllAdd m (all_of_nodes m (torn m.nodes address n event (record { operation = operation; pattern = pattern })))
      node_torn operation OldBits = (node_boots _, tt)
      node_torn operation NewBits = (node_boots _, tt)
      node_torn operation (MadeBits seed) = (node_boots _, (node_boots _, tt))

      node_happens_by : (tears : Option Tear) → AllAdd m (all_of_nodes m (happens_by m.nodes address n event first tears))
      node_happens_by None = (node_ran, tt)
      node_happens_by (Some tear) =
          elim (nat_le tear.operation (length (node_work (config_of address n) n.state event n.moment)))
          as (λ b. AllAdd m (all_of_nodes m (cond b (torn m.nodes address n event tear) (ran m.nodes address n first (node_step (config_of address n) n.state event n.moment) ∷ [])))) [
            | true ↦ node_torn tear.operation tear.pattern
            | false ↦ (node_ran, tt)
          ]

      node_happens : AllAdd m (all_of_nodes m (happens m.nodes address n event first))
      node_happens =
          elim (is_worn (config_of address n) n.state event n.moment) as (λ b. AllAdd m (all_of_nodes m (cond b [] (happens_by m.nodes address n event first n.tear)))) [
            | true ↦ tt
            | false ↦ node_happens_by n.tear
          ]

  -- ---- updaters

  module _ (address : ℕ) (u : UpdaterMember) (at : updater_at m address ≡ Some u) (event : NodeEvent) (now : ℕ) where
    updater_sends : AllByRecursion (IsAdded m) (updater_step u.updater event now).sent
    updater_sends =
        let r : UpdaterRun m.nodes.bag address u = runs.updaters address u at in
        let has : HasPlan u = found HasPlan (nat_eq address) m.updaters u plans at in
        let w : Updater = new_updater r.plan r.image r.to in
        let all = laws.read r.plan r.image r.to (r.run ++ (event, now) ∷ []) r.range in
        let last = all_right (λ (p : Packet). IsOfferedAs r.plan r.to p.to (request_at p.payload)) (updater_sent_in w r.run) ((updater_step (updater_after w r.run) event now).sent ++ [])
        (subst (λ (ps : List Packet). AllByRecursion (λ (p : Packet). IsOfferedAs r.plan r.to p.to (request_at p.payload)) ps) (sent_last w r.run (event, now)) all) in
        let own = all_left (λ (p : Packet). IsOfferedAs r.plan r.to p.to (request_at p.payload)) (updater_step (updater_after w r.run) event now).sent [] last in
        let sent = subst (λ (x : Updater). AllByRecursion (λ (p : Packet). IsOfferedAs r.plan r.to p.to (request_at p.payload)) (updater_step x event now).sent) (sym r.state) own in
        let purpose : u.updater.client.purpose ≡ purpose_of r.plan = ap (λ (x : Updater). x.client.purpose) r.state ∙ run_purpose laws.plans w r.run in
        let metas : r.plan.meta ≡ u.updater.image.meta = same_update r.plan.meta u.updater.image.meta r.plan.apply has.apply (sym purpose ∙ has.purpose) in
        each (λ (p : Packet). IsOfferedAs r.plan r.to p.to (request_at p.payload)) (IsAdded m) (updater_step u.updater event now).sent
        (λ p is v e member. (let o : IsOffered r.plan r.to p.to v = subst (λ (x : Option Request). IsOfferedAs r.plan r.to p.to x) e is in
        let owner : owner_of v.id ≡ address = owner_is address r.id v.id (o.id ∙ r.blob_id) r.small in
        record {
          image = u.updater.image;
          has = of_updater u (subst (λ (a : ℕ). updater_at m a ≡ Some u) (sym owner) at) refl;
          metadata = o.metadata ∙ ap meta_octets metas;
          range = subst IsMeta metas r.range.meta;
          fits = has.fits;
        })) sent

    updater_goes : (moment : ℕ) (first : List ℕ) → Adds m (updater_ran m address (record u { moment = moment }) first (updater_step u.updater event now)).mesh
    updater_goes moment first = record {
      order = refl;
      begun = begun;
      more = (updater_step u.updater event now).sent;
      bag = refl;
      offers = updater_sends;
      updaters = set_all HasPlan (nat_eq address) m.updaters _ plans (stepped_plan laws.plans moment u event now (found HasPlan (nat_eq address) m.updaters u plans at));
    }

  -- ---- distributors

  module _ (address : ℕ) (d : DistributorMember) (at : distributor_at m address ≡ Some d) where
    dist_order : IsInOrder address d.state
    dist_order =
        let r : DistributorRun m.nodes.bag address d = runs.distributors address d at in
        let order = laws.order r.run.address r.run.durable r.run.fresh r.run.happenings r.is.durable r.is.fresh r.is.happenings in
        subst (IsInOrder address) (sym r.state) (subst (λ a. IsInOrder a (dist_state_after a (begin_of r.run) r.run.happenings)) r.own order)

    dist_small : address < 2 ^ 16
    dist_small = let most = (runs.apart.unicast address (runs.apart.distributors address d at).0).1 in omega (arith, most)

    module _ (moment : ℕ) where
      abbrev dist_then : DistributorMember
      dist_then = record d { moment = moment }

      dist_boots : (left : DistDurable) → Adds m (dist_booted m address dist_then left).mesh
      dist_boots left = still _ refl begun refl refl

      module _ (event : NodeEvent) (fits : DistributorEventFits event) (first : List ℕ) where
        dist_sends : AllByRecursion (IsAdded m) (dist_step address d.state event moment).sent
        dist_sends =
            each (λ (p : Packet). (u : UpdateStart) → request_at p.payload ≡ Some (OfUpdate (StartUpdate u)) → IsOfImage address d.state.durable u) (IsAdded m) (dist_step address d.state event moment).sent
            (λ p is v e member. (let o : IsOfImage address d.state.durable v = is v e in
            let owner : owner_of v.id ≡ address = owner_is address d.state.durable.counter v.id o.id dist_order.sound.durable.counter in
            let own : IsStored d.state.durable.capacity o.stored = of_all (IsStored d.state.durable.capacity) d.state.durable.images o.stored dist_order.sound.durable.images o.has in
            record {
              image = o.stored.image;
              has = of_distributor d o.stored (subst (λ (a : ℕ). distributor_at m a ≡ Some d) (sym owner) at) o.has refl;
              metadata = o.metadata;
              range = own.meta;
              fits = own.image.fit;
            })) (laws.stored address d.state event moment dist_small dist_order fits)

        dist_went : Adds m (dist_ran m address dist_then first (dist_step address d.state event moment)).mesh
        dist_went = record {
          order = refl;
          begun = begun;
          more = (dist_step address d.state event moment).sent;
          bag = refl;
          offers = dist_sends;
          updaters = plans;
        }

        dist_tears : (operation : ℕ) (pattern : Pattern) → AllAdd m (dist_torn m address dist_then event (record { operation = operation; pattern = pattern }))
        dist_tears operation OldBits = (dist_boots _, tt)
        dist_tears operation NewBits = (dist_boots _, tt)
        dist_tears operation (MadeBits seed) = (dist_boots _, (dist_boots _, tt))

        dist_by : (tears : Option Tear) → AllAdd m (dist_happens_by m address dist_then event first tears)
        dist_by None = (dist_went, tt)
        dist_by (Some tear) =
            elim (nat_le tear.operation (length (dist_work address d.state event moment)))
            as (λ b. AllAdd m (cond b (dist_torn m address dist_then event tear) (dist_ran m address dist_then first (dist_step address d.state event moment) ∷ []))) [
              | true ↦ dist_tears tear.operation tear.pattern
              | false ↦ (dist_went, tt)
            ]

        dist_goes : AllAdd m (dist_happens m address dist_then event first)
        dist_goes =
            elim (dist_worn address d.state event moment) as (λ b. AllAdd m (cond b [] (dist_happens_by m address dist_then event first d.tear))) [
              | true ↦ tt
              | false ↦ dist_by d.tear
            ]

  -- ---- packets and time

  fits_at : (number : ℕ) (packet : Packet) → slice_get m.nodes.bag number ≡ Some packet → PacketFits packet
  fits_at number packet is = of_all PacketFits m.nodes.bag packet runs.packets (contains_at m.nodes.bag number packet is)

  given_adds : (number address : ℕ) (packet : Packet) (n : Option Member) (u : Option UpdaterMember) (d : Option DistributorMember) → slice_get m.nodes.bag number ≡ Some packet → updater_at m address ≡ u → distributor_at m address ≡ d
      → AllAdd m (given_by m number address packet n u d)
  given_adds number address packet (Some n) u d is updater dist = node_happens address n (PacketComes packet) (unread number address n packet)
  given_adds number address packet None (Some u) d is updater dist =
      (updater_goes address u updater (PacketComes packet) u.moment u.moment (unread_if number address (updater_step u.updater (PacketComes packet) u.moment).handled), tt)
  given_adds number address packet None None (Some d) is updater dist =
      dist_goes address d dist d.moment (PacketComes packet) (fits_at number packet is).distributor (unread_if number address (dist_step address d.state (PacketComes packet) d.moment).handled)
  given_adds number address packet None None None is updater dist = tt

  packet_adds : (number address : ℕ) (packet : Option Packet) → slice_get m.nodes.bag number ≡ packet → AllAdd m (given_packet m number address packet)
  packet_adds number address None is = tt
  packet_adds number address (Some packet) is = given_adds number address packet (node_at m address) (updater_at m address) (distributor_at m address) is refl refl

  pub packets_add : (number address : ℕ) → AllAdd m (given m number address)
  packets_add number address = packet_adds number address (slice_get m.nodes.bag number) refl

  timed_adds : (address ms : ℕ) (n : Option Member) (u : Option UpdaterMember) (d : Option DistributorMember) → updater_at m address ≡ u → distributor_at m address ≡ d → AllAdd m (timed_by m address ms n u d)
  timed_adds address ms (Some n) u d updater dist = node_happens address (member_later ms n) TimeComes []
  timed_adds address ms None (Some u) d updater dist = (updater_goes address u updater TimeComes (updater_later ms u).moment (updater_later ms u).moment [], tt)
  timed_adds address ms None None (Some d) updater dist = dist_goes address d dist (dist_later ms d).moment TimeComes tt []
  timed_adds address ms None None None updater dist = tt

  pub times_add : (address ms : ℕ) → AllAdd m (time_comes m address ms)
  times_add address ms = timed_adds address ms (node_at m address) (updater_at m address) (distributor_at m address) refl refl

  -- ---- other lines

  pub cuts_add : (address : ℕ) (n : Option Member) (d : Option DistributorMember) → AllAdd m (cut_by m address n d)
  cuts_add address (Some n) d = (node_boots address n n.state.durable, tt)
  cuts_add address None (Some d) = (still _ refl begun refl refl, tt)
  cuts_add address None None = tt

  pub tears_add : (address : ℕ) (tear : Tear) (n : Option Member) (d : Option DistributorMember) → AllAdd m (armed_by m address tear n d)
  tears_add address tear (Some n) d = (still _ refl begun refl refl, tt)
  tears_add address tear None (Some d) = (still _ refl begun refl refl, tt)
  tears_add address tear None None = tt

  pub active_adds : (address : ℕ) (n : Option Member) → AllAdd m (active_by m address n)
  active_adds address (Some n) = (still _ refl begun refl refl, tt)
  active_adds address None = tt

  pub phase_adds : (address : ℕ) (n : Option Member) (u : Option UpdaterMember) (d : Option DistributorMember) → AllAdd m (phase_by m address n u d)
  phase_adds address (Some n) u d = (still _ refl begun refl refl, tt)
  phase_adds address None (Some u) d = (still _ refl begun refl refl, tt)
  phase_adds address None None (Some d) = (still _ refl begun refl refl, tt)
  phase_adds address None None None = tt

  pub rows_add : (u : Option UpdaterMember) (d : Option DistributorMember) → AllAdd m (rows_by m u d)
  rows_add (Some u) d = (still _ refl begun refl refl, tt)
  rows_add None (Some d) = (still _ refl begun refl refl, tt)
  rows_add None None = tt

  pub shown_adds : (number : ℕ) (packet : Option Packet) → AllAdd m (packet_by m number packet)
  shown_adds number (Some packet) = (still _ refl begun refl refl, tt)
  shown_adds number None = tt
