-- Whose an Update Start in the bag is: a stranger's, or that of the updater or distributor whose BLOB ID it has.
use Rattle.std.proofs.Common.{arith, ◌≡◌, ℕ, ◌<◌, ◌*◌, ◌+◌, ◌^◌, Bool, true, false, List, refl, sym, ap, subst, ◌∙◌, Option, Some, None, Contains}
use Rattle.std.proofs.lemmas.Nat.{div-mul-add}
use Rattle.mu_model_image.specs.declared.Meta.{Meta}
use Rattle.mu_model_image.specs.Laws.{MetaIsReadBack}
use Rattle.mu_model_image.specs.Meta.{IsMeta, meta_from}
use Rattle.mu_model_wire.specs.Packet.{Packet}
use Rattle.mu_model_node.specs.NodeMessages.{request_at}
use Rattle.mu_model_node.specs.NodeState.{restarted}
use Rattle.mu_model_node.specs.UpdateMessages.{UpdateStart}
use Rattle.mu_model_offers.specs.Laws.{HasStart, sent_of, IsOwnStart, StartsAreOwn}
use Rattle.mu_model_offers.specs.Packets.{packets_of, IsPacketOf, PacketsSayStarts}
use Rattle.mu_model_packets.specs.Laws.{IsAnswer, NodesSendFit}
use Rattle.mu_model_script.specs.Ranges.{IsUnicast}
use Rattle.mu_model_told.specs.Laws.{HasNumbers}
use Rattle.mu_model_told.specs.Reached.{sent_in}
use Rattle.mu_model_updater.specs.Laws.{IsOffered, IsOfferedAs, ReadStartsAreOffered}
use Rattle.mu_model_updater.specs.Updater.{new_updater, sent_in as updater_sent_in}
use Rattle.mu_model_world.specs.Judged.{owner_of}
use Rattle.mu_model_world.specs.World.{Member, config_of}
use Rattle.mu_model_mesh.specs.Mesh.{UpdaterMember, DistributorMember, Mesh, is_member, node_at, updater_at, distributor_at}
use Rattle.mu_model_mesh_safety.specs.Runs.{NodeRun, UpdaterRun, DistributorRun}
use Rattle.mu_model_mesh_safety.proofs.Kept.{IsPacket, Kept}
use Rattle.mu_model_mesh_safety.proofs.Shown.{of_all, Starts}
use Rattle.mu_model_mesh_safety.proofs.ShownOctets.{OctetsOfferInRange}

-- ---- owners

pub owner_is : (address own id : ℕ) → id ≡ address * 2 ^ 48 + own → own < 2 ^ 48 → owner_of id ≡ address
owner_is address own id e small = rw e (div-mul-add address (2 ^ 48) own small)

pub has_no_job : {bag : List Packet} {a : ℕ} {n : Member} (r : NodeRun bag a n) → HasNumbers r.made.job
has_no_job r = subst HasNumbers (sym r.jobless) tt

-- ---- what a member sent

module _ (fit : NodesSendFit) (read : ReadStartsAreOffered) (say : PacketsSayStarts) (own : StartsAreOwn) where
  pub answer_of : (bag : List Packet) (a : ℕ) (n : Member) → NodeRun bag a n → (p : Packet) → Contains bag p → p.from ≡ a → IsAnswer p
  answer_of bag a n r p has from =
      let all : List Packet = sent_in (config_of a n) (restarted r.made) r.hs in
      let sent : Contains all p = of_all (λ (q : Packet). q.from ≡ a → Contains all q) bag p r.sent has from in
      of_all IsAnswer all p (fit (config_of a n) (restarted r.made) r.hs) sent

  offer_of : (bag : List Packet) (a : ℕ) (v : UpdaterMember) (r : UpdaterRun bag a v) (p : Packet) (u : UpdateStart) → Contains bag p → p.from ≡ a → Starts p u → IsOffered r.plan r.to p.to u
  offer_of bag a v r p u has from s =
      let all : List Packet = updater_sent_in (new_updater r.plan r.image r.to) r.run in
      let sent : Contains all p = of_all (λ (q : Packet). q.from ≡ a → Contains all q) bag p r.sent has from in
      subst (IsOfferedAs r.plan r.to p.to) s (of_all (λ (q : Packet). IsOfferedAs r.plan r.to q.to (request_at q.payload)) all p (read r.plan r.image r.to r.run r.range) sent)

  offer_owner : (bag : List Packet) (a : ℕ) (v : UpdaterMember) (r : UpdaterRun bag a v) (to : ℕ) (u : UpdateStart) → IsOffered r.plan r.to to u → owner_of u.id ≡ a
  offer_owner bag a v r to u o = owner_is a r.id u.id (o.id ∙ r.blob_id) r.small

  start_of : (bag : List Packet) (a : ℕ) (d : DistributorMember) → IsUnicast a → (r : DistributorRun bag a d) (p : Packet) (u : UpdateStart) → Contains bag p → p.from ≡ a → Starts p u → HasStart (sent_of r.run) p.to u
  start_of bag a d unicast r p u has from s =
      let sent : Contains (packets_of r.run) p = of_all (λ (q : Packet). q.from ≡ a → Contains (packets_of r.run) q) bag p r.sent has from in
      let most = unicast.1 in
      let at = r.own in
      let small : r.run.address < 2 ^ 16 = omega (arith, most, at) in
      (of_all (IsPacketOf r.run) (packets_of r.run) p (say r.run r.is small) sent).start u s

  pub own_start : (bag : List Packet) (a : ℕ) (d : DistributorMember) (r : DistributorRun bag a d) (to : ℕ) (u : UpdateStart) → HasStart (sent_of r.run) to u → IsOwnStart r.run.address to u
  own_start bag a d r to u h = own r.run to u r.is h

  start_owner : (bag : List Packet) (a : ℕ) (d : DistributorMember) (r : DistributorRun bag a d) (to : ℕ) (u : UpdateStart) → HasStart (sent_of r.run) to u → owner_of u.id ≡ a
  start_owner bag a d r to u h =
      let o : IsOwnStart r.run.address to u = own_start bag a d r to u h in
      owner_is r.run.address o.own u.id o.id o.own_below ∙ r.own

  -- ---- whose it is

  pub data Whose (m : Mesh) (k : Kept m) (p : Packet) (u : UpdateStart) : Type 0 where
    of_stranger : is_member m p.from ≡ false → Whose m k p u
    of_updater : (v : UpdaterMember) (at : updater_at m p.from ≡ Some v) → IsOffered (k.updaters p.from v at).plan (k.updaters p.from v at).to p.to u → Whose m k p u
    of_distributor : (d : DistributorMember) (at : distributor_at m p.from ≡ Some d) → HasStart (sent_of (k.distributors p.from d at).run) p.to u → Whose m k p u

  pub whose : (m : Mesh) (k : Kept m) (p : Packet) (u : UpdateStart) → Contains m.nodes.bag p → Starts p u → Whose m k p u
  whose m k p u has s = by_member (is_member m p.from) refl
    where
      by_distributor : is_member m p.from ≡ true → node_at m p.from ≡ None → updater_at m p.from ≡ None → (d : Option DistributorMember) → distributor_at m p.from ≡ d → Whose m k p u
      by_distributor e f g (Some d) at = of_distributor d at (start_of m.nodes.bag p.from d (k.apart.unicast p.from e) (k.distributors p.from d at) p u has refl s)
      by_distributor e f g None at = absurd (k.apart.some p.from e f g at)

      by_updater : is_member m p.from ≡ true → node_at m p.from ≡ None → (v : Option UpdaterMember) → updater_at m p.from ≡ v → Whose m k p u
      by_updater e f (Some v) at = of_updater v at (offer_of m.nodes.bag p.from v (k.updaters p.from v at) p u has refl s)
      by_updater e f None at = by_distributor e f at (distributor_at m p.from) refl

      by_node : is_member m p.from ≡ true → (n : Option Member) → node_at m p.from ≡ n → Whose m k p u
      by_node e (Some n) at = absurd ((answer_of m.nodes.bag p.from n (k.nodes p.from n at).0 p has refl).offers_nothing.no_start u s)
      by_node e None at = by_updater e at (updater_at m p.from) refl

      by_member : (b : Bool) → is_member m p.from ≡ b → Whose m k p u
      by_member true e = by_node e (node_at m p.from) refl
      by_member false e = of_stranger e

  -- one with a member's BLOB ID is that member's
  pub sender : (m : Mesh) (k : Kept m) (p : Packet) (u : UpdateStart) → Contains m.nodes.bag p → Starts p u → is_member m (owner_of u.id) ≡ true → p.from ≡ owner_of u.id
  sender m k p u has s member =
      elim (whose m k p u has s) [
        | of_stranger e ↦ (let no : is_member m (owner_of u.id) ≡ false = (of_all (IsPacket m) m.nodes.bag p k.packets has).stranger e u s in absurd cc)
        | of_updater v at o ↦ sym (offer_owner m.nodes.bag p.from v (k.updaters p.from v at) p.to u o)
        | of_distributor d at h ↦ sym (start_owner m.nodes.bag p.from d (k.distributors p.from d at) p.to u h)
      ]

  pub updater_start : (m : Mesh) (k : Kept m) (a : ℕ) (v : UpdaterMember) (at : updater_at m a ≡ Some v) (p : Packet) (u : UpdateStart) → Contains m.nodes.bag p → Starts p u → owner_of u.id ≡ a
      → IsOffered (k.updaters a v at).plan (k.updaters a v at).to p.to u
  updater_start m k a v at p u has s e =
      let member : is_member m (owner_of u.id) ≡ true = subst (λ x. is_member m x ≡ true) (sym e) (k.apart.updaters a v at).0 in
      offer_of m.nodes.bag a v (k.updaters a v at) p u has (sender m k p u has s member ∙ e) s

  pub distributor_start : (m : Mesh) (k : Kept m) (a : ℕ) (d : DistributorMember) (at : distributor_at m a ≡ Some d) (p : Packet) (u : UpdateStart) → Contains m.nodes.bag p → Starts p u → owner_of u.id ≡ a
      → HasStart (sent_of (k.distributors a d at).run) p.to u
  distributor_start m k a d at p u has s e =
      let there : is_member m a ≡ true = (k.apart.distributors a d at).0 in
      let member : is_member m (owner_of u.id) ≡ true = subst (λ x. is_member m x ≡ true) (sym e) there in
      start_of m.nodes.bag a d (k.apart.unicast a there) (k.distributors a d at) p u has (sender m k p u has s member ∙ e) s

  -- ---- metadata

  same_meta : (a b : Meta) → Some a ≡ Some b → IsMeta a → IsMeta b
  same_meta a b e h = subst IsMeta (let same : a ≡ b = cc in same) h

  -- what each Update Start in the bag offers is in its ranges
  pub in_range : OctetsOfferInRange → MetaIsReadBack → (m : Mesh) (k : Kept m) (p : Packet) (u : UpdateStart) (meta : Meta) → Contains m.nodes.bag p → Starts p u → meta_from u.metadata ≡ Some meta → IsMeta meta
  in_range octets again m k p u meta has s is =
      elim (whose m k p u has s) [
        | of_stranger e ↦ octets p.payload u meta ((of_all (IsPacket m) m.nodes.bag p k.packets has).octets e u s) s is
        | of_updater v at o ↦ (let r : UpdaterRun m.nodes.bag p.from v = k.updaters p.from v at in same_meta r.plan.meta meta (sym (again r.plan.meta r.range.meta) ∙ (ap meta_from (sym o.metadata) ∙ is)) r.range.meta)
        | of_distributor d at h ↦ (let o : IsOwnStart (k.distributors p.from d at).run.address p.to u = own_start m.nodes.bag p.from d (k.distributors p.from d at) p.to u h in same_meta o.meta meta (sym o.read ∙ is) o.is_meta)
      ]
