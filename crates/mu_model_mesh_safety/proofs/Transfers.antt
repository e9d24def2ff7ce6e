-- The transfers that the bag keeps with its packets.
use Rattle.std.proofs.Common.{◌≡◌, ℕ, ◌<◌, ◌^◌, Bool, true, false, List, [], ◌∷◌, ◌++◌, map, Option, Some, None, is_some, nat_eq, refl, sym, ap, subst, ◌∙◌}
use Rattle.std.specs.Prelude.{◌||◌}
use Rattle.std.specs.List.{AllByRecursion}
use Rattle.std.specs.Map.{lookup, set_value}
use Rattle.mu_model_wire.specs.Packet.{Packet}
use Rattle.mu_model_client_laws.specs.Laws.{PlansStay}
use Rattle.mu_model_distributor.specs.DistState.{DistState, transfer_id}
use Rattle.mu_model_distributor_laws.specs.RowMoves.{Each}
use Rattle.mu_model_distributor_laws.specs.RunLaws.{RunsAreInOrder, IsInOrder}
use Rattle.mu_model_offers.specs.Laws.{end_of}
use Rattle.mu_model_offers.specs.Packets.{PacketsSayStarts}
use Rattle.mu_model_updater.specs.Laws.{SendsFromItsAddress}
use Rattle.mu_model_updater.specs.Updater.{Updater, new_updater}
use Rattle.mu_model_world.specs.Judged.{owner_of}
use Rattle.mu_model_world.specs.World.{config_of}
use Rattle.mu_model_mesh.specs.Mesh.{UpdaterMember, DistributorMember, Mesh, new_mesh, is_member, updater_at, distributor_at}
use Rattle.mu_model_mesh_safety.specs.Facts.{has_transfers, IsTransferOf, TransfersAreKept}
use Rattle.mu_model_mesh_safety.specs.Runs.{UpdaterRun, DistributorRun}
use Rattle.mu_model_mesh_safety.proofs.Deeds.{SameAir, MoreAir, Deed, still, says, node_goes, updater_goes, distributor_goes, adds_node, adds_updater, adds_distributor, stocks}
use Rattle.mu_model_mesh_safety.proofs.KeepingDistributors.{distributor_sends_from}
use Rattle.mu_model_mesh_safety.proofs.KeepingLists.{SamePlaces, changed_places, set_there}
use Rattle.mu_model_mesh_safety.proofs.KeepingPackets.{AllFrom}
use Rattle.mu_model_mesh_safety.proofs.KeepingNodes.{node_sends_from}
use Rattle.mu_model_mesh_safety.proofs.KeepingPackets.{distributor_happening_fits}
use Rattle.mu_model_mesh_safety.proofs.KeepingUpdaters.{updater_sends_from}
use Rattle.mu_model_mesh_safety.proofs.Kept.{Kept}
use Rattle.mu_model_mesh_safety.proofs.ShownSafe.{same_end}
use Rattle.mu_model_mesh_safety.proofs.ShownStarts.{owner_is}
use Rattle.mu_model_mesh_safety.proofs.ShownUpdaters.{sending_stays}

-- ---- pairs

each_weaker : (R S : Packet → Option ℕ → Type 0) (ps : List Packet) (ts : List (Option ℕ)) → ((p : Packet) (t : Option ℕ) → R p t → S p t) → Each R ps ts → Each S ps ts
each_weaker R S [] [] f h = tt
each_weaker R S [] (t ∷ ts) f h = absurd h
each_weaker R S (p ∷ ps) [] f h = absurd h
each_weaker R S (p ∷ ps) (t ∷ ts) f h = (f p t h.0, each_weaker R S ps ts f h.1)

each_more : (R : Packet → Option ℕ → Type 0) (ps more : List Packet) (ts : List (Option ℕ)) (t : Option ℕ) → Each R ps ts → AllByRecursion (λ p. R p t) more → Each R (ps ++ more) (ts ++ map (λ (p : Packet). t) more)
each_more R [] [] [] t h k = tt
each_more R [] (q ∷ more) [] t h k = (k.0, each_more R [] more [] t tt k.1)
each_more R [] more (u ∷ ts) t h k = absurd h
each_more R (p ∷ ps) more [] t h k = absurd h
each_more R (p ∷ ps) more (u ∷ ts) t h k = (h.0, each_more R ps more ts t h.1 k)

all_weaker : (P Q : Packet → Type 0) (ps : List Packet) → ((p : Packet) → P p → Q p) → AllByRecursion P ps → AllByRecursion Q ps
all_weaker P Q [] f h = tt
all_weaker P Q (p ∷ ps) f h = (f p h.0, all_weaker P Q ps f h.1)

-- ---- who has transfers

some_both : {X : Type 0} (old new : Option X) → ((x : X) → new ≡ Some x → (was : X) × (old ≡ Some was)) → (new ≡ None → old ≡ None) → is_some new ≡ is_some old
some_both old None f g = ap is_some (sym (g refl))
some_both old (Some x) f g = ap is_some (sym (f x refl).1)

same_places_some : {X : Type 0} (old new : List (ℕ × X)) (a : ℕ) → SamePlaces old new → is_some (lookup (nat_eq a) new) ≡ is_some (lookup (nat_eq a) old)
same_places_some old new a p = some_both (lookup (nat_eq a) old) (lookup (nat_eq a) new) (p.some a) (p.none a)

-- the same members have transfers
abbrev Same : Mesh → Mesh → Type 0
Same m next = (a : ℕ) → has_transfers next a ≡ has_transfers m a

of_same : (m next : Mesh) → Same m next → (p : Packet) (t : Option ℕ) → IsTransferOf m p t → IsTransferOf next p t
of_same m next same p None h = same p.from ∙ h
of_same m next same p (Some id) h = (same p.from ∙ h.0, h.1)

more_kept : (m next : Mesh) (sent : List Packet) (transfer : Option ℕ) → Same m next → MoreAir m next sent transfer → AllByRecursion (λ p. IsTransferOf next p transfer) sent → TransfersAreKept m → TransfersAreKept next
more_kept m next sent transfer same air own h =
    rw (air.bag, air.transfers) (each_more (IsTransferOf next) m.nodes.bag sent m.transfers transfer (each_weaker (IsTransferOf m) (IsTransferOf next) m.nodes.bag m.transfers (of_same m next same) h) own)

same_kept : (m next : Mesh) → Same m next → SameAir m next → TransfersAreKept m → TransfersAreKept next
same_kept m next same air h = rw (air.bag, air.transfers) (each_weaker (IsTransferOf m) (IsTransferOf next) m.nodes.bag m.transfers (of_same m next same) h)

-- nothing was sent yet
early_kept : (m next : Mesh) → m.nodes.bag ≡ [] → SameAir m next → TransfersAreKept m → TransfersAreKept next
early_kept m next none air h =
    let nothing : next.nodes.bag ≡ [] = air.bag ∙ none in
    let old : Each (IsTransferOf m) [] m.transfers = subst (λ (bag : List Packet). Each (IsTransferOf m) bag m.transfers) none h in
    rw (nothing, air.transfers) (empty m.transfers old)
  where
    empty : (ts : List (Option ℕ)) → Each (IsTransferOf m) [] ts → Each (IsTransferOf next) [] ts
    empty [] k = tt
    empty (t ∷ ts) k = absurd k

-- ---- each deed

no_transfers : (m : Mesh) (a : ℕ) → updater_at m a ≡ None → distributor_at m a ≡ None → has_transfers m a ≡ false
no_transfers m a none nobody = rw (none, nobody) refl

stranger_has_none : (m : Mesh) (k : Kept m) (a : ℕ) → is_member m a ≡ false → (u : Option UpdaterMember) (d : Option DistributorMember) → updater_at m a ≡ u → distributor_at m a ≡ d → has_transfers m a ≡ false
stranger_has_none m k a none (Some u) d is at = let there = (k.apart.updaters a u is).0 in absurd cc
stranger_has_none m k a none None (Some d) is at = let there = (k.apart.distributors a d at).0 in absurd cc
stranger_has_none m k a none None None is at = no_transfers m a is at

pub record TransferLaws : Type 0 where
  pub packets : PacketsSayStarts
  pub from : SendsFromItsAddress
  pub stay : PlansStay
  pub order : RunsAreInOrder

module _ (laws : TransferLaws) where
  updater_owner : (bag : List Packet) (a : ℕ) (u : UpdaterMember) → UpdaterRun bag a u → owner_of u.updater.client.sending.id ≡ a
  updater_owner bag a u r =
      let sending = ap (λ (v : Updater). v.client.sending.id) r.state in
      let stays = ap (λ s. s.id) (sending_stays laws.stay (new_updater r.plan r.image r.to) r.run) in
      owner_is a r.id u.updater.client.sending.id (sending ∙ (stays ∙ r.blob_id)) r.small

  distributor_owner : (bag : List Packet) (a : ℕ) (d : DistributorMember) → DistributorRun bag a d → owner_of (transfer_id a d.state.durable) ≡ a
  distributor_owner bag a d r =
      let order : IsInOrder r.run.address (end_of r.run) = laws.order r.run.address r.run.durable r.run.fresh r.run.happenings r.is.durable r.is.fresh r.is.happenings in
      let small : d.state.durable.counter < 2 ^ 48 = subst (λ (s : DistState). s.durable.counter < 2 ^ 48) (same_end r) order.sound.durable.counter in
      owner_is a d.state.durable.counter (transfer_id a d.state.durable) refl small

  of_sender : (next : Mesh) (a id : ℕ) (sent : List Packet) → has_transfers next a ≡ true → owner_of id ≡ a → AllFrom a sent → AllByRecursion (λ (p : Packet). IsTransferOf next p (Some id)) sent
  of_sender next a id sent has own from =
      all_weaker (λ (p : Packet). p.from ≡ a) (λ (p : Packet). IsTransferOf next p (Some id)) sent (λ p e. (ap (has_transfers next) e ∙ has, own ∙ sym e)) from

  of_nobody : (next : Mesh) (a : ℕ) (sent : List Packet) → has_transfers next a ≡ false → AllFrom a sent → AllByRecursion (λ (p : Packet). IsTransferOf next p None) sent
  of_nobody next a sent has from = all_weaker (λ (p : Packet). p.from ≡ a) (λ (p : Packet). IsTransferOf next p None) sent (λ p e. ap (has_transfers next) e ∙ has) from

  -- members are the same
  all_same : (m next : Mesh) → next.updaters ≡ m.updaters → next.distributors ≡ m.distributors → Same m next
  all_same m next us ds a = rw (us, ds) refl

  pub transfers_keep : (m next : Mesh) → Deed m next → Kept m → Kept next → TransfersAreKept m → TransfersAreKept next
  transfers_keep m next (still d) k l h = same_kept m next same d.air h
    where
      same : Same m next
      same a = rw d.updaters.updaters (ap (λ (b : Bool). is_some (updater_at m a) || b) (some_both (distributor_at m a) (distributor_at next a) (λ x is. let was = d.distributors a x is in (was.0, was.1)) (d.no_distributor a)))
  transfers_keep m next (says d) k l h =
      more_kept m next (d.packet ∷ []) None same d.air (same d.packet.from ∙ stranger_has_none m k d.packet.from d.stranger _ _ refl refl, tt) h
    where
      same : Same m next
      same = all_same m next d.updaters.updaters d.distributors.distributors
  transfers_keep m next (node_goes d) k l h =
      let apart = k.apart.nodes d.address d.old d.at in
      more_kept m next _ None same d.air (of_nobody next d.address _ (same d.address ∙ no_transfers m d.address apart.1 apart.2) (node_sends_from (config_of d.address d.old) d.old.state d.h)) h
    where
      same : Same m next
      same = all_same m next d.updaters.updaters d.distributors.distributors
  transfers_keep m next (updater_goes d) k l h =
      more_kept m next _ _ same d.air (of_sender next d.address _ _ (same d.address ∙ there) (updater_owner m.nodes.bag d.address d.old run) (updater_sends_from laws.from m.nodes.bag d.address d.old d.event d.now run)) h
    where
      run : UpdaterRun m.nodes.bag d.address d.old
      run = k.updaters d.address d.old d.at

      there : has_transfers m d.address ≡ true
      there = rw d.at refl

      same : Same m next
      same a = rw (d.updaters, d.distributors.distributors) (ap (λ (b : Bool). b || is_some (distributor_at m a)) (same_places_some m.updaters (set_value (nat_eq d.address) m.updaters d.new) a (changed_places m.updaters d.address d.old d.new d.at)))
  transfers_keep m next (distributor_goes d) k l h =
      more_kept m next _ _ same d.air
      (of_sender next d.address _ _ (same d.address ∙ there) (distributor_owner next.nodes.bag d.address d.new (l.distributors d.address d.new here))
      (distributor_sends_from laws.packets m.nodes.bag d.address d.old d.h (k.apart.unicast d.address member) (distributor_happening_fits m m.nodes.bag d.h k.packets d.come) run)) h
    where
      run : DistributorRun m.nodes.bag d.address d.old
      run = k.distributors d.address d.old d.at

      member : is_member m d.address ≡ true
      member = (k.apart.distributors d.address d.old d.at).0

      no_updater : updater_at m d.address ≡ None
      no_updater = (k.apart.distributors d.address d.old d.at).2

      there : has_transfers m d.address ≡ true
      there = rw (no_updater, d.at) refl

      places : SamePlaces m.distributors (set_value (nat_eq d.address) m.distributors d.new)
      places = changed_places m.distributors d.address d.old d.new d.at

      same : Same m next
      same a = rw (d.updaters.updaters, d.distributors) (ap (λ (b : Bool). is_some (updater_at m a) || b) (same_places_some m.distributors (set_value (nat_eq d.address) m.distributors d.new) a places))

      here : distributor_at next d.address ≡ Some d.new
      here = rw d.distributors (set_there m.distributors d.address d.old d.new d.at)
  transfers_keep m next (adds_node d) k l h = early_kept m next (k.early d.more.early) d.air h
  transfers_keep m next (adds_updater d) k l h = early_kept m next (k.early d.more.early) d.air h
  transfers_keep m next (adds_distributor d) k l h = early_kept m next (k.early d.more.early) d.air h
  transfers_keep m next (stocks d) k l h = early_kept m next (k.early d.early) d.air h

pub transfers_new : TransfersAreKept new_mesh
transfers_new = tt
