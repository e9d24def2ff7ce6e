-- Member lines, and what changes nothing, keep the invariant.
use Rattle.std.proofs.Common.{◌≡◌, ℕ, arith, [], ◌∷◌, ◌++◌, None, false, nat_eq, refl, sym, subst, inl, inr}
use Rattle.std.specs.List.{AllByRecursion}
use Rattle.std.specs.Map.{set_value}
use Rattle.mu_model_distributor.specs.DistEvents.{new_distributor, restarted}
use Rattle.mu_model_distributor_laws.specs.Starts.{IsUnused, NewIsUnused, StockedIsUnused}
use Rattle.mu_model_updater.specs.Updater.{new_updater}
use Rattle.mu_model_world.specs.World.{Member, log_at}
use Rattle.mu_model_world.specs.Outcomes.{new_member}
use Rattle.mu_model_mesh.specs.Mesh.{UpdaterMember, DistributorMember, Mesh, is_member, node_at}
use Rattle.mu_model_mesh_safety.specs.Runs.{UpdaterRun, DistributorRun}
use Rattle.mu_model_mesh_safety.proofs.Deeds.{IsStill, NewNode, NewUpdater, NewDistributor, Stocks}
use Rattle.mu_model_mesh_safety.proofs.Kept.{IsPacket, Kept}
use Rattle.mu_model_mesh_safety.proofs.KeepingLists.{added, added_none, changed, changed_places, same_places}
use Rattle.mu_model_mesh_safety.proofs.KeepingPlaces.{turned, placed, one_more, free_of, apart_in, are_apart, Parts, with_parts, of_parts}
use Rattle.mu_model_mesh_safety.proofs.KeepingPackets.{packets_same}
use Rattle.mu_model_mesh_safety.proofs.KeepingNodes.{HasRun, node_same, node_begins}
use Rattle.mu_model_mesh_safety.proofs.KeepingUpdaters.{updater_begins}
use Rattle.mu_model_mesh_safety.proofs.KeepingDistributors.{distributor_same, distributor_begins}

-- ---- moments, tears and counts

pub keeps_still : (m next : Mesh) → IsStill m next → Kept m → Kept next
keeps_still m next d k =
    subst Kept (sym (of_parts next parts refl d.air.bag d.log refl d.updaters.updaters refl d.order d.air.transfers))
    (record {
      nodes = λ b n is.
          let was = d.nodes b n is in
          node_same m.nodes.bag b was.0 n (log_at b m.nodes.log) (record { group = was.2; first = was.3 }) was.4 was.5 (k.nodes b was.0 was.1);
      silent = λ b none. k.silent b (d.no_node b none);
      updaters = k.updaters;
      distributors = λ b x is.
          let was = d.distributors b x is in
          distributor_same m.nodes.bag b was.0 x was.2 (k.distributors b was.0 was.1);
      packets = packets_same m (with_parts next parts) m.nodes.bag refl k.packets;
      apart = are_apart (with_parts next parts) (placed m.order m.nodes.members next.nodes.members m.updaters m.updaters m.distributors next.distributors
          (record { some = λ b n is. let was = d.nodes b n is in (was.0, was.1); none = d.no_node })
          (same_places m.updaters)
          (record { some = λ b x is. let was = d.distributors b x is in (was.0, was.1); none = d.no_distributor })
          (apart_in m k.apart));
      padded = k.padded;
      early = λ e. k.early (d.begun e);
      unused = λ e b x is.
          let was = d.distributors b x is in
          subst (IsUnused b) (sym was.2) (k.unused (d.begun e) b was.0 was.1);
    })
  where
    parts : Parts
    parts = record {
      members = next.nodes.members;
      bag = m.nodes.bag;
      log = m.nodes.log;
      begun = next.nodes.begun;
      updaters = m.updaters;
      distributors = next.distributors;
      order = m.order;
      transfers = m.transfers;
    }

-- ---- one member more

-- nothing stands at an address of no member
free_node : (m : Mesh) (a : ℕ) → Kept m → is_member m a ≡ false → node_at m a ≡ None
free_node m a k free = free_of m.order m.nodes.members a free (λ n is. (k.apart.nodes a n is).0)

-- nothing was sent yet
none_sent : (m next : Mesh) → m.nodes.bag ≡ [] → AllByRecursion (IsPacket next) m.nodes.bag
none_sent m next empty = subst (AllByRecursion (IsPacket next)) (sym empty) tt

pub keeps_new_node : (m next : Mesh) → NewNode m next → Kept m → Kept next
keeps_new_node m next d k =
    subst Kept (sym (of_parts next parts d.members d.air.bag d.log d.more.still d.updaters.updaters d.distributors.distributors d.more.order d.air.transfers))
    (record {
      nodes = λ b n is. elim (added m.nodes.members d.address b made n is) [
        | inl there ↦ k.nodes b n there
        | inr here ↦ subst (λ x. HasRun m.nodes.bag b x (log_at b m.nodes.log)) (sym here.1) (subst (λ c. HasRun m.nodes.bag c made (log_at c m.nodes.log)) (sym here.0) begins)
      ];
      silent = λ b none. k.silent b (added_none m.nodes.members d.address b made none);
      updaters = k.updaters;
      distributors = k.distributors;
      packets = none_sent m (with_parts next parts) empty;
      apart = are_apart (with_parts next parts) (one_more m.order m.nodes.members m.updaters m.distributors d.address made d.more.free d.more.unicast (apart_in m k.apart));
      padded = k.padded;
      early = λ e. empty;
      unused = λ e. k.unused d.more.early;
    })
  where
    made : Member
    made = new_member d.group d.made

    parts : Parts
    parts = record {
      members = m.nodes.members ++ (d.address, made) ∷ [];
      bag = m.nodes.bag;
      log = m.nodes.log;
      begun = false;
      updaters = m.updaters;
      distributors = m.distributors;
      order = m.order ++ d.address ∷ [];
      transfers = m.transfers;
    }

    empty : m.nodes.bag ≡ []
    empty = k.early d.more.early

    begins : HasRun m.nodes.bag d.address made (log_at d.address m.nodes.log)
    begins = rw (k.silent d.address (free_node m d.address k d.more.free), empty) (node_begins d.address d.group d.made d.no_address d.sound d.jobless d.metas)

pub keeps_new_updater : (m next : Mesh) → NewUpdater m next → Kept m → Kept next
keeps_new_updater m next d k =
    subst Kept (sym (of_parts next parts d.nodes.members d.air.bag d.nodes.log d.more.still d.added d.distributors.distributors d.more.order d.air.transfers))
    (record {
      nodes = k.nodes;
      silent = k.silent;
      updaters = λ b u is. elim (added m.updaters d.address b made u is) [
        | inl there ↦ k.updaters b u there
        | inr here ↦ subst (UpdaterRun m.nodes.bag b) (sym here.1) (subst (λ c. UpdaterRun m.nodes.bag c made) (sym here.0) begins)
      ];
      distributors = k.distributors;
      packets = none_sent m (with_parts next parts) empty;
      apart = are_apart (with_parts next parts) (turned _ m.distributors m.nodes.members _ (turned _ _ m.distributors m.nodes.members
          (one_more m.order m.updaters m.distributors m.nodes.members d.address made d.more.free d.more.unicast (turned m.order m.nodes.members m.updaters m.distributors (apart_in m k.apart)))));
      padded = k.padded;
      early = λ e. empty;
      unused = λ e. k.unused d.more.early;
    })
  where
    made : UpdaterMember
    made = record { moment = d.moment; updater = new_updater d.plan d.image d.to }

    parts : Parts
    parts = record {
      members = m.nodes.members;
      bag = m.nodes.bag;
      log = m.nodes.log;
      begun = false;
      updaters = m.updaters ++ (d.address, made) ∷ [];
      distributors = m.distributors;
      order = m.order ++ d.address ∷ [];
      transfers = m.transfers;
    }

    empty : m.nodes.bag ≡ []
    empty = k.early d.more.early

    begins : UpdaterRun m.nodes.bag d.address made
    begins = rw empty (updater_begins d.address d.id d.plan d.image d.to d.moment d.from d.blob_id d.small d.range d.first)

module _ (new_unused : NewIsUnused) where
  pub keeps_new_distributor : (m next : Mesh) → NewDistributor m next → Kept m → Kept next
  keeps_new_distributor m next d k =
      subst Kept (sym (of_parts next parts d.nodes.members d.air.bag d.nodes.log d.more.still d.updaters.updaters d.added d.more.order d.air.transfers))
      (record {
        nodes = k.nodes;
        silent = k.silent;
        updaters = k.updaters;
        distributors = λ b x is. elim (added m.distributors d.address b made x is) [
          | inl there ↦ k.distributors b x there
          | inr here ↦ subst (DistributorRun m.nodes.bag b) (sym here.1) (subst (λ c. DistributorRun m.nodes.bag c made) (sym here.0) begins)
        ];
        packets = none_sent m (with_parts next parts) empty;
        apart = are_apart (with_parts next parts) (turned _ _ m.nodes.members m.updaters
            (one_more m.order m.distributors m.nodes.members m.updaters d.address made d.more.free d.more.unicast
            (turned m.order m.updaters m.distributors m.nodes.members (turned m.order m.nodes.members m.updaters m.distributors (apart_in m k.apart)))));
        padded = k.padded;
        early = λ e. empty;
        unused = λ e b x is. elim (added m.distributors d.address b made x is) [
          | inl there ↦ k.unused d.more.early b x there
          | inr here ↦ subst (λ y. IsUnused b y.state) (sym here.1) (subst (λ c. IsUnused c made.state) (sym here.0) unused)
        ];
      })
    where
      made : DistributorMember
      made = record { moment = 0; tear = None; state = restarted d.address (new_distributor d.pages) }

      parts : Parts
      parts = record {
        members = m.nodes.members;
        bag = m.nodes.bag;
        log = m.nodes.log;
        begun = false;
        updaters = m.updaters;
        distributors = m.distributors ++ (d.address, made) ∷ [];
        order = m.order ++ d.address ∷ [];
        transfers = m.transfers;
      }

      empty : m.nodes.bag ≡ []
      empty = k.early d.more.early

      unused : IsUnused d.address made.state
      unused = new_unused d.address d.pages 0 d.least d.most (omega arith)

      begins : DistributorRun m.nodes.bag d.address made
      begins = rw empty (distributor_begins d.address made unused)

-- ---- an image is put into a distributor

module _ (stocked_unused : StockedIsUnused) where
  pub keeps_stocks : (m next : Mesh) → Stocks m next → Kept m → Kept next
  keeps_stocks m next d k =
      subst Kept (sym (of_parts next parts d.nodes.members d.air.bag d.nodes.log d.still d.updaters.updaters d.distributors d.order d.air.transfers))
      (record {
        nodes = k.nodes;
        silent = k.silent;
        updaters = k.updaters;
        distributors = λ b x is. elim (changed m.distributors d.address b d.new x is) [
          | inl here ↦ subst (DistributorRun m.nodes.bag b) (sym here.1) (subst (λ c. DistributorRun m.nodes.bag c d.new) (sym here.0) begins)
          | inr there ↦ k.distributors b x there.1
        ];
        packets = none_sent m (with_parts next parts) empty;
        apart = are_apart (with_parts next parts) (placed m.order m.nodes.members m.nodes.members m.updaters m.updaters m.distributors _
            (same_places m.nodes.members) (same_places m.updaters) (changed_places m.distributors d.address d.old d.new d.at) (apart_in m k.apart));
        padded = k.padded;
        early = λ e. empty;
        unused = λ e b x is. elim (changed m.distributors d.address b d.new x is) [
          | inl here ↦ subst (λ y. IsUnused b y.state) (sym here.1) (subst (λ c. IsUnused c d.new.state) (sym here.0) unused)
          | inr there ↦ k.unused d.early b x there.1
        ];
      })
    where
      parts : Parts
      parts = record {
        members = m.nodes.members;
        bag = m.nodes.bag;
        log = m.nodes.log;
        begun = false;
        updaters = m.updaters;
        distributors = set_value (nat_eq d.address) m.distributors d.new;
        order = m.order;
        transfers = m.transfers;
      }

      empty : m.nodes.bag ≡ []
      empty = k.early d.early

      unused : IsUnused d.address d.new.state
      unused = subst (IsUnused d.address) (sym d.state) (stocked_unused d.address d.old.state d.image (k.unused d.early d.address d.old d.at) d.meta d.active)

      begins : DistributorRun m.nodes.bag d.address d.new
      begins = rw empty (distributor_begins d.address d.new unused)
