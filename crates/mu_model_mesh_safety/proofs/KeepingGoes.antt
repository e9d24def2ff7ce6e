-- The deeds that send packets keep the invariant.
use Rattle.std.proofs.Common.{◌≡◌, ℕ, List, [], ◌∷◌, ◌++◌, map, Option, Some, None, Bool, true, nat_eq, refl, sym, ◌∙◌, subst, inl, inr}
use Rattle.std.specs.List.{AllByRecursion}
use Rattle.std.specs.Map.{lookup, set_value}
use Rattle.mu_model_wire.specs.Packet.{Packet}
use Rattle.mu_model_node.specs.Log.{LogEntry, logged}
use Rattle.mu_model_distributor.specs.DistState.{transfer_id}
use Rattle.mu_model_distributor_laws.specs.RunLaws.{HappeningFits as DistributorHappeningFits}
use Rattle.mu_model_fates.specs.Moments.{MomentsAreTheGreatest}
use Rattle.mu_model_offers.specs.Packets.{PacketsSayStarts, packets_by}
use Rattle.mu_model_packets.specs.Laws.{OctetsSayFit, NodesSendFit, UpdatersSendFit, DistributorsSendFit}
use Rattle.mu_model_told.specs.Reached.{HappeningFits, sent_by}
use Rattle.mu_model_updater.specs.Laws.{SendsFromItsAddress}
use Rattle.mu_model_updater.specs.Updater.{updater_step}
use Rattle.mu_model_world.specs.World.{Member, Logged, config_of, log_at, logged_at}
use Rattle.mu_model_mesh.specs.Mesh.{UpdaterMember, DistributorMember, Mesh, is_member, node_at, updater_at, distributor_at}
use Rattle.mu_model_mesh_safety.specs.Runs.{UpdaterRun, DistributorRun}
use Rattle.mu_model_mesh_safety.proofs.Deeds.{Says, NodeGoes, UpdaterGoes, DistributorGoes}
use Rattle.mu_model_mesh_safety.proofs.Kept.{IsPacket, Kept}
use Rattle.mu_model_mesh_safety.proofs.KeepingLists.{all_append, changed, changed_none, changed_places, same_places, SamePlaces, log_same, log_other, are_same, AreSame, Yes, No}
use Rattle.mu_model_mesh_safety.proofs.KeepingPlaces.{placed, apart_in, are_apart, Parts, with_parts, of_parts}
use Rattle.mu_model_mesh_safety.proofs.KeepingPackets.{AllFrom, packets_same, own_packets, padded_more, happening_fits, distributor_happening_fits}
use Rattle.mu_model_mesh_safety.proofs.KeepingNodes.{HasRun, node_wider, node_on, node_sends_from, node_sends_fit}
use Rattle.mu_model_mesh_safety.proofs.KeepingUpdaters.{updater_wider, updater_on, updater_sends_from, updater_sends_fit}
use Rattle.mu_model_mesh_safety.proofs.KeepingDistributors.{distributor_wider, distributor_on, distributor_sends_from, distributor_sends_fit}

-- two addresses, where something stands at the one and nothing at the other
two : {X : Type 0} (xs : List (ℕ × X)) (a b : ℕ) (x : X) → lookup (nat_eq a) xs ≡ Some x → lookup (nat_eq b) xs ≡ None → b ≡ a → ⊥
two xs a b x there none same =
    let here : lookup (nat_eq a) xs ≡ None = subst (λ c. lookup (nat_eq c) xs ≡ None) same none in
    absurd cc

-- ---- packets are sent

-- the parts of a world where these are the members, the log goes on, and so much was sent
abbrev aired : Mesh → List (ℕ × Member) → List Logged → List (ℕ × UpdaterMember) → List (ℕ × DistributorMember) → List Packet → Option ℕ → Parts
aired m members log updaters distributors sent transfer = record {
  members = members;
  bag = m.nodes.bag ++ sent;
  log = log;
  begun = true;
  updaters = updaters;
  distributors = distributors;
  order = m.order;
  transfers = m.transfers ++ map (λ (p : Packet). transfer) sent;
}

-- all but its members is kept
record IsAired (m : Mesh) (p : Parts) : Type 0 where
  nodes : (b : ℕ) (n : Member) → lookup (nat_eq b) p.members ≡ Some n → HasRun p.bag b n (log_at b p.log)
  silent : (b : ℕ) → lookup (nat_eq b) p.members ≡ None → log_at b p.log ≡ []
  updaters : (b : ℕ) (u : UpdaterMember) → lookup (nat_eq b) p.updaters ≡ Some u → UpdaterRun p.bag b u
  distributors : (b : ℕ) (d : DistributorMember) → lookup (nat_eq b) p.distributors ≡ Some d → DistributorRun p.bag b d
  nodes_stay : SamePlaces m.nodes.members p.members
  updaters_stay : SamePlaces m.updaters p.updaters
  distributors_stay : SamePlaces m.distributors p.distributors

kept_aired : (m next : Mesh) (members : List (ℕ × Member)) (log : List Logged) (updaters : List (ℕ × UpdaterMember)) (distributors : List (ℕ × DistributorMember)) (sent : List Packet) (transfer : Option ℕ)
    → IsAired m (aired m members log updaters distributors sent transfer) → AllByRecursion (IsPacket m) sent → Kept m
    → Kept (with_parts next (aired m members log updaters distributors sent transfer))
kept_aired m next members log updaters distributors sent transfer is packets k =
    let after = with_parts next (aired m members log updaters distributors sent transfer) in
    record {
      nodes = is.nodes;
      silent = is.silent;
      updaters = is.updaters;
      distributors = is.distributors;
      packets = packets_same m after (m.nodes.bag ++ sent) refl (all_append (IsPacket m) m.nodes.bag sent k.packets packets);
      apart = are_apart after (placed m.order m.nodes.members members m.updaters updaters m.distributors distributors is.nodes_stay is.updaters_stay is.distributors_stay (apart_in m k.apart));
      padded = padded_more m.nodes.bag sent m.transfers transfer k.padded;
      early = λ e. absurd cc;
      unused = λ e. absurd cc;
    }

-- what holds of the others
module _ (m : Mesh) (k : Kept m) (a : ℕ) (sent : List Packet) (from : AllFrom a sent) where
  other_node : (b : ℕ) (n : Member) → (b ≡ a → ⊥) → node_at m b ≡ Some n → HasRun (m.nodes.bag ++ sent) b n (log_at b m.nodes.log)
  other_node b n apart is = node_wider m.nodes.bag sent b a n (log_at b m.nodes.log) apart from (k.nodes b n is)

  other_updater : (b : ℕ) (u : UpdaterMember) → (b ≡ a → ⊥) → updater_at m b ≡ Some u → UpdaterRun (m.nodes.bag ++ sent) b u
  other_updater b u apart is = updater_wider m.nodes.bag sent b a u apart from (k.updaters b u is)

  other_distributor : (b : ℕ) (d : DistributorMember) → (b ≡ a → ⊥) → distributor_at m b ≡ Some d → DistributorRun (m.nodes.bag ++ sent) b d
  other_distributor b d apart is = distributor_wider m.nodes.bag sent b a d apart from (k.distributors b d is)

-- ---- a stranger's packet

module _ (say : OctetsSayFit) where
  pub keeps_says : (m next : Mesh) → Says m next → Kept m → Kept next
  keeps_says m next d k =
      let p = d.packet in
      let from : AllFrom p.from (p ∷ []) = (refl, tt) in
      subst Kept (sym (of_parts next (aired m m.nodes.members m.nodes.log m.updaters m.distributors (p ∷ []) None) d.nodes.members d.air.bag d.nodes.log d.on.begun d.updaters.updaters d.distributors.distributors d.on.order d.air.transfers))
      (kept_aired m next m.nodes.members m.nodes.log m.updaters m.distributors (p ∷ []) None
      (record {
        nodes = λ b n is. other_node m k p.from (p ∷ []) from b n (stranger b (k.apart.nodes b n is).0) is;
        silent = k.silent;
        updaters = λ b u is. other_updater m k p.from (p ∷ []) from b u (stranger b (k.apart.updaters b u is).0) is;
        distributors = λ b x is. other_distributor m k p.from (p ∷ []) from b x (stranger b (k.apart.distributors b x is).0) is;
        nodes_stay = same_places m.nodes.members;
        updaters_stay = same_places m.updaters;
        distributors_stay = same_places m.distributors;
      })
      (record { fits = say p d.octets; stranger = λ none u asks. d.own u asks; octets = λ none u asks. d.octets }, tt) k)
    where
      stranger : (b : ℕ) → is_member m b ≡ true → b ≡ d.packet.from → ⊥
      stranger b there same =
          let here : is_member m d.packet.from ≡ true = subst (λ c. is_member m c ≡ true) same there in
          let none = d.stranger in
          absurd cc

-- ---- a node goes on

module _ (greatest : MomentsAreTheGreatest) (send : NodesSendFit) where
  pub keeps_node : (m next : Mesh) → NodeGoes m next → Kept m → Kept next
  keeps_node m next d k =
      subst Kept (sym (of_parts next (aired m members log m.updaters m.distributors sent None) d.members d.air.bag d.log d.on.begun d.updaters.updaters d.distributors.distributors d.on.order d.air.transfers))
      (kept_aired m next members log m.updaters m.distributors sent None
      (record {
        nodes = λ b n is. elim (changed m.nodes.members d.address b d.new n is) [
          | inl here ↦ subst (λ x. HasRun bag b x (log_at b log)) (sym here.1) (subst (λ c. HasRun bag c d.new (log_at c log)) (sym here.0) own)
          | inr there ↦ subst (HasRun bag b n) (sym (log_other m.nodes.log d.address b entries there.0)) (other_node m k d.address sent from b n there.0 there.1)
        ];
        silent = λ b none. silent_still b (changed_none m.nodes.members d.address b d.new none) (are_same b d.address);
        updaters = λ b u is. other_updater m k d.address sent from b u (two m.nodes.members d.address b d.old d.at (k.apart.updaters b u is).1) is;
        distributors = λ b x is. other_distributor m k d.address sent from b x (two m.nodes.members d.address b d.old d.at (k.apart.distributors b x is).1) is;
        nodes_stay = changed_places m.nodes.members d.address d.old d.new d.at;
        updaters_stay = same_places m.updaters;
        distributors_stay = same_places m.distributors;
      })
      (own_packets m d.address sent (k.apart.nodes d.address d.old d.at).0 from (node_sends_fit send m.nodes.bag d.address d.old d.h)) k)
    where
      sent : List Packet
      sent = sent_by (config_of d.address d.old) d.old.state d.h

      bag : List Packet
      bag = m.nodes.bag ++ sent

      entries : List LogEntry
      entries = logged d.old.state d.new.state

      log : List Logged
      log = m.nodes.log ++ logged_at d.address entries

      members : List (ℕ × Member)
      members = set_value (nat_eq d.address) m.nodes.members d.new

      from : AllFrom d.address sent
      from = node_sends_from (config_of d.address d.old) d.old.state d.h

      fits : HappeningFits d.h
      fits = happening_fits m m.nodes.bag d.h k.packets d.come

      run : HasRun m.nodes.bag d.address d.old (log_at d.address m.nodes.log)
      run = k.nodes d.address d.old d.at

      own : HasRun bag d.address d.new (log_at d.address log)
      own = subst (HasRun bag d.address d.new) (sym (log_same m.nodes.log d.address entries))
          (node_on greatest m.nodes.bag d.address d.old d.new d.h (log_at d.address m.nodes.log) (record { group = d.group; first = d.first }) d.state d.moment d.by fits d.come run)

      silent_still : (b : ℕ) → node_at m b ≡ None → {t : Bool} → AreSame b d.address t → log_at b log ≡ []
      silent_still b none (Yes same) = absurd (two m.nodes.members d.address b d.old d.at none same)
      silent_still b none (No other) = log_other m.nodes.log d.address b entries other ∙ k.silent b none

-- ---- an updater goes on

module _ (from_own : SendsFromItsAddress) (send : UpdatersSendFit) where
  pub keeps_updater : (m next : Mesh) → UpdaterGoes m next → Kept m → Kept next
  keeps_updater m next d k =
      subst Kept (sym (of_parts next (aired m m.nodes.members m.nodes.log updaters m.distributors sent transfer) d.nodes.members d.air.bag d.nodes.log d.on.begun d.updaters d.distributors.distributors d.on.order d.air.transfers))
      (kept_aired m next m.nodes.members m.nodes.log updaters m.distributors sent transfer
      (record {
        nodes = λ b n is. other_node m k d.address sent from b n (two m.updaters d.address b d.old d.at (k.apart.nodes b n is).1) is;
        silent = k.silent;
        updaters = λ b u is. elim (changed m.updaters d.address b d.new u is) [
          | inl here ↦ subst (UpdaterRun bag b) (sym here.1) (subst (λ c. UpdaterRun bag c d.new) (sym here.0) (updater_on m.nodes.bag d.address d.old d.new d.event d.now d.state d.come run))
          | inr there ↦ other_updater m k d.address sent from b u there.0 there.1
        ];
        distributors = λ b x is. other_distributor m k d.address sent from b x (two m.updaters d.address b d.old d.at (k.apart.distributors b x is).2) is;
        nodes_stay = same_places m.nodes.members;
        updaters_stay = changed_places m.updaters d.address d.old d.new d.at;
        distributors_stay = same_places m.distributors;
      })
      (own_packets m d.address sent (k.apart.updaters d.address d.old d.at).0 from (updater_sends_fit send m.nodes.bag d.address d.old d.event d.now run)) k)
    where
      sent : List Packet
      sent = (updater_step d.old.updater d.event d.now).sent

      bag : List Packet
      bag = m.nodes.bag ++ sent

      transfer : Option ℕ
      transfer = Some d.old.updater.client.sending.id

      updaters : List (ℕ × UpdaterMember)
      updaters = set_value (nat_eq d.address) m.updaters d.new

      run : UpdaterRun m.nodes.bag d.address d.old
      run = k.updaters d.address d.old d.at

      from : AllFrom d.address sent
      from = updater_sends_from from_own m.nodes.bag d.address d.old d.event d.now run

-- ---- a distributor goes on

module _ (say : PacketsSayStarts) (send : DistributorsSendFit) where
  pub keeps_distributor : (m next : Mesh) → DistributorGoes m next → Kept m → Kept next
  keeps_distributor m next d k =
      subst Kept (sym (of_parts next (aired m m.nodes.members m.nodes.log m.updaters distributors sent transfer) d.nodes.members d.air.bag d.nodes.log d.on.begun d.updaters.updaters d.distributors d.on.order d.air.transfers))
      (kept_aired m next m.nodes.members m.nodes.log m.updaters distributors sent transfer
      (record {
        nodes = λ b n is. other_node m k d.address sent from b n (two m.distributors d.address b d.old d.at (k.apart.nodes b n is).2) is;
        silent = k.silent;
        updaters = λ b u is. other_updater m k d.address sent from b u (two m.distributors d.address b d.old d.at (k.apart.updaters b u is).2) is;
        distributors = λ b x is. elim (changed m.distributors d.address b d.new x is) [
          | inl here ↦ subst (DistributorRun bag b) (sym here.1) (subst (λ c. DistributorRun bag c d.new) (sym here.0) (distributor_on m.nodes.bag d.address d.old d.new d.h d.state fits d.come run))
          | inr there ↦ other_distributor m k d.address sent from b x there.0 there.1
        ];
        nodes_stay = same_places m.nodes.members;
        updaters_stay = same_places m.updaters;
        distributors_stay = changed_places m.distributors d.address d.old d.new d.at;
      })
      (own_packets m d.address sent member from (distributor_sends_fit send m.nodes.bag d.address d.old d.h run)) k)
    where
      sent : List Packet
      sent = packets_by d.address d.old.state d.h

      bag : List Packet
      bag = m.nodes.bag ++ sent

      transfer : Option ℕ
      transfer = Some (transfer_id d.address d.new.state.durable)

      distributors : List (ℕ × DistributorMember)
      distributors = set_value (nat_eq d.address) m.distributors d.new

      run : DistributorRun m.nodes.bag d.address d.old
      run = k.distributors d.address d.old d.at

      member : is_member m d.address ≡ true
      member = (k.apart.distributors d.address d.old d.at).0

      fits : DistributorHappeningFits d.h
      fits = distributor_happening_fits m m.nodes.bag d.h k.packets d.come

      from : AllFrom d.address sent
      from = distributor_sends_from say m.nodes.bag d.address d.old d.h (k.apart.unicast d.address member) fits run
