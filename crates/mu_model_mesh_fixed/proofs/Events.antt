-- Of what comes at a member, and of a line that says no `settle`, there is one outcome, where two are known to print the same.
use Rattle.std.proofs.Common.{◌≡◌, ◌≤◌, ◌+◌, ◌-◌, ℕ, nat_eq, Bool, true, false, List, [], ◌∷◌, ◌++◌, length, map, refl, sym, ap, subst, ◌∙◌, cond, arith, Option, Some, None, Contains, ◌⊎◌, inl, inr, slice_get, nat_le}
use Rattle.std.specs.Prelude.{⊤}
use Rattle.std.specs.List.{AllByRecursion}
use Rattle.mu_model_flash.specs.declared.Pattern.{Pattern}
use Rattle.mu_model_flash.specs.declared.Pattern.TheVariants.{Old as OldBits, New as NewBits, Made as MadeBits}
use Rattle.mu_model_image.specs.Meta.{Image, image_of}
use Rattle.mu_model_wire.specs.Packet.{Packet}
use Rattle.mu_model_node.specs.Events.{NodeEvent, PacketComes, TimeComes, node_step, node_work, is_worn}
use Rattle.mu_model_node.specs.Laws.{EventFits}
use Rattle.mu_model_node.specs.NodeState.{NodeDurable}
use Rattle.mu_model_node.specs.Safe.{left_after}
use Rattle.mu_model_node.specs.Sound.{IsNodeState}
use Rattle.mu_model_distributor.specs.DistEvents.{dist_step, dist_work, is_worn as dist_worn, stocked}
use Rattle.mu_model_distributor.specs.DistState.{DistDurable, job_of}
use Rattle.mu_model_distributor.specs.Runs.{left_after as dist_left_after}
use Rattle.mu_model_distributor.specs.Sound.{IsDistState}
use Rattle.mu_model_distributor_laws.specs.Laws.{EventFits as DistributorEventFits}
use Rattle.mu_model_updater.specs.Updater.{updater_step}
use Rattle.mu_model_script.specs.Event.{Event, Node, Old, Pair, Updater as UpdaterLine, Distributor, Stock, Say, Deliver, Time, Cut, Tear as TearLine, Active, Phase, Settle, Rows, Packet as PacketLine}
use Rattle.mu_model_script.specs.Tokens.{Content}
use Rattle.mu_model_world.specs.World.{Tear, Member, config_of}
use Rattle.mu_model_world.specs.Outcomes.{ran, booted, torn, happens, happens_by, unread, filling_held, content_octets, at_moment as member_later}
use Rattle.mu_model_mesh.specs.Mesh.{UpdaterMember, DistributorMember, Mesh, node_at, updater_at, distributor_at, with_nodes, with_distributor}
use Rattle.mu_model_mesh.specs.MeshOutcomes.{MeshOutcome, of_nodes, all_of_nodes, dist_ran, dist_booted, dist_torn, dist_happens, dist_happens_by, dist_later, held_of, unread_if, given_by, given_packet, given, timed_by, time_comes, cut_by, armed_by, active_by, phase_by, rows_by, packet_by, stocked_by, mesh_begun, mesh_outcomes}
use Rattle.mu_model_packets.specs.Laws.{PacketFits}
use Rattle.mu_model_cut_texts.specs.Laws.{node_boot, dist_boot, BootTextsEnd, NodeCutsAreTold, DistributorCutsAreTold}
use Rattle.mu_model_mesh_fixed.proofs.Lists.{AllOf, none_of, only_of, one_of_two, found, set_all, more_all}
use Rattle.mu_model_mesh_fixed.proofs.Modes.{Mode, TearIs, Tears, EventIs}
use Rattle.mu_model_mesh_fixed.proofs.Sound.{Good}

pub record CutLaws : Type 0 where
  pub ends : BootTextsEnd
  pub nodes : NodeCutsAreTold
  pub distributors : DistributorCutsAreTold

-- of these outcomes one comes
pub record Alike (mode : Mode) (outs : List MeshOutcome) : Type 0 where
  pub one : (o o' : MeshOutcome) (rest rest' : List ℕ) → Contains outs o → Contains outs o' → mode.same (o.text ++ rest) (o'.text ++ rest') → o ≡ o'
  pub tears : AllByRecursion (λ (o : MeshOutcome). Tears mode o.mesh) outs

pub no_outcome : (mode : Mode) → Alike mode []
no_outcome mode = record { one = λ o o' rest rest' p q c. absurd (none_of o p); tears = tt }

pub one_outcome : (mode : Mode) (o : MeshOutcome) → Tears mode o.mesh → Alike mode (o ∷ [])
one_outcome mode o t = record { one = λ x y rest rest' p q c. only_of o x p ∙ sym (only_of o y q); tears = (t, tt) }

-- one of two that are told apart
two_outcomes : (mode : Mode) (out : ℕ → MeshOutcome) (j k : ℕ) → ((x y : ℕ) (rest rest' : List ℕ) → mode.same ((out x).text ++ rest) ((out y).text ++ rest') → out x ≡ out y)
    → Tears mode (out j).mesh → Tears mode (out k).mesh → Alike mode (out j ∷ out k ∷ [])
two_outcomes mode out j k told t u = record {
  one = λ o o' rest rest' p q c. of_each o o' rest rest' c (one_of_two (out j) (out k) o p) (one_of_two (out j) (out k) o' q);
  tears = (t, (u, tt));
}
  where
    by : (o o' : MeshOutcome) (rest rest' : List ℕ) (x y : ℕ) → o ≡ out x → o' ≡ out y → mode.same (o.text ++ rest) (o'.text ++ rest') → o ≡ o'
    by o o' rest rest' x y e f c =
        e
        ∙ (told x y rest rest' (subst (λ (w : MeshOutcome). mode.same ((out x).text ++ rest) (w.text ++ rest')) f (subst (λ (w : MeshOutcome). mode.same (w.text ++ rest) (o'.text ++ rest')) e c))
        ∙ sym f)

    of_each : (o o' : MeshOutcome) (rest rest' : List ℕ) → mode.same (o.text ++ rest) (o'.text ++ rest') → (o ≡ out j) ⊎ (o ≡ out k) → (o' ≡ out j) ⊎ (o' ≡ out k) → o ≡ o'
    of_each o o' rest rest' c (inl e) (inl f) = by o o' rest rest' j j e f c
    of_each o o' rest rest' c (inl e) (inr f) = by o o' rest rest' j k e f c
    of_each o o' rest rest' c (inr e) (inl f) = by o o' rest rest' k j e f c
    of_each o o' rest rest' c (inr e) (inr f) = by o o' rest rest' k k e f c

module _ (mode : Mode) (laws : CutLaws) where
  module _ (m : Mesh) (t : Tears mode m) where
    -- ---- nodes

    module _ (address : ℕ) (n : Member) (tear : TearIs mode n.tear) where
      node_booted : (left : NodeDurable) → Tears mode (of_nodes m (booted m.nodes address n left)).mesh
      node_booted left = record { nodes = set_all (λ (x : Member). TearIs mode x.tear) (nat_eq address) m.nodes.members _ t.nodes tt; distributors = t.distributors }

      module _ (event : NodeEvent) (fits : EventFits event) (sound : IsNodeState n.state) (first : List ℕ) where
        node_ran : Alike mode (all_of_nodes m (ran m.nodes address n first (node_step (config_of address n) n.state event n.moment) ∷ []))
        node_ran = one_outcome mode _ (record { nodes = set_all (λ (x : Member). TearIs mode x.tear) (nat_eq address) m.nodes.members _ t.nodes tear; distributors = t.distributors })

        abbrev node_out : ℕ → MeshOutcome
        node_out operations = of_nodes m (booted m.nodes address n (left_after (config_of address n) n.state event n.moment operations))

        node_told : (seed : ℕ) → mode.whole (MadeBits seed) → (x y : ℕ) (rest rest' : List ℕ) → mode.same ((node_out x).text ++ rest) ((node_out y).text ++ rest') → node_out x ≡ node_out y
        node_told seed whole x y rest rest' c =
            let one = left_after (config_of address n) n.state event n.moment x in
            let other = left_after (config_of address n) n.state event n.moment y in
            let printed = laws.ends address one.count (filling_held one.job) other.count (filling_held other.job) rest rest' (mode.told seed whole _ _ c) in
            ap (λ (d : NodeDurable). of_nodes m (booted m.nodes address n d)) (laws.nodes (config_of address n) n.state event n.moment x y fits sound printed.0)

        node_torn : (operation : ℕ) (pattern : Pattern) → mode.whole pattern → Alike mode (all_of_nodes m (torn m.nodes address n event (record { operation = operation; pattern = pattern })))
        node_torn operation OldBits whole = one_outcome mode _ (node_booted _)
        node_torn operation NewBits whole = one_outcome mode _ (node_booted _)
        node_torn operation (MadeBits seed) whole = two_outcomes mode node_out (operation - 1) operation (node_told seed whole) (node_booted _) (node_booted _)

        node_happens_by : (tears : Option Tear) → TearIs mode tears → Alike mode (all_of_nodes m (happens_by m.nodes address n event first tears))
        node_happens_by None whole = node_ran
        node_happens_by (Some tear) whole =
            elim (nat_le tear.operation (length (node_work (config_of address n) n.state event n.moment)))
            as (λ b. Alike mode (all_of_nodes m (cond b (torn m.nodes address n event tear) (ran m.nodes address n first (node_step (config_of address n) n.state event n.moment) ∷ [])))) [
              | true ↦ node_torn tear.operation tear.pattern whole
              | false ↦ node_ran
            ]

        node_happens : Alike mode (all_of_nodes m (happens m.nodes address n event first))
        node_happens =
            elim (is_worn (config_of address n) n.state event n.moment) as (λ b. Alike mode (all_of_nodes m (cond b [] (happens_by m.nodes address n event first n.tear)))) [
              | true ↦ no_outcome mode
              | false ↦ node_happens_by n.tear tear
            ]

    -- ---- distributors

    module _ (address : ℕ) (d : DistributorMember) (tear : TearIs mode d.tear) where
      dist_boots : (left : DistDurable) → Tears mode (dist_booted m address d left).mesh
      dist_boots left = record { nodes = t.nodes; distributors = set_all (λ (x : DistributorMember). TearIs mode x.tear) (nat_eq address) m.distributors _ t.distributors tt }

      module _ (event : NodeEvent) (fits : DistributorEventFits event) (sound : IsDistState d.state) (first : List ℕ) where
        dist_went : Alike mode (dist_ran m address d first (dist_step address d.state event d.moment) ∷ [])
        dist_went = one_outcome mode _ (record { nodes = t.nodes; distributors = set_all (λ (x : DistributorMember). TearIs mode x.tear) (nat_eq address) m.distributors _ t.distributors tear })

        abbrev dist_out : ℕ → MeshOutcome
        dist_out operations = dist_booted m address d (dist_left_after address d.state event d.moment operations)

        dist_told : (seed : ℕ) → mode.whole (MadeBits seed) → (x y : ℕ) (rest rest' : List ℕ) → mode.same ((dist_out x).text ++ rest) ((dist_out y).text ++ rest') → dist_out x ≡ dist_out y
        dist_told seed whole x y rest rest' c =
            let one = dist_left_after address d.state event d.moment x in
            let other = dist_left_after address d.state event d.moment y in
            let printed = laws.ends address one.count (held_of (job_of one.upload)) other.count (held_of (job_of other.upload)) rest rest' (mode.told seed whole _ _ c) in
            ap (λ (e : DistDurable). dist_booted m address d e) (laws.distributors address d.state event d.moment x y fits sound printed.0)

        dist_tears : (operation : ℕ) (pattern : Pattern) → mode.whole pattern → Alike mode (dist_torn m address d event (record { operation = operation; pattern = pattern }))
        dist_tears operation OldBits whole = one_outcome mode _ (dist_boots _)
        dist_tears operation NewBits whole = one_outcome mode _ (dist_boots _)
        dist_tears operation (MadeBits seed) whole = two_outcomes mode dist_out (operation - 1) operation (dist_told seed whole) (dist_boots _) (dist_boots _)

        dist_by : (tears : Option Tear) → TearIs mode tears → Alike mode (dist_happens_by m address d event first tears)
        dist_by None whole = dist_went
        dist_by (Some tear) whole =
            elim (nat_le tear.operation (length (dist_work address d.state event d.moment)))
            as (λ b. Alike mode (cond b (dist_torn m address d event tear) (dist_ran m address d first (dist_step address d.state event d.moment) ∷ []))) [
              | true ↦ dist_tears tear.operation tear.pattern whole
              | false ↦ dist_went
            ]

        dist_goes : Alike mode (dist_happens m address d event first)
        dist_goes =
            elim (dist_worn address d.state event d.moment) as (λ b. Alike mode (cond b [] (dist_happens_by m address d event first d.tear))) [
              | true ↦ no_outcome mode
              | false ↦ dist_by d.tear tear
            ]

    node_tear : (address : ℕ) (n : Member) → node_at m address ≡ Some n → TearIs mode n.tear
    node_tear address n at = found (λ (x : Member). TearIs mode x.tear) (nat_eq address) m.nodes.members n t.nodes at

    dist_tear : (address : ℕ) (d : DistributorMember) → distributor_at m address ≡ Some d → TearIs mode d.tear
    dist_tear address d at = found (λ (x : DistributorMember). TearIs mode x.tear) (nat_eq address) m.distributors d t.distributors at

    abbrev AllTears : List (ℕ × Member) → Type 0
    AllTears entries = AllOf (λ (x : Member). TearIs mode x.tear) entries

    abbrev AllDistTears : List (ℕ × DistributorMember) → Type 0
    AllDistTears entries = AllOf (λ (x : DistributorMember). TearIs mode x.tear) entries

    same_tears : (next : Mesh) → next.nodes.members ≡ m.nodes.members → next.distributors ≡ m.distributors → Tears mode next
    same_tears next e f = record {
      nodes = subst (λ xs. AllTears xs) (sym e) t.nodes;
      distributors = subst (λ xs. AllDistTears xs) (sym f) t.distributors;
    }

    module _ (g : Good m) where
      -- ---- packets and time

      given_one : (number address : ℕ) (packet : Packet) (n : Option Member) (u : Option UpdaterMember) (d : Option DistributorMember) → slice_get m.nodes.bag number ≡ Some packet → node_at m address ≡ n → distributor_at m address ≡ d
          → Alike mode (given_by m number address packet n u d)
      given_one number address packet (Some n) u d is node dist =
          node_happens address n (node_tear address n node) (PacketComes packet) (g.packets number packet is).node (g.nodes address n node) (unread number address n packet)
      given_one number address packet None (Some u) d is node dist = one_outcome mode _ (same_tears _ refl refl)
      given_one number address packet None None (Some d) is node dist =
          dist_goes address d (dist_tear address d dist) (PacketComes packet) (g.packets number packet is).distributor (g.distributors address d dist)
          (unread_if number address (dist_step address d.state (PacketComes packet) d.moment).handled)
      given_one number address packet None None None is node dist = no_outcome mode

      packet_one : (number address : ℕ) (packet : Option Packet) → slice_get m.nodes.bag number ≡ packet → Alike mode (given_packet m number address packet)
      packet_one number address None is = no_outcome mode
      packet_one number address (Some packet) is = given_one number address packet (node_at m address) (updater_at m address) (distributor_at m address) is refl refl

      pub packets_one : (number address : ℕ) → Alike mode (given m number address)
      packets_one number address = packet_one number address (slice_get m.nodes.bag number) refl

      timed_one : (address ms : ℕ) (n : Option Member) (u : Option UpdaterMember) (d : Option DistributorMember) → node_at m address ≡ n → distributor_at m address ≡ d → Alike mode (timed_by m address ms n u d)
      timed_one address ms (Some n) u d node dist = node_happens address (member_later ms n) (node_tear address n node) TimeComes tt (g.nodes address n node) []
      timed_one address ms None (Some u) d node dist = one_outcome mode _ (same_tears _ refl refl)
      timed_one address ms None None (Some d) node dist = dist_goes address (dist_later ms d) (dist_tear address d dist) TimeComes tt (g.distributors address d dist) []
      timed_one address ms None None None node dist = no_outcome mode

      pub times_one : (address ms : ℕ) → Alike mode (time_comes m address ms)
      times_one address ms = timed_one address ms (node_at m address) (updater_at m address) (distributor_at m address) refl refl

    -- ---- other lines

    cut_one : (address : ℕ) (n : Option Member) (d : Option DistributorMember) → node_at m address ≡ n → distributor_at m address ≡ d → Alike mode (cut_by m address n d)
    cut_one address (Some n) d node dist = one_outcome mode _ (node_booted address n (node_tear address n node) n.state.durable)
    cut_one address None (Some d) node dist = one_outcome mode _ (dist_boots address d (dist_tear address d dist) d.state.durable)
    cut_one address None None node dist = no_outcome mode

    armed_one : (address : ℕ) (tear : Tear) (n : Option Member) (d : Option DistributorMember) → mode.whole tear.pattern → Alike mode (armed_by m address tear n d)
    armed_one address tear (Some n) d whole =
        one_outcome mode _ (record { nodes = set_all (λ (x : Member). TearIs mode x.tear) (nat_eq address) m.nodes.members _ t.nodes whole; distributors = t.distributors })
    armed_one address tear None (Some d) whole =
        one_outcome mode _ (record { nodes = t.nodes; distributors = set_all (λ (x : DistributorMember). TearIs mode x.tear) (nat_eq address) m.distributors _ t.distributors whole })
    armed_one address tear None None whole = no_outcome mode

    active_one : (address : ℕ) (n : Option Member) → Alike mode (active_by m address n)
    active_one address (Some n) = one_outcome mode _ t
    active_one address None = no_outcome mode

    phase_one : (address : ℕ) (n : Option Member) (u : Option UpdaterMember) (d : Option DistributorMember) → Alike mode (phase_by m address n u d)
    phase_one address (Some n) u d = one_outcome mode _ t
    phase_one address None (Some u) d = one_outcome mode _ t
    phase_one address None None (Some d) = one_outcome mode _ t
    phase_one address None None None = no_outcome mode

    rows_one : (u : Option UpdaterMember) (d : Option DistributorMember) → Alike mode (rows_by m u d)
    rows_one (Some u) d = one_outcome mode _ t
    rows_one None (Some d) = one_outcome mode _ t
    rows_one None None = no_outcome mode

    shown_one : (number : ℕ) (packet : Option Packet) → Alike mode (packet_by m number packet)
    shown_one number (Some packet) = one_outcome mode _ t
    shown_one number None = no_outcome mode

    stocked_one : (address version : ℕ) (content : Content) (d : Option DistributorMember) → distributor_at m address ≡ d → Alike mode (stocked_by m address version content d)
    stocked_one address version content (Some d) dist =
        one_outcome mode _ (record { nodes = t.nodes; distributors = set_all (λ (x : DistributorMember). TearIs mode x.tear) (nat_eq address) m.distributors _ t.distributors (dist_tear address d dist) })
    stocked_one address version content None dist = no_outcome mode

    new_node_one : (address : ℕ) (n : Member) → TearIs mode n.tear → AllTears (m.nodes.members ++ (address, n) ∷ [])
    new_node_one address n tear = more_all (λ (x : Member). TearIs mode x.tear) m.nodes.members address n t.nodes tear

  -- ---- lines

  begun_tears : (m : Mesh) → Tears mode m → Tears mode (mesh_begun m)
  begun_tears m t = record { nodes = t.nodes; distributors = t.distributors }

  begun_good : (m : Mesh) → Good m → Good (mesh_begun m)
  begun_good m g = record { nodes = g.nodes; distributors = g.distributors; packets = g.packets }

  pub lines_one : (m : Mesh) (event : Event) → Good m → Tears mode m → EventIs mode event → Alike mode (mesh_outcomes m event)
  lines_one m (Node address group pages version content) g t whole = one_outcome mode _ (record { nodes = new_node_one m t address _ tt; distributors = t.distributors })
  lines_one m (Old address group pages version content) g t whole = one_outcome mode _ (record { nodes = new_node_one m t address _ tt; distributors = t.distributors })
  lines_one m (Pair address group pages version content second_version second) g t whole = one_outcome mode _ (record { nodes = new_node_one m t address _ tt; distributors = t.distributors })
  lines_one m (UpdaterLine address group id ttl base way log chunk version content to) g t whole = one_outcome mode _ (record { nodes = t.nodes; distributors = t.distributors })
  lines_one m (Distributor address pages) g t whole =
      one_outcome mode _ (record { nodes = t.nodes; distributors = more_all (λ (x : DistributorMember). TearIs mode x.tear) m.distributors address _ t.distributors tt })
  lines_one m (Stock address version content) g t whole = stocked_one m t address version content (distributor_at m address) refl
  lines_one m (Say from to payload) g t whole = one_outcome mode _ (record { nodes = t.nodes; distributors = t.distributors })
  lines_one m (Deliver number address) g t whole = packets_one (mesh_begun m) (begun_tears m t) (begun_good m g) number address
  lines_one m (Time address ms) g t whole = times_one (mesh_begun m) (begun_tears m t) (begun_good m g) address ms
  lines_one m (Cut address) g t whole = cut_one (mesh_begun m) (begun_tears m t) address (node_at m address) (distributor_at m address) refl refl
  lines_one m (TearLine address operation pattern) g t whole =
      armed_one (mesh_begun m) (begun_tears m t) address (record { operation = operation; pattern = pattern }) (node_at m address) (distributor_at m address) whole
  lines_one m (Active address) g t whole = active_one (mesh_begun m) (begun_tears m t) address (node_at m address)
  lines_one m (Phase address) g t whole = phase_one (mesh_begun m) (begun_tears m t) address (node_at m address) (updater_at m address) (distributor_at m address)
  lines_one m (Settle turns) g t whole = no_outcome mode
  lines_one m (Rows address) g t whole = rows_one (mesh_begun m) (begun_tears m t) (updater_at m address) (distributor_at m address)
  lines_one m (PacketLine number) g t whole = shown_one (mesh_begun m) (begun_tears m t) number (slice_get m.nodes.bag number)
