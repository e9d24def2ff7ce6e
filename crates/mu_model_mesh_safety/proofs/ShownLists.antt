-- Each Receivers List in the bag stays true: more packets and more entries take nothing back, and a new list is true when it is sent.
use Rattle.std.proofs.Common.{arith, ◌≡◌, ◌⊎◌, ◌<◌, ℕ, zero, suc, ◌+◌, ◌*◌, ◌^◌, ◌==◌, nat_eq, Bool, true, false, cond, List, [], ◌∷◌, ◌++◌, length, map, refl, sym, ap, subst, ◌∙◌, append-nil, append_assoc, inl, inr, Option, Some, None, Result, Ok, Err, Contains}
use Rattle.std.proofs.lemmas.Bool.{eqb-true}
use Rattle.std.proofs.lemmas.List.Elements.{Contains-append_right}
use Rattle.std.specs.List.{AllByRecursion}
use Rattle.std.specs.Map.{lookup, set_value}
use Rattle.std.specs.Prelude.{slice_get}
use Rattle.mu_model_wire.specs.Fields.{Message}
use Rattle.mu_model_wire.specs.Packet.{Packet}
use Rattle.mu_model_wire.specs.Reading.{message_at}
use Rattle.mu_model_wire.specs.Table.{rows as grammar}
use Rattle.mu_model_wire.specs.declared.Refusal.{Refusal}
use Rattle.mu_model_node.specs.Events.{NodeEvent, PacketComes, TimeComes}
use Rattle.mu_model_node.specs.Log.{LogEntry, logged}
use Rattle.mu_model_node.specs.Safe.{Happening, Done, CutPower, Torn}
use Rattle.mu_model_client.specs.Rows.{Row}
use Rattle.mu_model_distributor.specs.DistEvents.{dist_step}
use Rattle.mu_model_distributor.specs.DistState.{DistState, transfer_id, receiver_of}
use Rattle.mu_model_distributor.specs.Runs.{happened as dist_happened}
use Rattle.mu_model_distributor.specs.Sound.{IsDistState}
use Rattle.mu_model_distributor_laws.specs.Laws.{EventFits}
use Rattle.mu_model_distributor_laws.specs.Lists.{list_of, list_in, list_at}
use Rattle.mu_model_fates.specs.Laws.{come_by}
use Rattle.mu_model_listed.specs.Laws.{Both, IsShownTruly, ListIsTrue}
use Rattle.mu_model_offers.specs.Laws.{end_of, kept_of, IsUnheard, ListAgrees}
use Rattle.mu_model_offers.specs.Packets.{packets_by}
use Rattle.mu_model_updater.specs.Laws.{SaysNothing}
use Rattle.mu_model_updater.specs.Updater.{Updater, new_updater, updater_step, updater_after, sent_in}
use Rattle.mu_model_world.specs.World.{Member, Logged, log_at, logged_at}
use Rattle.mu_model_mesh.specs.Mesh.{DistributorMember, Mesh, new_mesh, node_at, distributor_at}
use Rattle.mu_model_mesh_safety.specs.Safe.{IsShown, ListsAreTrue}
use Rattle.mu_model_mesh_safety.specs.Runs.{AreIn, NodeRun, UpdaterRun, DistributorRun}
use Rattle.mu_model_mesh_safety.proofs.Deeds.{SameNodes, SameAir, MoreAir, IsStill, NodeGoes, UpdaterGoes, DistributorGoes, Deed, still, says, node_goes, updater_goes, distributor_goes, adds_node, adds_updater, adds_distributor, stocks}
use Rattle.mu_model_mesh_safety.proofs.Kept.{IsPacket, Kept}
use Rattle.mu_model_mesh_safety.proofs.Shown.{of_all, all_of, shown_more}
use Rattle.mu_model_mesh_safety.proofs.ShownDistributors.{both_of, are_both, are_new, AgreesWith, metas_in_range, owner_at, one_of, cause_of, present_id}
use Rattle.mu_model_mesh_safety.proofs.ShownLaws.{MemberLaws}
use Rattle.mu_model_mesh_safety.proofs.ShownNodes.{Cause, shown_of}
use Rattle.mu_model_mesh_safety.proofs.ShownSafe.{same_end, same_transfer}
use Rattle.mu_model_mesh_safety.proofs.ShownSends.{lists_begin_nothing}

-- ---- old packets and new ones

in_sent : (sent : List Packet) (transfer x : Option ℕ) (number : ℕ) (p : Packet) → slice_get sent number ≡ Some p → slice_get (map (λ (q : Packet). transfer) sent) number ≡ Some x → Contains sent p × (transfer ≡ x)
in_sent [] transfer x number p e f = absurd cc
in_sent (q ∷ sent) transfer x zero p e f = ((0, omega arith, (let is : q ≡ p = cc in is)), (let is : transfer ≡ x = cc in is))
in_sent (q ∷ sent) transfer x (suc number) p e f = let more = in_sent sent transfer x number p e f in (Contains-append_right (q ∷ []) sent p more.0, more.1)

old_or_new : (bag sent : List Packet) (transfers : List (Option ℕ)) (transfer x : Option ℕ) (number : ℕ) (p : Packet) → length transfers ≡ length bag → slice_get (bag ++ sent) number ≡ Some p → slice_get (transfers ++ map (λ (q : Packet). transfer) sent) number ≡ Some x
    → ((slice_get bag number ≡ Some p) × (slice_get transfers number ≡ Some x)) ⊎ (Contains sent p × (transfer ≡ x))
old_or_new [] sent [] transfer x number p same e f = inr (in_sent sent transfer x number p e f)
old_or_new [] sent (t ∷ transfers) transfer x number p same e f = absurd (omega (arith, same))
old_or_new (q ∷ bag) sent [] transfer x number p same e f = absurd (omega (arith, same))
old_or_new (q ∷ bag) sent (t ∷ transfers) transfer x zero p same e f = inl (e, f)
old_or_new (q ∷ bag) sent (t ∷ transfers) transfer x (suc number) p same e f = old_or_new bag sent transfers transfer x number p (omega (arith, same)) e f

-- ---- logs that grow

-- each node was there before, and its log has grown by these entries
abbrev LogsGrow : Mesh → Mesh → Type 0
LogsGrow m next =
    (a : ℕ) (n : Member) → node_at next a ≡ Some n
    → (old : Member) × (node_at m a ≡ Some old) × (entries : List LogEntry) × (log_at a next.nodes.log ≡ log_at a m.nodes.log ++ entries)

log_append : (a : ℕ) (xs ys : List Logged) → log_at a (xs ++ ys) ≡ log_at a xs ++ log_at a ys
log_append a [] ys = refl
log_append a (x ∷ xs) ys =
    elim (x.node == a) as (λ t. cond t (x.what ∷ log_at a (xs ++ ys)) (log_at a (xs ++ ys)) ≡ cond t (x.what ∷ log_at a xs) (log_at a xs) ++ log_at a ys) [
      | true ↦ ap (λ (es : List LogEntry). x.what ∷ es) (log_append a xs ys)
      | false ↦ log_append a xs ys
    ]

was_there : (entries : List (ℕ × Member)) (a b : ℕ) (new found : Member) → lookup (nat_eq b) (set_value (nat_eq a) entries new) ≡ Some found → (old : Member) × (lookup (nat_eq b) entries ≡ Some old)
was_there [] a b new found is = absurd cc
was_there ((key, value) ∷ entries) a b new found is =
    elim (nat_eq a key) as (λ s. lookup (nat_eq b) (cond s ((key, new) ∷ entries) ((key, value) ∷ set_value (nat_eq a) entries new)) ≡ Some found → (old : Member) × (cond (nat_eq b key) (Some value) (lookup (nat_eq b) entries) ≡ Some old)) [
      | true ↦ λ e. elim (nat_eq b key) as (λ t. cond t (Some new) (lookup (nat_eq b) entries) ≡ Some found → (old : Member) × (cond t (Some value) (lookup (nat_eq b) entries) ≡ Some old)) [
        | true ↦ λ f. (value, refl)
        | false ↦ λ f. (found, f)
      ] e
      | false ↦ λ e. elim (nat_eq b key) as (λ t. cond t (Some value) (lookup (nat_eq b) (set_value (nat_eq a) entries new)) ≡ Some found → (old : Member) × (cond t (Some value) (lookup (nat_eq b) entries) ≡ Some old)) [
        | true ↦ λ f. (value, refl)
        | false ↦ λ f. was_there entries a b new found f
      ] e
    ] is

same_logs : (m next : Mesh) (a : ℕ) → next.nodes.log ≡ m.nodes.log → log_at a next.nodes.log ≡ log_at a m.nodes.log ++ []
same_logs m next a e = ap (log_at a) e ∙ sym (append-nil (log_at a m.nodes.log))

same_grow : (m next : Mesh) → SameNodes m next → LogsGrow m next
same_grow m next h a n at = (n, ap (λ (es : List (ℕ × Member)). lookup (nat_eq a) es) (sym h.members) ∙ at, [], same_logs m next a h.log)

still_grow : (m next : Mesh) → IsStill m next → LogsGrow m next
still_grow m next h a n at =
    let old = h.nodes a n at in
    (old.0, old.1, [], same_logs m next a h.log)

node_grow : (m next : Mesh) → NodeGoes m next → LogsGrow m next
node_grow m next g a n at =
    let old = was_there m.nodes.members g.address a g.new n (ap (λ (es : List (ℕ × Member)). lookup (nat_eq a) es) (sym g.members) ∙ at) in
    let entries : List Logged = logged_at g.address (logged g.old.state g.new.state) in
    (old.0, old.1, log_at a entries, ap (log_at a) g.log ∙ log_append a m.nodes.log entries)

-- ---- lists that were true

-- what a list shows is true in a world
abbrev IsTrueIn : Mesh → ℕ → List Row → Type 0
IsTrueIn m id given = AllByRecursion (λ (r : Row). (n : Member) → node_at m r.address ≡ Some n → IsShown m.nodes.bag (log_at r.address m.nodes.log) id r.index r.phase) given

shown_on : (m next : Mesh) (more : List Packet) → next.nodes.bag ≡ m.nodes.bag ++ more → LogsGrow m next → (id : ℕ) (given : List Row) → IsTrueIn m id given → IsTrueIn next id given
shown_on m next more bag grow id [] h = tt
shown_on m next more bag grow id (r ∷ given) h = (
  λ n at.
      let was = grow r.address n at in
      subst (λ (b : List Packet). IsShown b (log_at r.address next.nodes.log) id r.index r.phase) (sym bag)
      (subst (λ (l : List LogEntry). IsShown (m.nodes.bag ++ more) l id r.index r.phase) (sym was.3)
      (shown_more m.nodes.bag more (log_at r.address m.nodes.log) was.2 id r.index r.phase (h.0 was.0 was.1))),
  shown_on m next more bag grow id given h.1,
)

empty_true : (next : Mesh) → next.nodes.bag ≡ [] → ListsAreTrue next
empty_true next empty number p id given e f g =
    let never : slice_get [] number ≡ Some p = ap (λ (b : List Packet). slice_get b number) (sym empty) ∙ e in
    absurd cc

-- nothing is sent among the member lines
early_true : (m next : Mesh) → Kept m → m.nodes.begun ≡ false → SameAir m next → ListsAreTrue next
early_true m next k early air = empty_true next (air.bag ∙ k.early early)

air_true : (m next : Mesh) → SameAir m next → LogsGrow m next → ListsAreTrue m → ListsAreTrue next
air_true m next air grow h number p id given e f g =
    shown_on m next [] (air.bag ∙ sym (append-nil m.nodes.bag)) grow id given
    (h number p id given (ap (λ (b : List Packet). slice_get b number) (sym air.bag) ∙ e) (ap (λ (ts : List (Option ℕ)). slice_get ts number) (sym air.transfers) ∙ f) g)

-- what is new is true when it is sent
more_true : (m next : Mesh) (sent : List Packet) (transfer : Option ℕ) → Kept m → MoreAir m next sent transfer → LogsGrow m next
    → ((p : Packet) (id : ℕ) (given : List Row) → Contains sent p → transfer ≡ Some id → list_at p.payload ≡ Some given → IsTrueIn m id given) → ListsAreTrue m → ListsAreTrue next
more_true m next sent transfer k air grow new h number p id given e f g =
    shown_on m next sent air.bag grow id given
    (elim (old_or_new m.nodes.bag sent m.transfers transfer (Some id) number p k.padded (ap (λ (b : List Packet). slice_get b number) (sym air.bag) ∙ e) (ap (λ (ts : List (Option ℕ)). slice_get ts number) (sym air.transfers) ∙ f)) [
      | inl old ↦ h number p id given old.0 old.1 g
      | inr fresh ↦ new p id given fresh.0 fresh.1 g
    ])

-- what has no transfer is no list of one
no_transfer : (m : Mesh) (p : Packet) (id : ℕ) (given : List Row) → None ≡ Some id → IsTrueIn m id given
no_transfer m p id given e = absurd cc

own_id : (a b : ℕ) → Some a ≡ Some b → a ≡ b
own_id a b e = cc

-- ---- an updater sends no list

sent_more : (u : Updater) (run : List (NodeEvent × ℕ)) (event : NodeEvent) (now : ℕ) → sent_in u (run ++ (event, now) ∷ []) ≡ sent_in u run ++ (updater_step (updater_after u run) event now).sent
sent_more u [] event now = append-nil (updater_step u event now).sent
sent_more u (e ∷ run) event now =
    let next : Updater = (updater_step u e.0 e.1).next in
    ap (λ (ps : List Packet). (updater_step u e.0 e.1).sent ++ ps) (sent_more next run event now) ∙ sym (append_assoc (updater_step u e.0 e.1).sent (sent_in next run) (updater_step (updater_after next run) event now).sent)

is_list : (p : Packet) (given : List Row) → SaysNothing p.payload → (r : Result Message Refusal) → message_at grammar p.payload ≡ r → list_in r ≡ Some given → ⊥
is_list p given h (Ok m) e f = by_opcode (m.opcode == 0x8315) refl f
  where
    by_opcode : (b : Bool) → (m.opcode == 0x8315) ≡ b → list_of m ≡ Some given → ⊥
    by_opcode true t g = h.no_list m e (eqb-true m.opcode 0x8315 t)
    by_opcode false t g =
        let none : list_of m ≡ None = rw t refl in
        let never : None ≡ Some given = sym none ∙ g in
        cc
is_list p given h (Err x) e f = cc

module _ (laws : MemberLaws) (m : Mesh) (k : Kept m) where
  updater_lists : (next : Mesh) (g : UpdaterGoes m next) (p : Packet) (given : List Row) → Contains (updater_step g.old.updater g.event g.now).sent p → list_at p.payload ≡ Some given → ⊥
  updater_lists next g p given has is =
      let r : UpdaterRun m.nodes.bag g.address g.old = k.updaters g.address g.old g.at in
      let start : Updater = new_updater r.plan r.image r.to in
      let here : Contains (updater_step (updater_after start r.run) g.event g.now).sent p = subst (λ (u : Updater). Contains (updater_step u g.event g.now).sent p) r.state has in
      let all : Contains (sent_in start (r.run ++ (g.event, g.now) ∷ [])) p = subst (λ (ps : List Packet). Contains ps p) (sym (sent_more start r.run g.event g.now)) (Contains-append_right (sent_in start r.run) _ p here) in
      is_list p given (of_all (λ (q : Packet). SaysNothing q.payload) _ p (laws.nothing r.plan r.image r.to (r.run ++ (g.event, g.now) ∷ [])) all) (message_at grammar p.payload) refl is

  -- ---- a distributor's lists

  event_fits : (event : NodeEvent) (now : ℕ) → AreIn m.nodes.bag (come_by (Done event now)) → EventFits event
  event_fits (PacketComes packet) now come = (of_all (IsPacket m) m.nodes.bag packet k.packets come.0).fits.distributor
  event_fits TimeComes now come = tt

  module _ (x : ℕ) (d : DistributorMember) (at : distributor_at m x ≡ Some d) (event : NodeEvent) (now : ℕ) (fits : EventFits event) (p : Packet) (given : List Row) (is : list_at p.payload ≡ Some given) where
    abbrev run_of : DistributorRun m.nodes.bag x d
    run_of = k.distributors x d at

    row_shown : Contains (dist_step run_of.run.address (end_of run_of.run) event now).sent p → (row : Row) → Contains given row → (n : Member) → node_at m row.address ≡ Some n
        → IsShown m.nodes.bag (log_at row.address m.nodes.log) (present_id laws m k x d at) row.index row.phase
    row_shown has row among n there =
        let known = k.nodes row.address n there in
        let nr : NodeRun m.nodes.bag row.address n = known.0 in
        let b : Both = both_of nr run_of in
        let sent : List Packet = (dist_step run_of.run.address (end_of run_of.run) event now).sent in
        let list : ListIsTrue b (Some given) = subst (ListIsTrue b) is (of_all (λ (q : Packet). ListIsTrue b (list_at q.payload)) sent p (laws.list_true b event now (are_both nr run_of) (are_new nr run_of) fits) has) in
        let why : IsShownTruly b (receiver_of row) = of_all (λ (r : Row). r.address ≡ row.address → IsShownTruly b (receiver_of r)) given row list among refl in
        let agrees : AgreesWith run_of (receiver_of row) = λ to u h e.
        of_all (λ (r : Row). r.address ≡ to → (r.index ≡ u.index) ⊎ IsUnheard (kept_of run_of.run) (receiver_of r)) given row
        (subst (ListAgrees (kept_of run_of.run) to u) is (of_all (λ (q : Packet). ListAgrees (kept_of run_of.run) to u (list_at q.payload)) sent p (laws.lists run_of.run event now to u run_of.is fits h e) has)) among in
        let id : ℕ = present_id laws m k x d at in
        let cause : Cause nr id row.index row.phase = cause_of laws m k x d at row.address n there (receiver_of row) agrees refl why in
        subst (λ (l : List LogEntry). IsShown m.nodes.bag l id row.index row.phase) (sym known.1)
        (shown_of laws.taken laws.asked laws.rise laws.since laws.held laws.came laws.ids nr id row.index row.phase (one_of laws m k x d at row.address n there id (owner_at laws m k x d at)) (metas_in_range laws m k) cause)

    list_shown : Contains (dist_step x d.state event now).sent p → IsTrueIn m (transfer_id x (dist_step x d.state event now).next.durable) given
    list_shown has =
        let run = run_of.run in
        let sound : IsDistState d.state = subst IsDistState (same_end run_of) (laws.order run.address run.durable run.fresh run.happenings run_of.is.durable run_of.is.fresh run_of.is.happenings).sound in
        let stays : (dist_step x d.state event now).next.durable.counter ≡ d.state.durable.counter = lists_begin_nothing laws.two laws.stand x d.state event now sound p given has is in
        let same : present_id laws m k x d at ≡ transfer_id x (dist_step x d.state event now).next.durable = same_transfer run_of ∙ ap (λ c. x * 2 ^ 48 + c) (sym stays) in
        let own : Contains (dist_step run.address d.state event now).sent p = subst (λ a. Contains (dist_step a d.state event now).sent p) (sym run_of.own) has in
        let here : Contains (dist_step run.address (end_of run) event now).sent p = subst (λ (s : DistState). Contains (dist_step run.address s event now).sent p) (sym (same_end run_of)) own in
        subst (λ id. IsTrueIn m id given) same
        (all_of (λ (r : Row). (n : Member) → node_at m r.address ≡ Some n → IsShown m.nodes.bag (log_at r.address m.nodes.log) (present_id laws m k x d at) r.index r.phase) given (row_shown here))

  distributor_lists : (next : Mesh) (g : DistributorGoes m next) (p : Packet) (given : List Row) → Contains (packets_by g.address g.old.state g.h) p → list_at p.payload ≡ Some given → IsTrueIn m (transfer_id g.address g.new.state.durable) given
  distributor_lists next g p given has is = by_happening g.h g.come has g.state
    where
      none : {A : Type 0} → Contains {X = Packet} [] p → A
      none h = let below : h.0 < 0 = h.1 in absurd (omega (arith, below))

      by_happening : (h : Happening) → AreIn m.nodes.bag (come_by h) → Contains (packets_by g.address g.old.state h) p → g.new.state ≡ dist_happened g.address g.old.state h → IsTrueIn m (transfer_id g.address g.new.state.durable) given
      by_happening (Done event now) come there e =
          subst (λ (s : DistState). IsTrueIn m (transfer_id g.address s.durable) given) (sym e)
          (list_shown g.address g.old g.at event now (event_fits event now come) p given is there)
      by_happening CutPower come there e = none there
      by_happening (Torn event now operations) come there e = none there

  -- ---- any deed

  pub lists_keep : (next : Mesh) → Deed m next → ListsAreTrue m → ListsAreTrue next
  lists_keep next (still g) h = air_true m next g.air (still_grow m next g) h
  lists_keep next (says g) h = more_true m next (g.packet ∷ []) None k g.air (same_grow m next g.nodes) (λ p id given has e is. no_transfer m p id given e) h
  lists_keep next (node_goes g) h = more_true m next _ None k g.air (node_grow m next g) (λ p id given has e is. no_transfer m p id given e) h
  lists_keep next (updater_goes g) h = more_true m next _ _ k g.air (same_grow m next g.nodes) (λ p id given has e is. absurd (updater_lists next g p given has is)) h
  lists_keep next (distributor_goes g) h =
      more_true m next _ (Some (transfer_id g.address g.new.state.durable)) k g.air (same_grow m next g.nodes)
      (λ p id given has e is. subst (λ i. IsTrueIn m i given) (own_id (transfer_id g.address g.new.state.durable) id e) (distributor_lists next g p given has is)) h
  lists_keep next (adds_node g) h = early_true m next k g.more.early g.air
  lists_keep next (adds_updater g) h = early_true m next k g.more.early g.air
  lists_keep next (adds_distributor g) h = early_true m next k g.more.early g.air
  lists_keep next (stocks g) h = early_true m next k g.early g.air

-- before the first line there is no list
pub lists_new : ListsAreTrue new_mesh
lists_new = empty_true new_mesh refl
