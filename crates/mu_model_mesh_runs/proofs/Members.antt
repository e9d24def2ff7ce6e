-- In each world of a script somebody stands at each address of the order.
use Rattle.std.proofs.Common.{◌≡◌, ◌<◌, ℕ, zero, suc, nat_eq, Bool, true, false, List, [], ◌∷◌, ◌++◌, map, length, refl, sym, ap, subst, ◌∙◌, cond, arith, Option, Some, None, is_some, Contains, ◌⊎◌, inl, inr, ⊎_elim, Result, Ok, Err}
use Rattle.std.specs.Prelude.{◌+◌, ◌||◌, slice_get}
use Rattle.std.specs.List.{AllByRecursion, list_any}
use Rattle.std.specs.Map.{lookup}
use Rattle.mu_model_wire.specs.Packet.{Packet}
use Rattle.mu_model_image.specs.Meta.{image_of}
use Rattle.mu_model_node.specs.Events.{PacketComes, TimeComes, node_step}
use Rattle.mu_model_distributor.specs.DistEvents.{dist_step, new_distributor, stocked, restarted}
use Rattle.mu_model_updater.specs.Updater.{updater_of, updater_step}
use Rattle.mu_model_script.specs.Event.{Event, Node, Old, Pair, Updater as UpdaterLine, Distributor, Stock, Say, Deliver, Time, Cut, Tear as TearLine, Active, Phase, Settle, Rows, Packet as PacketLine}
use Rattle.mu_model_script.specs.Tokens.{Content}
use Rattle.mu_model_world.specs.World.{Tear, Member, config_of}
use Rattle.mu_model_world.specs.Judged.{Judged, Silent, Refused, Sound}
use Rattle.mu_model_world.specs.Outcomes.{unread, counted, with_member, with_changed, new_member, node_of, pair_of, content_octets}
use Rattle.mu_model_mesh.specs.Mesh.{UpdaterMember, DistributorMember, Mesh, new_mesh, is_member, node_at, updater_at, distributor_at, addressees, moment_at, with_nodes, with_distributor as mesh_with_distributor, without_transfer}
use Rattle.mu_model_mesh.specs.MeshOutcomes.{MeshOutcome, mesh_outcomes, mesh_begun, given, given_packet, given_by, time_comes, cut_by, armed_by, active_by, phase_by, rows_by, packet_by, stocked_by, unread_if, in_order, with_new_updater, with_new_distributor}
use Rattle.mu_model_mesh.specs.MeshJudged.{mesh_judged}
use Rattle.mu_model_mesh.specs.MeshRun.{MeshMoves, IsDone, MeshStep, MeshRun}
use Rattle.mu_model_mesh.specs.Settle.{turn_time, turn_comes, EachComes, given_to, AllComes, none_left, comes, Turns, Settles}
use Rattle.mu_model_mesh_runs.specs.Laws.{HasMembers, RunsHaveMembers}
use Rattle.mu_model_mesh_runs.proofs.Grows.{Stays, stays_same, stays_then, members_stay, Grows, AllGrow, Any, all_any, set_some, node_boots, dist_boots, node_happens, one_happens, distributor_happens, time_grows}

-- ---- lists

of_all : {X : Type 0} (P : X → Type 0) (xs : List X) (x : X) → AllByRecursion P xs → Contains xs x → P x
of_all P [] x all (k, few, at) = let never : ⊥ = omega (arith, few) in absurd never
of_all P (y ∷ xs) x all (zero, few, at) = subst P at all.0
of_all P (y ∷ xs) x all (suc k, few, at) = of_all P xs x all.1 (k, omega (arith, few), at)

last_only : (t : Bool) → (t || false) ≡ true → (false ≡ true) ⊎ (t ≡ true)
last_only true h = inr refl
last_only false h = inl h

last_key : (t longer shorter : Bool) (Q : Type 0) → (longer ≡ true → (shorter ≡ true) ⊎ Q) → (t || longer) ≡ true → ((t || shorter) ≡ true) ⊎ Q
last_key true longer shorter Q k h = inl refl
last_key false longer shorter Q k h = k h

any_last : (a b : ℕ) (xs : List ℕ) → list_any (nat_eq a) (xs ++ b ∷ []) ≡ true → (list_any (nat_eq a) xs ≡ true) ⊎ (nat_eq a b ≡ true)
any_last a b [] h = last_only (nat_eq a b) h
any_last a b (x ∷ xs) h = last_key (nat_eq a x) (list_any (nat_eq a) (xs ++ b ∷ [])) (list_any (nat_eq a) xs) (nat_eq a b ≡ true) (any_last a b xs) h

first_key : {X : Type 0} (t : Bool) (v : X) (longer shorter : Option X) → (longer ≡ None → shorter ≡ None) → cond t (Some v) longer ≡ None → cond t (Some v) shorter ≡ None
first_key true v longer shorter k h = cc
first_key false v longer shorter k h = k h

lookup_first : {X : Type 0} (a : ℕ) (es : List (ℕ × X)) (e : ℕ × X) → lookup (nat_eq a) (es ++ e ∷ []) ≡ None → lookup (nat_eq a) es ≡ None
lookup_first a [] e h = refl
lookup_first a (x ∷ es) e h = first_key (nat_eq a x.0) x.1 (lookup (nat_eq a) (es ++ e ∷ [])) (lookup (nat_eq a) es) (lookup_first a es e) h

found_key : {X : Type 0} (t : Bool) (v : X) (rest : Option X) → (rest ≡ None → ⊥) → cond t (Some v) rest ≡ None → ⊥
found_key true v rest k h = cc
found_key false v rest k h = k h

lookup_last : {X : Type 0} (a b : ℕ) (v : X) (es : List (ℕ × X)) → nat_eq a b ≡ true → lookup (nat_eq a) (es ++ (b, v) ∷ []) ≡ None → ⊥
lookup_last a b v [] e h = let found : Some v ≡ None = ap (λ t. cond t (Some v) None) (sym e) ∙ h in cc
lookup_last a b v (x ∷ es) e h = found_key (nat_eq a x.0) x.1 (lookup (nat_eq a) (es ++ (b, v) ∷ [])) (lookup_last a b v es e) h

-- ---- what keeps it

abbrev Keep : List MeshOutcome → Type 0
Keep outs = AllByRecursion (λ (o : MeshOutcome). HasMembers o.mesh) outs

keep_grown : (m : Mesh) (outs : List MeshOutcome) → HasMembers m → AllGrow Any m outs → Keep outs
keep_grown m [] h g = tt
keep_grown m (o ∷ outs) h g = (members_stay m o.mesh g.0.stays h, keep_grown m outs h g.1)

-- a new member
with_node : (m next : Mesh) (address : ℕ) (n : Member) → HasMembers m → next.order ≡ m.order ++ address ∷ [] → next.nodes.members ≡ m.nodes.members ++ (address, n) ∷ [] → next.updaters ≡ m.updaters → next.distributors ≡ m.distributors → HasMembers next
with_node m next address n h order nodes updaters distributors a there no_node no_updater no_distributor =
    let none : lookup (nat_eq a) (m.nodes.members ++ (address, n) ∷ []) ≡ None = ap (λ es. lookup (nat_eq a) es) (sym nodes) ∙ no_node in
    ⊎_elim (λ old. h a old (lookup_first a m.nodes.members (address, n) none) (ap (λ es. lookup (nat_eq a) es) (sym updaters) ∙ no_updater) (ap (λ es. lookup (nat_eq a) es) (sym distributors) ∙ no_distributor))
    (λ new. lookup_last a address n m.nodes.members new none) (any_last a address m.order (ap (λ xs. list_any (nat_eq a) xs) (sym order) ∙ there))

with_updater : (m next : Mesh) (address : ℕ) (u : UpdaterMember) → HasMembers m → next.order ≡ m.order ++ address ∷ [] → next.nodes.members ≡ m.nodes.members → next.updaters ≡ m.updaters ++ (address, u) ∷ [] → next.distributors ≡ m.distributors → HasMembers next
with_updater m next address u h order nodes updaters distributors a there no_node no_updater no_distributor =
    let none : lookup (nat_eq a) (m.updaters ++ (address, u) ∷ []) ≡ None = ap (λ es. lookup (nat_eq a) es) (sym updaters) ∙ no_updater in
    ⊎_elim (λ old. h a old (ap (λ es. lookup (nat_eq a) es) (sym nodes) ∙ no_node) (lookup_first a m.updaters (address, u) none) (ap (λ es. lookup (nat_eq a) es) (sym distributors) ∙ no_distributor))
    (λ new. lookup_last a address u m.updaters new none) (any_last a address m.order (ap (λ xs. list_any (nat_eq a) xs) (sym order) ∙ there))

with_distributor : (m next : Mesh) (address : ℕ) (d : DistributorMember) → HasMembers m → next.order ≡ m.order ++ address ∷ [] → next.nodes.members ≡ m.nodes.members → next.updaters ≡ m.updaters → next.distributors ≡ m.distributors ++ (address, d) ∷ [] → HasMembers next
with_distributor m next address d h order nodes updaters distributors a there no_node no_updater no_distributor =
    let none : lookup (nat_eq a) (m.distributors ++ (address, d) ∷ []) ≡ None = ap (λ es. lookup (nat_eq a) es) (sym distributors) ∙ no_distributor in
    ⊎_elim (λ old. h a old (ap (λ es. lookup (nat_eq a) es) (sym nodes) ∙ no_node) (ap (λ es. lookup (nat_eq a) es) (sym updaters) ∙ no_updater) (lookup_first a m.distributors (address, d) none))
    (λ new. lookup_last a address d m.distributors new none) (any_last a address m.order (ap (λ xs. list_any (nat_eq a) xs) (sym order) ∙ there))

-- ---- events at a member

given_any : (m : Mesh) (number address : ℕ) (p : Packet) (n : Option Member) (u : Option UpdaterMember) (d : Option DistributorMember) → AllGrow Any m (given_by m number address p n u d)
given_any m number address p (Some n) u d = node_happens Any m address n (PacketComes p) (unread number address n p) (all_any (node_step (config_of address n) n.state (PacketComes p) n.moment).sent)
given_any m number address p None (Some u) d = one_happens Any m address u (PacketComes p) (unread_if number address (updater_step u.updater (PacketComes p) u.moment).handled) (all_any (updater_step u.updater (PacketComes p) u.moment).sent)
given_any m number address p None None (Some d) = distributor_happens Any m address d (PacketComes p) (unread_if number address (dist_step address d.state (PacketComes p) d.moment).handled) (all_any (dist_step address d.state (PacketComes p) d.moment).sent)
given_any m number address p None None None = tt

packet_any : (m : Mesh) (number address : ℕ) (p : Option Packet) → AllGrow Any m (given_packet m number address p)
packet_any m number address None = tt
packet_any m number address (Some p) = given_any m number address p (node_at m address) (updater_at m address) (distributor_at m address)

any_given : (m : Mesh) (number address : ℕ) → AllGrow Any m (given m number address)
any_given m number address = packet_any m number address (slice_get m.nodes.bag number)

cut_grows : (m : Mesh) (address : ℕ) (n : Option Member) (d : Option DistributorMember) → AllGrow Any m (cut_by m address n d)
cut_grows m address (Some n) d = (node_boots Any m address n TimeComes [] n.state.durable, tt)
cut_grows m address None (Some d) = (dist_boots Any m address d TimeComes [] d.state.durable, tt)
cut_grows m address None None = tt

-- ---- lines

armed_keeps : (m : Mesh) (address : ℕ) (t : Tear) (n : Option Member) (d : Option DistributorMember) → HasMembers m → Keep (armed_by m address t n d)
armed_keeps m address t (Some n) d h =
    (members_stay m (with_nodes m (with_changed m.nodes address (record n { tear = Some t }))) (record { order = refl; nodes = λ a. set_some a address m.nodes.members (record n { tear = Some t }); updaters = λ a. refl; distributors = λ a. refl }) h, tt)
armed_keeps m address t None (Some d) h =
    (members_stay m (mesh_with_distributor m address (record d { tear = Some t })) (record { order = refl; nodes = λ a. refl; updaters = λ a. refl; distributors = λ a. set_some a address m.distributors (record d { tear = Some t }) }) h, tt)
armed_keeps m address t None None h = tt

active_keeps : (m : Mesh) (address : ℕ) (n : Option Member) → HasMembers m → Keep (active_by m address n)
active_keeps m address (Some n) h = (h, tt)
active_keeps m address None h = tt

phase_keeps : (m : Mesh) (address : ℕ) (n : Option Member) (u : Option UpdaterMember) (d : Option DistributorMember) → HasMembers m → Keep (phase_by m address n u d)
phase_keeps m address (Some n) u d h = (h, tt)
phase_keeps m address None (Some u) d h = (h, tt)
phase_keeps m address None None (Some d) h = (h, tt)
phase_keeps m address None None None h = tt

rows_keep : (m : Mesh) (u : Option UpdaterMember) (d : Option DistributorMember) → HasMembers m → Keep (rows_by m u d)
rows_keep m (Some u) d h = (h, tt)
rows_keep m None (Some d) h = (h, tt)
rows_keep m None None h = tt

shown_keeps : (m : Mesh) (number : ℕ) (p : Option Packet) → HasMembers m → Keep (packet_by m number p)
shown_keeps m number (Some p) h = (h, tt)
shown_keeps m number None h = tt

stocked_keeps : (m : Mesh) (address version : ℕ) (content : Content) (d : Option DistributorMember) → HasMembers m → Keep (stocked_by m address version content d)
stocked_keeps m address version content (Some d) h =
    let x : DistributorMember = record d { state = stocked d.state (image_of version (content_octets content)) } in
    (members_stay m (mesh_with_distributor (with_nodes m (counted m.nodes)) address x) (record { order = refl; nodes = λ a. refl; updaters = λ a. refl; distributors = λ a. set_some a address m.distributors x }) h, tt)
stocked_keeps m address version content None h = tt

node_line : (m : Mesh) (address : ℕ) (n : Member) → HasMembers m → HasMembers (without_transfer (in_order m address) (with_member (counted m.nodes) address n))
node_line m address n h = with_node m (without_transfer (in_order m address) (with_member (counted m.nodes) address n)) address n h refl refl refl refl

updater_line : (m : Mesh) (address : ℕ) (u : UpdaterMember) → HasMembers m → HasMembers (with_new_updater m address u)
updater_line m address u h = with_updater m (with_new_updater m address u) address u h refl refl refl refl

distributor_line : (m : Mesh) (address : ℕ) (d : DistributorMember) → HasMembers m → HasMembers (with_new_distributor m address d)
distributor_line m address d h = with_distributor m (with_new_distributor m address d) address d h refl refl refl refl

event_keeps : (m : Mesh) (event : Event) → HasMembers m → Keep (mesh_outcomes m event)
event_keeps m (Node address group pages version content) h = (node_line m address (new_member group (node_of pages version content)) h, tt)
event_keeps m (Old address group pages version content) h = (node_line m address (new_member group (node_of pages version content)) h, tt)
event_keeps m (Pair address group pages version content second_version second) h = (node_line m address (new_member group (pair_of pages version content second_version second)) h, tt)
event_keeps m (UpdaterLine address group id ttl base way log chunk version content to) h = (
  updater_line m address (record {
    moment = 0;
    updater = updater_of (record { address = address; group = group; id = id; ttl = ttl; base = base; mode = way; log = log; chunk = chunk; version = version; content = content_octets content; receivers = to });
  }) h,
  tt,
)
event_keeps m (Distributor address pages) h = (distributor_line m address (record { moment = 0; tear = None; state = restarted address (new_distributor pages) }) h, tt)
event_keeps m (Stock address version content) h = stocked_keeps m address version content (distributor_at m address) h
event_keeps m (Say from to payload) h = (h, tt)
event_keeps m (Deliver number address) h = keep_grown (mesh_begun m) (given (mesh_begun m) number address) h (any_given (mesh_begun m) number address)
event_keeps m (Time address ms) h = keep_grown (mesh_begun m) (time_comes (mesh_begun m) address ms) h (time_grows (mesh_begun m) address ms)
event_keeps m (Cut address) h = keep_grown (mesh_begun m) (cut_by (mesh_begun m) address (node_at m address) (distributor_at m address)) h (cut_grows (mesh_begun m) address (node_at m address) (distributor_at m address))
event_keeps m (TearLine address operation pattern) h = armed_keeps (mesh_begun m) address (record { operation = operation; pattern = pattern }) (node_at m address) (distributor_at m address) h
event_keeps m (Active address) h = active_keeps (mesh_begun m) address (node_at m address) h
event_keeps m (Phase address) h = phase_keeps (mesh_begun m) address (node_at m address) (updater_at m address) (distributor_at m address) h
event_keeps m (Settle turns) h = tt
event_keeps m (Rows address) h = rows_keep (mesh_begun m) (updater_at m address) (distributor_at m address) h
event_keeps m (PacketLine number) h = shown_keeps (mesh_begun m) number (slice_get m.nodes.bag number) h

-- ---- a `settle`

each_stays : (events : Mesh → ℕ → List MeshOutcome) → ((m : Mesh) (a : ℕ) → AllGrow Any m (events m a)) → (addresses : List ℕ) (m : Mesh) (text : List ℕ) (next : Mesh) → EachComes events addresses m text next → Stays m next
each_stays events grows [] m text next h = subst (λ x. Stays m x) (sym h.1) (stays_same m)
each_stays events grows (a ∷ others) m text next (mid, first, rest, outcome, more, joined) =
    stays_then m mid next (of_all (λ (o : MeshOutcome). Grows Any m o.mesh) (events m a) (record { mesh = mid; text = first }) (grows m a) outcome).stays (each_stays events grows others mid rest next more)

all_stay : (number : ℕ) (m : Mesh) (text : List ℕ) (next : Mesh) → AllComes number m text next → Stays m next
all_stay number m text next (none_left over) = stays_same m
all_stay number m text next (comes {mid = mid} first rest packet at each all) =
    stays_then m mid next (each_stays (given_to number) (λ x a. any_given x number a) (addressees m packet) m first mid each) (all_stay (number + 1) mid rest next all)

turn_stays : (m : Mesh) (text : List ℕ) (next : Mesh) → Turns m text next → Stays m next
turn_stays m text next t =
    let whole : Stays m t.last = stays_then m t.mid t.last (each_stays turn_comes (λ x a. time_grows x a (moment_at x a + turn_time)) m.order m t.first t.mid t.time) (all_stay (length m.nodes.bag) t.mid t.rest t.last t.packets) in
    subst (λ x. Stays m x) (sym t.counted) (record { order = whole.order; nodes = whole.nodes; updaters = whole.updaters; distributors = whole.distributors })

settle_stays : (turns : ℕ) (m : Mesh) (text : List ℕ) (next : Mesh) → Settles turns m text next → Stays m next
settle_stays zero m text next h = subst (λ x. Stays m x) (sym h.1) (stays_same m)
settle_stays (suc turns) m text next (mid, first, rest, turn, more, joined) = stays_then m mid next (turn_stays m first mid turn) (settle_stays turns mid rest next more)

-- ---- runs

moves_keep : (m : Mesh) (event : Event) (text : List ℕ) (next : Mesh) → HasMembers m → MeshMoves m event text next → HasMembers next
moves_keep m (Settle turns) text next h way = members_stay (mesh_begun m) next (settle_stays turns (mesh_begun m) text next way) h
moves_keep m (Node address group pages version content) text next h way = of_all (λ (o : MeshOutcome). HasMembers o.mesh) (mesh_outcomes m (Node address group pages version content)) (record { mesh = next; text = text }) (event_keeps m (Node address group pages version content) h) way
moves_keep m (Old address group pages version content) text next h way = of_all (λ (o : MeshOutcome). HasMembers o.mesh) (mesh_outcomes m (Old address group pages version content)) (record { mesh = next; text = text }) (event_keeps m (Old address group pages version content) h) way
moves_keep m (Pair address group pages version content second_version second) text next h way = of_all (λ (o : MeshOutcome). HasMembers o.mesh) (mesh_outcomes m (Pair address group pages version content second_version second)) (record { mesh = next; text = text }) (event_keeps m (Pair address group pages version content second_version second) h) way
moves_keep m (UpdaterLine address group id ttl base way log chunk version content to) text next h done = of_all (λ (o : MeshOutcome). HasMembers o.mesh) (mesh_outcomes m (UpdaterLine address group id ttl base way log chunk version content to)) (record { mesh = next; text = text }) (event_keeps m (UpdaterLine address group id ttl base way log chunk version content to) h) done
moves_keep m (Distributor address pages) text next h way = of_all (λ (o : MeshOutcome). HasMembers o.mesh) (mesh_outcomes m (Distributor address pages)) (record { mesh = next; text = text }) (event_keeps m (Distributor address pages) h) way
moves_keep m (Stock address version content) text next h way = of_all (λ (o : MeshOutcome). HasMembers o.mesh) (mesh_outcomes m (Stock address version content)) (record { mesh = next; text = text }) (event_keeps m (Stock address version content) h) way
moves_keep m (Say from to payload) text next h way = of_all (λ (o : MeshOutcome). HasMembers o.mesh) (mesh_outcomes m (Say from to payload)) (record { mesh = next; text = text }) (event_keeps m (Say from to payload) h) way
moves_keep m (Deliver number address) text next h way = of_all (λ (o : MeshOutcome). HasMembers o.mesh) (mesh_outcomes m (Deliver number address)) (record { mesh = next; text = text }) (event_keeps m (Deliver number address) h) way
moves_keep m (Time address ms) text next h way = of_all (λ (o : MeshOutcome). HasMembers o.mesh) (mesh_outcomes m (Time address ms)) (record { mesh = next; text = text }) (event_keeps m (Time address ms) h) way
moves_keep m (Cut address) text next h way = of_all (λ (o : MeshOutcome). HasMembers o.mesh) (mesh_outcomes m (Cut address)) (record { mesh = next; text = text }) (event_keeps m (Cut address) h) way
moves_keep m (TearLine address operation pattern) text next h way = of_all (λ (o : MeshOutcome). HasMembers o.mesh) (mesh_outcomes m (TearLine address operation pattern)) (record { mesh = next; text = text }) (event_keeps m (TearLine address operation pattern) h) way
moves_keep m (Active address) text next h way = of_all (λ (o : MeshOutcome). HasMembers o.mesh) (mesh_outcomes m (Active address)) (record { mesh = next; text = text }) (event_keeps m (Active address) h) way
moves_keep m (Phase address) text next h way = of_all (λ (o : MeshOutcome). HasMembers o.mesh) (mesh_outcomes m (Phase address)) (record { mesh = next; text = text }) (event_keeps m (Phase address) h) way
moves_keep m (Rows address) text next h way = of_all (λ (o : MeshOutcome). HasMembers o.mesh) (mesh_outcomes m (Rows address)) (record { mesh = next; text = text }) (event_keeps m (Rows address) h) way
moves_keep m (PacketLine number) text next h way = of_all (λ (o : MeshOutcome). HasMembers o.mesh) (mesh_outcomes m (PacketLine number)) (record { mesh = next; text = text }) (event_keeps m (PacketLine number) h) way

done_keeps : (m : Mesh) (judged : Judged) (text : List ℕ) (next : Mesh) → HasMembers m → IsDone m judged text next → HasMembers next
done_keeps m Silent text next h k = subst HasMembers (sym k.1) h
done_keeps m (Refused place word) text next h k = absurd k
done_keeps m (Sound event) text next h k = moves_keep m event text next h k.1

run_keeps : (m : Mesh) (lines : List (List ℕ)) (text : List ℕ) (end : Mesh) → HasMembers m → MeshRun m lines text end → HasMembers end
run_keeps m [] text end h k = subst HasMembers (sym k.1) h
run_keeps m (line ∷ lines) text end h (next, first, others, step, more, joined) = run_keeps next lines others end (done_keeps m (mesh_judged m line) first next h step.done) more

nobody : HasMembers new_mesh
nobody a there n u d = cc

pub runs_have_members : RunsHaveMembers
runs_have_members lines text m run = run_keeps new_mesh lines text m nobody run
