-- The members of a world in which an updater is about to begin can begin.
use Rattle.std.proofs.Common.{◌≡◌, ◌≤◌, ◌-◌, ℕ, nat_eq, Bool, true, false, List, [], ◌∷◌, length, map, refl, sym, ap, subst, ◌∙◌, arith, Option, Some, None, inl, inr, ◌⊎◌}
use Rattle.std.specs.Prelude.{◌==◌}
use Rattle.std.specs.List.{AllByRecursion, flat_map}
use Rattle.std.proofs.lemmas.Bool.{eqb-true, eq-eqb}
use Rattle.mu_model_image.specs.declared.Meta.{Meta}
use Rattle.mu_model_image.specs.Meta.{IsMeta, meta_octets}
use Rattle.mu_model_image.specs.Laws.{ImagesFit, ImagesHaveMetadata}
use Rattle.mu_model_node.specs.NodeState.{Job}
use Rattle.mu_model_told.specs.Laws.{HasNumbers}
use Rattle.mu_model_client.specs.Begin.{is_ended, start, new_active}
use Rattle.mu_model_client.specs.Rows.{Row}
use Rattle.mu_model_client_laws.specs.Laws.{BeginsSound}
use Rattle.mu_model_updater.specs.Updater.{UpdaterLine, plan_of, updater_of, first_image}
use Rattle.mu_model_world.specs.World as w
use Rattle.mu_model_world.specs.World.{config_of}
use Rattle.mu_model_mesh.specs.Mesh.{UpdaterMember, DistributorMember, Mesh, node_at, updater_at, distributor_at}
use Rattle.mu_model_mesh.specs.MeshOutcomes.{mesh_begun}
use Rattle.mu_model_completion.specs.Completion as typed
use Rattle.mu_model_completion.specs.Completion.{at_address, rows_at, drops_at, IsQuiet, IsUpdate, NoneTwice, CanBegin, push_turns, applying, succeeded, PushCompletes, PushTakesAll, PullCompletes, PushDropsNobody, PullDropsNobody}
use Rattle.mu_model_completion.specs.Turn.{Member, IsNode, IsUpdater, settle}
use Rattle.mu_model_mesh_completion.proofs.Apart.{true_false}
use Rattle.mu_model_mesh_completion.specs.Settled as settled
use Rattle.mu_model_mesh_completion.specs.Settled.{JobHasMessages, IsWorld, IsLine, CanSettle, DropsNobody}
use Rattle.mu_model_mesh_completion.specs.Laws.{SettlesTo, PushSettles, PushSettlesNoSooner, PullSettles, PushSettleDropsNobody, PullSettleDropsNobody}
use Rattle.mu_model_mesh_completion.proofs.Shown.{JobFits}
use Rattle.mu_model_mesh_completion.proofs.Nodes.{NodeFits}
use Rattle.mu_model_mesh_completion.proofs.Asks.{SendingFits, Indexes, ClientFits}
use Rattle.mu_model_mesh_completion.proofs.Members.{AllLaws, MemberFits}
use Rattle.mu_model_mesh_completion.proofs.Aims.{AimLaws, addresses_of, ClientAims, MemberAims}
use Rattle.mu_model_mesh_completion.proofs.Worlds.{members_by, member_of, members}
use Rattle.mu_model_mesh_completion.proofs.Happens.{Wire}
use Rattle.mu_model_mesh_completion.proofs.Each.{all_joined}
use Rattle.mu_model_mesh_completion.proofs.Turns.{Here, settles}
use Rattle.mu_model_mesh_completion.proofs.Ends.{found, distinct, Rows, rows_there, drops_there}

-- on destinations
pub record Aiming : Type 0 where
  pub laws : AimLaws
  pub begins : BeginsSound

-- ---- what the line says

pub record Images : Type 0 where
  pub fit : ImagesFit
  pub metadata : ImagesHaveMetadata

line_meta : Images → (line : UpdaterLine) → IsLine line → IsMeta (plan_of line).meta
line_meta images line h = images.metadata line.version line.content (omega (arith, h.content_least)) (omega (arith, h.content_most)) h.version

meta_length : (meta : Meta) → length meta.digest ≡ 32 → length (meta_octets meta) ≤ 255
meta_length meta h = omega (arith, h)

sending_fits : Images → (line : UpdaterLine) → IsLine line → SendingFits (plan_of line).sending (updater_of line).client.purpose line.content
sending_fits images line h = record {
  id = omega (arith, h.address, h.id);
  ttl = h.ttl;
  base = h.base;
  mode_least = h.mode_least;
  mode_most = h.mode_most;
  log_least = h.log_least;
  log_most = h.log_most;
  chunk_least = h.chunk_least;
  chunk_most = h.chunk_most;
  size_least = h.content_least;
  size_most = h.content_most;
  whole = refl;
  metadata = meta_length (plan_of line).meta (line_meta images line h).digest_length;
}

first_indexes : (to : List ℕ) → Indexes (map new_active (map first_image to))
first_indexes [] = tt
first_indexes (a ∷ to) = (omega arith, first_indexes to)

pub begins_fit : Images → (line : UpdaterLine) → IsLine line → ClientFits (updater_of line).client line.content
begins_fit images line h = record { sending = sending_fits images line h; indexes = first_indexes line.receivers; queue = tt; place = tt }

is_update : Images → (line : UpdaterLine) → IsLine line → IsUpdate (plan_of line) line.content
is_update images line h = record {
  log_least = h.log_least;
  log_most = h.log_most;
  chunk_least = h.chunk_least;
  chunk_most = h.chunk_most;
  size = refl;
  meta = line_meta images line h;
  fit = images.fit line.version line.content;
  apply = refl;
}

-- ---- members

job_fits : (job : Option Job) → HasNumbers job → JobHasMessages job → JobFits job
job_fits None h k = tt
job_fits (Some j) h k = (h, k)

node_fits : (a : ℕ) (n : w.Member) → settled.IsNode a n → NodeFits n.state
node_fits a n h = record { sound = h.state; ranges = record { job = job_fits n.state.durable.job h.numbers h.messages; last = h.last } }

updater_fits : Images → (line : UpdaterLine) (m : Mesh) → IsWorld m → IsLine line → CanSettle line m → (a : ℕ) (u : UpdaterMember) → updater_at m a ≡ Some u → (t : Bool) → nat_eq a line.address ≡ t
    → (is_ended u.updater.client.place ≡ true) ⊎ ClientFits u.updater.client u.updater.image.octets
updater_fits images line m world range can a u at true t =
    let same : a ≡ line.address = eqb-true a line.address t in
    let own : updater_at m a ≡ Some (record { moment = can.moment; updater = updater_of line }) = subst (λ b. updater_at m b ≡ Some (record { moment = can.moment; updater = updater_of line })) (sym same) can.updater in
    let is : record { moment = can.moment; updater = updater_of line } ≡ u = cc in
    inr (subst (λ (x : UpdaterMember). ClientFits x.updater.client x.updater.image.octets) is (begins_fit images line range))
updater_fits images line m world range can a u at false t =
    inl (can.ended a u (λ e. true_false (sym (eq-eqb a line.address e) ∙ t)) at)

member_fits : Images → (line : UpdaterLine) (m : Mesh) → IsWorld m → IsLine line → CanSettle line m → (a : ℕ) (n : Option w.Member) (u : Option UpdaterMember) → node_at m a ≡ n → updater_at m a ≡ u
    → AllByRecursion MemberFits (members_by a n u)
member_fits images line m world range can a (Some n) u at up = (node_fits a n (world.nodes a n at), tt)
member_fits images line m world range can a None (Some u) at up = (((world.updaters a u up).0, updater_fits images line m world range can a u up (nat_eq a line.address) refl), tt)
member_fits images line m world range can a None None at up = tt

members_fit : Images → (line : UpdaterLine) (m : Mesh) → IsWorld m → IsLine line → CanSettle line m → (bs : List ℕ) → AllByRecursion MemberFits (flat_map (member_of m) bs)
members_fit images line m world range can [] = tt
members_fit images line m world range can (b ∷ bs) =
    all_joined MemberFits (member_of m b) (flat_map (member_of m) bs) (member_fits images line m world range can b (node_at m b) (updater_at m b) refl refl) (members_fit images line m world range can bs)

-- ---- requests go where no distributor is

abbrev pub NoDistributorAt : Mesh → ℕ → Type 0
NoDistributorAt m b = distributor_at m b ≡ None

node_alone_by : (m : Mesh) → IsWorld m → (a : ℕ) (n : w.Member) → node_at m a ≡ Some n → (o : Option DistributorMember) → distributor_at m a ≡ o → o ≡ None
node_alone_by m world a n at None e = refl
node_alone_by m world a n at (Some d) e =
    let none : node_at m a ≡ None = (world.distributors a d e).1 in
    cc

node_alone : (m : Mesh) → IsWorld m → (a : ℕ) (n : w.Member) → node_at m a ≡ Some n → NoDistributorAt m a
node_alone m world a n at = node_alone_by m world a n at (distributor_at m a) refl

receivers_alone : (line : UpdaterLine) (m : Mesh) → IsWorld m → (to : List ℕ) → AllByRecursion (settled.Takes line m) to → AllByRecursion (NoDistributorAt m) (addresses_of (NoDistributorAt m) (map new_active (map first_image to)))
receivers_alone line m world [] h = tt
receivers_alone line m world (a ∷ to) h = (node_alone m world a h.0.node h.0.found, receivers_alone line m world to h.1)

group_alone_by : (m : Mesh) → IsWorld m → (g : ℕ) → (g ≡ 0) ⊎ (0xC000 ≤ g) → (g == 0) ≡ false → (o : Option DistributorMember) → distributor_at m g ≡ o → o ≡ None
group_alone_by m world g some other None e = refl
group_alone_by m world g (inl none) other (Some d) e = absurd (true_false (sym (eq-eqb g 0 none) ∙ other))
group_alone_by m world g (inr above) other (Some d) e = let below = (world.distributors g d e).0 in absurd (omega (arith, above, below))

updater_aims : BeginsSound → (line : UpdaterLine) (m : Mesh) → IsWorld m → IsLine line → CanSettle line m → ClientAims (NoDistributorAt m) (updater_of line).client line.content
updater_aims begins line m world range can = record {
  addresses = receivers_alone line m world line.receivers can.takes;
  group = λ other. group_alone_by m world line.group range.some_group other (distributor_at m line.group) refl;
  queue = tt;
  sound = begins.starts (plan_of line) (map first_image line.receivers);
}

aims_by : BeginsSound → (line : UpdaterLine) (m : Mesh) → IsWorld m → IsLine line → CanSettle line m → (a : ℕ) (u : UpdaterMember) → updater_at m a ≡ Some u → (t : Bool) → nat_eq a line.address ≡ t
    → (is_ended u.updater.client.place ≡ true) ⊎ ClientAims (NoDistributorAt m) u.updater.client u.updater.image.octets
aims_by begins line m world range can a u at true t =
    let same : a ≡ line.address = eqb-true a line.address t in
    let own : updater_at m a ≡ Some (record { moment = can.moment; updater = updater_of line }) = subst (λ b. updater_at m b ≡ Some (record { moment = can.moment; updater = updater_of line })) (sym same) can.updater in
    let is : record { moment = can.moment; updater = updater_of line } ≡ u = cc in
    inr (subst (λ (x : UpdaterMember). ClientAims (NoDistributorAt m) x.updater.client x.updater.image.octets) is (updater_aims begins line m world range can))
aims_by begins line m world range can a u at false t =
    inl (can.ended a u (λ e. true_false (sym (eq-eqb a line.address e) ∙ t)) at)

member_aims : BeginsSound → (line : UpdaterLine) (m : Mesh) → IsWorld m → IsLine line → CanSettle line m → (a : ℕ) (n : Option w.Member) (u : Option UpdaterMember) → updater_at m a ≡ u → AllByRecursion (MemberAims (NoDistributorAt m)) (members_by a n u)
member_aims begins line m world range can a (Some n) u up = (tt, tt)
member_aims begins line m world range can a None (Some u) up = (aims_by begins line m world range can a u up (nat_eq a line.address) refl, tt)
member_aims begins line m world range can a None None up = tt

members_aim : BeginsSound → (line : UpdaterLine) (m : Mesh) → IsWorld m → IsLine line → CanSettle line m → (bs : List ℕ) → AllByRecursion (MemberAims (NoDistributorAt m)) (flat_map (member_of m) bs)
members_aim begins line m world range can [] = tt
members_aim begins line m world range can (b ∷ bs) =
    all_joined (MemberAims (NoDistributorAt m)) (member_of m b) (flat_map (member_of m) bs) (member_aims begins line m world range can b (node_at m b) (updater_at m b) refl) (members_aim begins line m world range can bs)

pub here : Images → BeginsSound → (line : UpdaterLine) (m : Mesh) → IsWorld m → IsLine line → CanSettle line m → Here (NoDistributorAt m) (mesh_begun m) (members m)
here images begins line m world range can = record {
  is = refl;
  stable = record { at_rest = can.at_rest; no_tear = can.no_tear };
  once = world.once;
  fits = members_fit images line m world range can m.order;
  aims = members_aim begins line m world range can m.order;
  no_distributor = λ b d. d;
}

-- ---- all but the updater are quiet

abbrev QuietBut : ℕ → Member → Type 0
QuietBut u x = (x.config.address == u) ≡ false → IsQuiet x.part

member_quiet : (line : UpdaterLine) (m : Mesh) → CanSettle line m → (a : ℕ) (n : Option w.Member) (u : Option UpdaterMember) → updater_at m a ≡ u → AllByRecursion (QuietBut line.address) (members_by a n u)
member_quiet line m can a (Some n) u up = ((λ e. tt), tt)
member_quiet line m can a None (Some u) up = ((λ e. can.ended a u (λ is. true_false (sym (eq-eqb a line.address is) ∙ e)) up), tt)
member_quiet line m can a None None up = tt

all_quiet : (line : UpdaterLine) (m : Mesh) → CanSettle line m → (bs : List ℕ) → AllByRecursion (QuietBut line.address) (flat_map (member_of m) bs)
all_quiet line m can [] = tt
all_quiet line m can (b ∷ bs) = all_joined (QuietBut line.address) (member_of m b) (flat_map (member_of m) bs) (member_quiet line m can b (node_at m b) (updater_at m b) refl) (all_quiet line m can bs)

-- ---- receivers

takes : (line : UpdaterLine) (m : Mesh) → IsWorld m → (a : ℕ) → settled.Takes line m a → typed.Takes (plan_of line) (members m) a
takes line m world a h =
    let n : w.Member = h.node in
    let node = world.nodes a n h.found in
    record {
      config = config_of a n;
      moment = n.moment;
      state = n.state;
      found = found m a m.order (record { config = config_of a n; moment = n.moment; part = IsNode n.state }) (ap (λ (x : Option w.Member). members_by a x (updater_at m a)) h.found) refl h.member;
      handed = node.handed;
      can = record {
        idle = h.idle;
        active = h.active;
        others = h.others;
        images = h.images;
        older = h.older;
        room = h.room;
        some_group = node.some_group;
        in_group = h.in_group;
      };
      unicast = node.unicast;
    }

all_take : (line : UpdaterLine) (m : Mesh) → IsWorld m → (to : List ℕ) → AllByRecursion (settled.Takes line m) to → AllByRecursion (typed.Takes (plan_of line) (members m)) to
all_take line m world [] h = tt
all_take line m world (a ∷ to) h = (takes line m world a h.0, all_take line m world to h.1)

-- ---- the beginning

can_begin : Images → (line : UpdaterLine) (to : List ℕ) → line.receivers ≡ to → (m : Mesh) → IsWorld m → IsLine line → CanSettle line m → CanBegin (plan_of line) line.content to (members m)
can_begin images line to is m world range can =
    let nobody_there : node_at m line.address ≡ None = (world.updaters line.address (record { moment = can.moment; updater = updater_of line }) can.updater).1 in
    let own : Member = record { config = record { address = line.address; group = 0 }; moment = can.moment; part = IsUpdater (updater_of line).client line.content } in
    let found_there : at_address line.address (members m) ≡ Some own =
    found m line.address m.order own
    (ap (λ (x : Option w.Member). members_by line.address x (updater_at m line.address)) nobody_there ∙ ap (λ (x : Option UpdaterMember). members_by line.address None x) can.updater)
    refl can.member in
    record {
      update = is_update images line range;
      config = record { address = line.address; group = 0 };
      moment = can.moment;
      from = refl;
      updater = found_there ∙ ap (λ (xs : List ℕ). Some (record { config = record { address = line.address; group = 0 }; moment = can.moment; part = IsUpdater (start (plan_of line) (map first_image xs)) line.content })) is;
      distinct = distinct m m.order world.once;
      quiet = all_quiet line m can m.order;
      some = subst (λ (xs : List ℕ). 1 ≤ length xs) is range.some;
      few = subst (λ (xs : List ℕ). length xs ≤ 128) is range.few;
      none_twice = subst NoneTwice is range.none_twice;
      takes = all_take line m world to (subst (λ (xs : List ℕ). AllByRecursion (settled.Takes line m) xs) is can.takes);
    }

module _ (laws : AllLaws) (wire : Wire) (images : Images) (aim : Aiming) (line : UpdaterLine) (m next : Mesh) (text : List ℕ) (turns : ℕ) (world : IsWorld m) (range : IsLine line) (can : CanSettle line m) (s : SettlesTo turns m text next) where
  came : members next ≡ settle turns (members m)
  came = (settles laws wire (NoDistributorAt m) aim.laws turns (mesh_begun m) text next (members m) (here images aim.begins line m world range can) s).is

  shows : (shown : List Row) → rows_at line.address (settle turns (members m)) ≡ Some shown → Rows line next shown
  shows shown r = rows_there line next shown (at_address line.address (members next)) refl (ap (λ (xs : List Member). rows_at line.address xs) came ∙ r)

  nobody_dropped : drops_at line.address (settle turns (members m)) ≡ Some (map (λ a. None) line.receivers) → DropsNobody line next
  nobody_dropped d = drops_there line next (at_address line.address (members next)) refl (ap (λ (xs : List Member). drops_at line.address xs) came ∙ d)

-- ---- push

pub push_settles : AllLaws → Wire → Images → Aiming → PushCompletes → PushSettles
unfolding can_begin
push_settles laws wire images aim law line m next text turns world range can mode enough s =
    let done = law (plan_of line) line.content line.receivers (members m) (can_begin images line line.receivers refl m world range can) mode turns enough in
    let r = shows laws wire images aim line m next text turns world range can s (map succeeded line.receivers) done.rows in
    record { member = r.member; found = r.found; rows = r.rows }

pub push_settles_no_sooner : AllLaws → Wire → Images → Aiming → PushTakesAll → PushSettlesNoSooner
unfolding can_begin
push_settles_no_sooner laws wire images aim law line m next text world range can mode group few full s =
    let rows = law (plan_of line) line.content line.receivers (members m) (can_begin images line line.receivers refl m world range can) mode group few full in
    let r = shows laws wire images aim line m next text (push_turns (plan_of line).sending (length line.receivers) - 1) world range can s (map applying line.receivers) rows in
    record { member = r.member; found = r.found; rows = r.rows }

pub push_drops_nobody : AllLaws → Wire → Images → Aiming → PushDropsNobody → PushSettleDropsNobody
unfolding can_begin
push_drops_nobody laws wire images aim law line m next text turns world range can mode s =
    nobody_dropped laws wire images aim line m next text turns world range can s (law (plan_of line) line.content line.receivers (members m) (can_begin images line line.receivers refl m world range can) mode turns)

-- ---- pull

pub pull_settles : AllLaws → Wire → Images → Aiming → PullCompletes → PullSettles
unfolding can_begin
pull_settles laws wire images aim law line to m next text turns world range can mode one enough s =
    let done = law (plan_of line) line.content to (members m) (can_begin images line (to ∷ []) one m world range can) mode turns enough in
    let r = shows laws wire images aim line m next text turns world range can s (map succeeded line.receivers) (done.rows ∙ ap (λ (xs : List ℕ). Some (map succeeded xs)) (sym one)) in
    record { member = r.member; found = r.found; rows = r.rows }

pub pull_drops_nobody : AllLaws → Wire → Images → Aiming → PullDropsNobody → PullSettleDropsNobody
unfolding can_begin
pull_drops_nobody laws wire images aim law line to m next text turns world range can mode one s =
    nobody_dropped laws wire images aim line m next text turns world range can s
    (law (plan_of line) line.content to (members m) (can_begin images line (to ∷ []) one m world range can) mode turns ∙ ap (λ (xs : List ℕ). Some (map (λ a. None) xs)) (sym one))
