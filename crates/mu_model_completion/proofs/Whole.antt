-- An update in which nothing is lost, from its beginning to its end; how its blocks go depends on the mode.
use Rattle.std.proofs.Common.{◌≡◌, ◌⊎◌, inl, inr, ◌<◌, ◌≤◌, ◌+◌, ◌-◌, ◌*◌, ◌==◌, ℕ, suc, List, [], ◌∷◌, refl, sym, ap, ◌∙◌, subst, true, false, Bool, Option, Some, None, arith, map, length}
use Rattle.std.specs.Prelude.{◌≢◌, ◌&&◌, ◌||◌, not, if◌then◌else◌}
use Rattle.std.specs.List.{AllByRecursion}
use Rattle.std.proofs.lemmas.Bool.{eq-eqb, eqb-true}
use Rattle.std.proofs.lemmas.Bool.Decides.{nat_tests}
use Rattle.mu_model_image.specs.declared.Meta.{Meta}
use Rattle.mu_model_image.specs.Laws.{MetaIsReadBack, FitIsTested}
use Rattle.mu_model_node.specs.declared.NodeConfig.{NodeConfig}
use Rattle.mu_model_client.specs.declared.Sending.{Sending}
use Rattle.mu_model_client.specs.declared.Plan.{Plan}
use Rattle.mu_model_client.specs.declared.Dropped.{Dropped}
use Rattle.mu_model_client.specs.Rows.{Row as ShownRow}
use Rattle.mu_model_client.specs.Client.{Client, row_of, Update, Before, At, Check, Transfer, block_total, chunk_total}
use Rattle.mu_model_client.specs.Begin.{start, at_first, new_active, purpose_of}
use Rattle.mu_model_client.specs.Told.{held_percent}
use Rattle.mu_model_client_laws.specs.Laws.{KeepsPlan, FieldsAreRead}
use Rattle.mu_model_completion.specs.Turn.{Member, IsUpdater, settle}
use Rattle.mu_model_completion.specs.Completion.{Completed, drop_of, drops_in, drops_at, at_address, rows_at, rows_in, Takes, NoneTwice, CanBegin, sixteens, succeeded}
use Rattle.mu_model_completion.proofs.Planned as pl
use Rattle.mu_model_completion.proofs.Planned.{misses, no_more, some_chunk, has_every}
use Rattle.mu_model_completion.proofs.Pairs.{Pair, receiver_in, IsHere}
use Rattle.mu_model_completion.proofs.Nodes.{Offer}
use Rattle.mu_model_completion.proofs.Receivers.{rcv, all_held}
use Rattle.mu_model_completion.proofs.Stations.{settle_add, Within, client_at}
use Rattle.mu_model_completion.proofs.Asking.{Apart, Misses, configs}
use Rattle.mu_model_completion.proofs.First.{Good}
use Rattle.mu_model_completion.proofs.Pieces.{lacking_from, all_are_held}
use Rattle.mu_model_completion.proofs.Blocks.{Tiles}
use Rattle.mu_model_completion.proofs.Sixteens.{Reaches}
use Rattle.mu_model_completion.proofs.Course.{Reached, First}
use Rattle.mu_model_completion.proofs.Middle.{Between, Ended_blocks}
use Rattle.mu_model_completion.proofs.End.{Final, SomeOver, course, some_always}

-- ---- the pairs of an update that can begin

none_some : (x : Member) → None ≡ Some x → ⊥
none_some x e = grind (arith, e)

or_else : Member → Option Member → Member
or_else z None = z
or_else z (Some w) = w

some_same : (x y : Member) → Some x ≡ Some y → x ≡ y
unfolding or_else
some_same x y h = ap (or_else x) h

found_here : (a : ℕ) (y : Member) (xs : List Member) (x : Member) (here : Bool) → (y.config.address == a) ≡ here → (if here then Some y else at_address a xs) ≡ Some x
    → (at_address a xs ≡ Some x → x.config.address ≡ a) → x.config.address ≡ a
found_here a y xs x true e h rest = ap (λ (z : Member). z.config.address) (sym (some_same y x h)) ∙ eqb-true y.config.address a e
found_here a y xs x false e h rest = rest h

found_address : (a : ℕ) (xs : List Member) (x : Member) → at_address a xs ≡ Some x → x.config.address ≡ a
found_address a [] x h = absurd (none_some x h)
found_address a (y ∷ xs) x h = found_here a y xs x (y.config.address == a) refl h (found_address a xs x)

or_true : (a b : Bool) → b ≡ true → (a || b) ≡ true
or_true true b h = refl
or_true false b h = h

module _ (plan : Plan) (image : List ℕ) (members : List Member) where
  abbrev Takes_ : ℕ → Type 0
  Takes_ a = Takes plan members a

  abbrev pair_of : (a : ℕ) → Takes_ a → Pair
  pair_of a t = record { r = new_active (a, 0); config = t.config; moment = t.moment; n = t.state }

  abbrev pub pairs : (to : List ℕ) → AllByRecursion Takes_ to → List Pair
  pairs [] h = []
  pairs (a ∷ to) h = pair_of a h.0 ∷ pairs to h.1

  address_is : (a : ℕ) (t : Takes_ a) → t.config.address ≡ a
  address_is a t = found_address a members _ t.found

  all_here : (to : List ℕ) (h : AllByRecursion Takes_ to) → AllByRecursion (IsHere members) (pairs to h)
  all_here [] h = tt
  all_here (a ∷ to) h = (record { node = ap (λ z. at_address z members) (address_is a h.0) ∙ h.0.found; receiver = sym (address_is a h.0) }, all_here to h.1)

  receivers_are : (to : List ℕ) (h : AllByRecursion Takes_ to) → map new_active (map (λ a. (a, 0)) to) ≡ map receiver_in (pairs to h)
  receivers_are [] h = refl
  receivers_are (a ∷ to) h = ap (λ rs. new_active (a, 0) ∷ rs) (receivers_are to h.1)

  pairs_length : (to : List ℕ) (h : AllByRecursion Takes_ to) → length (configs (pairs to h)) ≡ length to
  pairs_length [] h = refl
  pairs_length (a ∷ to) h = ap suc (pairs_length to h.1)

  -- ---- apart

  apart_from : (a : ℕ) (t : Takes_ a) (to : List ℕ) (h : AllByRecursion Takes_ to) → AllByRecursion (λ b. a ≢ b) to
      → AllByRecursion (λ (e : NodeConfig). Misses t.config.address e × Misses e.address t.config) (configs (pairs to h))
  apart_from a t [] h k = tt
  apart_from a t (b ∷ to) h k =
      let here : t.config.address ≡ a = address_is a t in
      let there : h.0.config.address ≡ b = address_is b h.0 in (
        (
          subst (λ z. Misses z h.0.config) (sym here) (misses a h.0.config t.unicast (λ e. k.0 (e ∙ there)) h.0.can.some_group),
          subst (λ z. Misses z t.config) (sym there) (misses b t.config h.0.unicast (λ e. k.0 (sym (e ∙ here))) t.can.some_group),
        ),
        apart_from a t to h.1 k.1,
      )

  all_apart : (to : List ℕ) (h : AllByRecursion Takes_ to) → NoneTwice to → Apart (configs (pairs to h))
  all_apart [] h k = tt
  all_apart (a ∷ to) h k = (apart_from a h.0 to h.1 k.0, all_apart to h.1 k.1)

  -- ---- reached

  group_reaches : (c : NodeConfig) → plan.sending.group ≢ 0 → c.group ≡ plan.sending.group → Reaches plan.sending.group c
  group_reaches c some e =
      or_true (plan.sending.group == c.address) (not (c.group == 0) && (plan.sending.group == c.group))
      (ap (λ z. not (z == 0) && (plan.sending.group == z)) e ∙ (ap (λ z. not z && (plan.sending.group == plan.sending.group)) (no_zero plan.sending.group some) ∙ eq-eqb plan.sending.group plan.sending.group refl))
    where
      no_zero : (g : ℕ) → g ≢ 0 → (g == 0) ≡ false
      no_zero g h = grind (arith, nat_tests, h)

  pub all_reached : plan.sending.group ≢ 0 → (to : List ℕ) (h : AllByRecursion Takes_ to) → AllByRecursion (Reaches plan.sending.group) (configs (pairs to h))
  all_reached some [] h = tt
  all_reached some (a ∷ to) h = (group_reaches h.0.config some (its_group h.0.can.in_group), all_reached some to h.1)
    where
      its_group : (plan.sending.group ≡ 0) ⊎ (h.0.config.group ≡ plan.sending.group) → h.0.config.group ≡ plan.sending.group
      its_group (inl e) = absurd (some e)
      its_group (inr e) = e

-- ---- the law

module _ (laws : KeepsPlan) (fields : FieldsAreRead) (tiles : Tiles) (read : MetaIsReadBack) (tested : FitIsTested) (plan : Plan) (image : List ℕ) (to : List ℕ) (members : List Member)
    (from : CanBegin plan image to members) where
  abbrev pub p : Sending
  p = plan.sending

  abbrev pub meta : Meta
  meta = plan.meta

  abbrev pub config : NodeConfig
  config = from.config

  abbrev pub blocks : ℕ
  blocks = pl.blocks tiles read tested plan image from.update

  pub chunk_some : 0 < p.chunk
  chunk_some = pl.chunk_some tiles read tested plan image from.update

  pub whole : length image ≡ p.size
  whole = pl.whole tiles read tested plan image from.update

  pub total_is : block_total p ≡ suc blocks
  total_is = pl.total_is tiles read tested plan image from.update

  pub good : Good p blocks
  good = pl.good tiles read tested plan image from.update

  pub counts : (b : ℕ) → b < suc blocks → (c : ℕ) × (chunk_total p b ≡ suc c)
  counts b lt = pl.counts tiles read tested plan image from.update b lt

  abbrev pub q : ℕ
  q = sixteens (length to)

  pub few : 4 * q < 99
  few = let f = from.few in omega (arith, f)

  ps : List Pair
  ps = pairs plan image members to from.takes

  abbrev pub cs : List NodeConfig
  cs = configs (pairs plan image members to from.takes)

  pub long : length cs ≡ length to
  long = pairs_length plan image members to from.takes

  pub some : 1 ≤ length cs
  some = let l = long in let s = from.some in omega (arith, l, s)

  pub fits : length cs ≤ 16 * q
  fits = let l = long in omega (arith, l)

  pub q_some : 1 ≤ q
  q_some = let s = from.some in omega (arith, s)

  pub apart : Apart cs
  apart = all_apart plan image members to from.takes from.none_twice

  -- ---- the first station

  offer : (a : ℕ) (t : Takes plan members a) → Offer p meta image t.state.durable.capacity t.can.active
  offer a t = pl.offer tiles read tested plan image from.update t.config t.state t.can

  abbrev First_ : Pair → Type 0
  First_ x = First laws fields tiles p meta config image blocks good whole chunk_some cs apart some q few fits q_some x

  first_pair : (a : ℕ) (t : Takes plan members a) → First_ (record { r = new_active (a, 0); config = t.config; moment = t.moment; n = t.state })
  first_pair a t = (
    record { r_is = ap (λ z. rcv z 10 [] [] false) (sym (address_is plan image members a t)) },
    record {
      capacity = t.state.durable.capacity;
      active = t.can.active;
      images = t.can.others;
      offer = offer a t;
      count = t.state.durable.count;
      fresh = t.state.fresh;
      session = t.state.session;
      m = t.state.moment;
      early = t.handed;
      n_is =
          ap (λ job. record { durable = record { count = t.state.durable.count; capacity = t.state.durable.capacity; images = t.state.durable.images; job = job }; fresh = t.state.fresh; session = t.state.session; moment = t.state.moment }) t.can.idle
          ∙ ap (λ images. record { durable = record { count = t.state.durable.count; capacity = t.state.durable.capacity; images = images; job = None }; fresh = t.state.fresh; session = t.state.session; moment = t.state.moment }) t.can.images;
    },
  )

  all_first : (as_ : List ℕ) (h : AllByRecursion (Takes plan members) as_) → AllByRecursion First_ (pairs plan image members as_ h)
  all_first [] h = tt
  all_first (a ∷ rest) h = (first_pair a h.0, all_first rest h.1)

  pub first_station : Reached laws fields tiles p meta config image blocks good whole chunk_some cs apart some q few fits q_some (Before Check) First_ members
  first_station = record {
    qs = pairs plan image members to from.takes;
    station = record {
      now = from.moment;
      began = 0;
      moment = 0;
      early = omega arith;
      holds = record {
        updater = from.updater ∙ ap (λ (c : Client). Some (record { config = config; moment = from.moment; part = IsUpdater c image })) first_client;
        distinct = from.distinct;
        quiet = from.quiet;
        here = all_here plan image members to from.takes;
        receivers = refl;
      };
    };
    all = all_first to from.takes;
    same = refl;
  }
    where
      first_client : start plan (map (λ a. (a, 0)) to) ≡ client_at laws p meta config image (Before Check) [] 0 0 (map receiver_in (pairs plan image members to from.takes))
      first_client =
          ap (λ rs. at_first p (purpose_of plan) rs (Before Check)) (receivers_are plan image members to from.takes)
          ∙ ap (λ apply. at_first p (Update meta apply) (map receiver_in (pairs plan image members to from.takes)) (Before Check)) from.update.apply

  -- ---- the rows at the end

  pub configs_address : (as_ : List ℕ) (h : AllByRecursion (Takes plan members) as_) → map (λ (c : NodeConfig). c.address) (configs (pairs plan image members as_ h)) ≡ as_
  configs_address [] h = refl
  configs_address (a ∷ rest) h = cons_same (address_is plan image members a h.0) (configs_address rest h.1)
    where
      cons_same : {x y : ℕ} {xs ys : List ℕ} → x ≡ y → xs ≡ ys → (x ∷ xs) ≡ (y ∷ ys)
      cons_same e f = rw (e, f) refl

  pub percent : (n : ℕ) → held_percent (lacking_from (suc n) 0) ≡ 100
  percent n = ap held_percent (all_are_held (suc n)) ∙ all_held (suc n) (omega arith)

  abbrev IsOver : List Member → Type 0
  IsOver xs = SomeOver laws fields tiles p meta config image blocks good whole chunk_some cs apart some q few fits q_some xs

  abbrev Final_ : ℕ → Pair → Type 0
  Final_ c x = Final laws fields tiles p meta config image blocks good whole chunk_some cs apart some q few fits q_some c x

  row_is : (c : ℕ) (x : Pair) → Final_ c x → row_of x.r ≡ succeeded x.config.address
  row_is c x h =
      ap row_of h.0.r_is
      ∙ ap (λ progress. record { address = x.config.address; index = 0; phase = 8; update_status = 0; transfer_status = 0; progress = progress }) (percent blocks)

  rows_are : (c : ℕ) (qs : List Pair) → AllByRecursion (Final_ c) qs → map row_of (map receiver_in qs) ≡ map succeeded (map (λ (e : NodeConfig). e.address) (configs qs))
  rows_are c [] h = refl
  rows_are c (x ∷ qs) h = cons_same (row_is c x h.0) (rows_are c qs h.1)
    where
      cons_same : {x y : ShownRow} {xs ys : List ShownRow} → x ≡ y → xs ≡ ys → (x ∷ xs) ≡ (y ∷ ys)
      cons_same e f = rw (e, f) refl

  drops_are : (c : ℕ) (qs : List Pair) → AllByRecursion (Final_ c) qs → map drop_of (map receiver_in qs) ≡ map (λ (a : ℕ). None) (map (λ (e : NodeConfig). e.address) (configs qs))
  drops_are c [] h = refl
  drops_are c (x ∷ qs) h = cons_same (ap drop_of h.0.0.r_is) (drops_are c qs h.1)
    where
      cons_same : {x y : Option Dropped} {xs ys : List (Option Dropped)} → x ≡ y → xs ≡ ys → (x ∷ xs) ≡ (y ∷ ys)
      cons_same e f = rw (e, f) refl

  over_drops : (xs : List Member) → IsOver xs → drops_at config.address xs ≡ Some (map (λ a. None) to)
  over_drops xs o =
      let v = o.over in
      ap drops_in v.station.holds.updater
      ∙ ap Some (drops_are o.c v.qs v.all ∙ ap (map (λ (a : ℕ). None)) (ap (λ es. map (λ (e : NodeConfig). e.address) es) v.same ∙ configs_address to from.takes))

  over_rows : (xs : List Member) → IsOver xs → rows_at config.address xs ≡ Some (map succeeded to)
  over_rows xs o =
      let v = o.over in
      ap rows_in v.station.holds.updater
      ∙ ap Some (rows_are o.c v.qs v.all ∙ ap (map succeeded) (ap (λ es. map (λ (e : NodeConfig). e.address) es) v.same ∙ configs_address to from.takes))

  -- so many turns for the blocks
  pub completes : (m : ℕ)
      → ((ys : List Member) → Reached laws fields tiles p meta config image blocks good whole chunk_some cs apart some q few fits q_some (At Transfer)
      (Between laws fields tiles p meta config image blocks good whole chunk_some cs apart some q few fits q_some 0 (suc blocks)) ys
      → Within m (Ended_blocks laws fields tiles p meta config image blocks good whole chunk_some cs apart some q few fits q_some) ys)
      → (n : ℕ) → 7 * q + m ≤ n → Completed config.address to (settle n members)
  completes m through n le =
      let w = course laws fields tiles p meta config image blocks good whole chunk_some cs apart some q few fits q_some m through members first_station in
      let short = w.few in
      let rest : ℕ = n - w.turns in
      let e : w.turns + rest ≡ n = omega (arith, short, le) in
      let later = some_always laws fields tiles p meta config image blocks good whole chunk_some cs apart some q few fits q_some rest (settle w.turns members) w.then_is in
      let there = (subst (λ k. IsOver (settle k members)) e (subst IsOver (settle_add w.turns rest members) later)) in
      record { rows = over_rows (settle n members) there; drops = over_drops (settle n members) there }
