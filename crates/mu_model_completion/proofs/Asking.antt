-- A step in which each receiver is asked once: it takes as many turns as there are sixteens of receivers, rounded up.
use Rattle.std.proofs.Common.{◌≡◌, ◌⊎◌, inl, inr, ◌<◌, ◌≤◌, ◌+◌, ◌*◌, ◌==◌, ℕ, zero, suc, List, [], ◌∷◌, ◌++◌, refl, sym, ap, ◌∙◌, subst, true, false, Bool, Option, Some, None, arith, map, length, take, drop, length-drop}
use Rattle.std.specs.Prelude.{◌&&◌, ◌||◌, not}
use Rattle.std.specs.List.{list_any, AllByRecursion}
use Rattle.std.proofs.lemmas.Bool.{eq-eqb}
use Rattle.mu_model_image.specs.declared.Meta.{Meta}
use Rattle.mu_model_node.specs.declared.NodeConfig.{NodeConfig}
use Rattle.mu_model_node.specs.NodeMessages.{Request}
use Rattle.mu_model_node.specs.Events.{at_moment, on_request}
use Rattle.mu_model_client.specs.declared.Sending.{Sending}
use Rattle.mu_model_client.specs.Client.{Client, Receiver, Item, Says, Sends, Update, Place, At, Step, is_pending}
use Rattle.mu_model_client.specs.Lists as l
use Rattle.mu_model_client.specs.Lists.{messages, step_message, sent_for}
use Rattle.mu_model_client.specs.Due as d
use Rattle.mu_model_client_laws.specs.Laws.{KeepsPlan}
use Rattle.mu_model_completion.specs.Turn.{Member, asked_by, turn}
use Rattle.mu_model_completion.proofs.Pairs.{Pair, receiver_in, answered_by, pair_if, pair_item, pair_items, pair_time, items_config}
use Rattle.mu_model_completion.proofs.Receivers.{view}
use Rattle.mu_model_completion.proofs.Stations.{Within, at_once, by_turn, client_at, Station, sent_all, turn_in, turn_rest, begins, first_items, turn_next}

-- ---- who is reached

-- a packet to an address misses a node
abbrev pub Misses : ℕ → NodeConfig → Type 0
Misses to c = ((to == c.address) || (not (c.group == 0) && (to == c.group))) ≡ false

abbrev pub configs : List Pair → List NodeConfig
configs ps = map (λ (x : Pair). x.config) ps

-- a packet to one node's address misses the others
abbrev pub Apart : List NodeConfig → Type 0
Apart [] = Unit {0}
Apart (c ∷ cs) = AllByRecursion (λ (e : NodeConfig). Misses c.address e × Misses e.address c) cs × Apart cs

abbrev pub is_to : Item → ℕ
is_to (Says to request) = to
is_to (Sends to b k) = to

-- a step in which waiting pairs are asked this, and answer; the number of turns since it began is counted
pub record Asking (p : Sending) (meta : Meta) (u : ℕ) (step : Step) (request : Request) (W D : ℕ → Pair → Type 0) (most : ℕ) : Type 0 where
  pub waits : (j : ℕ) (x : Pair) → W j x → x.r.pending ≡ true
  pub is_done : (j : ℕ) (x : Pair) → D j x → x.r.pending ≡ false
  pub place : (j : ℕ) (x : Pair) → W j x → x.r.row.address ≡ x.config.address
  pub message : (j : ℕ) (x : Pair) → W j x → step_message p (Update meta true) step x.r ≡ Some request
  pub time_waits : (j : ℕ) (x : Pair) → j < most → W j x → W (suc j) (pair_time (view p meta step) u x) × ((pair_time (view p meta step) u x).r ≡ x.r)
  pub time_done : (j : ℕ) (x : Pair) → j < most → D j x → D (suc j) (pair_time (view p meta step) u x) × ((pair_time (view p meta step) u x).r ≡ x.r)
  pub asked : (j : ℕ) (x : Pair) → W (suc j) x → D (suc j) (answered_by (view p meta step) u x (on_request (at_moment x.n x.moment) u request))
  pub counts : (c : Client) → d.is_done c step ≡ not (list_any is_pending c.receivers)

all_take : {A : Type 0} (P : A → Type 0) (k : ℕ) (xs : List A) → AllByRecursion P xs → AllByRecursion P (take k xs)
all_take P zero xs h = tt
all_take P (suc k) [] h = tt
all_take P (suc k) (x ∷ xs) h = (h.0, all_take P k xs h.1)

all_append : {A : Type 0} (P : A → Type 0) (xs ys : List A) → AllByRecursion P xs → AllByRecursion P ys → AllByRecursion P (xs ++ ys)
all_append P [] ys h k = k
all_append P (x ∷ xs) ys h k = (h.0, all_append P xs ys h.1 k)

module _ (laws : KeepsPlan) (p : Sending) (meta : Meta) (config : NodeConfig) (image : List ℕ) (step : Step) where
  abbrev u : ℕ
  u = config.address

  abbrev items_at : List Item → Pair → Pair
  items_at items x = pair_items (view p meta step) u (sent_all laws p meta config image items) x

  -- ---- a pair that no packet reaches

  pub unaffected : (items : List Item) (x : Pair) → AllByRecursion (λ (i : Item). Misses (is_to i) x.config) items → items_at items x ≡ x
  unaffected [] x h = refl
  unaffected (Says to request ∷ items) x h =
      ap (λ b. items_at items (pair_if (view p meta step) u (asked_by u (to, request)) x b)) h.0 ∙ unaffected items x h.1
  unaffected (Sends to b k ∷ items) x h =
      ap (λ c. items_at items (pair_if (view p meta step) u (asked_by u (sent_for p image (Sends to b k))) x c)) h.0 ∙ unaffected items x h.1

  pub all_configs : (items : List Item) (ps : List Pair) → configs (map (items_at items) ps) ≡ configs ps
  all_configs items [] = refl
  all_configs items (x ∷ ps) = cons_same (items_config (view p meta step) u (sent_all laws p meta config image items) x) (all_configs items ps)
    where
      cons_same : {x y : NodeConfig} {xs ys : List NodeConfig} → x ≡ y → xs ≡ ys → (x ∷ xs) ≡ (y ∷ ys)
      cons_same e f = rw (e, f) refl

  pub time_configs : (ps : List Pair) → configs (map (pair_time (view p meta step) u) ps) ≡ configs ps
  time_configs [] = refl
  time_configs (x ∷ ps) = ap (λ cs. x.config ∷ cs) (time_configs ps)

  map_nothing : (ps : List Pair) → map (items_at []) ps ≡ ps
  map_nothing [] = refl
  map_nothing (x ∷ ps) = ap (λ ys. x ∷ ys) (map_nothing ps)

  module _ (request : Request) (W D : ℕ → Pair → Type 0) (most : ℕ) (a : Asking p meta u step request W D most) where
    abbrev pub Is : ℕ → Pair → Type 0
    Is j x = W j x ⊎ D j x

    abbrev pub says : List Pair → List Item
    says ps = messages (step_message p (Update meta true) step) (map receiver_in ps)

    -- ---- the messages to those that wait

    said_waiting : (j : ℕ) (x : Pair) → W j x → l.said_if x.r (step_message p (Update meta true) step x.r) x.r.pending ≡ Says x.config.address request ∷ []
    said_waiting j x w =
        ap (λ m. l.said_if x.r m x.r.pending) (a.message j x w)
        ∙ (ap (λ b. l.said_if x.r (Some request) b) (a.waits j x w) ∙ ap (λ to. Says to request ∷ []) (a.place j x w))

    said_done : (j : ℕ) (x : Pair) → D j x → l.said_if x.r (step_message p (Update meta true) step x.r) x.r.pending ≡ []
    said_done j x h = ap (λ b. l.said_if x.r (step_message p (Update meta true) step x.r) b) (a.is_done j x h)

    says_waiting : (j : ℕ) (x : Pair) (ps : List Pair) → W j x → says (x ∷ ps) ≡ Says x.config.address request ∷ says ps
    says_waiting j x ps w = ap (λ items. items ++ says ps) (said_waiting j x w)

    says_done : (j : ℕ) (x : Pair) (ps : List Pair) → D j x → says (x ∷ ps) ≡ says ps
    says_done j x ps h = ap (λ items. items ++ says ps) (said_done j x h)

    says_miss : (j : ℕ) (c : NodeConfig) (ps : List Pair) → AllByRecursion (Is j) ps → AllByRecursion (λ (e : NodeConfig). Misses e.address c) (configs ps)
        → AllByRecursion (λ (i : Item). Misses (is_to i) c) (says ps)
    says_miss j c [] h k = tt
    says_miss j c (x ∷ ps) h k = elim h.0 [
      | inl w ↦ subst (λ items. AllByRecursion (λ (i : Item). Misses (is_to i) c) items) (sym (says_waiting j x ps w)) (k.0, says_miss j c ps h.1 k.1)
      | inr e ↦ subst (λ items. AllByRecursion (λ (i : Item). Misses (is_to i) c) items) (sym (says_done j x ps e)) (says_miss j c ps h.1 k.1)
    ]

    second : (c : NodeConfig) (cs : List NodeConfig) → AllByRecursion (λ (e : NodeConfig). Misses c.address e × Misses e.address c) cs → AllByRecursion (λ (e : NodeConfig). Misses e.address c) cs
    second c [] h = tt
    second c (e ∷ cs) h = (h.0.1, second c cs h.1)

    -- the first packet, to another, leaves them as they are
    others_same : (c : NodeConfig) (items : List Item) (ps : List Pair) → AllByRecursion (λ (e : NodeConfig). Misses c.address e × Misses e.address c) (configs ps)
        → map (items_at (Says c.address request ∷ items)) ps ≡ map (items_at items) ps
    others_same c items [] h = refl
    others_same c items (y ∷ ps) h =
        cons_same (ap (λ b. items_at items (pair_if (view p meta step) u (asked_by u (c.address, request)) y b)) h.0.0) (others_same c items ps h.1)
      where
        cons_same : {x y : Pair} {xs ys : List Pair} → x ≡ y → xs ≡ ys → (x ∷ xs) ≡ (y ∷ ys)
        cons_same e f = rw (e, f) refl

    -- ---- so many are asked

    pub record AfterAsked (j : ℕ) (list : List Item) (k : ℕ) (ps : List Pair) : Type 0 where
      all : AllByRecursion (Is j) (map (items_at (take k list)) ps)
      rest : says (map (items_at (take k list)) ps) ≡ drop k list

    reaches : (to : ℕ) (c : NodeConfig) → to ≡ c.address → ((to == c.address) || (not (c.group == 0) && (to == c.group))) ≡ true
    reaches to c e = ap (λ b. b || (not (c.group == 0) && (to == c.group))) (eq-eqb to c.address e)

    asks_first : (j : ℕ) (x : Pair) → W (suc j) x → D (suc j) (pair_item (view p meta step) u (asked_by u (x.config.address, request)) x)
    asks_first j x w = subst (λ b. D (suc j) (pair_if (view p meta step) u (asked_by u (x.config.address, request)) x b)) (sym (reaches x.config.address x.config refl)) (a.asked j x w)

    -- the first one waits
    module _ (j : ℕ) (x : Pair) (ps : List Pair) (w : W (suc j) x) (rest : (k : ℕ) → AfterAsked (suc j) (says ps) k ps)
        (h : AllByRecursion (Is (suc j)) ps) (apart : Apart (x.config ∷ configs ps)) where
      abbrev next : Pair
      next = pair_item (view p meta step) u (asked_by u (x.config.address, request)) x

      first_waits : (k : ℕ) → AfterAsked (suc j) (Says x.config.address request ∷ says ps) k (x ∷ ps)
      first_waits zero = record {
        all = (inl w, subst (AllByRecursion (Is (suc j))) (sym (map_nothing ps)) h);
        rest = ap says (ap (λ ys. x ∷ ys) (map_nothing ps)) ∙ says_waiting (suc j) x ps w;
      }
      first_waits (suc k) =
          let later : Pair = items_at (take k (says ps)) next in
          let stays : next.config ≡ x.config = items_config (view p meta step) u (asked_by u (x.config.address, request) ∷ []) x in
          let missed : AllByRecursion (λ (i : Item). Misses (is_to i) next.config) (take k (says ps)) =
          subst (λ c. AllByRecursion (λ (i : Item). Misses (is_to i) c) (take k (says ps))) (sym stays)
          (all_take (λ (i : Item). Misses (is_to i) x.config) k (says ps) (says_miss (suc j) x.config ps h (second x.config (configs ps) apart.0))) in
          let as_next : later ≡ next = unaffected (take k (says ps)) next missed in
          let d_next : D (suc j) later = subst (D (suc j)) (sym as_next) (asks_first j x w) in
          let r = rest k in
          let same : map (items_at (Says x.config.address request ∷ take k (says ps))) ps ≡ map (items_at (take k (says ps))) ps = others_same x.config (take k (says ps)) ps apart.0 in
          record {
            all = (inr d_next, subst (AllByRecursion (Is (suc j))) (sym same) r.all);
            rest = ap (λ ys. says (later ∷ ys)) same ∙ (says_done (suc j) later (map (items_at (take k (says ps))) ps) d_next ∙ r.rest);
          }

    first_done : (j : ℕ) (x : Pair) (ps : List Pair) (k : ℕ) → D (suc j) x → AfterAsked (suc j) (says ps) k ps
        → AllByRecursion (λ (i : Item). Misses (is_to i) x.config) (says ps) → AfterAsked (suc j) (says ps) k (x ∷ ps)
    first_done j x ps k e r missed =
        let as_it : items_at (take k (says ps)) x ≡ x = unaffected (take k (says ps)) x (all_take (λ (i : Item). Misses (is_to i) x.config) k (says ps) missed) in
        record {
          all = (inr (subst (D (suc j)) (sym as_it) e), r.all);
          rest = ap (λ y. says (y ∷ map (items_at (take k (says ps))) ps)) as_it ∙ (says_done (suc j) x (map (items_at (take k (says ps))) ps) e ∙ r.rest);
        }

    pub many : (j : ℕ) (ps : List Pair) (k : ℕ) → AllByRecursion (Is (suc j)) ps → Apart (configs ps) → AfterAsked (suc j) (says ps) k ps
    many j [] zero h apart = record { all = tt; rest = refl }
    many j [] (suc k) h apart = record { all = tt; rest = refl }
    many j (x ∷ ps) k h apart = elim h.0 [
      | inl w ↦ subst (λ list. AfterAsked (suc j) list k (x ∷ ps)) (sym (says_waiting (suc j) x ps w)) (first_waits j x ps w (λ i. many j ps i h.1 apart.1) h.1 apart k)
      | inr e ↦ subst (λ list. AfterAsked (suc j) list k (x ∷ ps)) (sym (says_done (suc j) x ps e))
          (first_done j x ps k e (many j ps k h.1 apart.1) (says_miss (suc j) x.config ps h.1 (second x.config (configs ps) apart.0)))
    ]

    -- ---- a turn

    timed : (j : ℕ) (ps : List Pair) → j < most → AllByRecursion (Is j) ps
        → AllByRecursion (Is (suc j)) (map (pair_time (view p meta step) u) ps) × (map receiver_in (map (pair_time (view p meta step) u) ps) ≡ map receiver_in ps)
    timed j [] lt h = (tt, refl)
    timed j (x ∷ ps) lt h =
        let rest = timed j ps lt h.1 in
        elim h.0 [
          | inl w ↦ (let t = a.time_waits j x lt w in ((inl t.0, rest.0), cons_same t.1 rest.1))
          | inr e ↦ (let t = a.time_done j x lt e in ((inr t.0, rest.0), cons_same t.1 rest.1))
        ]
      where
        cons_same : {x y : Receiver} {xs ys : List Receiver} → x ≡ y → xs ≡ ys → (x ∷ xs) ≡ (y ∷ ys)
        cons_same e f = rw (e, f) refl

    fused : (items : List Item) (ps : List Pair) → map (turn_in laws p meta config image step items) ps ≡ map (items_at items) (map (pair_time (view p meta step) u) ps)
    fused items [] = refl
    fused items (x ∷ ps) = ap (λ ys. turn_in laws p meta config image step items x ∷ ys) (fused items ps)

    pub record AfterTurn (j : ℕ) (list : List Item) (ps qs : List Pair) : Type 0 where
      all : AllByRecursion (Is j) qs
      rest : says qs ≡ list
      same : configs qs ≡ configs ps

    pub round : (j : ℕ) (ps : List Pair) → j < most → AllByRecursion (Is j) ps → Apart (configs ps)
        → AfterTurn (suc j) (drop 16 (says ps)) ps (map (turn_in laws p meta config image step (take 16 (says ps))) ps)
    round j ps lt h apart =
        let ts : List Pair = map (pair_time (view p meta step) u) ps in
        let t = timed j ps lt h in
        let says_same : says ts ≡ says ps = ap (messages (step_message p (Update meta true) step)) t.1 in
        let m = many j ts 16 t.0 (subst Apart (sym (time_configs ps)) apart) in
        let here : map (turn_in laws p meta config image step (take 16 (says ps))) ps ≡ map (items_at (take 16 (says ts))) ts =
        fused (take 16 (says ps)) ps ∙ ap (λ items. map (items_at (take 16 items)) ts) (sym says_same) in
        subst (AfterTurn (suc j) (drop 16 (says ps)) ps) (sym here) (record {
          all = m.all;
          rest = m.rest ∙ ap (drop 16) says_same;
          same = all_configs (take 16 (says ts)) ts ∙ time_configs ps;
        })

    -- ---- until all have answered

    pub record Finished (ps : List Pair) (xs : List Member) : Type 0 where
      pub qs : List Pair
      pub turns : ℕ
      pub few : turns ≤ most
      pub station : Station laws p meta config image (At step) [] qs xs
      pub all : AllByRecursion (D turns) qs
      pub same : configs qs ≡ configs ps

    nobody_waits : (j : ℕ) (ps : List Pair) → AllByRecursion (Is j) ps → says ps ≡ [] → AllByRecursion (D j) ps
    nobody_waits j [] h e = tt
    nobody_waits j (x ∷ ps) h e = elim h.0 [
      | inl w ↦ absurd (some_none (sym (says_waiting j x ps w) ∙ e))
      | inr k ↦ (k, nobody_waits j ps h.1 (sym (says_done j x ps k) ∙ e))
    ]
      where
        some_none : {item : Item} {items : List Item} → (item ∷ items) ≡ [] → ⊥
        some_none e = grind (arith, e)

    somebody_waits : (j : ℕ) (ps : List Pair) (item : Item) (items : List Item) → AllByRecursion (Is j) ps → says ps ≡ item ∷ items → list_any is_pending (map receiver_in ps) ≡ true
    somebody_waits j [] item items h e = absurd (none_some e)
      where
        none_some : {item : Item} {items : List Item} → [] ≡ item ∷ items → ⊥
        none_some e = grind (arith, e)
    somebody_waits j (x ∷ ps) item items h e = elim h.0 [
      | inl w ↦ ap (λ b. b || list_any is_pending (map receiver_in ps)) (a.waits j x w)
      | inr k ↦ ap (λ b. b || list_any is_pending (map receiver_in ps)) (a.is_done j x k) ∙ somebody_waits j ps item items h.1 (sym (says_done j x ps k) ∙ e)
    ]

    pub finish : (m j : ℕ) (list : List Item) (ps : List Pair) (xs : List Member) → says ps ≡ list → Station laws p meta config image (At step) list ps xs → AllByRecursion (Is j) ps
        → Apart (configs ps) → length list ≤ 16 * m → j + m ≤ most → Within m (Finished ps) xs
    finish m j [] ps xs e s h apart le room =
        at_once m (Finished ps) xs (record { qs = ps; turns = j; few = omega (arith, room); station = s; all = nobody_waits j ps h e; same = refl })
    finish zero j (item ∷ items) ps xs e s h apart le room = absurd (omega (arith, le))
    finish (suc m) j (item ∷ items) ps xs e s h apart le room =
        let pending : list_any is_pending (map receiver_in ps) ≡ true = somebody_waits j ps item items h e in
        let r = round j ps (omega (arith, room)) h apart in
        let next : Station laws p meta config image (At step) (drop 16 (item ∷ items)) (map (turn_in laws p meta config image step (take 16 (item ∷ items))) ps) (turn xs) =
        turn_rest laws p meta config image step item items ps xs s (λ began moment. a.counts (client_at laws p meta config image (At step) (item ∷ items) began moment (map receiver_in ps)) ∙ ap not pending) in
        let now : Station laws p meta config image (At step) (drop 16 (item ∷ items)) (map (turn_in laws p meta config image step (take 16 (says ps))) ps) (turn xs) =
        subst (λ list. Station laws p meta config image (At step) (drop 16 (item ∷ items)) (map (turn_in laws p meta config image step (take 16 list)) ps) (turn xs)) (sym e) next in
        let shorter = length-drop 16 (item ∷ items) in
        let done = finish m (suc j) (drop 16 (item ∷ items)) (map (turn_in laws p meta config image step (take 16 (says ps))) ps) (turn xs) (r.rest ∙ ap (drop 16) e) now r.all
        (subst Apart (sym r.same) apart) (omega (arith, shorter, le)) (omega (arith, room)) in
        by_turn m (Finished ps) xs (record { turns = done.turns; few = done.few; then_is = (let f = done.then_is in record { qs = f.qs; turns = f.turns; few = f.few; station = f.station; all = f.all; same = f.same ∙ r.same }) })

    says_few : (ps : List Pair) → length (says ps) ≤ length ps
    says_few [] = omega arith
    says_few (x ∷ ps) = (let h = says_few ps in one_more (step_message p (Update meta true) step x.r) x.r.pending h)
      where
        one_more : (m : Option Request) (b : Bool) → length (says ps) ≤ length ps → length (l.said_if x.r m b ++ says ps) ≤ suc (length ps)
        one_more None true h = omega (arith, h)
        one_more (Some q) true h = omega (arith, h)
        one_more m false h = omega (arith, h)

    all_wait : (ps : List Pair) → AllByRecursion (W 0) ps → AllByRecursion (Is 0) ps
    all_wait [] h = tt
    all_wait (x ∷ ps) h = (inl h.0, all_wait ps h.1)

    begun_configs : (ps : List Pair) → configs (map (begins laws p meta config image step) ps) ≡ configs ps
    begun_configs [] = refl
    begun_configs (x ∷ ps) = ap (λ cs. x.config ∷ cs) (begun_configs ps)

    begun_length : (ps : List Pair) → length (map (begins laws p meta config image step) ps) ≡ length ps
    begun_length [] = refl
    begun_length (x ∷ ps) = ap suc (begun_length ps)

    -- THE STEP, from its first turn on
    pub whole_step : (place : Place) (ps : List Pair) (xs : List Member) → Station laws p meta config image place [] ps xs
        → ((began moment : ℕ) → d.by_place (client_at laws p meta config image place [] began moment (map receiver_in ps)) image place
        ≡ d.sends (d.in_step (client_at laws p meta config image place [] began moment (map receiver_in ps)) step) image (d.first_of (client_at laws p meta config image place [] began moment (map receiver_in ps)) step))
        → ((rs : List Receiver) → l.first_list p (Update meta true) rs step ≡ messages (step_message p (Update meta true) step) rs)
        → AllByRecursion (W 0) (map (begins laws p meta config image step) ps) → Apart (configs ps)
        → (m : ℕ) → length ps ≤ 16 * m → 1 ≤ m → m ≤ most → Within m (Finished ps) xs
    whole_step place ps xs s leads first h apart zero le some few = absurd (omega (arith, some))
    whole_step place ps xs s leads first h apart (suc m) le some few =
        let bs : List Pair = map (begins laws p meta config image step) ps in
        let list : first_items laws p meta config image step bs ≡ says bs = first (map receiver_in bs) in
        let next : Station laws p meta config image (At step) (drop 16 (says bs)) (map (turn_in laws p meta config image step (take 16 (says bs))) bs) (turn xs) =
        subst (λ items. Station laws p meta config image (At step) (drop 16 items) (map (turn_in laws p meta config image step (take 16 items)) bs) (turn xs)) list
        (turn_next laws p meta config image place ps xs s step leads) in
        let apart_b : Apart (configs bs) = subst Apart (sym (begun_configs ps)) apart in
        let r = round 0 bs (omega (arith, few)) (all_wait bs h) apart_b in
        let long = begun_length ps in
        let short = says_few bs in
        let rest = length-drop 16 (says bs) in
        let done = finish m 1 (drop 16 (says bs)) (map (turn_in laws p meta config image step (take 16 (says bs))) bs) (turn xs) r.rest next r.all
        (subst Apart (sym r.same) apart_b) (omega (arith, long, short, rest, le)) (omega (arith, few)) in
        by_turn m (Finished ps) xs (record {
          turns = done.turns;
          few = done.few;
          then_is = (let f = done.then_is in record { qs = f.qs; turns = f.turns; few = f.few; station = f.station; all = f.all; same = f.same ∙ (r.same ∙ begun_configs ps) });
        })
