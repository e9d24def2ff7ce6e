-- Where an updater stands between turns, and the two kinds of turn: one that goes on with its list, and one that begins a step.
use Rattle.std.proofs.Common.{◌≡◌, ◌≤◌, ◌+◌, ℕ, zero, suc, List, [], ◌∷◌, refl, sym, ap, ◌∙◌, subst, true, false, Bool, arith, map, max, take, drop}
use Rattle.std.specs.List.{list_any}
use Rattle.mu_model_image.specs.declared.Meta.{Meta}
use Rattle.mu_model_node.specs.declared.NodeConfig.{NodeConfig}
use Rattle.mu_model_client.specs.declared.Sending.{Sending}
use Rattle.mu_model_client.specs.Client.{Client, Receiver, Item, Update, Place, Before, At, Step, is_in, is_begun_for}
use Rattle.mu_model_client.specs.Lists.{first_list, sent_for}
use Rattle.mu_model_client.specs.Due as d
use Rattle.mu_model_client.specs.Due.{Due, due, Next, Go, Ends}
use Rattle.mu_model_client_laws.specs.Laws.{KeepsPlan}
use Rattle.mu_model_completion.specs.Turn.{Member, Sent, asked_by, turn, settle}
use Rattle.mu_model_completion.proofs.Pairs.{Pair, receiver_in, pair_items, pair_time, pair_turn, Holds, turned}
use Rattle.mu_model_completion.proofs.Receivers.{view}

-- ---- within so many turns

pub record Within (n : ℕ) (P : List Member → Type 0) (xs : List Member) : Type 0 where
  pub turns : ℕ
  pub few : turns ≤ n
  pub then_is : P (settle turns xs)

pub settle_add : (m n : ℕ) (xs : List Member) → settle n (settle m xs) ≡ settle (m + n) xs
settle_add zero n xs = let e : 0 + n ≡ n = omega arith in ap (λ k. settle k xs) (sym e)
settle_add (suc m) n xs =
    let e : suc m + n ≡ suc (m + n) = omega arith in
    settle_add m n (turn xs) ∙ ap (λ k. settle k xs) (sym e)

pub at_once : (n : ℕ) (P : List Member → Type 0) (xs : List Member) → P xs → Within n P xs
at_once n P xs h = record { turns = 0; few = omega arith; then_is = h }

pub by_turn : (n : ℕ) (P : List Member → Type 0) (xs : List Member) → Within n P (turn xs) → Within (suc n) P xs
by_turn n P xs h = record { turns = suc h.turns; few = (let k = h.few in omega (arith, k)); then_is = h.then_is }

pub and_then : (m n : ℕ) (P Q : List Member → Type 0) (xs : List Member) → Within m P xs → ((ys : List Member) → P ys → Within n Q ys) → Within (m + n) Q xs
and_then m n P Q xs h k =
    let next = k (settle h.turns xs) h.then_is in
    record {
      turns = h.turns + next.turns;
      few = (let a = h.few in let b = next.few in omega (arith, a, b));
      then_is = subst Q (settle_add h.turns next.turns xs) next.then_is;
    }

pub more_room : (m n : ℕ) (P : List Member → Type 0) (xs : List Member) → m ≤ n → Within m P xs → Within n P xs
more_room m n P xs le h = record { turns = h.turns; few = (let a = h.few in omega (arith, a, le)); then_is = h.then_is }

pub so : (n : ℕ) (P Q : List Member → Type 0) (xs : List Member) → ((ys : List Member) → P ys → Q ys) → Within n P xs → Within n Q xs
so n P Q xs k h = record { turns = h.turns; few = h.few; then_is = k (settle h.turns xs) h.then_is }

-- ---- stations

module _ (laws : KeepsPlan) (p : Sending) (meta : Meta) (config : NodeConfig) (image : List ℕ) where
  abbrev pub client_at : Place → List Item → (began moment : ℕ) → List Receiver → Client
  client_at place queue began moment rs =
      record { sending = p; purpose = Update meta true; receivers = rs; place = place; queue = queue; began = began; moment = moment }

  pub record Station (place : Place) (queue : List Item) (ps : List Pair) (xs : List Member) : Type 0 where
    pub now : ℕ
    pub began : ℕ
    pub moment : ℕ
    pub early : moment ≤ now
    pub holds : Holds config image now (client_at place queue began moment (map receiver_in ps)) ps xs

  abbrev pub sent_all : List Item → List Sent
  sent_all items = map (asked_by config.address) (map (sent_for p image) items)

  -- a turn at a pair, in a step in which these are sent
  abbrev pub turn_in : Step → List Item → Pair → Pair
  turn_in step items x = pair_items (view p meta step) config.address (sent_all items) (pair_time (view p meta step) config.address x)

  map_id : (rs : List Receiver) → rs ≡ map (λ (r : Receiver). r) rs
  map_id [] = refl
  map_id (r ∷ rs) = ap (λ ys. r ∷ ys) (map_id rs)

  -- the rest of a list
  pub turn_rest : (step : Step) (item : Item) (items : List Item) (ps : List Pair) (xs : List Member) → Station (At step) (item ∷ items) ps xs
      → ((began moment : ℕ) → d.is_done (client_at (At step) (item ∷ items) began moment (map receiver_in ps)) step ≡ false)
      → Station (At step) (drop 16 (item ∷ items)) (map (turn_in step (take 16 (item ∷ items))) ps) (turn xs)
  turn_rest step item items ps xs s undone =
      let c : Client = client_at (At step) (item ∷ items) s.began (max s.moment (s.now + 100)) (map receiver_in ps) in
      let e : Due = d.sends c image (item ∷ items) in
      let is_due : due (client_at (At step) (item ∷ items) s.began s.moment (map receiver_in ps)) image (s.now + 100) ≡ e =
      ap (λ b. d.by_step c image step b) (undone s.began (max s.moment (s.now + 100))) in
      let early = s.early in
      let late : max s.moment (s.now + 100) ≡ s.now + 100 = omega (arith, early) in
      record {
        now = s.now + 100;
        began = s.began;
        moment = max s.moment (s.now + 100);
        early = omega (arith, late);
        holds = turned laws config image s.now _ ps xs s.holds (λ r. r) (λ r. refl) e is_due (map_id (map receiver_in ps)) late;
      }

  pub begun_place : (r : Receiver) (is_in_it : Bool) → (d.begun_if r is_in_it).row.address ≡ r.row.address
  begun_place r true = refl
  begun_place r false = refl

  -- receivers as the step begins
  abbrev pub begins : Step → Pair → Pair
  begins step x = record x { r = d.begun step x.r }

  abbrev pub first_items : Step → List Pair → List Item
  first_items step ps = first_list p (Update meta true) (map receiver_in ps) step

  begun_all : (step : Step) (ps : List Pair) → map (d.begun step) (map receiver_in ps) ≡ map receiver_in (map (begins step) ps)
  begun_all step [] = refl
  begun_all step (x ∷ ps) = ap (λ ys. d.begun step x.r ∷ ys) (begun_all step ps)

  then_in : (step : Step) (items : List Item) (ps : List Pair)
      → map (pair_turn (view p meta step) config.address (d.begun step) (sent_all items)) ps ≡ map (turn_in step items) (map (begins step) ps)
  then_in step items [] = refl
  then_in step items (x ∷ ps) = ap (λ ys. turn_in step items (begins step x) ∷ ys) (then_in step items ps)

  -- a step begins, in this turn
  module _ (place : Place) (ps : List Pair) (xs : List Member) (s : Station place [] ps xs) (step : Step)
      (leads : (began moment : ℕ) → d.by_place (client_at place [] began moment (map receiver_in ps)) image place
      ≡ d.sends (d.in_step (client_at place [] began moment (map receiver_in ps)) step) image (d.first_of (client_at place [] began moment (map receiver_in ps)) step)) where
    abbrev pub begun_pairs : List Pair
    begun_pairs = map (begins step) ps

    pub turn_next : Station (At step) (drop 16 (first_items step begun_pairs)) (map (turn_in step (take 16 (first_items step begun_pairs))) begun_pairs) (turn xs)
    turn_next =
        let c : Client = client_at place [] s.began (max s.moment (s.now + 100)) (map receiver_in ps) in
        let e : Due = d.sends (d.in_step c step) image (d.first_of c step) in
        let is_due : due (client_at place [] s.began s.moment (map receiver_in ps)) image (s.now + 100) ≡ e = leads s.began (max s.moment (s.now + 100)) in
        let early = s.early in
        let late : max s.moment (s.now + 100) ≡ s.now + 100 = omega (arith, early) in
        let items : d.first_of c step ≡ first_items step begun_pairs = ap (λ rs. first_list p (Update meta true) rs step) (begun_all step ps) in
        let made : Station (At step) (drop 16 (d.first_of c step)) (map (pair_turn (view p meta step) config.address (d.begun step) (sent_all (take 16 (d.first_of c step)))) ps) (turn xs) = record {
          now = s.now + 100;
          began = max s.moment (s.now + 100);
          moment = max s.moment (s.now + 100);
          early = omega (arith, late);
          holds = turned laws config image s.now _ ps xs s.holds (d.begun step) (λ r. begun_place r (is_in step r)) e is_due refl late;
        } in
        subst (λ list. Station (At step) (drop 16 list) (map (turn_in step (take 16 list)) begun_pairs) (turn xs)) items
        (subst (λ qs. Station (At step) (drop 16 (d.first_of c step)) qs (turn xs)) (then_in step (take 16 (d.first_of c step)) ps) made)

  -- after a step that is done
  pub leads_on : (last next : Step) (ps : List Pair)
      → ((began moment : ℕ) → d.is_done (client_at (At last) [] began moment (map receiver_in ps)) last ≡ true)
      → d.after p (Update meta true) (map receiver_in ps) last ≡ Go next
      → list_any (is_begun_for next) (map receiver_in ps) ≡ true
      → (began moment : ℕ) → d.by_place (client_at (At last) [] began moment (map receiver_in ps)) image (At last)
      ≡ d.sends (d.in_step (client_at (At last) [] began moment (map receiver_in ps)) next) image (d.first_of (client_at (At last) [] began moment (map receiver_in ps)) next)
  leads_on last next ps done goes some began moment =
      let c : Client = client_at (At last) [] began moment (map receiver_in ps) in
      ap (λ b. d.by_step c image last b) (done began moment) ∙ (ap (λ n. d.goes_on c image n) goes ∙ ap (λ b. d.begins_if c image next b) some)

  -- the first step of all
  pub leads_first : (next : Step) (ps : List Pair) → list_any (is_begun_for next) (map receiver_in ps) ≡ true
      → (began moment : ℕ) → d.by_place (client_at (Before next) [] began moment (map receiver_in ps)) image (Before next)
      ≡ d.sends (d.in_step (client_at (Before next) [] began moment (map receiver_in ps)) next) image (d.first_of (client_at (Before next) [] began moment (map receiver_in ps)) next)
  leads_first next ps some began moment = ap (λ b. d.begins_if (client_at (Before next) [] began moment (map receiver_in ps)) image next b) some

  -- a turn in which the client makes this of its receivers, and sends these
  pub turn_by : (place next : Place) (later items : List Item) (ps : List Pair) (xs : List Member) (s : Station place [] ps xs) (g : Receiver → Receiver) → ((r : Receiver) → (g r).row.address ≡ r.row.address)
      → (began : ℕ)
      → d.by_place (client_at place [] s.began (max s.moment (s.now + 100)) (map receiver_in ps)) image place
      ≡ record { next = client_at next later began (max s.moment (s.now + 100)) (map g (map receiver_in ps)); packets = map (sent_for p image) items }
      → Station next later (map (pair_turn (client_at next [] 0 0 []) config.address g (sent_all items)) ps) (turn xs)
  turn_by place next later items ps xs s g keeps began leads =
      let e : Due = record { next = client_at next later began (max s.moment (s.now + 100)) (map g (map receiver_in ps)); packets = map (sent_for p image) items } in
      let early = s.early in
      let late : max s.moment (s.now + 100) ≡ s.now + 100 = omega (arith, early) in
      record {
        now = s.now + 100;
        began = began;
        moment = max s.moment (s.now + 100);
        early = omega (arith, late);
        holds = turned laws config image s.now _ ps xs s.holds g keeps e leads refl late;
      }
