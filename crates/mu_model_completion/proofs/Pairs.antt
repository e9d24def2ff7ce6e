-- An updater's receivers with their nodes, and what a turn makes of each pair.
use Rattle.std.proofs.Common.{◌≡◌, ◌+◌, ◌==◌, ℕ, List, [], ◌∷◌, ◌++◌, refl, sym, ap, ◌∙◌, subst, true, false, Bool, Option, Some, None, arith, map}
use Rattle.std.specs.Prelude.{if◌then◌else◌}
use Rattle.std.specs.List.{flat_map, AllByRecursion}
use Rattle.std.proofs.lemmas.Bool.{eqb-true}
use Rattle.mu_model_node.specs.declared.NodeConfig.{NodeConfig}
use Rattle.mu_model_node.specs.NodeMessages.{Reply}
use Rattle.mu_model_node.specs.NodeState.{NodeState, update_phase}
use Rattle.mu_model_node.specs.NodeOutcome.{Outcome}
use Rattle.mu_model_node.specs.Events.{at_moment, on_request}
use Rattle.mu_model_node.specs.TimeTable.{on_time}
use Rattle.mu_model_client.specs.Client.{at_moment as at_now, Client, Receiver, Place, Before, At, Verified, Ended}
use Rattle.mu_model_client.specs.Begin.{is_ended}
use Rattle.mu_model_client.specs.Due as d
use Rattle.mu_model_client.specs.Due.{Due, due}
use Rattle.mu_model_client_laws.specs.Laws.{KeepsPlan}
pub use Rattle.mu_model_completion.specs.Completion.{IsQuiet, AllQuiet}
use Rattle.mu_model_completion.specs.Turn.{Member, Part, IsNode, IsUpdater, Body, Asks, Replies, Sent, asked_by, replied_by, later, part_timed, node_given, updater_given, part_given, is_for, given_if, after_packet, answers_to, delivered, answers, after_time, sent_in_time, turn}
use Rattle.mu_model_completion.proofs.Local.{at_address, mapped, Distinct, at_mapped, distinct_mapped, time_keeps, takes_keeps, config_kept, takes, delivered_is, tells, tells_append, tells_kept, tells_some, tells_answers, own, time_from, updater_at, client_told}

-- ---- members that ask nothing

abbrev pub IsReply : Body → Type 0
IsReply (Replies reply) = Unit {0}
IsReply (Asks request) = ⊥

abbrev pub AllReplies : List Sent → Type 0
AllReplies ss = AllByRecursion (λ (s : Sent). IsReply s.body) ss

all_replied : (a : ℕ) (replies : List (ℕ × Reply)) → AllReplies (map (replied_by a) replies)
all_replied a [] = tt
all_replied a (x ∷ xs) = (tt, all_replied a xs)

pub all_append : {A : Type 0} (P : A → Type 0) (xs ys : List A) → AllByRecursion P xs → AllByRecursion P ys → AllByRecursion P (xs ++ ys)
all_append P [] ys h k = k
all_append P (x ∷ xs) ys h k = (h.0, all_append P xs ys h.1 k)

true_false : {A : Type 0} → false ≡ true → A
true_false h = absurd (no h)
  where
    no : false ≡ true → ⊥
    no e = grind (arith, e)

record Rested (c : Client) (image : List ℕ) (e : Due) : Type 0 where
  ended : is_ended e.next.place ≡ true
  silent : e.packets ≡ []

rests : (c : Client) (image : List ℕ) (place : Place) → c.place ≡ place → is_ended place ≡ true → Rested c image (d.by_place c image place)
rests c image (Ended part) e h = record { ended = subst (λ x. is_ended x ≡ true) (sym e) refl; silent = refl }
rests c image (Before step) e h = true_false h
rests c image (At step) e h = true_false h
rests c image Verified e h = true_false h

pub quiet_time : (x : Member) (part : Part) → IsQuiet part → AllReplies (part_timed (later x) part).sent × IsQuiet (part_timed (later x) part).member.part
quiet_time x (IsNode s) h = (all_replied x.config.address _, tt)
quiet_time x (IsUpdater c image) h =
    let r = rests (at_now c (x.moment + 100)) image c.place refl h in
    (subst (λ ps. AllReplies (map (asked_by x.config.address) ps)) (sym r.silent) tt, r.ended)

quiet_body : (x : Member) (part : Part) (from : ℕ) (body : Body) → x.part ≡ part → IsQuiet x.part → IsQuiet part → IsQuiet (part_given x (record { from = from; to = 0; body = body }) part).member.part
quiet_body x (IsNode s) from (Asks request) e q h = tt
quiet_body x (IsNode s) from (Replies reply) e q h = q
quiet_body x (IsUpdater c image) from (Asks request) e q h = q
quiet_body x (IsUpdater c image) from (Replies reply) e q h = h

quiet_if : (p : Sent) (x : Member) (is_its : Bool) → IsQuiet x.part → IsQuiet (given_if p x is_its).member.part
quiet_if p x true h = quiet_body x x.part p.from p.body refl h h
quiet_if p x false h = h

node_replies : (x : Member) (s : NodeState) (from : ℕ) (body : Body) → AllReplies (node_given x s from body).sent
node_replies x s from (Asks request) = all_replied x.config.address _
node_replies x s from (Replies reply) = tt

updater_replies : (x : Member) (c : Client) (image : List ℕ) (from : ℕ) (body : Body) → AllReplies (updater_given x c image from body).sent
updater_replies x c image from (Asks request) = tt
updater_replies x c image from (Replies reply) = tt

part_replies : (p : Sent) (x : Member) (part : Part) → AllReplies (part_given x p part).sent
part_replies p x (IsNode s) = node_replies x s p.from p.body
part_replies p x (IsUpdater c image) = updater_replies x c image p.from p.body

given_replies : (p : Sent) (x : Member) (is_its : Bool) → AllReplies (given_if p x is_its).sent
given_replies p x true = part_replies p x x.part
given_replies p x false = tt

all_flat : {A : Type 0} (P : Sent → Type 0) (f : A → List Sent) → ((a : A) → AllByRecursion P (f a)) → (xs : List A) → AllByRecursion P (flat_map f xs)
all_flat P f h [] = tt
all_flat P f h (x ∷ xs) = all_append P (f x) (flat_map f xs) (h x) (all_flat P f h xs)

answers_reply : (ps : List Sent) (xs : List Member) → AllReplies (answers ps xs)
answers_reply [] xs = tt
answers_reply (p ∷ ps) xs =
    all_append (λ (s : Sent). IsReply s.body) (flat_map (answers_to p) xs) (answers ps (map (after_packet p) xs))
    (all_flat (λ (s : Sent). IsReply s.body) (answers_to p) (λ x. given_replies p x (is_for x p)) xs) (answers_reply ps (map (after_packet p) xs))

quiet_mapped : (u : ℕ) (f : Member → Member) → ((x : Member) → (f x).config ≡ x.config) → ((x : Member) → IsQuiet x.part → IsQuiet (f x).part) → (xs : List Member) → AllQuiet u xs → AllQuiet u (map f xs)
quiet_mapped u f c k [] h = tt
quiet_mapped u f c k (x ∷ xs) h =
    ((λ e. k x (h.0 (sym (ap (λ (z : NodeConfig). z.address == u) (c x)) ∙ e))), quiet_mapped u f c k xs h.1)

quiet_takes : (ps : List Sent) (x : Member) → IsQuiet x.part → IsQuiet (takes ps x).part
quiet_takes [] x h = h
quiet_takes (p ∷ ps) x h = quiet_takes ps (after_packet p x) (quiet_if p x (is_for x p) h)

-- ---- pairs

-- a receiver, and the node at its address
pub record Pair : Type 0 where
  pub r : Receiver
  pub config : NodeConfig
  pub moment : ℕ
  pub n : NodeState

abbrev pub receiver_in : Pair → Receiver
receiver_in x = x.r

abbrev pub node_in : Pair → Member
node_in x = record { config = x.config; moment = x.moment; part = IsNode x.n }

module _ (v : Client) (u : ℕ) where
  abbrev pub answered_by : Pair → Outcome → Pair
  answered_by x o = record { r = tells v u (map (replied_by x.config.address) o.replies) x.r; config = x.config; moment = x.moment; n = o.next }

  abbrev pub pair_body : Pair → ℕ → Body → Pair
  pair_body x from (Asks request) = answered_by x (on_request (at_moment x.n x.moment) from request)
  pair_body x from (Replies reply) = x

  abbrev pub pair_if : Sent → Pair → Bool → Pair
  pair_if s x true = pair_body x s.from s.body
  pair_if s x false = x

  -- a packet at a pair's node, and its answer at the receiver
  abbrev pub pair_item : Sent → Pair → Pair
  pair_item s x = pair_if s x (is_for (node_in x) s)

  abbrev pub pair_items : List Sent → Pair → Pair
  pair_items [] x = x
  pair_items (s ∷ ss) x = pair_items ss (pair_item s x)

  pub items_append : (xs ys : List Sent) (x : Pair) → pair_items (xs ++ ys) x ≡ pair_items ys (pair_items xs x)
  items_append [] ys x = refl
  items_append (s ∷ xs) ys x = items_append xs ys (pair_item s x)

  body_after : (s : Sent) (x : Pair) (body : Body) → (node_given (node_in x) x.n s.from body).member ≡ node_in (pair_body x s.from body)
  body_after s x (Asks request) = refl
  body_after s x (Replies reply) = refl

  if_after : (s : Sent) (x : Pair) (is_its : Bool) → (given_if s (node_in x) is_its).member ≡ node_in (pair_if s x is_its)
  if_after s x true = body_after s x s.body
  if_after s x false = refl

  body_told : (s : Sent) (x : Pair) (body : Body) → tells v u (node_given (node_in x) x.n s.from body).sent x.r ≡ (pair_body x s.from body).r
  body_told s x (Asks request) = refl
  body_told s x (Replies reply) = refl

  if_told : (s : Sent) (x : Pair) (is_its : Bool) → tells v u (given_if s (node_in x) is_its).sent x.r ≡ (pair_if s x is_its).r
  if_told s x true = body_told s x s.body
  if_told s x false = refl

  pub items_after : (ss : List Sent) (x : Pair) → takes ss (node_in x) ≡ node_in (pair_items ss x)
  items_after [] x = refl
  items_after (s ∷ ss) x = ap (takes ss) (if_after s x (is_for (node_in x) s)) ∙ items_after ss (pair_item s x)

  -- a node isn't changed by replies
  pair_reply : (x : Pair) (from : ℕ) (body : Body) → IsReply body → pair_body x from body ≡ x
  pair_reply x from (Replies reply) h = refl
  pair_reply x from (Asks request) h = absurd h

  if_reply : (s : Sent) (x : Pair) (is_its : Bool) → IsReply s.body → pair_if s x is_its ≡ x
  if_reply s x true h = pair_reply x s.from s.body h
  if_reply s x false h = refl

  pub items_replies : (ss : List Sent) (x : Pair) → AllReplies ss → pair_items ss x ≡ x
  items_replies [] x h = refl
  items_replies (s ∷ ss) x h = ap (pair_items ss) (if_reply s x (is_for (node_in x) s) h.0) ∙ items_replies ss x h.1

  module _ (laws : KeepsPlan) where
    pub items_told : (ss : List Sent) (x : Pair) → tells v u (own v u laws ss (node_in x)) x.r ≡ (pair_items ss x).r
    items_told [] x = refl
    items_told (s ∷ ss) x =
        let one = if_told s x (is_for (node_in x) s) in
        let next = if_after s x (is_for (node_in x) s) in
        tells_append v u (answers_to s (node_in x)) (own v u laws ss (after_packet s (node_in x))) x.r
        ∙ (ap (tells v u (own v u laws ss (after_packet s (node_in x)))) one
        ∙ (ap (λ y. tells v u (own v u laws ss y) (pair_item s x).r) next ∙ items_told ss (pair_item s x)))

  body_config : (x : Pair) (from : ℕ) (body : Body) → (pair_body x from body).config ≡ x.config
  body_config x from (Asks request) = refl
  body_config x from (Replies reply) = refl

  if_config : (s : Sent) (x : Pair) (is_its : Bool) → (pair_if s x is_its).config ≡ x.config
  if_config s x true = body_config x s.from s.body
  if_config s x false = refl

  pub items_config : (ss : List Sent) (x : Pair) → (pair_items ss x).config ≡ x.config
  items_config [] x = refl
  items_config (s ∷ ss) x = items_config ss (pair_item s x) ∙ if_config s x (is_for (node_in x) s)

  -- ---- of all that was sent in time, a pair is reached by what the updater sent

  not_here : (u : ℕ) (x : Member) (xs : List Member) (here : Bool) → (if here then Some x else at_address u xs) ≡ None → (here ≡ false) × (at_address u xs ≡ None)
  not_here u x xs true h = absurd (some_none h)
    where
      some_none : Some x ≡ None → ⊥
      some_none e = grind (arith, e)
  not_here u x xs false h = (refl, h)

  quiet_sends : (x : Member) → ((x.config.address == u) ≡ false → IsQuiet x.part) → (x.config.address == u) ≡ false → AllReplies (sent_in_time x)
  quiet_sends x q e = (quiet_time x x.part (q e)).0

  items_none : (xs : List Member) (x : Pair) → AllQuiet u xs → at_address u xs ≡ None → pair_items (flat_map sent_in_time xs) x ≡ x
  items_none [] x q h = refl
  items_none (y ∷ ys) x q h =
      let n = not_here u y ys (y.config.address == u) h in
      items_append (sent_in_time y) (flat_map sent_in_time ys) x
      ∙ (ap (pair_items (flat_map sent_in_time ys)) (items_replies (sent_in_time y) x (quiet_sends y q.0 n.0)) ∙ items_none ys x q.1 n.1)

  abbrev or_else : Member → Option Member → Member
  or_else z None = z
  or_else z (Some w) = w

  none_some : (y : Member) → None ≡ Some y → ⊥
  none_some y e = grind (arith, e)

  items_by : (w y : Member) (ys : List Member) (x : Pair) (here : Bool) → (y.config.address == u) ≡ here → (if here then Some y else at_address u ys) ≡ Some w
      → ((y.config.address == u) ≡ false → IsQuiet y.part) → AllQuiet u ys → at_address y.config.address ys ≡ None
      → (at_address u ys ≡ Some w → pair_items (flat_map sent_in_time ys) x ≡ pair_items (sent_in_time w) x)
      → pair_items (sent_in_time y ++ flat_map sent_in_time ys) x ≡ pair_items (sent_in_time w) x
  items_by w y ys x true e h q qs none rest =
      let nobody : at_address u ys ≡ None = subst (λ a. at_address a ys ≡ None) (eqb-true y.config.address u e) none in
      items_append (sent_in_time y) (flat_map sent_in_time ys) x
      ∙ (items_none ys (pair_items (sent_in_time y) x) qs nobody ∙ ap (λ (z : Member). pair_items (sent_in_time z) x) (ap (or_else y) h))
  items_by w y ys x false e h q qs none rest =
      items_append (sent_in_time y) (flat_map sent_in_time ys) x
      ∙ (ap (pair_items (flat_map sent_in_time ys)) (items_replies (sent_in_time y) x (quiet_sends y q e)) ∙ rest h)

  pub items_sent : (w : Member) (xs : List Member) (x : Pair) → AllQuiet u xs → Distinct xs → at_address u xs ≡ Some w
      → pair_items (flat_map sent_in_time xs) x ≡ pair_items (sent_in_time w) x
  items_sent w [] x q d h = absurd (none_some w h)
  items_sent w (y ∷ ys) x q d h = items_by w y ys x (y.config.address == u) refl h q.0 q.1 d.0 (items_sent w ys x q.1 d.1)

  -- ---- a pair's time event

  abbrev pub timed_by : Pair → Outcome → Pair
  timed_by x o = record { r = tells v u (map (replied_by x.config.address) o.replies) x.r; config = x.config; moment = x.moment + 100; n = o.next }

  abbrev pub pair_time : Pair → Pair
  pair_time x = timed_by x (on_time (at_moment x.n (x.moment + 100)) (update_phase (at_moment x.n (x.moment + 100))))

  abbrev pub with_receiver : (Receiver → Receiver) → Pair → Pair
  with_receiver g x = record x { r = g x.r }

  -- a turn at a pair, in which the client makes this of receivers and sends these packets
  abbrev pub pair_turn : (Receiver → Receiver) → List Sent → Pair → Pair
  pair_turn g ss x = pair_items ss (pair_time (with_receiver g x))

-- ---- a world in which an updater has these pairs

pub record IsHere (xs : List Member) (x : Pair) : Type 0 where
  pub node : at_address x.config.address xs ≡ Some (node_in x)
  pub receiver : x.r.row.address ≡ x.config.address

pub record Holds (config : NodeConfig) (image : List ℕ) (now : ℕ) (c : Client) (ps : List Pair) (xs : List Member) : Type 0 where
  pub updater : at_address config.address xs ≡ Some (record { config = config; moment = now; part = IsUpdater c image })
  pub distinct : Distinct xs
  pub quiet : AllQuiet config.address xs
  pub here : AllByRecursion (IsHere xs) ps
  pub receivers : c.receivers ≡ map receiver_in ps

module _ (laws : KeepsPlan) (config : NodeConfig) (image : List ℕ) (now : ℕ) (c : Client) (ps : List Pair) (xs : List Member) (h : Holds config image now c ps xs)
    (g : Receiver → Receiver) (keeps : (r : Receiver) → (g r).row.address ≡ r.row.address) (e : Due) (is_due : due c image (now + 100) ≡ e) (same : e.next.receivers ≡ map g c.receivers) (moment : e.next.moment ≡ now + 100) where
  abbrev u : ℕ
  u = config.address

  abbrev sends : List Sent
  sends = map (asked_by config.address) e.packets

  abbrev sent : List Sent
  sent = flat_map sent_in_time xs

  abbrev timed_all : List Member
  timed_all = map after_time xs

  abbrev then_all : List Member
  then_all = delivered sent timed_all

  abbrev back : List Sent
  back = answers sent timed_all

  -- the pairs after the turn
  abbrev pub next_pairs : List Pair
  next_pairs = map (pair_turn e.next u g sends) ps

  distinct_timed : Distinct timed_all
  distinct_timed = distinct_mapped after_time time_keeps xs h.distinct

  -- ---- at any address

  found_last : (a : ℕ) (w : Member) → at_address a timed_all ≡ Some w → at_address a (turn xs) ≡ Some (takes back (takes sent w))
  found_last a w k =
      ap (at_address a) (delivered_is back then_all)
      ∙ (at_mapped (takes back) (takes_keeps back) a then_all
      ∙ ap (mapped (takes back)) (ap (at_address a) (delivered_is sent timed_all) ∙ (at_mapped (takes sent) (takes_keeps sent) a timed_all ∙ ap (mapped (takes sent)) k)))

  found_timed : (a : ℕ) (w : Member) → at_address a xs ≡ Some w → at_address a timed_all ≡ Some (after_time w)
  found_timed a w k = at_mapped after_time time_keeps a xs ∙ ap (mapped after_time) k

  -- ---- a pair

  module _ (x : Pair) (k : IsHere xs x) where
    abbrev first_r : Receiver
    first_r = g x.r

    abbrev timed_x : Pair
    timed_x = pair_time e.next u (with_receiver e.next u g x)

    pair_sends : sent_in_time (node_in x) ≡ map (replied_by x.config.address) (on_time (at_moment x.n (x.moment + 100)) (update_phase (at_moment x.n (x.moment + 100)))).replies
    pair_sends = refl

    pub pair_node : at_address x.config.address (turn xs) ≡ Some (node_in (pair_turn e.next u g sends x))
    pair_node =
        let timed_is : at_address x.config.address timed_all ≡ Some (node_in timed_x) = found_timed x.config.address (node_in x) k.node in
        let reached : takes sent (node_in timed_x) ≡ node_in (pair_turn e.next u g sends x) =
        items_after e.next u sent timed_x ∙ ap node_in (items_sent e.next u _ xs timed_x h.quiet h.distinct h.updater ∙ ap (λ (z : Due). pair_items e.next u (map (asked_by config.address) z.packets) timed_x) is_due) in
        let quiet_back : takes back (node_in (pair_turn e.next u g sends x)) ≡ node_in (pair_turn e.next u g sends x) =
        items_after e.next u back (pair_turn e.next u g sends x) ∙ ap node_in (items_replies e.next u back (pair_turn e.next u g sends x) (answers_reply sent timed_all)) in
        found_last x.config.address (node_in timed_x) timed_is ∙ ap Some (ap (takes back) reached ∙ quiet_back)

    pub pair_receiver : tells e.next u back (tells e.next u sent (g x.r)) ≡ (pair_turn e.next u g sends x).r
    pair_receiver =
        let place : (g x.r).row.address ≡ x.config.address = keeps x.r ∙ k.receiver in
        let before : at_address (g x.r).row.address xs ≡ Some (node_in x) = ap (λ a. at_address a xs) place ∙ k.node in
        let first : tells e.next u sent (g x.r) ≡ timed_x.r = tells_some e.next u laws sent_in_time (time_from e.next u laws) (node_in x) xs (g x.r) h.distinct before in
        let later_place : timed_x.r.row.address ≡ x.config.address = tells_kept e.next u laws (sent_in_time (node_in x)) (g x.r) ∙ place in
        let after : at_address timed_x.r.row.address timed_all ≡ Some (node_in timed_x) =
        ap (λ a. at_address a timed_all) later_place ∙ found_timed x.config.address (node_in x) k.node in
        ap (tells e.next u back) first
        ∙ (tells_answers e.next u laws sent timed_all (node_in timed_x) timed_x.r distinct_timed after
        ∙ (items_told e.next u laws sent timed_x
        ∙ ap (λ (z : Pair). z.r) (items_sent e.next u _ xs timed_x h.quiet h.distinct h.updater ∙ ap (λ (z : Due). pair_items e.next u (map (asked_by config.address) z.packets) timed_x) is_due)))

    pub pair_here : IsHere (turn xs) (pair_turn e.next u g sends x)
    pair_here =
        let stays : (pair_turn e.next u g sends x).config ≡ x.config = items_config e.next u sends timed_x in
        record {
          node = ap (λ (z : NodeConfig). at_address z.address (turn xs)) stays ∙ pair_node;
          receiver =
              ap (λ (z : Receiver). z.row.address) (sym pair_receiver)
              ∙ (tells_kept e.next u laws back (tells e.next u sent (g x.r))
              ∙ (tells_kept e.next u laws sent (g x.r)
              ∙ (keeps x.r ∙ (k.receiver ∙ ap (λ (z : NodeConfig). z.address) (sym stays)))));
        }

  all_here : (ys : List Pair) → AllByRecursion (IsHere xs) ys → AllByRecursion (IsHere (turn xs)) (map (pair_turn e.next u g sends) ys)
  all_here [] k = tt
  all_here (y ∷ ys) k = (pair_here y k.0, all_here ys k.1)

  all_told : (ys : List Pair) → AllByRecursion (IsHere xs) ys
      → map (tells e.next u back) (map (tells e.next u sent) (map g (map receiver_in ys))) ≡ map receiver_in (map (pair_turn e.next u g sends) ys)
  all_told [] k = refl
  all_told (y ∷ ys) k = cons_same (pair_receiver y k.0) (all_told ys k.1)
    where
      cons_same : {x y : Receiver} {xs ys : List Receiver} → x ≡ y → xs ≡ ys → (x ∷ xs) ≡ (y ∷ ys)
      cons_same e f = rw (e, f) refl

  updater_after : at_address u (turn xs) ≡ Some (updater_at u image config refl (now + 100) (record (e.next) { receivers = map receiver_in next_pairs }))
  updater_after =
      let timed_is : at_address u timed_all ≡ Some (updater_at u image config refl (now + 100) e.next) =
      found_timed u _ h.updater ∙ ap (λ (z : Due). Some (updater_at u image config refl (now + 100) z.next)) is_due in
      let first : takes sent (updater_at u image config refl (now + 100) e.next) ≡ updater_at u image config refl (now + 100) (record (e.next) { receivers = map (tells e.next u sent) e.next.receivers }) =
      client_told u image config refl (now + 100) e.next moment sent e.next.receivers in
      let second = client_told u image config refl (now + 100) e.next moment back (map (tells e.next u sent) e.next.receivers) in
      let told_is : map (tells e.next u back) (map (tells e.next u sent) e.next.receivers) ≡ map receiver_in next_pairs =
      ap (λ rs. map (tells e.next u back) (map (tells e.next u sent) rs)) (same ∙ ap (map g) h.receivers) ∙ all_told ps h.here in
      found_last u _ timed_is ∙ ap Some (ap (takes back) first ∙ (second ∙ ap (λ rs. updater_at u image config refl (now + 100) (record (e.next) { receivers = rs })) told_is))

  quiet_after : AllQuiet u (turn xs)
  quiet_after =
      let one : AllQuiet u timed_all = quiet_mapped u after_time (config_kept after_time time_keeps) (λ x q. (quiet_time x x.part q).1) xs h.quiet in
      let two : AllQuiet u then_all = subst (AllQuiet u) (sym (delivered_is sent timed_all)) (quiet_mapped u (takes sent) (config_kept (takes sent) (takes_keeps sent)) (quiet_takes sent) timed_all one) in
      subst (AllQuiet u) (sym (delivered_is back then_all)) (quiet_mapped u (takes back) (config_kept (takes back) (takes_keeps back)) (quiet_takes back) then_all two)

  distinct_after : Distinct (turn xs)
  distinct_after =
      let two : Distinct then_all = subst Distinct (sym (delivered_is sent timed_all)) (distinct_mapped (takes sent) (takes_keeps sent) timed_all distinct_timed) in
      subst Distinct (sym (delivered_is back then_all)) (distinct_mapped (takes back) (takes_keeps back) then_all two)

  -- A TURN
  pub turned : Holds config image (now + 100) (record (e.next) { receivers = map receiver_in next_pairs }) next_pairs (turn xs)
  turned = record { updater = updater_after; distinct = distinct_after; quiet = quiet_after; here = all_here ps h.here; receivers = refl }
