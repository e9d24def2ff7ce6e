-- A turn is local: what it does to a receiver and to its node depends on these two and on what the updater sent.
use Rattle.std.proofs.Common.{◌≡◌, ◌==◌, ℕ, List, [], ◌∷◌, ◌++◌, refl, sym, ap, ◌∙◌, subst, true, false, Bool, Option, Some, None, arith, map, max}
use Rattle.std.specs.Prelude.{◌||◌, if◌then◌else◌}
use Rattle.std.specs.List.{flat_map, AllByRecursion}
use Rattle.std.proofs.lemmas.Bool.{eqb-true}
use Rattle.std.proofs.lemmas.Bool.Decides.{nat_tests}
use Rattle.mu_model_node.specs.declared.NodeConfig.{NodeConfig}
use Rattle.mu_model_node.specs.NodeMessages.{Request, Reply}
use Rattle.mu_model_node.specs.NodeState.{NodeState}
use Rattle.mu_model_client.specs.Answers.{Answer, heard}
use Rattle.mu_model_client.specs.Client.{Client, Receiver}
use Rattle.mu_model_client.specs.Told as t
use Rattle.mu_model_client.specs.Told.{told}
use Rattle.mu_model_client_laws.specs.Laws.{KeepsPlan}
pub use Rattle.mu_model_completion.specs.Completion.{at_address, Distinct}
use Rattle.mu_model_completion.specs.Turn.{Member, Part, IsNode, IsUpdater, Body, Asks, Replies, Sent, asked_by, replied_by, later, part_timed, node_given, updater_given, part_given, is_for, given_if, after_packet, answers_to, delivered, answers, after_time, sent_in_time}

-- ---- members by address

abbrev pub mapped : (Member → Member) → Option Member → Option Member
mapped f None = None
mapped f (Some x) = Some (f x)

pub KeepsConfig : (Member → Member) → Type 0
KeepsConfig f = (x : Member) → (f x).config ≡ x.config

pub keeps_config : (f : Member → Member) → ((x : Member) → (f x).config ≡ x.config) → KeepsConfig f
unfolding KeepsConfig
keeps_config f h = h

pub config_kept : (f : Member → Member) → KeepsConfig f → (x : Member) → (f x).config ≡ x.config
unfolding KeepsConfig
config_kept f h = h

found_by : (f : Member → Member) (x : Member) (xs : List Member) (a : ℕ) (here : Bool) → at_address a (map f xs) ≡ mapped f (at_address a xs)
    → (if here then Some (f x) else at_address a (map f xs)) ≡ mapped f (if here then Some x else at_address a xs)
found_by f x xs a true h = refl
found_by f x xs a false h = h

pub at_mapped : (f : Member → Member) → KeepsConfig f → (a : ℕ) (xs : List Member) → at_address a (map f xs) ≡ mapped f (at_address a xs)
at_mapped f k a [] = refl
at_mapped f k a (x ∷ xs) =
    ap (λ (c : NodeConfig). if c.address == a then Some (f x) else at_address a (map f xs)) (config_kept f k x)
    ∙ found_by f x xs a (x.config.address == a) (at_mapped f k a xs)

pub distinct_mapped : (f : Member → Member) → KeepsConfig f → (xs : List Member) → Distinct xs → Distinct (map f xs)
distinct_mapped f k [] h = tt
distinct_mapped f k (x ∷ xs) h =
    (ap (λ (c : NodeConfig). at_address c.address (map f xs)) (config_kept f k x) ∙ (at_mapped f k x.config.address xs ∙ ap (mapped f) h.0), distinct_mapped f k xs h.1)

-- ---- each event keeps where a member stands

timed_config : (x : Member) (part : Part) → (part_timed (later x) part).member.config ≡ x.config
timed_config x (IsNode s) = refl
timed_config x (IsUpdater c image) = refl

pub time_keeps : KeepsConfig after_time
time_keeps = keeps_config after_time (λ x. timed_config x x.part)

node_config : (x : Member) (s : NodeState) (from : ℕ) (body : Body) → (node_given x s from body).member.config ≡ x.config
node_config x s from (Asks request) = refl
node_config x s from (Replies reply) = refl

updater_config : (x : Member) (c : Client) (image : List ℕ) (from : ℕ) (body : Body) → (updater_given x c image from body).member.config ≡ x.config
updater_config x c image from (Asks request) = refl
updater_config x c image from (Replies reply) = refl

given_config : (p : Sent) (x : Member) (part : Part) → (part_given x p part).member.config ≡ x.config
given_config p x (IsNode s) = node_config x s p.from p.body
given_config p x (IsUpdater c image) = updater_config x c image p.from p.body

packet_config : (p : Sent) (x : Member) (is_its : Bool) → (given_if p x is_its).member.config ≡ x.config
packet_config p x true = given_config p x x.part
packet_config p x false = refl

pub packet_keeps : (p : Sent) → KeepsConfig (after_packet p)
packet_keeps p = keeps_config (after_packet p) (λ x. packet_config p x (is_for x p))

-- a list of packets, one after the other
abbrev pub takes : List Sent → Member → Member
takes [] x = x
takes (p ∷ ps) x = takes ps (after_packet p x)

takes_config : (ps : List Sent) (x : Member) → (takes ps x).config ≡ x.config
takes_config [] x = refl
takes_config (p ∷ ps) x = takes_config ps (after_packet p x) ∙ config_kept (after_packet p) (packet_keeps p) x

pub takes_keeps : (ps : List Sent) → KeepsConfig (takes ps)
takes_keeps ps = keeps_config (takes ps) (takes_config ps)

map_then : (f g : Member → Member) (xs : List Member) → map g (map f xs) ≡ map (λ x. g (f x)) xs
map_then f g [] = refl
map_then f g (x ∷ xs) = ap (λ ys. g (f x) ∷ ys) (map_then f g xs)

map_same : (xs : List Member) → map (λ (x : Member). x) xs ≡ xs
map_same [] = refl
map_same (x ∷ xs) = ap (λ ys. x ∷ ys) (map_same xs)

pub delivered_is : (ps : List Sent) (xs : List Member) → delivered ps xs ≡ map (takes ps) xs
delivered_is [] xs = sym (map_same xs)
delivered_is (p ∷ ps) xs = delivered_is ps (map (after_packet p) xs) ∙ map_then (after_packet p) (takes ps) xs

-- ---- what a receiver is told

module _ (v : Client) (u : ℕ) where
  abbrev pub tell_body : ℕ → Receiver → Body → Receiver
  tell_body from r (Asks request) = r
  tell_body from r (Replies reply) = t.told_if v (heard reply) r (r.row.address == from)

  abbrev pub tell_if : Sent → Receiver → Bool → Receiver
  tell_if s r true = tell_body s.from r s.body
  tell_if s r false = r

  -- a packet that reaches the updater
  abbrev pub tell : Sent → Receiver → Receiver
  tell s r = tell_if s r (s.to == u)

  abbrev pub tells : List Sent → Receiver → Receiver
  tells [] r = r
  tells (s ∷ ss) r = tells ss (tell s r)

  pub tells_append : (xs ys : List Sent) (r : Receiver) → tells (xs ++ ys) r ≡ tells ys (tells xs r)
  tells_append [] ys r = refl
  tells_append (x ∷ xs) ys r = tells_append xs ys (tell x r)

  -- what comes from another address
  abbrev IsOther : ℕ → Sent → Type 0
  IsOther a s = (a == s.from) ≡ false

  other_body : (from : ℕ) (r : Receiver) (body : Body) → (r.row.address == from) ≡ false → tell_body from r body ≡ r
  other_body from r (Asks request) h = refl
  other_body from r (Replies reply) h = ap (t.told_if v (heard reply) r) h

  other_if : (s : Sent) (r : Receiver) (is_its : Bool) → IsOther r.row.address s → tell_if s r is_its ≡ r
  other_if s r true h = other_body s.from r s.body h
  other_if s r false h = refl

  pub tells_others : (ss : List Sent) (r : Receiver) → AllByRecursion (IsOther r.row.address) ss → tells ss r ≡ r
  tells_others [] r h = refl
  tells_others (s ∷ ss) r h = ap (tells ss) (other_if s r (s.to == u) h.0) ∙ tells_others ss r h.1

  -- ---- a receiver stays at its address

  module _ (laws : KeepsPlan) where
    head_of : List ℕ → ℕ
    head_of [] = 0
    head_of (x ∷ xs) = x

    one_kept : (answer : Answer) (r : Receiver) (from : ℕ) → (t.told_if v answer r (r.row.address == from)).row.address ≡ r.row.address
    unfolding head_of
    one_kept answer r from = ap head_of (laws.tells (record v { receivers = r ∷ [] }) from answer 0).addresses

    body_kept : (from : ℕ) (r : Receiver) (body : Body) → (tell_body from r body).row.address ≡ r.row.address
    body_kept from r (Asks request) = refl
    body_kept from r (Replies reply) = one_kept (heard reply) r from

    tell_kept : (s : Sent) (r : Receiver) (is_its : Bool) → (tell_if s r is_its).row.address ≡ r.row.address
    tell_kept s r true = body_kept s.from r s.body
    tell_kept s r false = refl

    pub tells_kept : (ss : List Sent) (r : Receiver) → (tells ss r).row.address ≡ r.row.address
    tells_kept [] r = refl
    tells_kept (s ∷ ss) r = tells_kept ss (tell s r) ∙ tell_kept s r (s.to == u)

    -- ---- of what all members send, a receiver is told what its node sends

    eq_both : (a b : ℕ) → (b == a) ≡ false → (a == b) ≡ false
    eq_both a b h = grind (arith, nat_tests, h)

    abbrev IsFrom : ℕ → Sent → Type 0
    IsFrom a s = s.from ≡ a

    from_others : (a b : ℕ) → (b == a) ≡ false → (ss : List Sent) → AllByRecursion (IsFrom b) ss → AllByRecursion (IsOther a) ss
    from_others a b h [] k = tt
    from_others a b h (s ∷ ss) k = (subst (λ x. (a == x) ≡ false) (sym k.0) (eq_both a b h), from_others a b h ss k.1)

    not_found : (a : ℕ) (x : Member) (xs : List Member) (here : Bool) → (if here then Some x else at_address a xs) ≡ None → (here ≡ false) × (at_address a xs ≡ None)
    not_found a x xs true h = absurd (some_none h)
      where
        some_none : Some x ≡ None → ⊥
        some_none e = grind (arith, e)
    not_found a x xs false h = (refl, h)

    pub tells_none : (f : Member → List Sent) → ((x : Member) → AllByRecursion (IsFrom x.config.address) (f x)) → (xs : List Member) (r : Receiver)
        → at_address r.row.address xs ≡ None → tells (flat_map f xs) r ≡ r
    tells_none f from [] r h = refl
    tells_none f from (x ∷ xs) r h =
        let n = not_found r.row.address x xs (x.config.address == r.row.address) h in
        let here : tells (f x) r ≡ r = tells_others (f x) r (from_others r.row.address x.config.address n.0 (f x) (from x)) in
        tells_append (f x) (flat_map f xs) r ∙ (ap (tells (flat_map f xs)) here ∙ tells_none f from xs r n.1)

    abbrev or_else : Member → Option Member → Member
    or_else z None = z
    or_else z (Some w) = w

    some_same : (x y : Member) → Some x ≡ Some y → x ≡ y
    some_same x y h = ap (or_else x) h

    none_some : (y : Member) → None ≡ Some y → ⊥
    none_some y e = grind (arith, e)

    module _ (f : Member → List Sent) (from : (x : Member) → AllByRecursion (IsFrom x.config.address) (f x)) (y : Member) where
      tells_here : (x : Member) (xs : List Member) (r : Receiver) (here : Bool) → (x.config.address == r.row.address) ≡ here
          → (if here then Some x else at_address r.row.address xs) ≡ Some y → at_address x.config.address xs ≡ None
          → (at_address r.row.address xs ≡ Some y → tells (flat_map f xs) r ≡ tells (f y) r)
          → tells (f x ++ flat_map f xs) r ≡ tells (f y) r
      tells_here x xs r true e h none rest =
          let one : Receiver = tells (f x) r in
          let place : x.config.address ≡ one.row.address = eqb-true x.config.address r.row.address e ∙ sym (tells_kept (f x) r) in
          let nobody : at_address one.row.address xs ≡ None = subst (λ a. at_address a xs ≡ None) place none in
          tells_append (f x) (flat_map f xs) r ∙ (tells_none f from xs one nobody ∙ ap (λ (z : Member). tells (f z) r) (some_same x y h))
      tells_here x xs r false e h none rest =
          tells_append (f x) (flat_map f xs) r
          ∙ (ap (tells (flat_map f xs)) (tells_others (f x) r (from_others r.row.address x.config.address e (f x) (from x))) ∙ rest h)

      pub tells_some : (xs : List Member) (r : Receiver) → Distinct xs → at_address r.row.address xs ≡ Some y → tells (flat_map f xs) r ≡ tells (f y) r
      tells_some [] r d h = absurd (none_some y h)
      tells_some (x ∷ xs) r d h = tells_here x xs r (x.config.address == r.row.address) refl h d.0 (tells_some xs r d.1)

    -- what a member answers to a list of packets
    abbrev pub own : List Sent → Member → List Sent
    own [] x = []
    own (p ∷ ps) x = answers_to p x ++ own ps (after_packet p x)

    all_replied : (a : ℕ) (replies : List (ℕ × Reply)) → AllByRecursion (IsFrom a) (map (replied_by a) replies)
    all_replied a [] = tt
    all_replied a (x ∷ xs) = (refl, all_replied a xs)

    all_asked : (a : ℕ) (packets : List (ℕ × Request)) → AllByRecursion (IsFrom a) (map (asked_by a) packets)
    all_asked a [] = tt
    all_asked a (x ∷ xs) = (refl, all_asked a xs)

    node_from : (x : Member) (s : NodeState) (from : ℕ) (body : Body) → AllByRecursion (IsFrom x.config.address) (node_given x s from body).sent
    node_from x s from (Asks request) = all_replied x.config.address _
    node_from x s from (Replies reply) = tt

    updater_from : (x : Member) (c : Client) (image : List ℕ) (from : ℕ) (body : Body) → AllByRecursion (IsFrom x.config.address) (updater_given x c image from body).sent
    updater_from x c image from (Asks request) = tt
    updater_from x c image from (Replies reply) = tt

    given_from : (p : Sent) (x : Member) (part : Part) → AllByRecursion (IsFrom x.config.address) (part_given x p part).sent
    given_from p x (IsNode s) = node_from x s p.from p.body
    given_from p x (IsUpdater c image) = updater_from x c image p.from p.body

    packet_from : (p : Sent) (x : Member) (is_its : Bool) → AllByRecursion (IsFrom x.config.address) (given_if p x is_its).sent
    packet_from p x true = given_from p x x.part
    packet_from p x false = tt

    part_from : (x : Member) (part : Part) → AllByRecursion (IsFrom x.config.address) (part_timed (later x) part).sent
    part_from x (IsNode s) = all_replied x.config.address _
    part_from x (IsUpdater c image) = all_asked x.config.address _

    pub time_from : (x : Member) → AllByRecursion (IsFrom x.config.address) (sent_in_time x)
    time_from x = part_from x x.part

    -- of all answers a receiver is told what its node answers
    pub tells_answers : (ps : List Sent) (xs : List Member) (x : Member) (r : Receiver) → Distinct xs → at_address r.row.address xs ≡ Some x
        → tells (answers ps xs) r ≡ tells (own ps x) r
    tells_answers [] xs x r d h = refl
    tells_answers (p ∷ ps) xs x r d h =
        let here = tells_some (answers_to p) (λ y. packet_from p y (is_for y p)) x xs r d h in
        let one : Receiver = tells (answers_to p x) r in
        let found : at_address one.row.address (map (after_packet p) xs) ≡ Some (after_packet p x) =
        ap (λ a. at_address a (map (after_packet p) xs)) (tells_kept (answers_to p x) r) ∙ (at_mapped (after_packet p) (packet_keeps p) r.row.address xs ∙ ap (mapped (after_packet p)) h) in
        tells_append (flat_map (answers_to p) xs) (answers ps (map (after_packet p) xs)) r
        ∙ (ap (tells (answers ps (map (after_packet p) xs))) here
        ∙ (tells_answers ps (map (after_packet p) xs) (after_packet p x) one (distinct_mapped (after_packet p) (packet_keeps p) xs d) found
        ∙ sym (tells_append (answers_to p x) (own ps (after_packet p x)) r)))

-- ---- a client that is told many answers

module _ (u : ℕ) (image : List ℕ) (config : NodeConfig) (at_u : config.address ≡ u) where
  abbrev pub updater_at : ℕ → Client → Member
  updater_at now c = record { config = config; moment = now; part = IsUpdater c image }

  told_all : (v : Client) (g : Receiver → Receiver) (h : Receiver → Receiver) (rs : List Receiver) → map g (map h rs) ≡ map (λ r. g (h r)) rs
  told_all v g h [] = refl
  told_all v g h (r ∷ rs) = ap (λ ys. g (h r) ∷ ys) (told_all v g h rs)

  map_id : (rs : List Receiver) → map (λ (r : Receiver). r) rs ≡ rs
  map_id [] = refl
  map_id (r ∷ rs) = ap (λ ys. r ∷ ys) (map_id rs)

  or_false : (b : Bool) → (b || false) ≡ b
  or_false true = refl
  or_false false = refl

  max_same : (now : ℕ) → max now now ≡ now
  max_same now = omega arith

  -- a client at this moment whose receivers are these
  abbrev pub with_receivers : Client → List Receiver → Client
  with_receivers c rs = record c { receivers = rs }

  body_told : (now : ℕ) (c : Client) → c.moment ≡ now → (rs : List Receiver) (s : Sent) (body : Body)
      → (updater_given (updater_at now (with_receivers c rs)) (with_receivers c rs) image s.from body).member ≡ updater_at now (with_receivers c (map (λ r. tell_body c u s.from r body) rs))
  body_told now c e rs s (Asks request) = ap (λ xs. updater_at now (with_receivers c xs)) (sym (map_id rs))
  body_told now c e rs s (Replies reply) =
      ap (λ m. updater_at now (record c { receivers = map (λ r. t.told_if c (heard reply) r (r.row.address == s.from)) rs; moment = m })) (ap (λ m. max m now) e ∙ (max_same now ∙ sym e))

  given_told : (now : ℕ) (c : Client) → c.moment ≡ now → (rs : List Receiver) (s : Sent) (is_its : Bool)
      → (given_if s (updater_at now (with_receivers c rs)) is_its).member ≡ updater_at now (with_receivers c (map (λ r. tell_if c u s r is_its) rs))
  given_told now c e rs s true = body_told now c e rs s s.body
  given_told now c e rs s false = ap (λ xs. updater_at now (with_receivers c xs)) (sym (map_id rs))

  pub client_told : (now : ℕ) (c : Client) → c.moment ≡ now → (ss : List Sent) (rs : List Receiver)
      → takes ss (updater_at now (with_receivers c rs)) ≡ updater_at now (with_receivers c (map (tells c u ss) rs))
  client_told now c e [] rs = ap (λ xs. updater_at now (with_receivers c xs)) (sym (map_id rs))
  client_told now c e (s ∷ ss) rs =
      let its : is_for (updater_at now (with_receivers c rs)) s ≡ (s.to == u) = or_false (s.to == config.address) ∙ ap (λ a. s.to == a) at_u in
      let one : after_packet s (updater_at now (with_receivers c rs)) ≡ updater_at now (with_receivers c (map (tell c u s) rs)) =
      ap (λ b. (given_if s (updater_at now (with_receivers c rs)) b).member) its ∙ given_told now c e rs s (s.to == u) in
      ap (takes ss) one ∙ (client_told now c e ss (map (tell c u s) rs) ∙ ap (λ xs. updater_at now (with_receivers c xs)) (told_all c (tells c u ss) (tell c u s) rs))
