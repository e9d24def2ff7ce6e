-- A `settle` comes to an end.
use Rattle.std.proofs.Common.{◌≡◌, ◌<◌, ◌≤◌, ◌+◌, ℕ, zero, suc, nat_eq, Bool, true, false, List, [], ◌∷◌, ◌++◌, filter, length, refl, sym, ap, subst, ◌∙◌, cond, arith, append-nil, Option, Some, None, is_some, Contains, ◌⊎◌, inl, inr, ⊎_elim}
use Rattle.std.specs.Prelude.{slice_get, ◌-◌, ◌||◌}
use Rattle.std.specs.List.{AllByRecursion, list_any}
use Rattle.std.proofs.lemmas.Bool.{eq-eqb}
use Rattle.mu_model_wire.specs.Packet.{Packet}
use Rattle.mu_model_script.specs.Event.{Event, Settle}
use Rattle.mu_model_script.specs.Lines.{script_event}
use Rattle.mu_model_mesh.specs.Mesh.{Mesh, is_member, node_at, updater_at, distributor_at, takes, addressees, moment_at}
use Rattle.mu_model_mesh.specs.MeshOutcomes.{MeshOutcome, given}
use Rattle.mu_model_mesh.specs.Settle.{turn_time, turn_comes, EachComes, given_to, AllComes, none_left, comes, Turns, Settles}
use Rattle.mu_model_answers.specs.Laws.{IsUnanswered}
use Rattle.mu_model_mesh_runs.specs.Goes.{Coming, ByTime, ByPacket, NextOfEach, first, later, NextOfAll, this, after, NextOfTurn, in_time, in_packets, GoesThrough, in_turn, in_later}
use Rattle.mu_model_mesh_runs.specs.Stops.{would_wear, SettleWears}
use Rattle.mu_model_mesh_runs.specs.Laws.{HasMembers, SettleComes, carried, wears_out, SettlesEnd}
use Rattle.mu_model_mesh_runs.proofs.Something.{HasOne, has, packet_either, timed_either}
use Rattle.mu_model_mesh_runs.proofs.Grows.{Stays, stays_same, stays_then, still_there, members_stay, Grows, grows_same, grows_then, AllGrow, Any, time_grows, Answers, packet_grows, Never, packet_still}

-- ---- lists

slice_longer : (xs ys : List Packet) (k : ℕ) (x : Packet) → slice_get xs k ≡ Some x → slice_get (xs ++ ys) k ≡ Some x
slice_longer [] ys k x h = cc
slice_longer (y ∷ xs) ys zero x h = h
slice_longer (y ∷ xs) ys (suc k) x h = slice_longer xs ys k x h

slice_of : (Q : Packet → Type 0) (ys : List Packet) (k : ℕ) (x : Packet) → AllByRecursion Q ys → slice_get ys k ≡ Some x → Q x
slice_of Q [] k x h e = cc
slice_of Q (y ∷ ys) zero x h e = let same : y ≡ x = cc in subst Q same h.0
slice_of Q (y ∷ ys) (suc k) x h e = slice_of Q ys k x h.1 e

slice_or : (Q : Packet → Type 0) (xs ys : List Packet) (k : ℕ) (x : Packet) → AllByRecursion Q ys → slice_get (xs ++ ys) k ≡ Some x → (slice_get xs k ≡ Some x) ⊎ Q x
slice_or Q [] ys k x h e = inr (slice_of Q ys k x h e)
slice_or Q (y ∷ xs) ys zero x h e = inl e
slice_or Q (y ∷ xs) ys (suc k) x h e = slice_or Q xs ys k x h e

slice_past : (xs : List Packet) (k : ℕ) → slice_get xs k ≡ None → length xs ≤ k
slice_past [] k h = omega arith
slice_past (x ∷ xs) zero h = cc
slice_past (x ∷ xs) (suc k) h = let rest : length xs ≤ k = slice_past xs k h in omega (arith, rest)

slice_within : (xs : List Packet) (k : ℕ) (x : Packet) → slice_get xs k ≡ Some x → k < length xs
slice_within [] k x h = cc
slice_within (y ∷ xs) zero x h = omega arith
slice_within (y ∷ xs) (suc k) x h = let rest : k < length xs = slice_within xs k x h in omega (arith, rest)

none_more : (packets : List Packet) → AllByRecursion Never packets → packets ≡ []
none_more [] h = refl
none_more (p ∷ packets) h = absurd h.0

or_right : (x y : Bool) → y ≡ true → (x || y) ≡ true
or_right true y e = refl
or_right false y e = e

or_either : (x kept rest : Bool) → (kept ≡ true → rest ≡ true) → (x || kept) ≡ true → (x || rest) ≡ true
or_either true kept rest k h = refl
or_either false kept rest k h = k h

-- whoever stands in an order is a member
all_members : (order picked : List ℕ) → ((a : ℕ) → list_any (nat_eq a) picked ≡ true → list_any (nat_eq a) order ≡ true) → AllByRecursion (λ a. list_any (nat_eq a) order ≡ true) picked
all_members order [] h = tt
all_members order (b ∷ picked) h =
    let same : nat_eq b b ≡ true = eq-eqb b b refl in
    (h b (ap (λ x. x || list_any (nat_eq b) picked) same), all_members order picked (λ a e. h a (or_right (nat_eq a b) (list_any (nat_eq a) picked) e)))

filtered_key : (a b : ℕ) (order kept : List ℕ) (t : Bool) → (list_any (nat_eq a) kept ≡ true → list_any (nat_eq a) order ≡ true) → list_any (nat_eq a) (cond t (b ∷ kept) kept) ≡ true → list_any (nat_eq a) (b ∷ order) ≡ true
filtered_key a b order kept true k h = or_either (nat_eq a b) (list_any (nat_eq a) kept) (list_any (nat_eq a) order) k h
filtered_key a b order kept false k h = or_right (nat_eq a b) (list_any (nat_eq a) order) (k h)

filtered : (test : ℕ → Bool) (a : ℕ) (order : List ℕ) → list_any (nat_eq a) (filter test order) ≡ true → list_any (nat_eq a) order ≡ true
filtered test a [] h = h
filtered test a (b ∷ order) h = filtered_key a b order (filter test order) (test b) (filtered test a order) h

-- ---- one address after the other

abbrev AllIn : Mesh → List ℕ → Type 0
AllIn m addresses = AllByRecursion (λ a. is_member m a ≡ true) addresses

still_in : (m next : Mesh) (addresses : List ℕ) → Stays m next → AllIn m addresses → AllIn next addresses
still_in m next [] s h = tt
still_in m next (a ∷ addresses) s h = (still_there m next a s h.0, still_in m next addresses s h.1)

pub data EachGoes (events : Mesh → ℕ → List MeshOutcome) (coming : Mesh → ℕ → Coming) (P : Packet → Type 0) (addresses : List ℕ) (m : Mesh) : Type 0 where
  went : (text : List ℕ) (next : Mesh) → EachComes events addresses m text next → Grows P m next → EachGoes events coming P addresses m
  stuck : (a : ℕ) (x : Mesh) → NextOfEach events addresses m a x → would_wear x (coming x a) ≡ true → EachGoes events coming P addresses m

its_first : (P : Packet → Type 0) (m : Mesh) (outs : List MeshOutcome) → HasOne outs → AllGrow P m outs → (o : MeshOutcome) × Contains outs o × Grows P m o.mesh
its_first P m (x ∷ rest) h g = (x, (0, omega arith, refl), g.0)
its_first P m [] h g = absurd (no_one h refl)
  where
    no_one : {outs : List MeshOutcome} → HasOne outs → outs ≡ [] → ⊥
    no_one (has o os) e = cc

more_goes : (events : Mesh → ℕ → List MeshOutcome) (coming : Mesh → ℕ → Coming) (P : Packet → Type 0) (a : ℕ) (others : List ℕ) (m : Mesh) (o : MeshOutcome) → Contains (events m a) o → Grows P m o.mesh → EachGoes events coming P others o.mesh → EachGoes events coming P (a ∷ others) m
more_goes events coming P a others m o within g (went text next each k) = went (o.text ++ text) next (o.mesh, o.text, text, within, each, refl) (grows_then P m o.mesh next g k)
more_goes events coming P a others m o within g (stuck b x next w) = stuck b x (later o.text within next) w

module _ (events : Mesh → ℕ → List MeshOutcome) (coming : Mesh → ℕ → Coming) (P : Packet → Type 0) (Inv : Mesh → Type 0)
    (either : (m : Mesh) (a : ℕ) → HasMembers m → is_member m a ≡ true → Inv m → (would_wear m (coming m a) ≡ true) ⊎ HasOne (events m a))
    (grows : (m : Mesh) (a : ℕ) → Inv m → AllGrow P m (events m a))
    (keeps : (m next : Mesh) → Inv m → Grows P m next → Inv next) where
  pub each_goes : (addresses : List ℕ) (m : Mesh) → HasMembers m → AllIn m addresses → Inv m → EachGoes events coming P addresses m
  each_goes [] m members all inv = went [] m (refl, refl) (grows_same P m)
  each_goes (a ∷ others) m members all inv =
      ⊎_elim (λ w. stuck a m first w)
      (λ one. (
      let k = its_first P m (events m a) one (grows m a inv) in
      more_goes events coming P a others m k.0 k.1 k.2
      (each_goes others k.0.mesh (members_stay m k.0.mesh k.2.stays members) (still_in m k.0.mesh others k.2.stays all.1) (keeps m k.0.mesh inv k.2))))
      (either m a members all.0 inv)

-- ---- a packet

abbrev IsAt : ℕ → Packet → Mesh → Type 0
IsAt number p m = slice_get m.nodes.bag number ≡ Some p

stays_at : (P : Packet → Type 0) (number : ℕ) (p : Packet) (m next : Mesh) → IsAt number p m → Grows P m next → IsAt number p next
stays_at P number p m next h g = ap (λ bag. slice_get bag number) g.bag ∙ slice_longer m.nodes.bag g.more number p h

found_some : (m : Mesh) (number : ℕ) (p : Packet) → IsAt number p m → is_some (slice_get m.nodes.bag number) ≡ true
found_some m number p at = ap is_some at

packet_or : (number : ℕ) (p : Packet) (m : Mesh) (a : ℕ) → HasMembers m → is_member m a ≡ true → IsAt number p m → (would_wear m (ByPacket number a) ≡ true) ⊎ HasOne (given m number a)
packet_or number p m a members there at = packet_either m number a (slice_get m.nodes.bag number) (found_some m number p at) (members a there)

addressed : (m : Mesh) (p : Packet) → AllIn m (addressees m p)
addressed m p = all_members m.order (addressees m p) (λ a e. filtered (takes m p) a m.order e)

-- from here on what waits is unanswered
abbrev Un : Mesh → ℕ → Type 0
Un m bound = (j : ℕ) (p : Packet) → bound ≤ j → slice_get m.nodes.bag j ≡ Some p → IsUnanswered p

pub data AllGoes (m : Mesh) (number : ℕ) : Type 0 where
  went_all : (text : List ℕ) (last : Mesh) → AllComes number m text last → Stays m last → AllGoes m number
  stuck_at : (k a : ℕ) (x : Mesh) → NextOfAll number m k a x → would_wear x (ByPacket k a) ≡ true → AllGoes m number

over : (m : Mesh) (number : ℕ) → length m.nodes.bag ≤ number → AllGoes m number
over m number h = went_all [] m (none_left h) (stays_same m)

then_all : (m mid : Mesh) (number : ℕ) (p : Packet) (text : List ℕ) → slice_get m.nodes.bag number ≡ Some p → EachComes (given_to number) (addressees m p) m text mid → Stays m mid → AllGoes mid (number + 1) → AllGoes m number
then_all m mid number p text at each s (went_all rest last all k) = went_all (text ++ rest) last (comes text rest p at each all) (stays_then m mid last s k)
then_all m mid number p text at each s (stuck_at k a x next w) = stuck_at k a x (after text p at each next) w

-- all the addressees of one packet, and then the packets after it
abbrev PacketGoes : (Packet → Type 0) → ℕ → Mesh → Packet → Type 0
PacketGoes P number m p = EachGoes (given_to number) (λ x a. ByPacket number a) P (addressees m p) m

then_others : (P : Packet → Type 0) (m : Mesh) (number : ℕ) (p : Packet) → slice_get m.nodes.bag number ≡ Some p → ((mid : Mesh) → Grows P m mid → AllGoes mid (number + 1)) → PacketGoes P number m p → AllGoes m number
then_others P m number p e again (went text mid each g) = then_all m mid number p text e each g.stays (again mid g)
then_others P m number p e again (stuck a x next w) = stuck_at number a x (this p e next) w

-- ---- unanswered packets

same_bag : (m mid : Mesh) → Grows Never m mid → mid.nodes.bag ≡ m.nodes.bag
same_bag m mid g = g.bag ∙ (ap (λ more. m.nodes.bag ++ more) (none_more g.more g.fits) ∙ append-nil m.nodes.bag)

still_un : (m mid : Mesh) (bound : ℕ) → Grows Never m mid → Un m bound → Un mid bound
still_un m mid bound g un j p from at = un j p from (ap (λ bag. slice_get bag j) (sym (same_bag m mid g)) ∙ at)

later_un : (m : Mesh) (number : ℕ) → Un m number → Un m (number + 1)
later_un m number un j p from at = un j p (omega (arith, from)) at

fewer : (m mid : Mesh) (number fuel : ℕ) → Grows Never m mid → length m.nodes.bag ≤ number + suc fuel → length mid.nodes.bag ≤ (number + 1) + fuel
fewer m mid number fuel g few =
    let long : length mid.nodes.bag ≡ length m.nodes.bag = ap (λ bag. length bag) (same_bag m mid g) in
    omega (arith, few, long)

quiet_goes : (m : Mesh) (number : ℕ) (p : Packet) → HasMembers m → slice_get m.nodes.bag number ≡ Some p → IsUnanswered p → PacketGoes Never number m p
quiet_goes m number p members e un =
    each_goes (given_to number) (λ x a. ByPacket number a) Never (IsAt number p) (λ x a members there at. packet_or number p x a members there at) (λ x a at. packet_still x number a p at un)
    (λ x y at g. stays_at Never number p x y at g) (addressees m p) m members (addressed m p) e

un_packet : (fuel : ℕ) (m : Mesh) (number : ℕ) → HasMembers m → Un m number → ((mid : Mesh) → Grows Never m mid → AllGoes mid (number + 1)) → (found : Option Packet) → slice_get m.nodes.bag number ≡ found → AllGoes m number
un_packet fuel m number members un again None e = over m number (slice_past m.nodes.bag number e)
un_packet fuel m number members un again (Some p) e = then_others Never m number p e again (quiet_goes m number p members e (un number p (omega arith) e))

un_goes : (fuel : ℕ) (m : Mesh) (number : ℕ) → HasMembers m → Un m number → length m.nodes.bag ≤ number + fuel → AllGoes m number
un_goes zero m number members un few = over m number (omega (arith, few))
un_goes (suc fuel) m number members un few =
    un_packet fuel m number members un
    (λ mid g. un_goes fuel mid (number + 1) (members_stay m mid g.stays members) (later_un mid number (still_un m mid number g un)) (fewer m mid number fuel g few))
    (slice_get m.nodes.bag number) refl

-- ---- all packets

more_un : (m mid : Mesh) (bound : ℕ) → Grows IsUnanswered m mid → Un m bound → Un mid bound
more_un m mid bound g un j p from at =
    ⊎_elim (λ old. un j p from old) (λ new. new) (slice_or IsUnanswered m.nodes.bag g.more j p g.fits (ap (λ bag. slice_get bag j) (sym g.bag) ∙ at))

module _ (answers : Answers) where
  answered_goes : (m : Mesh) (number : ℕ) (p : Packet) → HasMembers m → slice_get m.nodes.bag number ≡ Some p → PacketGoes IsUnanswered number m p
  answered_goes m number p members e =
      each_goes (given_to number) (λ x a. ByPacket number a) IsUnanswered (IsAt number p) (λ x a members there at. packet_or number p x a members there at) (λ x a at. packet_grows answers x number a p at)
      (λ x y at g. stays_at IsUnanswered number p x y at g) (addressees m p) m members (addressed m p) e

  some_packet : (m : Mesh) (number : ℕ) → HasMembers m → ((mid : Mesh) → Grows IsUnanswered m mid → AllGoes mid (number + 1)) → (found : Option Packet) → slice_get m.nodes.bag number ≡ found → AllGoes m number
  some_packet m number members again None e = over m number (slice_past m.nodes.bag number e)
  some_packet m number members again (Some p) e = then_others IsUnanswered m number p e again (answered_goes m number p members e)

  nearer : (number bound fuel : ℕ) → bound ≤ number + suc fuel → bound ≤ (number + 1) + fuel
  nearer number bound fuel few = omega (arith, few)

  all_goes : (fuel : ℕ) (m : Mesh) (number bound : ℕ) → HasMembers m → Un m bound → bound ≤ number + fuel → AllGoes m number
  all_goes zero m number bound members un few = un_goes (length m.nodes.bag) m number members (λ j p from at. un j p (omega (arith, few, from)) at) (omega arith)
  all_goes (suc fuel) m number bound members un few =
      some_packet m number members
      (λ mid g. all_goes fuel mid (number + 1) bound (members_stay m mid g.stays members) (more_un m mid bound g un) (nearer number bound fuel few))
      (slice_get m.nodes.bag number) refl

  -- ---- a turn

  pub data TurnGoes (m : Mesh) : Type 0 where
    turned : (text : List ℕ) (next : Mesh) → Turns m text next → HasMembers next → TurnGoes m
    broke : (coming : Coming) (x : Mesh) → NextOfTurn m coming x → would_wear x coming ≡ true → TurnGoes m

  abbrev next_turn : Mesh → ℕ → Coming
  next_turn x a = ByTime a (moment_at x a + turn_time)

  time_or : (m : Mesh) (a : ℕ) → HasMembers m → is_member m a ≡ true → Unit {0} → (would_wear m (next_turn m a) ≡ true) ⊎ HasOne (turn_comes m a)
  time_or m a members there u = timed_either m a (moment_at m a + turn_time) (node_at m a) (updater_at m a) (distributor_at m a) (members a there)

  all_time : (m : Mesh) → HasMembers m → EachGoes turn_comes next_turn Any m.order m
  all_time m members = each_goes turn_comes next_turn Any (λ x. Unit {0}) time_or (λ x a u. time_grows x a (moment_at x a + turn_time)) (λ x y u g. tt) m.order m members (all_members m.order m.order (λ a e. e)) tt

  past_end : (m : Mesh) → Un m (length m.nodes.bag)
  past_end m j p from at = let past : j < length m.nodes.bag = slice_within m.nodes.bag j p at in let never : ⊥ = omega (arith, from, past) in absurd never

  by_packets : (m : Mesh) (text : List ℕ) (mid : Mesh) → EachComes turn_comes m.order m text mid → HasMembers mid → AllGoes mid (length m.nodes.bag) → TurnGoes m
  by_packets m text mid each in_mid (went_all rest last all s) =
      let next : Mesh = record last { turns = last.turns + 1 } in
      turned (text ++ rest) next (record { mid = mid; last = last; first = text; rest = rest; time = each; packets = all; counted = refl {a = next}; printed = refl })
      (members_stay mid last s in_mid)
  by_packets m text mid each in_mid (stuck_at k a x n w) = broke (ByPacket k a) x (in_packets text each n) w

  by_time : (m : Mesh) → HasMembers m → EachGoes turn_comes next_turn Any m.order m → TurnGoes m
  by_time m members (went text mid each g) =
      let in_mid : HasMembers mid = members_stay m mid g.stays members in
      by_packets m text mid each in_mid (all_goes (length mid.nodes.bag) mid (length m.nodes.bag) (length mid.nodes.bag) in_mid (past_end mid) (omega arith))
  by_time m members (stuck a x n w) = broke (next_turn x a) x (in_time n) w

  turn_goes : (m : Mesh) → HasMembers m → TurnGoes m
  turn_goes m members = by_time m members (all_time m members)

  -- ---- all turns

  by_rest : (turns : ℕ) (m : Mesh) (text : List ℕ) (mid : Mesh) → Turns m text mid → SettleComes turns mid → SettleComes (suc turns) m
  by_rest turns m text mid turn (carried rest next more) = carried (text ++ rest) next (mid, text, rest, turn, more, refl)
  by_rest turns m text mid turn (wears_out w) = wears_out (record { coming = w.coming; world = w.world; through = in_later text turn w.through; wears = w.wears })

  by_turn : (turns : ℕ) (m : Mesh) → ((mid : Mesh) → HasMembers mid → SettleComes turns mid) → TurnGoes m → SettleComes (suc turns) m
  by_turn turns m again (turned text mid turn in_mid) = by_rest turns m text mid turn (again mid in_mid)
  by_turn turns m again (broke coming x n w) = wears_out (record { coming = coming; world = x; through = in_turn n; wears = w })

  pub settles_end : SettlesEnd
  settles_end zero m members = carried [] m (refl, refl)
  settles_end (suc turns) m members = by_turn turns m (λ mid in_mid. settles_end turns mid in_mid) (turn_goes m members)
