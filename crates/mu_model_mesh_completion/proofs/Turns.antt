-- A turn of a world does to its members what a typed turn does to typed members.
use Rattle.std.proofs.Common.{◌≡◌, ◌<◌, ◌≤◌, ◌+◌, ℕ, zero, suc, Bool, true, false, List, [], ◌∷◌, ◌++◌, length, map, filter, refl, sym, ap, subst, ◌∙◌, arith, append_assoc, append-nil, length-append, Option, Some, None}
use Rattle.std.specs.Prelude.{◌==◌, ◌||◌, slice_get}
use Rattle.std.specs.List.{AllByRecursion, flat_map}
use Rattle.std.proofs.lemmas.Option.{slice_get_within}
use Rattle.mu_model_wire.specs.Packet.{Packet}
use Rattle.mu_model_node.specs.NodeState.{NodeState}
use Rattle.mu_model_client.specs.Client.{Client}
use Rattle.mu_model_world.specs.World as w
use Rattle.mu_model_mesh.specs.Mesh.{UpdaterMember, Mesh, node_at, updater_at, distributor_at, takes_by, takes, addressees}
use Rattle.mu_model_mesh.specs.Settle.{turn_comes, EachComes, given_to, AllComes, none_left, comes, Turns, Settles}
use Rattle.mu_model_completion.specs.Completion.{NoneTwice}
use Rattle.mu_model_completion.specs.Turn.{Member, Part, IsNode, IsUpdater, Body, Asks, Replies, Sent, Moved, timed, node_given, updater_given, part_given, is_for, given_if, given, stands, after_packet, answers_to, delivered, answers, after_time, sent_in_time, deliveries, turn, settle}
use Rattle.mu_model_mesh_completion.proofs.Members.{AllLaws, MemberFits, Handed, BodyAnswers, SentFits, IsAnswer, answers_fit, member_time, member_packet}
use Rattle.mu_model_mesh_completion.proofs.Aims.{AimLaws, MemberAims, BodyAims, SentAims, member_time_aims, member_packet_aims, answers_aim}
use Rattle.mu_model_mesh_completion.proofs.Worlds.{members_by, member_of, members, packet_of, Stable, NoneComes}
use Rattle.mu_model_mesh_completion.proofs.Strays.{IsStray, Entry, Own, Stray, packet_in, own_in, EntryIs, NoStray, only_own}
use Rattle.mu_model_mesh_completion.proofs.Happens.{Wire, Does, NoDistributors, Takes, BodyAimed, Aimed, time_does, packet_does, Steady, stray_does}
use Rattle.mu_model_mesh_completion.proofs.Each.{map_joined, all_joined, all_parts, IsTried, members_stand, none_sent, Goes, each_goes}

-- ---- members that were handed their moments

pub record Ready (x : Member) : Type 0 where
  pub fits : MemberFits x
  pub handed : Handed x

-- where a world stands
pub record Here (D : ℕ → Type 0) (m : Mesh) (ms : List Member) : Type 0 where
  pub is : members m ≡ ms
  pub stable : Stable m
  pub once : NoneTwice m.order
  pub fits : AllByRecursion MemberFits ms
  -- requests go where no distributor is
  pub aims : AllByRecursion (MemberAims D) ms
  pub no_distributor : NoDistributors D m

pub here_after : (D : ℕ → Type 0) (S : Packet → Type 0) (m next : Mesh) (ms : List Member) (step : Member → Moved) → Here D m ms → Goes S m next m.order step
    → AllByRecursion MemberFits (map (λ (x : Member). (step x).member) ms) → AllByRecursion (MemberAims D) (map (λ (x : Member). (step x).member) ms) → Here D next (map (λ (x : Member). (step x).member) ms)
here_after D S m next ms step h g fits aims = record {
  is = ap (λ (order : List ℕ). flat_map (member_of next) order) g.order ∙ (g.done ∙ ap (map (λ (x : Member). (step x).member)) h.is);
  stable = g.stable;
  once = subst NoneTwice (sym g.order) h.once;
  fits = fits;
  aims = aims;
  no_distributor = λ b d. g.none_comes b (h.no_distributor b d);
}

pub ready_fits : (ms : List Member) → AllByRecursion Ready ms → AllByRecursion MemberFits ms
ready_fits [] h = tt
ready_fits (x ∷ ms) h = (h.0.fits, ready_fits ms h.1)

-- ---- time

pub filter_all : (bs : List ℕ) → filter (λ b. true) bs ≡ bs
filter_all [] = refl
filter_all (b ∷ bs) = ap (λ cs. b ∷ cs) (filter_all bs)

module _ (laws : AllLaws) (wire : Wire) (D : ℕ → Type 0) (aim : AimLaws) where
  pub times_ready : (ms : List Member) → AllByRecursion MemberFits ms → AllByRecursion Ready (map after_time ms)
  times_ready [] h = tt
  times_ready (x ∷ ms) h = let t = member_time laws x h.0 in (record { fits = t.member; handed = t.handed }, times_ready ms h.1)

  pub times_send : (ms : List Member) → AllByRecursion MemberFits ms → AllByRecursion SentFits (flat_map sent_in_time ms)
  times_send [] h = tt
  times_send (x ∷ ms) h = all_joined SentFits (sent_in_time x) (flat_map sent_in_time ms) (member_time laws x h.0).sent (times_send ms h.1)

  pub times_aim : (ms : List Member) → AllByRecursion (MemberAims D) ms → AllByRecursion (MemberAims D) (map after_time ms)
  times_aim [] h = tt
  times_aim (x ∷ ms) h = ((member_time_aims D aim x h.0).member, times_aim ms h.1)

  pub sends_aim : (ms : List Member) → AllByRecursion (MemberAims D) ms → AllByRecursion (SentAims D) (flat_map sent_in_time ms)
  sends_aim [] h = tt
  sends_aim (x ∷ ms) h = all_joined (SentAims D) (sent_in_time x) (flat_map sent_in_time ms) (member_time_aims D aim x h.0).sent (sends_aim ms h.1)

  pub time_goes : (m mid : Mesh) (text : List ℕ) (ms : List Member) → Here D m ms → EachComes turn_comes m.order m text mid → Goes (IsStray D) m mid m.order timed
  time_goes m mid text ms h e =
      each_goes (IsStray D) timed turn_comes MemberFits (NoDistributors D) (λ x a out s q fit k. time_does wire.kept D x a out s q fit k) (λ x y a d q b h. d.none_comes b (q b h)) (λ a. true) m.order m text mid h.stable h.no_distributor h.once
      (all_parts MemberFits (member_of m) m.order (subst (λ xs. AllByRecursion MemberFits xs) (sym h.is) h.fits))
      (subst (λ bs. EachComes turn_comes bs m text mid) (sym (filter_all m.order)) e)

  -- ---- one packet

  or_false : (b : Bool) → (b || false) ≡ b
  or_false true = refl
  or_false false = refl

  takes_is : (m : Mesh) (p : Sent) (a : ℕ) (n : Option w.Member) (u : Option UpdaterMember) → AllByRecursion (λ (x : Member). is_for x p ≡ takes_by m (packet_of p) a n) (members_by a n u)
  takes_is m p a (Some n) u = (refl, tt)
  takes_is m p a None (Some u) = (or_false (p.to == a), tt)
  takes_is m p a None None = tt

  tried : (p : Sent) (b : Bool) (xs : List Member) → AllByRecursion Ready xs → AllByRecursion (λ (x : Member). is_for x p ≡ b) xs → IsTried (Takes p) (given p) b xs
  tried p true [] h k = tt
  tried p false [] h k = tt
  tried p true (x ∷ xs) h k = (record { fits = h.0.fits; handed = h.0.handed; its = k.0 }, tried p true xs h.1 k.1)
  tried p false (x ∷ xs) h k = (ap (given_if p x) k.0, tried p false xs h.1 k.1)

  pub all_tried : (m : Mesh) (p : Sent) (bs : List ℕ) → AllByRecursion (λ a. AllByRecursion Ready (member_of m a)) bs → AllByRecursion (λ a. IsTried (Takes p) (given p) (takes m (packet_of p) a) (member_of m a)) bs
  all_tried m p [] h = tt
  all_tried m p (a ∷ bs) h = (tried p (takes m (packet_of p) a) (member_of m a) h.0 (takes_is m p a (node_at m a) (updater_at m a)), all_tried m p bs h.1)

  pub slice_longer : (xs ys : List Packet) (k : ℕ) (x : Packet) → slice_get xs k ≡ Some x → slice_get (xs ++ ys) k ≡ Some x
  slice_longer [] ys k x h = cc
  slice_longer (y ∷ xs) ys zero x h = h
  slice_longer (y ∷ xs) ys (suc k) x h = slice_longer xs ys k x h

  pub aimed : (m : Mesh) (to : ℕ) (body : Body) → ((b : ℕ) → D b → distributor_at m b ≡ None) → BodyAims D to body → BodyAimed m to body
  aimed m to (Asks request) h k = h to k
  aimed m to (Replies reply) h k = tt

  pub aimed_still : (m next : Mesh) (to : ℕ) (body : Body) → NoneComes m next → BodyAimed m to body → BodyAimed next to body
  aimed_still m next to (Asks request) h k = h to k
  aimed_still m next to (Replies reply) h k = tt

  pub record Waits (number : ℕ) (p : Sent) (m : Mesh) : Type 0 where
    pub at : slice_get m.nodes.bag number ≡ Some (packet_of p)
    pub aims : Aimed m p

  pub packet_goes : (m mid : Mesh) (number : ℕ) (text : List ℕ) (p : Sent) (ms : List Member) → Here D m ms → AllByRecursion Ready ms → SentFits p → SentAims D p → slice_get m.nodes.bag number ≡ Some (packet_of p)
      → EachComes (given_to number) (addressees m (packet_of p)) m text mid → Goes NoStray m mid m.order (given p)
  packet_goes m mid number text p ms h ready fit to at e =
      each_goes NoStray (given p) (given_to number) (Takes p) (Waits number p) (λ x a out s q t k. packet_does wire x number a p out s q.at fit q.aims t k)
      (λ x y a d q. record {
        at = ap (λ (bag : List Packet). slice_get bag number) d.bag ∙ slice_longer x.nodes.bag _ number (packet_of p) q.at;
        aims = aimed_still x y p.to p.body d.none_comes q.aims;
      })
      (takes m (packet_of p)) m.order m text mid h.stable (record { at = at; aims = aimed m p.to p.body h.no_distributor to }) h.once
      (all_tried m p m.order (all_parts Ready (member_of m) m.order (subst (λ xs. AllByRecursion Ready xs) (sym h.is) ready))) e

  -- ---- a stray

  all_steady : (ms : List Member) → AllByRecursion Ready ms → AllByRecursion (MemberAims D) ms → AllByRecursion (Steady D) ms
  all_steady [] h k = tt
  all_steady (x ∷ ms) h k = (record { fits = h.0.fits; handed = h.0.handed; aims = k.0 }, all_steady ms h.1 k.1)

  pub all_stand : (xs : List Member) → AllByRecursion (λ (x : Member). stands x ≡ stands x) xs
  all_stand [] = tt
  all_stand (x ∷ xs) = (refl, all_stand xs)

  passed : (b : Bool) (xs : List Member) → AllByRecursion (Steady D) xs → IsTried (Steady D) stands b xs
  passed true xs h = h
  passed false xs h = all_stand xs

  all_passed : (m : Mesh) (packet : Packet) (bs : List ℕ) → AllByRecursion (λ a. AllByRecursion (Steady D) (member_of m a)) bs → AllByRecursion (λ a. IsTried (Steady D) stands (takes m packet a) (member_of m a)) bs
  all_passed m packet [] h = tt
  all_passed m packet (a ∷ bs) h = (passed (takes m packet a) (member_of m a) h.0, all_passed m packet bs h.1)

  pub all_pass : (m : Mesh) (packet : Packet) (ms : List Member) → Here D m ms → AllByRecursion Ready ms → AllByRecursion (λ a. IsTried (Steady D) stands (takes m packet a) (member_of m a)) m.order
  all_pass m packet ms h ready = all_passed m packet m.order (all_parts (Steady D) (member_of m) m.order (subst (λ xs. AllByRecursion (Steady D) xs) (sym h.is) (all_steady ms ready h.aims)))

  abbrev pub WaitsAt : ℕ → Packet → Mesh → Type 0
  WaitsAt number packet m = slice_get m.nodes.bag number ≡ Some packet

  pub stray_stays : (number : ℕ) (packet : Packet) (x y : Mesh) (a : ℕ) → Does NoStray x y a stands → WaitsAt number packet x → WaitsAt number packet y
  stray_stays number packet x y a d q = ap (λ (bag : List Packet). slice_get bag number) d.bag ∙ slice_longer x.nodes.bag _ number packet q

  pub stray_goes : (m mid : Mesh) (number : ℕ) (text : List ℕ) (packet : Packet) (ms : List Member) → IsStray D packet → Here D m ms → AllByRecursion Ready ms → slice_get m.nodes.bag number ≡ Some packet
      → EachComes (given_to number) (addressees m packet) m text mid → Goes NoStray m mid m.order stands
  stray_goes m mid number text packet ms stray h ready at e =
      each_goes NoStray stands (given_to number) (Steady D) (WaitsAt number packet) (λ x a out s q t k. stray_does D packet stray x number a out s q t k) (stray_stays number packet)
      (takes m packet) m.order m text mid h.stable at h.once (all_pass m packet ms h ready) e

  stand_still : (ms : List Member) → map (λ (x : Member). (stands x).member) ms ≡ ms
  stand_still ms = members_stand stands ms (all_stand ms)

  pub stray_here : (m mid : Mesh) (ms : List Member) → Here D m ms → Goes NoStray m mid m.order stands → Here D mid ms
  stray_here m mid ms h goes =
      subst (Here D mid) (stand_still ms)
      (here_after D NoStray m mid ms stands h goes (subst (λ (xs : List Member). AllByRecursion MemberFits xs) (sym (stand_still ms)) h.fits) (subst (λ (xs : List Member). AllByRecursion (MemberAims D) xs) (sym (stand_still ms)) h.aims))

  -- ---- what is left of the bag

  pub record Pending (m : Mesh) (number : ℕ) (packets : List Packet) : Type 0 where
    pub before : List Packet
    pub bag : m.nodes.bag ≡ before ++ packets
    pub number_is : number ≡ length before

  slice_at : (before more : List Packet) (x : Packet) → slice_get (before ++ x ∷ more) (length before) ≡ Some x
  slice_at [] more x = refl
  slice_at (y ∷ before) more x = slice_at before more x

  pub first_pending : (m : Mesh) (number : ℕ) (packet : Packet) (packets : List Packet) → Pending m number (packet ∷ packets) → slice_get m.nodes.bag number ≡ Some packet
  first_pending m number packet packets h = rw (h.bag, h.number_is) (slice_at h.before packets packet)

  one_more : (before : List Packet) (x : Packet) → length before + 1 ≡ length (before ++ x ∷ [])
  one_more before x = omega (arith, length-append before (x ∷ []))

  next_pending : (m mid : Mesh) (number : ℕ) (packet : Packet) (packets sent : List Packet) → Pending m number (packet ∷ packets) → mid.nodes.bag ≡ m.nodes.bag ++ sent → Pending mid (number + 1) (packets ++ sent)
  next_pending m mid number packet packets sent h e = record {
    before = h.before ++ packet ∷ [];
    bag =
        e
        ∙ (ap (λ (bag : List Packet). bag ++ sent) (h.bag ∙ sym (append_assoc h.before (packet ∷ []) packets))
        ∙ append_assoc (h.before ++ packet ∷ []) packets sent);
    number_is = ap (λ n. n + 1) h.number_is ∙ one_more h.before packet;
  }

  -- all that was sent without strays
  exact : (m mid : Mesh) (step : Member → Moved) → Goes NoStray m mid m.order step → mid.nodes.bag ≡ m.nodes.bag ++ map packet_of (flat_map (λ (x : Member). (step x).sent) (members m))
  exact m mid step g = g.bag ∙ ap (λ (ps : List Packet). m.nodes.bag ++ ps) (only_own g.mixed.entries g.mixed.strays ∙ ap (map packet_of) g.mixed.own)

  pub stray_pending : (m mid : Mesh) (number : ℕ) (packet : Packet) (packets : List Packet) → Pending m number (packet ∷ packets) → Goes NoStray m mid m.order stands → Pending mid (number + 1) packets
  stray_pending m mid number packet packets h goes =
      subst (Pending mid (number + 1)) (append-nil packets)
      (next_pending m mid number packet packets [] h (exact m mid stands goes ∙ ap (λ (ps : List Sent). m.nodes.bag ++ map packet_of ps) (none_sent stands (members m) (all_stand (members m)))))

  -- ---- each packet

  packets_ready : (p : Sent) (ms : List Member) → SentFits p → AllByRecursion Ready ms → AllByRecursion Ready (map (after_packet p) ms)
  packets_ready p [] k h = tt
  packets_ready p (x ∷ ms) k h = let g = member_packet laws p x k h.0.fits h.0.handed in (record { fits = g.member; handed = g.handed }, packets_ready p ms k h.1)

  pub packets_answered : (p : Sent) (ms : List Member) → SentFits p → AllByRecursion Ready ms → AllByRecursion IsAnswer (flat_map (answers_to p) ms)
  packets_answered p [] k h = tt
  packets_answered p (x ∷ ms) k h = all_joined IsAnswer (answers_to p x) (flat_map (answers_to p) ms) (member_packet laws p x k h.0.fits h.0.handed).sent (packets_answered p ms k h.1)

  packets_aim : (p : Sent) (ms : List Member) → AllByRecursion (MemberAims D) ms → AllByRecursion (MemberAims D) (map (after_packet p) ms)
  packets_aim p [] h = tt
  packets_aim p (x ∷ ms) h = (member_packet_aims D aim p x h.0, packets_aim p ms h.1)

  pub record Took (mid : Mesh) (number : ℕ) (p : Sent) (packets : List Packet) (ms : List Member) : Type 0 where
    pub here : Here D mid (map (after_packet p) ms)
    pub ready : AllByRecursion Ready (map (after_packet p) ms)
    pub pending : Pending mid (number + 1) (packets ++ map packet_of (flat_map (answers_to p) ms))

  same_packet : (m : Mesh) (number : ℕ) (packet first : Packet) (packets : List Packet) → Pending m number (first ∷ packets) → slice_get m.nodes.bag number ≡ Some packet → packet ≡ first
  same_packet m number packet first packets pending at =
      let own : slice_get m.nodes.bag number ≡ Some first = first_pending m number first packets pending in
      cc

  pub one_packet : (m mid : Mesh) (number : ℕ) (text : List ℕ) (p : Sent) (packets : List Packet) (ms : List Member) (packet : Packet) → Here D m ms → AllByRecursion Ready ms → SentFits p → SentAims D p
      → Pending m number (packet_of p ∷ packets) → slice_get m.nodes.bag number ≡ Some packet → EachComes (given_to number) (addressees m packet) m text mid → Took mid number p packets ms
  one_packet m mid number text p packets ms packet h ready fit to pending at e =
      let same : packet ≡ packet_of p = same_packet m number packet (packet_of p) packets pending at in
      let goes : Goes NoStray m mid m.order (given p) =
      packet_goes m mid number text p ms h ready fit to (first_pending m number (packet_of p) packets pending) (subst (λ (x : Packet). EachComes (given_to number) (addressees m x) m text mid) same e) in
      let after = packets_ready p ms fit ready in
      record {
        here = here_after D NoStray m mid ms (given p) h goes (ready_fits (map (after_packet p) ms) after) (packets_aim p ms h.aims);
        ready = after;
        pending =
            next_pending m mid number (packet_of p) packets (map packet_of (flat_map (answers_to p) ms)) pending
            (exact m mid (given p) goes ∙ ap (λ (xs : List Member). m.nodes.bag ++ map packet_of (flat_map (answers_to p) xs)) h.is);
      }

  pub record Passed (mid : Mesh) (number : ℕ) (packets : List Packet) (ms : List Member) : Type 0 where
    pub here : Here D mid ms
    pub pending : Pending mid (number + 1) packets

  pub one_stray : (m mid : Mesh) (number : ℕ) (text : List ℕ) (stray : Packet) (packets : List Packet) (ms : List Member) (packet : Packet) → IsStray D stray → Here D m ms → AllByRecursion Ready ms
      → Pending m number (stray ∷ packets) → slice_get m.nodes.bag number ≡ Some packet → EachComes (given_to number) (addressees m packet) m text mid → Passed mid number packets ms
  one_stray m mid number text stray packets ms packet is h ready pending at e =
      let same : packet ≡ stray = same_packet m number packet stray packets pending at in
      let goes : Goes NoStray m mid m.order stands =
      stray_goes m mid number text stray ms is h ready (first_pending m number stray packets pending) (subst (λ (x : Packet). EachComes (given_to number) (addressees m x) m text mid) same e) in
      record { here = stray_here m mid ms h goes; pending = stray_pending m mid number stray packets pending goes }

  -- ---- the end of the bag

  pub bag_length : (m : Mesh) (number : ℕ) (packets : List Packet) → Pending m number packets → length m.nodes.bag ≡ number + length packets
  bag_length m number packets h = ap length h.bag ∙ (length-append h.before packets ∙ ap (λ n. n + length packets) (sym h.number_is))

  nothing_left : (m : Mesh) (number : ℕ) (packet : Packet) → Pending m number [] → slice_get m.nodes.bag number ≡ Some packet → ⊥
  nothing_left m number packet h at =
      let within : number < length m.nodes.bag = slice_get_within m.nodes.bag number packet at in
      let none : List Packet = [] in
      let long : length m.nodes.bag ≡ number + length none = bag_length m number none h in
      omega (arith, within, long)

  something_left : (m : Mesh) (number : ℕ) (packet : Packet) (packets : List Packet) → Pending m number (packet ∷ packets) → length m.nodes.bag ≤ number → ⊥
  something_left m number packet packets h le =
      let long : length m.nodes.bag ≡ number + length (packet ∷ packets) = bag_length m number (packet ∷ packets) h in
      omega (arith, le, long)

  -- ---- answers: nobody answers them

  silent_node : (x : Member) (s : NodeState) (from : ℕ) (body : Body) → BodyAnswers body → (node_given x s from body).sent ≡ []
  silent_node x s from (Asks request) h = absurd h
  silent_node x s from (Replies reply) h = refl

  silent_updater : (x : Member) (c : Client) (image : List ℕ) (from : ℕ) (body : Body) → (updater_given x c image from body).sent ≡ []
  silent_updater x c image from (Asks request) = refl
  silent_updater x c image from (Replies reply) = refl

  silent_part : (x : Member) (p : Sent) (part : Part) → IsAnswer p → (part_given x p part).sent ≡ []
  silent_part x p (IsNode s) h = silent_node x s p.from p.body h
  silent_part x p (IsUpdater c image) h = silent_updater x c image p.from p.body

  silent_if : (x : Member) (p : Sent) (b : Bool) → IsAnswer p → (given_if p x b).sent ≡ []
  silent_if x p true h = silent_part x p x.part h
  silent_if x p false h = refl

  pub silent : (p : Sent) (ms : List Member) → IsAnswer p → flat_map (answers_to p) ms ≡ []
  silent p [] h = refl
  silent p (x ∷ ms) h = rw (silent_if x p (is_for x p) h, silent p ms h) refl

  pub none_more : (rs : List Sent) (r : Sent) (ms : List Member) → IsAnswer r → map packet_of rs ++ map packet_of (flat_map (answers_to r) ms) ≡ map packet_of rs
  none_more rs r ms h = ap (λ (ps : List Sent). map packet_of rs ++ map packet_of ps) (silent r ms h) ∙ append-nil (map packet_of rs)

  pub more_answers : (es : List Entry) (rs sent : List Sent) → (map packet_in es ++ map packet_of rs) ++ map packet_of sent ≡ map packet_in es ++ map packet_of (rs ++ sent)
  more_answers es rs sent = append_assoc (map packet_in es) (map packet_of rs) (map packet_of sent) ∙ ap (λ (ps : List Packet). map packet_in es ++ ps) (sym (map_joined packet_of rs sent))

  pub record Came (last : Mesh) (ms : List Member) : Type 0 where
    pub here : Here D last ms
    pub ready : AllByRecursion Ready ms

  answers_come : (rs : List Sent) (number : ℕ) (m : Mesh) (text : List ℕ) (last : Mesh) (ms : List Member) → Here D m ms → AllByRecursion Ready ms → AllByRecursion IsAnswer rs → Pending m number (map packet_of rs)
      → AllComes number m text last → Came last (delivered rs ms)
  answers_come [] number m text last ms h ready fit pending (none_left past) = record { here = h; ready = ready }
  answers_come [] number m text last ms h ready fit pending (comes first rest packet at e more) = absurd (nothing_left m number packet pending at)
  answers_come (r ∷ rs) number m text last ms h ready fit pending (none_left past) = absurd (something_left m number (packet_of r) (map packet_of rs) pending past)
  answers_come (r ∷ rs) number m text last ms h ready fit pending (comes {mid = mid} first rest packet at e more) =
      let took = one_packet m mid number first r (map packet_of rs) ms packet h ready (answers_fit (r ∷ []) (fit.0, tt)).0 (answers_aim D (r ∷ []) (fit.0, tt)).0 pending at e in
      answers_come rs (number + 1) mid rest last (map (after_packet r) ms) took.here took.ready fit.1 (subst (Pending mid (number + 1)) (none_more rs r ms fit.0) took.pending) more

  -- ---- what the time events sent, and the answers to it

  -- an own packet is as the grammar says and goes where no distributor is
  abbrev pub EntryGoes : Entry → Type 0
  EntryGoes (Own p) = SentFits p × SentAims D p
  EntryGoes (Stray packet) = IsStray D packet

  all_come : (es : List Entry) (rs : List Sent) (number : ℕ) (m : Mesh) (text : List ℕ) (last : Mesh) (ms : List Member) → Here D m ms → AllByRecursion Ready ms → AllByRecursion EntryGoes es → AllByRecursion IsAnswer rs
      → Pending m number (map packet_in es ++ map packet_of rs) → AllComes number m text last → Came last (delivered (rs ++ answers (own_in es) ms) (delivered (own_in es) ms))
  all_come [] rs number m text last ms h ready fit answer pending e =
      subst (λ (xs : List Sent). Came last (delivered xs ms)) (sym (append-nil rs)) (answers_come rs number m text last ms h ready answer pending e)
  all_come (x ∷ es) rs number m text last ms h ready fit answer pending (none_left past) = absurd (something_left m number (packet_in x) (map packet_in es ++ map packet_of rs) pending past)
  all_come (Own p ∷ es) rs number m text last ms h ready fit answer pending (comes {mid = mid} first rest packet at e more) =
      let took = one_packet m mid number first p (map packet_in es ++ map packet_of rs) ms packet h ready fit.0.0 fit.0.1 pending at e in
      let sent : List Sent = flat_map (answers_to p) ms in
      let came = all_come es (rs ++ sent) (number + 1) mid rest last (map (after_packet p) ms) took.here took.ready fit.1 (all_joined IsAnswer rs sent answer (packets_answered p ms fit.0.0 ready))
      (subst (Pending mid (number + 1)) (more_answers es rs sent) took.pending) more in
      subst (λ (xs : List Sent). Came last (delivered xs (delivered (own_in es) (map (after_packet p) ms)))) (append_assoc rs sent (answers (own_in es) (map (after_packet p) ms))) came
  all_come (Stray stray ∷ es) rs number m text last ms h ready fit answer pending (comes {mid = mid} first rest packet at e more) =
      let passes = one_stray m mid number first stray (map packet_in es ++ map packet_of rs) ms packet fit.0 h ready pending at e in
      all_come es rs (number + 1) mid rest last ms passes.here ready fit.1 answer passes.pending more

  -- what the time events sent is among the strays of distributors
  pub entries_go : (es : List Entry) → AllByRecursion SentFits (own_in es) → AllByRecursion (SentAims D) (own_in es) → AllByRecursion (EntryIs (IsStray D)) es → AllByRecursion EntryGoes es
  entries_go [] fit to h = tt
  entries_go (Own p ∷ es) fit to h = ((fit.0, to.0), entries_go es fit.1 to.1 h.1)
  entries_go (Stray packet ∷ es) fit to h = (h.0, entries_go es fit to h.1)

  pub record Timed (m mid : Mesh) (ms : List Member) : Type 0 where
    pub here : Here D mid (map after_time ms)
    pub ready : AllByRecursion Ready (map after_time ms)
    pub entries : List Entry
    pub own : own_in entries ≡ flat_map sent_in_time ms
    pub go : AllByRecursion EntryGoes entries
    pub pending : Pending mid (length m.nodes.bag) (map packet_in entries ++ [])

  pub time_passes : (m mid : Mesh) (text : List ℕ) (ms : List Member) → Here D m ms → EachComes turn_comes m.order m text mid → Timed m mid ms
  time_passes m mid text ms h e =
      let goes : Goes (IsStray D) m mid m.order timed = time_goes m mid text ms h e in
      let ready = times_ready ms h.fits in
      let es : List Entry = goes.mixed.entries in
      let own : own_in es ≡ flat_map sent_in_time ms = goes.mixed.own ∙ ap (flat_map sent_in_time) h.is in
      record {
        here = here_after D (IsStray D) m mid ms timed h goes (ready_fits (map after_time ms) ready) (times_aim ms h.aims);
        ready = ready;
        entries = es;
        own = own;
        go =
            entries_go es (subst (λ (ps : List Sent). AllByRecursion SentFits ps) (sym own) (times_send ms h.fits)) (subst (λ (ps : List Sent). AllByRecursion (SentAims D) ps) (sym own) (sends_aim ms h.aims))
            goes.mixed.strays;
        pending = record { before = m.nodes.bag; bag = goes.bag ∙ ap (λ (ps : List Packet). m.nodes.bag ++ ps) (sym (append-nil (map packet_in es))); number_is = refl };
      }

  -- ---- turns

  pub turn_goes : (m next : Mesh) (text : List ℕ) (ms : List Member) → Here D m ms → Turns m text next → Here D next (turn ms)
  turn_goes m next text ms h t =
      let passes = time_passes m t.mid t.first ms h t.time in
      let came : Came t.last (deliveries (flat_map sent_in_time ms) (map after_time ms)) =
      subst (λ (ps : List Sent). Came t.last (deliveries ps (map after_time ms))) passes.own (all_come passes.entries [] (length m.nodes.bag) t.mid t.rest t.last (map after_time ms) passes.here passes.ready passes.go tt passes.pending t.packets) in
      let k = came.here in
      subst (λ (x : Mesh). Here D x (turn ms)) (sym t.counted)
      (record { is = k.is; stable = record { at_rest = k.stable.at_rest; no_tear = k.stable.no_tear }; once = k.once; fits = k.fits; aims = k.aims; no_distributor = k.no_distributor })

  pub settles : (n : ℕ) (m : Mesh) (text : List ℕ) (next : Mesh) (ms : List Member) → Here D m ms → Settles n m text next → Here D next (settle n ms)
  settles zero m text next ms h s = subst (λ (x : Mesh). Here D x ms) (sym s.1) h
  settles (suc n) m text next ms h s = settles n s.0 s.2 next (turn ms) (turn_goes m s.0 s.1 ms h s.3) s.4
