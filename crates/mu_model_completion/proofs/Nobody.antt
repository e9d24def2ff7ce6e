-- Where nobody has been dropped in the end, nobody was dropped before.
use Rattle.std.proofs.Common.{◌≡◌, ◌≤◌, ◌+◌, ℕ, zero, suc, List, [], ◌∷◌, refl, sym, ap, ◌∙◌, subst, true, false, Bool, Option, Some, None, arith, map}
use Rattle.std.specs.List.{flat_map}
use Rattle.mu_model_client.specs.declared.Plan.{Plan}
use Rattle.mu_model_client.specs.declared.Dropped.{Dropped}
use Rattle.mu_model_client.specs.Client.{Client, Receiver, Standing, stands_active, Idle, Active, Gone}
use Rattle.mu_model_client.specs.Begin.{start, cause_of}
use Rattle.mu_model_client.specs.Answers.{heard}
use Rattle.mu_model_client.specs.Told.{told}
use Rattle.mu_model_client.specs.Due.{due}
use Rattle.mu_model_client_laws.specs.Laws.{Each, StaysGone, DropsAreForGood, EventsSound, BeginSound, IsSound}
use Rattle.mu_model_completion.specs.Turn.{Member, Part, IsNode, IsUpdater, Body, Asks, Replies, Sent, part_timed, later, updater_given, part_given, given_if, is_for, after_packet, after_time, sent_in_time, answers, delivered, turn, settle}
use Rattle.mu_model_completion.specs.Completion.{CanBegin, Completed, drop_of, drops_of, drops_in, at_address, NoDrops}
use Rattle.mu_model_completion.proofs.Local.{mapped, at_mapped, time_keeps, takes, takes_keeps, delivered_is}
use Rattle.mu_model_completion.proofs.Stations.{settle_add}

module _ (drops : DropsAreForGood) (events : EventsSound) where
  -- ---- one client after another

  -- the one is sound, and whom the other had dropped is dropped
  pub record Follows (before after : Client) : Type 0 where
    pub sound : IsSound after
    pub stays : Each StaysGone before.receivers after.receivers

  each_same : (rs : List Receiver) → Each StaysGone rs rs
  each_same [] = tt
  each_same (r ∷ rs) = (record { stays = λ e. refl }, each_same rs)

  gone_on : (x y z : Receiver) → StaysGone x y → StaysGone y z → StaysGone x z
  gone_on x y z h k = record { stays = λ e. k.stays (ap stands_active (h.stays e) ∙ e) ∙ h.stays e }

  each_then : (xs ys zs : List Receiver) → Each StaysGone xs ys → Each StaysGone ys zs → Each StaysGone xs zs
  each_then [] [] [] h k = tt
  each_then [] [] (z ∷ zs) h k = absurd k
  each_then [] (y ∷ ys) zs h k = absurd h
  each_then (x ∷ xs) [] zs h k = absurd h
  each_then (x ∷ xs) (y ∷ ys) [] h k = absurd k
  each_then (x ∷ xs) (y ∷ ys) (z ∷ zs) h k = (gone_on x y z h.0 k.0, each_then xs ys zs h.1 k.1)

  -- a part that follows a client is an updater's, of the same image
  abbrev PartFollows : Client → Part → Type 0
  PartFollows c (IsNode s) = ⊥
  PartFollows c (IsUpdater d image) = Follows c d

  time_follows : (c : Client) (x : Member) (part : Part) → PartFollows c part → PartFollows c (part_timed (later x) part).member.part
  time_follows c x (IsNode s) h = absurd h
  time_follows c x (IsUpdater d image) h =
      let e = due d image (later x).moment in
      record { sound = events.dues d image (later x).moment h.sound; stays = each_then c.receivers d.receivers e.next.receivers h.stays (drops.dues d image (later x).moment h.sound) }

  body_follows : (c : Client) (x : Member) (d : Client) (image : List ℕ) (from : ℕ) (body : Body) → x.part ≡ IsUpdater d image → Follows c d → PartFollows c (updater_given x d image from body).member.part
  body_follows c x d image from (Replies reply) is h = record {
    sound = events.tells d from (heard reply) x.moment h.sound;
    stays = each_then c.receivers d.receivers (told d from (heard reply) x.moment).receivers h.stays (drops.tells d from (heard reply) x.moment h.sound);
  }
  body_follows c x d image from (Asks request) is h = subst (PartFollows c) (sym is) h

  part_follows : (c : Client) (p : Sent) (x : Member) (part : Part) → x.part ≡ part → PartFollows c part → PartFollows c (part_given x p part).member.part
  part_follows c p x (IsNode s) is h = absurd h
  part_follows c p x (IsUpdater d image) is h = body_follows c x d image p.from p.body is h

  packet_follows : (c : Client) (p : Sent) (x : Member) (its : Bool) → PartFollows c x.part → PartFollows c (given_if p x its).member.part
  packet_follows c p x true h = part_follows c p x x.part refl h
  packet_follows c p x false h = h

  all_follow : (c : Client) (ps : List Sent) (x : Member) → PartFollows c x.part → PartFollows c (takes ps x).part
  all_follow c [] x h = h
  all_follow c (p ∷ ps) x h = all_follow c ps (after_packet p x) (packet_follows c p x (is_for x p) h)

  -- ---- in a world

  abbrev OneFollows : Client → Option Member → Type 0
  OneFollows c None = ⊥
  OneFollows c (Some x) = PartFollows c x.part

  mapped_follows : (c : Client) (f : Member → Member) → ((x : Member) → PartFollows c x.part → PartFollows c (f x).part) → (found : Option Member) → OneFollows c found → OneFollows c (mapped f found)
  mapped_follows c f h None k = absurd k
  mapped_follows c f h (Some x) k = h x k

  turn_follows : (c : Client) (u : ℕ) (xs : List Member) → OneFollows c (at_address u xs) → OneFollows c (at_address u (turn xs))
  turn_follows c u xs h =
      let sent : List Sent = flat_map sent_in_time xs in
      let timed : List Member = map after_time xs in
      let back : List Sent = answers sent timed in
      let one = mapped_follows c after_time (λ x k. time_follows c x x.part k) (at_address u xs) h in
      let two = mapped_follows c (takes sent) (λ x k. all_follow c sent x k) (mapped after_time (at_address u xs)) one in
      let three = mapped_follows c (takes back) (λ x k. all_follow c back x k) (mapped (takes sent) (mapped after_time (at_address u xs))) two in
      let is : at_address u (turn xs) ≡ mapped (takes back) (mapped (takes sent) (mapped after_time (at_address u xs))) =
      ap (at_address u) (delivered_is back (delivered sent timed))
      ∙ (at_mapped (takes back) (takes_keeps back) u (delivered sent timed)
      ∙ ap (mapped (takes back)) (ap (at_address u) (delivered_is sent timed) ∙ (at_mapped (takes sent) (takes_keeps sent) u timed ∙ ap (mapped (takes sent)) (at_mapped after_time time_keeps u xs)))) in
      subst (OneFollows c) (sym is) three

  settle_follows : (c : Client) (u n : ℕ) (xs : List Member) → OneFollows c (at_address u xs) → OneFollows c (at_address u (settle n xs))
  settle_follows c u zero xs h = h
  settle_follows c u (suc n) xs h = settle_follows c u n (turn xs) (turn_follows c u xs h)

  -- ---- drops

  abbrev first_or : Option Dropped → List (Option Dropped) → Option Dropped
  first_or d [] = d
  first_or d (x ∷ xs) = x

  abbrev tail_of : List (Option Dropped) → List (Option Dropped)
  tail_of [] = []
  tail_of (x ∷ xs) = xs

  was_none : (before after : Receiver) → StaysGone before after → drop_of after ≡ None → (standing : Standing) → before.standing ≡ standing → cause_of standing ≡ None
  was_none before after h none Idle e = refl
  was_none before after h none Active e = refl
  was_none before after h none (Gone cause) e = sym (ap cause_of (h.stays (ap stands_active e) ∙ e)) ∙ none

  none_before : (xs ys : List Receiver) (to : List ℕ) → Each StaysGone xs ys → map drop_of ys ≡ map (λ (a : ℕ). None) to → map drop_of xs ≡ map (λ (a : ℕ). None) to
  none_before [] [] to h e = e
  none_before [] (y ∷ ys) to h e = absurd h
  none_before (x ∷ xs) [] to h e = absurd h
  none_before (x ∷ xs) (y ∷ ys) [] h e = absurd (grind (arith, e))
  none_before (x ∷ xs) (y ∷ ys) (a ∷ to) h e = cons_same (was_none x y h.0 (ap (first_or None) e) x.standing refl) (none_before xs ys to h.1 (ap tail_of e))
    where
      cons_same : {x y : Option Dropped} {xs ys : List (Option Dropped)} → x ≡ y → xs ≡ ys → (x ∷ xs) ≡ (y ∷ ys)
      cons_same e f = rw (e, f) refl

  abbrev list_or : Option (List (Option Dropped)) → List (Option Dropped)
  list_or None = []
  list_or (Some ds) = ds

  part_drops : (to : List ℕ) (c : Client) (found : Option Member) → OneFollows c found → drops_in found ≡ Some (map (λ (a : ℕ). None) to) → map drop_of c.receivers ≡ map (λ (a : ℕ). None) to
  part_drops to c None h e = absurd h
  part_drops to c (Some x) h e = by_part x.part h e
    where
      by_part : (part : Part) → PartFollows c part → drops_of part ≡ Some (map (λ (a : ℕ). None) to) → map drop_of c.receivers ≡ map (λ (a : ℕ). None) to
      by_part (IsNode s) h e = absurd h
      by_part (IsUpdater d image) h e = none_before c.receivers d.receivers to h.stays (ap list_or e)

  -- who isn't dropped later was_none dropped before
  earlier : (to : List ℕ) (u n : ℕ) (xs : List Member) (found : Option Member) → at_address u xs ≡ found → (c0 : Client) → OneFollows c0 found → NoDrops u to (settle n xs) → NoDrops u to xs
  earlier to u n xs None is c0 h later_ = absurd h
  earlier to u n xs (Some x) is c0 h later_ = by_part x.part refl h
    where
      by_part : (part : Part) → x.part ≡ part → PartFollows c0 part → NoDrops u to xs
      by_part (IsNode s) e k = absurd k
      by_part (IsUpdater d image) e k =
          let self : Follows d d = record { sound = k.sound; stays = each_same d.receivers } in
          let here : OneFollows d (at_address u xs) = subst (OneFollows d) (sym is) (subst (PartFollows d) (sym e) self) in
          ap drops_in is ∙ (ap drops_of e ∙ ap Some (part_drops to d (at_address u (settle n xs)) (settle_follows d u n xs here) later_))

  -- ---- the law

  module _ (begins : BeginSound) (plan : Plan) (image : List ℕ) (to : List ℕ) (members : List Member) (from : CanBegin plan image to members) (bound : ℕ)
      (completes : (n : ℕ) → bound ≤ n → Completed from.config.address to (settle n members)) where
    abbrev u : ℕ
    u = from.config.address

    abbrev first : Client
    first = start plan (map (λ a. (a, 0)) to)

    pub nobody : (n : ℕ) → NoDrops u to (settle n members)
    nobody n =
        let begun : OneFollows first (at_address u members) = subst (OneFollows first) (sym from.updater) (record { sound = begins.starts plan (map (λ a. (a, 0)) to); stays = each_same first.receivers }) in
        let last = (completes (n + bound) (omega arith)).drops in
        earlier to u bound (settle n members) (at_address u (settle n members)) refl first (settle_follows first u n members begun) (subst (λ xs. NoDrops u to xs) (sym (settle_add n bound members)) last)
