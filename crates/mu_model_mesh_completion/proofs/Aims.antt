-- What a client asks goes to its receivers, or to its group.
use Rattle.std.proofs.Common.{◌≡◌, ℕ, zero, suc, Bool, true, false, List, [], ◌∷◌, map, take, drop, refl, sym, ap, subst, ◌∙◌, inl, inr, ◌⊎◌}
use Rattle.std.specs.Prelude.{◌==◌, ◌&&◌, ◌||◌}
use Rattle.std.specs.List.{AllByRecursion, list_any}
use Rattle.std.proofs.lemmas.Bool.{eqb-true}
use Rattle.mu_model_node.specs.NodeMessages.{Request, Reply}
use Rattle.mu_model_client.specs.declared.Sending.{Sending}
use Rattle.mu_model_client.specs.Answers.{Answer, heard}
use Rattle.mu_model_client.specs.Begin.{is_ended}
use Rattle.mu_model_client.specs.Client.{Step, Receiver, is_active, Item, Says, Sends, Client, row_of}
use Rattle.mu_model_client.specs.Lists.{sent_for}
use Rattle.mu_model_client.specs.Rows.{Row}
use Rattle.mu_model_client.specs.Told.{told}
use Rattle.mu_model_client.specs.Due.{Due, due}
use Rattle.mu_model_client_laws.specs.Laws.{KeepsPlan, IsSound, EventsKeepSound, ListsGoToActive, MakesList, IsList, sends_none, goes_on_with, makes, GoesAmong, may_ask, is_one_of}
use Rattle.mu_model_completion.specs.Turn.{Member, Part, IsNode, IsUpdater, Body, Asks, Replies, Sent, asked_by, replied_by, later, part_timed, node_given, updater_given, part_given, is_for, given_if, after_packet}
use Rattle.mu_model_mesh_completion.proofs.Members.{due_ended, BodyAnswers, IsAnswer}

pub record AimLaws : Type 0 where
  pub plans : KeepsPlan
  pub lists : ListsGoToActive
  pub sound : EventsKeepSound

-- D holds of the destinations
module _ (D : ℕ → Type 0) where
  abbrev Addresses : List ℕ → Type 0
  Addresses xs = AllByRecursion D xs

  abbrev pub addresses_of : List Receiver → List ℕ
  addresses_of rs = map (λ (row : Row). row.address) (map row_of rs)

  abbrev ItemsAim : Sending → List ℕ → List Item → Type 0
  ItemsAim p image items = AllByRecursion (λ (i : Item). D (sent_for p image i).0) items

  abbrev PacketsAim : List (ℕ × Request) → Type 0
  PacketsAim packets = AllByRecursion (λ (x : ℕ × Request). D x.0) packets

  pub record ClientAims (c : Client) (image : List ℕ) : Type 0 where
    pub addresses : Addresses (addresses_of c.receivers)
    pub group : (c.sending.group == 0) ≡ false → D c.sending.group
    pub queue : ItemsAim c.sending image c.queue
    pub sound : IsSound c

  -- ---- a time event

  or_and : (a b x : Bool) → ((a && b) || x) ≡ true → (b ≡ true) ⊎ (x ≡ true)
  or_and true true x h = inl refl
  or_and true false x h = inr h
  or_and false b x h = inr h

  among : (step : Step) (rs : List Receiver) (to : ℕ) → Addresses (addresses_of rs) → is_one_of step rs to ≡ true → D to
  among step [] to h e = cc
  among step (r ∷ rs) to h e =
      elim (or_and (may_ask step (is_active r)) (r.row.address == to) (list_any (λ r. may_ask step (is_active r) && (r.row.address == to)) rs) e) as (λ _. D to) [
        | inl is ↦ subst D (eqb-true r.row.address to is) h.0
        | inr more ↦ among step rs to h.1 more
      ]

  made : (p : Sending) (image : List ℕ) (step : Step) (rs : List Receiver) (items : List Item) → Addresses (addresses_of rs) → ((p.group == 0) ≡ false → D p.group) → AllByRecursion (GoesAmong p rs step) items → ItemsAim p image items
  made p image step rs [] h g k = tt
  made p image step rs (Says to request ∷ items) h g k = (among step rs to h k.0, made p image step rs items h g k.1)
  made p image step rs (Sends to b n ∷ items) h g k =
      (elim k.0 as (λ _. D to) [ inl group ↦ subst D (sym group.1) (g group.0) | inr one ↦ among step rs to h one ], made p image step rs items h g k.1)

  taken : (p : Sending) (image : List ℕ) (n : ℕ) (items : List Item) → ItemsAim p image items → PacketsAim (map (sent_for p image) (take n items))
  taken p image zero items h = tt
  taken p image (suc n) [] h = tt
  taken p image (suc n) (x ∷ items) h = (h.0, taken p image n items h.1)

  dropped : (p : Sending) (image : List ℕ) (n : ℕ) (items : List Item) → ItemsAim p image items → ItemsAim p image (drop n items)
  dropped p image zero items h = h
  dropped p image (suc n) [] h = tt
  dropped p image (suc n) (x ∷ items) h = dropped p image n items h.1

  pub record DueAims (c : Client) (image : List ℕ) (now : ℕ) : Type 0 where
    pub next : ClientAims (due c image now).next image
    pub packets : PacketsAim (due c image now).packets

  record ListAims (p : Sending) (image : List ℕ) (e : Due) : Type 0 where
    queue : ItemsAim p image e.next.queue
    packets : PacketsAim e.packets

  list_aims : (c : Client) (image : List ℕ) (items : List Item) (e : Due) → IsList c image items e → ItemsAim c.sending image items → ListAims c.sending image e
  list_aims c image items e l h = record {
    queue = subst (ItemsAim c.sending image) (sym l.later) (dropped c.sending image 16 items h);
    packets = subst PacketsAim (sym l.now) (taken c.sending image 16 items h);
  }

  none_aims : (c : Client) (image : List ℕ) (e : Due) → e.packets ≡ [] → (e.next.queue ≡ c.queue) ⊎ (e.next.queue ≡ []) → ItemsAim c.sending image c.queue → ListAims c.sending image e
  none_aims c image e quiet (inl same) h = record { queue = subst (ItemsAim c.sending image) (sym same) h; packets = subst PacketsAim (sym quiet) tt }
  none_aims c image e quiet (inr gone) h = record { queue = subst (ItemsAim c.sending image) (sym gone) tt; packets = subst PacketsAim (sym quiet) tt }

  makes_aims : (c : Client) (image : List ℕ) (e : Due) → MakesList c image e → ClientAims c image → Addresses (addresses_of e.next.receivers) → e.next.sending ≡ c.sending → ListAims c.sending image e
  makes_aims c image e (sends_none quiet queue) h a s = none_aims c image e quiet queue h.queue
  makes_aims c image e (goes_on_with l) h a s = list_aims c image c.queue e l h.queue
  makes_aims c image e (makes step items at l k) h a s =
      list_aims c image items e l (made c.sending image step e.next.receivers items a h.group (subst (λ (p : Sending). AllByRecursion (GoesAmong p e.next.receivers step) items) s k))

  pub due_aims : AimLaws → (c : Client) (image : List ℕ) (now : ℕ) → ClientAims c image → DueAims c image now
  due_aims laws c image now h =
      let plan = laws.plans.dues c image now in
      let addresses : Addresses (addresses_of (due c image now).next.receivers) = subst Addresses (sym plan.addresses) h.addresses in
      let l = makes_aims c image (due c image now) (laws.lists c image now h.sound) h addresses plan.sending in
      record {
        next = record {
          addresses = addresses;
          group = subst (λ (p : Sending). (p.group == 0) ≡ false → D p.group) (sym plan.sending) h.group;
          queue = subst (λ (p : Sending). ItemsAim p image (due c image now).next.queue) (sym plan.sending) l.queue;
          sound = laws.sound.dues c image now h.sound;
        };
        packets = l.packets;
      }

  pub told_aims : AimLaws → (c : Client) (image : List ℕ) (from : ℕ) (answer : Answer) (now : ℕ) → ClientAims c image → ClientAims (told c from answer now) image
  told_aims laws c image from answer now h = record {
    addresses = subst Addresses (sym (laws.plans.tells c from answer now).addresses) h.addresses;
    group = h.group;
    queue = h.queue;
    sound = laws.sound.tells c from answer now h.sound;
  }

  -- ---- members

  abbrev pub PartAims : Part → Type 0
  PartAims (IsNode s) = Unit {0}
  PartAims (IsUpdater c image) = (is_ended c.place ≡ true) ⊎ ClientAims c image

  abbrev pub MemberAims : Member → Type 0
  MemberAims x = PartAims x.part

  abbrev pub BodyAims : ℕ → Body → Type 0
  BodyAims to (Asks request) = D to
  BodyAims to (Replies reply) = Unit {0}

  -- a request goes there
  abbrev pub SentAims : Sent → Type 0
  SentAims p = BodyAims p.to p.body

  asked_aim : (from : ℕ) (packets : List (ℕ × Request)) → PacketsAim packets → AllByRecursion SentAims (map (asked_by from) packets)
  asked_aim from [] h = tt
  asked_aim from (x ∷ packets) h = (h.0, asked_aim from packets h.1)

  replies_aim : (from : ℕ) (replies : List (ℕ × Reply)) → AllByRecursion SentAims (map (replied_by from) replies)
  replies_aim from [] = tt
  replies_aim from (r ∷ replies) = (tt, replies_aim from replies)

  pub record TimedAims (x : Member) (part : Part) : Type 0 where
    pub member : MemberAims (part_timed x part).member
    pub sent : AllByRecursion SentAims (part_timed x part).sent

  time_aims : AimLaws → (x : Member) (part : Part) → PartAims part → TimedAims x part
  time_aims laws x (IsNode s) h = record { member = tt; sent = replies_aim x.config.address _ }
  time_aims laws x (IsUpdater c image) (inl h) = record {
    member = inl (ap (λ (d : Due). is_ended d.next.place) (due_ended c image x.moment h) ∙ h);
    sent = subst (λ (d : Due). AllByRecursion SentAims (map (asked_by x.config.address) d.packets)) (sym (due_ended c image x.moment h)) tt;
  }
  time_aims laws x (IsUpdater c image) (inr h) =
      let d = due_aims laws c image x.moment h in
      record { member = inr d.next; sent = asked_aim x.config.address (due c image x.moment).packets d.packets }

  pub member_time_aims : AimLaws → (x : Member) → MemberAims x → TimedAims (later x) x.part
  member_time_aims laws x h = time_aims laws (later x) x.part h

  part_packet_aims : AimLaws → (x : Member) (p : Sent) (part : Part) → x.part ≡ part → PartAims part → MemberAims (part_given x p part).member
  part_packet_aims laws x p (IsNode s) is h = by_body p.body
    where
      by_body : (body : Body) → MemberAims (node_given x s p.from body).member
      by_body (Asks request) = tt
      by_body (Replies reply) = rw is tt
  part_packet_aims laws x p (IsUpdater c image) is h = by_body p.body h
    where
      told_or_ended : (from : ℕ) (answer : Answer) (now : ℕ) → (is_ended c.place ≡ true) ⊎ ClientAims c image → (is_ended c.place ≡ true) ⊎ ClientAims (told c from answer now) image
      told_or_ended from answer now (inl k) = inl k
      told_or_ended from answer now (inr k) = inr (told_aims laws c image from answer now k)

      by_body : (body : Body) → PartAims (IsUpdater c image) → MemberAims (updater_given x c image p.from body).member
      by_body (Replies reply) k = told_or_ended p.from (heard reply) x.moment k
      by_body (Asks request) k = rw is k

  if_packet_aims : AimLaws → (x : Member) (p : Sent) (b : Bool) → MemberAims x → MemberAims (given_if p x b).member
  if_packet_aims laws x p true h = part_packet_aims laws x p x.part refl h
  if_packet_aims laws x p false h = h

  pub member_packet_aims : AimLaws → (p : Sent) (x : Member) → MemberAims x → MemberAims (after_packet p x)
  member_packet_aims laws p x h = if_packet_aims laws x p (is_for x p) h

  -- an answer is no request
  answer_aims : (to : ℕ) (body : Body) → BodyAnswers body → BodyAims to body
  answer_aims to (Asks request) h = absurd h
  answer_aims to (Replies reply) h = tt

  pub answers_aim : (ps : List Sent) → AllByRecursion IsAnswer ps → AllByRecursion SentAims ps
  answers_aim [] h = tt
  answers_aim (p ∷ ps) h = (answer_aims p.to p.body h.0, answers_aim ps h.1)
