-- Members stay in the ranges of the grammar over a turn, and so is all that they send.
use Rattle.std.proofs.Common.{subst, sym, ◌≡◌, ◌≤◌, ℕ, Bool, true, false, List, [], ◌∷◌, map, refl, ap, ◌∙◌, arith, max, ◌⊎◌, inl, inr}
use Rattle.std.specs.List.{AllByRecursion}
use Rattle.mu_model_node.specs.NodeMessages.{Request, Reply}
use Rattle.mu_model_node.specs.NodeState.{NodeState, update_phase}
use Rattle.mu_model_node.specs.Events as e
use Rattle.mu_model_node.specs.Events.{on_request}
use Rattle.mu_model_node.specs.TimeTable.{on_time}
use Rattle.mu_model_client.specs.Answers.{heard}
use Rattle.mu_model_client.specs.declared.Sending.{Sending}
use Rattle.mu_model_client.specs.Begin.{is_ended}
use Rattle.mu_model_client.specs.Client as client
use Rattle.mu_model_client.specs.Client.{Client, Place, Before, At, Verified, Ended}
use Rattle.mu_model_client.specs.Told.{told}
use Rattle.mu_model_client.specs.Due as d
use Rattle.mu_model_client.specs.Due.{Due, due}
use Rattle.mu_model_client_laws.specs.Laws.{KeepsPlan}
use Rattle.mu_model_client_laws.specs.Wire.{InRange}
use Rattle.mu_model_fates.specs.Moments.{RequestsKeepMoments, TimeKeepsMoments}
use Rattle.mu_model_completion.specs.Turn.{Member, Part, IsNode, IsUpdater, Body, Asks, Replies, Sent, Moved, asked_by, replied_by, later, part_timed, timed, node_given, updater_given, part_given, is_for, given_if, given}
use Rattle.mu_model_mesh_completion.proofs.Replies.{ReplyFits}
use Rattle.mu_model_mesh_completion.proofs.Nodes.{Laws, NodeFits, Replied, request_fits, node_time_fits, moved}
use Rattle.mu_model_mesh_completion.proofs.Asks.{Pieces, ClientFits, Asked, due_fits, told_fits}
use Rattle.mu_model_mesh_completion.proofs.Moments.{due_keeps}

pub record AllLaws : Type 0 where
  pub nodes : Laws
  pub pieces : Pieces
  pub plans : KeepsPlan
  pub request_moments : RequestsKeepMoments
  pub time_moments : TimeKeepsMoments

-- ---- members

-- an updater sends from its own address; one that has ended sends nothing
abbrev pub PartFits : ℕ → Part → Type 0
PartFits address (IsNode s) = NodeFits s
PartFits address (IsUpdater c image) = (c.sending.from ≡ address) × ((is_ended c.place ≡ true) ⊎ ClientFits c image)

abbrev pub MemberFits : Member → Type 0
MemberFits x = PartFits x.config.address x.part

-- it was handed its moment
abbrev pub PartHanded : ℕ → Part → Type 0
PartHanded moment (IsNode s) = moment ≤ s.moment
PartHanded moment (IsUpdater c image) = moment ≤ c.moment

abbrev pub Handed : Member → Type 0
Handed x = PartHanded x.moment x.part

-- ---- packets

abbrev pub BodyFits : Body → Type 0
BodyFits (Asks request) = InRange request
BodyFits (Replies reply) = ReplyFits reply

abbrev pub SentFits : Sent → Type 0
SentFits p = BodyFits p.body

abbrev pub BodyAnswers : Body → Type 0
BodyAnswers (Asks request) = ⊥
BodyAnswers (Replies reply) = ReplyFits reply

-- a reply in its ranges
abbrev pub IsAnswer : Sent → Type 0
IsAnswer p = BodyAnswers p.body

answer_body : (body : Body) → BodyAnswers body → BodyFits body
answer_body (Asks request) h = absurd h
answer_body (Replies reply) h = h

pub answers_fit : (ps : List Sent) → AllByRecursion IsAnswer ps → AllByRecursion SentFits ps
answers_fit [] h = tt
answers_fit (p ∷ ps) h = (answer_body p.body h.0, answers_fit ps h.1)

replies_answer : (from : ℕ) (replies : List (ℕ × Reply)) → Replied replies → AllByRecursion IsAnswer (map (replied_by from) replies)
replies_answer from [] h = tt
replies_answer from (r ∷ replies) h = (h.0, replies_answer from replies h.1)

asked_fit : (from : ℕ) (packets : List (ℕ × Request)) → Asked packets → AllByRecursion SentFits (map (asked_by from) packets)
asked_fit from [] h = tt
asked_fit from (x ∷ packets) h = (h.0, asked_fit from packets h.1)

-- ---- time

pub record TimedFits (x : Member) (m : Moved) : Type 0 where
  pub member : MemberFits m.member
  pub handed : Handed m.member
  pub sent : AllByRecursion SentFits m.sent

at_least : (a b : ℕ) → b ≤ max a b
at_least a b = omega arith

ended_due : (c : Client) (image : List ℕ) (place : Place) → is_ended place ≡ true → d.by_place c image place ≡ d.sends_nothing c
ended_due c image (Before step) h = cc
ended_due c image (At step) h = cc
ended_due c image Verified h = cc
ended_due c image (Ended part) h = refl

pub due_ended : (c : Client) (image : List ℕ) (now : ℕ) → is_ended c.place ≡ true → due c image now ≡ d.sends_nothing (client.at_moment c now)
due_ended c image now h = ended_due (client.at_moment c now) image c.place h

module _ (laws : AllLaws) where
  updater_time : (x : Member) (c : Client) (image : List ℕ) (now : ℕ) → x.moment ≡ now → c.sending.from ≡ x.config.address → (is_ended c.place ≡ true) ⊎ ClientFits c image
      → TimedFits x (record { member = record x { part = IsUpdater (due c image now).next image }; sent = map (asked_by x.config.address) (due c image now).packets })
  updater_time x c image now e from (inl h) =
      subst (λ (q : Due). TimedFits x (record { member = record x { part = IsUpdater q.next image }; sent = map (asked_by x.config.address) q.packets }))
      (sym (due_ended c image now h)) (record { member = (from, inl h); handed = rw e (at_least c.moment now); sent = tt })
  updater_time x c image now e from (inr h) =
      let fit = due_fits laws.pieces laws.plans c image now h in
      record {
        member = (ap (λ (p : Sending). p.from) (laws.plans.dues c image now).sending ∙ from, inr fit.next);
        handed = subst (λ m. m ≤ (due c image now).next.moment) (sym e) (subst (λ m. now ≤ m) (sym (due_keeps image c now)) (at_least c.moment now));
        sent = asked_fit x.config.address (due c image now).packets fit.packets;
      }

  node_time : (x : Member) (s : NodeState) (now : ℕ) → x.moment ≡ now → NodeFits s
      → TimedFits x (record { member = record x { part = IsNode (on_time (e.at_moment s now) (update_phase (e.at_moment s now))).next }; sent = map (replied_by x.config.address) (on_time (e.at_moment s now) (update_phase (e.at_moment s now))).replies })
  node_time x s now is h =
      let t : NodeState = e.at_moment s now in
      let fit = node_time_fits laws.nodes t (moved s now h) in
      record {
        member = fit.next;
        handed = rw (is, laws.time_moments t) (at_least s.moment now);
        sent = answers_fit _ (replies_answer x.config.address (on_time t (update_phase t)).replies fit.replies);
      }

  part_time : (x : Member) (part : Part) → PartFits x.config.address part → TimedFits x (part_timed x part)
  part_time x (IsNode s) h = node_time x s x.moment refl h
  part_time x (IsUpdater c image) h = updater_time x c image x.moment refl h.0 h.1

  pub member_time : (x : Member) → MemberFits x → TimedFits (later x) (timed x)
  member_time x h = part_time (later x) x.part h

  -- ---- packets

  pub record GivenFits (m : Moved) : Type 0 where
    pub member : MemberFits m.member
    pub handed : Handed m.member
    pub sent : AllByRecursion IsAnswer m.sent

  node_packet : (x : Member) (s : NodeState) (from : ℕ) (body : Body) → x.part ≡ IsNode s → BodyFits body → NodeFits s → x.moment ≤ s.moment → GivenFits (node_given x s from body)
  node_packet x s from (Asks request) is k h m =
      let t : NodeState = e.at_moment s x.moment in
      let fit = request_fits laws.nodes t from request k (moved s x.moment h) in
      record {
        member = fit.next;
        handed = rw (laws.request_moments t from request) (at_least s.moment x.moment);
        sent = replies_answer x.config.address (on_request t from request).replies fit.replies;
      }
  node_packet x s from (Replies reply) is k h m = record { member = rw is h; handed = rw is m; sent = tt }

  updater_packet : (x : Member) (c : Client) (image : List ℕ) (from : ℕ) (body : Body) → x.part ≡ IsUpdater c image → PartFits x.config.address (IsUpdater c image) → x.moment ≤ c.moment → GivenFits (updater_given x c image from body)
  updater_packet x c image from (Replies reply) is h m =
      record {
        member = (h.0, elim h.1 as (λ _. (is_ended c.place ≡ true) ⊎ ClientFits (told c from (heard reply) x.moment) image) [ inl ended ↦ inl ended | inr fit ↦ inr (told_fits laws.plans c image from (heard reply) x.moment fit) ]);
        handed = at_least c.moment x.moment;
        sent = tt;
      }
  updater_packet x c image from (Asks request) is h m = record { member = rw is h; handed = rw is m; sent = tt }

  part_packet : (x : Member) (p : Sent) (part : Part) → x.part ≡ part → SentFits p → PartFits x.config.address part → PartHanded x.moment part → GivenFits (part_given x p part)
  part_packet x p (IsNode s) is k h m = node_packet x s p.from p.body is k h m
  part_packet x p (IsUpdater c image) is k h m = updater_packet x c image p.from p.body is h m

  if_given : (x : Member) (p : Sent) (b : Bool) → SentFits p → MemberFits x → Handed x → GivenFits (given_if p x b)
  if_given x p true k h m = part_packet x p x.part refl k h m
  if_given x p false k h m = record { member = h; handed = m; sent = tt }

  pub member_packet : (p : Sent) (x : Member) → SentFits p → MemberFits x → Handed x → GivenFits (given p x)
  member_packet p x k h m = if_given x p (is_for x p) k h m
