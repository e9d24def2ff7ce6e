-- Messages that are sent, one receiver after the other.
use Rattle.std.proofs.Common.{◌≡◌, ◌≤◌, ◌<◌, ◌+◌, ℕ, List, [], ◌∷◌, ◌++◌, sym, ap, ◌∙◌, inl, inr, Bool, true, false, Option, Some, None, map, take, drop, set, get_or, length, length-append, arith}
use Rattle.std.specs.Prelude.{min}
use Rattle.std.proofs.lemmas.Bool.{cases_lt}
use Rattle.std.proofs.lemmas.List.{take_more, take_more_set, take_all, drop_all, take-append-le, drop-append-le, append-nil, length-map, length-take, map-append}
use Rattle.std.proofs.lemmas.List.Concat.{flat_map-append}
use Rattle.mu_model_client.specs.declared.Sending.{Sending}
use Rattle.mu_model_client.specs.Client.{Purpose, Step, Item, Receiver}
use Rattle.mu_model_node.specs.NodeMessages.{Request}
use Rattle.mu_model_client.specs.Lists.{sent_for, said_if}
use Rattle.mu_receivers.specs.Messages.{list_message, listed, messages_left}
use Rattle.mu_receivers.specs.declared.slot.Slot.{Slot}
use Rattle.mu_receivers.specs.Receivers.{receiver_of}
use Rattle.mu_rounds.specs.Sents.{sent_of, sents_of}
use Rattle.mu_rounds.specs.Rounds.{SaysOne}
use Rattle.mu_rounds.specs.declared.said.Sent.{Sent}

-- the list of one more receiver
left_more : (p : Sending) (purpose : Purpose) (step : Step) (slots : List Slot) (i : ℕ) (s : Slot) → i < length slots → s ≡ get_or slots i s
    → messages_left p purpose step (take (i + 1) slots) ≡ messages_left p purpose step (take i slots) ++ listed p purpose step s
left_more p purpose step slots i s lt is =
    ap (messages_left p purpose step) (take_more slots i s lt ∙ ap (λ x. take i slots ++ x ∷ []) (sym is))
    ∙ flat_map-append (listed p purpose step) (take i slots) (s ∷ [])
    ∙ ap (λ x. messages_left p purpose step (take i slots) ++ x) (append-nil (listed p purpose step s))

left_set : (p : Sending) (purpose : Purpose) (step : Step) (slots : List Slot) (i : ℕ) (new : Slot) → i < length slots
    → messages_left p purpose step (take (i + 1) (set slots i new)) ≡ messages_left p purpose step (take i slots) ++ listed p purpose step new
left_set p purpose step slots i new lt =
    ap (messages_left p purpose step) (take_more_set slots i new lt)
    ∙ flat_map-append (listed p purpose step) (take i slots) (new ∷ [])
    ∙ ap (λ x. messages_left p purpose step (take i slots) ++ x) (append-nil (listed p purpose step new))

one_if : (r : Receiver) (request : Option Request) (b : Bool) → length (said_if r request b) ≤ 1
one_if r None true = omega arith
one_if r (Some request) true = omega arith
one_if r request false = omega arith

one_said : (p : Sending) (purpose : Purpose) (step : Step) (s : Slot) → length (listed p purpose step s) ≤ 1
one_said p purpose step s = one_if (receiver_of s) (list_message p purpose step (receiver_of s)) s.listed

-- how many are sent says whether there is room
pub record Room (sents : List Sent) (all : List Item) : Type 0 where
  pub some : length sents < 16 → length all < 16
  pub none : 16 ≤ length sents → 16 ≤ length all

room : (p : Sending) (purpose : Purpose) (image : List ℕ) (sents : List Sent) (all : List Item) → sents_of p purpose sents ≡ map (sent_for p image) (take 16 all) → Room sents all
room p purpose image sents all is =
    let long : length sents ≡ min 16 (length all) = sym (length-map sents (sent_of p purpose)) ∙ ap length is ∙ length-map (take 16 all) (sent_for p image) ∙ length-take 16 all in
    record { some = λ lt. omega (arith, long, lt); none = λ ge. omega (arith, long, ge) }

pub says_more : (p : Sending) (purpose : Purpose) (step : Step) (image : List ℕ) (slots : List Slot) (i : ℕ) (old new : Slot) (before after : List Sent)
    → i < length slots → old ≡ get_or slots i old → SaysOne p purpose step old new before after
    → sents_of p purpose before ≡ map (sent_for p image) (take 16 (messages_left p purpose step (take i slots)))
    → sents_of p purpose after ≡ map (sent_for p image) (take 16 (messages_left p purpose step (take (i + 1) slots)))
says_more p purpose step image slots i old new before after lt is says so =
    let all = messages_left p purpose step (take i slots) in
    let one = listed p purpose step old in
    let few = one_said p purpose step old in
    let long = length-append all one in
    let there = room p purpose image before all so in
    let more = left_more p purpose step slots i old lt is in
    elim (cases_lt (length before) 16) [
      | inl some ↦
          says.sent image some
          ∙ ap (λ x. x ++ map (sent_for p image) one) (so ∙ ap (map (sent_for p image)) (take_all 16 all (omega (arith, there.some some))))
          ∙ sym (map-append (sent_for p image) all one)
          ∙ ap (map (sent_for p image)) (sym (take_all 16 (all ++ one) (omega (arith, there.some some, few, long))) ∙ ap (take 16) (sym more))
      | inr none ↦
          ap (sents_of p purpose) (says.full none).0 ∙ so
          ∙ ap (map (sent_for p image)) (sym (take-append-le 16 all one (there.none none)) ∙ ap (take 16) (sym more))
    ]

pub leaves_more : (p : Sending) (purpose : Purpose) (step : Step) (olds news : List Slot) (i : ℕ) (old new : Slot) (before after : List Sent)
    → i < length olds → i < length news → old ≡ get_or olds i old → SaysOne p purpose step old new before after
    → sents_of p purpose before ≡ map (sent_for p []) (take 16 (messages_left p purpose step (take i olds)))
    → messages_left p purpose step (take i news) ≡ drop 16 (messages_left p purpose step (take i olds))
    → messages_left p purpose step (take (i + 1) (set news i new)) ≡ drop 16 (messages_left p purpose step (take (i + 1) olds))
leaves_more p purpose step olds news i old new before after lt inside is says so left =
    let all = messages_left p purpose step (take i olds) in
    let one = listed p purpose step old in
    let few = one_said p purpose step old in
    let long = length-append all one in
    let there = room p purpose [] before all so in
    let more = left_more p purpose step olds i old lt is in
    left_set p purpose step news i new inside
    ∙ elim (cases_lt (length before) 16) [
      | inl some ↦
          ap (λ x. x ++ listed p purpose step new) (left ∙ drop_all 16 all (omega (arith, there.some some))) ∙ says.left some
          ∙ sym (ap (drop 16) more ∙ drop_all 16 (all ++ one) (omega (arith, there.some some, few, long)))
      | inr none ↦
          ap (λ x. x ++ listed p purpose step new) left ∙ ap (λ x. drop 16 all ++ x) (says.full none).1
          ∙ sym (ap (drop 16) more ∙ drop-append-le 16 all one (there.none none))
    ]
