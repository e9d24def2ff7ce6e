-- What a client is told of one receiver by its node, whatever others say; and what the node is asked of a list.
use Rattle.std.proofs.Common.{◌≡◌, ◌==◌, ℕ, List, [], ◌∷◌, refl, sym, ap, ◌∙◌, subst, true, false, Bool, map, max}
use Rattle.std.specs.List.{AllByRecursion}
use Rattle.std.proofs.lemmas.Bool.{eq-eqb}
use Rattle.mu_model_image.specs.declared.Meta.{Meta}
use Rattle.mu_model_node.specs.declared.NodeConfig.{NodeConfig}
use Rattle.mu_model_node.specs.NodeMessages.{Request, Reply}
use Rattle.mu_model_node.specs.NodeState.{NodeState}
use Rattle.mu_model_node.specs.NodeOutcome.{Outcome}
use Rattle.mu_model_node.specs.Events.{at_moment, on_request}
use Rattle.mu_model_client.specs.Answers.{Answer, heard}
use Rattle.mu_model_client.specs.declared.Sending.{Sending}
use Rattle.mu_model_client.specs.Client.{Client, Receiver, Item, Says, Sends, Update, Place}
use Rattle.mu_model_client.specs.Lists.{sent_for}
use Rattle.mu_model_client.specs.Told as t
use Rattle.mu_model_client.specs.Told.{told}
use Rattle.mu_model_client_laws.specs.Laws.{KeepsPlan}
use Rattle.mu_model_completion.specs.Answering.{Answering, told_if_its, told_replies, said_by, reaches, asked_if, asked, others_say}
use Rattle.mu_model_completion.proofs.Asking.{is_to}
use Rattle.mu_model_completion.proofs.Among.{Here, KeepsAddress, here_mapped, first_if, mine}

module _ (laws : KeepsPlan) (p : Sending) (meta : Meta) (image : List ℕ) (config : NodeConfig) where
  abbrev a : ℕ
  a = config.address

  abbrev u : ℕ
  u = p.from

  abbrev pub client_in : Place → List Item → (began moment : ℕ) → List Receiver → Client
  client_in place queue began moment rs =
      record { sending = p; purpose = Update meta true; receivers = rs; place = place; queue = queue; began = began; moment = moment }

  -- the client is there, with this receiver among others
  pub record Stands (place : Place) (queue : List Item) (r : Receiver) (c : Client) : Type 0 where
    pub began : ℕ
    pub moment : ℕ
    pub rs : List Receiver
    pub is : c ≡ client_in place queue began moment rs
    pub here : Here config r rs

  -- ---- told by the node

  abbrev pub tell : Place → Reply → Receiver → Receiver
  tell place reply r = t.receiver_told (client_in place [] 0 0 []) (heard reply) r

  abbrev pub tell_if : Place → Reply → Receiver → Bool → Receiver
  tell_if place reply r true = tell place reply r
  tell_if place reply r false = r

  abbrev pub tells : Place → List (ℕ × Reply) → Receiver → Receiver
  tells place [] r = r
  tells place (reply ∷ replies) r = tells place replies (tell_if place reply.1 r (reply.0 == u))

  head_of : List ℕ → ℕ
  head_of [] = 0
  head_of (x ∷ xs) = x

  kept : (c : Client) (from : ℕ) (answer : Answer) → KeepsAddress config (λ r. t.told_if c answer r (r.row.address == from))
  unfolding head_of
  kept c from answer r = ap head_of (laws.tells (record c { receivers = r ∷ [] }) from answer 0).addresses

  told_own : (place : Place) (queue : List Item) (began moment : ℕ) (rs : List Receiver) (r : Receiver) → Here config r rs → r.row.address ≡ a → (reply : Reply) (now : ℕ)
      → Stands place queue (tell place reply r) (told (client_in place queue began moment rs) a (heard reply) now)
  told_own place queue began moment rs r here at_ reply now =
      let c : Client = client_in place queue began moment rs in
      let next = here_mapped config (λ z. t.told_if c (heard reply) z (z.row.address == a)) (kept c a (heard reply)) r rs here in
      let its : t.told_if c (heard reply) r (r.row.address == a) ≡ tell place reply r = ap (t.told_if c (heard reply) r) (eq-eqb r.row.address a at_) in
      record {
        began = began;
        moment = max moment now;
        rs = map (λ z. t.told_if c (heard reply) z (z.row.address == a)) rs;
        is = refl;
        here = subst (λ z. Here config z (map (λ z. t.told_if c (heard reply) z (z.row.address == a)) rs)) its next;
      }

  -- it stays at its address
  tell_kept : (place : Place) (reply : Reply) (r : Receiver) → r.row.address ≡ a → (tell place reply r).row.address ≡ a
  tell_kept place reply r at_ =
      let c : Client = client_in place [] 0 0 [] in
      ap (λ b. (t.told_if c (heard reply) r b).row.address) (sym (eq-eqb r.row.address a at_)) ∙ (kept c a (heard reply) r ∙ at_)

  if_kept : (place : Place) (reply : Reply) (r : Receiver) (its : Bool) → r.row.address ≡ a → (tell_if place reply r its).row.address ≡ a
  if_kept place reply r true at_ = tell_kept place reply r at_
  if_kept place reply r false at_ = at_

  pub tells_kept : (place : Place) (replies : List (ℕ × Reply)) (r : Receiver) → r.row.address ≡ a → (tells place replies r).row.address ≡ a
  tells_kept place [] r at_ = at_
  tells_kept place (reply ∷ replies) r at_ = tells_kept place replies (tell_if place reply.1 r (reply.0 == u)) (if_kept place reply.1 r (reply.0 == u) at_)

  its_stands : (place : Place) (queue : List Item) (began moment : ℕ) (rs : List Receiver) (r : Receiver) → Here config r rs → r.row.address ≡ a → (reply : Reply) (now : ℕ) (its : Bool)
      → Stands place queue (tell_if place reply r its) (told_if_its a now (client_in place queue began moment rs) reply its)
  its_stands place queue began moment rs r here at_ reply now true = told_own place queue began moment rs r here at_ reply now
  its_stands place queue began moment rs r here at_ reply now false = record { began = began; moment = moment; rs = rs; is = refl; here = here }

  pub replies_stand : (place : Place) (queue : List Item) (now : ℕ) (replies : List (ℕ × Reply)) (r : Receiver) (c : Client) → r.row.address ≡ a → Stands place queue r c
      → Stands place queue (tells place replies r) (told_replies a now c replies)
  replies_stand place queue now [] r c at_ s = s
  replies_stand place queue now (reply ∷ replies) r c at_ s =
      let one = its_stands place queue s.began s.moment s.rs r s.here at_ reply.1 now (reply.0 == u) in
      let next = replies_stand place queue now replies (tell_if place reply.1 r (reply.0 == u)) _ (if_kept place reply.1 r (reply.0 == u) at_) one in
      subst (λ z. Stands place queue (tells place (reply ∷ replies) r) (told_replies a now z (reply ∷ replies))) (sym s.is) next

  -- ---- told by others

  other_told : (place : Place) (queue : List Item) (r : Receiver) (c : Client) → r.row.address ≡ a → Stands place queue r c → (from : ℕ) (answer : Answer) (now : ℕ) → (a == from) ≡ false
      → Stands place queue r (told c from answer now)
  other_told place queue r c at_ s from answer now other =
      let d : Client = client_in place queue s.began s.moment s.rs in
      let next = here_mapped config (λ z. t.told_if d answer z (z.row.address == from)) (kept d from answer) r s.rs s.here in
      let not_its : t.told_if d answer r (r.row.address == from) ≡ r = ap (λ z. t.told_if d answer r (z == from)) at_ ∙ ap (t.told_if d answer r) other in
      subst (λ z. Stands place queue r (told z from answer now)) (sym s.is) (record {
        began = s.began;
        moment = max s.moment now;
        rs = map (λ z. t.told_if d answer z (z.row.address == from)) s.rs;
        is = refl;
        here = subst (λ z. Here config z (map (λ z. t.told_if d answer z (z.row.address == from)) s.rs)) not_its next;
      })

  pub others_stand : (place : Place) (queue : List Item) (now : ℕ) (said : List (ℕ × Answer)) (r : Receiver) (c : Client) → r.row.address ≡ a → Stands place queue r c
      → AllByRecursion (λ (x : ℕ × Answer). (a == x.0) ≡ false) said → Stands place queue r (others_say now c said)
  others_stand place queue now [] r c at_ s h = s
  others_stand place queue now (x ∷ said) r c at_ s h = others_stand place queue now said r (told c x.0 x.1 now) at_ (other_told place queue r c at_ s x.0 x.1 now h.0) h.1

  -- ---- what the node is asked

  -- a receiver and its node
  pub record Both : Type 0 where
    pub r : Receiver
    pub n : NodeState

  abbrev pub by_outcome : Place → Receiver → Outcome → Both
  by_outcome place r o = record { r = tells place o.replies r; n = o.next }

  abbrev pub request_of : Item → Request
  request_of i = (sent_for p image i).1

  abbrev pub asks_one : Place → ℕ → Item → Both → Both
  asks_one place now i x = by_outcome place x.r (on_request (at_moment x.n now) u (request_of i))

  abbrev pub asks_all : Place → ℕ → List Item → Both → Both
  asks_all place now [] x = x
  asks_all place now (i ∷ is) x = asks_all place now is (asks_one place now i x)

  pub record Asked (place : Place) (queue : List Item) (x : Both) (y : Answering) : Type 0 where
    pub client : Stands place queue x.r y.client
    pub at_ : x.r.row.address ≡ a
    pub node : y.node ≡ x.n

  one_asked : (place : Place) (queue : List Item) (now : ℕ) (i : Item) (x : Both) (y : Answering) → Asked place queue x y
      → Asked place queue (asks_one place now i x) (asked_if config now y (request_of i) true)
  one_asked place queue now i x y h =
      let o : Outcome = on_request (at_moment x.n now) u (request_of i) in
      let same : on_request (at_moment y.node now) y.client.sending.from (request_of i) ≡ o =
      ap (λ n. on_request (at_moment n now) y.client.sending.from (request_of i)) h.node ∙ ap (λ (c : Client). on_request (at_moment x.n now) c.sending.from (request_of i)) h.client.is in
      subst (λ z. Asked place queue (asks_one place now i x) (said_by config now y.client z)) (sym same) (record {
        client = replies_stand place queue now o.replies x.r y.client h.at_ h.client;
        at_ = tells_kept place o.replies x.r h.at_;
        node = refl;
      })

  to_is : (i : Item) → (sent_for p image i).0 ≡ is_to i
  to_is (Says to request) = refl
  to_is (Sends to b k) = refl

  by_case : (place : Place) (queue : List Item) (now : ℕ) (i : Item) (is : List Item) (x : Both) (y : Answering) → Asked place queue x y → (its : Bool)
      → ((w : Both) (z : Answering) → Asked place queue w z → Asked place queue (asks_all place now (mine config is) w) (asked config now z (map (sent_for p image) is)))
      → Asked place queue (asks_all place now (first_if config its i (mine config is)) x) (asked config now (asked_if config now y (request_of i) its) (map (sent_for p image) is))
  by_case place queue now i is x y h true rest = rest (asks_one place now i x) (asked_if config now y (request_of i) true) (one_asked place queue now i x y h)
  by_case place queue now i is x y h false rest = rest x y h

  -- of a list, the node is asked what goes to it
  pub all_asked : (place : Place) (queue : List Item) (now : ℕ) (is : List Item) (x : Both) (y : Answering) → Asked place queue x y
      → Asked place queue (asks_all place now (mine config is) x) (asked config now y (map (sent_for p image) is))
  all_asked place queue now [] x y h = h
  all_asked place queue now (i ∷ is) x y h =
      subst (λ to. Asked place queue (asks_all place now (mine config (i ∷ is)) x) (asked config now (asked_if config now y (request_of i) (reaches to config)) (map (sent_for p image) is))) (sym (to_is i))
      (by_case place queue now i is x y h (reaches (is_to i) config) (λ w z k. all_asked place queue now is w z k))
