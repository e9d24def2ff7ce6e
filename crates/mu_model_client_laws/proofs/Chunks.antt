-- The chunks of a step, and whom lists go to.
use Rattle.std.proofs.Common.{◌≡◌, inl, inr, ◌==◌, ℕ, zero, suc, List, [], ◌∷◌, ◌++◌, refl, sym, ap, ◌∙◌, subst, true, false, Bool, Option, Some, None, map, cond, take, drop}
use Rattle.std.specs.Prelude.{◌&&◌, ◌||◌, if◌then◌else◌, filter}
use Rattle.std.specs.List.{flat_map, AllByRecursion}
use Rattle.std.proofs.lemmas.Bool.{eq-eqb}
use Rattle.mu_model_wire.specs.Reports.{has}
use Rattle.mu_model_node.specs.NodeMessages.{Request}
use Rattle.mu_model_client.specs.Sets.{below}
use Rattle.mu_model_client.specs.declared.Sending.{Sending}
use Rattle.mu_model_client.specs.Client.{Step, Check, Start, Information, Transfer, Block, Chunks, Pull, Get, Verify, Apply, Confirm, Cancel, Part, Receiver, is_active, Item, Says, Sends, Place, At, Verified, Ended, Client, at_moment, chunk_total}
use Rattle.mu_model_client.specs.Lists as l
use Rattle.mu_model_client.specs.Lists.{chunk_items, lacks_chunk, lacking, missing_of, wanted_of, sent_for, first_list}
use Rattle.mu_model_client.specs.Told.{told}
use Rattle.mu_model_client.specs.Due as d
use Rattle.mu_model_client.specs.Due.{Due, due}
use Rattle.mu_model_client_laws.specs.Laws.{is_missed, ClientEvent, Time, Packet, sent_in, BeginsChunks, may_ask, is_one_of, GoesAmong, MakesList, sends_none, goes_on_with, makes, IsSound, IsAsked}
use Rattle.mu_model_client_laws.proofs.Cases.{counted_as, Ways, each_way}
use Rattle.mu_model_client_laws.proofs.Fated.{never}
use Rattle.mu_model_client_laws.proofs.Rising.{both_left}
use Rattle.mu_model_client_laws.proofs.Plans.{due_plan}
use Rattle.mu_model_client_laws.proofs.Sound.{in_step_sound, counting_sound}

-- ---- with a group

abbrev some_or_none : {A : Type 0} → A → Bool → List A
some_or_none x true = x ∷ []
some_or_none x false = []

group_by : (group : ℕ) (b : Bool) (address : ℕ) (others : List ℕ) (some : Bool) → l.to_group group others ≡ some_or_none group some
    → l.to_group group (l.lacking_if address b ++ others) ≡ some_or_none group (b || some)
group_by group true address others some h = refl
group_by group false address others some h = h

to_all : (group k : ℕ) (receivers : List Receiver) → l.to_group group (lacking missing_of receivers k) ≡ some_or_none group (is_missed receivers k)
to_all group k [] = refl
to_all group k (r ∷ rs) = group_by group (lacks_chunk missing_of k r) r.row.address (lacking missing_of rs k) (is_missed rs k) (to_all group k rs)

one_item : (group b k : ℕ) (some : Bool) → map (λ to. Sends to b k) (some_or_none group some) ≡ some_or_none (Sends group b k) some
one_item group b k true = refl
one_item group b k false = refl

by_case : {A : Type 0} (x : A) (some : Bool) (rest : List A) (g : ℕ → A) (p : ℕ → Bool) (k : ℕ) (ks : List ℕ) → x ≡ g k → rest ≡ map g (filter p ks)
    → some_or_none x some ++ rest ≡ map g (cond some (k ∷ filter p ks) (filter p ks))
by_case x true rest g p k ks e h = cons_same x (g k) rest (map g (filter p ks)) e h
  where
    cons_same : {A : Type 0} (x y : A) (xs ys : List A) → x ≡ y → xs ≡ ys → (x ∷ xs) ≡ (y ∷ ys)
    cons_same x y xs ys e h = rw (e, h) refl
by_case x false rest g p k ks e h = h

cut_list : {A : Type 0} (f : ℕ → List A) (g : ℕ → A) (p : ℕ → Bool) → ((k : ℕ) → f k ≡ some_or_none (g k) (p k)) → (ks : List ℕ) → flat_map f ks ≡ map g (filter p ks)
cut_list f g p h [] = refl
cut_list f g p h (k ∷ ks) = rw (h k) (by_case (g k) (p k) (flat_map f ks) g p k ks refl (cut_list f g p h ks))

pub group_gets : (p : Sending) (b : ℕ) (receivers : List Receiver) → (p.group == 0) ≡ false
    → chunk_items p b missing_of receivers ≡ map (λ k. Sends p.group b k) (filter (is_missed receivers) (below (chunk_total p b)))
group_gets p b receivers group =
    cut_list _ (λ k. Sends p.group b k) (is_missed receivers) (λ k. rw group (ap (λ tos. map (λ to. Sends to b k) tos) (to_all p.group k receivers) ∙ one_item p.group b k (is_missed receivers k))) (below (chunk_total p b))

-- ---- without a group

each_by : (b k : ℕ) (r : Receiver) (rest : List ℕ) (others : List Receiver) (some : Bool) → map (λ to. Sends to b k) rest ≡ map (λ (r : Receiver). Sends r.row.address b k) others
    → map (λ to. Sends to b k) (l.lacking_if r.row.address some ++ rest) ≡ map (λ (r : Receiver). Sends r.row.address b k) (cond some (r ∷ others) others)
each_by b k r rest others true h = ap (λ xs. Sends r.row.address b k ∷ xs) h
each_by b k r rest others false h = h

to_each : (b k : ℕ) (receivers : List Receiver) → map (λ to. Sends to b k) (lacking missing_of receivers k) ≡ map (λ (r : Receiver). Sends r.row.address b k) (filter (lacks_chunk missing_of k) receivers)
to_each b k [] = refl
to_each b k (r ∷ rs) = each_by b k r (lacking missing_of rs k) (filter (lacks_chunk missing_of k) rs) (lacks_chunk missing_of k r) (to_each b k rs)

flat_same : {A : Type 0} (f g : ℕ → List A) → ((k : ℕ) → f k ≡ g k) → (ks : List ℕ) → flat_map f ks ≡ flat_map g ks
flat_same f g h [] = refl
flat_same f g h (k ∷ ks) = rw (h k, flat_same f g h ks) refl

pub each_gets : (p : Sending) (b : ℕ) (receivers : List Receiver) → (p.group == 0) ≡ true
    → chunk_items p b missing_of receivers
    ≡ flat_map (λ k. map (λ (r : Receiver). Sends r.row.address b k) (filter (lacks_chunk missing_of k) receivers)) (below (chunk_total p b))
each_gets p b receivers group = flat_same _ _ (λ k. rw group (to_each b k receivers)) (below (chunk_total p b))

-- ---- over a step

take_drop : {A B : Type 0} (f : A → B) (n : ℕ) (xs : List A) → map f (take n xs) ++ map f (drop n xs) ≡ map f xs
take_drop f zero xs = refl
take_drop f (suc n) [] = refl
take_drop f (suc n) (x ∷ xs) = ap (λ ys. f x ∷ ys) (take_drop f n xs)

-- in the chunks of a block, what is sent until the list is sent is the list
module _ (image : List ℕ) (b : ℕ) where
  time_sends : (now : ℕ) (events : List ClientEvent) → ((c : Client) → c.place ≡ At (Chunks b) → sent_in c image events ≡ map (sent_for c.sending image) c.queue)
      → (c : Client) → c.place ≡ At (Chunks b) → (e : Due) (queue : List Item) → c.queue ≡ queue → e ≡ d.by_step (at_moment c now) image (Chunks b) (d.is_empty queue)
      → (if d.is_empty queue then [] else (e.packets ++ sent_in e.next image events)) ≡ map (sent_for c.sending image) queue
  time_sends now events rest c at_ e [] h same = refl
  time_sends now events rest c at_ e (item ∷ items) h same =
      let s : Due = d.sends (at_moment c now) image (item ∷ items) in
      let here : e ≡ s = same ∙ ap (λ xs. d.by_list (at_moment c now) image (Chunks b) xs) h in
      let later : sent_in s.next image events ≡ map (sent_for c.sending image) s.next.queue = rest s.next at_ in
      subst (λ (x : Due). x.packets ++ sent_in x.next image events ≡ map (sent_for c.sending image) (item ∷ items)) (sym here)
      (ap (λ xs. s.packets ++ xs) later ∙ take_drop (sent_for c.sending image) 16 (item ∷ items))

  step_sends : (events : List ClientEvent) (c : Client) → c.place ≡ At (Chunks b) → sent_in c image events ≡ map (sent_for c.sending image) c.queue
  step_sends [] c e = refl
  step_sends (Packet from answer now ∷ events) c e = step_sends events (told c from answer now) e
  step_sends (Time now ∷ events) c e =
      time_sends now events (step_sends events) c e (due c image now) c.queue refl (ap (λ place. d.by_place (at_moment c now) image place) e)

-- ---- the list of a step that begins

IsAt : Place → Type 0
IsAt (At step) = Unit {0}
IsAt _ = ⊥

step_of : Place → Step
step_of (At step) = step
step_of _ = Check

at_not : (place : Place) (step : Step) → place ≡ At step → IsAt place
unfolding IsAt
at_not place step e = subst IsAt (sym e) tt

same_step : (step other : Step) → At step ≡ At other → step ≡ other
unfolding step_of
same_step step other e = ap step_of e

abbrev SendsAll : ℕ → List ℕ → Client → Due → Type 0
SendsAll b image c e =
    BeginsChunks c e.next b
    → e.packets ++ map (sent_for c.sending image) e.next.queue ≡ map (sent_for c.sending image) (chunk_items c.sending b missing_of e.next.receivers)

first_items : (w : Client) (step : Step) (b : ℕ) → step ≡ Chunks b → d.first_of w step ≡ chunk_items w.sending b missing_of (d.in_step w step).receivers
first_items w step b e = subst (λ x. d.first_of w x ≡ chunk_items w.sending b missing_of (d.in_step w x).receivers) (sym e) refl

begin_sends : (c : Client) (image : List ℕ) (b : ℕ) (o : Option Step) (step : Step)
    → SendsAll b image c (d.sends (d.in_step (counted_as c o) step) image (d.first_of (counted_as c o) step))
begin_sends c image b None step h =
    take_drop (sent_for c.sending image) 16 (d.first_of c step) ∙ ap (map (sent_for c.sending image)) (first_items c step b (same_step step (Chunks b) h.begun))
begin_sends c image b (Some last) step h =
    take_drop (sent_for c.sending image) 16 (d.first_of (d.after_counting c last) step)
    ∙ ap (map (sent_for c.sending image)) (first_items (d.after_counting c last) step b (same_step step (Chunks b) h.begun))

not_here : {A : Type 0} (c next : Client) (b : ℕ) → c.place ≡ next.place → BeginsChunks c next b → A
not_here c next b e h = absurd (h.before (e ∙ h.begun))

not_at : {A : Type 0} (c next : Client) (b : ℕ) → (IsAt next.place → ⊥) → BeginsChunks c next b → A
not_at c next b k h = absurd (k (at_not next.place (Chunks b) h.begun))

verified_not : IsAt Verified → ⊥
unfolding IsAt
verified_not h = h

ended_not : (part : Part) → IsAt (Ended part) → ⊥
unfolding IsAt
ended_not part h = h

begin_ways : (c : Client) (image : List ℕ) (b : ℕ) → Ways c image (SendsAll b image c)
begin_ways c image b = record {
  idle = λ h. not_here c c b refl h;
  rests = λ o k h. not_at c _ b verified_not h;
  ends = λ o k part h. not_at c _ b (ended_not part) h;
  begins = λ o k step e. begin_sends c image b o step;
  goes_on_with = λ items e h. not_here c _ b refl h;
  wants = λ n e items k h. not_here c _ b refl h;
  again = λ step k h. not_here c _ b refl h;
}

pub steps_send : (c : Client) (image : List ℕ) (now b : ℕ) (events : List ClientEvent) → BeginsChunks c (due c image now).next b
    → (due c image now).packets ++ sent_in (due c image now).next image events
    ≡ map (sent_for c.sending image) (chunk_items c.sending b missing_of (due c image now).next.receivers)
steps_send c image now b events h =
    ap (λ xs. (due c image now).packets ++ xs) (step_sends image b events (due c image now).next h.begun ∙ ap (λ p. map (sent_for p image) (due c image now).next.queue) (due_plan c image now).sending)
    ∙ each_way c image now (SendsAll b image (at_moment c now)) (begin_ways (at_moment c now) image b) (record { before = h.before; begun = h.begun })

-- ---- whom a list goes to

all_append : {A : Type 0} (P : A → Type 0) (xs ys : List A) → AllByRecursion P xs → AllByRecursion P ys → AllByRecursion P (xs ++ ys)
all_append P [] ys h k = k
all_append P (x ∷ xs) ys h k = (h.0, all_append P xs ys h.1 k)

all_flat : {A : Type 0} (P : Item → Type 0) (f : A → List Item) → ((a : A) → AllByRecursion P (f a)) → (xs : List A) → AllByRecursion P (flat_map f xs)
all_flat P f h [] = tt
all_flat P f h (x ∷ xs) = all_append P (f x) (flat_map f xs) (h x) (all_flat P f h xs)

or_right : (a b : Bool) → b ≡ true → (a || b) ≡ true
or_right true b h = refl
or_right false b h = h

or_left : (a b : Bool) → a ≡ true → (a || b) ≡ true
or_left true b h = refl
or_left false b h = never h

both : (a b : Bool) → a ≡ true → b ≡ true → (a && b) ≡ true
both true b h k = k
both false b h k = h

module _ (p : Sending) (step : Step) where
  wider : (r : Receiver) (rs : List Receiver) (item : Item) → GoesAmong p rs step item → GoesAmong p (r ∷ rs) step item
  wider r rs (Says to request) h = or_right (may_ask step (is_active r) && (r.row.address == to)) (is_one_of step rs to) h
  wider r rs (Sends to b k) (inl h) = inl h
  wider r rs (Sends to b k) (inr h) = inr (or_right (may_ask step (is_active r) && (r.row.address == to)) (is_one_of step rs to) h)

  all_wider : (r : Receiver) (rs : List Receiver) (items : List Item) → AllByRecursion (GoesAmong p rs step) items → AllByRecursion (GoesAmong p (r ∷ rs) step) items
  all_wider r rs [] h = tt
  all_wider r rs (item ∷ items) h = (wider r rs item h.0, all_wider r rs items h.1)

  is_itself : (r : Receiver) (rs : List Receiver) → may_ask step (is_active r) ≡ true → is_one_of step (r ∷ rs) r.row.address ≡ true
  is_itself r rs h =
      or_left (may_ask step (is_active r) && (r.row.address == r.row.address)) (is_one_of step rs r.row.address)
      (both (may_ask step (is_active r)) (r.row.address == r.row.address) h (eq-eqb r.row.address r.row.address refl))

  said_goes : (r : Receiver) (rs : List Receiver) (request : Option Request) (pending : Bool) → (pending ≡ true → may_ask step (is_active r) ≡ true)
      → AllByRecursion (GoesAmong p (r ∷ rs) step) (l.said_if r request pending)
  said_goes r rs request false h = tt
  said_goes r rs None true h = tt
  said_goes r rs (Some request) true h = (is_itself r rs (h refl), tt)

  pub messages_go : (message : Receiver → Option Request) (rs : List Receiver) → AllByRecursion (IsAsked (At step)) rs → AllByRecursion (GoesAmong p rs step) (l.messages message rs)
  messages_go message [] h = tt
  messages_go message (r ∷ rs) h =
      all_append (GoesAmong p (r ∷ rs) step) (l.said_if r (message r) r.pending) (l.messages message rs) (said_goes r rs (message r) r.pending (λ e. h.0.may e))
      (all_wider r rs (l.messages message rs) (messages_go message rs h.1))

  -- an address of an active receiver
  abbrev IsTo : List Receiver → ℕ → Type 0
  IsTo rs to = is_one_of step rs to ≡ true

  active_may : (step : Step) (active : Bool) → active ≡ true → may_ask step active ≡ true
  active_may Cancel active h = refl
  active_may Check active h = h
  active_may Start active h = h
  active_may Information active h = h
  active_may Transfer active h = h
  active_may (Block b) active h = h
  active_may (Chunks b) active h = h
  active_may (Pull b) active h = h
  active_may (Get b) active h = h
  active_may Verify active h = h
  active_may Apply active h = h
  active_may Confirm active h = h

  to_wider : (r : Receiver) (rs : List Receiver) (tos : List ℕ) → AllByRecursion (IsTo rs) tos → AllByRecursion (IsTo (r ∷ rs)) tos
  to_wider r rs [] h = tt
  to_wider r rs (to ∷ tos) h = (or_right (may_ask step (is_active r) && (r.row.address == to)) (is_one_of step rs to) h.0, to_wider r rs tos h.1)

  lacks_to : (r : Receiver) (rs : List Receiver) (some : Bool) → (some ≡ true → is_active r ≡ true) → AllByRecursion (IsTo (r ∷ rs)) (l.lacking_if r.row.address some)
  lacks_to r rs true h = (is_itself r rs (active_may step (is_active r) (h refl)), tt)
  lacks_to r rs false h = tt

  lacking_to : (missing : Receiver → List Bool) (k : ℕ) (rs : List Receiver) → AllByRecursion (IsTo rs) (lacking missing rs k)
  lacking_to missing k [] = tt
  lacking_to missing k (r ∷ rs) =
      all_append (IsTo (r ∷ rs)) (l.lacking_if r.row.address (lacks_chunk missing k r)) (lacking missing rs k)
      (lacks_to r rs (lacks_chunk missing k r) (λ e. both_left (is_active r) (has (missing r) k) e))
      (to_wider r rs (lacking missing rs k) (lacking_to missing k rs))

  each_to : (b k : ℕ) (rs : List Receiver) (tos : List ℕ) → AllByRecursion (IsTo rs) tos → AllByRecursion (GoesAmong p rs step) (map (λ to. Sends to b k) tos)
  each_to b k rs [] h = tt
  each_to b k rs (to ∷ tos) h = (inr h.0, each_to b k rs tos h.1)

  group_to : (b k : ℕ) (rs : List Receiver) (tos : List ℕ) → (p.group == 0) ≡ false → AllByRecursion (GoesAmong p rs step) (map (λ to. Sends to b k) (l.to_group p.group tos))
  group_to b k rs [] e = tt
  group_to b k rs (to ∷ tos) e = (inl (e, refl), tt)

  destined : (b k : ℕ) (rs : List Receiver) (tos : List ℕ) (alone : Bool) → (p.group == 0) ≡ alone → AllByRecursion (IsTo rs) tos
      → AllByRecursion (GoesAmong p rs step) (map (λ to. Sends to b k) (if alone then tos else l.to_group p.group tos))
  destined b k rs tos true e h = each_to b k rs tos h
  destined b k rs tos false e h = group_to b k rs tos e

  pub chunks_go : (b : ℕ) (missing : Receiver → List Bool) (rs : List Receiver) → AllByRecursion (GoesAmong p rs step) (chunk_items p b missing rs)
  chunks_go b missing rs =
      all_flat (GoesAmong p rs step) (λ k. map (λ to. Sends to b k) (l.destinations p (lacking missing rs k)))
      (λ k. destined b k rs (lacking missing rs k) (p.group == 0) refl (lacking_to missing k rs)) (below (chunk_total p b))

-- the first list of a step
first_goes : (c : Client) (step : Step) → AllByRecursion (GoesAmong c.sending (d.in_step c step).receivers step) (d.first_of c step)
first_goes c (Chunks b) = chunks_go c.sending (Chunks b) b missing_of (d.in_step c (Chunks b)).receivers
first_goes c Check = messages_go c.sending Check (l.step_message c.sending c.purpose Check) _ (in_step_sound c Check)
first_goes c Start = messages_go c.sending Start (l.step_message c.sending c.purpose Start) _ (in_step_sound c Start)
first_goes c Information = messages_go c.sending Information (l.step_message c.sending c.purpose Information) _ (in_step_sound c Information)
first_goes c Transfer = messages_go c.sending Transfer (l.step_message c.sending c.purpose Transfer) _ (in_step_sound c Transfer)
first_goes c (Block b) = messages_go c.sending (Block b) (l.step_message c.sending c.purpose (Block b)) _ (in_step_sound c (Block b))
first_goes c (Pull b) = messages_go c.sending (Pull b) (l.step_message c.sending c.purpose (Pull b)) _ (in_step_sound c (Pull b))
first_goes c (Get b) = messages_go c.sending (Get b) (l.step_message c.sending c.purpose (Get b)) _ (in_step_sound c (Get b))
first_goes c Verify = messages_go c.sending Verify (l.step_message c.sending c.purpose Verify) _ (in_step_sound c Verify)
first_goes c Apply = messages_go c.sending Apply (l.step_message c.sending c.purpose Apply) _ (in_step_sound c Apply)
first_goes c Confirm = messages_go c.sending Confirm (l.step_message c.sending c.purpose Confirm) _ (in_step_sound c Confirm)
first_goes c Cancel = messages_go c.sending Cancel (l.step_message c.sending c.purpose Cancel) _ (in_step_sound c Cancel)

begin_makes : (c : Client) (image : List ℕ) (o : Option Step) (step : Step) → MakesList c image (d.sends (d.in_step (counted_as c o) step) image (d.first_of (counted_as c o) step))
begin_makes c image None step = makes step (d.first_of c step) refl (record { now = refl; later = refl }) (first_goes c step)
begin_makes c image (Some last) step =
    makes step (d.first_of (d.after_counting c last) step) refl (record { now = refl; later = refl }) (first_goes (d.after_counting c last) step)

module _ (p : Sending) (step : Step) where
  one_unheard : (g : Receiver → Receiver) → ((r : Receiver) → is_active (g r) ≡ is_active r) → ((r : Receiver) → (g r).row.address ≡ r.row.address)
      → (rs : List Receiver) (to : ℕ) → is_one_of step (map g rs) to ≡ is_one_of step rs to
  one_unheard g a e [] to = refl
  one_unheard g a e (r ∷ rs) to = rw (a r, e r, one_unheard g a e rs to) refl

  goes_same : (g : Receiver → Receiver) → ((r : Receiver) → is_active (g r) ≡ is_active r) → ((r : Receiver) → (g r).row.address ≡ r.row.address)
      → (rs : List Receiver) (item : Item) → GoesAmong p rs step item → GoesAmong p (map g rs) step item
  goes_same g a e rs (Says to request) h = one_unheard g a e rs to ∙ h
  goes_same g a e rs (Sends to b k) (inl h) = inl h
  goes_same g a e rs (Sends to b k) (inr h) = inr (one_unheard g a e rs to ∙ h)

  pub all_goes_same : (g : Receiver → Receiver) → ((r : Receiver) → is_active (g r) ≡ is_active r) → ((r : Receiver) → (g r).row.address ≡ r.row.address)
      → (rs : List Receiver) (items : List Item) → AllByRecursion (GoesAmong p rs step) items → AllByRecursion (GoesAmong p (map g rs) step) items
  all_goes_same g a e rs [] h = tt
  all_goes_same g a e rs (item ∷ items) h = (goes_same g a e rs item h.0, all_goes_same g a e rs items h.1)

sound_at : (c : Client) (place : Place) → c.place ≡ place → IsSound c → AllByRecursion (IsAsked place) c.receivers
sound_at c place e h = subst (λ x. AllByRecursion (IsAsked x) c.receivers) e h

list_ways : (c : Client) (image : List ℕ) → IsSound c → Ways c image (MakesList c image)
list_ways c image h = record {
  idle = sends_none refl (inl refl);
  rests = λ o k. sends_none refl (inr refl);
  ends = λ o k part. sends_none refl (inr refl);
  begins = λ o k step e. begin_makes c image o step;
  goes_on_with = λ items e. goes_on_with (record { now = ap (λ xs. map (sent_for c.sending image) (take 16 xs)) (sym e); later = ap (drop 16) (sym e) });
  wants = λ b e items k. makes (Pull b) items e (record { now = refl; later = refl })
      (all_goes_same c.sending (Pull b) d.unwanted (λ r. refl) (λ r. refl) c.receivers items
      (subst (AllByRecursion (GoesAmong c.sending c.receivers (Pull b))) k (chunks_go c.sending (Pull b) b wanted_of c.receivers)));
  again = λ step k. makes step _ k.place_is (record { now = refl; later = refl })
      (all_goes_same c.sending step d.unheard (λ r. refl) (λ r. refl) (d.after_counting c step).receivers _
      (messages_go c.sending step (l.again_message c.sending c.purpose step) (d.after_counting c step).receivers (sound_at (d.after_counting c step) (At step) k.place_is (counting_sound c step h))));
}

as_same : (c : Client) (image : List ℕ) (now : ℕ) (e : Due) → MakesList (at_moment c now) image e → MakesList c image e
as_same c image now e (sends_none a b) = sends_none a b
as_same c image now e (goes_on_with a) = goes_on_with (record { now = a.now; later = a.later })
as_same c image now e (makes step items at_ a b) = makes step items at_ (record { now = a.now; later = a.later }) b

pub lists_go : (c : Client) (image : List ℕ) (now : ℕ) → IsSound c → MakesList c image (due c image now)
lists_go c image now h = as_same c image now (due c image now) (each_way c image now (MakesList (at_moment c now) image) (list_ways (at_moment c now) image h))
