-- What a client sends is its plan.
use Rattle.std.proofs.Common.{◌≡◌, ℕ, zero, suc, Bool, true, false, List, [], ◌∷◌, ◌++◌, map, take, drop, refl, Option, Some, None, inl, inr, sym}
use Rattle.std.specs.List.{AllByRecursion, flat_map}
use Rattle.mu_model_node.specs.NodeMessages.{Request}
use Rattle.mu_model_client.specs.declared.Sending.{Sending}
use Rattle.mu_model_client.specs.Sets.{below}
use Rattle.mu_model_client.specs.Client.{Purpose, Step, Check, Start, Information, Transfer, Block, Chunks, Pull, Get, Verify, Apply, Confirm, Cancel, Receiver, is_pending, Item, Says, Sends, Client, at_moment, row_of, chunk_total}
use Rattle.mu_model_client.specs.Lists.{step_message, pull_again, again_message, said_to, said_if, messages, lacking, destinations, chunk_items, missing_of, wanted_of, first_list, sent_for}
use Rattle.mu_model_client.specs.Due as d
use Rattle.mu_model_client.specs.Due.{Due, due}
use Rattle.mu_model_client_laws.specs.Asked.{address_and_index, receivers_of, HasReceiver, IsOfPlan, IsItemOfPlan, ClientsSendTheirPlans}
use Rattle.mu_model_client_laws.proofs.Cases.{counted_as, each_way}
use Rattle.mu_model_client_laws.proofs.Plans.{Keeps, begun_keeps, counted_keeps}

-- ---- receivers of the plan

abbrev AreIn : List (ℕ × ℕ) → List Receiver → Type 0
AreIn given rs = AllByRecursion (λ (r : Receiver). HasReceiver given r.row.address r.row.index) rs

in_more : (receiver : ℕ × ℕ) (given : List (ℕ × ℕ)) (rs : List Receiver) → AreIn given rs → AreIn (receiver ∷ given) rs
in_more receiver given [] h = tt
in_more receiver given (r ∷ rs) h = (inr h.0, in_more receiver given rs h.1)

own : (rs : List Receiver) → AreIn (map address_and_index (map row_of rs)) rs
own [] = tt
own (r ∷ rs) = (inl (refl, refl), in_more _ _ rs (own rs))

in_changed : (given : List (ℕ × ℕ)) (g : Receiver → Receiver) → Keeps g → (rs : List Receiver) → AreIn given rs → AreIn given (map g rs)
in_changed given g k [] h = tt
in_changed given g k (r ∷ rs) h = (rw (k.address r, k.index r) h.0, in_changed given g k rs h.1)

module _ (p : Sending) (purpose : Purpose) (given : List (ℕ × ℕ)) where
  abbrev Items : List Item → Type 0
  Items items = AllByRecursion (IsItemOfPlan p purpose given) items

  abbrev Packets : List (ℕ × Request) → Type 0
  Packets packets = AllByRecursion (λ (x : ℕ × Request). IsOfPlan p purpose given x.0 x.1) packets

  joined : (a b : List Item) → Items a → Items b → Items (a ++ b)
  joined [] b h k = k
  joined (x ∷ a) b h k = (h.0, joined a b h.1 k)

  dropped : (n : ℕ) (items : List Item) → Items items → Items (drop n items)
  dropped zero items h = h
  dropped (suc n) [] h = tt
  dropped (suc n) (x ∷ items) h = dropped n items h.1

  sent : (image : List ℕ) (n : ℕ) (items : List Item) → Items items → Packets (map (sent_for p image) (take n items))
  sent image zero items h = tt
  sent image (suc n) [] h = tt
  sent image (suc n) (Says to request ∷ items) h = (h.0, sent image n items h.1)
  sent image (suc n) (Sends to b k ∷ items) h = (tt, sent image n items h.1)

  -- ---- messages

  abbrev IsRight : (Receiver → Option Request) → Type 0
  IsRight message = (r : Receiver) → HasReceiver given r.row.address r.row.index → Items (said_to r.row.address (message r))

  said : (r : Receiver) (request : Option Request) (b : Bool) → Items (said_to r.row.address request) → Items (said_if r request b)
  said r request true h = h
  said r request false h = tt

  all_said : (message : Receiver → Option Request) → IsRight message → (rs : List Receiver) → AreIn given rs → Items (messages message rs)
  all_said message right [] h = tt
  all_said message right (r ∷ rs) h = joined _ _ (said r (message r) (is_pending r) (right r h.0)) (all_said message right rs h.1)

  step_right : (step : Step) → IsRight (step_message p purpose step)
  step_right Start r h = (record { ttl = refl; base = refl; id = refl; metadata = refl; receiver = h }, tt)
  step_right Check r h = (tt, tt)
  step_right Information r h = (tt, tt)
  step_right Transfer r h = (tt, tt)
  step_right (Block b) r h = (tt, tt)
  step_right (Chunks b) r h = tt
  step_right (Pull b) r h = tt
  step_right (Get b) r h = (tt, tt)
  step_right Verify r h = (tt, tt)
  step_right Apply r h = (tt, tt)
  step_right Confirm r h = (tt, tt)
  step_right Cancel r h = (tt, tt)

  pulled : (to : ℕ) (b : Bool) → Items (said_to to (pull_again b))
  pulled to true = tt
  pulled to false = (tt, tt)

  again_right : (step : Step) → IsRight (again_message p purpose step)
  again_right (Pull b) r h = pulled r.row.address r.heard
  again_right Start r h = step_right Start r h
  again_right Check r h = (tt, tt)
  again_right Information r h = (tt, tt)
  again_right Transfer r h = (tt, tt)
  again_right (Block b) r h = (tt, tt)
  again_right (Chunks b) r h = tt
  again_right (Get b) r h = (tt, tt)
  again_right Verify r h = (tt, tt)
  again_right Apply r h = (tt, tt)
  again_right Confirm r h = (tt, tt)
  again_right Cancel r h = (tt, tt)

  -- ---- chunks

  chunks_to : (b k : ℕ) (tos : List ℕ) → Items (map (λ to. Sends to b k) tos)
  chunks_to b k [] = tt
  chunks_to b k (to ∷ tos) = (tt, chunks_to b k tos)

  chunks_in : (b : ℕ) (tos : ℕ → List ℕ) (ks : List ℕ) → Items (flat_map (λ k. map (λ to. Sends to b k) (tos k)) ks)
  chunks_in b tos [] = tt
  chunks_in b tos (k ∷ ks) = joined _ _ (chunks_to b k (tos k)) (chunks_in b tos ks)

  chunks : (b : ℕ) (missing : Receiver → List Bool) (rs : List Receiver) → Items (chunk_items p b missing rs)
  chunks b missing rs = chunks_in b (λ k. destinations p (lacking missing rs k)) (below (chunk_total p b))

  first : (rs : List Receiver) (step : Step) → AreIn given rs → Items (first_list p purpose rs step)
  first rs (Chunks b) h = chunks b missing_of rs
  first rs Check h = all_said (step_message p purpose Check) (step_right Check) rs h
  first rs Start h = all_said (step_message p purpose Start) (step_right Start) rs h
  first rs Information h = all_said (step_message p purpose Information) (step_right Information) rs h
  first rs Transfer h = all_said (step_message p purpose Transfer) (step_right Transfer) rs h
  first rs (Block b) h = all_said (step_message p purpose (Block b)) (step_right (Block b)) rs h
  first rs (Pull b) h = all_said (step_message p purpose (Pull b)) (step_right (Pull b)) rs h
  first rs (Get b) h = all_said (step_message p purpose (Get b)) (step_right (Get b)) rs h
  first rs Verify h = all_said (step_message p purpose Verify) (step_right Verify) rs h
  first rs Apply h = all_said (step_message p purpose Apply) (step_right Apply) rs h
  first rs Confirm h = all_said (step_message p purpose Confirm) (step_right Confirm) rs h
  first rs Cancel h = all_said (step_message p purpose Cancel) (step_right Cancel) rs h

  -- ---- a time event

  abbrev Right : Due → Type 0
  Right e = Packets e.packets × Items e.next.queue

  sends : (c : Client) (image : List ℕ) (items : List Item) → c.sending ≡ p → Items items → Right (d.sends c image items)
  sends c image items e h = (rw e (sent image 16 items h), dropped 16 items h)

-- ---- each way

begun_right : (c : Client) (image : List ℕ) (given : List (ℕ × ℕ)) (step : Step) → AreIn given c.receivers → Right c.sending c.purpose given (d.sends (d.in_step c step) image (d.first_of c step))
begun_right c image given step h =
    sends c.sending c.purpose given (d.in_step c step) image (d.first_of c step) refl
    (first c.sending c.purpose given (d.in_step c step).receivers step (in_changed given (d.begun step) (begun_keeps step) c.receivers h))

after_right : (c : Client) (image : List ℕ) (o : Option Step) (step : Step) → Right c.sending c.purpose (receivers_of c) (d.sends (d.in_step (counted_as c o) step) image (d.first_of (counted_as c o) step))
after_right c image None step = begun_right c image (receivers_of c) step (own c.receivers)
after_right c image (Some s) step =
    begun_right (d.after_counting c s) image (receivers_of c) step
    (in_changed (receivers_of c) (d.round_counted s) (counted_keeps s) c.receivers (own c.receivers))

again : (c : Client) (image : List ℕ) (step : Step) → Right c.sending c.purpose (receivers_of c) (d.new_round (d.after_counting c step) image step)
again c image step =
    sends c.sending c.purpose (receivers_of c) (record (d.after_counting c step) { receivers = map d.unheard (d.after_counting c step).receivers; began = (d.after_counting c step).moment }) image _ refl
    (all_said c.sending c.purpose (receivers_of c) (again_message c.sending c.purpose step) (again_right c.sending c.purpose (receivers_of c) step) (d.after_counting c step).receivers
    (in_changed (receivers_of c) (d.round_counted step) (counted_keeps step) c.receivers (own c.receivers)))

pub clients_send : ClientsSendTheirPlans
clients_send c image now h =
    let right : Right c.sending c.purpose (receivers_of c) (due c image now) =
    each_way c image now (λ e. Right c.sending c.purpose (receivers_of c) e) (record {
      idle = (tt, h);
      rests = λ o k. (tt, tt);
      ends = λ o k part. (tt, tt);
      begins = λ o k step e. after_right (at_moment c now) image o step;
      goes_on_with = λ items e. sends c.sending c.purpose (receivers_of c) (at_moment c now) image items refl (rw (sym e) h);
      wants = λ b e items k. sends c.sending c.purpose (receivers_of c) (record (at_moment c now) { receivers = map d.unwanted c.receivers }) image items refl (rw (sym k) (chunks c.sending c.purpose (receivers_of c) b wanted_of c.receivers));
      again = λ step k. again (at_moment c now) image step;
    }) in
    record { packets = right.0; queue = right.1 }
