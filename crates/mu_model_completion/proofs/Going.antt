-- What a client's time event makes of one receiver, and of what of its list goes to that receiver's node, whatever the others are.
use Rattle.std.proofs.Common.{◌≡◌, ◌⊎◌, inl, inr, ◌+◌, ◌==◌, ℕ, List, [], ◌∷◌, ◌++◌, refl, sym, ap, ◌∙◌, subst, true, false, Bool, arith, map, max, take, drop}
use Rattle.std.specs.Prelude.{not, nat_le, ◌||◌, ◌&&◌, if◌then◌else◌}
use Rattle.std.specs.List.{list_any}
use Rattle.std.proofs.lemmas.Bool.{eq-eqb}
use Rattle.mu_model_image.specs.declared.Meta.{Meta}
use Rattle.mu_model_node.specs.declared.NodeConfig.{NodeConfig}
use Rattle.mu_model_client.specs.declared.Sending.{Sending}
use Rattle.mu_model_client.specs.Rows.{apply_success}
use Rattle.mu_model_client.specs.Client.{Client, Receiver, is_pending, is_in, is_begun_for, Item, Update, Place, At, Step, Check, Start, Information, Transfer, Block, Chunks, Pull, Get, Verify, Apply, Confirm, Cancel, round_time}
use Rattle.mu_model_client.specs.Lists as l
use Rattle.mu_model_client.specs.Lists.{sent_for, messages, first_list, chunk_items, wanted_of}
use Rattle.mu_model_client.specs.Due as d
use Rattle.mu_model_client.specs.Due.{Due, due, Go}
use Rattle.mu_model_client_laws.specs.Laws.{KeepsPlan}
use Rattle.mu_model_completion.specs.Answering.{reaches}
use Rattle.mu_model_completion.proofs.Stations.{begun_place}
use Rattle.mu_model_completion.proofs.Among.{Here, AllOf, chunks_are_of, mine_of, here_mapped, passed_here, mine, mine_split, mine_messages}
use Rattle.mu_model_completion.proofs.Hears.{client_in, Stands}

module _ (laws : KeepsPlan) (p : Sending) (meta : Meta) (image : List ℕ) (config : NodeConfig) where
  abbrev a : ℕ
  a = config.address

  abbrev client_at : Place → List Item → (began moment : ℕ) → List Receiver → Client
  client_at place queue began moment rs = client_in laws p meta image config place queue began moment rs

  -- after a time event: the place, the receiver, and what goes to its node now and later
  pub record Sent (place : Place) (r : Receiver) (list : List Item) (e : Due) : Type 0 where
    pub items : List Item
    pub queue : List Item
    pub began : ℕ
    pub moment : ℕ
    pub rs : List Receiver
    pub next_is : e.next ≡ client_at place queue began moment rs
    pub packets_are : e.packets ≡ map (sent_for p image) items
    pub here : Here config r rs
    pub split : mine config items ++ mine config queue ≡ list

  -- the step is done, and what comes after it begins
  pub record Next (step : Step) (r : Receiver) (e : Due) : Type 0 where
    pub queue : List Item
    pub began : ℕ
    pub moment : ℕ
    pub rs : List Receiver
    pub here : Here config r rs
    pub goes : e ≡ d.goes_on (client_at (At step) queue began moment rs) image (d.after p (Update meta true) rs step)

  sends_list : (place : Place) (queue : List Item) (began moment : ℕ) (rs : List Receiver) (r : Receiver) (list : List Item) → Here config r rs
      → Sent place r (mine config list) (d.sends (client_at place queue began moment rs) image list)
  sends_list place queue began moment rs r list here = record {
    items = take 16 list;
    queue = drop 16 list;
    began = began;
    moment = moment;
    rs = rs;
    next_is = refl;
    packets_are = refl;
    here = here;
    split = mine_split config 16 list;
  }

  sends_nothing : (place : Place) (began moment : ℕ) (rs : List Receiver) (r : Receiver) → Here config r rs
      → Sent place r [] (d.sends_nothing (client_at place [] began moment rs))
  sends_nothing place began moment rs r here = record { items = []; queue = []; began = began; moment = moment; rs = rs; next_is = refl; packets_are = refl; here = here; split = refl }

  -- ---- addresses stay

  unconfirmed_kept : (r : Receiver) (b : Bool) → (if b then r.row else record (r.row) { phase = 9 }).address ≡ r.row.address
  unconfirmed_kept r true = refl
  unconfirmed_kept r false = refl

  fell_kept : (step : Step) (r : Receiver) → (d.fell_silent r step).row.address ≡ r.row.address
  fell_kept Apply r = refl
  fell_kept Cancel r = refl
  fell_kept Confirm r = unconfirmed_kept r (r.row.phase == apply_success)
  fell_kept Check r = refl
  fell_kept Start r = refl
  fell_kept Information r = refl
  fell_kept Transfer r = refl
  fell_kept (Block b) r = refl
  fell_kept (Chunks b) r = refl
  fell_kept (Pull b) r = refl
  fell_kept (Get b) r = refl
  fell_kept Verify r = refl

  silent_kept : (step : Step) (r : Receiver) (silent : ℕ) (five : Bool) → (d.silent_if step (d.with_silent silent r) five).row.address ≡ r.row.address
  silent_kept step r silent true = fell_kept step (d.with_silent silent r)
  silent_kept step r silent false = refl

  counted_kept : (step : Step) (r : Receiver) (pending : Bool) → (d.counted_if step r pending).row.address ≡ r.row.address
  counted_kept step r true = silent_kept step r (d.silent_after step r) (nat_le 5 (d.silent_after step r))
  counted_kept step r false = refl

  pub reached : (r : Receiver) → r.row.address ≡ a → reaches r.row.address config ≡ true
  reached r e = ap (λ b. b || (not (config.group == 0) && (r.row.address == config.group))) (eq-eqb r.row.address a e)

  -- ---- a receiver that isn't pending

  -- the step goes on, and maybe a new round has begun
  abbrev pub Stays : Step → Receiver → List Item → Due → Type 0
  Stays step r list e = Sent (At step) r list e ⊎ Sent (At step) (d.unheard r) list e

  module _ (step : Step) (r : Receiver) (at_ : r.row.address ≡ a) (answered : r.pending ≡ false) where
    module _ (began moment : ℕ) (rs : List Receiver) (here : Here config r rs) where
      abbrev counted : List Receiver
      counted = map (d.round_counted step) rs

      here_counted : Here config r (map (d.round_counted step) rs)
      here_counted =
          subst (λ z. Here config z (map (d.round_counted step) rs)) (ap (d.counted_if step r) answered)
          (here_mapped config (d.round_counted step) (λ z. counted_kept step z z.pending) r rs here)

      round_or_next : (pending : Bool)
          → Stays step r [] (d.round_or_next (client_at (At step) [] began moment (map (d.round_counted step) rs)) image step pending)
          ⊎ Next step r (d.round_or_next (client_at (At step) [] began moment (map (d.round_counted step) rs)) image step pending)
      round_or_next true =
          let list : List Item = messages (l.again_message p (Update meta true) step) counted in
          let none : mine config list ≡ [] =
          mine_messages config (l.again_message p (Update meta true) step) r counted here_counted (reached r at_) ∙ ap (l.said_if r (l.again_message p (Update meta true) step r)) answered in
          inl (inr (subst (λ z. Sent (At step) (d.unheard r) z (d.new_round (client_at (At step) [] began moment counted) image step)) none
          (sends_list (At step) [] moment moment (map d.unheard counted) (d.unheard r) list (here_mapped config d.unheard (λ z. refl) r counted here_counted))))
      round_or_next false = inr (record { queue = []; began = began; moment = moment; rs = map (d.round_counted step) rs; here = here_counted; goes = refl })

      pub if_over : (over : Bool) → Stays step r [] (d.if_round_over (client_at (At step) [] began moment rs) image step over) ⊎ Next step r (d.if_round_over (client_at (At step) [] began moment rs) image step over)
      if_over true = round_or_next (list_any is_pending (map (d.round_counted step) rs))
      if_over false = inl (inl (sends_nothing (At step) began moment rs r here))

      by_queue : ((c : Client) → d.list_is_sent c image step ≡ d.by_round c image step) → (queue : List Item)
          → Stays step r (mine config queue) (d.by_list (client_at (At step) queue began moment rs) image step queue) ⊎ Next step r (d.by_list (client_at (At step) queue began moment rs) image step queue)
      by_queue sent [] =
          subst (λ e. Stays step r [] e ⊎ Next step r e) (sym (sent (client_at (At step) [] began moment rs))) (if_over (nat_le (began + round_time p) moment))
      by_queue sent (item ∷ items) = inl (inl (sends_list (At step) (item ∷ items) began moment rs r (item ∷ items) here))

      by_done : ((c : Client) → d.list_is_sent c image step ≡ d.by_round c image step) → (queue : List Item) (is_done : Bool)
          → Stays step r (mine config queue) (d.by_step (client_at (At step) queue began moment rs) image step is_done) ⊎ Next step r (d.by_step (client_at (At step) queue began moment rs) image step is_done)
      by_done sent queue true = inr (record { queue = queue; began = began; moment = moment; rs = rs; here = here; goes = refl })
      by_done sent queue false = by_queue sent queue

    pub quiet_due : ((c : Client) → d.list_is_sent c image step ≡ d.by_round c image step) → (queue : List Item) (c : Client) (now : ℕ) → Stands laws p meta image config (At step) queue r c
        → Stays step r (mine config queue) (due c image now) ⊎ Next step r (due c image now)
    quiet_due sent queue c now s =
        subst (λ z. Stays step r (mine config queue) (due z image now) ⊎ Next step r (due z image now)) (sym s.is)
        (by_done s.began (max s.moment now) s.rs s.here sent queue (d.is_done (client_at (At step) queue s.began (max s.moment now) s.rs) step))

  -- ---- and in pull, while others ask for chunks

  module _ (b : ℕ) (r : Receiver) (at_ : r.row.address ≡ a) (answered : r.pending ≡ false) (unwanted : d.unwanted r ≡ r) where
    abbrev Asks : Due → Type 0
    Asks e = (list : List Item) × AllOf config b list × Sent (At (Pull b)) r list e

    abbrev pub PullStays : List Item → Due → Type 0
    PullStays list e = (Stays (Pull b) r list e ⊎ Asks e) ⊎ Next (Pull b) r e

    as_stays : (list : List Item) (e : Due) → Stays (Pull b) r list e ⊎ Next (Pull b) r e → PullStays list e
    as_stays list e (inl h) = inl (inl h)
    as_stays list e (inr h) = inr h

    module _ (began moment : ℕ) (rs : List Receiver) (here : Here config r rs) where
      wanted_case : (items : List Item) → chunk_items p b wanted_of rs ≡ items → PullStays [] (d.by_wanted (client_at (At (Pull b)) [] began moment rs) image (Pull b) items)
      wanted_case [] e = as_stays [] _ (if_over (Pull b) r at_ answered began moment rs here (nat_le (began + round_time p) moment))
      wanted_case (item ∷ items) e =
          inl (inr (
            mine config (item ∷ items),
            mine_of config b (item ∷ items) (subst (AllOf config b) e (chunks_are_of config p b wanted_of rs)),
            sends_list (At (Pull b)) [] began moment (map d.unwanted rs) r (item ∷ items) (subst (λ z. Here config z (map d.unwanted rs)) unwanted (here_mapped config d.unwanted (λ z. refl) r rs here)),
          ))

      pull_queue : (queue : List Item) → PullStays (mine config queue) (d.by_list (client_at (At (Pull b)) queue began moment rs) image (Pull b) queue)
      pull_queue [] = wanted_case (chunk_items p b wanted_of rs) refl
      pull_queue (item ∷ items) = inl (inl (inl (sends_list (At (Pull b)) (item ∷ items) began moment rs r (item ∷ items) here)))

      pull_done : (queue : List Item) (is_done : Bool) → PullStays (mine config queue) (d.by_step (client_at (At (Pull b)) queue began moment rs) image (Pull b) is_done)
      pull_done queue true = inr (record { queue = queue; began = began; moment = moment; rs = rs; here = here; goes = refl })
      pull_done queue false = pull_queue queue

    pub pull_quiet_due : (queue : List Item) (c : Client) (now : ℕ) → Stands laws p meta image config (At (Pull b)) queue r c → PullStays (mine config queue) (due c image now)
    pull_quiet_due queue c now s =
        subst (λ z. PullStays (mine config queue) (due z image now)) (sym s.is)
        (pull_done s.began (max s.moment now) s.rs s.here queue (d.is_done (client_at (At (Pull b)) queue s.began (max s.moment now) s.rs) (Pull b)))

  -- ---- one that is pending in pull

  module _ (b : ℕ) (r : Receiver) (at_ : r.row.address ≡ a) (pending : r.pending ≡ true) (few : nat_le 5 (d.silent_after (Pull b) r) ≡ false) where
    -- as it is counted at the end of a round
    abbrev pub as_counted : Receiver
    as_counted = d.with_silent (d.silent_after (Pull b) r) r

    abbrev pub again_list : List Item
    again_list = l.said_if as_counted (l.again_message p (Update meta true) (Pull b) as_counted) true

    pub data Pulled (queue : List Item) (e : Due) : Type 0 where
      goes_on_with : Sent (At (Pull b)) r (mine config queue) e → Pulled queue e
      asks_for : queue ≡ [] → (list : List Item) → AllOf config b list → Sent (At (Pull b)) (d.unwanted r) list e → Pulled queue e
      asked_again : queue ≡ [] → Sent (At (Pull b)) (d.unheard as_counted) again_list e → Pulled queue e

    module _ (began moment : ℕ) (rs : List Receiver) (here : Here config r rs) where
      abbrev all_counted : List Receiver
      all_counted = map (d.round_counted (Pull b)) rs

      counted_here : Here config as_counted all_counted
      counted_here =
          subst (λ z. Here config z all_counted) (ap (d.counted_if (Pull b) r) pending ∙ ap (d.silent_if (Pull b) as_counted) few)
          (here_mapped config (d.round_counted (Pull b)) (λ z. counted_kept (Pull b) z z.pending) r rs here)

      round_case : (over : Bool) → Pulled [] (d.if_round_over (client_at (At (Pull b)) [] began moment rs) image (Pull b) over)
      round_case false = goes_on_with (sends_nothing (At (Pull b)) began moment rs r here)
      round_case true =
          let list : List Item = messages (l.again_message p (Update meta true) (Pull b)) all_counted in
          let its : mine config list ≡ again_list =
          mine_messages config (l.again_message p (Update meta true) (Pull b)) as_counted all_counted counted_here (reached as_counted at_)
          ∙ ap (l.said_if as_counted (l.again_message p (Update meta true) (Pull b) as_counted)) pending in
          let some : list_any is_pending all_counted ≡ true = passed_here config is_pending as_counted all_counted counted_here pending in
          subst (λ z. Pulled [] (d.round_or_next (client_at (At (Pull b)) [] began moment all_counted) image (Pull b) z)) (sym some)
          (asked_again refl (subst (λ z. Sent (At (Pull b)) (d.unheard as_counted) z (d.new_round (client_at (At (Pull b)) [] began moment all_counted) image (Pull b))) its
          (sends_list (At (Pull b)) [] moment moment (map d.unheard all_counted) (d.unheard as_counted) list (here_mapped config d.unheard (λ z. refl) as_counted all_counted counted_here))))

      asked_case : (items : List Item) → chunk_items p b wanted_of rs ≡ items → Pulled [] (d.by_wanted (client_at (At (Pull b)) [] began moment rs) image (Pull b) items)
      asked_case [] e = round_case (nat_le (began + round_time p) moment)
      asked_case (item ∷ items) e =
          asks_for refl (mine config (item ∷ items)) (mine_of config b (item ∷ items) (subst (AllOf config b) e (chunks_are_of config p b wanted_of rs)))
          (sends_list (At (Pull b)) [] began moment (map d.unwanted rs) (d.unwanted r) (item ∷ items) (here_mapped config d.unwanted (λ z. refl) r rs here))

      queue_case : (queue : List Item) → Pulled queue (d.by_list (client_at (At (Pull b)) queue began moment rs) image (Pull b) queue)
      queue_case [] = asked_case (chunk_items p b wanted_of rs) refl
      queue_case (item ∷ items) = goes_on_with (sends_list (At (Pull b)) (item ∷ items) began moment rs r (item ∷ items) here)

    pub pulling_due : (queue : List Item) (c : Client) (now : ℕ) → Stands laws p meta image config (At (Pull b)) queue r c → Pulled queue (due c image now)
    pulling_due queue c now s =
        let moment : ℕ = max s.moment now in
        subst (λ z. Pulled queue (due z image now)) (sym s.is)
        (subst (λ z. Pulled queue (d.by_step (client_at (At (Pull b)) queue s.began moment s.rs) image (Pull b) z)) (sym (ap not (passed_here config is_pending r s.rs s.here pending)))
        (queue_case s.began moment s.rs s.here queue))

  -- ---- one that is pending, with its message still to be sent

  pub waiting_due : (step : Step) (r : Receiver) → r.pending ≡ true → ((c : Client) → d.is_done c step ≡ not (list_any is_pending c.receivers))
      → (item : Item) (queue : List Item) → mine config queue ≡ item ∷ [] → (c : Client) (now : ℕ) → Stands laws p meta image config (At step) queue r c
      → Sent (At step) r (mine config queue) (due c image now)
  waiting_due step r pending counts item queue its c now s =
      subst (λ z. Sent (At step) r (mine config queue) (due z image now)) (sym s.is)
      (subst (λ b. Sent (At step) r (mine config queue) (d.by_step (client_at (At step) queue s.began (max s.moment now) s.rs) image step b))
      (sym (counts (client_at (At step) queue s.began (max s.moment now) s.rs) ∙ ap not (passed_here config is_pending r s.rs s.here pending)))
      (by_queue queue its))
    where
      nil_cons : [] ≡ item ∷ [] → ⊥
      nil_cons e = grind (arith, e)

      by_queue : (list : List Item) → mine config list ≡ item ∷ [] → Sent (At step) r (mine config list) (d.by_list (client_at (At step) list s.began (max s.moment now) s.rs) image step list)
      by_queue [] e = absurd (nil_cons e)
      by_queue (x ∷ xs) e = sends_list (At step) (x ∷ xs) s.began (max s.moment now) s.rs r (x ∷ xs) s.here

  -- ---- the chunks of a block

  pub chunks_due : (b : ℕ) (r : Receiver) (queue : List Item) (c : Client) (now : ℕ) → Stands laws p meta image config (At (Chunks b)) queue r c
      → Sent (At (Chunks b)) r (mine config queue) (due c image now) ⊎ ((queue ≡ []) × Next (Chunks b) r (due c image now))
  chunks_due b r queue c now s =
      subst (λ z. Sent (At (Chunks b)) r (mine config queue) (due z image now) ⊎ ((queue ≡ []) × Next (Chunks b) r (due z image now))) (sym s.is) (by_queue queue)
    where
      by_queue : (list : List Item)
          → Sent (At (Chunks b)) r (mine config list) (d.by_step (client_at (At (Chunks b)) list s.began (max s.moment now) s.rs) image (Chunks b) (d.is_empty list))
          ⊎ ((list ≡ []) × Next (Chunks b) r (d.by_step (client_at (At (Chunks b)) list s.began (max s.moment now) s.rs) image (Chunks b) (d.is_empty list)))
      by_queue [] = inr (refl, record { queue = []; began = s.began; moment = max s.moment now; rs = s.rs; here = s.here; goes = refl })
      by_queue (x ∷ xs) = inl (sends_list (At (Chunks b)) (x ∷ xs) s.began (max s.moment now) s.rs r (x ∷ xs) s.here)

  -- ---- a step begins

  pub begins : (place : Place) (queue : List Item) (began moment : ℕ) (rs : List Receiver) (r : Receiver) (step : Step) → Here config r rs → is_begun_for step r ≡ true
      → Sent (At step) (d.begun step r) (mine config (first_list p (Update meta true) (map (d.begun step) rs) step)) (d.goes_on (client_at place queue began moment rs) image (Go step))
  begins place queue began moment rs r step here some =
      subst (λ b. Sent (At step) (d.begun step r) (mine config (first_list p (Update meta true) (map (d.begun step) rs) step)) (d.begins_if (client_at place queue began moment rs) image step b))
      (sym (passed_here config (is_begun_for step) r rs here some))
      (sends_list (At step) queue moment moment (map (d.begun step) rs) (d.begun step r) (first_list p (Update meta true) (map (d.begun step) rs) step)
      (here_mapped config (d.begun step) (λ z. begun_place laws p meta config image z (is_in step z)) r rs here))

  -- with a message to each that is in it
  pub begins_asking : (place : Place) (queue : List Item) (began moment : ℕ) (rs : List Receiver) (r : Receiver) (step : Step) → Here config r rs → is_begun_for step r ≡ true → r.row.address ≡ a
      → ((xs : List Receiver) → first_list p (Update meta true) xs step ≡ messages (l.step_message p (Update meta true) step) xs)
      → Sent (At step) (d.begun step r) (l.said_if (d.begun step r) (l.step_message p (Update meta true) step (d.begun step r)) (d.begun step r).pending) (d.goes_on (client_at place queue began moment rs) image (Go step))
  begins_asking place queue began moment rs r step here some at_ list =
      subst (λ z. Sent (At step) (d.begun step r) z (d.goes_on (client_at place queue began moment rs) image (Go step)))
      (ap (mine config) (list (map (d.begun step) rs))
      ∙ mine_messages config (l.step_message p (Update meta true) step) (d.begun step r) (map (d.begun step) rs) (here_mapped config (d.begun step) (λ z. begun_place laws p meta config image z (is_in step z)) r rs here)
      (reached (d.begun step r) (begun_place laws p meta config image r (is_in step r) ∙ at_)))
      (begins place queue began moment rs r step here some)
