-- The course of an update in push, from step to step.
use Rattle.std.proofs.Common.{◌≡◌, ◌<◌, ◌≤◌, ◌+◌, ◌*◌, ℕ, suc, List, [], ◌∷◌, refl, sym, ap, ◌∙◌, subst, true, false, Bool, arith, map, length}
use Rattle.std.specs.Prelude.{◌||◌, not}
use Rattle.std.specs.List.{list_any, AllByRecursion}
use Rattle.mu_model_image.specs.declared.Meta.{Meta}
use Rattle.mu_model_node.specs.declared.NodeConfig.{NodeConfig}
use Rattle.mu_model_node.specs.NodeMessages.{Request, OfBlob}
use Rattle.mu_model_node.specs.BlobMessages.{BlobInformationGet}
use Rattle.mu_model_client.specs.declared.Sending.{Sending}
use Rattle.mu_model_client.specs.Client.{Client, Receiver, is_active, is_pending, is_in, is_begun_for, Update, Place, Before, At, Step, Check, Start, Information, Transfer}
use Rattle.mu_model_client.specs.Lists as l
use Rattle.mu_model_client.specs.Due as d
use Rattle.mu_model_client.specs.Due.{Go}
use Rattle.mu_model_client_laws.specs.Laws.{KeepsPlan, FieldsAreRead}
use Rattle.mu_model_completion.specs.Turn.{Member}
use Rattle.mu_model_completion.proofs.Pairs.{Pair, receiver_in}
use Rattle.mu_model_completion.proofs.Receivers.{rcv}
use Rattle.mu_model_completion.proofs.Stations.{Within, and_then, so, client_at, Station, begins, leads_on, leads_first}
use Rattle.mu_model_completion.proofs.Asking.{Asking, Apart, configs, Finished, whole_step}
use Rattle.mu_model_completion.proofs.First.{Good, Row, Rested, Idle, Taken, CheckW, CheckD, StartW, StartD, InformationW, InformationD, TransferW, TransferD, check_request, start_request, transfer_request, check_asking, start_asking, information_asking, transfer_asking, taken_longer}
use Rattle.mu_model_completion.proofs.Blocks.{Tiles}

module _ (laws : KeepsPlan) (fields : FieldsAreRead) (tiles : Tiles) (p : Sending) (meta : Meta) (config : NodeConfig) (image : List ℕ) (blocks : ℕ) (good : Good p blocks)
    (whole : length image ≡ p.size) (chunk_some : 0 < p.chunk) (cs : List NodeConfig) (apart : Apart cs) (some : 1 ≤ length cs) (q : ℕ) (few : 4 * q < 99) (fits : length cs ≤ 16 * q) (q_some : 1 ≤ q) where
  abbrev u : ℕ
  u = config.address

  -- between two turns: the list is sent, and of each pair this holds
  pub record Reached (place : Place) (P : Pair → Type 0) (xs : List Member) : Type 0 where
    pub qs : List Pair
    pub station : Station laws p meta config image place [] qs xs
    pub all : AllByRecursion P qs
    pub same : configs qs ≡ cs

  -- a step was answered after so many turns
  abbrev pub Answered : (ℕ → Pair → Type 0) → Pair → Type 0
  Answered D x = (j : ℕ) × (j ≤ q) × D j x

  pub configs_length : (ps : List Pair) → length (configs ps) ≡ length ps
  configs_length [] = refl
  configs_length (x ∷ ps) = ap suc (configs_length ps)

  pub all_begin : (P Q : Pair → Type 0) (step : Step) → ((x : Pair) → P x → Q (begins laws p meta config image step x)) → (ps : List Pair) → AllByRecursion P ps
      → AllByRecursion Q (map (begins laws p meta config image step) ps)
  all_begin P Q step f [] h = tt
  all_begin P Q step f (x ∷ ps) h = (f x h.0, all_begin P Q step f ps h.1)

  all_answered : (D : ℕ → Pair → Type 0) (j : ℕ) → j ≤ q → (ps : List Pair) → AllByRecursion (D j) ps → AllByRecursion (Answered D) ps
  all_answered D j le [] h = tt
  all_answered D j le (x ∷ ps) h = ((j, le, h.0), all_answered D j le ps h.1)

  abbrev pub Leads : Place → List Pair → Step → Type 0
  Leads place ps step =
      (began moment : ℕ) → d.by_place (client_at laws p meta config image place [] began moment (map receiver_in ps)) image place
      ≡ d.sends (d.in_step (client_at laws p meta config image place [] began moment (map receiver_in ps)) step) image (d.first_of (client_at laws p meta config image place [] began moment (map receiver_in ps)) step)

  -- A STEP in which each is asked once
  pub go_step : (place : Place) (P : Pair → Type 0) (step : Step) (request : Request) (W D : ℕ → Pair → Type 0) → Asking p meta u step request W D q
      → ((rs : List Receiver) → l.first_list p (Update meta true) rs step ≡ l.messages (l.step_message p (Update meta true) step) rs)
      → ((x : Pair) → P x → W 0 (begins laws p meta config image step x))
      → ((ps : List Pair) → AllByRecursion P ps → 1 ≤ length ps → Leads place ps step)
      → (xs : List Member) → Reached place P xs → Within q (Reached (At step) (Answered D)) xs
  go_step place P step request W D asking list begun leads xs r =
      let long = configs_length r.qs in
      let counted : length (configs r.qs) ≡ length cs = ap (length {A = NodeConfig}) r.same in
      let step_done = whole_step laws p meta config image step request W D q asking place r.qs xs r.station (leads r.qs r.all (omega (arith, long, counted, some))) list
      (all_begin P (W 0) step begun r.qs r.all) (subst Apart (sym r.same) apart) q (omega (arith, long, counted, fits)) q_some (omega arith) in
      so q (Finished laws p meta config image step request W D q asking r.qs) (Reached (At step) (Answered D)) xs
      (λ ys f. record { qs = f.qs; station = f.station; all = all_answered D f.turns f.few f.qs f.all; same = f.same ∙ r.same }) step_done

  -- ---- what receivers are, all together

  pub nobody_pending : (P : Pair → Type 0) → ((x : Pair) → P x → x.r.pending ≡ false) → (ps : List Pair) → AllByRecursion P ps → list_any is_pending (map receiver_in ps) ≡ false
  nobody_pending P f [] h = refl
  nobody_pending P f (x ∷ ps) h = ap (λ b. b || list_any is_pending (map receiver_in ps)) (f x h.0) ∙ nobody_pending P f ps h.1

  pub some_active : (P : Pair → Type 0) → ((x : Pair) → P x → is_active x.r ≡ true) → (ps : List Pair) → AllByRecursion P ps → 1 ≤ length ps → list_any is_active (map receiver_in ps) ≡ true
  some_active P f [] h le = absurd (omega (arith, le))
  some_active P f (x ∷ ps) h le = ap (λ b. b || list_any is_active (map receiver_in ps)) (f x h.0)

  pub row_is : (phase : ℕ) (bs chunks : List Bool) (pending : Bool) (x : Pair) → Row phase bs chunks pending x → (x.r.pending ≡ pending) × (is_active x.r ≡ true)
  row_is phase bs chunks pending x h = (ap (λ (r : Receiver). r.pending) h.r_is, ap is_active h.r_is)

  pub row_begun_by : (pending : Bool) (step : Step) (phase : ℕ) (bs chunks : List Bool) (x : Pair) → Row phase bs chunks pending x
      → is_in step (rcv x.config.address phase bs chunks pending) ≡ true → Row phase bs chunks true (begins laws p meta config image step x)
  row_begun_by pending step phase bs chunks x h e = record { r_is = ap (d.begun step) h.r_is ∙ ap (d.begun_if (rcv x.config.address phase bs chunks pending)) e }

  pub row_begun : (step : Step) (phase : ℕ) (bs chunks : List Bool) (x : Pair) → Row phase bs chunks false x
      → is_in step (rcv x.config.address phase bs chunks false) ≡ true → Row phase bs chunks true (begins laws p meta config image step x)
  row_begun step phase bs chunks x h e = row_begun_by false step phase bs chunks x h e

  pub rested_begun : (step : Step) (phase : ℕ) (bs chunks : List Bool) (x : Pair) → Rested phase bs chunks x
      → ((heard : Bool) → is_in step (record (rcv x.config.address phase bs chunks false) { heard = heard }) ≡ true) → Row phase bs chunks true (begins laws p meta config image step x)
  rested_begun step phase bs chunks x h e = record { r_is = ap (d.begun step) h.r_is ∙ ap (d.begun_if (record (rcv x.config.address phase bs chunks false) { heard = h.heard })) (e h.heard) }

  -- a step that is done leads to the next one
  pub next_leads : (last next : Step) (P : Pair → Type 0) → ((x : Pair) → P x → (x.r.pending ≡ false) × (is_active x.r ≡ true))
      → ((c : Client) → d.is_done c last ≡ not (list_any is_pending c.receivers))
      → ((rs : List Receiver) → list_any (is_begun_for next) rs ≡ list_any is_active rs)
      → ((ps : List Pair) → AllByRecursion P ps → 1 ≤ length ps → d.after p (Update meta true) (map receiver_in ps) last ≡ Go next)
      → (ps : List Pair) → AllByRecursion P ps → 1 ≤ length ps → Leads (At last) ps next
  next_leads last next P f counts begun goes ps h le =
      leads_on laws p meta config image last next ps
      (λ began moment. counts (client_at laws p meta config image (At last) [] began moment (map receiver_in ps)) ∙ ap not (nobody_pending P (λ x k. (f x k).0) ps h))
      (goes ps h le) (begun (map receiver_in ps) ∙ some_active P (λ x k. (f x k).1) ps h le)

  -- ---- 1 to 4

  abbrev pub First : Pair → Type 0
  First x = Row 10 [] [] false x × Idle fields p meta image u blocks good q few x

  idle_at : (step : Step) (x : Pair) → Idle fields p meta image u blocks good q few x → Idle fields p meta image u blocks good q few (begins laws p meta config image step x)
  idle_at step x h = record {
    capacity = h.capacity;
    active = h.active;
    images = h.images;
    offer = h.offer;
    count = h.count;
    fresh = h.fresh;
    session = h.session;
    m = h.m;
    early = h.early;
    n_is = h.n_is;
  }

  taken_at : (step : Step) (a : ℕ) (x : Pair) → Taken fields p meta image u blocks good q few a x → Taken fields p meta image u blocks good q few a (begins laws p meta config image step x)
  taken_at step a x h = record { capacity = h.capacity; active = h.active; images = h.images; offer = h.offer; count = h.count; fresh = h.fresh; heard = h.heard; lately = h.lately; n_is = h.n_is }

  abbrev pub CheckDone : Pair → Type 0
  CheckDone x = Answered (CheckD fields p meta image u blocks good q few) x

  pub checked : (xs : List Member) → Reached (Before Check) First xs → Within q (Reached (At Check) CheckDone) xs
  checked xs r =
      go_step (Before Check) First Check (check_request fields p meta image u blocks good q few) (CheckW fields p meta image u blocks good q few) (CheckD fields p meta image u blocks good q few)
      (check_asking fields p meta image u blocks good q few) (λ rs. refl) (λ x h. (row_begun Check 10 [] [] x h.0 refl, idle_at Check x h.1))
      (λ ps h le. leads_first laws p meta config image Check ps (some_active First (λ x k. (row_is 10 [] [] false x k.0).1) ps h le)) xs r

  abbrev pub StartDone : Pair → Type 0
  StartDone x = Answered (StartD fields p meta image u blocks good q few) x

  pub started : (xs : List Member) → Reached (At Check) CheckDone xs → Within q (Reached (At Start) StartDone) xs
  started xs r =
      go_step (At Check) CheckDone Start (start_request fields p meta image u blocks good q few) (StartW fields p meta image u blocks good q few) (StartD fields p meta image u blocks good q few)
      (start_asking fields p meta image u blocks good q few) (λ rs. refl) (λ x h. (row_begun Start 10 [] [] x h.2.0 refl, idle_at Start x h.2.1))
      (next_leads Check Start CheckDone (λ x k. row_is 10 [] [] false x k.2.0) (λ c. refl) (λ rs. refl) (λ ps h le. refl)) xs r

  abbrev pub InformationDone : Pair → Type 0
  InformationDone x = Answered (InformationD fields p meta image u blocks good q few) x

  pub informed : (xs : List Member) → Reached (At Start) StartDone xs → Within q (Reached (At Information) InformationDone) xs
  informed xs r =
      go_step (At Start) StartDone Information (OfBlob BlobInformationGet) (InformationW fields p meta image u blocks good q few) (InformationD fields p meta image u blocks good q few)
      (information_asking fields p meta image u blocks good q few) (λ rs. refl)
      (λ x h. (row_begun Information 2 [] [] x h.2.0 refl, taken_longer fields p meta image u blocks good q few h.0 (q + 0) (begins laws p meta config image Information x) (let le = h.1 in omega (arith, le)) (taken_at Information h.0 x h.2.1)))
      (next_leads Start Information StartDone (λ x k. row_is 2 [] [] false x k.2.0) (λ c. refl) (λ rs. refl) (λ ps h le. refl)) xs r

  abbrev pub TransferDone : Pair → Type 0
  TransferDone x = Answered (TransferD fields p meta image u blocks good q few) x

  pub transferred : (xs : List Member) → Reached (At Information) InformationDone xs → Within q (Reached (At Transfer) TransferDone) xs
  transferred xs r =
      go_step (At Information) InformationDone Transfer (transfer_request fields p meta image u blocks good q few) (TransferW fields p meta image u blocks good q few) (TransferD fields p meta image u blocks good q few)
      (transfer_asking fields p meta image u blocks good q few) (λ rs. refl)
      (λ x h. (row_begun Transfer 2 [] [] x h.2.0 refl, taken_longer fields p meta image u blocks good q few (q + h.0) (2 * q + 0) (begins laws p meta config image Transfer x) (let le = h.1 in omega (arith, le)) (taken_at Transfer (q + h.0) x h.2.1)))
      (next_leads Information Transfer InformationDone (λ x k. row_is 2 [] [] false x k.2.0) (λ c. refl) (λ rs. refl) (λ ps h le. refl)) xs r

  -- after four steps
  pub four : (xs : List Member) → Reached (Before Check) First xs → Within (q + (q + (q + q))) (Reached (At Transfer) TransferDone) xs
  four xs r =
      and_then q (q + (q + q)) (Reached (At Check) CheckDone) (Reached (At Transfer) TransferDone) xs (checked xs r)
      (λ ys s. and_then q (q + q) (Reached (At Start) StartDone) (Reached (At Transfer) TransferDone) ys (started ys s)
      (λ zs t. and_then q q (Reached (At Information) InformationDone) (Reached (At Transfer) TransferDone) zs (informed zs t) transferred))
