-- How a job goes on from one happening to the next.
use Rattle.std.proofs.Common.{◌≡◌, ℕ, List, [], ◌∷◌, ◌++◌, refl, sym, ap, subst, ◌∙◌, append-nil, inl, inr, Option, Some, None}
use Rattle.mu_model_node.specs.declared.Link.{Link}
use Rattle.mu_model_node.specs.declared.NodeConfig.{NodeConfig}
use Rattle.mu_model_node.specs.declared.Stored.{Stored}
use Rattle.mu_model_node.specs.declared.Stored.TheVariants.{Filling, Verified, Refused, Applied}
use Rattle.mu_model_node.specs.Laws.{WorkLeavesOldOrNew}
use Rattle.mu_model_node.specs.Log.{LogEntry, Asked, Active, Canceled, Reached, asked_by, gone_by, reached, logged_by, logged}
use Rattle.mu_model_node.specs.NodeState.{Job, NodeDurable, NodeState, job_phase, update_phase, update_number}
use Rattle.mu_model_node.specs.Safe.{Happening, InOrder, none, here, happened}
use Rattle.mu_model_fates.specs.Laws.{GoesOn, NextOf}
use Rattle.mu_model_fates.proofs.Moves.{Move, Stays, Fills, Takes, Verifies, Refuses, Asks, Loses, Activates}
use Rattle.mu_model_fates.proofs.Runs.{same_self, goes_on, happening_moves}
use Rattle.mu_model_fates.proofs.Traces.{IsOpen, IsOpenIn, MayGoIn}

own : (i j : Job) (job : Option Job) → job ≡ Some i → job ≡ Some j → i ≡ j
own i j job e f = cc

-- a job that is as far as one can't be as far as another
apart : (i j : Job) (job : Option Job) (a b : Stored) → job ≡ Some i → job ≡ Some j → i.stored ≡ a → j.stored ≡ b → a ≡ b
apart i j job a b e f g h = sym g ∙ (ap (λ (x : Job). x.stored) (own i j job e f) ∙ h)

-- the job j, as i, is written again
again : (i j : Job) (job new : Option Job) (next : Job) (stored : Stored) → job ≡ Some i → job ≡ Some j → new ≡ Some next → next.id ≡ i.id → next.index ≡ i.index → next.meta ≡ i.meta → next.stored ≡ stored → GoesOn j new stored
again i j job new next stored e f is a b c s =
    let same : i ≡ j = own i j job e f in
    record {
      job = next;
      is = is;
      id = a ∙ ap (λ (x : Job). x.id) same;
      index = b ∙ ap (λ (x : Job). x.index) same;
      meta = c ∙ ap (λ (x : Job). x.meta) same;
      stored = s;
    }

-- ---- entries

asks_entries : (i : Job) (m : ℕ) → i.stored ≡ Verified → m ≡ 4 → logged_by (Some i) (Some (record i { stored = Applied })) m 6 ≡ Asked i.id ∷ Reached i.id 6 ∷ []
asks_entries i m e four =
    let entry : asked_by i.id i.stored Applied ≡ Asked i.id ∷ [] = rw e refl in
    let told : reached (Some i) (Some (record i { stored = Applied })) m 6 ≡ Reached i.id 6 ∷ [] = rw four refl in
    goes_on i (record i { stored = Applied }) m 6 (same_self i) (rw e refl) ∙ (ap (λ (l : List LogEntry). l ++ reached (Some i) (Some (record i { stored = Applied })) m 6) entry ∙ ap (λ (l : List LogEntry). Asked i.id ∷ l) told)

gone_entries : (i : Job) (m n : ℕ) → logged_by (Some i) None m n ≡ gone_by i i.stored
gone_entries i m n = append-nil (gone_by i i.stored)

-- ---- each move

verified_next : (d e : NodeDurable) (j : Job) (m : ℕ) (link : Link) → d.job ≡ Some j → j.stored ≡ Verified → m ≡ 4 → Move d e → NextOf j Verified (logged_by d.job e.job m (update_number (job_phase link e.job))) e.job
verified_next d e j m link was is four (Stays c b) = inl (again j j d.job e.job j Verified was was (b ∙ was) refl refl refl is)
verified_next d e j m link was is four (Fills i parameters held a c b) =
    inl (again i j d.job e.job (record i { parameters = parameters; held = held }) Verified a was b refl refl refl (apart i j d.job i.stored Verified a was refl is))
verified_next d e j m link was is four (Takes k active f free at newer new c b) = absurd (subst IsOpenIn is (subst IsOpen was free))
verified_next d e j m link was is four (Verifies i a f c b) = let never : Filling ≡ Verified = apart i j d.job Filling Verified a was f is in cc
verified_next d e j m link was is four (Refuses i a f c b) = let never : Filling ≡ Verified = apart i j d.job Filling Verified a was f is in cc
verified_next d e j m link was is four (Asks i a f c b) =
    let same : i ≡ j = own i j d.job a was in
    let entries : logged_by d.job e.job m (update_number (job_phase link e.job)) ≡ Asked i.id ∷ Reached i.id 6 ∷ [] = rw (a, b) (asks_entries i m f four) in
    let o : InOrder (Asked i.id ∷ Reached i.id 6 ∷ []) (logged_by d.job e.job m (update_number (job_phase link e.job))) = subst (InOrder (Asked i.id ∷ Reached i.id 6 ∷ [])) (sym entries) (here (here none)) in
    inr (inl (again i j d.job e.job (record i { stored = Applied }) Applied a was b refl refl refl refl, subst (λ (x : Job). InOrder (Asked x.id ∷ Reached x.id 6 ∷ []) (logged_by d.job e.job m (update_number (job_phase link e.job)))) same o))
verified_next d e j m link was is four (Loses i a g c b) =
    let same : i ≡ j = own i j d.job a was in
    let entries : logged_by d.job e.job m (update_number (job_phase link e.job)) ≡ Canceled j.id ∷ [] = rw (was, b) (gone_entries j m 0 ∙ rw is refl) in
    inr (inr (b, subst (InOrder (Canceled j.id ∷ [])) (sym entries) (here none)))
verified_next d e j m link was is four (Activates i a f c b) = let never : Applied ≡ Verified = apart i j d.job Applied Verified a was f is in cc

applied_next : (d e : NodeDurable) (j : Job) (m n : ℕ) → d.job ≡ Some j → j.stored ≡ Applied → Move d e → NextOf j Applied (logged_by d.job e.job m n) e.job
applied_next d e j m n was is (Stays c b) = inl (again j j d.job e.job j Applied was was (b ∙ was) refl refl refl is)
applied_next d e j m n was is (Fills i parameters held a c b) =
    inl (again i j d.job e.job (record i { parameters = parameters; held = held }) Applied a was b refl refl refl (apart i j d.job i.stored Applied a was refl is))
applied_next d e j m n was is (Takes k active f free at newer new c b) = absurd (subst IsOpenIn is (subst IsOpen was free))
applied_next d e j m n was is (Verifies i a f c b) = let never : Filling ≡ Applied = apart i j d.job Filling Applied a was f is in cc
applied_next d e j m n was is (Refuses i a f c b) = let never : Filling ≡ Applied = apart i j d.job Filling Applied a was f is in cc
applied_next d e j m n was is (Asks i a f c b) = let never : Verified ≡ Applied = apart i j d.job Verified Applied a was f is in cc
applied_next d e j m n was is (Loses i a g c b) =
    let same : i ≡ j = own i j d.job a was in
    absurd (subst MayGoIn (ap (λ (x : Job). x.stored) same ∙ is) g)
applied_next d e j m n was is (Activates i a f c b) =
    let entries : logged_by d.job e.job m n ≡ Active j.index j.meta ∷ [] = rw (was, b) (gone_entries j m n ∙ rw is refl) in
    inr (b, subst (InOrder (Active j.index j.meta ∷ [])) (sym entries) (here none))

phase_at : (s : NodeState) (j : Job) → s.durable.job ≡ Some j → j.stored ≡ Verified → update_number (update_phase s) ≡ 4
phase_at s j was is = rw (was, is) refl

next_by : (s t : NodeState) (j : Job) (stored : Stored) → j.stored ≡ stored → s.durable.job ≡ Some j → Move s.durable t.durable → NextOf j stored (logged s t) t.durable.job
next_by s t j Filling is was move = tt
next_by s t j Verified is was move = verified_next s.durable t.durable j (update_number (update_phase s)) t.session.link was is (phase_at s j was is) move
next_by s t j Refused is was move = tt
next_by s t j Applied is was move = applied_next s.durable t.durable j (update_number (update_phase s)) (update_number (update_phase t)) was is move

pub jobs_go_on : WorkLeavesOldOrNew → (config : NodeConfig) (s : NodeState) (h : Happening) (j : Job) → s.durable.job ≡ Some j → NextOf j j.stored (logged s (happened config s h)) (happened config s h).durable.job
jobs_go_on law config s h j was = next_by s (happened config s h) j j.stored refl was (happening_moves law config s h)
