-- Each run of a node leaves a trace.
use Rattle.std.proofs.Common.{arith, ◌≡◌, ℕ, zero, suc, true, false, ◌==◌, List, [], ◌∷◌, ◌++◌, refl, sym, ap, subst, ◌∙◌, cond, append_assoc, append-nil, ◌⊎◌, inl, ⊎_elim, Option, Some, None}
use Rattle.std.specs.Prelude.{slice_index_or, bytes_eq}
use Rattle.std.specs.List.{AllByRecursion}
use Rattle.std.proofs.lemmas.Bool.Decides.{nat_tests}
use Rattle.std.proofs.lemmas.Slice.Eq.{bytes_eq-Decides}
use Rattle.mu_model_image.specs.Meta.{Image}
use Rattle.mu_model_node.specs.declared.Link.{Link}
use Rattle.mu_model_node.specs.declared.Link.TheVariants.{Cut, Ready, Running}
use Rattle.mu_model_node.specs.declared.NodeConfig.{NodeConfig}
use Rattle.mu_model_node.specs.declared.Parameters.{Parameters}
use Rattle.mu_model_node.specs.declared.Stored.{Stored}
use Rattle.mu_model_node.specs.declared.Stored.TheVariants.{Filling, Verified, Refused, Applied}
use Rattle.mu_model_node.specs.Slots.{is_full}
use Rattle.mu_model_node.specs.Events.{NodeEvent, node_step, node_work}
use Rattle.mu_model_node.specs.Laws.{WorkLeavesOldOrNew}
use Rattle.mu_model_node.specs.Log.{LogEntry, Took, Asked, Active, Canceled, Reached, is_new, same_job, reopened, was_there, took, asked, asked_by, gone, gone_by, reached, logged_by, logged}
use Rattle.mu_model_node.specs.NodeState.{Job, NodeDurable, NodeState, Verifying, link_phase, filling_phase, stored_phase, job_phase, update_phase, update_number, restarted}
use Rattle.mu_model_node.specs.Safe.{Happening, Done, CutPower, Torn, left_after, happened, state_after, log_after}
use Rattle.mu_model_node.specs.TimeTable.{image_of_job}
use Rattle.mu_model_fates.proofs.Moves.{Move, Stays, Fills, Takes, Verifies, Refuses, Asks, Loses, Activates, steps}
use Rattle.mu_model_fates.proofs.Traces.{MayGoIn, PhaseIn, Trace, begun, taken, filled, told, verified, refused, asked as was_asked, canceled, activated}

-- ---- phases

link_in : (j : Job) (link : Link) → PhaseIn Filling (update_number (link_phase j link))
link_in j Cut = (omega arith, omega arith)
link_in j Ready = (omega arith, omega arith)
link_in j Running = (omega arith, omega arith)

filling_in : (j : Job) (link : Link) (parameters : Option Parameters) → PhaseIn Filling (update_number (filling_phase j link parameters))
filling_in j link None = link_in j link
filling_in j link (Some p) = elim (is_full j.held) as (λ b. PhaseIn Filling (update_number (cond b (Verifying j) (link_phase j link)))) [ true ↦ (omega arith, omega arith) | false ↦ link_in j link ]

phase_in : (j : Job) (link : Link) (stored : Stored) → PhaseIn stored (update_number (stored_phase j link stored))
phase_in j link Filling = filling_in j link j.parameters
phase_in j link Verified = refl
phase_in j link Refused = refl
phase_in j link Applied = refl

-- ---- a job that goes on

equal : (n : ℕ) → (n == n) ≡ true
equal n = grind (arith, nat_tests)

equal_octets : (xs : List ℕ) → bytes_eq xs xs ≡ true
equal_octets xs = grind (arith, bytes_eq-Decides xs xs)

pub same_self : (i : Job) → same_job i i ≡ true
same_self i = rw (equal i.ttl, equal i.base, equal i.id, equal i.index, equal i.meta.size, equal i.meta.version, equal_octets i.meta.digest) refl

never_reopened : (stored : Stored) → reopened stored stored ≡ false
never_reopened Filling = refl
never_reopened Verified = refl
never_reopened Refused = refl
never_reopened Applied = refl

-- a job that stays isn't new
pub never_new : (i : Job) → is_new (Some i) i ≡ false
never_new i = rw (same_self i, never_reopened i.stored) refl

not_asked : (id : ℕ) (stored : Stored) → asked_by id stored stored ≡ []
not_asked id Filling = refl
not_asked id Verified = refl
not_asked id Refused = refl
not_asked id Applied = refl

-- what is logged of a job that goes on: that it was asked for, and its phase
pub goes_on : (i j : Job) (m n : ℕ) → same_job j i ≡ true → reopened i.stored j.stored ≡ false → logged_by (Some i) (Some j) m n ≡ asked_by j.id i.stored j.stored ++ reached (Some i) (Some j) m n
goes_on i j m n e k =
    let old : is_new (Some i) j ≡ false = rw (e, k) refl in
    let none : took (Some i) (Some j) ≡ [] = rw old refl in
    ap (λ (l : List LogEntry). l ++ (asked_by j.id i.stored j.stored ++ reached (Some i) (Some j) m n)) none

-- ---- traces grow

-- a phase that is told, or was there
then_told : {first : List Image} {log : List LogEntry} {images : List Image} (old : Option Job) (j : Job) (m n : ℕ) → PhaseIn j.stored n → Trace first log images (Some j) → Trace first (log ++ reached old (Some j) m n) images (Some j)
then_told {first = first} {log = log} {images = images} old j m n p t =
    elim (was_there old j m n) as (λ b. Trace first (log ++ cond b [] (Reached j.id n ∷ [])) images (Some j)) [
      | true ↦ subst (λ l. Trace first l images (Some j)) (sym (append-nil log)) t
      | false ↦ told n p t
    ]

-- from a trace to a longer one, by an event
abbrev Grows : List Image → List LogEntry → List Image → Option Job → ℕ → Link → List Image → Option Job → Type 0
Grows first log images old m link after new = Trace first log images old → Trace first (log ++ logged_by old new m (update_number (job_phase link new))) after new

same_grows : (first : List Image) (log : List LogEntry) (images : List Image) (job : Option Job) (m : ℕ) (link : Link) → Grows first log images job m link images job
same_grows first log images None m link t = subst (λ l. Trace first l images None) (sym (append-nil log)) t
same_grows first log images (Some i) m link t =
    let n : ℕ = update_number (stored_phase i link i.stored) in
    let all : logged_by (Some i) (Some i) m n ≡ reached (Some i) (Some i) m n =
    goes_on i i m n (same_self i) (never_reopened i.stored) ∙ ap (λ (l : List LogEntry). l ++ reached (Some i) (Some i) m n) (not_asked i.id i.stored) in
    subst (λ l. Trace first (log ++ l) images (Some i)) (sym all) (then_told (Some i) i m n (phase_in i link i.stored) t)

filled_grows : (first : List Image) (log : List LogEntry) (images : List Image) (i j : Job) (m : ℕ) (link : Link) → same_job j i ≡ true → j.stored ≡ i.stored → Trace first log images (Some j) → Trace first (log ++ logged_by (Some i) (Some j) m (update_number (job_phase link (Some j)))) images (Some j)
filled_grows first log images i j m link same e t =
    let n : ℕ = update_number (stored_phase j link j.stored) in
    let quiet : asked_by j.id i.stored j.stored ≡ [] = rw e (not_asked j.id i.stored) in
    let all : logged_by (Some i) (Some j) m n ≡ reached (Some i) (Some j) m n =
    goes_on i j m n same (rw e (never_reopened i.stored)) ∙ ap (λ (l : List LogEntry). l ++ reached (Some i) (Some j) m n) quiet in
    subst (λ l. Trace first (log ++ l) images (Some j)) (sym all) (then_told (Some i) j m n (phase_in j link j.stored) t)

asked_filling : (old : Option Job) (j : Job) → j.stored ≡ Filling → asked old (Some j) ≡ []
asked_filling None j e = refl
asked_filling (Some i) j e = rw e (by_stored i.stored)
  where
    by_stored : (stored : Stored) → asked_by j.id stored Filling ≡ []
    by_stored Filling = refl
    by_stored Verified = refl
    by_stored Refused = refl
    by_stored Applied = refl

gone_none : (old : Option Job) (j : Job) → gone old (Some j) ≡ []
gone_none None j = refl
gone_none (Some i) j = refl

taken_grows : (first : List Image) (log : List LogEntry) (images : List Image) (old : Option Job) (j : Job) (m : ℕ) (link : Link) → is_new old j ≡ true → j.stored ≡ Filling → Trace first (log ++ Took j.id j.index j.meta ∷ []) images (Some j) → Trace first (log ++ logged_by old (Some j) m (update_number (job_phase link (Some j)))) images (Some j)
taken_grows first log images old j m link new e t =
    let n : ℕ = update_number (stored_phase j link j.stored) in
    let all : logged_by old (Some j) m n ≡ Took j.id j.index j.meta ∷ reached old (Some j) m n = rw (new, asked_filling old j e, gone_none old j) refl in
    subst (λ l. Trace first l images (Some j)) (append_assoc log (Took j.id j.index j.meta ∷ []) (reached old (Some j) m n) ∙ ap (λ (l : List LogEntry). log ++ l) (sym all))
    (then_told old j m n (phase_in j link j.stored) t)

verified_grows : (first : List Image) (log : List LogEntry) (images : List Image) (i : Job) (m : ℕ) (link : Link) → i.stored ≡ Filling → PhaseIn i.stored m → Grows first log images (Some i) m link images (Some (record i { stored = Verified }))
verified_grows first log images i m link e p t =
    let j : Job = record i { stored = Verified } in
    let few : PhaseIn Filling m = subst (λ stored. PhaseIn stored m) e p in
    let apart : (m == 4) ≡ false = grind (arith, nat_tests, few.1) in
    let entry : reached (Some i) (Some j) m 4 ≡ Reached i.id 4 ∷ [] = rw apart refl in
    let quiet : asked_by i.id i.stored Verified ≡ [] = rw e refl in
    let all : logged_by (Some i) (Some j) m 4 ≡ Reached i.id 4 ∷ [] =
    goes_on i j m 4 (same_self i) (rw e refl) ∙ (ap (λ (l : List LogEntry). l ++ reached (Some i) (Some j) m 4) quiet ∙ entry) in
    subst (λ l. Trace first (log ++ l) images (Some j)) (sym all) (verified e t)

refused_grows : (first : List Image) (log : List LogEntry) (images : List Image) (i : Job) (m : ℕ) (link : Link) → i.stored ≡ Filling → Grows first log images (Some i) m link images (Some (record i { stored = Refused; parameters = None; held = [] }))
refused_grows first log images i m link e t =
    let j : Job = record i { stored = Refused; parameters = None; held = [] } in
    let quiet : asked_by i.id i.stored Refused ≡ [] = rw e refl in
    let all : logged_by (Some i) (Some j) m 5 ≡ reached (Some i) (Some j) m 5 =
    goes_on i j m 5 (same_self i) (rw e refl) ∙ ap (λ (l : List LogEntry). l ++ reached (Some i) (Some j) m 5) quiet in
    subst (λ l. Trace first (log ++ l) images (Some j)) (sym all) (then_told (Some i) j m 5 refl (refused e t))

asked_grows : (first : List Image) (log : List LogEntry) (images : List Image) (i : Job) (m : ℕ) (link : Link) → i.stored ≡ Verified → Grows first log images (Some i) m link images (Some (record i { stored = Applied }))
asked_grows first log images i m link e t =
    let j : Job = record i { stored = Applied } in
    let entry : asked_by i.id i.stored Applied ≡ Asked i.id ∷ [] = rw e refl in
    let all : logged_by (Some i) (Some j) m 6 ≡ Asked i.id ∷ reached (Some i) (Some j) m 6 =
    goes_on i j m 6 (same_self i) (rw e refl) ∙ ap (λ (l : List LogEntry). l ++ reached (Some i) (Some j) m 6) entry in
    subst (λ l. Trace first l images (Some j)) (append_assoc log (Asked i.id ∷ []) (reached (Some i) (Some j) m 6) ∙ ap (λ (l : List LogEntry). log ++ l) (sym all))
    (then_told (Some i) j m 6 refl (was_asked e t))

canceled_entry : (i : Job) (stored : Stored) → MayGoIn stored → gone_by i stored ≡ Canceled i.id ∷ []
canceled_entry i Filling h = refl
canceled_entry i Verified h = refl
canceled_entry i Refused h = refl
canceled_entry i Applied h = absurd h

canceled_grows : (first : List Image) (log : List LogEntry) (images : List Image) (i : Job) (m : ℕ) (link : Link) → MayGoIn i.stored → Grows first log images (Some i) m link images None
canceled_grows first log images i m link h t =
    let all : logged_by (Some i) None m 0 ≡ Canceled i.id ∷ [] = append-nil (gone_by i i.stored) ∙ canceled_entry i i.stored h in
    subst (λ l. Trace first (log ++ l) images None) (sym all) (canceled h t)

activated_grows : (first : List Image) (log : List LogEntry) (images after : List Image) (i : Job) (m : ℕ) (link : Link) → i.stored ≡ Applied → Trace first (log ++ Active i.index i.meta ∷ []) after None → Trace first (log ++ logged_by (Some i) None m (update_number (job_phase link None))) after None
activated_grows first log images after i m link e t =
    let all : logged_by (Some i) None m 0 ≡ Active i.index i.meta ∷ [] = rw e refl in
    subst (λ l. Trace first (log ++ l) after None) (sym all) t

-- ---- an event

abbrev PhaseOfJob : Option Job → ℕ → Type 0
PhaseOfJob None m = Unit {0}
PhaseOfJob (Some i) m = PhaseIn i.stored m

job_phase_in : (link : Link) (job : Option Job) → PhaseOfJob job (update_number (job_phase link job))
job_phase_in link None = tt
job_phase_in link (Some j) = phase_in j link j.stored

-- the goal of an event at the jobs and images that it has been shown to have
moved : (first : List Image) (log : List LogEntry) (d e : NodeDurable) (m : ℕ) (link : Link) (old new : Option Job) (after : List Image) → d.job ≡ old → e.job ≡ new → e.images ≡ after → Grows first log d.images old m link after new → Grows first log d.images d.job m link e.images e.job
moved first log d e m link old new after a b c h =
    subst (λ x. Grows first log d.images x m link e.images e.job) (sym a)
    (subst (λ x. Grows first log d.images old m link e.images x) (sym b) (subst (λ x. Grows first log d.images old m link x new) (sym c) h))

move_grows : (first : List Image) (log : List LogEntry) (d e : NodeDurable) (m : ℕ) (link : Link) → PhaseOfJob d.job m → Move d e → Grows first log d.images d.job m link e.images e.job
move_grows first log d e m link p (Stays c b) = moved first log d e m link d.job d.job d.images refl b c (same_grows first log d.images d.job m link)
move_grows first log d e m link p (Fills i parameters held a c b) =
    moved first log d e m link (Some i) (Some (record i { parameters = parameters; held = held })) d.images a b c
    (λ t. filled_grows first log d.images i (record i { parameters = parameters; held = held }) m link (same_self i) refl (filled parameters held t))
move_grows first log d e m link p (Takes j active f free at newer new c b) =
    moved first log d e m link d.job (Some j) d.images refl b c (λ t. taken_grows first log d.images d.job j m link new f (taken j active f free at newer t))
move_grows first log d e m link p (Verifies i a f c b) =
    moved first log d e m link (Some i) (Some (record i { stored = Verified })) d.images a b c (verified_grows first log d.images i m link f (subst (λ job. PhaseOfJob job m) a p))
move_grows first log d e m link p (Refuses i a f c b) =
    moved first log d e m link (Some i) (Some (record i { stored = Refused; parameters = None; held = [] })) d.images a b c (refused_grows first log d.images i m link f)
move_grows first log d e m link p (Asks i a f c b) = moved first log d e m link (Some i) (Some (record i { stored = Applied })) d.images a b c (asked_grows first log d.images i m link f)
move_grows first log d e m link p (Loses i a g c b) = moved first log d e m link (Some i) None d.images a b c (canceled_grows first log d.images i m link g)
move_grows first log d e m link p (Activates i a f c b) =
    moved first log d e m link (Some i) None _ a b c (λ t. activated_grows first log d.images _ i m link f (activated (image_of_job i) refl f t))

-- ---- a run

one_of : (P : NodeDurable → Type 0) (ds : List NodeDurable) (i : ℕ) (d : NodeDurable) → AllByRecursion P ds → P d → P (slice_index_or ds i d)
one_of P [] i d h k = k
one_of P (x ∷ ds) zero d h k = h.0
one_of P (x ∷ ds) (suc i) d h k = one_of P ds i d h.1 k

-- what stands after a happening is the state before it, or the one after its event
abbrev pub IsEither : NodeDurable → NodeDurable → NodeDurable → Type 0
IsEither old new d = (d ≡ old) ⊎ (d ≡ new)

pub left_is : WorkLeavesOldOrNew → (config : NodeConfig) (s : NodeState) (event : NodeEvent) (now operations : ℕ) → IsEither s.durable (node_step config s event now).next.durable (left_after config s event now operations)
left_is law config s event now operations =
    one_of (IsEither s.durable (node_step config s event now).next.durable) (s.durable ∷ node_work config s event now) operations s.durable (inl refl, law config s event now) (inl refl)

pub happening_moves : WorkLeavesOldOrNew → (config : NodeConfig) (s : NodeState) (h : Happening) → Move s.durable (happened config s h).durable
happening_moves law config s (Done event now) = steps config s event now
happening_moves law config s CutPower = Stays refl refl
happening_moves law config s (Torn event now operations) =
    ⊎_elim {C = Move s.durable (left_after config s event now operations)} (λ e. subst (Move s.durable) (sym e) (Stays refl refl)) (λ e. subst (Move s.durable) (sym e) (steps config s event now)) (left_is law config s event now operations)

run_traced : WorkLeavesOldOrNew → (config : NodeConfig) (first : List Image) (log : List LogEntry) (s : NodeState) (hs : List Happening) → Trace first log s.durable.images s.durable.job
    → Trace first (log ++ log_after config s hs) (state_after config s hs).durable.images (state_after config s hs).durable.job
run_traced law config first log s [] t = subst (λ l. Trace first l s.durable.images s.durable.job) (sym (append-nil log)) t
run_traced law config first log s (h ∷ hs) t =
    let next : NodeState = happened config s h in
    let grown : Trace first (log ++ logged s next) next.durable.images next.durable.job =
    move_grows first log s.durable next.durable (update_number (update_phase s)) next.session.link (job_phase_in s.session.link s.durable.job) (happening_moves law config s h) t in
    subst (λ l. Trace first l (state_after config next hs).durable.images (state_after config next hs).durable.job) (append_assoc log (logged s next) (log_after config next hs))
    (run_traced law config first (log ++ logged s next) next hs grown)

-- EACH RUN LEAVES A TRACE
pub traced : WorkLeavesOldOrNew → (config : NodeConfig) (d : NodeDurable) (hs : List Happening) → d.job ≡ None
    → Trace d.images (log_after config (restarted d) hs) (state_after config (restarted d) hs).durable.images (state_after config (restarted d) hs).durable.job
traced law config d hs e = run_traced law config d.images [] (restarted d) hs (subst (Trace d.images [] d.images) (sym e) begun)
