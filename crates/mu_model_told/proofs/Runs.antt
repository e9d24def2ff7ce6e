-- Over whole runs a node's state is sound, its job's numbers are in range, and the phase that it is in was reached.
use Rattle.std.proofs.Common.{◌≡◌, ℕ, zero, suc, Bool, true, false, List, [], ◌∷◌, ◌++◌, refl, sym, ap, subst, ◌∙◌, cond, append_assoc, Option, Some, None, ◌⊎◌, inl, inr, ⊎_elim}
use Rattle.std.specs.Prelude.{◌==◌, ◌&&◌, not, slice_index_or}
use Rattle.std.specs.List.{AllByRecursion}
use Rattle.std.proofs.lemmas.Bool.{eqb-true}
use Rattle.mu_model_node.specs.declared.NodeConfig.{NodeConfig}
use Rattle.mu_model_node.specs.Events.{NodeEvent, node_step, node_work}
use Rattle.mu_model_node.specs.Laws.{EventsKeepStatesSound, BootsAreSound, WorkLeavesOldOrNew}
use Rattle.mu_model_node.specs.Log.{LogEntry, Reached, is_new, took, asked, gone, reached, logged_by, logged}
use Rattle.mu_model_node.specs.NodeState.{Job, NodeDurable, NodeState, update_number, update_phase, restarted}
use Rattle.mu_model_node.specs.Safe.{Happening, Done, CutPower, Torn, InOrder, none, here, later, left_after, happened, state_after, log_after}
use Rattle.mu_model_node.specs.Sound.{IsNodeDurable, IsNodeState}
use Rattle.mu_model_told.specs.Laws.{HasNumbers}
use Rattle.mu_model_told.specs.Reached.{HappeningFits, WasReached}
use Rattle.mu_model_told.proofs.Numbers.{numbers_stay}

-- ---- what a torn event leaves

one_of : (P : NodeDurable → Type 0) (ds : List NodeDurable) (i : ℕ) (d : NodeDurable) → AllByRecursion P ds → P d → P (slice_index_or ds i d)
one_of P [] i d h k = k
one_of P (x ∷ ds) zero d h k = h.0
one_of P (x ∷ ds) (suc i) d h k = one_of P ds i d h.1 k

either_of : (P : NodeDurable → Type 0) (old new : NodeDurable) (ds : List NodeDurable) → AllByRecursion (λ (d : NodeDurable). (d ≡ old) ⊎ (d ≡ new)) ds → P old → P new → AllByRecursion P ds
either_of P old new [] h k l = tt
either_of P old new (d ∷ ds) h k l = (⊎_elim (λ e. subst P (sym e) k) (λ e. subst P (sym e) l) h.0, either_of P old new ds h.1 k l)

left_is : WorkLeavesOldOrNew → (P : NodeDurable → Type 0) (config : NodeConfig) (s : NodeState) (event : NodeEvent) (now operations : ℕ) → P s.durable → P (node_step config s event now).next.durable → P (left_after config s event now operations)
left_is law P config s event now operations h k =
    one_of P (s.durable ∷ node_work config s event now) operations s.durable (h, either_of P s.durable (node_step config s event now).next.durable (node_work config s event now) (law config s event now) h k) h

-- ---- in order

pub record IsInOrder (s : NodeState) : Type 0 where
  pub sound : IsNodeState s
  pub numbers : HasNumbers s.durable.job

abbrev HasBoth : NodeDurable → Type 0
HasBoth d = IsNodeDurable d × HasNumbers d.job

booted : BootsAreSound → (d : NodeDurable) → HasBoth d → IsInOrder (restarted d)
booted boots d h = record { sound = boots d h.0; numbers = h.1 }

happens : EventsKeepStatesSound → BootsAreSound → WorkLeavesOldOrNew → (config : NodeConfig) (s : NodeState) (h : Happening) → HappeningFits h → IsInOrder s → IsInOrder (happened config s h)
happens events boots work config s (Done event now) fits k = record { sound = events config s event now fits.0 k.sound; numbers = numbers_stay config s event now fits.1 k.numbers }
happens events boots work config s CutPower fits k = booted boots s.durable (k.sound.durable, k.numbers)
happens events boots work config s (Torn event now operations) fits k =
    booted boots (left_after config s event now operations)
    (left_is work HasBoth config s event now operations (k.sound.durable, k.numbers) ((events config s event now fits.0 k.sound).durable, numbers_stay config s event now fits.1 k.numbers))

pub run_in_order : EventsKeepStatesSound → BootsAreSound → WorkLeavesOldOrNew → (config : NodeConfig) (s : NodeState) (hs : List Happening) → AllByRecursion HappeningFits hs → IsInOrder s → IsInOrder (state_after config s hs)
run_in_order events boots work config s [] fits k = k
run_in_order events boots work config s (h ∷ hs) fits k = run_in_order events boots work config (happened config s h) hs fits.1 (happens events boots work config s h fits.0 k)

-- ---- the log

pub in_left : {xs log : List LogEntry} (more : List LogEntry) → InOrder xs log → InOrder xs (log ++ more)
in_left more none = none
in_left more (here h) = here (in_left more h)
in_left more (later h) = later (in_left more h)

in_right : {xs more : List LogEntry} (log : List LogEntry) → InOrder xs more → InOrder xs (log ++ more)
in_right [] h = h
in_right (x ∷ log) h = later (in_right log h)

pub more_reached : (d : NodeDurable) (log more : List LogEntry) (id phase : ℕ) → WasReached d log id phase → WasReached d (log ++ more) id phase
more_reached d log more id phase (inl h) = inl (in_left more h)
more_reached d log more id phase (inr h) = inr h

-- the phase of a job was reached
abbrev pub JobIsReached : NodeDurable → List LogEntry → ℕ → Option Job → Type 0
JobIsReached d log phase None = Unit {0}
JobIsReached d log phase (Some j) = WasReached d log j.id phase

abbrev pub StateIsReached : NodeDurable → List LogEntry → NodeState → Type 0
StateIsReached d log s = JobIsReached d log (update_number (update_phase s)) s.durable.job

same_parts : (a b c : Bool) → (a && b && c) ≡ true → (a ≡ true) × (b ≡ true)
same_parts true true c e = (refl, refl)
same_parts true false c e = cc
same_parts false b c e = cc

reached_or : (d : NodeDurable) (log : List LogEntry) (old new : Job) (n m : ℕ) (b : Bool) → ((n == m) && (old.id == new.id) && not (is_new (Some old) new)) ≡ b → WasReached d log old.id n → WasReached d (log ++ cond b [] (Reached new.id m ∷ [])) new.id m
reached_or d log old new n m true e h =
    let parts = same_parts (n == m) (old.id == new.id) (not (is_new (Some old) new)) e in
    more_reached d log [] new.id m (subst (λ k. WasReached d log k m) (eqb-true old.id new.id parts.1) (subst (λ k. WasReached d log old.id k) (eqb-true n m parts.0) h))
reached_or d log old new n m false e h = inl (in_right log (here none))

last_reached : (d : NodeDurable) (log : List LogEntry) (old new : Option Job) (n m : ℕ) → JobIsReached d log n old → JobIsReached d (log ++ reached old new n m) m new
last_reached d log old None n m h = tt
last_reached d log None (Some new) n m h = inl (in_right log (here none))
last_reached d log (Some old) (Some new) n m h = reached_or d log old new n m ((n == m) && (old.id == new.id) && not (is_new (Some old) new)) refl h

job_later : (d : NodeDurable) (log more : List LogEntry) (n : ℕ) (job : Option Job) → JobIsReached d log n job → JobIsReached d (log ++ more) n job
job_later d log more n None h = tt
job_later d log more n (Some j) h = more_reached d log more j.id n h

logged_reached : (d : NodeDurable) (log : List LogEntry) (old new : Option Job) (n m : ℕ) → JobIsReached d log n old → JobIsReached d (log ++ logged_by old new n m) m new
logged_reached d log old new n m h =
    let before : List LogEntry = took old new ++ (asked old new ++ gone old new) in
    let k = last_reached d (log ++ before) old new n m (job_later d log before n old h) in
    let order : (log ++ before) ++ reached old new n m ≡ log ++ logged_by old new n m =
    append_assoc log before (reached old new n m)
    ∙ ap (λ (more : List LogEntry). log ++ more) (append_assoc (took old new) (asked old new ++ gone old new) (reached old new n m)
    ∙ ap (λ (more : List LogEntry). took old new ++ more) (append_assoc (asked old new) (gone old new) (reached old new n m))) in
    subst (λ (all : List LogEntry). JobIsReached d all m new) order k

run_reached : (config : NodeConfig) (d : NodeDurable) (s : NodeState) (hs : List Happening) (log : List LogEntry) → StateIsReached d log s → StateIsReached d (log ++ log_after config s hs) (state_after config s hs)
run_reached config d s [] log h = job_later d log [] (update_number (update_phase s)) s.durable.job h
run_reached config d s (x ∷ hs) log h =
    let t : NodeState = happened config s x in
    let next = run_reached config d t hs (log ++ logged s t) (logged_reached d log s.durable.job t.durable.job (update_number (update_phase s)) (update_number (update_phase t)) h) in
    subst (λ (all : List LogEntry). StateIsReached d all (state_after config t hs)) (append_assoc log (logged s t) (log_after config t hs)) next

found_reached : (d : NodeDurable) (job : Option Job) → d.job ≡ job → JobIsReached d [] (update_number (update_phase (restarted d))) job
found_reached d None e = tt
found_reached d (Some j) e = inr (j, e, refl, refl)

pub runs_reached : (config : NodeConfig) (d : NodeDurable) (hs : List Happening) → StateIsReached d (log_after config (restarted d) hs) (state_after config (restarted d) hs)
runs_reached config d hs = run_reached config d (restarted d) hs [] (found_reached d d.job refl)

pub boot_in_order : BootsAreSound → (d : NodeDurable) → IsNodeDurable d → HasNumbers d.job → IsInOrder (restarted d)
boot_in_order boots d h k = booted boots d (h, k)

-- one happening more
pub state_more : (config : NodeConfig) (s : NodeState) (hs : List Happening) (h : Happening) → state_after config s (hs ++ h ∷ []) ≡ happened config (state_after config s hs) h
state_more config s [] h = refl
state_more config s (x ∷ hs) h = state_more config (happened config s x) hs h
