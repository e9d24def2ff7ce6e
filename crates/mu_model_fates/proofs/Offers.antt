-- What a node takes was offered to it.
use Rattle.std.proofs.Common.{◌≡◌, ℕ, true, false, List, [], ◌∷◌, ◌++◌, refl, sym, subst, cond, arith, inl, inr, Option, Some, None}
use Rattle.std.specs.Prelude.{Contains}
use Rattle.std.specs.List.{AllByRecursion}
use Rattle.std.proofs.lemmas.List.Elements.{Contains-append_left, Contains-append_right}
use Rattle.mu_model_wire.specs.Packet.{Packet}
use Rattle.mu_model_image.specs.declared.Meta.{Meta}
use Rattle.mu_model_node.specs.declared.NodeConfig.{NodeConfig}
use Rattle.mu_model_node.specs.declared.Stored.{Stored}
use Rattle.mu_model_node.specs.declared.Stored.TheVariants.{Verified, Applied}
use Rattle.mu_model_node.specs.Events.{NodeEvent, PacketComes, TimeComes, node_step}
use Rattle.mu_model_node.specs.Laws.{WorkLeavesOldOrNew, Caused, EntriesHaveCauses}
use Rattle.mu_model_node.specs.Log.{LogEntry, Took, Asked, Active, Canceled, Reached, was_there, took, asked, asked_by, gone, gone_by, reached, logged_by, logged}
use Rattle.mu_model_node.specs.NodeState.{Job, NodeState, restarted, update_phase, update_number}
use Rattle.mu_model_node.specs.Safe.{Happening, Done, CutPower, Torn, InOrder, here, later, happened, left_after, log_after}
use Rattle.mu_model_fates.specs.Laws.{come_by, come_in, IsOffer}
use Rattle.mu_model_fates.proofs.Order.{in_left, in_split, in_one}
use Rattle.mu_model_fates.proofs.Runs.{never_new, left_is}

-- ---- only an Update Start's part of the entries has a Took

no_asked_by : (id index : ℕ) (meta : Meta) (own : ℕ) (a b : Stored) → InOrder (Took id index meta ∷ []) (asked_by own a b) → ⊥
no_asked_by id index meta own Verified Applied h = let e : Took id index meta ≡ Asked own = in_one h in cc
no_asked_by id index meta own _ _ h = elim h [ ]

no_asked : (id index : ℕ) (meta : Meta) (old new : Option Job) → InOrder (Took id index meta ∷ []) (asked old new) → ⊥
no_asked id index meta (Some i) (Some j) h = no_asked_by id index meta j.id i.stored j.stored h
no_asked id index meta _ _ h = elim h [ ]

no_gone_by : (id index : ℕ) (meta : Meta) (i : Job) (stored : Stored) → InOrder (Took id index meta ∷ []) (gone_by i stored) → ⊥
no_gone_by id index meta i Applied h = let e : Took id index meta ≡ Active i.index i.meta = in_one h in cc
no_gone_by id index meta i _ h = let e : Took id index meta ≡ Canceled i.id = in_one h in cc

no_gone : (id index : ℕ) (meta : Meta) (old new : Option Job) → InOrder (Took id index meta ∷ []) (gone old new) → ⊥
no_gone id index meta (Some i) None h = no_gone_by id index meta i i.stored h
no_gone id index meta _ _ h = elim h [ ]

no_reached : (id index : ℕ) (meta : Meta) (old new : Option Job) (m n : ℕ) → InOrder (Took id index meta ∷ []) (reached old new m n) → ⊥
no_reached id index meta old None m n h = elim h [ ]
no_reached id index meta old (Some j) m n h =
    elim (was_there old j m n) as (λ b. InOrder (Took id index meta ∷ []) (cond b [] (Reached j.id n ∷ [])) → ⊥) [
      | true ↦ λ k. elim k [ ]
      | false ↦ λ k. let e : Took id index meta ≡ Reached j.id n = in_one k in cc
    ] h

in_took : (id index : ℕ) (meta : Meta) (old new : Option Job) (m n : ℕ) → InOrder (Took id index meta ∷ []) (logged_by old new m n) → InOrder (Took id index meta ∷ []) (took old new)
in_took id index meta old new m n h =
    elim (in_split (took old new) (asked old new ++ (gone old new ++ reached old new m n)) h) [
      | inl k ↦ k
      | inr k ↦ elim (in_split (asked old new) (gone old new ++ reached old new m n) k) [
        | inl l ↦ absurd (no_asked id index meta old new l)
        | inr l ↦ elim (in_split (gone old new) (reached old new m n) l) [
          | inl q ↦ absurd (no_gone id index meta old new q)
          | inr q ↦ absurd (no_reached id index meta old new m n q)
        ]
      ]
    ]

-- a job that stays isn't taken
no_stay : (id index : ℕ) (meta : Meta) (job : Option Job) → InOrder (Took id index meta ∷ []) (took job job) → ⊥
no_stay id index meta None h = elim h [ ]
no_stay id index meta (Some i) h =
    let nothing : InOrder (Took id index meta ∷ []) [] = subst (λ b. InOrder (Took id index meta ∷ []) (cond b (Took i.id i.index i.meta ∷ []) [])) (never_new i) h in
    elim nothing [ ]

-- ---- the cause of a Took

cause_at : (config : NodeConfig) (s : NodeState) (event : NodeEvent) (e : LogEntry) (log : List LogEntry) → AllByRecursion (Caused config s event) log → InOrder (e ∷ []) log → Caused config s event e
cause_at config s event e [] all h = elim h [ ]
cause_at config s event e (x ∷ log) all (here h) = all.0
cause_at config s event e (x ∷ log) all (later h) = cause_at config s event e log all.1 h

abbrev Offered : NodeConfig → List Packet → ℕ → ℕ → Meta → Type 0
Offered config packets id index meta = (packet : Packet) × Contains packets packet × IsOffer config packet id index meta

by_event : (config : NodeConfig) (s : NodeState) (event : NodeEvent) (now id index : ℕ) (meta : Meta) → Caused config s event (Took id index meta) → Offered config (come_by (Done event now)) id index meta
by_event config s (PacketComes packet) now id index meta h = (
  packet,
  (0, omega arith, refl),
  record {
    addressed = h.1.0;
    start = h.0;
    asks = h.1.1;
    same_id = h.2;
    same_index = h.3;
    same_meta = h.4;
  },
)
by_event config s TimeComes now id index meta h = absurd h.1

took_by : EntriesHaveCauses → (config : NodeConfig) (s : NodeState) (event : NodeEvent) (now id index : ℕ) (meta : Meta) → InOrder (Took id index meta ∷ []) (took s.durable.job (node_step config s event now).next.durable.job)
    → Offered config (come_by (Done event now)) id index meta
took_by causes config s event now id index meta h =
    by_event config s event now id index meta
    (cause_at config s event (Took id index meta) (logged s (node_step config s event now).next) (causes config s event now) (in_left _ h))

torn_by : (event : NodeEvent) (now operations : ℕ) → come_by (Torn event now operations) ≡ come_by (Done event now)
torn_by (PacketComes packet) now operations = refl
torn_by TimeComes now operations = refl

-- the job before a happening and the one after it
took_in : (id index : ℕ) (meta : Meta) (s t : NodeState) → InOrder (Took id index meta ∷ []) (logged s t) → InOrder (Took id index meta ∷ []) (took s.durable.job t.durable.job)
took_in id index meta s t h = in_took id index meta s.durable.job t.durable.job (update_number (update_phase s)) (update_number (update_phase t)) h

offered_by : WorkLeavesOldOrNew → EntriesHaveCauses → (config : NodeConfig) (s : NodeState) (h : Happening) (id index : ℕ) (meta : Meta) → InOrder (Took id index meta ∷ []) (logged s (happened config s h)) → Offered config (come_by h) id index meta
offered_by work causes config s (Done event now) id index meta o = took_by causes config s event now id index meta (took_in id index meta s (node_step config s event now).next o)
offered_by work causes config s CutPower id index meta o = absurd (no_stay id index meta s.durable.job (took_in id index meta s (restarted s.durable) o))
offered_by work causes config s (Torn event now operations) id index meta o =
    let t : NodeState = restarted (left_after config s event now operations) in
    let entry : InOrder (Took id index meta ∷ []) (took s.durable.job t.durable.job) = took_in id index meta s t o in
    elim (left_is work config s event now operations) [
      | inl e ↦ absurd (no_stay id index meta s.durable.job (subst (λ d. InOrder (Took id index meta ∷ []) (took s.durable.job d.job)) e entry))
      | inr e ↦
          subst (λ packets. Offered config packets id index meta) (sym (torn_by event now operations))
          (took_by causes config s event now id index meta (subst (λ d. InOrder (Took id index meta ∷ []) (took s.durable.job d.job)) e entry))
    ]

-- ---- a run

pub took_offered : WorkLeavesOldOrNew → EntriesHaveCauses → (config : NodeConfig) (s : NodeState) (hs : List Happening) (id index : ℕ) (meta : Meta) → InOrder (Took id index meta ∷ []) (log_after config s hs) → Offered config (come_in hs) id index meta
took_offered work causes config s [] id index meta o = elim o [ ]
took_offered work causes config s (h ∷ hs) id index meta o =
    elim (in_split (logged s (happened config s h)) (log_after config (happened config s h) hs) o) [
      | inl k ↦ (let own = offered_by work causes config s h id index meta k in (own.0, Contains-append_left (come_by h) (come_in hs) own.0 own.1, own.2))
      | inr k ↦ (let more = took_offered work causes config (happened config s h) hs id index meta k in (more.0, Contains-append_right (come_by h) (come_in hs) more.0 more.1, more.2))
    ]
