-- What an updater's rows show of a node was reached by the node.
use Rattle.std.proofs.Common.{◌≡◌, ◌==◌, ℕ, Bool, true, false, List, [], ◌∷◌, ◌++◌, sym, ◌∙◌, subst, cond, Option, Some, None, inl, inr}
use Rattle.std.specs.List.{AllByRecursion}
use Rattle.mu_model_wire.specs.Packet.{Packet}
use Rattle.mu_model_node.specs.Events.{NodeEvent, PacketComes, TimeComes}
use Rattle.mu_model_node.specs.Log.{LogEntry, Reached}
use Rattle.mu_model_node.specs.NodeState.{NodeDurable, restarted}
use Rattle.mu_model_node.specs.Safe.{InOrder as LogOrder}
use Rattle.mu_model_client.specs.Answers.{Answer, answer_at}
use Rattle.mu_model_client.specs.Rows.{Row}
use Rattle.mu_model_told.specs.Reached.{WasReached, IsReached, SentIsReached, sent_in}
use Rattle.mu_model_listed.specs.Laws.{HasPayload, ComesFrom}
use Rattle.mu_model_updater.specs.Updater.{Heard, come_by, come_in, heard_as, heard_by, heard_in}
use Rattle.mu_model_updater.specs.Laws.{InOrder, none, here, later, RowIsTold, unknown as told_unknown, failed as told_failed, told, shown, RowsAreTold}
use Rattle.mu_model_updater_reached.specs.Laws.{Both, log_of, rows_of, RowIsReached, unknown, failed, reached, active, RowsAreReached, RowIsTrue, untold, unconfirmed, logged, updated, NewRowsAreTrue}

-- ---- what came

-- a packet of the node tells what was reached, and so does what is heard
abbrev Says : Both → Packet → Type 0
Says b p = p.from ≡ b.config.address → IsReached b.node (log_of b) (answer_at p.payload)

abbrev IsTrueOf : Both → Heard → Type 0
IsTrueOf b h = h.from ≡ b.config.address → IsReached b.node (log_of b) (Some h.answer)

payload_reached : (b : Both) (payload : List ℕ) (sent : List Packet) → AllByRecursion (λ (p : Packet). IsReached b.node (log_of b) (answer_at p.payload)) sent → HasPayload payload sent → IsReached b.node (log_of b) (answer_at payload)
payload_reached b payload [] h k = absurd k
payload_reached b payload (p ∷ sent) h (inl e) = subst (λ (os : List ℕ). IsReached b.node (log_of b) (answer_at os)) e h.0
payload_reached b payload (p ∷ sent) h (inr k) = payload_reached b payload sent h.1 k

come_says : (b : Both) (sent come : List Packet) → AllByRecursion (λ (p : Packet). IsReached b.node (log_of b) (answer_at p.payload)) sent → ComesFrom b.config.address sent come → AllByRecursion (Says b) come
come_says b sent [] h k = tt
come_says b sent (p ∷ come) h k = ((λ from. payload_reached b p.payload sent h (k.0 from)), come_says b sent come h k.1)

-- ---- what is heard

as_true : (b : Both) (from : ℕ) (answer : Option Answer) → (from ≡ b.config.address → IsReached b.node (log_of b) answer) → AllByRecursion (IsTrueOf b) (heard_as from answer)
as_true b from None h = tt
as_true b from (Some answer) h = (h, tt)

by_true : (b : Both) (address : ℕ) (event : NodeEvent) → AllByRecursion (Says b) (come_by event) → AllByRecursion (IsTrueOf b) (heard_by address event)
by_true b address TimeComes h = tt
by_true b address (PacketComes p) h = by_address (p.to == address)
  where
    by_address : (is_to : Bool) → AllByRecursion (IsTrueOf b) (cond is_to (heard_as p.from (answer_at p.payload)) [])
    by_address true = as_true b p.from (answer_at p.payload) h.0
    by_address false = tt

left_all : {A : Type 0} (P : A → Type 0) (xs ys : List A) → AllByRecursion P (xs ++ ys) → AllByRecursion P xs
left_all P [] ys h = tt
left_all P (x ∷ xs) ys h = (h.0, left_all P xs ys h.1)

right_all : {A : Type 0} (P : A → Type 0) (xs ys : List A) → AllByRecursion P (xs ++ ys) → AllByRecursion P ys
right_all P [] ys h = h
right_all P (x ∷ xs) ys h = right_all P xs ys h.1

both_all : {A : Type 0} (P : A → Type 0) (xs ys : List A) → AllByRecursion P xs → AllByRecursion P ys → AllByRecursion P (xs ++ ys)
both_all P [] ys h k = k
both_all P (x ∷ xs) ys h k = (h.0, both_all P xs ys h.1 k)

heard_true : (b : Both) (address : ℕ) (run : List (NodeEvent × ℕ)) → AllByRecursion (Says b) (come_in run) → AllByRecursion (IsTrueOf b) (heard_in address run)
heard_true b address [] h = tt
heard_true b address (e ∷ run) h =
    both_all (IsTrueOf b) (heard_by address e.0) (heard_in address run) (by_true b address e.0 (left_all (Says b) (come_by e.0) (come_in run) h))
    (heard_true b address run (right_all (Says b) (come_by e.0) (come_in run) h))

-- what stands among what is heard is true
among : (b : Both) {xs heard : List Heard} → InOrder xs heard → AllByRecursion (IsTrueOf b) heard → AllByRecursion (IsTrueOf b) xs
among b none h = tt
among b (here k) h = (h.0, among b k h.1)
among b (later k) h = among b k h.1

-- ---- rows

row_reached : (b : Both) (row : Row) → AllByRecursion (IsTrueOf b) (heard_in b.plan.sending.from b.to_updater) → row.address ≡ b.config.address → RowIsTold b.plan (heard_in b.plan.sending.from b.to_updater) row → RowIsReached b row
row_reached b row all from (told_unknown e) = unknown e
row_reached b row all from (told_failed e) = failed e
row_reached b row all from (told is h) = reached is (subst (λ id. WasReached b.node (log_of b) id row.phase) h.of ((among b h.heard_it all).0 from))
row_reached b row all from (shown is h) =
    let said = among b h.heard_both all in
    active h.phase is h.reported (subst (λ id. WasReached b.node (log_of b) id h.phase) h.of (said.0 from)) (said.1.0 from).0

each_reached : (b : Both) (given : List Row) → AllByRecursion (IsTrueOf b) (heard_in b.plan.sending.from b.to_updater) → AllByRecursion (RowIsTold b.plan (heard_in b.plan.sending.from b.to_updater)) given → AllByRecursion (λ (row : Row). row.address ≡ b.config.address → RowIsReached b row) given
each_reached b [] all h = tt
each_reached b (row ∷ given) all h = ((λ e. row_reached b row all e h.0), each_reached b given all h.1)

pub rows_are_reached : SentIsReached → RowsAreTold → RowsAreReached
rows_are_reached sent law b h =
    each_reached b (rows_of b)
    (heard_true b b.plan.sending.from b.to_updater
    (come_says b (sent_in b.config (restarted b.node) b.to_node) (come_in b.to_updater) (sent b.config b.node b.to_node h.node h.numbers h.to_node) h.comes))
    (law b.plan b.image b.receivers b.to_updater)

-- ---- a node without a job

in_log : (d : NodeDurable) (log : List LogEntry) (id phase : ℕ) → d.job ≡ None → WasReached d log id phase → LogOrder (Reached id phase ∷ []) log
in_log d log id phase e (inl h) = h
in_log d log id phase e (inr h) =
    let never : Some h.0 ≡ None = sym h.1 ∙ e in
    cc

row_true : (b : Both) (row : Row) → b.node.job ≡ None → RowIsReached b row → RowIsTrue b row
row_true b row new (unknown e) = untold e
row_true b row new (failed e) = unconfirmed e
row_true b row new (reached is h) = logged is (in_log b.node _ _ _ new h)
row_true b row new (active phase is reported h has) = updated phase is reported (in_log b.node _ _ _ new h) has

each_true : (b : Both) (given : List Row) → b.node.job ≡ None → AllByRecursion (λ (row : Row). row.address ≡ b.config.address → RowIsReached b row) given → AllByRecursion (λ (row : Row). row.address ≡ b.config.address → RowIsTrue b row) given
each_true b [] new h = tt
each_true b (row ∷ given) new h = ((λ e. row_true b row new (h.0 e)), each_true b given new h.1)

pub new_rows_are_true : RowsAreReached → NewRowsAreTrue
new_rows_are_true law b h new = each_true b (rows_of b) new (law b h)
