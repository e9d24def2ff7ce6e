-- From new ones on, each list is true.
use Rattle.std.proofs.Common.{◌≡◌, ℕ, List, [], ◌∷◌, sym, ◌∙◌, Option, Some, None, inl, inr}
use Rattle.std.specs.List.{AllByRecursion}
use Rattle.mu_model_wire.specs.Packet.{Packet}
use Rattle.mu_model_node.specs.Log.{LogEntry, Reached}
use Rattle.mu_model_node.specs.NodeState.{NodeDurable}
use Rattle.mu_model_node.specs.Safe.{InOrder as LogOrder}
use Rattle.mu_model_client.specs.Rows.{Row}
use Rattle.mu_model_distributor.specs.DistState.{Receiver, receiver_of}
use Rattle.mu_model_distributor.specs.DistEvents.{dist_step, live}
use Rattle.mu_model_distributor.specs.Runs.{state_after}
use Rattle.mu_model_distributor_laws.specs.RowsTold.{HasFound}
use Rattle.mu_model_distributor_laws.specs.Lists.{list_at}
use Rattle.mu_model_told.specs.Reached.{WasReached}
use Rattle.mu_model_listed.specs.Laws.{Both, RowIsReached, verdict, found, reached, active, active_since, ListIsReached, ListsAreReached, IsShownTruly, ruled, logged, updated, AreNew, ListIsTrue, NewListsAreTrue}

in_log : (d : NodeDurable) (log : List LogEntry) (id phase : ℕ) → d.job ≡ None → WasReached d log id phase → LogOrder (Reached id phase ∷ []) log
in_log d log id phase e (inl h) = h
in_log d log id phase e (inr h) =
    let none : Some h.0 ≡ None = sym h.1 ∙ e in
    cc

none_found : {A : Type 0} (rs : List Receiver) (address index phase : ℕ) → rs ≡ [] → HasFound rs address index phase → A
none_found [] address index phase e h = absurd h
none_found (r ∷ rs) address index phase e h = cc

row_true : (b : Both) (r : Receiver) → AreNew b → RowIsReached b r → IsShownTruly b r
row_true b r new (verdict h) = ruled h
row_true b r new (found e h) = none_found b.distributor.receivers r.address r.index r.phase new.0 h
row_true b r new (reached is h) = logged is (in_log b.node _ _ _ new.1 h)
row_true b r new (active phase is reported h has) = updated phase is reported (in_log b.node _ _ _ new.1 h) has
row_true b r new (active_since phase is e reported h has) = none_found b.distributor.receivers r.address r.index phase new.0 h

shown_true : (b : Both) (given : List Row) → AreNew b → ListIsReached b (Some given) → ListIsTrue b (Some given)
shown_true b [] new h = tt
shown_true b (row ∷ given) new h = ((λ e. row_true b (receiver_of row) new (h.0 e)), shown_true b given new h.1)

list_true : (b : Both) (given : Option (List Row)) → AreNew b → ListIsReached b given → ListIsTrue b given
list_true b None new h = tt
list_true b (Some given) new h = shown_true b given new h

lists_true : (b : Both) (sent : List Packet) → AreNew b → AllByRecursion (λ (p : Packet). ListIsReached b (list_at p.payload)) sent → AllByRecursion (λ (p : Packet). ListIsTrue b (list_at p.payload)) sent
lists_true b [] new h = tt
lists_true b (p ∷ sent) new h = (list_true b (list_at p.payload) new h.0, lists_true b sent new h.1)

pub new_lists_are_true : ListsAreReached → NewListsAreTrue
new_lists_are_true law b event now h new fits =
    lists_true b (dist_step b.address (state_after b.address (live b.address b.distributor b.fresh) b.to_distributor) event now).sent new (law b event now h fits)
