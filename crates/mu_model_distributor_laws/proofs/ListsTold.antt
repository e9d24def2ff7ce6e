-- Each row of a list is as its receiver told it.
use Rattle.std.proofs.Common.{ℕ, List, [], ◌∷◌, map, Option, Some, None}
use Rattle.std.specs.List.{AllByRecursion}
use Rattle.mu_model_wire.specs.Opcodes.{OneOctetIsKept, TwoOctetsAreKept}
use Rattle.mu_model_wire.specs.Packet.{Packet}
use Rattle.mu_model_wire.specs.Laws.{CanonicalIsRead, GrammarHolds}
use Rattle.mu_model_node.specs.Laws.{RequestsKeepStatesSound}
use Rattle.mu_model_node.specs.Safe.{Happening}
use Rattle.mu_model_client.specs.Rows.{Row}
use Rattle.mu_model_distributor.specs.DistState.{Receiver, DistDurable, DistState, transfer_id, rows_by, receiver_of}
use Rattle.mu_model_distributor.specs.Receivers.{rounded}
use Rattle.mu_model_distributor.specs.DistEvents.{dist_step, live}
use Rattle.mu_model_distributor.specs.Runs.{state_after}
use Rattle.mu_model_distributor_laws.specs.RunLaws.{IsInOrder}
use Rattle.mu_model_distributor_laws.specs.RowsTold.{Told, RowsAreToldIn, heard_in}
use Rattle.mu_model_distributor_laws.specs.Lists.{list_at, ShowsRows, TellsRows, ListsAreTold}
use Rattle.mu_model_distributor_laws.proofs.RunLaws.{begun, run_in_order}
use Rattle.mu_model_distributor_laws.proofs.RowsTold.{rows_are_told}
use Rattle.mu_model_distributor_laws.proofs.ListsSent.{all_dropped, all_taken, lists_show}

kept_told : (P : Receiver → Type 0) (rs : List Receiver) (ps : List ℕ) → AllByRecursion P rs → AllByRecursion (λ (row : Row). P (receiver_of row)) (map rounded (rows_by rs ps))
kept_told P [] ps h = tt
kept_told P (r ∷ rs) [] h = (h.0, kept_told P rs [] h.1)
kept_told P (r ∷ rs) (n ∷ ps) h = (h.0, kept_told P rs ps h.1)

shown_told : (address : ℕ) (d : DistDurable) (fresh : ℕ) (hs : List Happening) (shown : Option (List Row)) → RowsAreToldIn address d (heard_in address (live address d fresh) hs) (state_after address (live address d fresh) hs).durable
    → ShowsRows (state_after address (live address d fresh) hs) shown → TellsRows address d fresh hs shown
shown_told address d fresh hs None told h = tt
shown_told address d fresh hs (Some shown) told h =
    let s : DistState = state_after address (live address d fresh) hs in
    let P : Receiver → Type 0 = Told d (transfer_id address s.durable) s.durable.counter (heard_in address (live address d fresh) hs) in
    rw h.2 (all_taken (λ (row : Row). P (receiver_of row)) h.1 _ (all_dropped (λ (row : Row). P (receiver_of row)) h.0 _ (kept_told P s.durable.receivers s.progress told)))

all_told : (address : ℕ) (d : DistDurable) (fresh : ℕ) (hs : List Happening) (sent : List Packet) → RowsAreToldIn address d (heard_in address (live address d fresh) hs) (state_after address (live address d fresh) hs).durable
    → AllByRecursion (λ (p : Packet). ShowsRows (state_after address (live address d fresh) hs) (list_at p.payload)) sent → AllByRecursion (λ (p : Packet). TellsRows address d fresh hs (list_at p.payload)) sent
all_told address d fresh hs [] told h = tt
all_told address d fresh hs (p ∷ sent) told h = (shown_told address d fresh hs (list_at p.payload) told h.0, all_told address d fresh hs sent told h.1)

pub lists_are_told : OneOctetIsKept → TwoOctetsAreKept → RequestsKeepStatesSound → CanonicalIsRead → GrammarHolds → ListsAreTold
lists_are_told one two law again grammar address d fresh hs event now h few fits fit =
    let order : IsInOrder address (state_after address (live address d fresh) hs) = run_in_order law address (live address d fresh) hs fits (begun address d fresh h few) in
    all_told address d fresh hs (dist_step address (state_after address (live address d fresh) hs) event now).sent (rows_are_told law address d fresh hs h few fits)
    (lists_show one two again grammar address (state_after address (live address d fresh) hs) event now fit order.sound)
