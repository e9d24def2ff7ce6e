-- The rows of a list have the indexes that were asked.
use Rattle.std.proofs.Common.{◌≡◌, ℕ, zero, suc, List, [], ◌∷◌, map, take, drop, Option, Some, None, ◌⊎◌}
use Rattle.std.specs.List.{AllByRecursion}
use Rattle.mu_model_wire.specs.Packet.{Packet}
use Rattle.mu_model_node.specs.UpdateMessages.{UpdateStart}
use Rattle.mu_model_client.specs.Rows.{Row}
use Rattle.mu_model_distributor.specs.DistState.{Receiver, DistState, rows_by, receiver_of}
use Rattle.mu_model_distributor.specs.Receivers.{rounded}
use Rattle.mu_model_distributor_laws.specs.Lists.{list_at, ShowsRows, ListsShowRows}
use Rattle.mu_model_distributor_laws.specs.RunLaws.{RunsAreInOrder}
use Rattle.mu_model_distributor_laws.specs.Starts.{StartsAreInOrder}
use Rattle.mu_model_offers.specs.Laws.{end_of, IsUnheard, ListAgrees, ListsAgree}
use Rattle.mu_model_offers.proofs.Below.{Below}
use Rattle.mu_model_offers.proofs.Agree.{rows_agree}

dropped : (P : Row → Type 0) (n : ℕ) (given : List Row) → AllByRecursion P given → AllByRecursion P (drop n given)
dropped P zero given h = h
dropped P (suc n) [] h = tt
dropped P (suc n) (row ∷ given) h = dropped P n given h.1

taken : (P : Row → Type 0) (n : ℕ) (given : List Row) → AllByRecursion P given → AllByRecursion P (take n given)
taken P zero given h = tt
taken P (suc n) [] h = tt
taken P (suc n) (row ∷ given) h = (h.0, taken P n given h.1)

-- what holds of each receiver holds of each row
rows_are : (P : Receiver → Type 0) (rs : List Receiver) (ps : List ℕ) → AllByRecursion P rs → AllByRecursion (λ (row : Row). P (receiver_of row)) (map rounded (rows_by rs ps))
rows_are P [] ps h = tt
rows_are P (r ∷ rs) [] h = (h.0, rows_are P rs [] h.1)
rows_are P (r ∷ rs) (n ∷ ps) h = (h.0, rows_are P rs ps h.1)

list_agrees : (s : DistState) (to : ℕ) (u : UpdateStart) (shown : Option (List Row)) → AllByRecursion (λ (row : Receiver). row.address ≡ to → (row.index ≡ u.index) ⊎ IsUnheard s.durable row) s.durable.receivers → ShowsRows s shown → ListAgrees s.durable to u shown
list_agrees s to u None all h = tt
list_agrees s to u (Some shown) all h =
    let P : Receiver → Type 0 = λ (row : Receiver). row.address ≡ to → (row.index ≡ u.index) ⊎ IsUnheard s.durable row in
    rw h.2 (taken (λ (row : Row). P (receiver_of row)) h.1 _ (dropped (λ (row : Row). P (receiver_of row)) h.0 _ (rows_are P s.durable.receivers s.progress all)))

all_agree : (s : DistState) (to : ℕ) (u : UpdateStart) (sent : List Packet) → AllByRecursion (λ (row : Receiver). row.address ≡ to → (row.index ≡ u.index) ⊎ IsUnheard s.durable row) s.durable.receivers → AllByRecursion (λ (p : Packet). ShowsRows s (list_at p.payload)) sent → AllByRecursion (λ (p : Packet). ListAgrees s.durable to u (list_at p.payload)) sent
all_agree s to u [] all h = tt
all_agree s to u (p ∷ sent) all h = (list_agrees s to u (list_at p.payload) all h.0, all_agree s to u sent all h.1)

pub lists_agree : Below → StartsAreInOrder → RunsAreInOrder → ListsShowRows → ListsAgree
lists_agree below order runs show r event now to u h fits k same =
    let end = runs r.address r.durable r.fresh r.happenings h.durable h.fresh h.happenings in
    all_agree (end_of r) to u _ (rows_agree below order r to u h k same) (show r.address (end_of r) event now fits end.sound)
