-- Receivers that are added, and those that a distribution begins with.
use Rattle.std.proofs.Common.{◌≡◌, ◌≤◌, ℕ, ◌+◌, Bool, true, false, List, [], ◌∷◌, ◌++◌, length, map, drop, refl, ap, subst, ◌∙◌, cond, arith, length-append}
use Rattle.std.specs.Prelude.{◌==◌, ◌||◌}
use Rattle.std.specs.List.{AllByRecursion}
use Rattle.std.proofs.lemmas.Bool.Decides.{nat_tests}
use Rattle.std.proofs.lemmas.List.{length-map, length-drop}
use Rattle.mu_model_distributor.specs.Requests.{Entry}
use Rattle.mu_model_distributor.specs.DistState.{Receiver, no_progress}
use Rattle.mu_model_distributor.specs.Receivers.{new_receiver, has_address, added}
use Rattle.mu_model_distributor.specs.Distribution.{renewed}
use Rattle.mu_model_distributor.specs.Sound.{IsReceiver, AreReceivers, AddressesDiffer, IsEntry}
use Rattle.mu_model_distributor_laws.proofs.Rows.{none_length}

-- ---- added

new_is : (e : Entry) → IsEntry e → IsReceiver (new_receiver e)
new_is e h = record { address_above = h.address_above; address_below = h.address_below; index = h.index; phase = omega arith; update_status = omega arith; transfer_status = omega arith }

joined : (receivers : List Receiver) (r : Receiver) → AreReceivers receivers → IsReceiver r → AreReceivers (receivers ++ r ∷ [])
joined [] r h k = (k, tt)
joined (x ∷ receivers) r h k = (h.0, joined receivers r h.1 k)

has_joined : (receivers : List Receiver) (r : Receiver) (address : ℕ) → has_address (receivers ++ r ∷ []) address ≡ (has_address receivers address || (r.address == address))
has_joined [] r address = elim (r.address == address) as (λ b. (b || false) ≡ b) [ true ↦ refl | false ↦ refl ]
has_joined (x ∷ receivers) r address =
    let rest = has_joined receivers r address in
    elim (x.address == address) as (λ b. (b || has_address (receivers ++ r ∷ []) address) ≡ ((b || has_address receivers address) || (r.address == address))) [ true ↦ refl | false ↦ rest ]

neither : (x y : Bool) → x ≡ false → y ≡ false → (x || y) ≡ false
neither x y e k = rw (e, k) refl

eq_sym : (a b : ℕ) → (a == b) ≡ false → (b == a) ≡ false
eq_sym a b e = grind (arith, nat_tests)

not_there : (receivers : List Receiver) (r : Receiver) → has_address (r ∷ receivers) r.address ≡ false → ⊥
not_there receivers r e = let same : (r.address == r.address) ≡ true = grind (arith, nat_tests) in let never : true ≡ false = subst (λ b. (b || has_address receivers r.address) ≡ false) same e in cc

head_differs : (x : Receiver) (receivers : List Receiver) (address : ℕ) → has_address (x ∷ receivers) address ≡ false → ((x.address == address) ≡ false) × (has_address receivers address ≡ false)
head_differs x receivers address e =
    elim (x.address == address) as (λ b. (b || has_address receivers address) ≡ false → (b ≡ false) × (has_address receivers address ≡ false)) [ true ↦ λ h. cc | false ↦ λ h. (refl, h) ] e

differ_joined : (receivers : List Receiver) (r : Receiver) → AddressesDiffer receivers → has_address receivers r.address ≡ false → AddressesDiffer (receivers ++ r ∷ [])
differ_joined [] r h e = (refl, tt)
differ_joined (x ∷ receivers) r h e =
    let k = head_differs x receivers r.address e in
    (has_joined receivers r x.address ∙ neither (has_address receivers x.address) (r.address == x.address) h.0 (eq_sym x.address r.address k.0), differ_joined receivers r h.1 k.1)

pub record Joins (old new : List Receiver) : Type 0 where
  pub receivers : AreReceivers new
  pub differ : AddressesDiffer new
  pub longer : length old ≤ length new

add_one : (receivers : List Receiver) (e : Entry) (entries : List Entry) (b : Bool) → has_address receivers e.address ≡ b → IsEntry e → AreReceivers receivers → AddressesDiffer receivers → Joins receivers (added receivers entries) → (AreReceivers (receivers ++ new_receiver e ∷ []) → AddressesDiffer (receivers ++ new_receiver e ∷ []) → Joins (receivers ++ new_receiver e ∷ []) (added (receivers ++ new_receiver e ∷ []) entries)) → Joins receivers (cond b (added receivers entries) (added (receivers ++ new_receiver e ∷ []) entries))
add_one receivers e entries true is fits h k over with_it = over
add_one receivers e entries false is fits h k over with_it =
    let rest = with_it (joined receivers (new_receiver e) h (new_is e fits)) (differ_joined receivers (new_receiver e) k is) in
    let long : length (receivers ++ new_receiver e ∷ []) ≡ length receivers + 1 = length-append receivers (new_receiver e ∷ []) in
    let longer : length (receivers ++ new_receiver e ∷ []) ≤ length (added (receivers ++ new_receiver e ∷ []) entries) = rest.longer in
    record { receivers = rest.receivers; differ = rest.differ; longer = omega arith }

pub added_joins : (receivers : List Receiver) (entries : List Entry) → AllByRecursion IsEntry entries → AreReceivers receivers → AddressesDiffer receivers → Joins receivers (added receivers entries)
added_joins receivers [] fits h k = record { receivers = h; differ = k; longer = omega arith }
added_joins receivers (e ∷ entries) fits h k =
    add_one receivers e entries (has_address receivers e.address) refl fits.0 h k (added_joins receivers entries fits.1 h k) (added_joins (receivers ++ new_receiver e ∷ []) entries fits.1)

-- the new ones have no progress
pub longer_progress : (progress : List ℕ) (old new : List Receiver) → length progress ≡ length old → length old ≤ length new → length (progress ++ no_progress (drop (length old) new)) ≡ length new
longer_progress progress old new e h =
    let first : length (progress ++ no_progress (drop (length old) new)) ≡ length progress + length (no_progress (drop (length old) new)) = length-append progress (no_progress (drop (length old) new)) in
    let second : length (no_progress (drop (length old) new)) ≡ length (drop (length old) new) = none_length (drop (length old) new) in
    let third : length (drop (length old) new) + length old ≡ length new = omega (arith, length-drop (length old) new) in
    omega arith

-- ---- renewed

renewed_is : (r : Receiver) → IsReceiver r → IsReceiver (renewed r)
renewed_is r h = record { address_above = h.address_above; address_below = h.address_below; index = h.index; phase = omega arith; update_status = omega arith; transfer_status = omega arith }

pub renewed_are : (receivers : List Receiver) → AreReceivers receivers → AreReceivers (map renewed receivers)
renewed_are [] h = tt
renewed_are (r ∷ receivers) h = (renewed_is r h.0, renewed_are receivers h.1)

renewed_has : (receivers : List Receiver) (address : ℕ) → has_address (map renewed receivers) address ≡ has_address receivers address
renewed_has [] address = refl
renewed_has (r ∷ receivers) address = ap (λ b. (r.address == address) || b) (renewed_has receivers address)

pub renewed_differ : (receivers : List Receiver) → AddressesDiffer receivers → AddressesDiffer (map renewed receivers)
renewed_differ [] h = tt
renewed_differ (r ∷ receivers) h = (renewed_has receivers r.address ∙ h.0, renewed_differ receivers h.1)

pub renewed_length : (receivers : List Receiver) → length (map renewed receivers) ≡ length receivers
renewed_length receivers = length-map receivers renewed
