-- How what is offered goes on: while a distribution does it stands, and the next distribution has a new number.
use Rattle.std.proofs.Common.{◌≡◌, ◌<◌, ◌≤◌, ℕ, Bool, true, false, List, [], ◌∷◌, ◌++◌, refl, sym, ap, ◌∙◌, cond, arith, ◌⊎◌, inl, inr}
use Rattle.std.specs.List.{AllByRecursion}
use Rattle.mu_model_image.specs.declared.Meta.{Meta}
use Rattle.mu_model_node.specs.Events.{NodeEvent}
use Rattle.mu_model_node.specs.Safe.{Happening}
use Rattle.mu_model_distributor.specs.declared.DistPhase.{DistPhase}
use Rattle.mu_model_distributor.specs.declared.DistPhase.TheVariants.{Idle, TransferActive, TransferSuccess, ApplyingUpdate, Completed, Failed, CancelingUpdate, TransferSuspended}
use Rattle.mu_model_distributor.specs.Requests.{Entry}
use Rattle.mu_model_distributor.specs.DistState.{Receiver, DistDurable, DistState, is_at_rest, offered}
use Rattle.mu_model_distributor.specs.Receivers.{has_address, new_receiver, added}
use Rattle.mu_model_distributor.specs.Distribution.{meta_of}
use Rattle.mu_model_distributor.specs.DistEvents.{dist_step}
use Rattle.mu_model_distributor.specs.Runs.{happened, state_after}
use Rattle.mu_model_distributor_laws.specs.Laws.{EventFits}
use Rattle.mu_model_distributor_laws.specs.Planned.{has_transfer}
use Rattle.mu_model_distributor_laws.specs.RowMoves.{Each, RowMoves, ReceiversMove, begins as begins_rows, adds as adds_rows, empties as empties_rows, moves}
use Rattle.mu_model_distributor_laws.specs.Rests.{RestMoves, begins, adds, empties, stands}
use Rattle.mu_model_distributor_laws.specs.RunLaws.{HappeningFits, IsInOrder}
use Rattle.mu_model_offers.specs.Laws.{IsUnheard}
use Rattle.mu_model_offers.proofs.Below.{Below, whatever, happens}
use Rattle.mu_model_offers.proofs.Places.{Place, places_of, index_in, each_index}

-- what a durable state offers
pub record Offer : Type 0 where
  pub meta : Meta
  pub places : List Place

abbrev pub offer_of : DistDurable → Offer
offer_of d = record { meta = meta_of (offered d); places = places_of d.receivers }

-- the number rises, or it stands, and so does what is offered while a distribution goes on
pub data GoesOn (d e : DistDurable) : Type 0 where
  rises : d.counter < e.counter → GoesOn d e
  keeps : e.counter ≡ d.counter → (is_at_rest e.phase ≡ false → (is_at_rest d.phase ≡ false) × (offer_of e ≡ offer_of d)) → GoesOn d e

pub goes_same : (d : DistDurable) → GoesOn d d
goes_same d = keeps refl (λ busy. (busy, refl))

wrong : {A : Type 0} (p : DistPhase) → is_at_rest p ≡ true → is_at_rest p ≡ false → A
wrong p rest busy = let never : true ≡ false = sym rest ∙ busy in cc

-- the transfer is present only while a distribution goes on
pub busy_by : (phase : DistPhase) → has_transfer phase ≡ true → is_at_rest phase ≡ false
busy_by Idle e = cc
busy_by TransferActive e = refl
busy_by TransferSuccess e = refl
busy_by ApplyingUpdate e = refl
busy_by Completed e = cc
busy_by Failed e = cc
busy_by CancelingUpdate e = refl
busy_by TransferSuspended e = refl

-- ---- while a distribution goes on

same_places : (address : ℕ) (d : DistDurable) (event : NodeEvent) (rs ss : List Receiver) → Each (RowMoves address d event) rs ss → places_of ss ≡ places_of rs
same_places address d event [] [] h = refl
same_places address d event [] (s ∷ ss) h = absurd h
same_places address d event (r ∷ rs) [] h = absurd h
same_places address d event (r ∷ rs) (s ∷ ss) h = rw (h.0.address_same, h.0.index_same, same_places address d event rs ss h.1) refl

moved_places : (address : ℕ) (d e : DistDurable) (event : NodeEvent) → is_at_rest d.phase ≡ false → ReceiversMove address d event e → (e.counter ≡ d.counter) × Each (RowMoves address d event) d.receivers e.receivers
moved_places address d e event busy (begins_rows from ask says rest counter settings rows) = wrong d.phase rest busy
moved_places address d e event busy (adds_rows from entries says idle counter rows) = wrong d.phase (ap is_at_rest idle) busy
moved_places address d e event busy (empties_rows from says idle counter rows) = wrong d.phase (ap is_at_rest idle) busy
moved_places address d e event busy (moves counter each) = (counter, each)

same_offer : (d e : DistDurable) → e.settings ≡ d.settings → e.images ≡ d.images → places_of e.receivers ≡ places_of d.receivers → offer_of e ≡ offer_of d
same_offer d e h k l = rw (h, k, l) refl

busy_goes : Below → (address : ℕ) (s : DistState) (event : NodeEvent) (now : ℕ) → EventFits event → IsInOrder address s → is_at_rest s.durable.phase ≡ false → GoesOn s.durable (dist_step address s event now).next.durable
busy_goes below address s event now fits k busy =
    let e : DistDurable = (dist_step address s event now).next.durable in
    let stand = below.stand address s event now k.sound busy in
    let rows = moved_places address s.durable e event busy (below.moves address s event now fits k.sound k.planned) in
    keeps rows.0 (λ still. (busy, same_offer s.durable e stand.1 stand.2 (same_places address s.durable event s.durable.receivers e.receivers rows.1)))

-- ---- at rest

rest_or : (d e : DistDurable) → is_at_rest d.phase ≡ true → (e.phase ≡ d.phase) ⊎ (e.phase ≡ Idle) → is_at_rest e.phase ≡ true
rest_or d e rest (inl h) = ap is_at_rest h ∙ rest
rest_or d e rest (inr h) = ap is_at_rest h

rest_goes : (d e : DistDurable) → is_at_rest d.phase ≡ true → RestMoves d e → GoesOn d e
rest_goes d e rest (begins h) = rises (omega arith)
rest_goes d e rest (adds entries p q h k) = keeps h (λ busy. wrong e.phase (ap is_at_rest q) busy)
rest_goes d e rest (empties p q h k) = keeps h (λ busy. wrong e.phase (ap is_at_rest q) busy)
rest_goes d e rest (stands p h k) = keeps h (λ busy. wrong e.phase (rest_or d e rest p) busy)

-- ---- whatever happens

event_goes : Below → (address : ℕ) (s : DistState) (event : NodeEvent) (now : ℕ) → EventFits event → IsInOrder address s → GoesOn s.durable (dist_step address s event now).next.durable
event_goes below address s event now fits k = by_rest (is_at_rest s.durable.phase) refl
  where
    by_rest : (b : Bool) → is_at_rest s.durable.phase ≡ b → GoesOn s.durable (dist_step address s event now).next.durable
    by_rest true e = rest_goes s.durable (dist_step address s event now).next.durable e (below.rests address s event now k.sound e)
    by_rest false e = busy_goes below address s event now fits k e

pub happened_goes : Below → (address : ℕ) (s : DistState) (h : Happening) → HappeningFits h → IsInOrder address s → GoesOn s.durable (happened address s h).durable
happened_goes below address s h fits k = whatever below (GoesOn s.durable) address s h fits (goes_same s.durable) (λ event now fit. event_goes below address s event now fit k)

goes_up : (d e : DistDurable) → GoesOn d e → d.counter ≤ e.counter
goes_up d e (rises h) = omega arith
goes_up d e (keeps h k) = omega arith

pub happened_up : Below → (address : ℕ) (s : DistState) (h : Happening) → HappeningFits h → IsInOrder address s → s.durable.counter ≤ (happened address s h).durable.counter
happened_up below address s h fits k = goes_up s.durable (happened address s h).durable (happened_goes below address s h fits k)

pub run_up : Below → (address : ℕ) (s : DistState) (hs : List Happening) → AllByRecursion HappeningFits hs → IsInOrder address s → s.durable.counter ≤ (state_after address s hs).durable.counter
run_up below address s [] fits k = omega arith
run_up below address s (h ∷ hs) fits k = omega (arith, happened_up below address s h fits.0 k, run_up below address (happened address s h) hs fits.1 (happens below address s h fits.0 k))

-- ---- rows that keep their indexes

abbrev pub IsKept : List Place → DistDurable → Receiver → Type 0
IsKept places d r = (index_in places r.address ≡ r.index) ⊎ IsUnheard d r

-- each row has the index of a place, or it was added since
abbrev pub AreKept : List Place → DistDurable → Type 0
AreKept places d = AllByRecursion (IsKept places d) d.receivers

as_kept : (places : List Place) (d : DistDurable) (rs : List Receiver) → AllByRecursion (λ (r : Receiver). index_in places r.address ≡ r.index) rs → AllByRecursion (IsKept places d) rs
as_kept places d [] h = tt
as_kept places d (r ∷ rs) h = (inl h.0, as_kept places d rs h.1)

-- as they stand
pub own_kept : (address : ℕ) (s : DistState) → IsInOrder address s → AreKept (places_of s.durable.receivers) s.durable
own_kept address s k = as_kept (places_of s.durable.receivers) s.durable s.durable.receivers (each_index s.durable.receivers k.sound.durable.addresses)

-- while the distribution goes on
busy_row : (places : List Place) (address : ℕ) (d e : DistDurable) (event : NodeEvent) (r s : Receiver) → is_at_rest d.phase ≡ false → RowMoves address d event r s → IsKept places d r → IsKept places e s
busy_row places address d e event r s busy h (inl k) = inl (ap (index_in places) h.address_same ∙ (k ∙ sym h.index_same))
busy_row places address d e event r s busy h (inr k) = wrong d.phase (ap is_at_rest k.0) busy

busy_rows : (places : List Place) (address : ℕ) (d e : DistDurable) (event : NodeEvent) (rs ss : List Receiver) → is_at_rest d.phase ≡ false → Each (RowMoves address d event) rs ss → AllByRecursion (IsKept places d) rs → AllByRecursion (IsKept places e) ss
busy_rows places address d e event [] [] busy h k = tt
busy_rows places address d e event [] (s ∷ ss) busy h k = absurd h
busy_rows places address d e event (r ∷ rs) [] busy h k = absurd h
busy_rows places address d e event (r ∷ rs) (s ∷ ss) busy h k = (busy_row places address d e event r s busy h.0 k.0, busy_rows places address d e event rs ss busy h.1 k.1)

-- at rest
still_idle : (d e : DistDurable) → d.phase ≡ Idle → (e.phase ≡ d.phase) ⊎ (e.phase ≡ Idle) → e.phase ≡ Idle
still_idle d e idle (inl h) = h ∙ idle
still_idle d e idle (inr h) = h

rest_row : (places : List Place) (d e : DistDurable) (r : Receiver) → (e.phase ≡ d.phase) ⊎ (e.phase ≡ Idle) → IsKept places d r → IsKept places e r
rest_row places d e r h (inl k) = inl k
rest_row places d e r h (inr k) = inr (still_idle d e k.0 h, k.1)

rest_rows : (places : List Place) (d e : DistDurable) (rs : List Receiver) → (e.phase ≡ d.phase) ⊎ (e.phase ≡ Idle) → AllByRecursion (IsKept places d) rs → AllByRecursion (IsKept places e) rs
rest_rows places d e [] h k = tt
rest_rows places d e (r ∷ rs) h k = (rest_row places d e r h k.0, rest_rows places d e rs h k.1)

joined : (P : Receiver → Type 0) (rs : List Receiver) (r : Receiver) → AllByRecursion P rs → P r → AllByRecursion P (rs ++ r ∷ [])
joined P [] r h k = (k, tt)
joined P (x ∷ rs) r h k = (h.0, joined P rs r h.1 k)

either : (P : Receiver → Type 0) (b : Bool) (x y : List Receiver) → AllByRecursion P x → AllByRecursion P y → AllByRecursion P (cond b x y)
either P true x y h k = h
either P false x y h k = k

added_kept : (places : List Place) (e : DistDurable) (rs : List Receiver) (entries : List Entry) → e.phase ≡ Idle → AllByRecursion (IsKept places e) rs → AllByRecursion (IsKept places e) (added rs entries)
added_kept places e rs [] idle h = h
added_kept places e rs (x ∷ entries) idle h =
    either (IsKept places e) (has_address rs x.address) _ _ (added_kept places e rs entries idle h)
    (added_kept places e (rs ++ new_receiver x ∷ []) entries idle (joined (IsKept places e) rs (new_receiver x) h (inr (idle, refl))))

rest_keeps : (places : List Place) (d e : DistDurable) → RestMoves d e → e.counter ≡ d.counter → AreKept places d → AreKept places e
rest_keeps places d e (begins h) same k = absurd (omega arith)
rest_keeps places d e (adds entries p q h l) same k = rw l (added_kept places e d.receivers entries q (rest_rows places d e d.receivers (inr q) k))
rest_keeps places d e (empties p q h l) same k = rw l tt
rest_keeps places d e (stands p h l) same k = rw l (rest_rows places d e d.receivers p k)

event_keeps : Below → (places : List Place) (address : ℕ) (s : DistState) (event : NodeEvent) (now : ℕ) → EventFits event → IsInOrder address s → AreKept places s.durable → (dist_step address s event now).next.durable.counter ≡ s.durable.counter → AreKept places (dist_step address s event now).next.durable
event_keeps below places address s event now fits k kept same = by_rest (is_at_rest s.durable.phase) refl
  where
    by_rest : (b : Bool) → is_at_rest s.durable.phase ≡ b → AreKept places (dist_step address s event now).next.durable
    by_rest true e = rest_keeps places s.durable (dist_step address s event now).next.durable (below.rests address s event now k.sound e) same kept
    by_rest false e =
        let rows = moved_places address s.durable (dist_step address s event now).next.durable event e (below.moves address s event now fits k.sound k.planned) in
        busy_rows places address s.durable (dist_step address s event now).next.durable event s.durable.receivers _ e rows.1 kept

happened_keeps : Below → (places : List Place) (address : ℕ) (s : DistState) (h : Happening) → HappeningFits h → IsInOrder address s → AreKept places s.durable → (happened address s h).durable.counter ≡ s.durable.counter → AreKept places (happened address s h).durable
happened_keeps below places address s h fits k kept =
    whatever below (λ d. d.counter ≡ s.durable.counter → AreKept places d) address s h fits (λ same. kept) (λ event now fit same. event_keeps below places address s event now fit k kept same)

-- as long as the number stands
pub run_keeps : Below → (places : List Place) (address : ℕ) (s : DistState) (hs : List Happening) → AllByRecursion HappeningFits hs → IsInOrder address s → AreKept places s.durable → (state_after address s hs).durable.counter ≡ s.durable.counter → AreKept places (state_after address s hs).durable
run_keeps below places address s [] fits k kept same = kept
run_keeps below places address s (h ∷ hs) fits k kept same =
    let next = happens below address s h fits.0 k in
    let up = happened_up below address s h fits.0 k in
    let end = run_up below address (happened address s h) hs fits.1 next in
    let here : (happened address s h).durable.counter ≡ s.durable.counter = omega arith in
    let there : (state_after address (happened address s h) hs).durable.counter ≡ (happened address s h).durable.counter = omega arith in
    run_keeps below places address (happened address s h) hs fits.1 next (happened_keeps below places address s h fits.0 k kept here) there
