-- For each number of a run there is one offer.
use Rattle.std.proofs.Common.{◌≡◌, ◌≤◌, ℕ, ◌+◌, ◌*◌, ◌^◌, Bool, true, false, List, [], ◌∷◌, ◌++◌, refl, sym, ap, ◌∙◌, cond, arith, Option, Some, None}
use Rattle.std.specs.Prelude.{◌==◌}
use Rattle.std.specs.List.{AllByRecursion}
use Rattle.std.proofs.lemmas.Bool.{eqb-true}
use Rattle.std.proofs.lemmas.Bool.Decides.{nat_tests}
use Rattle.mu_model_image.specs.Meta.{meta_octets}
use Rattle.mu_model_node.specs.UpdateMessages.{UpdateStart, UpdateRequest, InformationGet, MetadataCheck, UpdateGet, StartUpdate, UpdateCancel, UpdateApply}
use Rattle.mu_model_node.specs.NodeMessages.{OfUpdate, OfBlob}
use Rattle.mu_model_node.specs.Events.{NodeEvent, PacketComes, TimeComes}
use Rattle.mu_model_node.specs.Safe.{Happening, Done, CutPower, Torn}
use Rattle.mu_model_distributor.specs.DistMessages.{Taken, OfDistribution, OfBlob as TakenBlob, OfReceiver, taken_at, Sent, ByDistribution, ByBlob, ByClient}
use Rattle.mu_model_distributor.specs.DistState.{DistDurable, DistState, is_at_rest, transfer_id, offered}
use Rattle.mu_model_distributor.specs.Distribution.{meta_of}
use Rattle.mu_model_distributor.specs.DistEvents.{dist_step}
use Rattle.mu_model_distributor.specs.Runs.{happened, state_after}
use Rattle.mu_model_distributor.specs.Sound.{AddressesDiffer}
use Rattle.mu_model_distributor_laws.specs.Planned.{IsSentAs, IsOffered}
use Rattle.mu_model_distributor_laws.specs.Rests.{IsNoStart}
use Rattle.mu_model_distributor_laws.specs.Planned.{has_transfer}
use Rattle.mu_model_distributor_laws.specs.RunLaws.{HappeningFits, IsInOrder, sent_by, sent_in}
use Rattle.mu_model_distributor_laws.specs.RowsTold.{Heard, heard_as, heard_event, heard_by, heard_in}
use Rattle.mu_model_offers.proofs.Below.{Below, happens, sends_offered}
use Rattle.mu_model_offers.proofs.Places.{index_in, index_is, places_of}
use Rattle.mu_model_offers.proofs.Goes.{busy_by, Offer, offer_of, GoesOn, rises, keeps, happened_goes, AreKept, own_kept, run_keeps}

-- ---- a number's offer

-- the offer of each number, where d comes before what is known
abbrev with_offer : DistDurable → (ℕ → Offer) → ℕ → Offer
with_offer d offers own = cond (own == d.counter) (offer_of d) (offers own)

-- a number that may be offered from d on
pub record IsFrom (d : DistDurable) (own : ℕ) : Type 0 where
  pub least : d.counter ≤ own
  pub busy : own ≡ d.counter → is_at_rest d.phase ≡ false

by_test : (d : DistDurable) (offers : ℕ → Offer) (own : ℕ) (b : Bool) → (own == d.counter) ≡ b → (own ≡ d.counter → offer_of d ≡ offers own) → cond b (offer_of d) (offers own) ≡ offers own
by_test d offers own true e h = h (eqb-true own d.counter e)
by_test d offers own false e h = refl

at_own : (d : DistDurable) (offers : ℕ → Offer) → with_offer d offers d.counter ≡ offer_of d
at_own d offers = let e : (d.counter == d.counter) ≡ true = grind (arith, nat_tests) in rw e refl

-- what is known from e on is so from d on
earlier_from : (d e : DistDurable) (own : ℕ) → GoesOn d e → IsFrom e own → IsFrom d own
earlier_from d e own (rises h) k = record { least = omega (arith, k.least); busy = λ same. absurd (omega (arith, k.least)) }
earlier_from d e own (keeps h l) k = record { least = omega (arith, k.least); busy = λ same. (l (k.busy (same ∙ sym h))).0 }

earlier_same : (d e : DistDurable) (offers : ℕ → Offer) (own : ℕ) → GoesOn d e → offers e.counter ≡ offer_of e → IsFrom e own → with_offer d offers own ≡ offers own
earlier_same d e offers own (rises h) right k = by_test d offers own (own == d.counter) refl (λ same. absurd (omega (arith, k.least)))
earlier_same d e offers own (keeps h l) right k =
    by_test d offers own (own == d.counter) refl
    (λ same. let at : own ≡ e.counter = same ∙ sym h in sym (l (k.busy at)).1 ∙ (sym right ∙ ap offers (sym at)))

-- ---- what is sent

pub record IsBooked (address : ℕ) (offers : ℕ → Offer) (d : DistDurable) (to : ℕ) (u : UpdateStart) : Type 0 where
  pub own : ℕ
  pub id : u.id ≡ address * 2 ^ 48 + own
  pub from : IsFrom d own
  pub metadata : u.metadata ≡ meta_octets (offers own).meta
  pub index : index_in (offers own).places to ≡ u.index

abbrev pub IsBookedAs : ℕ → (ℕ → Offer) → DistDurable → ℕ × Sent → Type 0
IsBookedAs address offers d (to, ByClient (OfUpdate (StartUpdate u))) = IsBooked address offers d to u
IsBookedAs address offers d _ = Unit {0}

booked_earlier : (address : ℕ) (offers : ℕ → Offer) (d e : DistDurable) (to : ℕ) (u : UpdateStart) → GoesOn d e → offers e.counter ≡ offer_of e → IsBooked address offers e to u → IsBooked address (with_offer d offers) d to u
booked_earlier address offers d e to u go right h =
    let same : with_offer d offers h.own ≡ offers h.own = earlier_same d e offers h.own go right h.from in
    record {
      own = h.own;
      id = h.id;
      from = earlier_from d e h.own go h.from;
      metadata = h.metadata ∙ ap (λ (o : Offer). meta_octets o.meta) (sym same);
      index = ap (λ (o : Offer). index_in o.places to) same ∙ h.index;
    }

update_earlier : (address : ℕ) (offers : ℕ → Offer) (d e : DistDurable) (to : ℕ) (request : UpdateRequest) → GoesOn d e → offers e.counter ≡ offer_of e → IsBookedAs address offers e (to, ByClient (OfUpdate request)) → IsBookedAs address (with_offer d offers) d (to, ByClient (OfUpdate request))
update_earlier address offers d e to (StartUpdate u) go right h = booked_earlier address offers d e to u go right h
update_earlier address offers d e to (InformationGet first limit) go right h = tt
update_earlier address offers d e to (MetadataCheck index metadata) go right h = tt
update_earlier address offers d e to UpdateGet go right h = tt
update_earlier address offers d e to UpdateCancel go right h = tt
update_earlier address offers d e to UpdateApply go right h = tt

sent_earlier : (address : ℕ) (offers : ℕ → Offer) (d e : DistDurable) (to : ℕ) (sent : Sent) → GoesOn d e → offers e.counter ≡ offer_of e → IsBookedAs address offers e (to, sent) → IsBookedAs address (with_offer d offers) d (to, sent)
sent_earlier address offers d e to (ByDistribution reply) go right h = tt
sent_earlier address offers d e to (ByBlob reply) go right h = tt
sent_earlier address offers d e to (ByClient (OfUpdate request)) go right h = update_earlier address offers d e to request go right h
sent_earlier address offers d e to (ByClient (OfBlob request)) go right h = tt

sends_earlier : (address : ℕ) (offers : ℕ → Offer) (d e : DistDurable) (sends : List (ℕ × Sent)) → GoesOn d e → offers e.counter ≡ offer_of e → AllByRecursion (IsBookedAs address offers e) sends → AllByRecursion (IsBookedAs address (with_offer d offers) d) sends
sends_earlier address offers d e [] go right h = tt
sends_earlier address offers d e (x ∷ sends) go right h = (sent_earlier address offers d e x.0 x.1 go right h.0, sends_earlier address offers d e sends go right h.1)

-- by an event now
now_booked : (address : ℕ) (offers : ℕ → Offer) (d : DistDurable) (to : ℕ) (u : UpdateStart) → is_at_rest d.phase ≡ false → AddressesDiffer d.receivers → IsOffered address d to u → IsBooked address (with_offer d offers) d to u
now_booked address offers d to u busy differ h =
    let at : with_offer d offers d.counter ≡ offer_of d = at_own d offers in
    record {
      own = d.counter;
      id = h.id;
      from = record { least = omega arith; busy = λ same. busy };
      metadata = h.metadata ∙ ap (λ (o : Offer). meta_octets o.meta) (sym at);
      index = ap (λ (o : Offer). index_in o.places to) at ∙ index_is d.receivers to u.index differ h.receiver;
    }

-- at rest there is none, and else it is what is offered
update_now : (address : ℕ) (offers : ℕ → Offer) (d : DistDurable) (to : ℕ) (request : UpdateRequest) → (is_at_rest d.phase ≡ true → IsNoStart (to, ByClient (OfUpdate request))) → AddressesDiffer d.receivers → IsSentAs address d (to, ByClient (OfUpdate request)) → IsBookedAs address (with_offer d offers) d (to, ByClient (OfUpdate request))
update_now address offers d to (StartUpdate u) silent differ h = by_rest (is_at_rest d.phase) refl
  where
    by_rest : (b : Bool) → is_at_rest d.phase ≡ b → IsBooked address (with_offer d offers) d to u
    by_rest true e = absurd (silent e)
    by_rest false e = now_booked address offers d to u e differ h
update_now address offers d to (InformationGet first limit) silent differ h = tt
update_now address offers d to (MetadataCheck index metadata) silent differ h = tt
update_now address offers d to UpdateGet silent differ h = tt
update_now address offers d to UpdateCancel silent differ h = tt
update_now address offers d to UpdateApply silent differ h = tt

sent_now : (address : ℕ) (offers : ℕ → Offer) (d : DistDurable) (to : ℕ) (sent : Sent) → (is_at_rest d.phase ≡ true → IsNoStart (to, sent)) → AddressesDiffer d.receivers → IsSentAs address d (to, sent) → IsBookedAs address (with_offer d offers) d (to, sent)
sent_now address offers d to (ByDistribution reply) silent differ h = tt
sent_now address offers d to (ByBlob reply) silent differ h = tt
sent_now address offers d to (ByClient (OfUpdate request)) silent differ h = update_now address offers d to request silent differ h
sent_now address offers d to (ByClient (OfBlob request)) silent differ h = tt

sends_now : (address : ℕ) (offers : ℕ → Offer) (d : DistDurable) (sends : List (ℕ × Sent)) → (is_at_rest d.phase ≡ true → AllByRecursion IsNoStart sends) → AddressesDiffer d.receivers → AllByRecursion (IsSentAs address d) sends → AllByRecursion (IsBookedAs address (with_offer d offers) d) sends
sends_now address offers d [] silent differ h = tt
sends_now address offers d (x ∷ sends) silent differ h = (sent_now address offers d x.0 x.1 (λ rest. (silent rest).0) differ h.0, sends_now address offers d sends (λ rest. (silent rest).1) differ h.1)

happening_sends : Below → (address : ℕ) (offers : ℕ → Offer) (s : DistState) (h : Happening) → HappeningFits h → IsInOrder address s → AllByRecursion (IsBookedAs address (with_offer s.durable offers) s.durable) (sent_by address s h)
happening_sends below address offers s (Done event now) fits k =
    sends_now address offers s.durable (dist_step address s event now).sends (λ rest. below.silent address s event now k.sound rest) k.sound.durable.addresses (sends_offered below address s event now fits k)
happening_sends below address offers s CutPower fits k = tt
happening_sends below address offers s (Torn event now operations) fits k = tt

-- ---- what is heard

pub record IsNoted (address : ℕ) (offers : ℕ → Offer) (d : DistDurable) (h : Heard) : Type 0 where
  pub own : ℕ
  pub id : h.id ≡ address * 2 ^ 48 + own
  pub from : IsFrom d own
  pub offer : h.offer ≡ (offers own).meta

noted_earlier : (address : ℕ) (offers : ℕ → Offer) (d e : DistDurable) (heard : List Heard) → GoesOn d e → offers e.counter ≡ offer_of e → AllByRecursion (IsNoted address offers e) heard → AllByRecursion (IsNoted address (with_offer d offers) d) heard
noted_earlier address offers d e [] go right h = tt
noted_earlier address offers d e (x ∷ heard) go right h =
    let own : IsNoted address offers e x = h.0 in
    let same : with_offer d offers own.own ≡ offers own.own = earlier_same d e offers own.own go right own.from in
    (record { own = own.own; id = own.id; from = earlier_from d e own.own go own.from; offer = own.offer ∙ ap (λ (o : Offer). o.meta) (sym same) }, noted_earlier address offers d e heard go right h.1)

taken_noted : (address : ℕ) (offers : ℕ → Offer) (d : DistDurable) (from : ℕ) (taken : Option Taken) → AllByRecursion (IsNoted address (with_offer d offers) d) (heard_as address d from taken)
taken_noted address offers d from None = tt
taken_noted address offers d from (Some (OfDistribution request)) = tt
taken_noted address offers d from (Some (TakenBlob request)) = tt
taken_noted address offers d from (Some (OfReceiver answer)) = by_presence (has_transfer d.phase) refl
  where
    by_presence : (b : Bool) → has_transfer d.phase ≡ b → AllByRecursion (IsNoted address (with_offer d offers) d) (cond b (record { from = from; answer = answer; id = transfer_id address d; offer = meta_of (offered d) } ∷ []) [])
    by_presence true e = (record { own = d.counter; id = refl; from = record { least = omega arith; busy = λ same. busy_by d.phase e }; offer = ap (λ (o : Offer). o.meta) (sym (at_own d offers)) }, tt)
    by_presence false e = tt

event_noted : (address : ℕ) (offers : ℕ → Offer) (d : DistDurable) (event : NodeEvent) → AllByRecursion (IsNoted address (with_offer d offers) d) (heard_event address d event)
event_noted address offers d (PacketComes packet) =
    elim (packet.to == address) as (λ b. AllByRecursion (IsNoted address (with_offer d offers) d) (cond b (heard_as address d packet.from (taken_at packet.payload)) [])) [
      | true ↦ taken_noted address offers d packet.from (taken_at packet.payload)
      | false ↦ tt
    ]
event_noted address offers d TimeComes = tt

happening_noted : (address : ℕ) (offers : ℕ → Offer) (d : DistDurable) (h : Happening) → AllByRecursion (IsNoted address (with_offer d offers) d) (heard_by address d h)
happening_noted address offers d (Done event now) = event_noted address offers d event
happening_noted address offers d (Torn event now operations) = event_noted address offers d event
happening_noted address offers d CutPower = tt

-- ---- runs

pub record Book (address : ℕ) (s : DistState) (hs : List Happening) : Type 0 where
  pub offers : ℕ → Offer
  pub right : offers s.durable.counter ≡ offer_of s.durable
  pub sent : AllByRecursion (IsBookedAs address offers s.durable) (sent_in address s hs)
  pub heard : AllByRecursion (IsNoted address offers s.durable) (heard_in address s hs)
  pub rows : AreKept (offers (state_after address s hs).durable.counter).places (state_after address s hs).durable

join : {A : Type 0} (P : A → Type 0) (xs ys : List A) → AllByRecursion P xs → AllByRecursion P ys → AllByRecursion P (xs ++ ys)
join P [] ys h k = k
join P (x ∷ xs) ys h k = (h.0, join P xs ys h.1 k)

-- rows at the end, by whether the number still stands
end_rows : Below → (address : ℕ) (s : DistState) (hs : List Happening) (offers : ℕ → Offer) → AllByRecursion HappeningFits hs → IsInOrder address s → AreKept (offers (state_after address s hs).durable.counter).places (state_after address s hs).durable → AreKept (with_offer s.durable offers (state_after address s hs).durable.counter).places (state_after address s hs).durable
end_rows below address s hs offers fits k h = by_number ((state_after address s hs).durable.counter == s.durable.counter) refl
  where
    by_number : (b : Bool) → ((state_after address s hs).durable.counter == s.durable.counter) ≡ b → AreKept (cond b (offer_of s.durable) (offers (state_after address s hs).durable.counter)).places (state_after address s hs).durable
    by_number true e = run_keeps below (places_of s.durable.receivers) address s hs fits k (own_kept address s k) (eqb-true (state_after address s hs).durable.counter s.durable.counter e)
    by_number false e = h

pub book_of : Below → (address : ℕ) (s : DistState) (hs : List Happening) → AllByRecursion HappeningFits hs → IsInOrder address s → Book address s hs
book_of below address s [] fits k = record { offers = λ own. offer_of s.durable; right = refl; sent = tt; heard = tt; rows = own_kept address s k }
book_of below address s (h ∷ hs) fits k =
    let t : DistState = happened address s h in
    let b : Book address t hs = book_of below address t hs fits.1 (happens below address s h fits.0 k) in
    let go : GoesOn s.durable t.durable = happened_goes below address s h fits.0 k in
    record {
      offers = with_offer s.durable b.offers;
      right = at_own s.durable b.offers;
      sent = join (IsBookedAs address (with_offer s.durable b.offers) s.durable) (sent_by address s h) (sent_in address t hs) (happening_sends below address b.offers s h fits.0 k) (sends_earlier address b.offers s.durable t.durable (sent_in address t hs) go b.right b.sent);
      heard = join (IsNoted address (with_offer s.durable b.offers) s.durable) (heard_by address s.durable h) (heard_in address t hs) (happening_noted address b.offers s.durable h) (noted_earlier address b.offers s.durable t.durable (heard_in address t hs) go b.right b.heard);
      rows = end_rows below address s (h ∷ hs) b.offers fits k b.rows;
    }
