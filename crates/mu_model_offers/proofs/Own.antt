-- Each Update Start of a distributor is of its own.
use Rattle.std.proofs.Common.{◌≡◌, ◌<◌, ◌≤◌, ℕ, zero, suc, Bool, true, false, List, [], ◌∷◌, ◌++◌, length, refl, sym, ap, subst, ◌∙◌, cond, arith, Option, Some, None, inl, inr}
use Rattle.std.specs.Prelude.{◌==◌, slice_get}
use Rattle.std.specs.List.{AllByRecursion}
use Rattle.std.proofs.lemmas.List.{length-append}
use Rattle.byteorder.specs.Endian.{little_bytes}
use Rattle.mu_model_image.specs.declared.Meta.{Meta}
use Rattle.mu_model_image.specs.Meta.{IsMeta, meta_octets, meta_from}
use Rattle.mu_model_image.specs.Laws.{MetaIsReadBack}
use Rattle.mu_model_node.specs.UpdateMessages.{UpdateStart, UpdateRequest, InformationGet, MetadataCheck, UpdateGet, StartUpdate, UpdateCancel, UpdateApply}
use Rattle.mu_model_node.specs.NodeMessages.{OfUpdate, OfBlob}
use Rattle.mu_model_node.specs.Events.{NodeEvent, PacketComes, TimeComes}
use Rattle.mu_model_node.specs.Safe.{Happening, Done, CutPower, Torn}
use Rattle.mu_model_distributor.specs.DistMessages.{Taken, OfDistribution, OfBlob as TakenBlob, OfReceiver, taken_at, Sent, ByDistribution, ByBlob, ByClient}
use Rattle.mu_model_distributor.specs.DistState.{StoredImage, Receiver, DistDurable, DistState, is_at_rest, transfer_id, offered}
use Rattle.mu_model_distributor.specs.Distribution.{meta_of}
use Rattle.mu_model_distributor.specs.DistEvents.{dist_step}
use Rattle.mu_model_distributor.specs.Runs.{happened}
use Rattle.mu_model_distributor.specs.Sound.{AreSettings, IsReceiver, AreReceivers, IsStored, AreStored, IsDistDurable}
use Rattle.mu_model_distributor_laws.specs.Planned.{HasReceiver, IsSentAs, IsOffered}
use Rattle.mu_model_distributor_laws.specs.Rests.{IsNoStart}
use Rattle.mu_model_distributor_laws.specs.Planned.{has_transfer}
use Rattle.mu_model_distributor_laws.specs.RunLaws.{HappeningFits, IsInOrder, sent_by, sent_in}
use Rattle.mu_model_distributor_laws.specs.RowsTold.{heard_as, heard_event, heard_by, heard_in}
use Rattle.mu_model_offers.specs.Laws.{IsOwnStart, IsOwnHeard}
use Rattle.mu_model_offers.proofs.Goes.{busy_by}
use Rattle.mu_model_offers.proofs.Below.{Below, happens, sends_offered}

-- ---- one

-- a receiver's numbers
receiver_fits : (rs : List Receiver) (to index : ℕ) → AreReceivers rs → HasReceiver rs to index → (1 ≤ to) × (to ≤ 0x7FFF) × (index < 256)
receiver_fits [] to index h k = absurd k
receiver_fits (r ∷ rs) to index h (inl e) = let own : IsReceiver r = h.0 in (subst (λ n. 1 ≤ n) e.0 own.address_above, subst (λ n. n ≤ 0x7FFF) e.0 own.address_below, subst (λ n. n < 256) e.1 own.index)
receiver_fits (r ∷ rs) to index h (inr k) = receiver_fits rs to index h.1 k

-- an image that is there has its metadata
stored_meta : (capacity : ℕ) (images : List StoredImage) (n : ℕ) → n < length images → AreStored capacity images → IsMeta (meta_of (slice_get images n))
stored_meta capacity [] n h k = absurd (omega arith)
stored_meta capacity (x ∷ images) zero h k = let own : IsStored capacity x = k.0 in own.meta
stored_meta capacity (x ∷ images) (suc n) h k = stored_meta capacity images n (omega arith) k.1

begun_some : (d : DistDurable) → IsDistDurable d → is_at_rest d.phase ≡ false → 1 ≤ d.counter
begun_some d h busy = by_counter d.counter refl
  where
    by_counter : (n : ℕ) → d.counter ≡ n → 1 ≤ n
    by_counter zero e = let rest : is_at_rest d.phase ≡ true = ap is_at_rest (h.unbegun e).0 in let never : true ≡ false = sym rest ∙ busy in cc
    by_counter (suc n) e = omega arith

octets_length : (meta : Meta) → IsMeta meta → length (meta_octets meta) ≡ 40
octets_length meta h = omega (arith, length-append (little_bytes 4 meta.size) (little_bytes 4 meta.version ++ meta.digest), length-append (little_bytes 4 meta.version) meta.digest, h.digest_length)

start_own : MetaIsReadBack → (address : ℕ) (d : DistDurable) (to : ℕ) (u : UpdateStart) → IsDistDurable d → is_at_rest d.phase ≡ false → IsOffered address d to u → IsOwnStart address to u
start_own again address d to u h busy k =
    let fits = receiver_fits d.receivers to u.index h.receivers k.receiver in
    let some : 1 ≤ d.counter = begun_some d h busy in
    let settings : AreSettings d.settings = h.begun (omega arith) in
    let is : IsMeta (meta_of (offered d)) = stored_meta d.capacity d.images d.settings.image (h.image busy) h.images in
    record {
      own = d.counter;
      id = k.id;
      own_above = some;
      own_below = h.counter;
      to_above = fits.0;
      to_below = fits.1;
      index = fits.2;
      ttl = subst (λ n. n < 256) (sym k.ttl) settings.ttl;
      base = subst (λ n. n < 65536) (sym k.base) settings.base;
      meta = meta_of (offered d);
      is_meta = is;
      metadata = k.metadata;
      metadata_length = ap (length {A = ℕ}) k.metadata ∙ octets_length (meta_of (offered d)) is;
      read = ap meta_from k.metadata ∙ again (meta_of (offered d)) is;
    }

-- ---- all

abbrev pub IsOwnAs : ℕ → ℕ × Sent → Type 0
IsOwnAs address (to, ByClient (OfUpdate (StartUpdate u))) = IsOwnStart address to u
IsOwnAs address _ = Unit {0}

update_own : MetaIsReadBack → (address : ℕ) (d : DistDurable) (to : ℕ) (request : UpdateRequest) → IsDistDurable d → (is_at_rest d.phase ≡ true → IsNoStart (to, ByClient (OfUpdate request))) → IsSentAs address d (to, ByClient (OfUpdate request)) → IsOwnAs address (to, ByClient (OfUpdate request))
update_own again address d to (StartUpdate u) h silent k = by_rest (is_at_rest d.phase) refl
  where
    by_rest : (b : Bool) → is_at_rest d.phase ≡ b → IsOwnStart address to u
    by_rest true e = absurd (silent e)
    by_rest false e = start_own again address d to u h e k
update_own again address d to (InformationGet first limit) h silent k = tt
update_own again address d to (MetadataCheck index metadata) h silent k = tt
update_own again address d to UpdateGet h silent k = tt
update_own again address d to UpdateCancel h silent k = tt
update_own again address d to UpdateApply h silent k = tt

one_own : MetaIsReadBack → (address : ℕ) (d : DistDurable) (to : ℕ) (sent : Sent) → IsDistDurable d → (is_at_rest d.phase ≡ true → IsNoStart (to, sent)) → IsSentAs address d (to, sent) → IsOwnAs address (to, sent)
one_own again address d to (ByDistribution reply) h silent k = tt
one_own again address d to (ByBlob reply) h silent k = tt
one_own again address d to (ByClient (OfUpdate request)) h silent k = update_own again address d to request h silent k
one_own again address d to (ByClient (OfBlob request)) h silent k = tt

all_own : MetaIsReadBack → (address : ℕ) (d : DistDurable) (sends : List (ℕ × Sent)) → IsDistDurable d → (is_at_rest d.phase ≡ true → AllByRecursion IsNoStart sends) → AllByRecursion (IsSentAs address d) sends → AllByRecursion (IsOwnAs address) sends
all_own again address d [] h silent k = tt
all_own again address d (x ∷ sends) h silent k = (one_own again address d x.0 x.1 h (λ rest. (silent rest).0) k.0, all_own again address d sends h (λ rest. (silent rest).1) k.1)

happening_own : Below → MetaIsReadBack → (address : ℕ) (s : DistState) (h : Happening) → HappeningFits h → IsInOrder address s → AllByRecursion (IsOwnAs address) (sent_by address s h)
happening_own below again address s (Done event now) fits k =
    all_own again address s.durable (dist_step address s event now).sends k.sound.durable (λ rest. below.silent address s event now k.sound rest) (sends_offered below address s event now fits k)
happening_own below again address s CutPower fits k = tt
happening_own below again address s (Torn event now operations) fits k = tt

join : {A : Type 0} (P : A → Type 0) (xs ys : List A) → AllByRecursion P xs → AllByRecursion P ys → AllByRecursion P (xs ++ ys)
join P [] ys h k = k
join P (x ∷ xs) ys h k = (h.0, join P xs ys h.1 k)

pub run_own : Below → MetaIsReadBack → (address : ℕ) (s : DistState) (hs : List Happening) → AllByRecursion HappeningFits hs → IsInOrder address s → AllByRecursion (IsOwnAs address) (sent_in address s hs)
run_own below again address s [] fits k = tt
run_own below again address s (h ∷ hs) fits k =
    join (IsOwnAs address) (sent_by address s h) (sent_in address (happened address s h) hs) (happening_own below again address s h fits.0 k)
    (run_own below again address (happened address s h) hs fits.1 (happens below address s h fits.0 k))

-- ---- what is heard

taken_own : (address : ℕ) (d : DistDurable) (from : ℕ) (taken : Option Taken) → IsDistDurable d → AllByRecursion (IsOwnHeard address) (heard_as address d from taken)
taken_own address d from None h = tt
taken_own address d from (Some (OfDistribution request)) h = tt
taken_own address d from (Some (TakenBlob request)) h = tt
taken_own address d from (Some (OfReceiver answer)) h = by_presence (has_transfer d.phase) refl
  where
    by_presence : (b : Bool) → has_transfer d.phase ≡ b → AllByRecursion (IsOwnHeard address) (cond b (record { from = from; answer = answer; id = transfer_id address d; offer = meta_of (offered d) } ∷ []) [])
    by_presence true e = let busy = busy_by d.phase e in (record { own = d.counter; id = refl; own_above = begun_some d h busy; own_below = h.counter; is_meta = stored_meta d.capacity d.images d.settings.image (h.image busy) h.images }, tt)
    by_presence false e = tt

event_heard : (address : ℕ) (d : DistDurable) (event : NodeEvent) → IsDistDurable d → AllByRecursion (IsOwnHeard address) (heard_event address d event)
event_heard address d (PacketComes packet) h =
    elim (packet.to == address) as (λ b. AllByRecursion (IsOwnHeard address) (cond b (heard_as address d packet.from (taken_at packet.payload)) [])) [
      | true ↦ taken_own address d packet.from (taken_at packet.payload) h
      | false ↦ tt
    ]
event_heard address d TimeComes h = tt

happening_heard : (address : ℕ) (d : DistDurable) (x : Happening) → IsDistDurable d → AllByRecursion (IsOwnHeard address) (heard_by address d x)
happening_heard address d (Done event now) h = event_heard address d event h
happening_heard address d (Torn event now operations) h = event_heard address d event h
happening_heard address d CutPower h = tt

pub run_heard : Below → (address : ℕ) (s : DistState) (hs : List Happening) → AllByRecursion HappeningFits hs → IsInOrder address s → AllByRecursion (IsOwnHeard address) (heard_in address s hs)
run_heard below address s [] fits k = tt
run_heard below address s (h ∷ hs) fits k =
    join (IsOwnHeard address) (heard_by address s.durable h) (heard_in address (happened address s h) hs) (happening_heard address s.durable h k.sound.durable)
    (run_heard below address (happened address s h) hs fits.1 (happens below address s h fits.0 k))
