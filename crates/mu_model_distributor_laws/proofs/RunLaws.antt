-- Whole runs.
use Rattle.std.proofs.Common.{◌≡◌, ◌≤◌, ℕ, zero, suc, List, [], ◌∷◌, ◌++◌, sym, subst, arith, get_or, ◌⊎◌, ⊎_elim}
use Rattle.std.specs.List.{AllByRecursion}
use Rattle.mu_model_node.specs.declared.FlashWork.{FlashWork}
use Rattle.mu_model_node.specs.declared.FlashWork.TheVariants.{Untouched, Recorded, Begun, PutBlock}
use Rattle.mu_model_node.specs.FlashWork.{passed_by}
use Rattle.mu_model_node.specs.UpdateMessages.{UpdateRequest, InformationGet, MetadataCheck, UpdateGet, StartUpdate, UpdateCancel, UpdateApply}
use Rattle.mu_model_node.specs.NodeMessages.{OfUpdate, OfBlob}
use Rattle.mu_model_node.specs.Events.{NodeEvent}
use Rattle.mu_model_node.specs.Safe.{Happening, Done, CutPower, Torn}
use Rattle.mu_model_node.specs.Laws.{RequestsKeepStatesSound}
use Rattle.mu_model_distributor.specs.DistMessages.{Sent, ByDistribution, ByBlob, ByClient}
use Rattle.mu_model_distributor.specs.DistState.{DistDurable, DistState}
use Rattle.mu_model_distributor.specs.DistEvents.{dist_step, dist_work, restarted, live}
use Rattle.mu_model_distributor.specs.Runs.{left_after, happened, state_after}
use Rattle.mu_model_distributor.specs.Sound.{IsDistDurable}
use Rattle.mu_model_distributor_laws.specs.Planned.{IsSentAs}
use Rattle.mu_model_distributor_laws.specs.RunLaws.{HappeningFits, IsInOrder, RunsAreInOrder, sent_by, sent_in, StartIsBehind, NoNumberIsLost}
use Rattle.mu_model_distributor_laws.proofs.Steps.{events_keep, boots_are_sound}
use Rattle.mu_model_distributor_laws.proofs.Planned.{events_plan, boots_plan}
use Rattle.mu_model_distributor_laws.proofs.Offered.{starts_offered}
use Rattle.mu_model_distributor_laws.proofs.Counters.{counters_rise}
use Rattle.mu_model_distributor_laws.proofs.Work.{work_leaves}

-- ---- what a cut leaves

-- one of a list, or the default
one_of : (P : DistDurable → Type 0) (ds : List DistDurable) (n : ℕ) (d : DistDurable) → AllByRecursion P ds → P d → P (get_or ds n d)
one_of P [] n d h k = k
one_of P (x ∷ ds) zero d h k = h.0
one_of P (x ∷ ds) (suc n) d h k = one_of P ds n d h.1 k

two : (P : DistDurable → Type 0) (old new : DistDurable) (ds : List DistDurable) → AllByRecursion (λ (d : DistDurable). (d ≡ old) ⊎ (d ≡ new)) ds → P old → P new → AllByRecursion P ds
two P old new [] h k l = tt
two P old new (d ∷ ds) h k l = (⊎_elim (λ e. subst P (sym e) k) (λ e. subst P (sym e) l) h.0, two P old new ds h.1 k l)

-- it is as before the event or as after it
pub left_is : (P : DistDurable → Type 0) (address : ℕ) (s : DistState) (event : NodeEvent) (now operations : ℕ) → P s.durable → P (dist_step address s event now).next.durable → P (left_after address s event now operations)
left_is P address s event now operations h k =
    one_of P (s.durable ∷ dist_work address s event now) operations s.durable (h, two P s.durable (dist_step address s event now).next.durable (dist_work address s event now) (work_leaves address s event now) h k) h

-- ---- in order

pub booted : (address : ℕ) (d : DistDurable) → IsDistDurable d → IsInOrder address (restarted address d)
booted address d h = record { sound = boots_are_sound address d h; planned = boots_plan address d }

-- of fresh slots nothing but their bound is asked
pub begun : (address : ℕ) (d : DistDurable) (fresh : ℕ) → IsDistDurable d → fresh ≤ 3 → IsInOrder address (live address d fresh)
begun address d fresh h few =
    let k = booted address d h in
    record {
      sound = record { durable = h; fresh = few; current = k.sound.current; client = k.sound.client; progress = k.sound.progress; percents = k.sound.percents };
      planned = record { plan = k.planned.plan; place = k.planned.place };
    }

pub happens : RequestsKeepStatesSound → (address : ℕ) (s : DistState) (h : Happening) → HappeningFits h → IsInOrder address s → IsInOrder address (happened address s h)
happens law address s (Done event now) fits k = record { sound = events_keep law address s event now fits k.sound; planned = events_plan address s event now fits k.sound k.planned }
happens law address s CutPower fits k = booted address s.durable k.sound.durable
happens law address s (Torn event now operations) fits k = booted address _ (left_is IsDistDurable address s event now operations k.sound.durable (events_keep law address s event now fits k.sound).durable)

pub run_in_order : RequestsKeepStatesSound → (address : ℕ) (s : DistState) (hs : List Happening) → AllByRecursion HappeningFits hs → IsInOrder address s → IsInOrder address (state_after address s hs)
run_in_order law address s [] fits k = k
run_in_order law address s (h ∷ hs) fits k = run_in_order law address (happened address s h) hs fits.1 (happens law address s h fits.0 k)

pub runs_are_in_order : RequestsKeepStatesSound → RunsAreInOrder
runs_are_in_order law address d fresh hs h few fits = run_in_order law address (live address d fresh) hs fits (begun address d fresh h few)

-- ---- numbers

happened_rises : (address : ℕ) (s : DistState) (h : Happening) → s.durable.counter ≤ (happened address s h).durable.counter
happened_rises address s (Done event now) = counters_rise address s event now
happened_rises address s CutPower = omega arith
happened_rises address s (Torn event now operations) = left_is (λ d. s.durable.counter ≤ d.counter) address s event now operations (omega arith) (counters_rise address s event now)

run_rises : (address : ℕ) (s : DistState) (hs : List Happening) → s.durable.counter ≤ (state_after address s hs).durable.counter
run_rises address s [] = omega arith
run_rises address s (h ∷ hs) = omega (arith, happened_rises address s h, run_rises address (happened address s h) hs)

-- a message that the present record offers
update_behind : (address : ℕ) (d : DistDurable) (to number : ℕ) (request : UpdateRequest) → d.counter ≤ number → IsSentAs address d (to, ByClient (OfUpdate request)) → StartIsBehind address number (to, ByClient (OfUpdate request))
update_behind address d to number (StartUpdate u) h k = record { own = d.counter; is = k.id; below = h }
update_behind address d to number (InformationGet first limit) h k = tt
update_behind address d to number (MetadataCheck index metadata) h k = tt
update_behind address d to number UpdateGet h k = tt
update_behind address d to number UpdateCancel h k = tt
update_behind address d to number UpdateApply h k = tt

sent_behind : (address : ℕ) (d : DistDurable) (to number : ℕ) (sent : Sent) → d.counter ≤ number → IsSentAs address d (to, sent) → StartIsBehind address number (to, sent)
sent_behind address d to number (ByDistribution reply) h k = tt
sent_behind address d to number (ByBlob reply) h k = tt
sent_behind address d to number (ByClient (OfUpdate request)) h k = update_behind address d to number request h k
sent_behind address d to number (ByClient (OfBlob request)) h k = tt

sends_behind : (address : ℕ) (d : DistDurable) (number : ℕ) (sends : List (ℕ × Sent)) → d.counter ≤ number → AllByRecursion (IsSentAs address d) sends → AllByRecursion (StartIsBehind address number) sends
sends_behind address d number [] h k = tt
sends_behind address d number (x ∷ sends) h k = (sent_behind address d x.0 number x.1 h k.0, sends_behind address d number sends h k.1)

behind_join : (address number : ℕ) (a b : List (ℕ × Sent)) → AllByRecursion (StartIsBehind address number) a → AllByRecursion (StartIsBehind address number) b → AllByRecursion (StartIsBehind address number) (a ++ b)
behind_join address number [] b h k = k
behind_join address number (x ∷ a) b h k = (h.0, behind_join address number a b h.1 k)

-- the first state passed is the old one
first_passed : (P : DistDurable → Type 0) (old new : DistDurable) (work : FlashWork) → AllByRecursion P (passed_by old new work) → P old
first_passed P old new Untouched h = h.0
first_passed P old new (Recorded long) h = h.0
first_passed P old new (Begun long) h = h.0
first_passed P old new (PutBlock pages) h = h.0

event_behind : (address : ℕ) (s : DistState) (h : Happening) (number : ℕ) → HappeningFits h → IsInOrder address s → s.durable.counter ≤ number → AllByRecursion (StartIsBehind address number) (sent_by address s h)
event_behind address s (Done event now) number fits k below =
    sends_behind address s.durable number (dist_step address s event now).sends below
    (first_passed (λ d. AllByRecursion (IsSentAs address d) (dist_step address s event now).sends) s.durable (dist_step address s event now).next.durable (dist_step address s event now).work (starts_offered address s event now fits k.sound k.planned))
event_behind address s CutPower number fits k below = tt
event_behind address s (Torn event now operations) number fits k below = tt

run_behind : RequestsKeepStatesSound → (address : ℕ) (s : DistState) (hs : List Happening) → AllByRecursion HappeningFits hs → IsInOrder address s → AllByRecursion (StartIsBehind address (state_after address s hs).durable.counter) (sent_in address s hs)
run_behind law address s [] fits k = tt
run_behind law address s (h ∷ hs) fits k =
    behind_join address _ (sent_by address s h) _ (event_behind address s h _ fits.0 k (run_rises address s (h ∷ hs)))
    (run_behind law address (happened address s h) hs fits.1 (happens law address s h fits.0 k))

pub no_number_is_lost : RequestsKeepStatesSound → NoNumberIsLost
no_number_is_lost law address d fresh hs h few fits = run_behind law address (live address d fresh) hs fits (begun address d fresh h few)
