-- What is known of a distributor's events.
use Rattle.std.proofs.Common.{◌≡◌, ℕ, zero, suc, List, [], ◌∷◌, sym, subst, get_or, ◌⊎◌, ⊎_elim}
use Rattle.std.specs.List.{AllByRecursion}
use Rattle.mu_model_node.specs.declared.FlashWork.{FlashWork}
use Rattle.mu_model_node.specs.declared.FlashWork.TheVariants.{Untouched, Recorded, Begun, PutBlock}
use Rattle.mu_model_node.specs.FlashWork.{passed_by}
use Rattle.mu_model_node.specs.Events.{NodeEvent}
use Rattle.mu_model_node.specs.Safe.{Happening, Done, CutPower, Torn}
use Rattle.mu_model_distributor.specs.DistState.{DistDurable, DistState}
use Rattle.mu_model_distributor.specs.DistEvents.{dist_step, dist_work, restarted}
use Rattle.mu_model_distributor.specs.Runs.{left_after, happened}
use Rattle.mu_model_distributor.specs.Sound.{IsDistDurable}
use Rattle.mu_model_distributor_laws.specs.Laws.{EventFits, EventsKeepStatesSound, BootsAreSound, WorkLeavesOldOrNew}
use Rattle.mu_model_distributor_laws.specs.Planned.{EventsKeepPlanned, BootsArePlanned, IsSentAs, StartsAreOffered}
use Rattle.mu_model_distributor_laws.specs.RowMoves.{RowsMoveByCause}
use Rattle.mu_model_distributor_laws.specs.Rests.{RestsMove, RestsStartNothing}
use Rattle.mu_model_distributor_laws.specs.RowsTold.{OffersStand}
use Rattle.mu_model_distributor_laws.specs.RunLaws.{HappeningFits, IsInOrder}

pub record Below : Type 0 where
  pub keeps : EventsKeepStatesSound
  pub boots : BootsAreSound
  pub plans : EventsKeepPlanned
  pub boots_planned : BootsArePlanned
  pub leaves : WorkLeavesOldOrNew
  pub offered : StartsAreOffered
  pub moves : RowsMoveByCause
  pub stand : OffersStand
  pub rests : RestsMove
  pub silent : RestsStartNothing

-- ---- what a cut leaves

one_of : (P : DistDurable → Type 0) (ds : List DistDurable) (n : ℕ) (d : DistDurable) → AllByRecursion P ds → P d → P (get_or ds n d)
one_of P [] n d h k = k
one_of P (x ∷ ds) zero d h k = h.0
one_of P (x ∷ ds) (suc n) d h k = one_of P ds n d h.1 k

two : (P : DistDurable → Type 0) (old new : DistDurable) (ds : List DistDurable) → AllByRecursion (λ (d : DistDurable). (d ≡ old) ⊎ (d ≡ new)) ds → P old → P new → AllByRecursion P ds
two P old new [] h k l = tt
two P old new (d ∷ ds) h k l = (⊎_elim (λ e. subst P (sym e) k) (λ e. subst P (sym e) l) h.0, two P old new ds h.1 k l)

left_is : Below → (P : DistDurable → Type 0) (address : ℕ) (s : DistState) (event : NodeEvent) (now operations : ℕ) → P s.durable → P (dist_step address s event now).next.durable → P (left_after address s event now operations)
left_is below P address s event now operations h k =
    one_of P (s.durable ∷ dist_work address s event now) operations s.durable (h, two P s.durable (dist_step address s event now).next.durable (dist_work address s event now) (below.leaves address s event now) h k) h

-- what holds as before an event and as after it holds after whatever happens
pub whatever : Below → (P : DistDurable → Type 0) (address : ℕ) (s : DistState) (h : Happening) → HappeningFits h → P s.durable → ((event : NodeEvent) (now : ℕ) → EventFits event → P (dist_step address s event now).next.durable) → P (happened address s h).durable
whatever below P address s (Done event now) fits h k = k event now fits
whatever below P address s CutPower fits h k = h
whatever below P address s (Torn event now operations) fits h k = left_is below P address s event now operations h (k event now fits)

-- ---- order

booted : Below → (address : ℕ) (d : DistDurable) → IsDistDurable d → IsInOrder address (restarted address d)
booted below address d h = record { sound = below.boots address d h; planned = below.boots_planned address d }

pub happens : Below → (address : ℕ) (s : DistState) (h : Happening) → HappeningFits h → IsInOrder address s → IsInOrder address (happened address s h)
happens below address s (Done event now) fits k = record { sound = below.keeps address s event now fits k.sound; planned = below.plans address s event now fits k.sound k.planned }
happens below address s CutPower fits k = booted below address s.durable k.sound.durable
happens below address s (Torn event now operations) fits k = booted below address _ (left_is below IsDistDurable address s event now operations k.sound.durable (below.keeps address s event now fits k.sound).durable)

-- ---- what is sent

-- the first state passed is the old one
first_passed : (P : DistDurable → Type 0) (old new : DistDurable) (work : FlashWork) → AllByRecursion P (passed_by old new work) → P old
first_passed P old new Untouched h = h.0
first_passed P old new (Recorded long) h = h.0
first_passed P old new (Begun long) h = h.0
first_passed P old new (PutBlock pages) h = h.0

pub sends_offered : Below → (address : ℕ) (s : DistState) (event : NodeEvent) (now : ℕ) → EventFits event → IsInOrder address s → AllByRecursion (IsSentAs address s.durable) (dist_step address s event now).sends
sends_offered below address s event now fits k =
    first_passed (λ d. AllByRecursion (IsSentAs address d) (dist_step address s event now).sends) s.durable (dist_step address s event now).next.durable (dist_step address s event now).work (below.offered address s event now fits k.sound k.planned)
