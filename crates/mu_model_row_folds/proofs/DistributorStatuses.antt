-- The statuses of drops, over whole runs of a distributor.
use Rattle.std.proofs.Common.{◌≡◌, ℕ, Bool, true, false, List, [], ◌∷◌, length, map, refl, sym, ap, subst, ◌∙◌, cond, Option, None}
use Rattle.std.specs.Prelude.{◌==◌}
use Rattle.std.specs.List.{AllByRecursion}
use Rattle.std.proofs.lemmas.Bool.{eqb-true, eq-eqb}
use Rattle.mu_model_node.specs.Events.{NodeEvent}
use Rattle.mu_model_node.specs.Safe.{Happening, Done, CutPower, Torn}
use Rattle.mu_model_client.specs.Client.{Client}
use Rattle.mu_model_distributor.specs.declared.DistPhase.TheVariants.{Idle}
use Rattle.mu_model_distributor.specs.Distribution.{plan_of, stage_in}
use Rattle.mu_model_distributor.specs.DistState.{Receiver, DistDurable, DistState, is_at_rest, rows_by, no_progress}
use Rattle.mu_model_distributor.specs.DistEvents.{at_moment, dist_step, dist_work, restarted, live}
use Rattle.mu_model_distributor.specs.Runs.{happened, left_after, state_after}
use Rattle.mu_model_distributor.specs.Sound.{IsDistState}
use Rattle.mu_model_distributor_laws.specs.Laws.{EventFits}
use Rattle.mu_model_distributor_laws.specs.RunLaws.{HappeningFits, IsInOrder, RunsAreInOrder}
use Rattle.mu_model_rows.specs.Clients.{StatusesStand}
use Rattle.mu_model_row_folds.specs.Distributors.{IsOne}
use Rattle.mu_model_row_folds.specs.DistributorStatuses.{both_kept, DropsStandIn, DistributorDropsStand, placed_by, client_by, placed_in, DistributorStatusesAreFolds}
use Rattle.mu_model_row_folds.proofs.Distributors.{DistLaws, no_client, not_last, rest_same, still_rests, happening_order}
use Rattle.mu_model_row_folds.proofs.Placed.{begun_stand}
use Rattle.mu_model_row_folds.proofs.DistributorClients.{step_moves}

boot_stands : (address : ℕ) (d : DistDurable) → DropsStandIn (restarted address d).client
boot_stands address d = begun_stand (plan_of address d) (rows_by d.receivers (no_progress d.receivers)) (stage_in d.phase)

module _ (law : StatusesStand) where
  happening_stands : (address : ℕ) (s : DistState) (h : Happening) → DropsStandIn s.client → DropsStandIn (happened address s h).client
  happening_stands address s (Done event now) k = (step_moves law address s event now k).stand
  happening_stands address s CutPower k = boot_stands address s.durable
  happening_stands address s (Torn event now operations) k = boot_stands address (left_after address s event now operations)

  run_stands : (address : ℕ) (s : DistState) (hs : List Happening) → DropsStandIn s.client → DropsStandIn (state_after address s hs).client
  run_stands address s [] k = k
  run_stands address s (h ∷ hs) k = run_stands address (happened address s h) hs (happening_stands address s h k)

  pub drops_stand : DistributorDropsStand
  drops_stand address d fresh hs = run_stands address (live address d fresh) hs (boot_stands address d)

later : (s : DistState) (now : ℕ) → IsDistState s → IsDistState (at_moment s now)
later s now h = record { durable = h.durable; fresh = h.fresh; current = h.current; client = h.client; progress = h.progress; percents = h.percents }

module _ (laws : DistLaws) (law : StatusesStand) where
  abbrev Placed : DistState → Option Client → DistDurable → Type 0
  Placed s client e = map both_kept e.receivers ≡ placed_by client (map both_kept s.durable.receivers)

  event_by : (address : ℕ) (s : DistState) (event : NodeEvent) (now : ℕ) → EventFits event → IsInOrder address s → DropsStandIn s.client → (s.durable.phase ≡ Idle → ⊥)
      → (dist_step address s event now).next.durable.counter ≡ s.durable.counter → (b : Bool) → is_at_rest s.durable.phase ≡ b
      → Placed s (dist_step address s event now).next.client (dist_step address s event now).next.durable
  event_by address s event now fits order k not_idle same true rest =
      let next : DistState = (dist_step address s event now).next in
      let moved = laws.rests address s event now order.sound rest in
      let none = no_client next (still_rests laws s.durable next.durable rest same not_idle moved) (laws.keeps address s event now fits order.sound) in
      ap (λ (rs : List Receiver). map both_kept rs) (rest_same laws s.durable next.durable not_idle same moved)
      ∙ ap (λ (o : Option Client). placed_by o (map both_kept s.durable.receivers)) (sym none)
  event_by address s event now fits order k not_idle same false busy =
      (step_moves law address s event now k).follow (later s now order.sound) busy (laws.keeps address s event now fits order.sound)

  event_placed : (address : ℕ) (s : DistState) (event : NodeEvent) (now : ℕ) → EventFits event → IsInOrder address s → DropsStandIn s.client → (s.durable.phase ≡ Idle → ⊥)
      → (dist_step address s event now).next.durable.counter ≡ s.durable.counter → Placed s (dist_step address s event now).next.client (dist_step address s event now).next.durable
  event_placed address s event now fits order k not_idle same = event_by address s event now fits order k not_idle same (is_at_rest s.durable.phase) refl

  torn_placed : (address : ℕ) (s : DistState) (event : NodeEvent) (now operations : ℕ) → EventFits event → IsInOrder address s → DropsStandIn s.client → (s.durable.phase ≡ Idle → ⊥)
      → (left_after address s event now operations).counter ≡ s.durable.counter → (b : Bool) → (operations == length (dist_work address s event now)) ≡ b
      → Placed s (cond b (dist_step address s event now).next.client None) (left_after address s event now operations)
  torn_placed address s event now operations fits order k not_idle same true e =
      let all : operations ≡ length (dist_work address s event now) = eqb-true operations (length (dist_work address s event now)) e in
      let new : left_after address s event now operations ≡ (dist_step address s event now).next.durable = ap (λ n. left_after address s event now n) all ∙ laws.leads address s event now fits order.sound in
      subst (λ (d : DistDurable). Placed s (dist_step address s event now).next.client d) (sym new)
      (event_placed address s event now fits order k not_idle (ap (λ (d : DistDurable). d.counter) (sym new) ∙ same))
  torn_placed address s event now operations fits order k not_idle same false e =
      let old : left_after address s event now operations ≡ s.durable =
      not_last s.fresh s.durable (dist_step address s event now).next.durable (dist_step address s event now).work operations
      (λ all. (let yes : (operations == length (dist_work address s event now)) ≡ true = eq-eqb operations (length (dist_work address s event now)) all in cc)) in
      subst (λ (d : DistDurable). Placed s None d) (sym old) refl

  happening_placed : (address : ℕ) (s : DistState) (h : Happening) → HappeningFits h → IsInOrder address s → DropsStandIn s.client → (s.durable.phase ≡ Idle → ⊥)
      → (happened address s h).durable.counter ≡ s.durable.counter → Placed s (client_by address s h) (happened address s h).durable
  happening_placed address s (Done event now) fits order k not_idle same = event_placed address s event now fits order k not_idle same
  happening_placed address s CutPower fits order k not_idle same = refl
  happening_placed address s (Torn event now operations) fits order k not_idle same =
      torn_placed address s event now operations fits order k not_idle same (operations == length (dist_work address s event now)) refl

  run_placed : (address : ℕ) (s : DistState) (hs : List Happening) → IsInOrder address s → AllByRecursion HappeningFits hs → IsOne address s hs → DropsStandIn s.client
      → map both_kept (state_after address s hs).durable.receivers ≡ placed_in address s hs (map both_kept s.durable.receivers)
  run_placed address s [] order fits one k = refl
  run_placed address s (h ∷ hs) order fits one k =
      let next : DistState = happened address s h in
      run_placed address next hs (happening_order laws address s h fits.0 order) fits.1 one.2 (happening_stands law address s h k)
      ∙ ap (λ (xs : List (ℕ × ℕ)). placed_in address next hs xs) (happening_placed address s h fits.0 order k one.0 one.1)

  pub statuses_are_folds : RunsAreInOrder → DistributorStatusesAreFolds
  statuses_are_folds orders address d fresh before hs sound few before_fits fits one =
      run_placed address (state_after address (live address d fresh) before) hs (orders address d fresh before sound few before_fits) fits one
      (run_stands law address (live address d fresh) before (boot_stands address d))
