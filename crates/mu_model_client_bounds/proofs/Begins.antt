-- A client begins within its bounds.
use Rattle.std.proofs.Common.{◌≡◌, inl, ◌≤◌, ◌<◌, ℕ, List, [], ◌∷◌, refl, true, arith, map}
use Rattle.std.specs.List.{AllByRecursion}
use Rattle.mu_model_client.specs.declared.Sending.{Sending}
use Rattle.mu_model_client.specs.declared.Stage.{Stage}
use Rattle.mu_model_client.specs.declared.Stage.TheVariants.{Transfer as StageTransfer, Verified as StageVerified, Applying as StageApplying, Canceling as StageCanceling, Ended as StageEnded}
use Rattle.mu_model_client.specs.Rows.{Row}
use Rattle.mu_model_client.specs.Client.{Standing, Receiver, Check, Information, Place, Before, new_receiver}
use Rattle.mu_model_client.specs.Begin as b
use Rattle.mu_model_client_bounds.specs.Bounds.{PlaceFits, IsWithin, IsBounded, BeginBounded}
use Rattle.mu_model_client_bounds.proofs.Sets.{none_at}

new_within : (p : Sending) (place : Place) (row : Row) (standing : Standing) → IsWithin p place (new_receiver row standing)
new_within p place row standing = record {
  silent = omega arith;
  barren = omega arith;
  few_barren = λ e. omega arith;
  blocks = inl refl;
  chunks = inl refl;
  wanted = none_at p place;
}

all_new : {A : Type 0} (Q : Receiver → Type 0) (g : A → Receiver) → ((a : A) → Q (g a)) → (xs : List A) → AllByRecursion Q (map g xs)
all_new Q g h [] = tt
all_new Q g h (x ∷ xs) = (h x, all_new Q g h xs)

first_fits : (p : Sending) (stage : Stage) → PlaceFits p (b.first_place stage)
first_fits p StageTransfer = tt
first_fits p StageVerified = tt
first_fits p StageApplying = tt
first_fits p StageCanceling = tt
first_fits p StageEnded = tt

pub begins_bounded : BeginBounded
begins_bounded = record {
  starts = λ plan to. record {
    began = omega arith;
    fits = tt;
    receivers = all_new (IsWithin plan.sending (Before Check)) b.new_active (λ x. new_within plan.sending (Before Check) _ _) to;
  };
  blobs = λ p to. record {
    began = omega arith;
    fits = tt;
    receivers = all_new (IsWithin p (Before Information)) (λ (address : ℕ). b.new_active (address, 0)) (λ x. new_within p (Before Information) _ _) to;
  };
  resumes = λ plan rows stage. record {
    began = omega arith;
    fits = first_fits plan.sending stage;
    receivers = all_new (IsWithin plan.sending (b.first_place stage)) (b.resumed stage) (λ row. new_within plan.sending (b.first_place stage) _ _) rows;
  };
}
