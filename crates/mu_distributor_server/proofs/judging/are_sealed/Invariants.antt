use Rattle.std.proofs.Common.{ℕ, drop}
use Rattle.std.specs.List.{AllByRecursion}
use Rattle.mu_model_record.specs.Record.{entry_of}
use Rattle.mu_model_represents.specs.Images.{IsSealed}
use Rattle.mu_place.specs.Place.{place_record}
use Rattle.mu_blobsrv.specs.Views.{place_of}
use Rattle.mu_distributor_server.proofs.judging.are_sealed.Given as goal

-- the banks that are left decide
abbrev pub invariant-loop-i : goal.invariant-loop-i
invariant-loop-i g l =
    (AllByRecursion (λ (b : ℕ). IsSealed (entry_of (place_record (place_of l.server)) b)) (drop l.i l.banks)
    → AllByRecursion (λ (b : ℕ). IsSealed (entry_of (place_record (place_of l.server)) b)) l.banks)
    × (AllByRecursion (λ (b : ℕ). IsSealed (entry_of (place_record (place_of l.server)) b)) l.banks
    → AllByRecursion (λ (b : ℕ). IsSealed (entry_of (place_record (place_of l.server)) b)) (drop l.i l.banks))
