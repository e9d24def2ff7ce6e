use Rattle.std.proofs.Common.{◌≡◌, ℕ, take, map, length}
use Rattle.mu_model_record.specs.Record.{entry_of}
use Rattle.mu_place.specs.Place.{place_record}
use Rattle.mu_blobsrv.specs.Views.{place_of}
use Rattle.mu_distributor_server.specs.Boots.{meta_by}
use Rattle.mu_distributor_server.proofs.judging.metas_of.Given as goal

abbrev pub invariant-loop-i : goal.invariant-loop-i
invariant-loop-i g l =
    (length l.metas ≡ 4) × (take l.i l.metas ≡ map (λ (b : ℕ). meta_by (entry_of (place_record (place_of l.server)) b)) (take l.i l.banks))
