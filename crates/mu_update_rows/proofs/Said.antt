-- What a step says of the look that it was decided over.
use Rattle.std.proofs.Common.{◌≡◌, Bool, true, false, Option, Some, None, refl, arith}
use Rattle.std.specs.Prelude.{IsSome, IsSomeAnd}
use Rattle.mu_model_node.specs.UpdateMessages.{UpdateStart}
use Rattle.mu_model_node.specs.declared.Link.{Link}
use Rattle.mu_model_node.specs.declared.Link.TheVariants.{Cut, Ready, Running}
use Rattle.mu_model_node.specs.declared.Stored.{Stored}
use Rattle.mu_model_node.specs.declared.Stored.TheVariants.{Filling, Verified, Refused, Applied}
use Rattle.mu_update_rows.specs.Decided.{phase_seen, has_same, taken, check_seen, started_in, started, canceled, applied, timed, linked_seen, stored_seen}
use Rattle.mu_update_rows.specs.Fits.{is_cut, IsStepOf, IsTimeStepOf}
use Rattle.mu_update_rows.specs.declared.look.NodeLook.{NodeLook}
use Rattle.mu_update_rows.specs.declared.look.JobLook.{JobLook}
use Rattle.mu_update_rows.specs.declared.phases.Phase.{Phase}
use Rattle.mu_update_rows.specs.declared.phases.Phase.TheVariants.{Idle, TransferError, TransferActive, Verifying, Succeeded, Failed, Applying}
use Rattle.mu_update_rows.specs.declared.table.UpdateStep.{UpdateStep}

-- what a phase says
abbrev Says : Link → Option JobLook → Phase → Type 0
Says link job Idle = Unit {0}
Says link job TransferError = (is_cut link ≡ true) × IsSome job
Says link job TransferActive = (is_cut link ≡ false) × IsSome job
Says link job Verifying = IsSomeAnd job (λ j. (j.stored ≡ Filling) × (j.is_whole ≡ true))
Says link job Succeeded = IsSomeAnd job (λ j. j.stored ≡ Verified)
Says link job Failed = IsSome job
Says link job Applying = IsSomeAnd job (λ j. j.stored ≡ Applied)

linked : (link : Link) (j : JobLook) → Says link (Some j) (linked_seen link)
linked Cut j = (refl, refl)
linked Ready j = (refl, refl)
linked Running j = (refl, refl)

in_job : (link : Link) (j : JobLook) (whole : Bool) (stored : Stored) → j.is_whole ≡ whole → j.stored ≡ stored → Says link (Some j) (stored_seen link whole stored)
in_job link j true Filling w s = (s, w)
in_job link j false Filling w s = linked link j
in_job link j whole Verified w s = s
in_job link j whole Refused w s = refl
in_job link j whole Applied w s = s

said : (link : Link) (job : Option JobLook) → Says link job (phase_seen link job)
said link None = tt
said link (Some j) = in_job link j j.is_whole j.stored refl refl

by_phase : (look : NodeLook) (p : Phase) (same : Bool) (take : UpdateStep) → Says look.link look.job p → IsStepOf look take → IsStepOf look (started_in p same take)
by_phase look Idle same take says of = of
by_phase look TransferError true take says of = says
by_phase look TransferError false take says of = of
by_phase look TransferActive true take says of = says
by_phase look TransferActive false take says of = omega arith
by_phase look Verifying true take says of = omega arith
by_phase look Verifying false take says of = omega arith
by_phase look Succeeded true take says of = omega arith
by_phase look Succeeded false take says of = omega arith
by_phase look Failed same take says of = of
by_phase look Applying true take says of = omega arith
by_phase look Applying false take says of = omega arith

pub started_of : (look : NodeLook) (u : UpdateStart) → IsStepOf look (taken u (check_seen look u.index u.metadata)) → IsStepOf look (started look u)
started_of look u of = by_phase look (phase_seen look.link look.job) (has_same u look.job) (taken u (check_seen look u.index u.metadata)) (said look.link look.job) of

some_of : (P : JobLook → Type 0) (job : Option JobLook) → IsSomeAnd job P → IsSome job
some_of P (Some j) p = refl
some_of P None p = absurd p

canceled_by : (look : NodeLook) (p : Phase) → Says look.link look.job p → IsStepOf look (canceled p)
canceled_by look Idle says = omega arith
canceled_by look TransferError says = says.1
canceled_by look TransferActive says = says.1
canceled_by look Verifying says = some_of (λ j. (j.stored ≡ Filling) × (j.is_whole ≡ true)) look.job says
canceled_by look Succeeded says = some_of (λ j. j.stored ≡ Verified) look.job says
canceled_by look Failed says = says
canceled_by look Applying says = omega arith

pub canceled_of : (look : NodeLook) → IsStepOf look (canceled (phase_seen look.link look.job))
canceled_of look = canceled_by look (phase_seen look.link look.job) (said look.link look.job)

applied_by : (look : NodeLook) (p : Phase) → Says look.link look.job p → IsStepOf look (applied p)
applied_by look Idle says = omega arith
applied_by look TransferError says = omega arith
applied_by look TransferActive says = omega arith
applied_by look Verifying says = omega arith
applied_by look Succeeded says = says
applied_by look Failed says = omega arith
applied_by look Applying says = omega arith

pub applied_of : (look : NodeLook) → IsStepOf look (applied (phase_seen look.link look.job))
applied_of look = applied_by look (phase_seen look.link look.job) (said look.link look.job)

timed_by : (look : NodeLook) (p : Phase) → Says look.link look.job p → IsTimeStepOf look (timed p)
timed_by look Idle says = tt
timed_by look TransferError says = tt
timed_by look TransferActive says = tt
timed_by look Verifying says = says
timed_by look Succeeded says = tt
timed_by look Failed says = tt
timed_by look Applying says = says

pub timed_of : (look : NodeLook) → IsTimeStepOf look (timed (phase_seen look.link look.job))
timed_of look = timed_by look (phase_seen look.link look.job) (said look.link look.job)
