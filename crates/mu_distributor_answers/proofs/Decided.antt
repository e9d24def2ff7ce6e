-- The rows' steps are the table's.
use Rattle.std.proofs.Common.{◌≡◌, ◌∙◌, ◌≤◌, ℕ, Bool, true, List, [], Some, None, Result, Ok, Err, refl, sym, ap}
use Rattle.std.specs.Prelude.{false, IfErr, OnOk, OnErr}
use Rattle.std.specs.Borrow.{Bor}
use Rattle.mu_distmsg.specs.declared.message.ReceiverRow.{ReceiverRow}
use Rattle.mu_model_distributor.specs.Requests.{DistRequest, FirmwareDelete, FirmwareDeleteAll}
use Rattle.mu_model_distributor.specs.DistState.{DistState}
use Rattle.mu_model_distributor.specs.Commit.{answered}
use Rattle.mu_model_distributor.specs.Sound.{DistRequestFits}
use Rattle.mu_model_distributor.specs.DistTable.{on_request}
use Rattle.mu_model_distributor.specs.Firmware.{no_index, firmware_status, firmware_delete, firmware_delete_all, with_images}
use Rattle.mu_distributor_rows.specs.declared.looks.DistLook.{DistLook}
use Rattle.mu_distributor_rows.specs.declared.distribution.DistributionStep.{DistributionStep}
use Rattle.mu_distributor_rows.specs.Due.{IsDueIn, IsDueOf, changes}
use Rattle.mu_distributor_rows.specs.Decided.{run_seen, is_in_part}
use Rattle.mu_distributor_rows.specs.Fits.{IsKnown}
use Rattle.mu_distributor_rows.specs.Looks.{Seen, seen, LooksAs}
use Rattle.mu_distributor_rows.specs.Receivers.{AreRowsOf, AreShownRows, with_rows, rows_stepped}
use Rattle.mu_distributor_rows.specs.Rows.{distribution_stepped, deleted, all_deleted}
use Rattle.mu_distributor_answers.specs.declared.steps.DistStep.TheVariants.{Receivers, DeleteAllImages}
use Rattle.mu_distributor_answers.specs.Steps.{shown_to, is_on_distribution}
use Rattle.mu_distributor_answers.specs.Decides.{Decides}
use Rattle.mu_distributor_answers.specs.Decisions.{changes_by, deletes, distributes}

pub phase_looks : (look : DistLook) (s : DistState) → LooksAs look s → s.durable.phase ≡ look.phase
phase_looks look s looks = sym (ap (λ (v : Seen). v.phase) looks.same)

-- a request on receivers, which is answered by how many there are
abbrev pub OnReceivers : (DistState → Result DistState ℕ) → DistRequest → Type 0
OnReceivers row request = (address : ℕ) (s : DistState) (to : ℕ) → on_request address s to request ≡ answered s to (shown_to request) (row s)

pub receivers_decide : (look : DistLook) (old new : List ReceiverRow) (request : DistRequest) (row : DistState → Result DistState ℕ) (r : Result Bool ℕ)
    → OnReceivers row request → is_on_distribution request ≡ false → IfErr r (λ status. status ≤ 13)
    → ((s : DistState) → AreRowsOf old s → s.durable.phase ≡ look.phase → row s ≡ rows_stepped s new r)
    → ((s : DistState) → AreRowsOf old s → IsDueOf r s (with_rows s new))
    → OnErr r (new ≡ old) → (DistRequestFits request → AreShownRows old → AreShownRows new)
    → Decides look old new request (changes_by Receivers r)
receivers_decide look old new request row (Ok d) on other known step due refused shown = record {
  known = tt;
  can = tt;
  written = tt;
  kind = sym other;
  keeps = tt;
  shown = shown;
  step = λ address s looks are. record { is = λ to. on address s to ∙ ap (answered s to (shown_to request)) (step s are (phase_looks look s looks)) };
  due = λ address s looks are. due s are;
}
receivers_decide look old new request row (Err status) on other known step due refused shown = record {
  known = known;
  can = tt;
  written = refl;
  kind = sym other;
  keeps = refused;
  shown = shown;
  step = λ address s looks are. record { is = λ to. on address s to ∙ ap (answered s to (shown_to request)) (step s are (phase_looks look s looks)) };
  due = λ address s looks are. tt;
}

-- a request on the distribution
pub distribution_decides : (look : DistLook) (rows : List ReceiverRow) (request : DistRequest) (row : ℕ → DistState → Result DistState ℕ) (step : DistributionStep)
    → ((address : ℕ) (s : DistState) (to : ℕ) → on_request address s to request ≡ answered s to (shown_to request) (row address s))
    → is_on_distribution request ≡ true
    → IsKnown step
    → ((address : ℕ) (s : DistState) → LooksAs look s → row address s ≡ distribution_stepped address s step)
    → ((address : ℕ) (s : DistState) → LooksAs look s → IsDueIn (changes step) s (distribution_stepped address s step))
    → Decides look rows rows request (distributes step)
distribution_decides look rows request row step on itself known is due = record {
  known = known;
  can = tt;
  written = tt;
  kind = sym itself;
  keeps = refl;
  shown = λ fits shown. shown;
  step = λ address s looks are. record { is = λ to. on address s to ∙ ap (answered s to (shown_to request)) (is address s looks) };
  due = λ address s looks are. due address s looks;
}

pub deletion_decides : (look : DistLook) (rows : List ReceiverRow) (fwid : Bor (List ℕ)) (r : Result (Unit {0}) ℕ) → IfErr r (λ status. status ≤ 13)
    → ((s : DistState) → LooksAs look s → firmware_delete s fwid.now ≡ deleted s fwid.now r)
    → ((s : DistState) → LooksAs look s → IsDueIn true s (deleted s fwid.now r)) → OnOk r (is_in_part (run_seen (seen look)) ≡ false)
    → Decides look rows rows (FirmwareDelete fwid.now) (deletes fwid r)
deletion_decides look rows fwid (Ok done) known is due rests = record {
  known = tt;
  can = rests;
  written = tt;
  kind = refl;
  keeps = refl;
  shown = λ fits shown. shown;
  step = λ address s looks are. record { is = λ to. ap (answered s to (firmware_status no_index (Some fwid.now))) (is s looks) };
  due = λ address s looks are. due s looks;
}
deletion_decides look rows fwid (Err status) known is due rests = record {
  known = known;
  can = tt;
  written = refl;
  kind = refl;
  keeps = refl;
  shown = λ fits shown. shown;
  step = λ address s looks are. record { is = λ to. ap (answered s to (firmware_status no_index (Some fwid.now))) (is s looks) };
  due = λ address s looks are. tt;
}

pub whole_deletion_decides : (look : DistLook) (rows : List ReceiverRow) (r : Result Bool ℕ) → IfErr r (λ status. status ≤ 13)
    → ((s : DistState) → LooksAs look s → firmware_delete_all s ≡ all_deleted s r)
    → ((s : DistState) → LooksAs look s → IsDueOf r s (with_images s [])) → OnOk r (is_in_part (run_seen (seen look)) ≡ false)
    → Decides look rows rows FirmwareDeleteAll (changes_by DeleteAllImages r)
whole_deletion_decides look rows (Ok d) known is due rests = record {
  known = tt;
  can = rests;
  written = tt;
  kind = refl;
  keeps = refl;
  shown = λ fits shown. shown;
  step = λ address s looks are. record { is = λ to. ap (answered s to (firmware_status no_index None)) (is s looks) };
  due = λ address s looks are. due s looks;
}
whole_deletion_decides look rows (Err status) known is due rests = record {
  known = known;
  can = tt;
  written = refl;
  kind = refl;
  keeps = refl;
  shown = λ fits shown. shown;
  step = λ address s looks are. record { is = λ to. ap (answered s to (firmware_status no_index None)) (is s looks) };
  due = λ address s looks are. tt;
}
