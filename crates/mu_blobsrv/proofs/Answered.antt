-- What a phase or a report may show.
use Rattle.std.proofs.Common.{◌≡◌, ◌≤◌, List, Bool, Option, Some, None, length, sym, subst, arith}
use Rattle.std.proofs.lemmas.List.{length-map}
use Rattle.mu_model_node.specs.declared.Parameters.{Parameters}
use Rattle.mu_model_node.specs.declared.Link.{Link}
use Rattle.mu_model_node.specs.Slots.{missing}
use Rattle.mu_block.specs.Coming.{Coming, chunks_of, IsOpen}
use Rattle.mu_blob_rows.specs.declared.looks.Look.{Look}
use Rattle.mu_blob_rows.specs.declared.looks.BlockLook.{BlockLook}
use Rattle.mu_blob_rows.specs.declared.looks.TransferLook.{TransferLook}
use Rattle.mu_blob_rows.specs.declared.looks.BlobPhase.{BlobPhase}
use Rattle.mu_blob_rows.specs.declared.looks.BlobPhase.TheVariants.{Inactive, WaitingForStart, NextBlock, NextChunk, Complete, Suspended}
use Rattle.mu_blob_rows.specs.declared.looks.Serving.{Serving}
use Rattle.mu_blob_rows.specs.declared.looks.Serving.TheVariants.{NoJob, Lacking, Whole}
use Rattle.mu_blob_rows.specs.declared.table.ReportTold.{ReportTold}
use Rattle.mu_blob_rows.specs.declared.table.ReportTold.TheVariants.{All, Nothing, Missing}
use Rattle.mu_blob_rows.specs.Looks.{TransferPhaseOf, PhaseIn, PhaseOf}
use Rattle.mu_blob_session.specs.Sound.{AreBegun, AreSound, HasSound, IsSoundServing}
use Rattle.mu_blob_session.specs.Opens.{ReportOf}
use Rattle.mu_blob_answers.specs.Fits.{CanShow, HasShown, IsShown, CanReport}

can_show : (p : Parameters) → AreBegun p → CanShow p
can_show p h = record { mode = h.mode_most; size = h.size_least; log_above = omega arith; log_below = omega arith; mtu = h.mtu_least }

shown_by : (q : Option Parameters) (p : Parameters) → AreSound q → q ≡ Some p → CanShow p
shown_by None p h e = absurd (cc e)
shown_by (Some q) p h e = can_show p (let is : q ≡ p = cc e in subst AreBegun is h)

has_shown : (q : Option Parameters) → HasSound q → HasShown q
has_shown None h = h
has_shown (Some p) h = can_show p h

shown_lacking : (t : TransferLook) (link : Link) (current : Option BlockLook) (phase : BlobPhase) → AreSound t.parameters → TransferPhaseOf t link current phase → IsShown phase
shown_lacking t link current Inactive h f = tt
shown_lacking t link current (WaitingForStart u) h f = tt
shown_lacking t link current (NextBlock u p) h f = shown_by t.parameters p h f.1
shown_lacking t link current (NextChunk u p b) h f = shown_by t.parameters p h f.1
shown_lacking t link current (Complete u) h f = absurd f
shown_lacking t link current (Suspended u p) h f = shown_by t.parameters p h f.1

shown_in : (serving : Serving) (link : Link) (current : Option BlockLook) (phase : BlobPhase) → IsSoundServing serving → PhaseIn serving link current phase → IsShown phase
shown_in NoJob link current phase h f = subst IsShown (sym f) tt
shown_in (Lacking t) link current phase h f = shown_lacking t link current phase h f
shown_in (Whole t) link current phase h f = subst IsShown (sym f) (has_shown t.parameters h)

pub shown_phase : (v : Look) (serving : Serving) (phase : BlobPhase) → v.serving ≡ serving → IsSoundServing serving → PhaseOf v phase → IsShown phase
shown_phase v serving phase e h f = shown_in v.serving v.session.now.link v.current phase (subst IsSoundServing (sym e) h) f

some_chunks : (coming : Option Coming) → IsOpen coming → ReportOf Missing coming → 1 ≤ length (missing (chunks_of coming))
some_chunks None is_open report = absurd (cc report)
some_chunks (Some c) is_open report = rw length-map is_open.count_least

pub can_report : (told : ReportTold) (coming : Option Coming) (set : List Bool) → IsOpen coming → ReportOf told coming → set ≡ missing (chunks_of coming) → CanReport told set
can_report All coming set is_open report e = tt
can_report Nothing coming set is_open report e = tt
can_report Missing coming set is_open report e = rw e (some_chunks coming is_open report)
