-- What follows once a row is decided and applied.
use Rattle.std.proofs.Common.{◌≡◌, ℕ, false, [], ◌∷◌, sym, ap, subst, ◌∙◌}
use Rattle.std.specs.Prelude.{◌==◌, ◌&&◌}
use Rattle.mu_model_node.specs.declared.Parameters.{Parameters}
use Rattle.mu_model_node.specs.declared.FlashWork.{FlashWork}
use Rattle.mu_model_node.specs.BlobMessages.{BlobRequest, BlobReply}
use Rattle.mu_model_node.specs.BlobServer.{Server, BlobPhase, server_phase, serving_phase, serving_after}
use Rattle.mu_model_node.specs.BlobTable.{Served, transfer_status, on_blob}
use Rattle.mu_model_node.specs.NodeMessages.{OfBlob}
use Rattle.mu_model_node.specs.NodeState.{NodeState, server_of, blob_phase}
use Rattle.mu_model_node.specs.NodeOutcome.{work_of, served}
use Rattle.mu_model_node.specs.Events.{has_record, last_count}
use Rattle.mu_model_node.specs.Sound.{BlobRequestFits, IsNodeState, IsPhase}
use Rattle.mu_model_node.specs.Laws.{RequestsKeepStatesSound, PhasesAreSound, ToldPhaseIsThePhase}
use Rattle.mu_blob_rows.specs.declared.table.Told.{Told}
use Rattle.mu_blob_rows.specs.Rows.{told_by, change_by}
use Rattle.mu_reference.specs.Outcomes.{is_spent}

-- a phase that is the server's is the node's
pub phase_here : (s : NodeState) (phase : BlobPhase) (v : Server) → phase ≡ server_phase v → v ≡ server_of s → phase ≡ blob_phase s
phase_here s phase v e k = e ∙ ap server_phase k

pub phase_sound : (s : NodeState) (phase : BlobPhase) → PhasesAreSound → IsNodeState s → phase ≡ blob_phase s → IsPhase phase
phase_sound s phase law h e = subst IsPhase (sym e) (law s h)

-- the state after a message is sound
pub sound_after : (s new : NodeState) (from : ℕ) (request : BlobRequest) (o : Served) → RequestsKeepStatesSound → BlobRequestFits request → IsNodeState s → on_blob (server_of s) from request ≡ o → new ≡ (served s o).next → IsNodeState new
sound_after s new from request o law fits h e k = subst IsNodeState (sym (k ∙ ap (λ (x : Served). (served s x).next) (sym e))) (law s from (OfBlob request) fits h)

-- the status that is told is that of the phase after
pub told_reply : (s new : NodeState) (from : ℕ) (request : BlobRequest) (p : Parameters) (told : Told) (reply : BlobReply) → ToldPhaseIsThePhase → on_blob (server_of s) from request ≡ told_by (server_of s) from p told → new ≡ (served s (told_by (server_of s) from p told)).next → reply ≡ transfer_status told.status (blob_phase new) → ((from, reply) ∷ []) ≡ (on_blob (server_of s) from request).replies
told_reply s new from request p told reply law e k r =
    let o : Served = told_by (server_of s) from p told in
    let after : blob_phase (served s (on_blob (server_of s) from request)).next ≡ serving_phase (on_blob (server_of s) from request).session (serving_after (on_blob (server_of s) from request).change (server_of s).serving) = law s from request in
    let here : blob_phase (served s o).next ≡ serving_phase o.session (serving_after o.change (server_of s).serving) = subst (λ (x : Served). blob_phase (served s x).next ≡ serving_phase x.session (serving_after x.change (server_of s).serving)) e after in
    let phase : blob_phase new ≡ serving_phase o.session (serving_after o.change (server_of s).serving) = ap blob_phase k ∙ here in
    let same : reply ≡ transfer_status told.status (serving_phase o.session (serving_after o.change (server_of s).serving)) = r ∙ ap (transfer_status told.status) phase in
    ap (λ x. (from, x) ∷ []) same ∙ ap (λ (x : Served). x.replies) (sym e)

-- a row that was decided and applied is done
pub done_so : (s new : NodeState) (from : ℕ) (request : BlobRequest) (p : Parameters) (told : Told) (reply : BlobReply) (work : FlashWork) → ToldPhaseIsThePhase → on_blob (server_of s) from request ≡ told_by (server_of s) from p told → new ≡ (served s (told_by (server_of s) from p told)).next → work ≡ work_of (change_by p told.change) → (has_record (work_of (change_by p told.change)) && (s.durable.count == last_count)) ≡ false → reply ≡ transfer_status told.status (blob_phase new)
    → (new ≡ (served s (on_blob (server_of s) from request)).next) × (((from, reply) ∷ []) ≡ (on_blob (server_of s) from request).replies) × (work ≡ work_of (on_blob (server_of s) from request).change) × (is_spent s (on_blob (server_of s) from request) ≡ false)
done_so s new from request p told reply work law e k w free r =
    let o : Served = told_by (server_of s) from p told in (
      k ∙ ap (λ (x : Served). (served s x).next) (sym e),
      told_reply s new from request p told reply law e k r,
      w ∙ ap (λ (x : Served). work_of x.change) (sym e),
      subst (λ (x : Served). is_spent s x ≡ false) (sym e) free,
    )
