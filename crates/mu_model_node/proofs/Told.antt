-- The phase that a BLOB reply tells is that of the state after the message.
use Rattle.std.proofs.Common.{◌≡◌, true, false, refl, sym, ap, subst, ◌∙◌, cond, Option, Some, None}
use Rattle.mu_model_node.specs.Slots.{is_full}
use Rattle.mu_model_node.specs.BlobMessages.{Parameters}
use Rattle.mu_model_node.specs.BlobServer.{Transfer, Link, Cut, Ready, Running, Serving, NoJob, Lacking, Whole, serving_by, serving_of, serving_phase, Change, Same, changed, serving_after}
use Rattle.mu_model_node.specs.BlobTable.{Served, on_blob}
use Rattle.mu_model_node.specs.NodeState.{Stored, Filling, Verified, Refused, Applied, Job, NodeState, Verifying, link_phase, filling_phase, stored_phase, job_phase, update_phase, transfer_of, serving_in, server_of}
use Rattle.mu_model_node.specs.NodeOutcome.{job_changed, job_after, served}
use Rattle.mu_model_node.specs.Laws.{ToldPhaseIsThePhase}
use Rattle.mu_model_node.proofs.BlobRows.{MayWrite, IsLacking, blob_so}
use Rattle.mu_model_node.proofs.Moves.{phase_of}
use Rattle.mu_model_node.proofs.NodeSound.{LackingJob, lacking_job}

link_serves : (j : Job) (link : Link) → serving_in (link_phase j link) ≡ Lacking (transfer_of j)
link_serves j Cut = refl
link_serves j Ready = refl
link_serves j Running = refl

-- whatever the link is, the blocks decide
filling_serves : (j : Job) (link : Link) (parameters : Option Parameters) → serving_in (filling_phase j link parameters) ≡ serving_by (transfer_of j) parameters
filling_serves j link None = link_serves j link
filling_serves j link (Some p) = elim (is_full j.held) as (λ b. serving_in (cond b (Verifying j) (link_phase j link)) ≡ cond b (Whole (transfer_of j)) (Lacking (transfer_of j))) [ true ↦ refl | false ↦ link_serves j link ]

same_serves : (j : Job) (link other : Link) (stored : Stored) → serving_in (stored_phase j link stored) ≡ serving_in (stored_phase j other stored)
same_serves j link other Filling = filling_serves j link j.parameters ∙ sym (filling_serves j other j.parameters)
same_serves j link other Verified = refl
same_serves j link other Refused = refl
same_serves j link other Applied = refl

same_is : (v : Serving) → serving_after Same v ≡ v
same_is NoJob = refl
same_is (Lacking t) = refl
same_is (Whole t) = refl

-- a job that is being filled
lacks_of : (j : Job) (link : Link) (stored : Stored) → stored ≡ Filling → serving_in (stored_phase j link stored) ≡ serving_of (transfer_of j)
lacks_of j link Filling e = filling_serves j link j.parameters
lacks_of j link _ e = cc

-- after a change of a job, whatever the link is then
abbrev Told : NodeState → Change → Link → Option Job → Type 0
Told s c link job = serving_in (job_phase link (job_after s c job).durable.job) ≡ serving_after c (serving_in (job_phase s.session.link job))

same_told : (s : NodeState) (link : Link) (job : Option Job) → s.durable.job ≡ job → Told s Same link job
same_told s link None e = rw e refl
same_told s link (Some j) e = rw e (same_serves j link s.session.link j.stored ∙ sym (same_is (serving_in (stored_phase j s.session.link j.stored))))

-- the job's blocks are missing
lacking_serves : (job : Option Job) (link : Link) (t : Transfer) (j : Job) → serving_in (job_phase link job) ≡ Lacking t → t ≡ transfer_of j → serving_in (job_phase link job) ≡ Lacking (transfer_of j)
lacking_serves job link t j e k = e ∙ ap Lacking k

changed_told : (s : NodeState) (c : Change) (link : Link) (j : Job) → (changed c (transfer_of j) ≡ transfer_of (job_changed c j)) → serving_in (job_phase s.session.link s.durable.job) ≡ Lacking (transfer_of j) → j.stored ≡ Filling → serving_after c (Lacking (transfer_of j)) ≡ serving_of (changed c (transfer_of j)) → serving_in (job_phase link (Some (job_changed c j))) ≡ serving_after c (serving_in (job_phase s.session.link s.durable.job))
changed_told s c link j same is filling after =
    lacks_of (job_changed c j) link j.stored filling ∙ sym (ap (serving_after c) is ∙ after ∙ ap serving_of same)

is_lacking : (v : Serving) → IsLacking v → (t : Transfer) × (v ≡ Lacking t)
is_lacking (Lacking t) h = (t, refl)
is_lacking NoJob h = absurd h
is_lacking (Whole t) h = absurd h

tells : (s : NodeState) (c : Change) (link : Link) → MayWrite (server_of s).serving c → serving_in (job_phase link (job_after s c s.durable.job).durable.job) ≡ serving_after c (server_of s).serving
tells s Same link h = same_told s link s.durable.job refl
tells s c link h =
    let l = is_lacking (server_of s).serving h in
    let j : LackingJob s.durable.job l.0 = lacking_job s.durable.job (update_phase s) l.0 (phase_of s.session.link s.durable.job) l.1 in
    subst (λ job. serving_in (job_phase link (job_after s c job).durable.job) ≡ serving_after c (server_of s).serving) (sym j.is)
    (changed_told s c link j.of refl (lacking_serves s.durable.job s.session.link l.0 j.of l.1 j.transfer) j.filling refl)

is_told : (s : NodeState) (o : Served) → MayWrite (server_of s).serving o.change → serving_in (update_phase (served s o).next) ≡ serving_after o.change (server_of s).serving
is_told s o h = tells s o.change o.session.link h

pub told_is_the_phase : ToldPhaseIsThePhase
told_is_the_phase s from request = ap (serving_phase (on_blob (server_of s) from request).session) (is_told s (on_blob (server_of s) from request) (blob_so (server_of s) from request).writes)
