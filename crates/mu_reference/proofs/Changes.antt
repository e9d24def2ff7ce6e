-- Changes of what is kept and of the session don't meet.
use Rattle.std.proofs.Common.{◌≡◌, ◌≤◌, ◌*◌, refl, arith, Option, Some, None}
use Rattle.mu_model_node.specs.BlobServer.{Session, Change, Same, Begins, Drops, Puts}
use Rattle.mu_model_node.specs.NodeState.{Job, NodeState}
use Rattle.mu_model_node.specs.NodeOutcome.{with_session, job_after}
use Rattle.mu_model_node.specs.Sound.{IsNodeState}

pub same_after : (s : NodeState) (job : Option Job) → job_after s Same job ≡ s
same_after s None = refl
same_after s (Some j) = refl

pub session_after : (s : NodeState) (l : Session) (c : Change) (job : Option Job) → job_after (with_session s l) c job ≡ with_session (job_after s c job) l
session_after s l c None = refl
session_after s l Same (Some j) = refl
session_after s l (Begins p) (Some j) = refl
session_after s l Drops (Some j) = refl
session_after s l (Puts block octets) (Some j) = refl

pub small_capacity : (s : NodeState) → IsNodeState s → s.durable.capacity ≤ 1048576
small_capacity s h =
    let pages = h.durable.capacity in
    let most : pages.0 ≤ 256 = pages.2 in
    let capacity : s.durable.capacity ≡ 4096 * pages.0 = pages.3 in
    omega arith

-- what a change of what is kept leaves of the rest
pub session_kept : (s : NodeState) (c : Change) (job : Option Job) → (job_after s c job).session ≡ s.session
session_kept s c None = refl
session_kept s Same (Some j) = refl
session_kept s (Begins p) (Some j) = refl
session_kept s Drops (Some j) = refl
session_kept s (Puts block octets) (Some j) = refl
