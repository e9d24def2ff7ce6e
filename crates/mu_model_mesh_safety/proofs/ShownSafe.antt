-- A world whose members have gone through their runs is safe.
use Rattle.std.proofs.Common.{◌≡◌, ℕ, List, ◌++◌, refl, sym, ap, subst, ◌∙◌, Contains}
use Rattle.mu_model_image.specs.Meta.{Image}
use Rattle.mu_model_wire.specs.Packet.{Packet}
use Rattle.mu_model_node.specs.Log.{LogEntry}
use Rattle.mu_model_node.specs.NodeState.{NodeState}
use Rattle.mu_model_node.specs.Safe.{ImagesAreSafe, found}
use Rattle.mu_model_client.specs.Client.{rows}
use Rattle.mu_model_client.specs.declared.Sending.{Sending}
use Rattle.mu_model_client.specs.Rows.{Row}
use Rattle.mu_model_distributor.specs.DistState.{Receiver, DistState, transfer_id}
use Rattle.mu_model_distributor.specs.Runs.{state_after as dist_state_after}
use Rattle.mu_model_offers.specs.Laws.{begin_of, end_of, kept_of}
use Rattle.mu_model_updater.specs.Updater.{Updater, new_updater, updater_after}
use Rattle.mu_model_world.specs.World.{config_of, log_at}
use Rattle.mu_model_mesh.specs.Mesh.{DistributorMember, Mesh}
use Rattle.mu_model_mesh.specs.MeshOutcomes.{updater_transfer}
use Rattle.mu_model_mesh_safety.specs.Safe.{RowIsSafe, RowIsSafeIn, ImagesAreSafeIn, DistributorsAreSafe, UpdatersAreSafe, IsSafe}
use Rattle.mu_model_mesh_safety.specs.Runs.{NodeRun, UpdaterRun, DistributorRun}
use Rattle.mu_model_mesh_safety.proofs.Kept.{Kept}
use Rattle.mu_model_mesh_safety.proofs.Shown.{all_of}
use Rattle.mu_model_mesh_safety.proofs.ShownDistributors.{row_of_node as distributor_row}
use Rattle.mu_model_mesh_safety.proofs.ShownLaws.{MemberLaws}
use Rattle.mu_model_mesh_safety.proofs.ShownNodes.{log_of, state_of}
use Rattle.mu_model_mesh_safety.proofs.ShownUpdaters.{sending_stays, row_of_node as updater_row}

-- ---- from runs to what stands in the world

pub same_end : {bag : List Packet} {x : ℕ} {d : DistributorMember} (r : DistributorRun bag x d) → end_of r.run ≡ d.state
same_end {d = d} r = sym (subst (λ address. d.state ≡ dist_state_after address (begin_of r.run) r.run.happenings) (sym r.own) r.state)

pub same_transfer : {bag : List Packet} {x : ℕ} {d : DistributorMember} (r : DistributorRun bag x d) → transfer_id r.run.address (kept_of r.run) ≡ transfer_id x d.state.durable
same_transfer {x = x} r = ap (λ address. transfer_id address (kept_of r.run)) r.own ∙ ap (λ (s : DistState). transfer_id x s.durable) (same_end r)

row_there : (bag : List Packet) (log at : List LogEntry) (s now : NodeState) (id present index phase : ℕ) → log ≡ at → s ≡ now → id ≡ present → RowIsSafe bag log s id index phase → RowIsSafe bag at now present index phase
row_there bag log at s now id present index phase e f g h =
    subst (λ i. RowIsSafe bag at now i index phase) g (subst (λ (t : NodeState). RowIsSafe bag at t id index phase) f (subst (λ (l : List LogEntry). RowIsSafe bag l s id index phase) e h))

-- ---- the world

module _ (laws : MemberLaws) (m : Mesh) (k : Kept m) where
  images_safe : ImagesAreSafeIn m
  images_safe address n at =
      let known = k.nodes address n at in
      let r : NodeRun m.nodes.bag address n = known.0 in
      let own : ImagesAreSafe r.made.images (log_of r) (state_of r).durable.images =
      subst (λ job. ImagesAreSafe r.made.images (found job ++ log_of r) (state_of r).durable.images) r.jobless (laws.one (config_of address n) r.made r.hs r.sound) in
      let logs : ImagesAreSafe r.made.images (log_at address m.nodes.log) (state_of r).durable.images = subst (λ (l : List LogEntry). ImagesAreSafe r.made.images l (state_of r).durable.images) (sym known.1) own in
      let states : ImagesAreSafe r.made.images (log_at address m.nodes.log) n.state.durable.images = subst (λ (s : NodeState). ImagesAreSafe r.made.images (log_at address m.nodes.log) s.durable.images) (sym r.state) logs in
      subst (λ (first : List Image). ImagesAreSafe first (log_at address m.nodes.log) n.state.durable.images) (sym r.first) states

  distributors_safe : DistributorsAreSafe m
  distributors_safe x d at = all_of (λ (row : Receiver). RowIsSafeIn m (transfer_id x d.state.durable) row.address row.index row.phase) d.state.durable.receivers each
    where
      each : (row : Receiver) → Contains d.state.durable.receivers row → RowIsSafeIn m (transfer_id x d.state.durable) row.address row.index row.phase
      each row has n there =
          let r : DistributorRun m.nodes.bag x d = k.distributors x d at in
          let known = k.nodes row.address n there in
          let stands : Contains (kept_of r.run).receivers row = subst (λ (s : DistState). Contains s.durable.receivers row) (sym (same_end r)) has in
          row_there m.nodes.bag (log_of known.0) (log_at row.address m.nodes.log) (state_of known.0) n.state (transfer_id r.run.address (kept_of r.run)) (transfer_id x d.state.durable) row.index row.phase
          (sym known.1) (sym known.0.state) (same_transfer r) (distributor_row laws m k x d at row.address n there row stands refl)

  updaters_safe : UpdatersAreSafe m
  updaters_safe x v at = all_of (λ (row : Row). RowIsSafeIn m (updater_transfer v) row.address row.index row.phase) (rows v.updater.client) each
    where
      each : (row : Row) → Contains (rows v.updater.client) row → RowIsSafeIn m (updater_transfer v) row.address row.index row.phase
      each row has n there =
          let r : UpdaterRun m.nodes.bag x v = k.updaters x v at in
          let known = k.nodes row.address n there in
          let start : Updater = new_updater r.plan r.image r.to in
          let stands : Contains (rows (updater_after start r.run).client) row = subst (λ (u : Updater). Contains (rows u.client) row) r.state has in
          let transfer : updater_transfer v ≡ r.plan.sending.id = ap (λ (u : Updater). u.client.sending.id) r.state ∙ ap (λ (s : Sending). s.id) (sending_stays laws.stay start r.run) in
          row_there m.nodes.bag (log_of known.0) (log_at row.address m.nodes.log) (state_of known.0) n.state r.plan.sending.id (updater_transfer v) row.index row.phase
          (sym known.1) (sym known.0.state) (sym transfer) (updater_row laws m k x v at row.address n there row stands refl)

  pub safe : IsSafe m
  safe = record { images = images_safe; distributors = distributors_safe; updaters = updaters_safe }
