-- Update Starts in the bag with one BLOB ID of a member are of one offer.
use Rattle.std.proofs.Common.{◌≡◌, ℕ, ◌≤◌, ◌*◌, ◌^◌, true, List, [], ◌∷◌, refl, sym, ap, subst, ◌∙◌, arith, inl, inr, Option, Some, None, Contains}
use Rattle.std.specs.List.{AllByRecursion}
use Rattle.mu_model_wire.specs.Packet.{Packet}
use Rattle.mu_model_node.specs.FlashWork.{passed_by}
use Rattle.mu_model_node.specs.UpdateMessages.{UpdateStart}
use Rattle.mu_model_node.specs.declared.FlashWork.{FlashWork}
use Rattle.mu_model_node.specs.declared.FlashWork.TheVariants.{Untouched, Recorded, Begun, PutBlock}
use Rattle.mu_model_distributor.specs.DistEvents.{dist_step}
use Rattle.mu_model_distributor.specs.DistMessages.{Sent}
use Rattle.mu_model_distributor.specs.DistState.{DistDurable, DistState, transfer_id}
use Rattle.mu_model_distributor_laws.specs.Planned.{CountersRise}
use Rattle.mu_model_distributor_laws.specs.RunLaws.{IsBehind, StartIsBehind, NoNumberIsLost}
use Rattle.mu_model_offers.specs.Laws.{HasStart, sent_of, end_of}
use Rattle.mu_model_updater.specs.Laws.{IsOffered}
use Rattle.mu_model_world.specs.Judged.{owner_of}
use Rattle.mu_model_mesh.specs.Mesh.{UpdaterMember, DistributorMember, Mesh, is_member, node_at, updater_at, distributor_at}
use Rattle.mu_model_world.specs.World.{Member}
use Rattle.mu_model_mesh_safety.specs.Facts.{IsStart, StartsAreOwn, StartsAreOfOneOffer, CountersAreAhead}
use Rattle.mu_model_mesh_safety.specs.Runs.{UpdaterRun, DistributorRun}
use Rattle.mu_model_mesh_safety.proofs.Kept.{Kept}
use Rattle.mu_model_mesh_safety.proofs.Shown.{all_of, Starts}
use Rattle.mu_model_mesh_safety.proofs.ShownLaws.{MemberLaws}
use Rattle.mu_model_mesh_safety.proofs.ShownSafe.{same_end}
use Rattle.mu_model_mesh_safety.proofs.ShownStarts.{answer_of, sender, updater_start, distributor_start}
use Rattle.mu_model_mesh_safety.proofs.ShownUpdaters.{first_index}

-- Update Starts with one BLOB ID of a member offer one image, and to each destination one index
abbrev StartsAgreeIn : Mesh → Type 0
StartsAgreeIn m =
    (p q : Packet) (u v : UpdateStart) → Contains m.nodes.bag p → Contains m.nodes.bag q → Starts p u → Starts q v → u.id ≡ v.id → is_member m (owner_of u.id) ≡ true
    → (u.metadata ≡ v.metadata) × (p.to ≡ q.to → u.index ≡ v.index)

-- ---- numbers

-- what is sent is behind the counter
start_behind : (address number : ℕ) (sends : List (ℕ × Sent)) (to : ℕ) (u : UpdateStart) → AllByRecursion (StartIsBehind address number) sends → HasStart sends to u → IsBehind address number u.id
start_behind address number [] to u all h = absurd h
start_behind address number ((at, sent) ∷ sends) to u all (inl h) = subst (λ (s : Sent). StartIsBehind address number (at, s)) h.1 all.0
start_behind address number ((at, sent) ∷ sends) to u all (inr h) = start_behind address number sends to u all.1 h

passed_all : (P : DistDurable → Type 0) (old new : DistDurable) (work : FlashWork) → P old → P new → AllByRecursion P (passed_by old new work)
passed_all P old new Untouched h k = (h, tt)
passed_all P old new (Recorded long) h k = (h, (k, tt))
passed_all P old new (Begun long) h k = (h, (k, tt))
passed_all P old new (PutBlock pages) h k = (h, (k, tt))

module _ (laws : MemberLaws) (m : Mesh) (k : Kept m) where
  pub starts_agree : StartsAgreeIn m
  starts_agree p q u v hp hq sp sq same member = by_node (node_at m (owner_of u.id)) refl
    where
      owner : owner_of v.id ≡ owner_of u.id
      owner = ap owner_of (sym same)

      by_distributor : node_at m (owner_of u.id) ≡ None → updater_at m (owner_of u.id) ≡ None → (d : Option DistributorMember) → distributor_at m (owner_of u.id) ≡ d → (u.metadata ≡ v.metadata) × (p.to ≡ q.to → u.index ≡ v.index)
      by_distributor e f (Some d) at =
          let r : DistributorRun m.nodes.bag (owner_of u.id) d = k.distributors (owner_of u.id) d at in
          let hu : HasStart (sent_of r.run) p.to u = distributor_start laws.fit laws.read laws.say laws.own m k (owner_of u.id) d at p u hp sp refl in
          let hv : HasStart (sent_of r.run) q.to v = distributor_start laws.fit laws.read laws.say laws.own m k (owner_of u.id) d at q v hq sq owner in
          laws.starts r.run p.to q.to u v r.is hu hv same
      by_distributor e f None at = absurd (k.apart.some (owner_of u.id) member e f at)

      by_updater : node_at m (owner_of u.id) ≡ None → (w : Option UpdaterMember) → updater_at m (owner_of u.id) ≡ w → (u.metadata ≡ v.metadata) × (p.to ≡ q.to → u.index ≡ v.index)
      by_updater e (Some w) at =
          let r : UpdaterRun m.nodes.bag (owner_of u.id) w = k.updaters (owner_of u.id) w at in
          let hu : IsOffered r.plan r.to p.to u = updater_start laws.fit laws.read laws.say laws.own m k (owner_of u.id) w at p u hp sp refl in
          let hv : IsOffered r.plan r.to q.to v = updater_start laws.fit laws.read laws.say laws.own m k (owner_of u.id) w at q v hq sq owner in
          (hu.metadata ∙ sym hv.metadata, λ to. first_index r.to p.to u.index r.first hu.receiver ∙ sym (first_index r.to q.to v.index r.first hv.receiver))
      by_updater e None at = by_distributor e at (distributor_at m (owner_of u.id)) refl

      by_node : (n : Option Member) → node_at m (owner_of u.id) ≡ n → (u.metadata ≡ v.metadata) × (p.to ≡ q.to → u.index ≡ v.index)
      by_node (Some n) at =
          absurd ((answer_of laws.fit laws.read laws.say laws.own m.nodes.bag (owner_of u.id) n (k.nodes (owner_of u.id) n at).0 p hp (sender laws.fit laws.read laws.say laws.own m k p u hp sp member)).offers_nothing.no_start u sp)
      by_node None at = by_updater at (updater_at m (owner_of u.id)) refl

  -- ---- the facts

  pub starts_are_own : StartsAreOwn m
  starts_are_own = all_of _ m.nodes.bag (λ p has u s. sender laws.fit laws.read laws.say laws.own m k p u has s.asks s.owned)

  pub starts_are_of_one_offer : StartsAreOfOneOffer m
  starts_are_of_one_offer = all_of _ m.nodes.bag (λ p has. all_of _ m.nodes.bag (λ q there u v s t same. starts_agree p q u v has there s.asks t.asks same s.owned))

  counted : NoNumberIsLost → (address : ℕ) (d : DistributorMember) (at : distributor_at m address ≡ Some d) (p : Packet) (u : UpdateStart) → Contains m.nodes.bag p → IsStart m p u → owner_of u.id ≡ address → u.id ≤ transfer_id address d.state.durable
  counted lost address d at p u has s own =
      let r : DistributorRun m.nodes.bag address d = k.distributors address d at in
      let start : HasStart (sent_of r.run) p.to u = distributor_start laws.fit laws.read laws.say laws.own m k address d at p u has s.asks own in
      let all = lost r.run.address r.run.durable r.run.fresh r.run.happenings r.is.durable r.is.fresh r.is.happenings in
      let behind : IsBehind r.run.address (end_of r.run).durable.counter u.id = start_behind r.run.address _ (sent_of r.run) p.to u all start in
      let id = behind.is in
      let below = behind.below in
      let counter : (end_of r.run).durable.counter ≡ d.state.durable.counter = ap (λ (t : DistState). t.durable.counter) (same_end r) in
      let is : r.run.address * 2 ^ 48 ≡ address * 2 ^ 48 = ap (λ (a : ℕ). a * 2 ^ 48) r.own in
      omega (arith, id, below, counter, is)

  pub counters_are_ahead : NoNumberIsLost → CountersRise → CountersAreAhead m
  counters_are_ahead lost rise address d at event now =
      all_of _ m.nodes.bag (λ p has u s own.
      let old : u.id ≤ transfer_id address d.state.durable = counted lost address d at p u has s own in
      let more = rise address d.state event now in
      passed_all (λ (left : DistDurable). u.id ≤ transfer_id address left) d.state.durable (dist_step address d.state event now).next.durable (dist_step address d.state event now).work
      old (omega (arith, old, more)))
