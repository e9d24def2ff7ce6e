-- Over whole runs each Update Start under a member's BLOB ID offers an image that this member has or had.
use Rattle.std.proofs.Common.{◌≡◌, ℕ, zero, Bool, true, false, List, [], ◌∷◌, ◌++◌, refl, sym, subst, ◌∙◌, cond, arith, Option, Some, None, Result, Ok, Err, Contains, inl, inr, slice_get}
use Rattle.std.specs.Prelude.{◌||◌}
use Rattle.std.specs.List.{AllByRecursion}
use Rattle.std.proofs.lemmas.List.Elements.{Contains-append_left, Contains-append_right}
use Rattle.mu_model_image.specs.Laws.{ImagesFit}
use Rattle.mu_model_image.specs.Meta.{Image}
use Rattle.mu_model_wire.specs.Packet.{Packet}
use Rattle.mu_model_node.specs.NodeMessages.{Request, OfUpdate, request_at}
use Rattle.mu_model_node.specs.UpdateMessages.{UpdateStart, StartUpdate}
use Rattle.mu_model_script.specs.Event.{Event, Node, Old, Pair, Updater as UpdaterLine, Distributor, Stock, Say, Deliver, Time, Cut, Tear as TearLine, Active, Phase, Settle, Rows, Packet as PacketLine}
use Rattle.mu_model_script.specs.Lines.{script_event}
use Rattle.mu_model_script.specs.Tokens.{Content}
use Rattle.mu_model_script.specs.declared.LineFault.{LineFault}
use Rattle.mu_model_script.specs.declared.BadWhy.TheVariants.{Premise}
use Rattle.mu_model_world.specs.Judged.{Objection, against, or_else, owner_of, offered, judged_event}
use Rattle.mu_model_world.specs.Outcomes.{content_octets}
use Rattle.mu_model_mesh.specs.Mesh.{DistributorMember, Mesh, new_mesh, is_member, node_at, updater_at, distributor_at}
use Rattle.mu_model_mesh.specs.MeshJudged.{against_new, against_stock, against_member, against_id, mesh_objection, mesh_judged_by}
use Rattle.mu_model_mesh.specs.MeshOutcomes.{MeshOutcome, stocked_by, mesh_begun, mesh_outcomes}
use Rattle.mu_model_mesh.specs.MeshRun.{MeshMoves, IsDone, MeshRun}
use Rattle.mu_model_mesh_runs.specs.Goes.{Within}
use Rattle.mu_model_mesh_safety.specs.Laws.{EveryWorldIsOfRuns}
use Rattle.mu_model_mesh_safety.specs.Runs.{IsOfRuns}
use Rattle.mu_model_mesh_images.specs.Laws.{HasImage, of_updater, of_distributor, OffersAreOfImages}
use Rattle.mu_model_mesh_images.specs.Worlds.{worlds_by_done, worlds_by_move, worlds_in_line, worlds_in_run}
use Rattle.mu_model_mesh_images.proofs.Lists.{AllOf, of_all, more_all}
use Rattle.mu_model_mesh_images.proofs.Events.{EventLaws, HasPlan, AllAdd, packets_add, times_add, cuts_add, tears_add, active_adds, phase_adds, rows_add, shown_adds}
use Rattle.mu_model_mesh_images.proofs.Settling.{IsOffer, Late, adds_late, AreIn, tail_in, settle_late}

-- what holds after each line
pub record Kept (worlds : List Mesh) (m : Mesh) : Type 0 where
  pub bag : AllByRecursion (IsOffer worlds m) m.nodes.bag
  -- among the member lines nothing was sent
  pub early : m.nodes.begun ≡ false → m.nodes.bag ≡ []
  pub plans : AllOf HasPlan m.updaters

begun_runs : (m : Mesh) → IsOfRuns m → IsOfRuns (mesh_begun m)
begun_runs m r = record {
  nodes = r.nodes;
  updaters = r.updaters;
  distributors = r.distributors;
  packets = r.packets;
  apart = record { nodes = r.apart.nodes; updaters = r.apart.updaters; distributors = r.apart.distributors; unicast = r.apart.unicast; some = r.apart.some; once = r.apart.once };
}

late : (worlds : List Mesh) (m : Mesh) → Kept worlds m → Late worlds (mesh_begun m)
late worlds m k = record { bag = k.bag; begun = refl; plans = k.plans }

kept : (worlds : List Mesh) (m : Mesh) → Late worlds m → Kept worlds m
kept worlds m l = record { bag = l.bag; early = λ e. (let never : true ≡ false = sym l.begun ∙ e in cc); plans = l.plans }

-- ---- member lines

-- a member line comes before all others
or_none : (a b : Option Objection) → or_else a b ≡ None → a ≡ None
or_none (Some o) b e = cc
or_none None b e = refl

or_second : (a b : Option Objection) → or_else a b ≡ None → b ≡ None
or_second (Some o) b e = cc
or_second None b e = e

left_false : (a b : Bool) (x y : Option Objection) (o : Objection) → x ≡ Some o → cond (a || b) x y ≡ None → a ≡ false
left_false true b x y o e h = cc
left_false false b x y o e h = refl

new_early : (m : Mesh) (address : ℕ) → against_new m address ≡ None → m.nodes.begun ≡ false
new_early m address e = left_false m.nodes.begun _ _ _ _ refl e

stock_early_by : (b : Bool) (x y : Option Objection) (o : Objection) → x ≡ Some o → cond b x y ≡ None → b ≡ false
stock_early_by true x y o e h = cc
stock_early_by false x y o e h = refl

stock_early : (m : Mesh) (content : Content) (d : Option DistributorMember) → against_stock m content d ≡ None → m.nodes.begun ≡ false
stock_early m content d e = stock_early_by m.nodes.begun _ _ _ refl e

module _ (worlds : List Mesh) where
  -- nothing was sent yet
  silent : (m next : Mesh) → Kept worlds m → m.nodes.begun ≡ false → next.nodes.bag ≡ m.nodes.bag → AllOf HasPlan next.updaters → Kept worlds next
  silent m next k early same plans =
      let none : next.nodes.bag ≡ [] = same ∙ k.early early in
      record { bag = subst (λ (ps : List Packet). AllByRecursion (IsOffer worlds next) ps) (sym none) tt; early = λ e. none; plans = plans }

  abbrev AllKept : List MeshOutcome → Type 0
  AllKept outs = AllByRecursion (λ (o : MeshOutcome). Kept worlds o.mesh) outs

  -- ---- other lines

  -- the line is of this world
  at_home : (m : Mesh) (a : ℕ) (image : Image) → HasImage (mesh_begun m) a image → HasImage m a image
  at_home m a image (of_updater u at is) = of_updater u at is
  at_home m a image (of_distributor d stored at has is) = of_distributor d stored at has is

  adds_kept : (m : Mesh) (outs : List MeshOutcome) → Contains worlds m → Kept worlds m → AllAdd (mesh_begun m) outs → AllKept outs
  adds_kept m [] in_run k h = tt
  adds_kept m (o ∷ outs) in_run k h = (kept worlds o.mesh (adds_late worlds m (mesh_begun m) o.mesh in_run (at_home m) (late worlds m k) h.0), adds_kept m outs in_run k h.1)

  -- a stranger offers nothing under a member's BLOB ID
  no_premise : (there : Bool) → there ≡ true → cond there (against 3 Premise) None ≡ None → ⊥
  no_premise true e h = cc
  no_premise false e h = cc

  stranger : (m : Mesh) (payload : List ℕ) (u : UpdateStart) → against_id m (offered (request_at payload)) ≡ None → request_at payload ≡ Some (OfUpdate (StartUpdate u)) → is_member m (owner_of u.id) ≡ true → ⊥
  stranger m payload u free e member =
      let own : against_id m (Some u.id) ≡ None = subst (λ (r : Option Request). against_id m (offered r) ≡ None) e free in
      no_premise (is_member m (owner_of u.id)) member own

  said : (m : Mesh) (from to : ℕ) (payload : List ℕ) → Contains worlds m → Kept worlds m → mesh_objection m (Say from to payload) ≡ None → AllKept (mesh_outcomes m (Say from to payload))
  said m from to payload in_run k free =
      let own = or_second (against_member m 1 from) (against_id m (offered (request_at payload))) free in
      adds_kept m (mesh_outcomes m (Say from to payload)) in_run k (
        record {
          order = refl;
          begun = refl;
          more = record { from = from; to = to; payload = payload } ∷ [];
          bag = refl;
          offers = ((λ u e member. absurd (stranger m payload u own e member)), tt);
          updaters = k.plans;
        },
        tt,
      )

  stocked : (m : Mesh) (address version : ℕ) (content : Content) (d : Option DistributorMember) → Kept worlds m → m.nodes.begun ≡ false → AllKept (stocked_by m address version content d)
  stocked m address version content (Some d) k early = (silent m _ k early refl k.plans, tt)
  stocked m address version content None k early = tt

  module _ (laws : EventLaws) (fit : ImagesFit) where
    -- ---- lines

    lines_kept : (m : Mesh) (event : Event) → Contains worlds m → Kept worlds m → IsOfRuns m → mesh_objection m event ≡ None → AllKept (mesh_outcomes m event)
    lines_kept m (Node address group pages version content) in_run k r free = (silent m _ k (new_early m address (or_none _ _ free)) refl k.plans, tt)
    lines_kept m (Old address group pages version content) in_run k r free = (silent m _ k (new_early m address (or_none _ _ free)) refl k.plans, tt)
    lines_kept m (Pair address group pages version content second_version second) in_run k r free = (silent m _ k (new_early m address (or_none _ _ free)) refl k.plans, tt)
    lines_kept m (UpdaterLine address group id ttl base way log chunk version content to) in_run k r free = (
      silent m _ k (new_early m address free) refl
          (more_all HasPlan m.updaters address _ k.plans (record { apply = true; purpose = refl; fits = fit version (content_octets content) })),
      tt,
    )
    lines_kept m (Distributor address pages) in_run k r free = (silent m _ k (new_early m address free) refl k.plans, tt)
    lines_kept m (Stock address version content) in_run k r free = stocked m address version content (distributor_at m address) k (stock_early m content (distributor_at m address) free)
    lines_kept m (Say from to payload) in_run k r free = said m from to payload in_run k free
    lines_kept m (Deliver number address) in_run k r free = adds_kept m _ in_run k (packets_add laws (mesh_begun m) (begun_runs m r) refl k.plans number address)
    lines_kept m (Time address ms) in_run k r free = adds_kept m _ in_run k (times_add laws (mesh_begun m) (begun_runs m r) refl k.plans address ms)
    lines_kept m (Cut address) in_run k r free = adds_kept m _ in_run k (cuts_add laws (mesh_begun m) (begun_runs m r) refl k.plans address (node_at m address) (distributor_at m address))
    lines_kept m (TearLine address operation pattern) in_run k r free =
        adds_kept m _ in_run k (tears_add laws (mesh_begun m) (begun_runs m r) refl k.plans address (record { operation = operation; pattern = pattern }) (node_at m address) (distributor_at m address))
    lines_kept m (Active address) in_run k r free = adds_kept m _ in_run k (active_adds laws (mesh_begun m) (begun_runs m r) refl k.plans address (node_at m address))
    lines_kept m (Phase address) in_run k r free = adds_kept m _ in_run k (phase_adds laws (mesh_begun m) (begun_runs m r) refl k.plans address (node_at m address) (updater_at m address) (distributor_at m address))
    lines_kept m (Settle turns) in_run k r free = tt
    lines_kept m (Rows address) in_run k r free = adds_kept m _ in_run k (rows_add laws (mesh_begun m) (begun_runs m r) refl k.plans (updater_at m address) (distributor_at m address))
    lines_kept m (PacketLine number) in_run k r free = adds_kept m _ in_run k (shown_adds laws (mesh_begun m) (begun_runs m r) refl k.plans number (slice_get m.nodes.bag number))

    move_kept : (m : Mesh) (event : Event) (text : List ℕ) (next : Mesh) → Contains worlds m → Kept worlds m → ((x : Mesh) → Within m x → IsOfRuns x) → mesh_objection m event ≡ None
        → (way : MeshMoves m event text next) → AreIn worlds (worlds_by_move m event text next way) → Kept worlds next
    move_kept m (Settle turns) text next in_run k within free way are =
        kept worlds next
        (settle_late laws worlds turns (mesh_begun m) text next (late worlds m k) (λ coming x n. within x (inr (record { turns = turns; coming = coming; through = n }))) way are)
    move_kept m event text next in_run k within free way are =
        of_all (λ (o : MeshOutcome). Kept worlds o.mesh) (mesh_outcomes m event) (record { mesh = next; text = text }) (lines_kept m event in_run k (within m (inl refl)) free) way

    event_kept : (m : Mesh) (line : List ℕ) (event : Event) (against : Option Objection) (text : List ℕ) (next : Mesh) → mesh_objection m event ≡ against → Contains worlds m → Kept worlds m → ((x : Mesh) → Within m x → IsOfRuns x)
        → (done : IsDone m (judged_event line event against) text next) → AreIn worlds (worlds_by_done m (judged_event line event against) text next done) → Kept worlds next
    event_kept m line event None text next free in_run k within done are = move_kept m event text next in_run k within free done.1 are
    event_kept m line event (Some o) text next free in_run k within done are = absurd done

    read_kept : (m : Mesh) (line : List ℕ) (read : Result (Option Event) LineFault) (text : List ℕ) (next : Mesh) → Contains worlds m → Kept worlds m → ((x : Mesh) → Within m x → IsOfRuns x)
        → (done : IsDone m (mesh_judged_by m line read) text next) → AreIn worlds (worlds_by_done m (mesh_judged_by m line read) text next done) → Kept worlds next
    read_kept m line (Ok None) text next in_run k within done are = subst (Kept worlds) (sym done.1) k
    read_kept m line (Ok (Some event)) text next in_run k within done are = event_kept m line event (mesh_objection m event) text next refl in_run k within done are
    read_kept m line (Err fault) text next in_run k within done are = absurd done

    -- ---- runs

    run_kept : (lines : List (List ℕ)) (m : Mesh) (text : List ℕ) (end : Mesh) → Kept worlds m → ((ls : List (List ℕ)) (t : List ℕ) (x y : Mesh) → MeshRun m ls t x → Within x y → IsOfRuns y)
        → (run : MeshRun m lines text end) → AreIn worlds (worlds_in_run m lines text end run) → Kept worlds end
    run_kept [] m text end k within run are = subst (Kept worlds) (sym run.1) k
    run_kept (line ∷ lines) m text end k within run are =
        let own : List Mesh = worlds_in_line run.3 in
        let more : List Mesh = worlds_in_run run.0 lines run.2 end run.4 in
        let next = read_kept m line (script_event line) run.1 run.0 (are m (zero, omega arith, refl)) k (λ x w. within [] [] m x (refl, refl) w) run.3.done
        (λ x h. are x (tail_in m x (own ++ more) (Contains-append_left own more x h))) in
        run_kept lines run.0 run.2 end next (λ ls t x y r w. within (line ∷ ls) (run.1 ++ t) x y (run.0, run.1, t, run.3, r, refl) w) run.4
        (λ x h. are x (tail_in m x (own ++ more) (Contains-append_right own more x h)))

new_kept : (worlds : List Mesh) → Kept worlds new_mesh
new_kept worlds = record { bag = tt; early = λ e. refl; plans = tt }

pub offers_are_of_images : EventLaws → ImagesFit → EveryWorldIsOfRuns → OffersAreOfImages
offers_are_of_images laws fit every lines text m run p u has start =
    let worlds : List Mesh = worlds_in_run new_mesh lines text m run in
    let k : Kept worlds m = run_kept worlds laws fit lines new_mesh text m (new_kept worlds) every run (λ x h. h) in
    of_all (IsOffer worlds m) m.nodes.bag p k.bag has u start.asks start.owned
