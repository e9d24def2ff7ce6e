-- What every deed keeps is kept by every line, by every run, and within every line.
use Rattle.std.proofs.Common.{◌≡◌, ℕ, List, [], ◌∷◌, Option, Some, None, Result, Ok, Err, Bool, true, false, zero, suc, refl, sym, subst, inl, inr, Contains}
use Rattle.mu_model_image.specs.Laws.{ImagesFit, ImagesHaveMetadata, MadeImageHasItsSize}
use Rattle.mu_model_script.specs.Event.{Event, Settle}
use Rattle.mu_model_script.specs.Laws.{ScriptEventIsInRange}
use Rattle.mu_model_script.specs.Lines.{script_event}
use Rattle.mu_model_script.specs.Ranges.{IsInRange}
use Rattle.mu_model_script.specs.declared.LineFault.{LineFault}
use Rattle.mu_model_updater.specs.Laws.{LinesAreInRange}
use Rattle.mu_model_world.specs.Judged.{Objection, judged_event}
use Rattle.mu_model_mesh.specs.Mesh.{Mesh, new_mesh}
use Rattle.mu_model_mesh.specs.MeshOutcomes.{MeshOutcome, mesh_begun, mesh_outcomes}
use Rattle.mu_model_mesh.specs.MeshJudged.{mesh_objection, mesh_judged_by, mesh_judged}
use Rattle.mu_model_mesh.specs.MeshRun.{MeshMoves, IsDone, MeshRun}
use Rattle.mu_model_mesh.specs.Settle.{turn_comes, EachComes, given_to, AllComes, none_left, comes, Turns, Settles}
use Rattle.mu_model_mesh_runs.specs.Goes.{Coming, NextOfEach, first as next_of, later as later_of, NextOfAll, this, after, NextOfTurn, in_time, in_packets, GoesThrough, in_turn, in_later, Within}
use Rattle.mu_model_mesh_safety.specs.Laws.{Always}
use Rattle.mu_model_mesh_safety.proofs.Deeds.{Deed, still, says, node_goes, updater_goes, distributor_goes, adds_node, adds_updater, adds_distributor, stocks}
use Rattle.mu_model_mesh_safety.proofs.DoingPlaces.{of_all}
use Rattle.mu_model_mesh_safety.proofs.DoingEvents.{AreDeeds, begins, counts, deeds_of_time, deeds_of_packet}
use Rattle.mu_model_mesh_safety.proofs.DoingLines.{LineDeed, by_member, by_other, deeds_of_line}

-- a world that has begun stays so
still_begun : (old new : Bool) → (new ≡ false → old ≡ false) → old ≡ true → new ≡ true
still_begun old true early late = refl
still_begun old false early late =
    let none : old ≡ false = early refl in
    absurd cc

pub stays_begun : (m next : Mesh) → Deed m next → m.nodes.begun ≡ true → next.nodes.begun ≡ true
stays_begun m next (still d) late = still_begun m.nodes.begun next.nodes.begun d.begun late
stays_begun m next (says d) late = d.on.begun
stays_begun m next (node_goes d) late = d.on.begun
stays_begun m next (updater_goes d) late = d.on.begun
stays_begun m next (distributor_goes d) late = d.on.begun
stays_begun m next (adds_node d) late =
    let early : m.nodes.begun ≡ false = d.more.early in
    absurd cc
stays_begun m next (adds_updater d) late =
    let early : m.nodes.begun ≡ false = d.more.early in
    absurd cc
stays_begun m next (adds_distributor d) late =
    let early : m.nodes.begun ≡ false = d.more.early in
    absurd cc
stays_begun m next (stocks d) late =
    let early : m.nodes.begun ≡ false = d.early in
    absurd cc

-- `P` is kept by every deed
module _ (P : Mesh → Type 0) (keep : (m next : Mesh) → P m → Deed m next → P next) where
  -- after the member lines
  record Late (m : Mesh) : Type 0 where
    pub holds : P m
    pub begun : m.nodes.begun ≡ true

  later : (m next : Mesh) → Late m → Deed m next → Late next
  later m next l deed = record { holds = keep m next l.holds deed; begun = stays_begun m next deed l.begun }

  late : (m : Mesh) → P m → Late (mesh_begun m)
  late m p = record { holds = keep m (mesh_begun m) p (begins m); begun = refl }

  came : (m : Mesh) (outs : List MeshOutcome) (next : Mesh) (text : List ℕ) → AreDeeds m outs → Late m → Contains outs (record { mesh = next; text = text }) → Late next
  came m outs next text deeds l within = later m next l (of_all (λ (o : MeshOutcome). Deed m o.mesh) outs (record { mesh = next; text = text }) deeds within)

  -- ---- turns

  late_each : (outs : Mesh → ℕ → List MeshOutcome) → ((m : Mesh) (address : ℕ) → m.nodes.begun ≡ true → AreDeeds m (outs m address)) → (addresses : List ℕ) (m : Mesh) (text : List ℕ) (next : Mesh)
      → Late m → EachComes outs addresses m text next → Late next
  late_each outs deeds [] m text next l each = subst Late (sym each.1) l
  late_each outs deeds (address ∷ addresses) m text next l each =
      late_each outs deeds addresses each.0 each.2 next (came m (outs m address) each.0 each.1 (deeds m address l.begun) l each.3) each.4

  late_all : {number : ℕ} {m : Mesh} {text : List ℕ} {next : Mesh} → Late m → AllComes number m text next → Late next
  late_all l (none_left past) = l
  late_all {number} {m} l (comes {mid = mid} first rest packet is each more) =
      late_all (late_each (given_to number) (λ m address begun. deeds_of_packet m begun number address) _ m first mid l each) more

  late_turn : (m : Mesh) (text : List ℕ) (next : Mesh) → Late m → Turns m text next → Late next
  late_turn m text next l t =
      let mid = late_each turn_comes (λ m address begun. deeds_of_time m begun address _) m.order m t.first t.mid l t.time in
      let last = late_all mid t.packets in
      subst Late (sym t.counted) (later t.last _ last (counts t.last _))

  late_settle : (turns : ℕ) (m : Mesh) (text : List ℕ) (next : Mesh) → Late m → Settles turns m text next → Late next
  late_settle zero m text next l s = subst Late (sym s.1) l
  late_settle (suc turns) m text next l s = late_settle turns s.0 s.2 next (late_turn m s.1 s.0 l s.3) s.4

  pub settle_keeps : (turns : ℕ) (m : Mesh) (text : List ℕ) (next : Mesh) → P m → m.nodes.begun ≡ true → Settles turns m text next → P next
  settle_keeps turns m text next p begun s = (late_settle turns m text next (record { holds = p; begun = begun }) s).holds

  -- ---- within a line

  late_next : (outs : Mesh → ℕ → List MeshOutcome) → ((m : Mesh) (address : ℕ) → m.nodes.begun ≡ true → AreDeeds m (outs m address)) → {addresses : List ℕ} {m x : Mesh} {address : ℕ}
      → Late m → NextOfEach outs addresses m address x → Late x
  late_next outs deeds l next_of = l
  late_next outs deeds {m = m} l (later_of {own = own} {mid = mid} text is more) = late_next outs deeds (came m (outs m own) mid text (deeds m own l.begun) l is) more

  late_next_of_all : {number : ℕ} {m x : Mesh} {k address : ℕ} → Late m → NextOfAll number m k address x → Late x
  late_next_of_all {number} l (this packet is next) = late_next (given_to number) (λ m address begun. deeds_of_packet m begun number address) l next
  late_next_of_all {number} {m} l (after {mid = mid} text packet is each more) =
      late_next_of_all (late_each (given_to number) (λ m address begun. deeds_of_packet m begun number address) _ m text mid l each) more

  late_next_of_turn : (m x : Mesh) (coming : Coming) → Late m → NextOfTurn m coming x → Late x
  late_next_of_turn m x coming l (in_time next) = late_next turn_comes (λ m address begun. deeds_of_time m begun address _) l next
  late_next_of_turn m x coming l (in_packets {mid = mid} text each next) = late_next_of_all (late_each turn_comes (λ m address begun. deeds_of_time m begun address _) m.order m text mid l each) next

  late_goes : {turns : ℕ} {m x : Mesh} {coming : Coming} → Late m → GoesThrough turns m coming x → Late x
  late_goes {m = m} {x = x} {coming = coming} l (in_turn next) = late_next_of_turn m x coming l next
  late_goes {m = m} l (in_later {mid = mid} text turn more) = late_goes (late_turn m text mid l turn) more

  pub within_keeps : (m mid : Mesh) → P m → Within m mid → P mid
  within_keeps m mid p (inl is) = subst P (sym is) p
  within_keeps m mid p (inr r) = (late_goes (late m p) r.through).holds

  -- ---- lines

  line_deed_keeps : (m next : Mesh) → P m → LineDeed m next → P next
  line_deed_keeps m next p (by_member deed) = keep m next p deed
  line_deed_keeps m next p (by_other deed) = keep (mesh_begun m) next (late m p).holds deed

  module _ (fit : ImagesFit) (metadata : ImagesHaveMetadata) (made : MadeImageHasItsSize) (updaters : LinesAreInRange) (in_range : ScriptEventIsInRange) where
    move_keeps : (m : Mesh) (event : Event) (text : List ℕ) (next : Mesh) → P m → IsInRange event → mesh_objection m event ≡ None → MeshMoves m event text next → P next
    move_keeps m (Settle turns) text next p range free moves = (late_settle turns (mesh_begun m) text next (late m p) moves).holds
    move_keeps m event text next p range free moves =
        line_deed_keeps m next p
        (of_all (λ (o : MeshOutcome). LineDeed m o.mesh) (mesh_outcomes m event) (record { mesh = next; text = text }) (deeds_of_line fit metadata made updaters m event range free) moves)

    event_keeps : (m : Mesh) (line : List ℕ) (event : Event) (against : Option Objection) (text : List ℕ) (next : Mesh) → script_event line ≡ Ok (Some event) → mesh_objection m event ≡ against → P m
        → IsDone m (judged_event line event against) text next → P next
    event_keeps m line event None text next read free p done = move_keeps m event text next p (in_range line event read) free done.1
    event_keeps m line event (Some o) text next read free p done = absurd done

    read_keeps : (m : Mesh) (line : List ℕ) (read : Result (Option Event) LineFault) (text : List ℕ) (next : Mesh) → script_event line ≡ read → P m → IsDone m (mesh_judged_by m line read) text next → P next
    read_keeps m line (Ok None) text next is p done = subst P (sym done.1) p
    read_keeps m line (Ok (Some event)) text next is p done = event_keeps m line event (mesh_objection m event) text next is refl p done
    read_keeps m line (Err fault) text next is p done = absurd done

    pub line_keeps : (m : Mesh) (line text : List ℕ) (next : Mesh) → P m → IsDone m (mesh_judged m line) text next → P next
    line_keeps m line text next p done = read_keeps m line (script_event line) text next refl p done

    pub run_keeps : (m : Mesh) (lines : List (List ℕ)) (text : List ℕ) (end : Mesh) → P m → MeshRun m lines text end → P end
    run_keeps m [] text end p run = subst P (sym run.1) p
    run_keeps m (line ∷ lines) text end p run = run_keeps run.0 lines run.2 end (line_keeps m line run.1 run.0 p run.3.done) run.4

    -- each world of each run from a new world, and each within a line
    pub always_keeps : P new_mesh → Always P
    always_keeps p lines text m mid run within = within_keeps m mid (run_keeps new_mesh lines text m p run) within
