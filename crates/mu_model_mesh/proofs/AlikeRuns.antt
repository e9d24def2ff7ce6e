-- Lines of nodes have the same runs in the mesh of a world's nodes alone as in that world.
use Rattle.std.proofs.Common.{◌≡◌, ℕ, zero, suc, ◌+◌, ◌≤◌, ◌<◌, false, List, [], ◌∷◌, ◌++◌, length, take, map, Contains, Option, Some, None, Result, Ok, Err, refl, sym, ap, ◌∙◌, subst, arith}
use Rattle.std.specs.Prelude.{nat_le}
use Rattle.std.specs.List.{AllByRecursion}
use Rattle.mu_model_script.specs.declared.LineFault.{LineFault}
use Rattle.mu_model_script.specs.Event.{Event, Settle}
use Rattle.mu_model_script.specs.Limits.{most_lines}
use Rattle.mu_model_script.specs.Lines.{line_event}
use Rattle.mu_model_world.specs.World.{World, new_world}
use Rattle.mu_model_world.specs.Outcomes.{Outcome, outcomes}
use Rattle.mu_model_world.specs.Judged.{Objection, objection, most_events, Judged, Refused, judged_event, judged_by, judged}
use Rattle.mu_model_world.specs.Run.{IsDone, Step, Run, Prints, Refuses}
use Rattle.mu_model_mesh.specs.Mesh.{Mesh, new_mesh}
use Rattle.mu_model_mesh.specs.MeshOutcomes.{mesh_outcomes}
use Rattle.mu_model_mesh.specs.MeshJudged.{is_past, mesh_judged_by, mesh_judged}
use Rattle.mu_model_mesh.specs.MeshRun.{MeshMoves, IsDone as IsMeshDone, MeshStep, PassesNone, MeshRun, MeshPrints, MeshRefuses}
use Rattle.mu_model_mesh.specs.Alike.{IsOfNodes, AreOfNodes, alone}
use Rattle.mu_model_mesh.proofs.AlikeRead.{read_alike, of_nodes_read, IsNodeEvent, IsSaidOfNodes, said_of_nodes}
use Rattle.mu_model_mesh.proofs.AlikeEvents.{lifted, IsCounted, outcomes_alike, objections_alike}

-- ---- outcomes

mapped_in : {X Y : Type 0} (f : X → Y) (xs : List X) (x : X) → Contains xs x → Contains (map f xs) (f x)
mapped_in f [] x p =
    let none : p.0 < 0 = p.1 in
    absurd (omega (arith, none))
mapped_in f (y ∷ xs) x (zero, within, is) = (zero, omega arith, ap f is)
mapped_in f (y ∷ xs) x (suc k, within, is) =
    let r = mapped_in f xs x (k, omega (arith, within), is) in
    (suc r.0, omega (arith, r.1), r.2)

from_mapped : {X Y : Type 0} (f : X → Y) (xs : List X) (y : Y) → Contains (map f xs) y → (x : X) × Contains xs x × (f x ≡ y)
from_mapped f [] y p =
    let none : p.0 < 0 = p.1 in
    absurd (omega (arith, none))
from_mapped f (x ∷ xs) y (zero, within, is) = (x, (zero, omega arith, refl), is)
from_mapped f (x ∷ xs) y (suc k, within, is) =
    let r = from_mapped f xs y (k, omega (arith, within), is) in
    let at = r.1 in
    (r.0, (suc at.0, omega (arith, at.1), at.2), r.2)

of_all : {X : Type 0} (P : X → Type 0) (xs : List X) (x : X) → AllByRecursion P xs → Contains xs x → P x
of_all P [] x all p =
    let none : p.0 < 0 = p.1 in
    absurd (omega (arith, none))
of_all P (v ∷ xs) x all (zero, within, is) = subst P is all.0
of_all P (v ∷ xs) x all (suc k, within, is) = of_all P xs x all.1 (k, omega (arith, within), is)

-- ---- what a mesh does with an event of nodes

moves_are : (m : Mesh) (event : Event) (text : List ℕ) (next : Mesh) → IsNodeEvent event → MeshMoves m event text next → Contains (mesh_outcomes m event) (record { mesh = next; text = text })
moves_are m (Settle turns) text next s p = absurd s
moves_are m event text next s p = p

are_moves : (m : Mesh) (event : Event) (text : List ℕ) (next : Mesh) → IsNodeEvent event → Contains (mesh_outcomes m event) (record { mesh = next; text = text }) → MeshMoves m event text next
are_moves m (Settle turns) text next s p = absurd s
are_moves m event text next s p = p

past_is : (m : Mesh) (event : Event) → IsNodeEvent event → is_past m event ≡ nat_le most_events m.nodes.events
past_is m (Settle turns) s = absurd s
past_is m event s = refl

is_within : (n : ℕ) → nat_le most_events n ≡ false → n < most_events
is_within n h = grind (arith, h)

not_past : (n : ℕ) → n < most_events → nat_le most_events n ≡ false
not_past n h = grind (arith, h)

-- ---- a line

said_alike : (w : World) (line : List ℕ) (read : Result (Option Event) LineFault) → IsSaidOfNodes read → mesh_judged_by (alone w) line read ≡ judged_by w line read
said_alike w line (Ok None) s = refl
said_alike w line (Ok (Some event)) s = ap (judged_event line event) (objections_alike w event s)
said_alike w line (Err fault) s = refl

judged_alike : (w : World) (line : List ℕ) → IsOfNodes line → mesh_judged (alone w) line ≡ judged w line
judged_alike w line of = ap (mesh_judged_by (alone w) line) (read_alike line of) ∙ said_alike w line (line_event line) (said_of_nodes line)

-- a line that is done in a world counts at most one event
record Counts (w next : World) : Type 0 where
  no_fewer : w.events ≤ next.events
  one_more : next.events ≤ w.events + 1

-- a line that is done in the mesh of a world's nodes alone is done in the world
record Done (w : World) (judgement : Judged) (text : List ℕ) (next : Mesh) : Type 0 where
  done : IsDone w judgement text next.nodes
  is_alone : next ≡ alone next.nodes
  within : w.events ≤ most_events → next.nodes.events ≤ most_events

outcome_is : (o : Outcome) (w : World) (text : List ℕ) → o.world ≡ w → o.text ≡ text → o ≡ record { world = w; text = text }
outcome_is o w text world is = ap (λ x. record { world = x; text = o.text }) world ∙ ap (λ t. record { world = w; text = t }) is

event_done : (w : World) (line : List ℕ) (event : Event) (against : Option Objection) (text : List ℕ) (next : Mesh) → IsNodeEvent event
    → IsMeshDone (alone w) (judged_event line event against) text next → Done w (judged_event line event against) text next
event_done w line event None text next s d =
    let alike = outcomes_alike w event s in
    let found : Contains (mesh_outcomes (alone w) event) (record { mesh = next; text = text }) = moves_are (alone w) event text next s d.1 in
    let o = from_mapped lifted (outcomes w event) (record { mesh = next; text = text }) (subst (λ os. Contains os (record { mesh = next; text = text })) alike.same found) in
    let mesh : alone o.0.world ≡ next = ap (λ r. r.mesh) o.2 in
    let text_is : o.0.text ≡ text = ap (λ r. r.text) o.2 in
    let world : o.0.world ≡ next.nodes = ap (λ m. m.nodes) mesh in
    let same = outcome_is o.0 next.nodes text world text_is in
    let counted : o.0.world.events ≡ w.events + 1 = of_all (IsCounted (w.events + 1)) (outcomes w event) o.0 alike.counted o.1 in
    let events : o.0.world.events ≡ next.nodes.events = ap (λ x. x.events) world in
    let below : w.events < most_events = is_within w.events (sym (past_is (alone w) event s) ∙ d.0) in
    record {
      done = subst (λ r. Contains (outcomes w event) r) same o.1;
      is_alone = sym mesh ∙ ap alone world;
      within = λ h. omega arith;
    }
event_done w line event (Some o) text next s d = absurd d

line_done : (w : World) (line : List ℕ) (read : Result (Option Event) LineFault) (text : List ℕ) (next : Mesh) → IsSaidOfNodes read
    → IsMeshDone (alone w) (judged_by w line read) text next → Done w (judged_by w line read) text next
line_done w line (Ok None) text next s d =
    let world : next.nodes ≡ w = ap (λ m. m.nodes) d.1 in
    let events : next.nodes.events ≡ w.events = ap (λ x. x.events) world in
    record { done = (d.0, world); is_alone = d.1 ∙ ap alone (sym world); within = λ h. omega arith }
line_done w line (Ok (Some event)) text next s d = event_done w line event (objection w event) text next s d
line_done w line (Err fault) text next s d = absurd d

step_done : (w : World) (line text : List ℕ) (next : Mesh) → IsOfNodes line → MeshStep (alone w) line text next → Done w (judged w line) text next
step_done w line text next of step =
    line_done w line (line_event line) text next (said_of_nodes line) (subst (λ j. IsMeshDone (alone w) j text next) (judged_alike w line of) step.done)

-- ---- and back

record Back (w : World) (judgement : Judged) (text : List ℕ) (next : World) : Type 0 where
  counts : Counts w next
  done : next.events ≤ most_events → IsMeshDone (alone w) judgement text (alone next)

event_back : (w : World) (line : List ℕ) (event : Event) (against : Option Objection) (text : List ℕ) (next : World) → IsNodeEvent event
    → IsDone w (judged_event line event against) text next → Back w (judged_event line event against) text next
event_back w line event None text next s d =
    let alike = outcomes_alike w event s in
    let o : Outcome = record { world = next; text = text } in
    let counted : next.events ≡ w.events + 1 = of_all (IsCounted (w.events + 1)) (outcomes w event) o alike.counted d in
    let found : Contains (mesh_outcomes (alone w) event) (lifted o) = subst (λ os. Contains os (lifted o)) (sym alike.same) (mapped_in lifted (outcomes w event) o d) in
    record {
      counts = record { no_fewer = omega arith; one_more = omega arith };
      done = λ h. (past_is (alone w) event s ∙ not_past w.events (omega arith), are_moves (alone w) event text (alone next) s found);
    }
event_back w line event (Some o) text next s d = absurd d

line_back : (w : World) (line : List ℕ) (read : Result (Option Event) LineFault) (text : List ℕ) (next : World) → IsSaidOfNodes read
    → IsDone w (judged_by w line read) text next → Back w (judged_by w line read) text next
line_back w line (Ok None) text next s d =
    let events : next.events ≡ w.events = ap (λ x. x.events) d.1 in
    record { counts = record { no_fewer = omega arith; one_more = omega arith }; done = λ h. (d.0, ap alone d.1) }
line_back w line (Ok (Some event)) text next s d = event_back w line event (objection w event) text next s d
line_back w line (Err fault) text next s d = absurd d

-- a line that is done in a world is of nodes
done_read : (w : World) (line : List ℕ) (read : Result (Option Event) LineFault) (text : List ℕ) (next : World) → line_event line ≡ read → IsDone w (judged_by w line read) text next → IsOfNodes line
done_read w line (Ok said) text next is d = of_nodes_read line said is
done_read w line (Err fault) text next is d = absurd d

step_back : (w : World) (line text : List ℕ) (next : World) → Step w line text next → Back w (judged w line) text next
step_back w line text next step = line_back w line (line_event line) text next (said_of_nodes line) step.done

step_of : (w : World) (line text : List ℕ) (next : World) → Step w line text next → IsOfNodes line
step_of w line text next step = done_read w line (line_event line) text next refl step.done

-- ---- runs

record Forward (lines : List (List ℕ)) (text : List ℕ) (w : World) (m : Mesh) : Type 0 where
  run : Run w lines text m.nodes
  is_alone : m ≡ alone m.nodes
  within : w.events ≤ most_events → m.nodes.events ≤ most_events

run_forward : (w : World) (lines : List (List ℕ)) (text : List ℕ) (m : Mesh) → AreOfNodes lines → MeshRun (alone w) lines text m → Forward lines text w m
run_forward w [] text m of run =
    let world : m.nodes ≡ w = ap (λ x. x.nodes) run.1 in
    let events : m.nodes.events ≡ w.events = ap (λ x. x.events) world in
    record { run = (run.0, world); is_alone = run.1 ∙ ap alone (sym world); within = λ h. omega arith }
run_forward w (line ∷ lines) text m of run =
    let first = step_done w line run.1 run.0 of.0 run.3 in
    let mid = run.0.nodes in
    let others = run_forward mid lines run.2 m of.1 (subst (λ x. MeshRun x lines run.2 m) first.is_alone run.4) in
    record {
      run = (mid, run.1, run.2, record { done = first.done }, others.run, run.5);
      is_alone = others.is_alone;
      within = λ h. others.within (first.within h);
    }

run_grows : (w : World) (lines : List (List ℕ)) (text : List ℕ) (end : World) → Run w lines text end → w.events ≤ end.events
run_grows w [] text end run =
    let events : end.events ≡ w.events = ap (λ x. x.events) run.1 in
    omega arith
run_grows w (line ∷ lines) text end run =
    let first = (step_back w line run.1 run.0 run.3).counts.no_fewer in
    let others = run_grows run.0 lines run.2 end run.4 in
    omega arith

run_counts : (w : World) (lines : List (List ℕ)) (text : List ℕ) (end : World) → Run w lines text end → end.events ≤ w.events + length lines
run_counts w [] text end run =
    let events : end.events ≡ w.events = ap (λ x. x.events) run.1 in
    omega arith
run_counts w (line ∷ lines) text end run =
    let first = (step_back w line run.1 run.0 run.3).counts.one_more in
    let others = run_counts run.0 lines run.2 end run.4 in
    omega arith

run_back : (w : World) (lines : List (List ℕ)) (text : List ℕ) (end : World) → end.events ≤ most_events → Run w lines text end → MeshRun (alone w) lines text (alone end)
run_back w [] text end within run = (run.0, ap alone run.1)
run_back w (line ∷ lines) text end within run =
    let of = step_of w line run.1 run.0 run.3 in
    let grows = run_grows run.0 lines run.2 end run.4 in
    let done = (step_back w line run.1 run.0 run.3).done (omega arith) in
    let step : MeshStep (alone w) line run.1 (alone run.0) = record { done = subst (λ j. IsMeshDone (alone w) j run.1 (alone run.0)) (sym (judged_alike w line of)) done } in
    (alone run.0, run.1, run.2, step, run_back run.0 lines run.2 end within run.4, run.5)

pub forward : (lines : List (List ℕ)) (text : List ℕ) (m : Mesh) → AreOfNodes lines → MeshRun new_mesh lines text m → Run new_world lines text m.nodes × (m ≡ alone m.nodes) × (m.nodes.events ≤ most_events)
forward lines text m of run =
    let f = run_forward new_world lines text m of run in
    (f.run, f.is_alone, f.within (omega arith))

pub back : (lines : List (List ℕ)) (text : List ℕ) (w : World) → w.events ≤ most_events → Run new_world lines text w → MeshRun new_mesh lines text (alone w)
back lines text w within run = run_back new_world lines text w within run

pub counts : (lines : List (List ℕ)) (text : List ℕ) (w : World) → Run new_world lines text w → w.events ≤ length lines
counts lines text w run =
    let events = run_counts new_world lines text w run in
    omega arith

pub prints : (lines : List (List ℕ)) (text : List ℕ) → AreOfNodes lines → MeshPrints lines text → Prints lines text
prints lines text of p = record { end = p.end.nodes; run = (forward lines text p.end of p.run).0 }

pub prints_back : (lines : List (List ℕ)) (text : List ℕ) → length lines ≤ most_lines → Prints lines text → MeshPrints lines text
prints_back lines text short p =
    let counts = run_counts new_world lines text p.end p.run in
    record { end = alone p.end; run = back lines text p.end (omega arith) p.run }

-- ---- refused lines

-- what is within the lines up to a line
up_to : (before : List (List ℕ)) (line : List ℕ) (others : List (List ℕ)) → AreOfNodes (take (suc (length before)) (before ++ line ∷ others)) → AreOfNodes before × IsOfNodes line
up_to [] line others of = (tt, of.0)
up_to (first ∷ before) line others of =
    let rest = up_to before line others of.1 in
    ((of.0, rest.0), rest.1)

cut_at : (lines before : List (List ℕ)) (line : List ℕ) (others : List (List ℕ)) (number : ℕ) → lines ≡ before ++ line ∷ others → number ≡ length before + 1 → AreOfNodes (take number lines) → AreOfNodes before × IsOfNodes line
cut_at lines before line others number cut numbered of =
    let is : number ≡ suc (length before) = omega arith in
    up_to before line others (subst (λ ls. AreOfNodes (take (suc (length before)) ls)) cut (subst (λ n. AreOfNodes (take n lines)) is of))

pub refuses : (lines : List (List ℕ)) (text : List ℕ) (number place : ℕ) (word : List ℕ) → AreOfNodes (take number lines) → MeshRefuses lines text number place word → Refuses lines text number place word
refuses lines text number place word of r =
    let are = cut_at lines r.before r.line r.others number r.cut r.numbered of in
    let f = forward r.before text r.end are.0 r.run in
    let end = r.end.nodes in
    let refused : mesh_judged (alone end) r.line ≡ Refused place word = subst (λ m. mesh_judged m r.line ≡ Refused place word) f.1 r.refused.judged in
    record {
      before = r.before;
      line = r.line;
      others = r.others;
      cut = r.cut;
      end = end;
      run = f.0;
      refused = sym (judged_alike end r.line are.1) ∙ refused;
      numbered = r.numbered;
    }

passes_none : (w : World) (read : Result (Option Event) LineFault) → IsSaidOfNodes read → w.events < most_events → PassesNone (alone w) read
passes_none w (Ok None) s h = tt
passes_none w (Ok (Some event)) s h = past_is (alone w) event s ∙ not_past w.events h
passes_none w (Err fault) s h = tt

pub refuses_back : (lines : List (List ℕ)) (text : List ℕ) (number place : ℕ) (word : List ℕ) → AreOfNodes (take number lines) → number ≤ most_lines → Refuses lines text number place word → MeshRefuses lines text number place word
refuses_back lines text number place word of short r =
    let are = cut_at lines r.before r.line r.others number r.cut r.numbered of in
    let counts = run_counts new_world r.before text r.end r.run in
    let numbered = r.numbered in
    let none : PassesNone (alone r.end) (line_event r.line) = passes_none r.end (line_event r.line) (said_of_nodes r.line) (omega arith) in
    record {
      before = r.before;
      line = r.line;
      others = r.others;
      cut = r.cut;
      end = alone r.end;
      run = back r.before text r.end (omega arith) r.run;
      refused = record {
        within = subst (PassesNone (alone r.end)) (sym (read_alike r.line are.1)) none;
        judged = judged_alike r.end r.line are.1 ∙ r.refused;
      };
      numbered = r.numbered;
    }
