-- Runs of the same lines are one.
use Rattle.std.proofs.Common.{◌≡◌, ℕ, List, [], ◌∷◌, ◌++◌, refl, sym, ap, subst, ◌∙◌, Option, Some, None, Result, Ok, Err, inl, inr}
use Rattle.std.specs.List.{AllByRecursion}
use Rattle.mu_model_script.specs.Event.{Event, Settle}
use Rattle.mu_model_script.specs.Lines.{script_event}
use Rattle.mu_model_script.specs.declared.LineFault.{LineFault}
use Rattle.mu_model_world.specs.Judged.{Objection, judged_event}
use Rattle.mu_model_world.specs.Laws.{FixesLine}
use Rattle.mu_model_mesh.specs.Mesh.{Mesh, new_mesh}
use Rattle.mu_model_mesh.specs.MeshOutcomes.{MeshOutcome, mesh_begun, mesh_outcomes}
use Rattle.mu_model_mesh.specs.MeshJudged.{mesh_objection, mesh_judged_by, mesh_judged}
use Rattle.mu_model_mesh.specs.MeshRun.{MeshMoves, IsDone, MeshStep, MeshRun, MeshPrints, MeshRefuses}
use Rattle.mu_model_mesh_runs.specs.Goes.{Coming, GoesThrough, Within}
use Rattle.mu_model_mesh_runs.specs.Laws.{LinesComeToOneThing}
use Rattle.mu_model_mesh_safety.specs.Laws.{EveryWorldIsOfRuns}
use Rattle.mu_model_mesh_fixed.specs.Laws.{outcomes_in, AreOne, TextFixesTheRun, FixesItsRun, LinesFixTheRun, RefusedHasNoTrace}
use Rattle.mu_model_mesh_fixed.proofs.Modes.{Mode, by_text, by_lines, Tears, EventIs, events_are, fixed_events}
use Rattle.mu_model_mesh_fixed.proofs.Sound.{SoundLaws, Good, good}
use Rattle.mu_model_mesh_fixed.proofs.Events.{CutLaws, lines_one}
use Rattle.mu_model_mesh_fixed.proofs.Settling.{Same, from_alike, settle_same}

abbrev LineIs : Mode → Result (Option Event) LineFault → Type 0
LineIs mode (Ok (Some event)) = EventIs mode event
LineIs mode _ = Unit {0}

abbrev LinesAre : Mode → List (List ℕ) → Type 0
LinesAre mode lines = AllByRecursion (λ line. LineIs mode (script_event line)) lines

module _ (mode : Mode) (laws : CutLaws) where
  -- ---- a line

  move_same : (m : Mesh) (event : Event) (text text' rest rest' : List ℕ) (next next' : Mesh) → Tears mode m → EventIs mode event → ((x : Mesh) → Within m x → Good x)
      → MeshMoves m event text next → MeshMoves m event text' next' → mode.same (text ++ rest) (text' ++ rest') → Same mode text text' rest rest' next next'
  move_same m (Settle turns) text text' rest rest' next next' t whole within p q c =
      settle_same mode laws turns (mesh_begun m) text text' rest rest' next next' (record { nodes = t.nodes; distributors = t.distributors })
      (λ coming x n. within x (inr (record { turns = turns; coming = coming; through = n }))) p q c
  move_same m event text text' rest rest' next next' t whole within p q c =
      from_alike mode (mesh_outcomes m event) text text' rest rest' next next' (lines_one mode laws m event (within m (inl refl)) t whole) p q c

  event_same : (m : Mesh) (line : List ℕ) (event : Event) (against : Option Objection) (text text' rest rest' : List ℕ) (next next' : Mesh) → Tears mode m → EventIs mode event → ((x : Mesh) → Within m x → Good x)
      → IsDone m (judged_event line event against) text next → IsDone m (judged_event line event against) text' next' → mode.same (text ++ rest) (text' ++ rest') → Same mode text text' rest rest' next next'
  event_same m line event None text text' rest rest' next next' t whole within p q c = move_same m event text text' rest rest' next next' t whole within p.1 q.1 c
  event_same m line event (Some o) text text' rest rest' next next' t whole within p q c = absurd p

  read_same : (m : Mesh) (line : List ℕ) (read : Result (Option Event) LineFault) (text text' rest rest' : List ℕ) (next next' : Mesh) → Tears mode m → LineIs mode read → ((x : Mesh) → Within m x → Good x)
      → IsDone m (mesh_judged_by m line read) text next → IsDone m (mesh_judged_by m line read) text' next' → mode.same (text ++ rest) (text' ++ rest') → Same mode text text' rest rest' next next'
  read_same m line (Ok None) text text' rest rest' next next' t whole within p q c = record {
    texts = p.0 ∙ sym q.0;
    worlds = p.1 ∙ sym q.1;
    rests = subst (λ (w : List ℕ). mode.same rest (w ++ rest')) q.0 (subst (λ (w : List ℕ). mode.same (w ++ rest) (text' ++ rest')) p.0 c);
    tears = subst (λ (x : Mesh). Tears mode x) (sym p.1) t;
  }
  read_same m line (Ok (Some event)) text text' rest rest' next next' t whole within p q c = event_same m line event (mesh_objection m event) text text' rest rest' next next' t whole within p q c
  read_same m line (Err fault) text text' rest rest' next next' t whole within p q c = absurd p

  -- ---- runs

  -- from one world on
  record OneRun (lines : List (List ℕ)) (text text' : List ℕ) (m m' end end' : Mesh) (p : MeshRun m lines text end) (q : MeshRun m' lines text' end') : Type 0 where
    pub texts : text ≡ text'
    pub ends : end ≡ end'
    pub outcomes : outcomes_in m lines text end p ≡ outcomes_in m' lines text' end' q

  head_same : (o o' : MeshOutcome) (os os' : List MeshOutcome) → o ≡ o' → os ≡ os' → o ∷ os ≡ o' ∷ os'
  head_same o o' os os' e f = ap (λ x. x ∷ os) e ∙ ap (λ xs. o' ∷ xs) f

  abbrev outcome_of : Mesh → List ℕ → MeshOutcome
  outcome_of next text = record { mesh = next; text = text }

  outcome_same : (next next' : Mesh) (text text' : List ℕ) → next ≡ next' → text ≡ text' → outcome_of next text ≡ outcome_of next' text'
  outcome_same next next' text text' e f = ap (λ (x : Mesh). outcome_of x text) e ∙ ap (λ (t : List ℕ). outcome_of next' t) f

  run_same : (lines : List (List ℕ)) (m m' : Mesh) (text text' : List ℕ) (end end' : Mesh) → m ≡ m' → Tears mode m → LinesAre mode lines
      → ((ls : List (List ℕ)) (t : List ℕ) (x y : Mesh) → MeshRun m ls t x → Within x y → Good y)
      → (p : MeshRun m lines text end) (q : MeshRun m' lines text' end') → mode.same text text' → OneRun lines text text' m m' end end' p q
  run_same [] m m' text text' end end' e t whole within p q c = record { texts = p.0 ∙ sym q.0; ends = p.1 ∙ (e ∙ sym q.1); outcomes = refl }
  run_same (line ∷ lines) m m' text text' end end' e t whole within p q c =
      let known = subst (λ w. mode.same (p.1 ++ p.2) w) q.5 (subst (λ w. mode.same w text') p.5 c) in
      let own : MeshStep m line q.1 q.0 = subst (λ (x : Mesh). MeshStep x line q.1 q.0) (sym e) q.3 in
      let head = read_same m line (script_event line) p.1 q.1 p.2 q.2 p.0 q.0 t whole.0 (λ x w. within [] [] m x (refl, refl) w) p.3.done own.done known in
      let others = run_same lines p.0 q.0 p.2 q.2 end end' head.worlds head.tears whole.1 (λ ls s x y run w. within (line ∷ ls) (p.1 ++ s) x y (p.0, p.1, s, p.3, run, refl) w) p.4 q.4 head.rests in
      record {
        texts = p.5 ∙ (ap (λ w. w ++ p.2) head.texts ∙ (ap (λ w. q.1 ++ w) others.texts ∙ sym q.5));
        ends = others.ends;
        outcomes = head_same _ _ _ _ (outcome_same p.0 q.0 p.1 q.1 head.worlds head.texts) others.outcomes;
      }

-- ---- from a new world on

new_tears : (mode : Mode) → Tears mode new_mesh
new_tears mode = record { nodes = tt; distributors = tt }

line_is : (read : Result (Option Event) LineFault) → LineIs by_text read
line_is (Ok (Some event)) = events_are event
line_is (Ok None) = tt
line_is (Err fault) = tt

lines_are : (lines : List (List ℕ)) → LinesAre by_text lines
lines_are [] = tt
lines_are (line ∷ lines) = (line_is (script_event line), lines_are lines)

fixed_line : (read : Result (Option Event) LineFault) → FixesLine read → LineIs by_lines read
fixed_line (Ok (Some event)) f = fixed_events event f
fixed_line (Ok None) f = tt
fixed_line (Err fault) f = tt

fixed_lines : (lines : List (List ℕ)) → FixesItsRun lines → LinesAre by_lines lines
fixed_lines [] f = tt
fixed_lines (line ∷ lines) f = (fixed_line (script_event line) f.0, fixed_lines lines f.1)

module _ (laws : CutLaws) (sound : SoundLaws) (every : EveryWorldIsOfRuns) where
  are_good : (lines : List (List ℕ)) (text : List ℕ) (m mid : Mesh) → MeshRun new_mesh lines text m → Within m mid → Good mid
  are_good lines text m mid run within = good sound mid (every lines text m mid run within)

  pub text_fixes : TextFixesTheRun
  text_fixes lines text end end' run run' =
      let one = run_same by_text laws lines new_mesh new_mesh text text end end' refl (new_tears by_text) (lines_are lines) are_good run run' refl in
      record { texts = one.texts; ends = one.ends; outcomes = one.outcomes }

  pub lines_fix : LinesFixTheRun
  lines_fix lines text text' end end' run run' fixed =
      let one = run_same by_lines laws lines new_mesh new_mesh text text' end end' refl (new_tears by_lines) (fixed_lines lines fixed) are_good run run' tt in
      record { texts = one.texts; ends = one.ends; outcomes = one.outcomes }

  -- a run of all lines has one of the lines before a line, and a step of that line
  record Through (m : Mesh) (front : List (List ℕ)) (line : List ℕ) : Type 0 where
    pub end : Mesh
    pub text : List ℕ
    pub run : MeshRun m front text end
    pub next : Mesh
    pub more : List ℕ
    pub step : MeshStep end line more next

  through : (m : Mesh) (front : List (List ℕ)) (line : List ℕ) (others : List (List ℕ)) (text : List ℕ) (last : Mesh) → MeshRun m (front ++ line ∷ others) text last → Through m front line
  through m [] line others text last run = record { end = m; text = []; run = (refl, refl); next = run.0; more = run.1; step = run.3 }
  through m (own ∷ front) line others text last run =
      let on = through run.0 front line others run.2 last run.4 in
      record { end = on.end; text = run.1 ++ on.text; run = (run.0, run.1, on.text, run.3, on.run, refl); next = on.next; more = on.more; step = on.step }

  front_fixed : (front : List (List ℕ)) (line : List ℕ) (others : List (List ℕ)) → FixesItsRun (front ++ line ∷ others) → FixesItsRun front
  front_fixed [] line others f = tt
  front_fixed (own ∷ front) line others f = (f.0, front_fixed front line others f.1)

  pub refused_untraced : LinesComeToOneThing → RefusedHasNoTrace
  refused_untraced one_thing lines text whole number place word fixed refuses prints =
      let on = through new_mesh refuses.before refuses.line refuses.others whole prints.end (subst (λ ls. MeshRun new_mesh ls whole prints.end) refuses.cut prints.run) in
      let front = front_fixed refuses.before refuses.line refuses.others (subst FixesItsRun refuses.cut fixed) in
      let one = lines_fix refuses.before on.text text on.end refuses.end on.run refuses.run front in
      let step : MeshStep refuses.end refuses.line on.more on.next = subst (λ (x : Mesh). MeshStep x refuses.line on.more on.next) one.ends on.step in
      (one_thing refuses.end refuses.line).not_refused on.more on.next place word step refuses.refused
