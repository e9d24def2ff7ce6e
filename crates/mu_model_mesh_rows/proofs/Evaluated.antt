-- The run of a script by the first outcome of each line, with its evidence.
use Rattle.std.proofs.Common.{◌≡◌, ◌+◌, ◌≤◌, ◌⊎◌, ℕ, zero, suc, Bool, true, false, List, [], ◌∷◌, ◌++◌, length, Option, Some, None, inl, inr, refl, arith, Result, Ok, Err}
use Rattle.std.specs.Prelude.{slice_get, Contains}
use Rattle.mu_model_wire.specs.Packet.{Packet}
use Rattle.mu_model_script.specs.Event.{Event, Settle}
use Rattle.mu_model_script.specs.declared.LineFault.{LineFault}
use Rattle.mu_model_script.specs.Lines.{script_event}
use Rattle.mu_model_world.specs.Judged.{Judged, Silent, Refused, Sound}
use Rattle.mu_model_mesh.specs.Mesh.{Mesh, new_mesh, addressees}
use Rattle.mu_model_mesh.specs.MeshOutcomes.{MeshOutcome, mesh_outcomes, mesh_begun}
use Rattle.mu_model_mesh.specs.MeshJudged.{mesh_judged, is_past}
use Rattle.mu_model_mesh.specs.MeshRun.{MeshMoves, IsDone, MeshRun, MeshPrints, MeshBars, MeshRefuses, PassesNone}
use Rattle.mu_model_mesh.specs.Settle.{EachComes, AllComes, none_left, comes as one_comes, Turns, Settles, turn_comes, given_to}

-- ---- lists

pub first_in : {X : Type 0} (x : X) (xs : List X) → Contains (x ∷ xs) x
first_in x xs = (0, omega arith, refl)

abbrev first_of : (os : List MeshOutcome) → Option ((o : MeshOutcome) × Contains os o)
first_of [] = None
first_of (o ∷ os) = Some (o, first_in o os)

pub none_at : (n : ℕ) → 0 ≤ n
none_at n = omega arith

pub more_at : {X : Type 0} (x : X) (xs : List X) (n : ℕ) → length xs ≤ n → length (x ∷ xs) ≤ suc n
more_at x xs n l = omega (arith, l)

abbrev found_later : {X : Type 0} (x : X) (xs : List X) (n : ℕ) → ((y : X) × (slice_get xs n ≡ Some y)) ⊎ (length xs ≤ n) → ((y : X) × (slice_get (x ∷ xs) (suc n) ≡ Some y)) ⊎ (length (x ∷ xs) ≤ suc n)
found_later x xs n (inl found) = inl (found.0, found.1)
found_later x xs n (inr past) = inr (more_at x xs n past)

abbrev found_at : {X : Type 0} (xs : List X) (n : ℕ) → ((x : X) × (slice_get xs n ≡ Some x)) ⊎ (length xs ≤ n)
found_at [] n = inr (none_at n)
found_at (x ∷ xs) zero = inl (x, refl)
found_at (x ∷ xs) (suc n) = found_later x xs n (found_at xs n)

-- ---- each of some addresses

abbrev Each : (Mesh → ℕ → List MeshOutcome) → List ℕ → Mesh → Type 0
Each comes addresses m = Option ((text : List ℕ) × (next : Mesh) × EachComes comes addresses m text next)

abbrev each_add : (comes : Mesh → ℕ → List MeshOutcome) (a : ℕ) (others : List ℕ) (m : Mesh) (x : (o : MeshOutcome) × Contains (comes m a) o) → Each comes others x.0.mesh → Each comes (a ∷ others) m
each_add comes a others m x None = None
each_add comes a others m x (Some y) = Some (x.0.text ++ y.0, y.1, (x.0.mesh, x.0.text, y.0, x.1, y.2, refl))

abbrev each_then : (comes : Mesh → ℕ → List MeshOutcome) (a : ℕ) (others : List ℕ) (m : Mesh) → ((mid : Mesh) → Each comes others mid) → Option ((o : MeshOutcome) × Contains (comes m a) o) → Each comes (a ∷ others) m
each_then comes a others m rest None = None
each_then comes a others m rest (Some x) = each_add comes a others m x (rest x.0.mesh)

abbrev each : (comes : Mesh → ℕ → List MeshOutcome) (addresses : List ℕ) (m : Mesh) → Each comes addresses m
each comes [] m = Some ([], m, (refl, refl))
each comes (a ∷ others) m = each_then comes a others m (λ mid. each comes others mid) (first_of (comes m a))

-- ---- all packets from a number on, so many at most

abbrev All : ℕ → Mesh → Type 0
All number m = Option ((text : List ℕ) × (next : Mesh) × AllComes number m text next)

abbrev all_add : (number : ℕ) (m : Mesh) (p : (x : Packet) × (slice_get m.nodes.bag number ≡ Some x)) (x : (text : List ℕ) × (next : Mesh) × EachComes (given_to number) (addressees m p.0) m text next) → All (number + 1) x.1 → All number m
all_add number m p x None = None
all_add number m p x (Some y) = Some (x.0 ++ y.0, y.1, one_comes x.0 y.0 p.0 p.1 x.2 y.2)

abbrev all_then : (number : ℕ) (m : Mesh) (p : (x : Packet) × (slice_get m.nodes.bag number ≡ Some x)) → ((mid : Mesh) → All (number + 1) mid) → Each (given_to number) (addressees m p.0) m → All number m
all_then number m p rest None = None
all_then number m p rest (Some x) = all_add number m p x (rest x.1)

abbrev all_by : (number : ℕ) (m : Mesh) → ((mid : Mesh) → All (number + 1) mid) → ((x : Packet) × (slice_get m.nodes.bag number ≡ Some x)) ⊎ (length m.nodes.bag ≤ number) → All number m
all_by number m rest (inl p) = all_then number m p rest (each (given_to number) (addressees m p.0) m)
all_by number m rest (inr past) = Some ([], m, none_left past)

abbrev all : (most number : ℕ) (m : Mesh) → All number m
all zero number m = None
all (suc most) number m = all_by number m (λ mid. all most (number + 1) mid) (found_at m.nodes.bag number)

-- ---- turns

abbrev Turned : Mesh → Type 0
Turned m = Option ((text : List ℕ) × (next : Mesh) × Turns m text next)

abbrev turn_add : (m : Mesh) (x : (text : List ℕ) × (next : Mesh) × EachComes turn_comes m.order m text next) → All (length m.nodes.bag) x.1 → Turned m
turn_add m x None = None
turn_add m x (Some y) =
    Some (x.0 ++ y.0, record (y.1) { turns = y.1.turns + 1 }, record { mid = x.1; last = y.1; first = x.0; rest = y.0; time = x.2; packets = y.2; counted = refl; printed = refl })

abbrev turn_by : (m : Mesh) → Each turn_comes m.order m → Turned m
turn_by m None = None
turn_by m (Some x) = turn_add m x (all 1000 (length m.nodes.bag) x.1)

abbrev turn : (m : Mesh) → Turned m
turn m = turn_by m (each turn_comes m.order m)

abbrev Settled : ℕ → Mesh → Type 0
Settled turns m = Option ((text : List ℕ) × (next : Mesh) × Settles turns m text next)

abbrev settle_add : (turns : ℕ) (m : Mesh) (x : (text : List ℕ) × (next : Mesh) × Turns m text next) → Settled turns x.1 → Settled (suc turns) m
settle_add turns m x None = None
settle_add turns m x (Some y) = Some (x.0 ++ y.0, y.1, (x.1, x.0, y.0, x.2, y.2, refl))

abbrev settle_by : (turns : ℕ) (m : Mesh) → ((mid : Mesh) → Settled turns mid) → Turned m → Settled (suc turns) m
settle_by turns m rest None = None
settle_by turns m rest (Some x) = settle_add turns m x (rest x.1)

abbrev settle : (turns : ℕ) (m : Mesh) → Settled turns m
settle zero m = Some ([], m, (refl, refl))
settle (suc turns) m = settle_by turns m (λ mid. settle turns mid) (turn m)

-- ---- a line

abbrev Moved : Mesh → Event → Type 0
Moved m event = Option ((text : List ℕ) × (next : Mesh) × MeshMoves m event text next)

abbrev moved : (m : Mesh) (event : Event) → Option ((o : MeshOutcome) × Contains (mesh_outcomes m event) o) → Option ((text : List ℕ) × (next : Mesh) × Contains (mesh_outcomes m event) (record { mesh = next; text = text }))
moved m event None = None
moved m event (Some x) = Some (x.0.text, x.0.mesh, x.1)

abbrev moves : (m : Mesh) (event : Event) → Moved m event
moves m (Settle turns) = settle turns (mesh_begun m)
moves m event = moved m event (first_of (mesh_outcomes m event))

abbrev Done : Mesh → Judged → Type 0
Done m judged = Option ((text : List ℕ) × (next : Mesh) × IsDone m judged text next)

abbrev done_add : (m : Mesh) (event : Event) → is_past m event ≡ false → Moved m event → Done m (Sound event)
done_add m event within None = None
done_add m event within (Some x) = Some (x.0, x.1, (within, x.2))

abbrev done_if : (m : Mesh) (event : Event) (past : Bool) → is_past m event ≡ past → Done m (Sound event)
done_if m event true e = None
done_if m event false e = done_add m event e (moves m event)

abbrev pub done : (m : Mesh) (judged : Judged) → Done m judged
done m Silent = Some ([], m, (refl, refl))
done m (Refused place word) = None
done m (Sound event) = done_if m event (is_past m event) refl

-- ---- a script

abbrev Ran : List (List ℕ) → Mesh → Type 0
Ran script m = Option ((text : List ℕ) × (next : Mesh) × MeshRun m script text next)

abbrev run_add : (line : List ℕ) (script : List (List ℕ)) (m : Mesh) (x : (text : List ℕ) × (next : Mesh) × IsDone m (mesh_judged m line) text next) → Ran script x.1 → Ran (line ∷ script) m
run_add line script m x None = None
run_add line script m x (Some y) = Some (x.0 ++ y.0, y.1, (x.1, x.0, y.0, record { done = x.2 }, y.2, refl))

abbrev run_by : (line : List ℕ) (script : List (List ℕ)) (m : Mesh) → ((mid : Mesh) → Ran script mid) → Done m (mesh_judged m line) → Ran (line ∷ script) m
run_by line script m rest None = None
run_by line script m rest (Some x) = run_add line script m x (rest x.1)

abbrev pub run : (script : List (List ℕ)) (m : Mesh) → Ran script m
run [] m = Some ([], m, (refl, refl))
run (line ∷ script) m = run_by line script m (λ mid. run script mid) (done m (mesh_judged m line))

-- ---- what is printed

abbrev IsThere : {X : Type 0} → Option X → Type 0
IsThere None = ⊥
IsThere (Some x) = Unit {0}

abbrev pub there : {X : Type 0} (o : Option X) → IsThere o → X
there None t = absurd t
there (Some x) t = x

abbrev pub printed : (script : List (List ℕ)) → IsThere (run script new_mesh) → (text : List ℕ) × MeshPrints script text
printed script t = let x : (text : List ℕ) × (next : Mesh) × MeshRun new_mesh script text next = there (run script new_mesh) t in (x.0, record { end = x.1; run = x.2 })

-- ---- what is refused

abbrev Barred : Mesh → List ℕ → Type 0
Barred m line = Option ((place : ℕ) × (word : List ℕ) × MeshBars m line place word)

abbrev within_by : (m : Mesh) (event : Event) (past : Bool) → is_past m event ≡ past → Option (is_past m event ≡ false)
within_by m event true e = None
within_by m event false e = Some e

abbrev within : (m : Mesh) (said : Result (Option Event) LineFault) → Option (PassesNone m said)
within m (Ok (Some event)) = within_by m event (is_past m event) refl
within m (Ok None) = Some tt
within m (Err fault) = Some tt

abbrev barred_by : (m : Mesh) (line : List ℕ) (judged : Judged) → mesh_judged m line ≡ judged → Option (PassesNone m (script_event line)) → Barred m line
barred_by m line (Refused place word) e (Some w) = Some (place, word, record { within = w; judged = e })
barred_by m line _ e w = None

abbrev barred : (m : Mesh) (line : List ℕ) → Barred m line
barred m line = barred_by m line (mesh_judged m line) refl (within m (script_event line))

abbrev Stopped : List (List ℕ) → List ℕ → Type 0
Stopped before line = Option ((text : List ℕ) × (place : ℕ) × (word : List ℕ) × MeshRefuses (before ++ line ∷ []) text (length before + 1) place word)

abbrev stop_add : (before : List (List ℕ)) (line : List ℕ) (x : (text : List ℕ) × (next : Mesh) × MeshRun new_mesh before text next) → Barred x.1 line → Stopped before line
stop_add before line x None = None
stop_add before line x (Some y) =
    Some (x.0, y.0, y.1, record { before = before; line = line; others = []; cut = refl; end = x.1; run = x.2; refused = y.2; numbered = refl })

abbrev stop_by : (before : List (List ℕ)) (line : List ℕ) → Ran before new_mesh → Stopped before line
stop_by before line None = None
stop_by before line (Some x) = stop_add before line x (barred x.1 line)

abbrev stop : (before : List (List ℕ)) (line : List ℕ) → Stopped before line
stop before line = stop_by before line (run before new_mesh)

abbrev pub stopped : (before : List (List ℕ)) (line : List ℕ) → IsThere (stop before line) → (text : List ℕ) × (place : ℕ) × (word : List ℕ) × MeshRefuses (before ++ line ∷ []) text (length before + 1) place word
stopped before line t = there (stop before line) t
