-- A run: operations begun one after the other, the states that stand after each, and what a cut may have left.
use Rattle.std.specs.Prelude.{◌≡◌, ◌⊎◌, ℕ, zero, suc, ◌-◌, ◌≤◌, true, false, IsTrue, Some, None, List, [], ◌∷◌, length, take, Result, MatchResult, IfErr}
use Rattle.mu_model_flash.specs.declared.Pattern.{Pattern}
use Rattle.mu_model_flash.specs.declared.Pattern.TheVariants.{Old, New, Made}
use Rattle.mu_model_flash.specs.Bits.{Between}
use Rattle.mu_model_flash.specs.declared.Armed.{Armed}
use Rattle.mu_model_flash.specs.Cause.{Rose}
use Rattle.mu_model_flash.specs.Flash.{Seen, ticks, fallen, IsBefore, Unchanged}

-- how octets are read as states: which stand for a state, and which an operation from one to the next may leave in part
pub record Reading (S : Type 0) : Type 1 where
  pub Is : S → List ℕ → Type 0
  pub Torn : S → S → List ℕ → Type 0

-- the octets themselves
abbrev pub exact : Reading (List ℕ)
exact = record { Is = λ s c. c ≡ s; Torn = Between }

-- a cut leaves the one state or the other
abbrev pub either : {S : Type 0} → (S → List ℕ → Type 0) → Reading S
either Stands = record { Is = Stands; Torn = λ s t c. Stands s c ⊎ Stands t c }

-- the state after so many operations
abbrev pub state_at : {S : Type 0} → S → List S → ℕ → S
state_at s steps zero = s
state_at s [] (suc j) = s
state_at s (t ∷ steps) (suc j) = state_at t steps j

-- the state after all
abbrev pub last_of : {S : Type 0} → S → List S → S
last_of s [] = s
last_of s (t ∷ steps) = last_of t steps

-- one of the states passed, or between two of them
abbrev pub Passing : {S : Type 0} → Reading S → S → List S → List ℕ → Type 0
Passing R s [] c = R.Is s c
Passing R s (t ∷ steps) c = R.Is s c ⊎ (R.Torn s t c ⊎ Passing R t steps c)

-- so many operations began, of which the last may have been left in part
abbrev pub InPart : {S : Type 0} → Reading S → S → List S → ℕ → List ℕ → Type 0
InPart R s steps zero c = R.Is s c
InPart R s [] (suc j) c = ⊥
InPart R s (t ∷ steps) (suc zero) c = R.Torn s t c ⊎ R.Is t c
InPart R s (t ∷ steps) (suc (suc j)) c = InPart R t steps (suc j) c

-- the power went in operation j: what the pattern leaves
abbrev pub ByPattern : {S : Type 0} → Reading S → S → List S → ℕ → Pattern → List ℕ → Type 0
ByPattern R s steps j Old c = R.Is (state_at s steps (j - 1)) c
ByPattern R s steps j New c = R.Is (state_at s steps j) c
ByPattern R s steps j (Made seed) c = Unit {0}

-- Each state of the one list is a state of the other, operation by operation, and so is what may stand between two.
abbrev pub Refines : {S T : Type 0} → Reading S → Reading T → S → List S → T → List T → Type 0
Refines R Q s [] t [] = (c : List ℕ) → R.Is s c → Q.Is t c
Refines R Q s (x ∷ xs) t (y ∷ ys) = ((c : List ℕ) → R.Is s c → Q.Is t c) × ((c : List ℕ) → R.Torn s x c → Q.Torn t y c) × Refines R Q x xs y ys
Refines R Q s [] t (y ∷ ys) = ⊥
Refines R Q s (x ∷ xs) t [] = ⊥

pub record Keeps (old new : Seen) : Type 0 where
  pub pages : new.pages ≡ old.pages
  pub told : new.told ≡ old.told
  pub only_armed : new.only_armed ≡ old.only_armed
  pub faults : old.faults ≤ new.faults

-- each image that a cut since old, or since an earlier moment, may have left has P, or was one before
pub record Leaves (old new : Seen) (P : List ℕ → Type 0) : Type 0 where
  pub later : old.clock ≤ new.clock
  pub since : (c : List ℕ) → new.left_since old.clock c → P c
  pub before : (m : ℕ) (c : List ℕ) → m ≤ old.clock → new.left_since m c → old.left_since m c ⊎ P c

-- Every operation of the list began and was done. With none in the list no meaning has changed but the count of faults.
pub record Ran {S : Type 0} (R : Reading S) (s : S) (steps : List S) (old new : Seen) : Type 0 where
  pub keeps : Keeps old new
  pub was_on : old.off ≡ false
  pub on : new.off ≡ false
  pub unreached : IsBefore (length steps) old.armed
  pub armed : new.armed ≡ fallen old.armed (length steps)
  pub clock : IsTrue old.told → new.clock ≡ ticks old.clock (length steps)
  pub ends : IsTrue old.told → R.Is (last_of s steps) new.octets
  pub leaves : IsTrue old.told → Leaves old new (Passing R s steps)
  pub still : length steps ≡ 0 → Unchanged old new

-- The power went in the operation that was armed, the last that began.
pub record WentOff {S : Type 0} (R : Reading S) (s : S) (steps : List S) (begun : ℕ) (old new : Seen) : Type 0 where
  pub armed : Armed
  pub was : old.armed ≡ Some armed
  pub here : armed.number ≡ begun
  pub none : new.armed ≡ None
  pub left : IsTrue old.told → ByPattern R s steps begun armed.pattern new.octets

-- A call failed: so many operations of the list had begun, of which the last may have been left in part, and after it none began.
-- Where none had begun, no meaning has changed but the count of faults.
pub record Broke {S : Type 0} (R : Reading S) (s : S) (steps : List S) (old new : Seen) : Type 0 where
  pub keeps : Keeps old new
  pub rose : Rose old.faults new.faults
  pub cause : IsTrue old.only_armed → new.off ≡ true
  pub begun : ℕ
  pub at_most : begun ≤ length steps
  pub clock : IsTrue old.told → new.clock ≡ ticks old.clock begun
  pub ends : IsTrue old.told → InPart R s steps begun new.octets
  pub leaves : IsTrue old.told → Leaves old new (Passing R s (take begun steps))
  pub still : begun ≡ 0 → Unchanged old new
  pub stays_on : new.off ≡ false → (new.armed ≡ fallen old.armed begun) × IsBefore begun old.armed
  pub went_off : old.off ≡ false → new.off ≡ true → WentOff R s steps begun old new
  pub stays_off : old.off ≡ true → (new.off ≡ true) × (new.armed ≡ old.armed) × (begun ≡ 0)

-- Something else ended the call, after so many operations of the list that were all done.
pub record Stopped {S : Type 0} (R : Reading S) (s : S) (steps : List S) (old new : Seen) : Type 0 where
  pub done : ℕ
  pub at_most : done ≤ length steps
  pub ran : Ran R s (take done steps) old new

-- a call that fails by the flash alone
abbrev pub Runs : {S T E : Type 0} → Reading S → S → List S → Seen → Seen → Result T E → Type 0
Runs R s steps old new result = MatchResult result (λ _. Ran R s steps old new) (λ _. Broke R s steps old new)

-- A call that hands its flash on in what it answers: where the value and the error keep the flash, what the value keeps of the last state, and which errors are the flash's.
abbrev pub Goes : {S T E : Type 0} → Reading S → S → List S → Seen → (T → Seen) → (E → Seen) → (T → S → Type 0) → (E → Type 0) → Result T E → Type 0
Goes R s steps old ok err Kept ByFlash result = MatchResult result (λ t. Ran R s steps old (ok t) × Kept t (last_of s steps)) (λ e. ByFlash e → Broke R s steps old (err e))

-- The same call, where it was ended by something else.
abbrev pub Stops : {S T E : Type 0} → Reading S → S → List S → Seen → (E → Seen) → (E → Type 0) → Result T E → Type 0
Stops R s steps old err ByFlash result = IfErr result (λ e. ¬ ByFlash e → Stopped R s steps old (err e))
