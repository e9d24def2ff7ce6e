-- How a command ends that does its input line by line. `Does`, `Bars` and `Wears` say what it does with a line, which it refuses, and
-- which would wear out a flash; `start` is its state before the first line, and at most `most` lines may come.
use Rattle.std.specs.Prelude.{◌≡◌, ◌⊎◌, ℕ, Option, List, [], ◌∷◌, ◌++◌, take}
use Rattle.mu_model_script.specs.Limits.{first_lines, ended_lines, Passes}
use Rattle.mu_model_script.specs.Runs.{Run, Prints, Refuses}
use Rattle.mu_model_script.specs.Texts.{refused_text}
use Rattle.mu_input.specs.Reading.{WhereTold}
use Rattle.mu_command_line.specs.Status.{number_of}
use Rattle.mu_command_line.specs.declared.status.Status.{Status}
use Rattle.mu_command_line.specs.declared.status.Status.TheVariants.{Done, SourceFault, SinkFault, Refused, NoMemory, Worn, TooLong}

-- from a state, by a line, with a text, to a state
abbrev pub Doing : Type 0 → Type 1
Doing W = W → List ℕ → List ℕ → W → Type 0

-- in a state, a line, at a place, with a word
abbrev pub Barring : Type 0 → Type 1
Barring W = W → List ℕ → ℕ → List ℕ → Type 0

-- in a state, a line
abbrev pub Wearing : Type 0 → Type 1
Wearing W = W → List ℕ → Type 0

-- the whole input is done, and its trace is written
pub record IsWhole {W : Type 0} (Does : Doing W) (start : W) (most : ℕ) (held left written : List ℕ) : Type 0 where
  pub read : left ≡ []
  pub within : Passes most held → ⊥
  pub trace : Prints Does start (first_lines most held) written

-- a line is refused: what the lines before it print is written, and the line of the refusal
pub record IsRefused {W : Type 0} (Does : Doing W) (Bars : Barring W) (start : W) (most : ℕ) (held written : List ℕ) : Type 0 where
  pub text : List ℕ
  pub number : ℕ
  pub place : ℕ
  pub word : List ℕ
  pub refused : Refuses Does Bars start (first_lines most held) text number place word
  pub written_is : written ≡ text ++ refused_text number place word

-- a line would wear out a flash: what the lines before it print is written
pub record IsWornOut {W : Type 0} (Does : Doing W) (Wears : Wearing W) (start : W) (most : ℕ) (held written : List ℕ) : Type 0 where
  pub before : List (List ℕ)
  pub line : List ℕ
  pub others : List (List ℕ)
  pub cut : first_lines most held ≡ before ++ line ∷ others
  pub end : W
  pub run : Run Does start before written end
  pub wears : Wears end line

-- a limit is passed, and no line before that is refused
pub record IsTooLong {W : Type 0} (Does : Doing W) (start : W) (most : ℕ) (held written : List ℕ) : Type 0 where
  pub past : Passes most held
  pub trace : Prints Does start (first_lines most held) written

-- the octets that were read, and the trace of the lines that they end
pub record IsInPart {W : Type 0} (Does : Doing W) (start : W) (held left written : List ℕ) : Type 0 where
  pub read : List ℕ
  pub cut : held ≡ read ++ left
  pub trace : Prints Does start (ended_lines read) written

-- the trace of some of the first lines
pub record IsTraceOfSome {W : Type 0} (Does : Doing W) (start : W) (most : ℕ) (held written : List ℕ) : Type 0 where
  pub count : ℕ
  pub trace : Prints Does start (take count (first_lines most held)) written

-- a beginning of such a trace, or of all that is written where a line is refused
pub record IsBeginning {W : Type 0} (Does : Doing W) (Bars : Barring W) (start : W) (most : ℕ) (held written : List ℕ) : Type 0 where
  pub whole : List ℕ
  pub rest : List ℕ
  pub begins : written ++ rest ≡ whole
  pub trace : IsTraceOfSome Does start most held whole ⊎ IsRefused Does Bars start most held whole

-- From the octets that the source held, `left` are left, these octets were written, and this was the status.
abbrev pub EndsWith : {W : Type 0} → Doing W → Barring W → Wearing W → (start : W) (most : ℕ) (held left written : List ℕ) → Status → Type 0
EndsWith Does Bars Wears start most held left written Done = IsWhole Does start most held left written
EndsWith Does Bars Wears start most held left written Refused = IsRefused Does Bars start most held written
EndsWith Does Bars Wears start most held left written TooLong = IsTooLong Does start most held written
EndsWith Does Bars Wears start most held left written SourceFault = IsInPart Does start held left written
EndsWith Does Bars Wears start most held left written SinkFault = IsBeginning Does Bars start most held written
EndsWith Does Bars Wears start most held left written NoMemory = IsTraceOfSome Does start most held written
EndsWith Does Bars Wears start most held left written Worn = IsWornOut Does Wears start most held written
-- no other status comes
EndsWith Does Bars Wears start most held left written _ = ⊥

-- the same of what a source and a sink tell before and after
abbrev pub Ends : {W : Type 0} → Doing W → Barring W → Wearing W → (start : W) (most : ℕ) (source source' sink sink' : Option (List ℕ)) → Status → Type 0
Ends Does Bars Wears start most source source' sink sink' status =
    WhereTold source source' (λ held left. WhereTold sink sink' (λ before after. (written : List ℕ) × (after ≡ before ++ written) × EndsWith Does Bars Wears start most held left written status))

-- what is written is the trace of some of the first lines, by what a source and a sink tell before and after
abbrev pub EndsInPart : {W : Type 0} → Doing W → (start : W) (most : ℕ) (source source' sink sink' : Option (List ℕ)) → Type 0
EndsInPart Does start most source source' sink sink' =
    WhereTold source source' (λ held left. WhereTold sink sink' (λ before after. (written : List ℕ) × (after ≡ before ++ written) × IsTraceOfSome Does start most held written))

-- ---- completeness

-- in each run, no line is refused
abbrev pub NoneRefused : {W : Type 0} → Doing W → Barring W → (start : W) (most : ℕ) (held : List ℕ) → Type 0
NoneRefused Does Bars start most held = (text : List ℕ) (number place : ℕ) (word : List ℕ) → Refuses Does Bars start (first_lines most held) text number place word → ⊥

-- in each run, no line would wear out a flash
abbrev pub NoneWears : {W : Type 0} → Doing W → Wearing W → (start : W) (most : ℕ) (held : List ℕ) → Type 0
NoneWears Does Wears start most held = (text : List ℕ) → IsWornOut Does Wears start most held text → ⊥

-- no run does all lines
abbrev pub NoneDone : {W : Type 0} → Doing W → (start : W) (most : ℕ) (held : List ℕ) → Type 0
NoneDone Does start most held = (text : List ℕ) → Prints Does start (first_lines most held) text → ⊥

-- this status, unless memory is wanting
abbrev pub OrNoMemory : Status → Status → Type 0
OrNoMemory wanted status = (status ≡ wanted) ⊎ (status ≡ NoMemory)

-- how an input ends that is read to its end or to its first fault, and whose trace can be written
pub record EndsAsItMust {W : Type 0} (Does : Doing W) (Bars : Barring W) (Wears : Wearing W) (start : W) (most : ℕ) (held : List ℕ) (status : Status) : Type 0 where
  pub done : (Passes most held → ⊥) → NoneRefused Does Bars start most held → NoneWears Does Wears start most held → OrNoMemory Done status
  pub too_long : Passes most held → NoneRefused Does Bars start most held → NoneWears Does Wears start most held → OrNoMemory TooLong status
  pub refused : NoneDone Does start most held → NoneWears Does Wears start most held → OrNoMemory Refused status
  pub worn : NoneDone Does start most held → NoneRefused Does Bars start most held → OrNoMemory Worn status

-- what must hold of an input and a status, where a source and a sink tell
abbrev pub Completes : (List ℕ → Status → Type 0) → (source source' sink sink' : Option (List ℕ)) → Status → Type 0
Completes Must source source' sink sink' status = WhereTold source source' (λ held left. WhereTold sink sink' (λ before after. Must held status))

-- a status and its number
abbrev pub ByNumber : (Status → Type 0) → ℕ → Type 0
ByNumber Holds number = (status : Status) × (number ≡ number_of status) × Holds status

-- what is written of a refusal's line, by the status
abbrev pub Told : (sink sink' : Option (List ℕ)) (text : List ℕ) → Status → Type 0
Told sink sink' text Refused = WhereTold sink sink' (λ before after. after ≡ before ++ text)
Told sink sink' text SinkFault = WhereTold sink sink' (λ before after. (count : ℕ) × (after ≡ before ++ take count text))
Told sink sink' text _ = ⊥
