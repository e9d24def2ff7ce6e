-- How a command ends that does its input line by line. The state that it ends in is the last index of each way, so that a caller can
-- speak of the state that it is handed back (this profile).
use Rattle.std.specs.Prelude.{ℕ, ◌≡◌, ◌⊎◌, ◌+◌, List, [], ◌∷◌, ◌++◌, length, take}
use Rattle.mu_model_script.specs.Limits.{first_lines, ended_lines, Passes}
use Rattle.mu_model_script.specs.Runs.{Run}
use Rattle.mu_model_script.specs.Texts.{refused_text}

-- What lines do in the states of a command: in a state a line does this, with this text, and leads to the next; it is refused at this
-- place with this word; it would wear out a flash; it would pass a limit of the state. At most so many lines may come.
pub record Lines (W : Type 0) : Type 1 where
  pub does : W → (line : List ℕ) → (text : List ℕ) → W → Type 0
  pub bars : W → (line : List ℕ) → (place : ℕ) → (word : List ℕ) → Type 0
  pub wears : W → (line : List ℕ) → Type 0
  pub passes : W → (line : List ℕ) → Type 0
  pub start : W
  pub most : ℕ

-- the lines before this one are done, with this text, and lead to this state; the line isn't
pub record StopsAt {W : Type 0} (s : Lines W) (held line : List ℕ) (number : ℕ) (text : List ℕ) (end : W) : Type 0 where
  pub before : List (List ℕ)
  pub others : List (List ℕ)
  pub cut : first_lines s.most held ≡ before ++ line ∷ others
  -- counted from 1
  pub numbered : number ≡ length before + 1
  pub run : Run s.does s.start before text end

-- ---- the ways, over the octets that the input held, those that are left and those that were written

-- the whole input is done
pub record IsWhole {W : Type 0} (s : Lines W) (held left written : List ℕ) (end : W) : Type 0 where
  pub read : left ≡ []
  pub within : Passes s.most held → ⊥
  pub run : Run s.does s.start (first_lines s.most held) written end

-- a line is refused: what the lines before it print is written, and the line of the refusal
pub record IsRefused {W : Type 0} (s : Lines W) (held written : List ℕ) (end : W) : Type 0 where
  pub line : List ℕ
  pub number : ℕ
  pub text : List ℕ
  pub at : StopsAt s held line number text end
  pub place : ℕ
  pub word : List ℕ
  pub refused : s.bars end line place word
  pub written_is : written ≡ text ++ refused_text number place word

-- a line would wear out a flash: what the lines before it print is written
pub record IsWornOut {W : Type 0} (s : Lines W) (held written : List ℕ) (end : W) : Type 0 where
  pub line : List ℕ
  pub number : ℕ
  pub at : StopsAt s held line number written end
  pub wears : s.wears end line

-- a limit on the input is passed, behind the lines that are done
pub record IsPastInput {W : Type 0} (s : Lines W) (held written : List ℕ) (end : W) : Type 0 where
  pub past : Passes s.most held
  pub run : Run s.does s.start (first_lines s.most held) written end

-- a line would pass a limit of the state, and isn't carried out
pub record IsPastState {W : Type 0} (s : Lines W) (held written : List ℕ) (end : W) : Type 0 where
  pub line : List ℕ
  pub number : ℕ
  pub at : StopsAt s held line number written end
  pub passes : s.passes end line

abbrev pub IsTooLong : {W : Type 0} → Lines W → (held written : List ℕ) → W → Type 0
IsTooLong s held written end = IsPastInput s held written end ⊎ IsPastState s held written end

-- the source failed: the lines that its octets end are done
pub record IsInPart {W : Type 0} (s : Lines W) (held left written : List ℕ) (end : W) : Type 0 where
  pub read : List ℕ
  pub cut : held ≡ read ++ left
  pub run : Run s.does s.start (ended_lines read) written end

-- some of the first lines are done
pub record IsTraceOfSome {W : Type 0} (s : Lines W) (held written : List ℕ) (end : W) : Type 0 where
  pub count : ℕ
  pub run : Run s.does s.start (take count (first_lines s.most held)) written end

-- the sink failed: a beginning of such a trace, or of all that is written where a line is refused
pub record IsBeginning {W : Type 0} (s : Lines W) (held written : List ℕ) (end : W) : Type 0 where
  pub whole : List ℕ
  pub rest : List ℕ
  pub begins : written ++ rest ≡ whole
  pub trace : IsTraceOfSome s held whole end ⊎ IsRefused s held whole end

-- ---- by the input alone

-- the ways in which an input ends that is read to its end or to its first fault
pub data Way : Type 0 where
  Done : Way
  Refused : Way
  WornOut : Way
  TooLong : Way

abbrev pub EndsBy : {W : Type 0} → Lines W → (held left written : List ℕ) → W → Way → Type 0
EndsBy s held left written end Done = IsWhole s held left written end
EndsBy s held left written end Refused = IsRefused s held written end
EndsBy s held left written end WornOut = IsWornOut s held written end
EndsBy s held left written end TooLong = IsTooLong s held written end

-- One of its runs ends so, whatever is told of what was written and of what is left. Where lines may do more than one thing, an input
-- may have several ways, and has no others.
pub record MayEnd {W : Type 0} (s : Lines W) (held : List ℕ) (way : Way) : Type 0 where
  pub left : List ℕ
  pub written : List ℕ
  pub end : W
  pub ends : EndsBy s held left written end way
