-- What reading an input line by line comes to.
use Rattle.std.specs.Prelude.{◌≡◌, ◌≢◌, ℕ, ◌+◌, ◌<◌, ◌≤◌, Option, Some, None, IfSome, List, [], ◌∷◌, ◌++◌, length, Result, Ok, Err}
use Rattle.std.specs.List.{AllByRecursion}
use Rattle.mu_model_script.specs.Limits.{most_octets, most_in_line}
use Rattle.mu_model_script.specs.Pieces.{line_feed}
use Rattle.mu_input.specs.declared.reader.Next.{Next}
use Rattle.mu_input.specs.declared.reader.Next.TheVariants.{Line, Last, End}
use Rattle.mu_input.specs.declared.reader.ReadStop.{ReadStop}
use Rattle.mu_input.specs.declared.reader.ReadStop.TheVariants.{Source, TooLong, LongLine}

-- a reader of lines: the octets that it has and hasn't given yet, how many it gave, and the line that it gave last
pub record Reader : Type 0 where
  pub ahead : List ℕ
  pub given : ℕ
  pub line : List ℕ

-- the octets that are still to come, of a reader and its source
abbrev pub to_come : Reader → List ℕ → List ℕ
to_come r left = r.ahead ++ left

-- a part of a line: octets without LF
abbrev pub IsPart : List ℕ → Type 0
IsPart octets = AllByRecursion (λ octet. octet ≢ line_feed) octets

-- one octet more was given
pub record GivesOctet (old new : Reader) (before after : List ℕ) (octet : ℕ) : Type 0 where
  pub first : to_come old before ≡ octet ∷ to_come new after
  pub given : new.given ≡ old.given + 1
  pub within : old.given < most_octets
  pub line : new.line ≡ old.line

-- nothing was given, and the reader has nothing ahead
pub record IsAtRest (old new : Reader) (before after : List ℕ) : Type 0 where
  pub same : to_come old before ≡ to_come new after
  pub given : new.given ≡ old.given
  pub line : new.line ≡ old.line

-- what the answer of a call for the next octet says
abbrev pub NextOctet : Reader → Reader → List ℕ → List ℕ → Result (Option ℕ) ReadStop → Type 0
NextOctet old new before after (Ok (Some octet)) = GivesOctet old new before after octet
NextOctet old new before after (Ok None) = IsAtRest old new before after × (to_come new after ≡ [])
NextOctet old new before after (Err Source) = IsAtRest old new before after × (new.ahead ≡ [])
NextOctet old new before after (Err TooLong) = IsAtRest old new before after × (to_come new after ≢ []) × (new.given ≡ most_octets)
NextOctet old new before after (Err LongLine) = ⊥

-- the octets of the line so far, as they came
pub record Took (old new : Reader) (before after part : List ℕ) : Type 0 where
  pub taken : to_come old before ≡ part ++ to_come new after
  pub given : new.given ≡ old.given + length part
  pub within : new.given ≤ most_octets

-- a whole line came, with what ends it
pub record GivesLine (old new : Reader) (before after octets : List ℕ) : Type 0 where
  pub part : IsPart new.line
  pub short : length new.line ≤ most_in_line
  pub took : Took old new before after octets

-- the line that had begun came in part, and no whole line
pub record Stopped (old new : Reader) (before after : List ℕ) : Type 0 where
  pub part : IsPart new.line
  pub short : length new.line ≤ most_in_line
  pub took : Took old new before after new.line

-- octets ahead went to the line together
pub record TookPart (old new : Reader) : Type 0 where
  pub part : List ℕ
  pub is : IsPart part
  pub ahead : old.ahead ≡ part ++ new.ahead
  pub line : new.line ≡ old.line ++ part
  pub given : new.given ≡ old.given + length part
  pub within : new.given ≤ most_octets
  pub short : length new.line ≤ most_in_line

-- what the answer of a call for the next line says
abbrev pub NextLine : Reader → Reader → List ℕ → List ℕ → Result Next ReadStop → Type 0
NextLine old new before after (Ok Line) = GivesLine old new before after (new.line ++ line_feed ∷ [])
NextLine old new before after (Ok Last) = GivesLine old new before after new.line × (new.line ≢ []) × (to_come new after ≡ [])
NextLine old new before after (Ok End) = (to_come old before ≡ []) × Took old new before after []
NextLine old new before after (Err Source) = Stopped old new before after × (new.ahead ≡ [])
NextLine old new before after (Err TooLong) = Stopped old new before after × (to_come new after ≢ []) × (new.given ≡ most_octets)
NextLine old new before after (Err LongLine) =
    IsPart new.line × (length new.line ≡ most_in_line) × ((octet : ℕ) × (octet ≢ line_feed) × Took old new before after (new.line ++ octet ∷ []))

-- a fact about what was told before and what is told now, where it is told now
abbrev pub WhereTold : Option (List ℕ) → Option (List ℕ) → (List ℕ → List ℕ → Type 0) → Type 0
WhereTold old new P = IfSome new (λ after. (before : List ℕ) × (old ≡ Some before) × P before after)
