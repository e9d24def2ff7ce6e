-- What is found on the control pages.
use Rattle.std.specs.Prelude.{◌≡◌, ◌⊎◌, ℕ, ◌<◌, List, Option, Some, None, nat_lt, if◌then◌else◌}
use Rattle.mu_model_record.specs.declared.Record.{Record}
use Rattle.mu_model_record.specs.Page.{Word}
use Rattle.mu_model_record.specs.Record.{IsRecord, IsWordOf}
use Rattle.mu_model_record.specs.Kinds.{HasWord, slot_of_word, IsRecordWord, IsBehind, IsPresent, IsBlank}
use Rattle.mu_record.specs.declared.find.Found.{Found}
use Rattle.mu_record.specs.declared.find.Found.TheVariants.{Blank, Foreign, Present}

-- with a word that comes next: the greater count, of equal ones the first
abbrev pub found_with : Found → ℕ → Option Record → Found
found_with found page None = Foreign
found_with Blank page (Some r) = Present page r
found_with Foreign page (Some r) = Foreign
found_with (Present p s) page (Some r) = if nat_lt s.count r.count then Present page r else Present p s

-- a word that isn't a record of its place
abbrev pub HasOther : List ℕ → Type 0
HasOther image = (page : ℕ) × (word : Word) × HasWord image page word × ¬ IsRecordWord word

-- what the control pages have
abbrev pub IsFound : List ℕ → Found → Type 0
IsFound image Blank = IsBlank image
IsFound image Foreign = HasOther image
IsFound image (Present page r) = (word : Word) × IsPresent image page word r

-- a word lies before a slot of a page
abbrev pub IsBefore : ℕ → ℕ → ℕ → Word → Type 0
IsBefore page slot q v = (q < page) ⊎ ((q ≡ page) × (slot_of_word v < slot))

-- the present record among the words before a slot of a page
pub record IsBest (image : List ℕ) (page slot p : ℕ) (word : Word) (r : Record) : Type 0 where
  pub there : HasWord image p word
  pub is_before : IsBefore page slot p word
  pub spells : IsWordOf word r
  pub in_range : IsRecord r
  pub greatest : (q : ℕ) (v : Word) → HasWord image q v → IsBefore page slot q v → IsBehind q v p word r.count

-- what the words before a slot of a page are
abbrev pub FoundBefore : List ℕ → ℕ → ℕ → Found → Type 0
FoundBefore image page slot Blank = (q : ℕ) (v : Word) → HasWord image q v → ¬ IsBefore page slot q v
FoundBefore image page slot Foreign = HasOther image
FoundBefore image page slot (Present p r) = (word : Word) × IsBest image page slot p word r

-- whatever the flash tells
abbrev pub IsSoundFound : Found → Type 0
IsSoundFound Blank = Unit {0}
IsSoundFound Foreign = Unit {0}
IsSoundFound (Present page r) = (page < 2) × IsRecord r
