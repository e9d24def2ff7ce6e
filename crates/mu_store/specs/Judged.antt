-- What a boot finds, as it is kept.
use Rattle.std.specs.Prelude.{◌≡◌, ℕ, ◌<◌, false, Option, Some, None, List}
use Rattle.mu_model_flash.specs.Flash.{Seen}
use Rattle.mu_model_image.specs.Pieces.{block_count}
use Rattle.mu_model_record.specs.declared.Record.{Record}
use Rattle.mu_model_record.specs.declared.BankState.TheVariants.{Filling}
use Rattle.mu_model_record.specs.Page.{Word}
use Rattle.mu_model_record.specs.Record.{IsRecord, IsFilling, entry_of}
use Rattle.mu_model_record.specs.Store.{pages_of}
use Rattle.mu_model_record.specs.Kinds.{IsPresent, IsBlank, IsForeign, IsDamaged, IsStore}
use Rattle.mu_store.specs.declared.judge.Marks.{Marks}
use Rattle.mu_store.specs.declared.judge.Judged.{Judged}
use Rattle.mu_store.specs.declared.judge.Judged.TheVariants.{Blank, Foreign, Damaged, Whole}
use Rattle.mu_store.specs.Marks.{AreHeld}

-- the bank that is Filling, or none
abbrev pub IsSoundMarks : Record → Option Marks → Type 0
IsSoundMarks r None = (b : ℕ) → ¬ IsFilling (entry_of r b)
IsSoundMarks r (Some m) = (m.bank < r.number) × (entry_of r m.bank ≡ Filling m.size m.log)

-- its marks
abbrev pub AreMarksOf : Option Marks → List ℕ → Type 0
AreMarksOf None image = Unit {0}
AreMarksOf (Some m) image = AreHeld m.bank (block_count m.size m.log) m.held image

-- a store, with its present record and its marks
pub record IsWhole (image : List ℕ) (page : ℕ) (r : Record) (marks : Option Marks) : Type 0 where
  pub word : Word
  pub is : IsPresent image page word r
  pub store : IsStore image r
  pub marks_are : AreMarksOf marks image

abbrev pub IsJudged : List ℕ → Judged → Type 0
IsJudged image Blank = IsBlank image
IsJudged image Foreign = IsForeign image
IsJudged image (Damaged damage) = IsDamaged image damage.bank damage.want damage.found
IsJudged image (Whole page r marks) = IsWhole image page r marks

-- whatever the flash tells
abbrev pub IsSoundJudged : Seen → Judged → Type 0
IsSoundJudged f Blank = Unit {0}
IsSoundJudged f Foreign = Unit {0}
IsSoundJudged f (Damaged damage) = Unit {0}
IsSoundJudged f (Whole page r marks) = (page < 2) × IsRecord r × (f.pages ≡ pages_of r) × (f.off ≡ false) × IsSoundMarks r marks
