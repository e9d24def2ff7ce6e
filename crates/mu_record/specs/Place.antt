-- Where a store's present record lies, and what the write of the next one keeps.
use Rattle.std.specs.Prelude.{◌≡◌, ℕ, ◌<◌, ◌≤◌, false, IsTrue, List, Result, MatchResult, OnOk}
use Rattle.mu_model_flash.specs.Bits.{SameOutside}
use Rattle.mu_model_flash.specs.declared.Failed.{Failed}
use Rattle.mu_model_flash.specs.Flash.{Seen}
use Rattle.mu_model_flash.specs.Run.{either, Ran, Broke}
use Rattle.mu_model_record.specs.declared.Record.{Record}
use Rattle.mu_model_record.specs.Page.{Word}
use Rattle.mu_model_record.specs.Store.{StoreState}
use Rattle.mu_model_record.specs.Represents.{ControlPages, RepresentsAt, RepresentsStore, IsFollowedBy, IsBeforeFresh}
use Rattle.mu_model_record.specs.Next.{IsNext}
use Rattle.mu_record.specs.declared.write.Place.{Place}

-- a control page of the flash, and so many slots of it that read FF
pub record IsPlace (f : Seen) (page fresh : ℕ) : Type 0 where
  pub both : 2 ≤ f.pages
  pub one_of_two : page < 2
  pub few : fresh < 4
  pub is_blank : IsTrue f.told → IsFollowedBy page fresh f.octets

-- The flash represents a state, with its present record on this page before so many fresh slots.
pub record HoldsAt (f : Seen) (page fresh : ℕ) (d : StoreState) : Type 0 where
  pub told : IsTrue f.told
  pub on : f.off ≡ false
  pub word : Word
  pub represents : RepresentsAt page word d f.octets
  pub is_before : IsBeforeFresh word fresh

-- all past the control pages is as before
abbrev pub StaysPast : {T E : Type 0} → Seen → Seen → Result T E → Type 0
StaysPast old new result = IsTrue old.told → OnOk result (SameOutside 0 8192 old.octets new.octets)

-- A call that goes through these states to one whose present record is this.
abbrev pub WritesNext : Seen → Seen → ℕ → ℕ → Record → (StoreState → StoreState → List StoreState) → Result Place Failed → Type 0
WritesNext old new page fresh r steps result =
    (d e : StoreState) → HoldsAt old page fresh d → IsNext old.octets d e → e.present ≡ r
    → MatchResult result
    (λ place. Ran (either RepresentsStore) d (steps d e) old new × HoldsAt new place.page place.fresh e)
    (λ _. Broke (either RepresentsStore) d (steps d e) old new)

-- the control pages of a flash whose one record is this, before so many fresh slots
pub record IsFirst (r : Record) (fresh : ℕ) (octets : List ℕ) : Type 0 where
  pub word : Word
  pub control : ControlPages 0 word r octets
  pub is_before : IsBeforeFresh word fresh
  pub followed : IsFollowedBy 0 fresh octets
