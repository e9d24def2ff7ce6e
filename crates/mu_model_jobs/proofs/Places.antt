-- Banks and what they hold, after a change.
use Rattle.std.proofs.Common.{◌≡◌, ◌⊎◌, inl, inr, ◌<◌, ◌≤◌, ℕ, zero, suc, Bool, true, false, List, [], ◌∷◌, length, set, get_or, refl, sym, ap, arith}
use Rattle.std.specs.Prelude.{◌≢◌, slice_index_or}
use Rattle.std.proofs.lemmas.List.{get_or-set_other}
use Rattle.std.proofs.lemmas.Grind.{get_or-set_at}
use Rattle.mu_model_record.specs.declared.BankState.{BankState}
use Rattle.mu_model_record.specs.declared.BankState.TheVariants.{Empty}
use Rattle.mu_model_record.specs.Record.{entry_of}
use Rattle.mu_model_record.specs.Store.{Content, nothing, StoreState, content_of_bank}
use Rattle.mu_model_record.specs.Changes.{with_bank, cleared}
use Rattle.mu_model_represents.specs.StoreStates.{IsStoreState}

pub same_or_other : (i k : ℕ) → (i ≡ k) ⊎ (i ≢ k)
same_or_other i k = grind arith

-- the bank that is changed
pub entry_here : (s : StoreState) (bank b : ℕ) (entry : BankState) (content : Content) (tag : List ℕ) → IsStoreState s → bank < s.present.number → b ≡ bank
    → entry_of (with_bank s bank entry content tag).present b ≡ entry
entry_here s bank b entry content tag is there e = get_or-set_at s.present.banks bank b entry Empty e (omega (arith, is.in_range.four, is.in_range.number_most))

pub content_here : (s : StoreState) (bank b : ℕ) (entry : BankState) (content : Content) (tag : List ℕ) → IsStoreState s → bank < s.present.number → b ≡ bank
    → content_of_bank (with_bank s bank entry content tag) b ≡ content
content_here s bank b entry content tag is there e = get_or-set_at s.contents bank b content nothing e (omega (arith, is.as_many))

-- the others
pub entry_other : (s : StoreState) (bank b : ℕ) (entry : BankState) (content : Content) (tag : List ℕ) → b ≢ bank
    → entry_of (with_bank s bank entry content tag).present b ≡ entry_of s.present b
entry_other s bank b entry content tag ne = get_or-set_other s.present.banks bank b entry Empty ne

pub content_other : (s : StoreState) (bank b : ℕ) (entry : BankState) (content : Content) (tag : List ℕ) → b ≢ bank
    → content_of_bank (with_bank s bank entry content tag) b ≡ content_of_bank s b
content_other s bank b entry content tag ne = get_or-set_other s.contents bank b content nothing ne

-- ---- banks that are released

pub cleared_same : {X : Type 0} (none : X) (named : List Bool) (xs : List X) (b : ℕ) → get_or named b false ≡ false → get_or (cleared none named xs) b none ≡ get_or xs b none
cleared_same none [] xs b e = refl
cleared_same none (n ∷ named) [] b e = refl
cleared_same none (false ∷ named) (x ∷ xs) zero e = refl
cleared_same none (true ∷ named) (x ∷ xs) zero e = cc
cleared_same none (n ∷ named) (x ∷ xs) (suc b) e = cleared_same none named xs b e

pub cleared_none : {X : Type 0} (none : X) (named : List Bool) (xs : List X) (b : ℕ) → get_or named b false ≡ true → get_or (cleared none named xs) b none ≡ none
cleared_none none [] xs b e = cc
cleared_none none (n ∷ named) [] b e = refl
cleared_none none (true ∷ named) (x ∷ xs) zero e = refl
cleared_none none (false ∷ named) (x ∷ xs) zero e = cc
cleared_none none (n ∷ named) (x ∷ xs) (suc b) e = cleared_none none named xs b e

pub length-cleared : {X : Type 0} (none : X) (named : List Bool) (xs : List X) → length (cleared none named xs) ≡ length xs
length-cleared none [] xs = refl
length-cleared none (n ∷ named) [] = refl
length-cleared none (n ∷ named) (x ∷ xs) = ap suc (length-cleared none named xs)
