-- Operations on a range that has nothing of what a store's banks hold.
use Rattle.std.proofs.Common.{◌⊎◌, inl, inr, ℕ, zero, suc, ◌<◌, ◌≤◌, List, replicate}
use Rattle.mu_model_flash.specs.Bits.{SameOutside}
use Rattle.mu_model_flash.specs.Run.{either, Refines}
use Rattle.mu_model_record.specs.Page.{Word}
use Rattle.mu_model_record.specs.Turns.{StaysOutside}
use Rattle.mu_model_record.specs.Record.{entry_of}
use Rattle.mu_model_record.specs.Store.{StoreState, content_of_bank}
use Rattle.mu_model_record.specs.Represents.{RepresentsAt, RepresentsStore}
use Rattle.mu_model_record.specs.Free.{IsFreeOf}
use Rattle.mu_model_record.proofs.FrameLemmas.{represents_same}
use Rattle.mu_model_flash.specs.Laws.{RangeLaws}

module _ (ranges : RangeLaws) (page : ℕ) (word : Word) (d : StoreState) (old : List ℕ) (at n : ℕ) (past : 8192 ≤ at) (free : (b : ℕ) → b < d.present.number → IsFreeOf d.present b (entry_of d.present b) (content_of_bank d b) at n) (is : RepresentsAt page word d old) where
  pub free_same : (c : List ℕ) → SameOutside at n old c → RepresentsAt page word d c
  free_same c out = (represents_same ranges) page word d old c at n past out free is

  stands : (c : List ℕ) → SameOutside at n old c → RepresentsStore d c
  stands c out = (page, word, free_same c out)

  torn : (c : List ℕ) → SameOutside at n old c ⊎ SameOutside at n old c → RepresentsStore d c ⊎ RepresentsStore d c
  torn c (inl out) = inl (stands c out)
  torn c (inr out) = inr (stands c out)

  pub free_reads : (k : ℕ) → Refines (either (StaysOutside at n old)) (either RepresentsStore) tt (replicate k tt) d (replicate k d)
  free_reads zero = λ c out. stands c out
  free_reads (suc k) = (λ c out. stands c out, λ c t. torn c t, free_reads k)
