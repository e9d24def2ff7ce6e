-- A bank that is read: no operation begins, and the state stays.
use Rattle.std.proofs.Common.{◌≡◌, ℕ, true, IsTrue, List, [], sym, ◌∙◌, subst, arith}
use Rattle.mu_model_flash.specs.Cause.{Rose}
use Rattle.mu_model_flash.specs.Flash.{Seen, IsSound, Unchanged}
use Rattle.mu_model_flash.specs.Run.{either, Ran, Broke}
use Rattle.mu_model_flash.specs.Laws.{RunsAreRead}
use Rattle.mu_model_record.specs.Store.{StoreState}
use Rattle.mu_model_record.specs.Represents.{RepresentsAt, RepresentsStore}
use Rattle.mu_model_record.specs.Ways.{as_store, StateOf, reading_of}
use Rattle.mu_record.specs.Place.{HoldsAt}
use Rattle.mu_store.proofs.RunLemmas.{unchanged_keeps}

module _ (a b : Seen) (sound : IsSound a) (same : Unchanged a b) (page fresh : ℕ) (d : StoreState) (holds : HoldsAt a page fresh d) where
  here : RepresentsStore d a.octets
  here = (page, holds.word, holds.represents)

  pub read_ran : RunsAreRead StateOf reading_of a b → Ran (either RepresentsStore) d [] a b
  read_ran reads = reads.none as_store d sound same holds.on (λ told. here)

  pub read_holds : HoldsAt b page fresh d
  read_holds = record {
    told = same.told ∙ holds.told;
    on = same.off ∙ holds.on;
    word = holds.word;
    represents = subst (λ (o : List ℕ). RepresentsAt page holds.word d o) (sym (same.octets holds.told)) holds.represents;
    is_before = holds.is_before;
  }

  pub read_broke : RunsAreRead StateOf reading_of a b → (steps : List StoreState) → Rose a.faults b.faults → (IsTrue a.only_armed → b.off ≡ true) → Broke (either RepresentsStore) d steps a b
  read_broke reads steps rose cause =
      let ran = read_ran reads in
      record {
        keeps = unchanged_keeps a b same;
        rose = rose;
        cause = cause;
        begun = 0;
        at_most = omega arith;
        clock = ran.clock;
        ends = ran.ends;
        leaves = ran.leaves;
        still = λ none. same;
        stays_on = λ on. (ran.armed, ran.unreached);
        went_off = λ was off. absurd (cc (off, same.off, holds.on));
        stays_off = λ off. absurd (cc (off, holds.on));
      }
