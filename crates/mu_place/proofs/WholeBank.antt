-- A bank that is filled whole, of a store and of a place at rest.
use Rattle.std.proofs.Common.{◌≡◌, ℕ, Option, None, List, [], refl}
use Rattle.mu_model_flash.specs.Flash.{Seen}
use Rattle.mu_model_record.specs.Next.{fresh_after}
use Rattle.mu_store.specs.View.{store_record, store_fresh}
use Rattle.mu_store.specs.Filled.{Asked, IsFilled, IsLeft, IsBroken, FailsBy}
use Rattle.mu_store.specs.declared.store.Store.{Store}
use Rattle.mu_store.specs.declared.whole.FillWhy.{FillWhy}
use Rattle.mu_store.specs.declared.whole.FillWhy.TheVariants.{Flash, Worn, Read, Empty, TooBig}
use Rattle.mu_place.specs.declared.place.Place.{Place}
use Rattle.mu_place.specs.declared.place.Place.TheVariants.{Rest}
use Rattle.mu_place.specs.Filled.{IsFilledWhole, IsLeftWhole, IsBrokenWhole, FailsWhole}

module _ {F : Type 0} {g : _} (seen : F → Seen) (old : Store F g) (asked : Asked) (before after : Option (List ℕ)) where
  pub filled_whole : (new : Store F g) → IsFilled seen old asked before after new → store_fresh new ≡ fresh_after (store_fresh old) (store_record new) → IsFilledWhole seen (Rest old) asked before after (Rest new)
  filled_whole new is fresh = record {
    octets = is.octets;
    some = is.some;
    most = is.most;
    gave = is.gave;
    at_end = is.at_end;
    fault = refl;
    filling = refl;
    fields = is.fields;
    fresh = fresh;
    runs = is.runs;
  }

  left_whole : (octets : List ℕ) (new : Seen) → IsLeft seen old before after octets new → IsLeftWhole seen (Rest old) before after octets new
  left_whole octets new is = record { gave = is.gave; runs = is.runs }

  pub fails_whole : (new : Seen) (why : FillWhy) → FailsBy seen old asked before after new why → FailsWhole seen (Rest old) asked before after new why
  fails_whole new Worn fails = tt
  fails_whole new Flash fails = record { octets = fails.octets; some = fails.some; most = fails.most; gave = fails.gave; runs = fails.runs }
  fails_whole new Read fails = (fails.0, fails.1, left_whole fails.0 new fails.2)
  fails_whole new Empty fails = (fails.0, left_whole [] new fails.1)
  fails_whole new TooBig fails = (fails.0, fails.1, left_whole fails.0 new fails.2)
