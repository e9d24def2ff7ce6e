use Rattle.std.proofs.Common.{◌≡◌, Option, None, refl}
use Rattle.std.specs.Option.{option_map}
use Rattle.mu_model_record.specs.Store.{StoreState}
use Rattle.mu_model_node.specs.Slots.{received}
use Rattle.mu_note.specs.Views.{part_job}
use Rattle.mu_place.specs.Place.{place_fault, place_record, place_filling, place_held, PlaceHolds}
use Rattle.mu_kept.specs.Views.{flags_of}
use Rattle.mu_kept.specs.Shows.{held_in}
use Rattle.mu_model_represents.specs.StoreStates.{IsStoreState}
use Rattle.mu_kept.proofs.Fitting.{Knows}
use Rattle.mu_kept.proofs.Showing.{shown}
use Rattle.mu_kept.proofs.States.{holds_told, holds_fault}
use Rattle.mu_kept.proofs.Knowing.{rests_known, fills_known, lacking_known, count_known, few_known, sound_known, held_known, serving_known}
use Rattle.mu_kept.proofs.store.JobStore.known.Goals as goal

pub returns : goal.returns
returns g c =
    let store = c.args.self.now in
    let place = store.place in
    let k = c.known.ensures in
    let knows : place_fault place ≡ None → Knows (place_record place) (place_filling place) (place_held place) =
    λ none. record { in_range = k.is_record none; rests = k.rests none; entry = k.entry; as_many = k.as_many } in
    let state : (s : StoreState) → PlaceHolds g.F.Flash.seen place s → IsStoreState s =
    λ s holds. c.represented_is_sound.ensures.store s _ ((k.idle s holds).ends (holds_told g.F.Flash.seen place s holds)) in
    let held : (s : StoreState) → PlaceHolds g.F.Flash.seen place s → received (held_in s (option_map part_job store.job)) ≡ flags_of place store.job =
    λ s holds. let none = holds_fault g.F.Flash.seen place s holds in
    held_known place (knows none) c.blob_parts.ensures.sound s (state s holds) (k.present s holds) (k.blocks s holds) store.job (store.fits none) in
    record {
      is_record = k.is_record;
      job = store.fits;
      there = k.there;
      entry = k.entry;
      as_many = k.as_many;
      none = k.none;
      rests = λ none. rests_known place (knows none) store.job (store.fits none);
      fills = λ none. fills_known place (knows none) store.job (store.fits none);
      lacking = λ none. lacking_known place (knows none) store.job (store.fits none);
      sound = λ none. sound_known place (knows none) store.job (store.fits none);
      count = λ none. count_known place (knows none) store.job (store.fits none);
      few = λ none. few_known place (knows none) store.job (store.fits none);
      shows = λ held e. shown store.job _ held e;
      present = k.present;
      idle = k.idle;
      state = state;
      held = held;
      serving = λ s holds. serving_known s store.job _ (held s holds);
    }
