-- What was made, and what stands where that failed.
use Rattle.std.proofs.Common.{◌≡◌, ◌∙◌, ◌⊎◌, ◌<◌, ◌≤◌, ◌^◌, ℕ, zero, suc, ◌+◌, ◌*◌, Option, Some, None, List, [], ◌∷◌, ◌++◌, length, refl, sym, ap, subst, inl, inr, ⊎_elim, arith, append_assoc}
use Rattle.std.specs.Prelude.{◌-◌, IfSome, slice_get, Result, Ok, Err, IfOk, IfErr}
use Rattle.std.specs.Option.{ForSome}
use Rattle.mu_model_image.specs.Meta.{Image, image_of, IsMeta}
use Rattle.mu_model_image.specs.Laws.{ImagesFit, ImagesHaveMetadata}
use Rattle.mu_model_flash.specs.Flash.{Seen}
use Rattle.mu_model_flash.specs.Run.{either, Ran}
use Rattle.mu_model_record.specs.declared.Record.{Record}
use Rattle.mu_model_record.specs.declared.BankState.TheVariants.{Empty as EmptyBank}
use Rattle.mu_model_record.specs.Record.{IsFilling, entry_of}
use Rattle.mu_model_record.specs.Store.{StoreState}
use Rattle.mu_model_record.specs.Changes.{first_state}
use Rattle.mu_model_record.specs.Represents.{RepresentsStore}
use Rattle.mu_model_record.specs.Turns.{Anything}
use Rattle.mu_model_node.specs.FlashWork.{page_octets}
use Rattle.mu_model_node.specs.NodeState.{NodeDurable, new_node, new_pair}
use Rattle.mu_model_node.specs.Sound.{IsActiveImage, IsNodeDurable}
use Rattle.mu_model_represents.specs.Laws.{RepresentedIsAState}
use Rattle.mu_model_represents.specs.Numbers.{HasNodeNumbers}
use Rattle.mu_model_represents.specs.RepresentsNode.{IsNode, note_of_node}
use Rattle.mu_outside.specs.Limited.{first_of}
use Rattle.mu_model_represents.specs.StoreStates.{IsStoreState}
use Rattle.mu_model_represents.specs.Written.{KeepsNode, NodeTagIsReadBack, OldNodeTagIsReadBack}
use Rattle.mu_store.specs.Filled.{Asked, filled_up}
use Rattle.mu_store.specs.Source.{Gave, IsAtEnd}
use Rattle.mu_store.specs.View.{store_flash, store_record, StoreHolds}
use Rattle.mu_store.specs.declared.store.Store.{Store}
use Rattle.mu_store.specs.declared.whole.FillFail.{FillFail}
use Rattle.mu_store.specs.declared.whole.FillWhy.{FillWhy}
use Rattle.mu_store.specs.declared.whole.FillWhy.TheVariants.{Flash, Worn, Read, Empty, TooBig}
use Rattle.mu_updsrv.proofs.Openings.{first_given, first_cut, first_none}
use Rattle.mu_updsrv.specs.Made.{image_operations, first_and, IsUnmade, UnmadeBy, MakesNode, NodeUnmade, GaveOfFirst, GaveOfSecond, MakesPair, PairUnmade, RepresentsBy, tag_of_one, old_tag_of_one, tag_of_two}
use Rattle.mu_updsrv.specs.Making.{IsMaking, Fills, Unfilled, FillsFirst, UnfilledFirst}
use Rattle.mu_updsrv.specs.Opening.{IsRestOf}

-- ---- the source

-- nothing was read
pub gave_none : (now : Option (List ℕ)) → Gave now now []
gave_none None = tt
gave_none (Some octets) = refl

-- one piece, and then another
pub gave_both : (before middle after : Option (List ℕ)) (xs ys : List ℕ) → Gave before middle xs → Gave middle after ys → Gave before after (xs ++ ys)
gave_both before middle None xs ys x y = tt
gave_both before None (Some after) xs ys x y = absurd cc
gave_both before (Some middle) (Some after) xs ys x y =
    let same : middle ≡ ys ++ after = cc in
    x ∙ ap (λ (l : List ℕ). Some (xs ++ l)) same ∙ ap (λ (l : List ℕ). Some l) (sym (append_assoc xs ys after))

no_octets : (xs ys : List ℕ) → xs ++ ys ≡ [] → length xs ≡ 0
no_octets [] ys is = refl
no_octets (x ∷ xs) ys is = absurd cc

-- what is said of a source that gave less is said of all that it gave
module _ (G H : List ℕ → Type 0) (A B : Type 0) (pages more : ℕ) (old new : Seen) (given : (octets : List ℕ) → G octets → H octets) (at_end : G [] → A → B) where
  unmade : (octets : List ℕ) → IsUnmade G more octets old new → IsUnmade H more octets old new
  unmade octets is = record { gave = given octets is.gave; done = is.done }

  pub unmade_of : (why : FillWhy) → UnmadeBy G A pages more old new why → UnmadeBy H B pages more old new why
  unmade_of Worn fails = absurd fails
  unmade_of Flash fails = (fails.0, fails.1, given fails.0 fails.2, fails.3)
  unmade_of Read fails = (fails.0, fails.1, unmade fails.0 fails.2)
  unmade_of Empty fails = (at_end fails.1.gave fails.0, unmade [] fails.1)
  unmade_of TooBig fails = (fails.0, fails.1, unmade fails.0 fails.2)

-- ---- the first image of two

module _ {F : Type 0} {g : _} (seen : F → Seen) (first given : ℕ) (within : given ≤ first) (start now : Option (List ℕ)) (rest : ForSome now (IsRestOf given start)) (old : Store F g) (asked : Asked)
    (before after : Option (List ℕ)) (lent : before ≡ first_of first start) (left : after ≡ first_of (first - given) now) where
  here : (octets : List ℕ) → Gave before after octets → Gave (first_of first start) (first_of (first - given) now) octets
  here octets gave = subst (λ (o : Option (List ℕ)). Gave o (first_of (first - given) now) octets) lent (subst (λ (o : Option (List ℕ)). Gave before o octets) left gave)

  ended : IsAtEnd after → IsAtEnd (first_of (first - given) now)
  ended at_end = subst IsAtEnd left at_end

  pub first_filled : (result : Result (Store F g) (FillFail F)) → IfOk result (Fills seen old asked before after) → IfOk result (FillsFirst seen first old asked start now)
  first_filled (Err fail) is = tt
  first_filled (Ok new) is = record {
    octets = is.octets;
    some = is.some;
    most = is.most;
    gave = (first_given first given within start now rest is.octets (here is.octets is.gave)).0;
    cut = first_cut first given within start now rest is.octets (here is.octets is.gave) (ended is.at_end);
    makes = is.makes;
  }

  pub first_unfilled : 1 ≤ first → (result : Result (Store F g) (FillFail F)) → IfErr result (Unfilled seen old before after) → IfErr result (UnfilledFirst seen first old start now)
  first_unfilled some (Ok new) is = tt
  first_unfilled some (Err fail) is = λ flash d slots more m.
      unmade_of (Gave before after) (GaveOfFirst first start now) (IsAtEnd after) (IsAtEnd now) (store_record old).pages more (seen flash) (seen fail.flash)
      (λ octets gave. first_given first given within start now rest octets (here octets gave))
      (λ gave at_end. first_none first given some within start now rest (here [] gave) (ended at_end)) fail.why (is flash d slots more m)

none_within : (first : ℕ) (now : Option (List ℕ)) → IfSome now (λ _. length {A = ℕ} [] ≤ first)
none_within first None = tt
none_within first (Some octets) = omega arith

-- nothing was read of the first image
pub first_none_given : (first : ℕ) (now : Option (List ℕ)) → GaveOfFirst first now now []
first_none_given first now = (gave_none now, none_within first now)

-- ---- the second

at_second : (first : ℕ) (image : List ℕ) (start middle after : Option (List ℕ)) → Gave start middle image → IfSome middle (λ rest. (length image ≤ first) × ((rest ≡ []) ⊎ (length image ≡ first)))
    → (octets : List ℕ) → Gave middle after octets → GaveOfSecond first image start after octets
at_second first image start middle None gave cut octets more = (tt, tt)
at_second first image start None (Some after) gave cut octets more = absurd cc
at_second first image start (Some middle) (Some after) gave cut octets more =
    let same : middle ≡ octets ++ after = cc in (
      gave_both start (Some middle) (Some after) image octets gave more,
      (cut.0, ⊎_elim (λ none. inl (no_octets octets after (sym same ∙ none))) (λ full. inr full) cut.1),
    )

-- what was cut off is there where octets follow
cut_first : (first : ℕ) (image : List ℕ) (start after : Option (List ℕ)) (second : List ℕ) → 0 < length second → GaveOfSecond first image start after second → IfSome after (λ _. length image ≡ first)
cut_first first image start None second some gave = tt
cut_first first image start (Some after) second some gave = ⊎_elim (λ none. absurd (omega (arith, none, some))) (λ full. full) gave.1.1

-- ---- the images

-- its flash represents its state
pub represented : {F : Type 0} {g : _} (seen : F → Seen) (store : Store F g) (d : StoreState) → StoreHolds seen store d → RepresentsStore d (seen store.base.flash).octets
represented seen store d holds = (store.base.place.page, holds.at.word, holds.at.represents)

module _ (state : RepresentedIsAState) (read_back : NodeTagIsReadBack) (old_read_back : OldNodeTagIsReadBack) (fits : ImagesFit) (has_meta : ImagesHaveMetadata)
    (pages version : ℕ) (octets : List ℕ) (least : 1 ≤ pages) (few : pages ≤ 256) (some : 0 < length octets) (room : length octets ≤ page_octets * pages) (small : version < 2 ^ 32) where
  active : IsActiveImage (page_octets * pages) (image_of version octets)
  active = record { some = some; room = room; fit = fits version octets }

  meta : IsMeta (image_of version octets).meta
  meta = has_meta version octets some (omega (arith, room, few)) small

  one_image : (index : ℕ) (x : Image) → slice_get (image_of version octets ∷ []) index ≡ Some x → IsActiveImage (page_octets * pages) x
  one_image zero x is =
      let same : image_of version octets ≡ x = cc in
      subst (λ (y : Image). IsActiveImage (page_octets * pages) y) same active
  one_image (suc index) x is = absurd cc

  one_sound : IsNodeDurable (new_node pages (image_of version octets))
  one_sound = record { capacity = (pages, least, few, refl); some_image = omega arith; two_images = omega arith; images = one_image; job = tt }

  one_numbers : HasNodeNumbers (new_node pages (image_of version octets))
  one_numbers = record { count = record { least = omega arith; most = omega arith }; images = (meta, tt); job = tt }

  module _ (tag : List ℕ) where
    abbrev one_state : StoreState
    one_state = filled_up (first_state 2 pages tag) (record { bank = 0; version = version; tag = tag }) octets

    one_rests : (b : ℕ) → IsFilling (entry_of one_state.present b) → ⊥
    one_rests zero h = h
    one_rests (suc zero) h = h
    one_rests (suc (suc zero)) h = h
    one_rests (suc (suc (suc zero))) h = h
    one_rests (suc (suc (suc (suc b)))) h = h

    one_kept : IsStoreState one_state → KeepsNode one_state (0 ∷ []) 1 (new_node pages (image_of version octets))
    one_kept is = record {
      in_range = is.in_range;
      one_more = refl;
      count = refl;
      capacity = refl;
      differ = (refl, tt);
      images = (record { entry = refl; content = refl }, tt);
      job = one_rests;
    }

    one_node : (tag ≡ tag_of_one) ⊎ (tag ≡ old_tag_of_one) → IsStoreState one_state → IsNode one_state (new_node pages (image_of version octets))
    one_node (inl new) is = (None, note_of_node (0 ∷ []) None, read_back one_state (0 ∷ []) 1 _ one_sound one_numbers (one_kept is) new)
    one_node (inr old) is = (None, note_of_node (0 ∷ []) None, old_read_back one_state (0 ∷ []) 1 _ one_sound one_numbers (one_kept is) refl old)

    pub one_represented : (tag ≡ tag_of_one) ⊎ (tag ≡ old_tag_of_one) → (flash : List ℕ) → RepresentsStore one_state flash → RepresentsBy tag (new_node pages (image_of version octets)) flash
    one_represented kind flash is = (one_state, is, one_node kind (state one_state flash is), refl)

  module _ (second_version : ℕ) (second : List ℕ) (more : 0 < length second) (more_room : length second ≤ page_octets * pages) (second_small : second_version < 2 ^ 32) where
    next_active : IsActiveImage (page_octets * pages) (image_of second_version second)
    next_active = record { some = more; room = more_room; fit = fits second_version second }

    next_meta : IsMeta (image_of second_version second).meta
    next_meta = has_meta second_version second more (omega (arith, more_room, few)) second_small

    abbrev pair : NodeDurable
    pair = new_pair pages (image_of version octets) (image_of second_version second)

    two_images : (index : ℕ) (x : Image) → slice_get (image_of version octets ∷ image_of second_version second ∷ []) index ≡ Some x → IsActiveImage (page_octets * pages) x
    two_images zero x is =
        let same : image_of version octets ≡ x = cc in
        subst (λ (y : Image). IsActiveImage (page_octets * pages) y) same active
    two_images (suc zero) x is =
        let same : image_of second_version second ≡ x = cc in
        subst (λ (y : Image). IsActiveImage (page_octets * pages) y) same next_active
    two_images (suc (suc index)) x is = absurd cc

    two_sound : IsNodeDurable pair
    two_sound = record { capacity = (pages, least, few, refl); some_image = omega arith; two_images = omega arith; images = two_images; job = tt }

    two_numbers : HasNodeNumbers pair
    two_numbers = record { count = record { least = omega arith; most = omega arith }; images = (meta, (next_meta, tt)); job = tt }

    abbrev two_state : List ℕ → StoreState
    two_state tag = filled_up (filled_up (first_state 3 pages tag) (record { bank = 0; version = version; tag = tag }) octets) (record { bank = 1; version = second_version; tag = tag }) second

    two_rests : (tag : List ℕ) (b : ℕ) → IsFilling (entry_of (two_state tag).present b) → ⊥
    two_rests tag zero h = h
    two_rests tag (suc zero) h = h
    two_rests tag (suc (suc zero)) h = h
    two_rests tag (suc (suc (suc zero))) h = h
    two_rests tag (suc (suc (suc (suc b)))) h = h

    two_kept : (tag : List ℕ) → IsStoreState (two_state tag) → KeepsNode (two_state tag) (0 ∷ 1 ∷ []) 2 pair
    two_kept tag is = record {
      in_range = is.in_range;
      one_more = refl;
      count = refl;
      capacity = refl;
      differ = (refl, (refl, tt));
      images = (record { entry = refl; content = refl }, (record { entry = refl; content = refl }, tt));
      job = two_rests tag;
    }

    pub two_represented : (tag : List ℕ) → tag ≡ tag_of_two → (flash : List ℕ) → RepresentsStore (two_state tag) flash → RepresentsBy tag_of_two pair flash
    two_represented tag two flash is =
        (two_state tag, is, (None, note_of_node (0 ∷ 1 ∷ []) None, read_back (two_state tag) (0 ∷ 1 ∷ []) 2 pair two_sound two_numbers (two_kept tag (state (two_state tag) flash is)) two), two)

-- ---- what is made of it

zero_more : (P : ℕ → Type 0) (n : ℕ) → P (0 + n) → P n
zero_more P n is = let same : 0 + n ≡ n = omega arith in subst P same is

module _ {F : Type 0} {g : _} (seen : F → Seen) (state : RepresentedIsAState) (read_back : NodeTagIsReadBack) (old_read_back : OldNodeTagIsReadBack) (fits : ImagesFit) (has_meta : ImagesHaveMetadata)
    (pages : ℕ) (least : 1 ≤ pages) (few : pages ≤ 256) (flash : F) where
  module _ (version : ℕ) (small : version < 2 ^ 32) (tag : List ℕ) (kind : (tag ≡ tag_of_one) ⊎ (tag ≡ old_tag_of_one)) (old : Store F g) (made : IsMaking seen flash (first_state 2 pages tag) 3 0 old) where
    as_many : (store_record old).pages ≡ pages
    as_many = ap (λ (r : Record). r.pages) made.fields

    pub makes_node : (before after : Option (List ℕ)) (new : Store F g) (last : F) → last ≡ store_flash new → Fills seen old (record { bank = 0; version = version; tag = tag }) before after new
        → MakesNode tag pages version before after (seen flash) (seen last)
    makes_node before after new last same is =
        let room : length is.octets ≤ page_octets * pages = subst (λ (k : ℕ). length is.octets ≤ 4096 * k) as_many is.most in
        let next = is.makes flash (first_state 2 pages tag) 2 0 made in
        record {
          octets = is.octets;
          some = is.some;
          most = room;
          gave = is.gave;
          at_end = is.at_end;
          represents = λ told. subst (λ (f : F). RepresentsBy tag (new_node pages (image_of version is.octets)) (seen f).octets) (sym same)
              (one_represented state read_back old_read_back fits has_meta pages version is.octets least few is.some room small tag kind (seen (store_flash new)).octets (represented seen new _ (next.holds told)));
          done = λ told. subst (λ (f : F). Ran (either Anything) tt (first_and (image_operations (length is.octets))) (seen flash) (seen f)) (sym same)
              (zero_more (λ (k : ℕ). Ran (either Anything) tt (first_and k) (seen flash) (seen (store_flash new))) (image_operations (length is.octets)) (next.done told));
        }

    pub node_unmade : (before after : Option (List ℕ)) (fail : FillFail F) → Unfilled seen old before after fail → NodeUnmade pages before after (seen flash) (seen fail.flash) fail.why
    node_unmade before after fail is =
        subst (λ (k : ℕ). UnmadeBy (Gave before after) (IsAtEnd after) k 0 (seen flash) (seen fail.flash) fail.why) as_many (is flash (first_state 2 pages tag) 2 0 made)

  module _ (first version second_version : ℕ) (small : version < 2 ^ 32) (second_small : second_version < 2 ^ 32) (tag : List ℕ) (two : tag ≡ tag_of_two) (store : Store F g)
      (made : IsMaking seen flash (first_state 3 pages tag) 3 0 store)
      (start middle : Option (List ℕ)) where
    of_pages : (store_record store).pages ≡ pages
    of_pages = ap (λ (r : Record). r.pages) made.fields

    -- the first image isn't there
    pub first_unmade : (fail : FillFail F) → UnfilledFirst seen first store start middle fail → PairUnmade pages first start middle (seen flash) (seen fail.flash) fail.why
    first_unmade fail is =
        inl (subst (λ (k : ℕ). UnmadeBy (GaveOfFirst first start middle) (IsAtEnd middle) k 0 (seen flash) (seen fail.flash) fail.why) of_pages (is flash (first_state 3 pages tag) 2 0 made))

    module _ (old : Store F g) (one : FillsFirst seen first store (record { bank = 0; version = version; tag = tag }) start middle old) where
      abbrev mid_state : StoreState
      mid_state = filled_up (first_state 3 pages tag) (record { bank = 0; version = version; tag = tag }) one.octets

      pub mid_made : IsMaking seen flash mid_state 2 (0 + image_operations (length one.octets)) old
      mid_made = one.makes flash (first_state 3 pages tag) 2 0 made

      pub mid_count : (store_record old).count < 2 ^ 32 - 1
      mid_count = let is : (store_record old).count ≡ 2 = ap (λ (r : Record). r.count) mid_made.fields in omega (arith, is)

      pub mid_number : 1 < (store_record old).number
      mid_number = let is : (store_record old).number ≡ 3 = ap (λ (r : Record). r.number) mid_made.fields in omega (arith, is)

      pub mid_empty : entry_of (store_record old) 1 ≡ EmptyBank
      mid_empty = ap (λ (r : Record). entry_of r 1) mid_made.fields

      mid_room : length one.octets ≤ page_octets * pages
      mid_room = subst (λ (k : ℕ). length one.octets ≤ 4096 * k) of_pages one.most

      mid_pages : (store_record old).pages ≡ pages
      mid_pages = ap (λ (r : Record). r.pages) mid_made.fields

      module _ (after : Option (List ℕ)) where
        pub makes_pair : (new : Store F g) (last : F) → last ≡ store_flash new → Fills seen old (record { bank = 1; version = second_version; tag = tag }) middle after new
            → MakesPair pages first version second_version start after (seen flash) (seen last)
        makes_pair new last same is =
            let room : length is.octets ≤ page_octets * pages = subst (λ (k : ℕ). length is.octets ≤ 4096 * k) mid_pages is.most in
            let next = is.makes flash mid_state 1 (0 + image_operations (length one.octets)) mid_made in
            let gave = at_second first one.octets start middle after one.gave one.cut is.octets is.gave in
            let count : 0 + image_operations (length one.octets) + image_operations (length is.octets) ≡ image_operations (length one.octets) + image_operations (length is.octets) = omega arith in
            record {
              octets = one.octets;
              second = is.octets;
              some = one.some;
              most = mid_room;
              second_some = is.some;
              second_most = room;
              gave = gave.0;
              cut = cut_first first one.octets start after is.octets is.some gave;
              at_end = is.at_end;
              represents = λ told. subst (λ (f : F). RepresentsBy tag_of_two (new_pair pages (image_of version one.octets) (image_of second_version is.octets)) (seen f).octets) (sym same)
                  (two_represented state read_back old_read_back fits has_meta pages version one.octets least few one.some mid_room small second_version is.octets is.some room second_small tag two (seen (store_flash new)).octets
                  (represented seen new _ (next.holds told)));
              done = λ told. subst (λ (f : F). Ran (either Anything) tt (first_and (image_operations (length one.octets) + image_operations (length is.octets))) (seen flash) (seen f)) (sym same)
                  (subst (λ (k : ℕ). Ran (either Anything) tt (first_and k) (seen flash) (seen (store_flash new))) count (next.done told));
            }

        pub second_unmade : (fail : FillFail F) → Unfilled seen old middle after fail → PairUnmade pages first start after (seen flash) (seen fail.flash) fail.why
        second_unmade fail is =
            let here = is flash mid_state 1 (0 + image_operations (length one.octets)) mid_made in
            let there = subst (λ (k : ℕ). UnmadeBy (Gave middle after) (IsAtEnd after) k (0 + image_operations (length one.octets)) (seen flash) (seen fail.flash) fail.why) mid_pages here in
            let counted = zero_more (λ (k : ℕ). UnmadeBy (Gave middle after) (IsAtEnd after) pages k (seen flash) (seen fail.flash) fail.why) (image_operations (length one.octets)) there in
            inr (
              one.octets,
              one.some,
              mid_room,
              unmade_of (Gave middle after) (GaveOfSecond first one.octets start after) (IsAtEnd after) (IsAtEnd after) pages (image_operations (length one.octets)) (seen flash) (seen fail.flash)
                  (λ octets gave. at_second first one.octets start middle after one.gave one.cut octets gave) (λ gave at_end. at_end) fail.why counted,
            )
