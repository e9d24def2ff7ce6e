-- What a deletion leaves, image by image.
use Rattle.std.proofs.Common.{◌≡◌, ◌∙◌, ◌≤◌, ◌<◌, ◌+◌, ℕ, Bool, true, false, List, [], ◌∷◌, ◌++◌, length, map, take, get_or, refl, sym, ap, subst, cond, arith, append-nil, length-append}
use Rattle.std.specs.Prelude.{not}
use Rattle.std.proofs.lemmas.List.{length-map, get_or-map, get_or-take, take_more, take_all}
use Rattle.mu_model_image.specs.declared.Meta.{Meta}
use Rattle.mu_model_distributor.specs.DistState.{StoredImage}
use Rattle.mu_model_distributor.specs.Distribution.{no_meta}
use Rattle.mu_model_distributor.specs.Firmware.{has_id}
use Rattle.mu_model_represents_distributor.specs.RepresentsDistributor.{bank_of}
use Rattle.mu_distributor_rows.specs.Looks.{meta_of}
use Rattle.mu_distributor_rows.specs.Decided.{has_id as meta_has_id}
use Rattle.mu_distributor_answers.specs.Images.{AreImages, without_id}

abbrev nothing : StoredImage
nothing = record { bank = 0; image = record { octets = []; meta = no_meta } }

-- ---- lists

map_append : {A B : Type 0} (f : A → B) (xs ys : List A) → map f (xs ++ ys) ≡ map f xs ++ map f ys
map_append f [] ys = refl
map_append f (x ∷ xs) ys = ap (λ l. f x ∷ l) (map_append f xs ys)

front : {A : Type 0} (b : Bool) (x : A) (xs ys : List A) → cond b (x ∷ (xs ++ ys)) (xs ++ ys) ≡ cond b (x ∷ xs) xs ++ ys
front true x xs ys = refl
front false x xs ys = refl

without_append : (fwid : List ℕ) (xs ys : List StoredImage) → without_id fwid (xs ++ ys) ≡ without_id fwid xs ++ without_id fwid ys
without_append fwid [] ys = refl
without_append fwid (x ∷ xs) ys =
    ap (λ (l : List StoredImage). cond (not (has_id fwid x)) (x ∷ l) l) (without_append fwid xs ys)
    ∙ front (not (has_id fwid x)) x (without_id fwid xs) (without_id fwid ys)

kept_one : (b : Bool) (x : StoredImage) → cond (not b) (x ∷ []) [] ≡ cond b [] (x ∷ [])
kept_one true x = refl
kept_one false x = refl

one : (fwid : List ℕ) (x : StoredImage) (b : Bool) → has_id fwid x ≡ b → without_id fwid (x ∷ []) ≡ cond b [] (x ∷ [])
one fwid x b is = ap (λ (c : Bool). cond (not c) (x ∷ []) []) is ∙ kept_one b x

next : (fwid : List ℕ) (images : List StoredImage) (i : ℕ) (b : Bool) → i < length images → has_id fwid (get_or images i nothing) ≡ b
    → without_id fwid (take (i + 1) images) ≡ without_id fwid (take i images) ++ cond b [] (get_or images i nothing ∷ [])
next fwid images i b lt is =
    ap (without_id fwid) (take_more images i nothing lt) ∙ without_append fwid (take i images) (get_or images i nothing ∷ [])
    ∙ ap (λ (l : List StoredImage). without_id fwid (take i images) ++ l) (one fwid (get_or images i nothing) b is)

-- ---- the image at a place

within : (banks : List ℕ) (metas : List Meta) (images : List StoredImage) → AreImages banks metas images → length banks ≡ length images
within banks metas images are = ap (λ (l : List ℕ). length l) are.banks ∙ length-map images bank_of

bank_at : (banks : List ℕ) (metas : List Meta) (images : List StoredImage) (i d : ℕ) → AreImages banks metas images → i < length images
    → get_or banks i d ≡ bank_of (get_or images i nothing)
bank_at banks metas images i d are lt = ap (λ (l : List ℕ). get_or l i d) are.banks ∙ get_or-map bank_of images i nothing d lt

meta_at : (banks : List ℕ) (metas : List Meta) (images : List StoredImage) (i : ℕ) (d : Meta) → AreImages banks metas images → i < length banks → i < length images
    → get_or metas i d ≡ meta_of (get_or images i nothing)
meta_at banks metas images i d are lt below =
    sym (get_or-take (length banks) metas i d lt) ∙ ap (λ (l : List Meta). get_or l i d) are.metas ∙ get_or-map meta_of images i nothing d below

-- ---- along the images

abbrev pub Keeping : (fwid banks : List ℕ) (metas : List Meta) (i : ℕ) (kept : List ℕ) (new : List Meta) → Type 0
Keeping fwid banks metas i kept new =
    (length kept ≤ i) × ((images : List StoredImage) → AreImages banks metas images → AreImages kept new (without_id fwid (take i images)))

pub none_kept : (fwid banks : List ℕ) (metas new : List Meta) → Keeping fwid banks metas 0 [] new
none_kept fwid banks metas new = (omega arith, λ images are. record { banks = refl; metas = refl })

added : (banks more : List ℕ) (old new : List Meta) (images : List StoredImage) (x : StoredImage) (bank : ℕ) (meta : Meta)
    → more ≡ banks ++ bank ∷ [] → take (length more) new ≡ take (length banks) old ++ meta ∷ [] → bank ≡ bank_of x → meta ≡ meta_of x
    → AreImages banks old images → AreImages more new (images ++ x ∷ [])
added banks more old new images x bank meta grown shown is_bank is_meta are = record {
  banks = grown ∙ (λ i. are.banks i ++ is_bank i ∷ []) ∙ sym (map_append bank_of images (x ∷ []));
  metas = shown ∙ (λ i. are.metas i ++ is_meta i ∷ []) ∙ sym (map_append meta_of images (x ∷ []));
}

-- a bank and its metadata go behind those that are kept
pub record IsPut (kept more : List ℕ) (old new : List Meta) (bank : ℕ) (meta : Meta) : Type 0 where
  pub bank_is : more ≡ kept ++ bank ∷ []
  pub meta_is : take (length more) new ≡ take (length kept) old ++ meta ∷ []

module _ (fwid banks : List ℕ) (metas : List Meta) (i : ℕ) (kept more : List ℕ) (old new : List Meta) (b : ℕ) (d : Meta) (lt : i < length banks) where
  within_too : (images : List StoredImage) → AreImages banks metas images → i < length images
  within_too images are = omega (arith, lt, within banks metas images are)

  has_at : (c : Bool) → meta_has_id fwid (get_or metas i d) ≡ c → (images : List StoredImage) → AreImages banks metas images → has_id fwid (get_or images i nothing) ≡ c
  has_at c is images are = ap (meta_has_id fwid) (sym (meta_at banks metas images i d are lt (within_too images are))) ∙ is

  passed : meta_has_id fwid (get_or metas i d) ≡ true → Keeping fwid banks metas i kept old → Keeping fwid banks metas (i + 1) kept old
  passed is so_far = (
    omega (arith, so_far.0),
    λ images are. subst (AreImages kept old)
        (sym (next fwid images i true (within_too images are) (has_at true is images are) ∙ append-nil (without_id fwid (take i images)))) (so_far.1 images are),
  )

  put : meta_has_id fwid (get_or metas i d) ≡ false → IsPut kept more old new (get_or banks i b) (get_or metas i d) → Keeping fwid banks metas i kept old
      → Keeping fwid banks metas (i + 1) more new
  put is goes so_far = (
    omega (arith, so_far.0, ap (λ (l : List ℕ). length l) goes.bank_is, length-append kept (get_or banks i b ∷ [])),
    λ images are. subst (AreImages more new) (sym (next fwid images i false (within_too images are) (has_at false is images are)))
        (added kept more old new (without_id fwid (take i images)) (get_or images i nothing) (get_or banks i b) (get_or metas i d) goes.bank_is goes.meta_is
        (bank_at banks metas images i b are (within_too images are)) (meta_at banks metas images i d are lt (within_too images are)) (so_far.1 images are)),
  )

  -- one image after the other
  pub turned : (c : Bool) → meta_has_id fwid (get_or metas i d) ≡ c → (c ≡ true → (more ≡ kept) × (new ≡ old))
      → (c ≡ false → (more ≡ kept ++ get_or banks i b ∷ []) × (take (length more) new ≡ take (length kept) old ++ get_or metas i d ∷ []))
      → Keeping fwid banks metas i kept old → Keeping fwid banks metas (i + 1) more new
  turned true is stays goes so_far =
      let same = stays refl in
      subst (λ (l : List ℕ). Keeping fwid banks metas (i + 1) l new) (sym same.0) (subst (λ (l : List Meta). Keeping fwid banks metas (i + 1) kept l) (sym same.1) (passed is so_far))
  turned false is stays goes so_far = let both = goes refl in put is (record { bank_is = both.0; meta_is = both.1 }) so_far

pub all_kept : (fwid banks : List ℕ) (metas : List Meta) (i : ℕ) (kept : List ℕ) (new : List Meta) (images : List StoredImage) → length banks ≤ i
    → Keeping fwid banks metas i kept new → AreImages banks metas images → AreImages kept new (without_id fwid images)
all_kept fwid banks metas i kept new images past so_far are =
    let all : take i images ≡ images = take_all i images (omega (arith, past, within banks metas images are)) in
    subst (λ (l : List StoredImage). AreImages kept new (without_id fwid l)) all (so_far.1 images are)
