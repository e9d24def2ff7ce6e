-- The versions of a node's images rise along its log.
use Rattle.std.proofs.Common.{arith, ◌≡◌, ◌<◌, ◌≤◌, ℕ, zero, suc, List, [], ◌∷◌, ◌++◌, refl, sym, ap, subst, inl, inr, Option, Some, None, set}
use Rattle.std.specs.Prelude.{slice_get}
use Rattle.mu_model_image.specs.declared.Meta.{Meta}
use Rattle.mu_model_image.specs.Meta.{Image}
use Rattle.mu_model_node.specs.Log.{LogEntry, Took, Asked, Active, Canceled, Reached}
use Rattle.mu_model_node.specs.NodeState.{Job}
use Rattle.mu_model_node.specs.Safe.{InOrder}
use Rattle.mu_model_fates.specs.Laws.{HasVersion, VersionsOf}
use Rattle.mu_model_fates.proofs.Order.{one_more, two_more, either_order}
use Rattle.mu_model_fates.proofs.Traces.{Trace, begun, taken, filled, told, verified, refused, asked, canceled, activated}

-- ---- the job's version is above that of the active image

abbrev Above : List Image → Option Job → Type 0
Above images None = Unit {0}
Above images (Some j) = (active : Image) × (slice_get images j.index ≡ Some active) × (active.meta.version < j.meta.version)

above : {first : List Image} {log : List LogEntry} {images : List Image} {job : Option Job} → Trace first log images job → Above images job
above begun = tt
above (taken j active e free at newer t) = (active, at, newer)
above (filled parameters held t) = above t
above (told n p t) = above t
above (verified e t) = above t
above (refused e t) = above t
above (asked e t) = above t
above (canceled m t) = tt
above (activated image same e t) = tt

-- ---- images that are put

-- the image at an index after one of a greater version was put at an index
put_newer : (images : List Image) (at index version : ℕ) (old new image : Image) → slice_get images at ≡ Some old → old.meta.version < new.meta.version → slice_get images index ≡ Some image → version ≤ image.meta.version → HasVersion (set images at new) index version
put_newer [] at index version old new image h less is reaches = cc
put_newer (x ∷ xs) zero zero version old new image h less is reaches =
    let same : image ≡ old = cc in
    let versions : image.meta.version ≡ old.meta.version = ap (λ (i : Image). i.meta.version) same in
    record { image = new; is = refl; reaches = omega (arith, versions, less, reaches) }
put_newer (x ∷ xs) zero (suc k) version old new image h less is reaches = record { image = image; is = is; reaches = reaches }
put_newer (x ∷ xs) (suc a) zero version old new image h less is reaches = record { image = image; is = is; reaches = reaches }
put_newer (x ∷ xs) (suc a) (suc k) version old new image h less is reaches =
    let more = put_newer xs a k version old new image h less is reaches in
    record { image = more.image; is = more.is; reaches = more.reaches }

put_there : (images : List Image) (at : ℕ) (old new : Image) → slice_get images at ≡ Some old → slice_get (set images at new) at ≡ Some new
put_there [] at old new h = cc
put_there (x ∷ xs) zero old new h = refl
put_there (x ∷ xs) (suc a) old new h = put_there xs a old new h

still : {images : List Image} (at : ℕ) (old new : Image) (index version : ℕ) → slice_get images at ≡ Some old → old.meta.version < new.meta.version → HasVersion images index version → HasVersion (set images at new) index version
still {images = images} at old new index version is less h = put_newer images at index version old new h.image is less h.is h.reaches

-- a version that is there is below that of a job of the same index
below : {images : List Image} (active : Image) (index version above : ℕ) → slice_get images index ≡ Some active → active.meta.version < above → HasVersion images index version → version < above
below active index version above is less h =
    let same : h.image ≡ active = cc (h.is, is) in
    let versions : h.image.meta.version ≡ active.meta.version = ap (λ (i : Image). i.meta.version) same in
    let reaches = h.reaches in
    omega (arith, versions, less, reaches)

-- ---- an entry more

abbrev NoVersion : LogEntry → Type 0
NoVersion e = ((index : ℕ) (a : Meta) → Active index a ≡ e → ⊥) × ((id index : ℕ) (meta : Meta) → Took id index meta ≡ e → ⊥)

quiet : {first : List Image} {log : List LogEntry} {images : List Image} (e : LogEntry) → NoVersion e → VersionsOf first log images → VersionsOf first (log ++ e ∷ []) images
quiet {log = log} e apart h = record {
  active = λ index a b o. elim (two_more log o) [ inl k ↦ h.active index a b k | inr k ↦ absurd (apart.0 index b k.1) ];
  taken = λ index a id meta o. elim (two_more log o) [ inl k ↦ h.taken index a id meta k | inr k ↦ absurd (apart.1 id index meta k.1) ];
  first_active = λ index image a is o. elim (one_more log o) [ inl k ↦ h.first_active index image a is k | inr k ↦ absurd (apart.0 index a k) ];
  first_taken = λ index image id meta is o. elim (one_more log o) [ inl k ↦ h.first_taken index image id meta is k | inr k ↦ absurd (apart.1 id index meta k) ];
  now = λ index a o. elim (one_more log o) [ inl k ↦ h.now index a k | inr k ↦ absurd (apart.0 index a k) ];
  first_now = h.first_now;
}

-- what is above each version that is there, seen as an entry
offered : {images : List Image} (j : Job) (active : Image) (id index version : ℕ) (meta : Meta) → slice_get images j.index ≡ Some active → active.meta.version < j.meta.version → Took id index meta ≡ Took j.id j.index j.meta → HasVersion images index version → version < meta.version
offered {images = images} j active id index version meta is less e h =
    let places : index ≡ j.index = cc in
    let same : meta ≡ j.meta = cc in
    rw same (below active j.index version j.meta.version is less (subst (λ x. HasVersion images x version) places h))

takes : {first : List Image} {log : List LogEntry} {images : List Image} (j : Job) (active : Image) → slice_get images j.index ≡ Some active → active.meta.version < j.meta.version → VersionsOf first log images → VersionsOf first (log ++ Took j.id j.index j.meta ∷ []) images
takes {log = log} j active is less h = record {
  active = λ index a b o. elim (two_more log o) [ inl k ↦ h.active index a b k | inr k ↦ (let e : Active index b ≡ Took j.id j.index j.meta = k.1 in cc) ];
  taken = λ index a id meta o.
      elim (two_more log o) [ inl k ↦ h.taken index a id meta k | inr k ↦ offered j active id index a.version meta is less k.1 (h.now index a k.0) ];
  first_active = λ index image a at o. elim (one_more log o) [ inl k ↦ h.first_active index image a at k | inr k ↦ (let e : Active index a ≡ Took j.id j.index j.meta = k in cc) ];
  first_taken = λ index image id meta at o.
      elim (one_more log o) [ inl k ↦ h.first_taken index image id meta at k | inr k ↦ offered j active id index image.meta.version meta is less k (h.first_now index image at) ];
  now = λ index a o. elim (one_more log o) [ inl k ↦ h.now index a k | inr k ↦ (let e : Active index a ≡ Took j.id j.index j.meta = k in cc) ];
  first_now = h.first_now;
}

shown : {images : List Image} (j : Job) (active : Image) (index version : ℕ) (a : Meta) → slice_get images j.index ≡ Some active → active.meta.version < j.meta.version → Active index a ≡ Active j.index j.meta → HasVersion images index version → version < a.version
shown {images = images} j active index version a is less e h =
    let places : index ≡ j.index = cc in
    let same : a ≡ j.meta = cc in
    rw same (below active j.index version j.meta.version is less (subst (λ x. HasVersion images x version) places h))

put_own : (images : List Image) (j : Job) (active image : Image) (index : ℕ) (a : Meta) → slice_get images j.index ≡ Some active → image.meta ≡ j.meta → Active index a ≡ Active j.index j.meta → HasVersion (set images j.index image) index a.version
put_own images j active image index a is meta e =
    let places : j.index ≡ index = cc in
    let same : image.meta.version ≡ a.version = ap (λ (m : Meta). m.version) (let metas : image.meta ≡ a = cc in metas) in
    subst (λ x. HasVersion (set images j.index image) x a.version) places (record { image = image; is = put_there images j.index active image is; reaches = omega (arith, same) })

activates : {first : List Image} {log : List LogEntry} {images : List Image} (j : Job) (active image : Image) → slice_get images j.index ≡ Some active → active.meta.version < j.meta.version → image.meta ≡ j.meta → VersionsOf first log images → VersionsOf first (log ++ Active j.index j.meta ∷ []) (set images j.index image)
activates {log = log} {images = images} j active image is less meta h =
    let more : active.meta.version < image.meta.version = subst (λ (m : Meta). active.meta.version < m.version) (sym meta) less in
    record {
      active = λ index a b o. elim (two_more log o) [ inl k ↦ h.active index a b k | inr k ↦ shown j active index a.version b is less k.1 (h.now index a k.0) ];
      taken = λ index a id new o. elim (two_more log o) [ inl k ↦ h.taken index a id new k | inr k ↦ (let e : Took id index new ≡ Active j.index j.meta = k.1 in cc) ];
      first_active = λ index old a at o.
          elim (one_more log o) [ inl k ↦ h.first_active index old a at k | inr k ↦ shown j active index old.meta.version a is less k (h.first_now index old at) ];
      first_taken = λ index old id new at o. elim (one_more log o) [ inl k ↦ h.first_taken index old id new at k | inr k ↦ (let e : Took id index new ≡ Active j.index j.meta = k in cc) ];
      now = λ index a o. elim (one_more log o) [ inl k ↦ still j.index active image index a.version is more (h.now index a k) | inr k ↦ put_own images j active image index a is meta k ];
      first_now = λ index old at. still j.index active image index old.meta.version is more (h.first_now index old at);
    }

-- ---- all entries

pub versions_of : {first : List Image} {log : List LogEntry} {images : List Image} {job : Option Job} → Trace first log images job → VersionsOf first log images
versions_of begun = record {
  active = λ index a b o. elim o [ ];
  taken = λ index a id meta o. elim o [ ];
  first_active = λ index image a is o. elim o [ ];
  first_taken = λ index image id meta is o. elim o [ ];
  now = λ index a o. elim o [ ];
  first_now = λ index image is. record { image = image; is = is; reaches = omega arith };
}
versions_of (taken j active e free at newer t) = takes j active at newer (versions_of t)
versions_of (filled parameters held t) = versions_of t
versions_of (told {i = i} n p t) = quiet (Reached i.id n) (λ index a e. cc, λ id index meta e. cc) (versions_of t)
versions_of (verified {i = i} e t) = quiet (Reached i.id 4) (λ index a k. cc, λ id index meta k. cc) (versions_of t)
versions_of (refused e t) = versions_of t
versions_of (asked {i = i} e t) = quiet (Asked i.id) (λ index a k. cc, λ id index meta k. cc) (versions_of t)
versions_of (canceled {i = i} m t) = quiet (Canceled i.id) (λ index a k. cc, λ id index meta k. cc) (versions_of t)
versions_of (activated {i = i} image same e t) =
    let old = above t in
    activates i old.0 image old.1 old.2 same (versions_of t)

-- ---- what has the version of what was taken came after it

pub since_taken : {first : List Image} {log : List LogEntry} {images : List Image} → VersionsOf first log images → (id index : ℕ) (meta : Meta) → InOrder (Took id index meta ∷ []) log
    → ((a : Meta) → InOrder (Active index a ∷ []) log → a.version ≡ meta.version → InOrder (Took id index meta ∷ Active index a ∷ []) log)
    × ((image : Image) → slice_get first index ≡ Some image → image.meta.version ≡ meta.version → ⊥)
since_taken h id index meta o = (
  λ a active same.
      elim (either_order o active) [
        | inl k ↦ k
        | inr k ↦ elim k [
          | inl l ↦ (let less : a.version < meta.version = h.taken index a id meta l in absurd (omega (arith, less, same)))
          | inr e ↦ cc
        ]
      ],
  λ image is same. let less : image.meta.version < meta.version = h.first_taken index image id meta is o in absurd (omega (arith, less, same)),
)
