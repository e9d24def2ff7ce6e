-- The rows of images from what is looked at, and what a deletion leaves.
use Rattle.std.proofs.Common.{◌≡◌, ◌∙◌, ℕ, ◌+◌, ◌<◌, ◌≤◌, Bool, true, false, List, [], ◌∷◌, ◌++◌, map, length, drop, get_or, Option, Some, None, Result, Ok, Err, refl, sym, ap, subst, cond, arith, append_assoc}
use Rattle.std.specs.Prelude.{◌==◌, ◌||◌, not, is_none, bytes_eq, slice_get}
use Rattle.std.specs.List.{filter}
use Rattle.std.proofs.lemmas.List.{length-map}
use Rattle.std.proofs.lemmas.Bool.{eqb-true, eq-eqb}
use Rattle.std.proofs.lemmas.Option.{slice_get-map}
use Rattle.std.specs.Option.{option_map}
use Rattle.mu_model_image.specs.declared.Meta.{Meta}
use Rattle.mu_model_distributor.specs.Replies.{DistReply, FirmwareStatus}
use Rattle.mu_model_distributor.specs.DistState.{StoredImage, Upload, NoUpload, Uploading, Broken, Uploaded, DistDurable, DistState, run_by, run_upload, is_at_rest}
use Rattle.mu_model_distributor.specs.Receivers.{success, firmware_not_found, busy_with_distribution, busy_with_upload}
use Rattle.mu_model_distributor.specs.Uploads.{own_id}
use Rattle.mu_model_distributor.specs.Firmware.{no_index, has_id, index_from, index_of, firmware_status, firmware_found, firmware_get, firmware_at, firmware_get_by_index, with_images, is_in_upload, firmware_delete, firmware_delete_all}
use Rattle.mu_model_represents_distributor.specs.RepresentsDistributor.{bank_of}
use Rattle.mu_distributor_rows.specs.declared.looks.DistLook.{DistLook}
use Rattle.mu_distributor_rows.specs.Due.{IsDue, IsDueIn, IsDueOf}
use Rattle.mu_distributor_rows.specs.Looks.{Seen, seen, seen_of, LooksAs, meta_of, phase_of, run_phase}
use Rattle.mu_distributor_rows.specs.Decided.{is_in_part, place_from, deletion, whole_deletion, kept_beside, run_seen}
use Rattle.mu_distributor_rows.specs.Decided.{has_id as meta_has_id}
use Rattle.mu_distributor_rows.specs.Rows.{deleted, all_deleted}
use Rattle.mu_distributor_rows.proofs.ReceiverRows.{drop_next}

-- ---- answers

pub count_is : (look : DistLook) (s : DistState) (index status : ℕ) (fwid : Option (List ℕ)) → LooksAs look s
    → firmware_status index fwid status s ≡ FirmwareStatus status (length (seen look).metas) index fwid
count_is look s index status fwid looks =
    ap (λ (n : ℕ). FirmwareStatus status n index fwid) (sym (length-map s.durable.images meta_of))
    ∙ ap (λ (v : Seen). FirmwareStatus status (length v.metas) index fwid) (sym looks.same)

pub place_is : (n : ℕ) (images : List StoredImage) (fwid : List ℕ) → place_from n (map meta_of images) fwid ≡ index_from n images fwid
place_is n [] fwid = refl
place_is n (x ∷ images) fwid = ap (λ (o : Option ℕ). cond (bytes_eq (own_id x.image.meta) fwid) (Some n) o) (place_is (n + 1) images fwid)

pub place_looks : (look : DistLook) (s : DistState) (fwid : List ℕ) → LooksAs look s → place_from 0 look.metas.now fwid ≡ index_of s.durable.images fwid
place_looks look s fwid looks = ap (λ (v : Seen). place_from 0 v.metas fwid) looks.same ∙ place_is 0 s.durable.images fwid

pub found_is : (look : DistLook) (s : DistState) (fwid : List ℕ) → LooksAs look s → firmware_get fwid s ≡ firmware_found fwid (place_from 0 look.metas.now fwid) s
found_is look s fwid looks = ap (λ (o : Option ℕ). firmware_found fwid o s) (sym (place_looks look s fwid looks))

-- the next of the metadata
pub place_next : (metas : List Meta) (fwid : List ℕ) (i : ℕ) (d : Meta) (b : Bool) → i < length metas → meta_has_id fwid (get_or metas i d) ≡ b
    → place_from i (drop i metas) fwid ≡ cond b (Some i) (place_from (i + 1) (drop (i + 1) metas) fwid)
place_next metas fwid i d b lt is =
    ap (λ (l : List Meta). place_from i l fwid) (drop_next metas i d lt) ∙ ap (λ (c : Bool). cond c (Some i) (place_from (i + 1) (drop (i + 1) metas) fwid)) is

-- by its metadata alone
abbrev shown_at : ℕ → Option Meta → DistState → DistReply
shown_at index None s = firmware_status index None firmware_not_found s
shown_at index (Some meta) s = firmware_status index (Some (own_id meta)) success s

at_is : (index : ℕ) (o : Option StoredImage) (s : DistState) → firmware_at index o s ≡ shown_at index (option_map meta_of o) s
at_is index None s = refl
at_is index (Some x) s = refl

pub shown_is : (look : DistLook) (s : DistState) (index : ℕ) (o : Option Meta) → LooksAs look s → o ≡ slice_get look.metas.now index → firmware_get_by_index index s ≡ shown_at index o s
shown_is look s index o looks e =
    at_is index (slice_get s.durable.images index) s
    ∙ ap (λ (m : Option Meta). shown_at index m s) (sym (slice_get-map meta_of s.durable.images index) ∙ ap (λ (v : Seen). slice_get v.metas index) (sym looks.same) ∙ sym e)

-- ---- deletions

part_is : (lags : Bool) (upload : Upload) → is_in_part (run_phase lags (phase_of upload)) ≡ is_in_upload (run_by lags upload)
part_is true NoUpload = refl
part_is false NoUpload = refl
part_is true (Uploading j) = refl
part_is false (Uploading j) = refl
part_is true (Broken job) = refl
part_is false (Broken job) = refl
part_is true Uploaded = refl
part_is false Uploaded = refl

-- one of two steps
chosen : (s : DistState) (fwid : List ℕ) (b : Bool) (x y : Result DistState ℕ) (step other : Result (Unit {0}) ℕ)
    → x ≡ deleted s fwid step → y ≡ deleted s fwid other → cond b x y ≡ deleted s fwid (cond b step other)
chosen s fwid true x y step other e f = e
chosen s fwid false x y step other e f = f

deletion_by : (s : DistState) (fwid : List ℕ) → firmware_delete s fwid ≡ deleted s fwid (deletion (seen_of s) fwid)
deletion_by s fwid =
    chosen s fwid (not (is_at_rest s.durable.phase)) _ _ _ _ refl
    (chosen s fwid (is_in_upload (run_upload s)) _ _ _ _ refl
    (chosen s fwid (is_none (index_of s.durable.images fwid)) _ _ (Err firmware_not_found) (Ok tt) refl refl))
    ∙ (λ i. deleted s fwid
    (cond (not (is_at_rest s.durable.phase)) (Err busy_with_distribution)
    (cond (sym (part_is s.lags s.durable.upload) i) (Err busy_with_upload)
    (cond (is_none (sym (place_is 0 s.durable.images fwid) i)) (Err firmware_not_found) (Ok tt)))))

pub deletion_is : (look : DistLook) (s : DistState) (fwid : List ℕ) → LooksAs look s → firmware_delete s fwid ≡ deleted s fwid (deletion (seen look) fwid)
deletion_is look s fwid looks = deletion_by s fwid ∙ ap (λ (v : Seen). deleted s fwid (deletion v fwid)) (sym looks.same)

all_chosen : (s : DistState) (b : Bool) (x y : Result DistState ℕ) (step other : Result Bool ℕ)
    → x ≡ all_deleted s step → y ≡ all_deleted s other → cond b x y ≡ all_deleted s (cond b step other)
all_chosen s true x y step other e f = e
all_chosen s false x y step other e f = f

whole_deletion_by : (s : DistState) → firmware_delete_all s ≡ all_deleted s (whole_deletion (seen_of s))
whole_deletion_by s =
    all_chosen s (not (is_at_rest s.durable.phase)) _ _ _ _ refl
    (all_chosen s (is_in_upload (run_upload s)) _ _ (Err busy_with_upload) (Ok (not (length (seen_of s).metas == 0))) refl refl)
    ∙ (λ i. all_deleted s
    (cond (not (is_at_rest s.durable.phase)) (Err busy_with_distribution)
    (cond (sym (part_is s.lags s.durable.upload) i) (Err busy_with_upload) (Ok (not (length (seen_of s).metas == 0))))))

pub whole_deletion_is : (look : DistLook) (s : DistState) → LooksAs look s → firmware_delete_all s ≡ all_deleted s (whole_deletion (seen look))
whole_deletion_is look s looks = whole_deletion_by s ∙ ap (λ (v : Seen). all_deleted s (whole_deletion v)) (sym looks.same)

-- ---- whether a record is due

abbrev lacks : List ℕ → StoredImage → Bool
lacks fwid x = not (has_id fwid x)

most_step : (b : Bool) (x : StoredImage) (kept : List StoredImage) (n : ℕ) → length kept ≤ n → length (cond b (x ∷ kept) kept) ≤ n + 1
most_step true x kept n h = omega arith
most_step false x kept n h = omega arith

kept_most : (fwid : List ℕ) (images : List StoredImage) → length (filter (lacks fwid) images) ≤ length images
kept_most fwid [] = omega arith
kept_most fwid (x ∷ images) = omega (arith, most_step (lacks fwid x) x (filter (lacks fwid) images) (length images) (kept_most fwid images))

-- where an image has the ID, fewer are kept
fewer_step : (b : Bool) (x : StoredImage) (kept : List StoredImage) (n m : ℕ) (found : Option ℕ) → length kept ≤ n → (is_none found ≡ false → length kept < n)
    → is_none (cond b (Some m) found) ≡ false → length (cond (not b) (x ∷ kept) kept) < n + 1
fewer_step true x kept n m found most fewer h = omega arith
fewer_step false x kept n m found most fewer h = omega (arith, fewer h)

fewer : (fwid : List ℕ) (m : ℕ) (images : List StoredImage) → is_none (index_from m images fwid) ≡ false → length (filter (lacks fwid) images) < length images
fewer fwid m [] h = absurd (cc)
fewer fwid m (x ∷ images) h =
    omega (arith, fewer_step (has_id fwid x) x (filter (lacks fwid) images) (length images) m (index_from (m + 1) images fwid) (kept_most fwid images) (fewer fwid (m + 1) images) h)

deleted_due : (s : DistState) (fwid : List ℕ) → is_none (index_of s.durable.images fwid) ≡ false → IsDue true s.durable (with_images s (filter (lacks fwid) s.durable.images)).durable
deleted_due s fwid found e =
    let same : length (filter (lacks fwid) s.durable.images) ≡ length s.durable.images = ap (λ (d : DistDurable). length d.images) e in
    omega (arith, fewer fwid 0 s.durable.images found, same)

-- a deletion that isn't refused has found an image
deletion_found : (s : DistState) (fwid : List ℕ) (a b none : Bool) → is_none (index_of s.durable.images fwid) ≡ none
    → IsDueIn true s (deleted s fwid (cond a (Err busy_with_distribution) (cond b (Err busy_with_upload) (cond none (Err firmware_not_found) (Ok tt)))))
deletion_found s fwid true b none e = tt
deletion_found s fwid false true none e = tt
deletion_found s fwid false false true e = tt
deletion_found s fwid false false false e = deleted_due s fwid e

pub deletion_due : (look : DistLook) (s : DistState) (fwid : List ℕ) → LooksAs look s → IsDueIn true s (deleted s fwid (deletion (seen look) fwid))
deletion_due look s fwid looks =
    deletion_found s fwid (not (is_at_rest look.phase)) (is_in_part (run_seen (seen look))) (is_none (place_from 0 look.metas.now fwid)) (ap is_none (sym (place_looks look s fwid looks)))

no_items : (images : List StoredImage) → length images ≡ 0 → [] ≡ images
no_items [] e = refl
no_items (x ∷ images) e = absurd (omega arith)

emptied_due : (s : DistState) (b : Bool) → (length s.durable.images == 0) ≡ b → IsDue (not b) s.durable (with_images s []).durable
emptied_due s true e = let none : [] ≡ s.durable.images = no_items s.durable.images (eqb-true (length s.durable.images) 0 e) in λ i. record (s.durable) { images = none i }
emptied_due s false e = λ h.
    let none : length s.durable.images ≡ 0 = sym (ap (λ (d : DistDurable). length d.images) h) in
    let yes : (length s.durable.images == 0) ≡ true = eq-eqb (length s.durable.images) 0 none in
    absurd (cc)

images_due : (look : DistLook) (s : DistState) → LooksAs look s → IsDue (not (length look.metas.now == 0)) s.durable (with_images s []).durable
images_due look s looks =
    subst (λ (n : ℕ). IsDue (not (n == 0)) s.durable (with_images s []).durable)
    (sym (ap (λ (v : Seen). length v.metas) looks.same ∙ length-map s.durable.images meta_of)) (emptied_due s (length s.durable.images == 0) refl)

emptied_of : (s : DistState) (a b due : Bool) → IsDue due s.durable (with_images s []).durable
    → IsDueOf (cond a (Err busy_with_distribution) (cond b (Err busy_with_upload) (Ok due))) s (with_images s [])
emptied_of s true b due h = tt
emptied_of s false true due h = tt
emptied_of s false false due h = h

pub whole_deletion_due : (look : DistLook) (s : DistState) → LooksAs look s → IsDueOf (whole_deletion (seen look)) s (with_images s [])
whole_deletion_due look s looks =
    emptied_of s (not (is_at_rest look.phase)) (is_in_part (run_seen (seen look))) (not (length look.metas.now == 0)) (images_due look s looks)
