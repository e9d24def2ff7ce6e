-- What an Upload Start leads to can be done.
use Rattle.std.proofs.Common.{◌≡◌, ℕ, ◌<◌, ◌≤◌, Bool, true, false, List, [], ◌∷◌, Option, Some, None, refl, sym, ap, subst, cond, arith}
use Rattle.std.specs.Prelude.{◌==◌, ◌&&◌, ◌||◌, not, nat_lt, bytes_eq, MatchOption, length, is_some}
use Rattle.std.specs.List.{filter}
use Rattle.std.proofs.lemmas.Bool.{eqb-true, ltb-true, ltb-false}
use Rattle.mu_model_image.specs.declared.Meta.{Meta}
use Rattle.mu_model_image.specs.Meta.{meta_of, meta_from}
use Rattle.mu_model_distributor.specs.Requests.{UploadStart}
use Rattle.mu_model_distributor.specs.DistState.{is_at_rest}
use Rattle.mu_model_distributor.specs.Receivers.{insufficient_resources, internal_error, busy_with_distribution, busy_with_upload}
use Rattle.mu_model_distributor.specs.Uploads.{own_id, agreed, offered_meta}
use Rattle.mu_model_represents.specs.Images.{is_among}
use Rattle.mu_distributor_kept.specs.declared.phase.UploadPhase.{UploadPhase}
use Rattle.mu_distributor_kept.specs.declared.phase.UploadPhase.TheVariants.{Idle, TransferActive, TransferError, TransferSuccess}
use Rattle.mu_distributor_rows.specs.declared.looks.UploadLook.{UploadLook}
use Rattle.mu_distributor_rows.specs.declared.uploads.UploadStep.{UploadStep}
use Rattle.mu_distributor_rows.specs.declared.uploads.UploadStep.TheVariants.{Keep, Resume, Store, Take, Refuse}
use Rattle.mu_distributor_rows.specs.Fits.{CanUpload}
use Rattle.mu_distributor_rows.specs.Looks.{Seen}
use Rattle.mu_distributor_rows.specs.Decided.{is_taken_by, free_banks, lowest, run_seen, has_meta, same_start, taken_into, taken, taken_or_resumed, offered, started_at_rest, started_in, upload_started}

-- ---- the lowest free bank is one of the four

abbrev IsFew : Option ℕ → Type 0
IsFew o = MatchOption o (Unit {0}) (λ bank. bank < 4)

few_by : (b : Bool) (bank : ℕ) (others rest : List ℕ) → bank < 4 → IsFew (lowest rest) → IsFew (lowest (cond b (bank ∷ others) rest))
few_by true bank others rest lt few = lt
few_by false bank others rest lt few = few

few_of : (p : ℕ → Bool) → IsFew (lowest (filter p (0 ∷ 1 ∷ 2 ∷ 3 ∷ [])))
few_of p = few_by (p 0) 0 _ _ (omega arith) (few_by (p 1) 1 _ _ (omega arith) (few_by (p 2) 2 _ _ (omega arith) (few_by (p 3) 3 _ _ (omega arith) tt)))

-- ---- an image that is offered isn't empty

abbrev HasSome : UploadStart → Option Meta → Type 0
HasSome u o = MatchOption o (Unit {0}) (λ meta. 1 ≤ u.size)

some_agreed : (u : UploadStart) (meta : Meta) (b c : Bool) → (b ≡ true → u.size ≡ meta.size) → 0 < meta.size → HasSome u (cond (b && c) (Some meta) None)
some_agreed u meta true true same lt = omega (arith, same refl, lt)
some_agreed u meta true false same lt = tt
some_agreed u meta false c same lt = tt

some_read : (u : UploadStart) (meta : Meta) (b c : Bool) → (c ≡ true → 0 < meta.size) → HasSome u (agreed u (cond (b && c) (Some meta) None))
some_read u meta true true some = some_agreed u meta (u.size == meta.size) (bytes_eq u.fwid (own_id meta)) (eqb-true u.size meta.size) (some refl)
some_read u meta true false some = tt
some_read u meta false c some = tt

offered_some : (u : UploadStart) → HasSome u (offered_meta u)
offered_some u = some_read u (meta_of u.metadata) (length u.metadata == 40) (nat_lt 0 (meta_of u.metadata).size) (ltb-true 0 (meta_of u.metadata).size)

-- ---- the steps

chosen : (v : Seen) (u : UploadStart) (b : Bool) (x y : UploadStep) → CanUpload v u x → CanUpload v u y → CanUpload v u (cond b x y)
chosen v u true x y can other = can
chosen v u false x y can other = other

room : (v : Seen) (u : UploadStart) (meta : Meta) (bank : ℕ) (b : Bool) → (b ≡ false → u.size ≤ v.capacity) → bank < 4 → 1 ≤ u.size
    → CanUpload v u (cond b (Refuse insufficient_resources) (Take meta bank))
room v u meta bank true fits lt some = tt
room v u meta bank false fits lt some = (lt, some, fits refl)

into_can : (v : Seen) (u : UploadStart) (meta : Meta) (o : Option ℕ) → IsFew o → 1 ≤ u.size → CanUpload v u (taken_into v u meta o)
into_can v u meta None few some = tt
into_can v u meta (Some bank) few some = room v u meta bank (nat_lt v.capacity u.size) (ltb-false v.capacity u.size) few some

taken_can : (v : Seen) (u : UploadStart) (meta : Meta) → 1 ≤ u.size → CanUpload v u (taken v u meta)
taken_can v u meta some = into_can v u meta (lowest (free_banks v.banks None)) (few_of (λ (bank : ℕ). not (is_among v.banks bank || is_taken_by None bank))) some

resumed_can : (v : Seen) (u : UploadStart) (meta : Meta) (phase : UploadPhase) (job : Option UploadLook) → v.job ≡ job → 1 ≤ u.size
    → CanUpload v u (taken_or_resumed v u meta phase job)
resumed_can v u meta Idle job is some = taken_can v u meta some
resumed_can v u meta TransferActive job is some = taken_can v u meta some
resumed_can v u meta TransferSuccess job is some = taken_can v u meta some
resumed_can v u meta TransferError None is some = taken_can v u meta some
resumed_can v u meta TransferError (Some j) is some = chosen v u (same_start v u j) Resume (taken v u meta) (ap is_some is) (taken_can v u meta some)

offered_can : (v : Seen) (u : UploadStart) (phase : UploadPhase) (job : Option UploadLook) (o : Option Meta) → v.job ≡ job → HasSome u o
    → CanUpload v u (offered v u phase job o)
offered_can v u phase job None is some = tt
offered_can v u phase job (Some meta) is some = chosen v u (has_meta v.metas meta) (Store meta) (taken_or_resumed v u meta phase job) tt (resumed_can v u meta phase job is some)

rest_can : (v : Seen) (u : UploadStart) (phase : UploadPhase) (job : Option UploadLook) → v.job ≡ job → CanUpload v u (started_at_rest v u phase job)
rest_can v u phase job is =
    chosen v u (is_at_rest v.phase) (offered v u phase job (offered_meta u)) (Refuse busy_with_distribution) (offered_can v u phase job (offered_meta u) is (offered_some u)) tt

started_can : (v : Seen) (u : UploadStart) (phase : UploadPhase) (job : Option UploadLook) → v.job ≡ job → CanUpload v u (started_in v u phase job)
started_can v u Idle job is = rest_can v u Idle job is
started_can v u TransferError job is = rest_can v u TransferError job is
started_can v u TransferSuccess job is = rest_can v u TransferSuccess job is
started_can v u TransferActive None is = rest_can v u TransferActive None is
started_can v u TransferActive (Some j) is = chosen v u (same_start v u j) Keep (Refuse busy_with_upload) tt tt

pub start_can : (v : Seen) (u : UploadStart) → CanUpload v u (upload_started v u)
start_can v u = started_can v u (run_seen v) v.job refl
