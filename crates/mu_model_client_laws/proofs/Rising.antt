-- Packets and rows: at most 16, ranks that never fall, and the cause of each phase.
use Rattle.std.proofs.Common.{◌≡◌, inl, inr, ◌≤◌, ◌==◌, ℕ, List, [], ◌∷◌, refl, sym, ap, subst, true, false, Bool, Some, None, arith, map, length, take, length-take}
use Rattle.std.proofs.lemmas.List.{length-map}
use Rattle.std.proofs.lemmas.Slice.Eq.{bytes_eq-Decides}
use Rattle.std.specs.Prelude.{◌&&◌, ◌||◌, if◌then◌else◌, nat_lt, nat_le, bytes_eq}
use Rattle.std.proofs.lemmas.Bool.{eqb-true}
use Rattle.std.proofs.lemmas.Bool.Decides.{nat_tests}
use Rattle.mu_model_image.specs.declared.Meta.{Meta}
use Rattle.mu_model_image.specs.Meta.{firmware_id, own_company}
use Rattle.mu_model_node.specs.UpdateMessages.{ShownJob, InformationStatus, MetadataStatus, UpdateStatus}
use Rattle.mu_model_client.specs.Answers.{Answer, FromUpdate, FromBlob}
use Rattle.mu_model_client.specs.Rows as rows
use Rattle.mu_model_client.specs.Rows.{Row, rank, is_reported, row_after}
use Rattle.mu_model_client.specs.Client.{Item, Client, at_moment}
use Rattle.mu_model_client.specs.Lists.{sent_for}
use Rattle.mu_model_client.specs.declared.Sending.{Sending}
use Rattle.mu_model_client.specs.Due.{due}
use Rattle.mu_model_client_laws.specs.Laws.{PhaseCause, as_before, was_told, was_shown, IsVerdict}
use Rattle.mu_model_client_laws.proofs.Cases.{each_way, counted_as}

-- ---- at most 16

few : (p : Sending) (image : List ℕ) (items : List Item) → length (map (sent_for p image) (take 16 items)) ≤ 16
few p image items = rw (length-map (take 16 items) (sent_for p image)) (let h = length-take 16 items in omega (arith, h))

pub at_most_sixteen : (c : Client) (image : List ℕ) (now : ℕ) → length (due c image now).packets ≤ 16
at_most_sixteen c image now = each_way c image now (λ e. length e.packets ≤ 16) (record {
  idle = omega arith;
  rests = λ o h. omega arith;
  ends = λ o h part. omega arith;
  begins = λ o h step e. few (counted_as (at_moment c now) o).sending image _;
  goes_on_with = λ items e. few c.sending image items;
  wants = λ b e items h. few c.sending image items;
  again = λ step h. few c.sending image _;
})

-- ---- the cause of a phase

pub both_left : (a b : Bool) → (a && b) ≡ true → a ≡ true
both_left true b h = refl
both_left false b h = h

pub both_right : (a b : Bool) → (a && b) ≡ true → b ≡ true
both_right true b h = h
both_right false b h = elim (false_true h) [ ]
  where
    false_true : false ≡ true → ⊥
    false_true e = grind (arith, e)

module _ (id : ℕ) (offered : Meta) (row : Row) where
  told_if : (status phase : ℕ) (job : ShownJob) → job.id ≡ id → (rises : Bool) → (rises ≡ true → rank row.phase ≤ rank phase) → (reported : Bool)
      → is_reported phase ≡ reported
      → PhaseCause id offered row (FromUpdate (UpdateStatus status phase (Some job))) (if reported && rises then phase else row.phase)
  told_if status phase job e true k true h = was_told status job refl e h (k refl)
  told_if status phase job e true k false h = as_before refl
  told_if status phase job e false k true h = as_before refl
  told_if status phase job e false k false h = as_before refl

  of_job : (status phase : ℕ) (job : ShownJob) (b : Bool) → (job.id == id) ≡ b
      → PhaseCause id offered row (FromUpdate (UpdateStatus status phase (Some job))) (if b then rows.phase_reported row.phase phase else row.phase)
  of_job status phase job true e =
      told_if status phase job (eqb-true job.id id e) (nat_lt (rank row.phase) 5 && nat_le (rank row.phase) (rank phase))
      (λ h. let k = both_right (nat_lt (rank row.phase) 5) (nat_le (rank row.phase) (rank phase)) h in grind (arith, nat_tests, k)) (is_reported phase) refl
  of_job status phase job false e = as_before refl

  same_id : (a b : List ℕ) → bytes_eq a b ≡ true → a ≡ b
  same_id a b h = (bytes_eq-Decides a b).0 h

  shown_if : (count : ℕ) (shown : List ℕ) (ids : List (List ℕ)) (same reported : Bool) → (same ≡ true → shown ≡ firmware_id own_company offered)
      → is_reported row.phase ≡ reported
      → PhaseCause id offered row (FromUpdate (InformationStatus count row.index (shown ∷ ids))) (if same && reported then 8 else row.phase)
  shown_if count shown ids true true e h = was_shown count ids (ap (λ x. FromUpdate (InformationStatus count row.index (x ∷ ids))) (e refl)) h refl
  shown_if count shown ids true false e h = as_before refl
  shown_if count shown ids false reported e h = as_before refl

  of_ids : (count : ℕ) (ids : List (List ℕ))
      → PhaseCause id offered row (FromUpdate (InformationStatus count row.index ids)) (rows.phase_shown offered row.phase ids)
  of_ids count [] = as_before refl
  of_ids count (shown ∷ ids) =
      shown_if count shown ids (bytes_eq shown (firmware_id own_company offered)) (is_reported row.phase) (λ h. same_id shown _ h) refl

  of_index : (count first : ℕ) (ids : List (List ℕ)) (b : Bool) → (first == row.index) ≡ b
      → PhaseCause id offered row (FromUpdate (InformationStatus count first ids)) (if b then rows.phase_shown offered row.phase ids else row.phase)
  of_index count first ids true e =
      subst (λ k. PhaseCause id offered row (FromUpdate (InformationStatus count k ids)) (rows.phase_shown offered row.phase ids)) (sym (eqb-true first row.index e)) (of_ids count ids)
  of_index count first ids false e = as_before refl

  pub of_answer : (answer : Answer) → PhaseCause id offered row answer (row_after id offered row answer).phase
  of_answer (FromBlob answer) = as_before refl
  of_answer (FromUpdate (MetadataStatus status index)) = as_before refl
  of_answer (FromUpdate (UpdateStatus status phase None)) = as_before refl
  of_answer (FromUpdate (UpdateStatus status phase (Some job))) = of_job status phase job (job.id == id) refl
  of_answer (FromUpdate (InformationStatus count first ids)) = of_index count first ids (first == row.index) refl

-- ---- so ranks never fall

five : (a b c e f : Bool) → (if a then 0 else if b then 1 else if c then 2 else if e then 3 else if f then 4 else 5) ≤ 5
five true b c e f = omega arith
five false true c e f = omega arith
five false false true e f = omega arith
five false false false true f = omega arith
five false false false false true = omega arith
five false false false false false = omega arith

pub rank_most : (phase : ℕ) → rank phase ≤ 5
rank_most phase = five ((phase == 0) || (phase == 10)) ((phase == 1) || (phase == 2)) (phase == 3) ((phase == 4) || (phase == 5)) (phase == 6)

-- what a row's phase may become
pub record Rises (old new : ℕ) : Type 0 where
  pub rank_kept : rank old ≤ rank new
  pub verdict_kept : IsVerdict new → new ≡ old

pub false_not_true : false ≡ true → ⊥
false_not_true h = grind (arith, h)

no_verdict : (phase : ℕ) → is_reported phase ≡ true → IsVerdict phase → ⊥
no_verdict phase h (inl e) = false_not_true (subst (λ x. is_reported x ≡ true) e h)
no_verdict phase h (inr (inl e)) = false_not_true (subst (λ x. is_reported x ≡ true) e h)
no_verdict phase h (inr (inr e)) = false_not_true (subst (λ x. is_reported x ≡ true) e h)

eight : IsVerdict 8 → ⊥
eight (inl e) = omega (arith, e)
eight (inr (inl e)) = omega (arith, e)
eight (inr (inr e)) = omega (arith, e)

pub same_rises : (old new : ℕ) → new ≡ old → Rises old new
same_rises old new e = record { rank_kept = subst (λ x. rank old ≤ rank x) (sym e) (omega arith); verdict_kept = λ v. e }

pub cause_rises : (id : ℕ) (offered : Meta) (row : Row) (answer : Answer) (phase : ℕ) → PhaseCause id offered row answer phase → Rises row.phase phase
cause_rises id offered row answer phase (as_before e) = same_rises row.phase phase e
cause_rises id offered row answer phase (was_told status job said of reported le) =
    record { rank_kept = le; verdict_kept = λ v. absurd (no_verdict phase reported v) }
cause_rises id offered row answer phase (was_shown count more said reported e) =
    record {
      rank_kept = subst (λ x. rank row.phase ≤ rank x) (sym e) (rank_most row.phase);
      verdict_kept = λ v. absurd (eight (subst IsVerdict e v));
    }
