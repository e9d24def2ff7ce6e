-- When a row leaves Phase Unknown.
use Rattle.std.proofs.Common.{◌≡◌, ◌≤◌, ◌<◌, ℕ, Bool, true, false, List, [], ◌∷◌, refl, sym, ap, subst, ◌∙◌, cond, Option, Some, None, arith}
use Rattle.std.specs.Prelude.{◌&&◌, ◌==◌, nat_lt, nat_le, bytes_eq}
use Rattle.std.proofs.lemmas.Bool.Decides.{nat_tests}
use Rattle.mu_model_image.specs.declared.Meta.{Meta}
use Rattle.mu_model_image.specs.Meta.{firmware_id, own_company}
use Rattle.mu_model_node.specs.UpdateMessages.{ShownJob, UpdateReply, InformationStatus, MetadataStatus, UpdateStatus}
use Rattle.mu_model_client.specs.Answers.{Answer, FromUpdate, FromBlob}
use Rattle.mu_model_client.specs.Rows.{Row, rank, is_reported, phase_reported, phase_of_job, phase_shown, row_after}
use Rattle.mu_model_rows.specs.Clients.{tells_of, tells_phase, UnknownStands, UnknownIsExact}

-- ---- an Update Status

-- it tells a phase, and the rank allows it: from Phase Unknown on it always does
told_by : (old new : ℕ) (b : Bool) → b ≡ true → is_reported new ≡ true → cond b new old ≡ 10 → ⊥
told_by old new true e r h = let never : is_reported 10 ≡ true = subst (λ x. is_reported x ≡ true) h r in cc
told_by old new false e r h = cc

not_told : (old new : ℕ) (a b : Bool) → a ≡ false → old ≡ 10 → cond (a && b) new old ≡ 10
not_told old new false b e h = h
not_told old new true b e h = cc

both_true : (a b : Bool) → a ≡ true → b ≡ true → (a && b) ≡ true
both_true true true e k = refl
both_true true false e k = cc
both_true false b e k = cc

may_rise : (old new : ℕ) → old ≡ 10 → (nat_lt (rank old) 5 && nat_le (rank old) (rank new)) ≡ true
may_rise old new e = subst (λ x. (nat_lt (rank x) 5 && nat_le (rank x) (rank new)) ≡ true) (sym e) (lowest (rank new))
  where
    lowest : (n : ℕ) → (nat_lt 0 5 && nat_le 0 n) ≡ true
    lowest n = grind (arith, nat_tests)

never_unknown : (old new : ℕ) (a b : Bool) → is_reported new ≡ a → (old ≡ 10 → ⊥) → cond (a && b) new old ≡ 10 → ⊥
never_unknown old new true true r n h = let never : is_reported 10 ≡ true = subst (λ x. is_reported x ≡ true) h r in cc
never_unknown old new true false r n h = n h
never_unknown old new false b r n h = n h

job_stands : (id old phase : ℕ) (job : Option ShownJob) → old ≡ 10 → tells_of id phase job ≡ false → phase_of_job id old phase job ≡ 10
job_stands id old phase None e t = e
job_stands id old phase (Some job) e t = by_id (job.id == id) refl
  where
    by_id : (b : Bool) → (job.id == id) ≡ b → cond b (phase_reported old phase) old ≡ 10
    by_id true is = not_told old phase (is_reported phase) (nat_lt (rank old) 5 && nat_le (rank old) (rank phase)) (sym (ap (λ b. b && is_reported phase) is) ∙ t) e
    by_id false is = e

job_goes : (id old phase : ℕ) (job : Option ShownJob) → old ≡ 10 → tells_of id phase job ≡ true → phase_of_job id old phase job ≡ 10 → ⊥
job_goes id old phase None e t = λ h. (let never : false ≡ true = t in cc)
job_goes id old phase (Some job) e t = by_id (job.id == id) refl
  where
    by_id : (b : Bool) → (job.id == id) ≡ b → cond b (phase_reported old phase) old ≡ 10 → ⊥
    by_id true is h =
        let reported : is_reported phase ≡ true = sym (ap (λ b. b && is_reported phase) is) ∙ t in
        told_by old phase (is_reported phase && (nat_lt (rank old) 5 && nat_le (rank old) (rank phase))) (both_true (is_reported phase) (nat_lt (rank old) 5 && nat_le (rank old) (rank phase)) reported (may_rise old phase e)) reported h
    by_id false is h = let never : false ≡ true = sym (ap (λ b. b && is_reported phase) is) ∙ t in cc

job_gone : (id old phase : ℕ) (job : Option ShownJob) → (old ≡ 10 → ⊥) → phase_of_job id old phase job ≡ 10 → ⊥
job_gone id old phase None n = n
job_gone id old phase (Some job) n = by_id (job.id == id)
  where
    by_id : (b : Bool) → cond b (phase_reported old phase) old ≡ 10 → ⊥
    by_id true h = never_unknown old phase (is_reported phase) (nat_lt (rank old) 5 && nat_le (rank old) (rank phase)) refl n h
    by_id false h = n h

-- ---- an Information Status

shown_stands : (offered : Meta) (old : ℕ) (ids : List (List ℕ)) → old ≡ 10 → phase_shown offered old ids ≡ 10
shown_stands offered old [] e = e
shown_stands offered old (shown ∷ more) e = by_test (bytes_eq shown (firmware_id own_company offered)) (is_reported old) (ap is_reported e)
  where
    by_test : (a b : Bool) → b ≡ false → cond (a && b) 8 old ≡ 10
    by_test true true k = cc
    by_test true false k = e
    by_test false b k = e

shown_gone : (offered : Meta) (old : ℕ) (ids : List (List ℕ)) → (old ≡ 10 → ⊥) → phase_shown offered old ids ≡ 10 → ⊥
shown_gone offered old [] n = n
shown_gone offered old (shown ∷ more) n = by_test (bytes_eq shown (firmware_id own_company offered) && is_reported old)
  where
    by_test : (b : Bool) → cond b 8 old ≡ 10 → ⊥
    by_test true h = cc
    by_test false h = n h

index_stands : (offered : Meta) (old : ℕ) (ids : List (List ℕ)) (b : Bool) → old ≡ 10 → cond b (phase_shown offered old ids) old ≡ 10
index_stands offered old ids true e = shown_stands offered old ids e
index_stands offered old ids false e = e

index_gone : (offered : Meta) (old : ℕ) (ids : List (List ℕ)) (b : Bool) → (old ≡ 10 → ⊥) → cond b (phase_shown offered old ids) old ≡ 10 → ⊥
index_gone offered old ids true n h = shown_gone offered old ids n h
index_gone offered old ids false n h = n h

-- ---- any answer

stands : (id : ℕ) (offered : Meta) (row : Row) (answer : Answer) → row.phase ≡ 10 → tells_phase id answer ≡ false → (row_after id offered row answer).phase ≡ 10
stands id offered row (FromUpdate (UpdateStatus status phase job)) e t = job_stands id row.phase phase job e t
stands id offered row (FromUpdate (InformationStatus count first ids)) e t = index_stands offered row.phase ids (first == row.index) e
stands id offered row (FromUpdate (MetadataStatus status index)) e t = e
stands id offered row (FromBlob answer) e t = e

goes : (id : ℕ) (offered : Meta) (row : Row) (answer : Answer) → row.phase ≡ 10 → tells_phase id answer ≡ true → (row_after id offered row answer).phase ≡ 10 → ⊥
goes id offered row (FromUpdate (UpdateStatus status phase job)) e t h = job_goes id row.phase phase job e t h
goes id offered row (FromUpdate (InformationStatus count first ids)) e t h = cc
goes id offered row (FromUpdate (MetadataStatus status index)) e t h = cc
goes id offered row (FromBlob answer) e t h = cc

stays_gone : (id : ℕ) (offered : Meta) (row : Row) (answer : Answer) → (row.phase ≡ 10 → ⊥) → (row_after id offered row answer).phase ≡ 10 → ⊥
stays_gone id offered row (FromUpdate (UpdateStatus status phase job)) n h = job_gone id row.phase phase job n h
stays_gone id offered row (FromUpdate (InformationStatus count first ids)) n h = index_gone offered row.phase ids (first == row.index) n h
stays_gone id offered row (FromUpdate (MetadataStatus status index)) n h = n h
stays_gone id offered row (FromBlob answer) n h = n h

pub unknown_is_exact : UnknownIsExact
unknown_is_exact id offered row answer = record { stands = stands id offered row answer; goes = goes id offered row answer; stays_gone = stays_gone id offered row answer }
