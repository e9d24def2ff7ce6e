-- Folds of what counted, one after the other, and Phase Unknown.
use Rattle.std.proofs.Common.{◌≡◌, ℕ, Bool, true, false, List, [], ◌∷◌, ◌++◌, map, refl, sym, ap, ◌∙◌, cond, Some, None}
use Rattle.std.specs.Prelude.{◌==◌, ◌||◌, nat_lt}
use Rattle.std.specs.List.{list_any}
use Rattle.mu_model_image.specs.declared.Meta.{Meta}
use Rattle.mu_model_node.specs.UpdateMessages.{InformationStatus, MetadataStatus, UpdateStatus}
use Rattle.mu_model_client.specs.Answers.{Answer, FromUpdate, FromBlob}
use Rattle.mu_model_client.specs.Rows.{Row, rank, with_phase, row_after, row_canceled, row_unconfirmed, transfer_canceled, apply_success, apply_failed, phase_unknown}
use Rattle.mu_model_rows.specs.Clients.{UnknownIsExact}
use Rattle.mu_model_row_folds.specs.Folds.{Counted, Told, Canceled, Unconfirmed, row_in, phase_by, folded, IsFolded, Folds, joined, teaches, UnknownIsExactInRuns}
use Rattle.mu_model_row_folds.specs.Updaters.{none_counted}

-- ---- what a packet and a verdict make of a row, by its index and its phase alone

pub told_same : (id : ℕ) (offered : Meta) (row : Row) (answer : Answer) → phase_by id offered row.index row.phase (Told answer) ≡ (row_after id offered row answer).phase
told_same id offered row (FromUpdate (UpdateStatus status phase None)) = refl
told_same id offered row (FromUpdate (UpdateStatus status phase (Some job))) = refl
told_same id offered row (FromUpdate (InformationStatus count first ids)) = refl
told_same id offered row (FromUpdate (MetadataStatus status index)) = refl
told_same id offered row (FromBlob answer) = refl

one_of : (b : Bool) (x y : Row) (to : ℕ) → x.phase ≡ y.phase → (cond b (with_phase to x) x).phase ≡ (cond b (with_phase to y) y).phase
one_of true x y to e = refl
one_of false x y to e = e

other_of : (b : Bool) (x y : Row) (to : ℕ) → x.phase ≡ y.phase → (cond b x (with_phase to x)).phase ≡ (cond b y (with_phase to y)).phase
other_of true x y to e = e
other_of false x y to e = refl

pub canceled_same : (id : ℕ) (offered : Meta) (row : Row) → phase_by id offered row.index row.phase Canceled ≡ (row_canceled row).phase
canceled_same id offered row = one_of (nat_lt (rank row.phase) 5) (row_in row.index row.phase) row transfer_canceled refl

pub unconfirmed_same : (id : ℕ) (offered : Meta) (row : Row) → phase_by id offered row.index row.phase Unconfirmed ≡ (row_unconfirmed row).phase
unconfirmed_same id offered row = other_of (row.phase == apply_success) (row_in row.index row.phase) row apply_failed refl

-- ---- one after the other

folded_then : (id : ℕ) (offered : Meta) (index phase : ℕ) (cs ds : List Counted) → folded id offered index phase (cs ++ ds) ≡ folded id offered index (folded id offered index phase cs) ds
folded_then id offered index phase [] ds = refl
folded_then id offered index phase (c ∷ cs) ds = folded_then id offered index (phase_by id offered index phase c) cs ds

row_then : (id : ℕ) (offered : Meta) (row mid now : Row) (cs ds : List Counted) → IsFolded id offered row cs mid → IsFolded id offered mid ds now → IsFolded id offered row (cs ++ ds) now
row_then id offered row mid now cs ds h k = record {
  address_same = k.address_same ∙ h.address_same;
  index_same = k.index_same ∙ h.index_same;
  phase_is =
      k.phase_is
      ∙ (ap (λ i. folded id offered i mid.phase ds) h.index_same
      ∙ (ap (λ p. folded id offered row.index p ds) h.phase_is ∙ sym (folded_then id offered row.index row.phase cs ds)));
}

pub folds_then : (id : ℕ) (offered : Meta) (before mid after : List Row) (cs ds : List (List Counted)) → Folds id offered before cs mid → Folds id offered mid ds after → Folds id offered before (joined cs ds) after
folds_then id offered [] [] [] [] [] h k = tt
folds_then id offered [] [] [] [] (d ∷ ds) h k = absurd k
folds_then id offered [] [] (e ∷ es) [] [] h k = absurd k
folds_then id offered [] [] (e ∷ es) [] (d ∷ ds) h k = absurd k
folds_then id offered [] (m ∷ ms) es [] ds h k = absurd h
folds_then id offered [] ms es (c ∷ cs) ds h k = absurd h
folds_then id offered (r ∷ rs) ms es [] ds h k = absurd h
folds_then id offered (r ∷ rs) [] es (c ∷ cs) ds h k = absurd h
folds_then id offered (r ∷ rs) (m ∷ ms) [] (c ∷ cs) [] h k = absurd k
folds_then id offered (r ∷ rs) (m ∷ ms) (e ∷ es) (c ∷ cs) [] h k = absurd k
folds_then id offered (r ∷ rs) (m ∷ ms) [] (c ∷ cs) (d ∷ ds) h k = absurd k
folds_then id offered (r ∷ rs) (m ∷ ms) (e ∷ es) (c ∷ cs) (d ∷ ds) h k = (row_then id offered r m e c d h.0 k.0, folds_then id offered rs ms es cs ds h.1 k.1)

-- nothing counted
pub folds_none : {R : Type 0} (row_of : R → Row) (id : ℕ) (offered : Meta) (rs : List R) → Folds id offered (map row_of rs) (map none_counted rs) (map row_of rs)
folds_none row_of id offered [] = tt
folds_none row_of id offered (r ∷ rs) = (record { address_same = refl; index_same = refl; phase_is = refl }, folds_none row_of id offered rs)

-- ---- Phase Unknown

seven : (b : Bool) (index : ℕ) → (cond b (row_in index phase_unknown) (with_phase apply_failed (row_in index phase_unknown))).phase ≡ phase_unknown → b ≡ true
seven true index e = refl
seven false index e = cc

known_canceled : (b : Bool) (row : Row) → (row.phase ≡ phase_unknown → ⊥) → (cond b (with_phase transfer_canceled row) row).phase ≡ phase_unknown → ⊥
known_canceled true row h e = cc
known_canceled false row h e = h e

known_unconfirmed : (b : Bool) (row : Row) → (row.phase ≡ phase_unknown → ⊥) → (cond b row (with_phase apply_failed row)).phase ≡ phase_unknown → ⊥
known_unconfirmed true row h e = h e
known_unconfirmed false row h e = cc

module _ (exact : UnknownIsExact) (id : ℕ) (offered : Meta) (index : ℕ) where
  known_by : (phase : ℕ) (c : Counted) → (phase ≡ phase_unknown → ⊥) → phase_by id offered index phase c ≡ phase_unknown → ⊥
  known_by phase (Told answer) h = (exact id offered (row_in index phase) answer).stays_gone h
  known_by phase Canceled h = known_canceled (nat_lt (rank phase) 5) (row_in index phase) h
  known_by phase Unconfirmed h = known_unconfirmed (phase == apply_success) (row_in index phase) h

  stays_known : (phase : ℕ) (cs : List Counted) → (phase ≡ phase_unknown → ⊥) → folded id offered index phase cs ≡ phase_unknown → ⊥
  stays_known phase [] h = h
  stays_known phase (c ∷ cs) h = stays_known (phase_by id offered index phase c) cs (known_by phase c h)

  learns : (c : Counted) → teaches id c ≡ true → phase_by id offered index phase_unknown c ≡ phase_unknown → ⊥
  learns (Told answer) e = (exact id offered (row_in index phase_unknown) answer).goes refl e
  learns Canceled e = λ k. cc
  learns Unconfirmed e = λ k. cc

  keeps : (c : Counted) → teaches id c ≡ false → phase_by id offered index phase_unknown c ≡ phase_unknown
  keeps (Told answer) e = (exact id offered (row_in index phase_unknown) answer).stands refl e
  keeps Canceled e = absurd cc
  keeps Unconfirmed e = absurd cc

  right_false : (b more : Bool) → (b || more) ≡ false → (b ≡ false) × (more ≡ false)
  right_false true more e = cc
  right_false false more e = (refl, e)

  still_unknown : (cs : List Counted) → list_any (teaches id) cs ≡ false → folded id offered index phase_unknown cs ≡ phase_unknown
  still_unknown [] e = refl
  still_unknown (c ∷ cs) e =
      let both = right_false (teaches id c) (list_any (teaches id) cs) e in
      ap (λ p. folded id offered index p cs) (keeps c both.0) ∙ still_unknown cs both.1

  by_first : (c : Counted) (cs : List Counted) (b : Bool) → teaches id c ≡ b → (folded id offered index phase_unknown cs ≡ phase_unknown → list_any (teaches id) cs ≡ false)
      → folded id offered index (phase_by id offered index phase_unknown c) cs ≡ phase_unknown → (b || list_any (teaches id) cs) ≡ false
  by_first c cs true e more h = absurd (stays_known (phase_by id offered index phase_unknown c) cs (learns c e) h)
  by_first c cs false e more h = more (sym (ap (λ p. folded id offered index p cs) (keeps c e)) ∙ h)

  none_taught : (cs : List Counted) → folded id offered index phase_unknown cs ≡ phase_unknown → list_any (teaches id) cs ≡ false
  none_taught [] h = refl
  none_taught (c ∷ cs) h = by_first c cs (teaches id c) refl (none_taught cs) h

pub unknown_in_runs : UnknownIsExact → UnknownIsExactInRuns
unknown_in_runs exact id offered index counted = (none_taught exact id offered index counted, still_unknown exact id offered index counted)
