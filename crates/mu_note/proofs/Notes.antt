-- What octets say of a node's job.
use Rattle.std.proofs.Common.{◌≡◌, ◌∙◌, ◌++◌, ℕ, List, [], ◌∷◌, length, set, Option, Some, None, refl, sym, ap, arith}
use Rattle.std.specs.Prelude.{slice_index}
use Rattle.std.proofs.lemmas.List.{set-append_right}
use Rattle.mu_model_image.specs.Meta.{meta_from}
use Rattle.mu_model_flash.specs.Bits.{part_of}
use Rattle.mu_model_record.specs.Record.{zeros}
use Rattle.mu_model_node.specs.declared.Stored.{Stored}
use Rattle.mu_model_node.specs.declared.Stored.TheVariants.{Filling, Verified, Refused, Applied}
use Rattle.mu_model_represents.specs.NodeNote.{NoteJob, stored_number, HasNoteJob, index_of, first_of, second_of}

never_0 : (s : Stored) → 0 ≡ stored_number s → ⊥
never_0 Filling e = cc
never_0 Verified e = cc
never_0 Refused e = cc
never_0 Applied e = cc

-- where the stored phase is 0 there is no job
pub no_job : (octets : List ℕ) (index : ℕ) (job : Option NoteJob) → slice_index octets 2 ≡ 0 → index_of job ≡ index → HasNoteJob job octets
    → (0 ≡ index) × (part_of octets 4 40 ≡ zeros 40)
no_job octets index None zero e h = (e, h.no_metadata_at_4)
no_job octets index (Some j) zero e h = absurd (never_0 j.stored (sym zero ∙ h.phase_at_2))

-- where it isn't, the octets of a job are metadata
pub no_meta : (octets : List ℕ) (job : Option NoteJob) → (slice_index octets 2 ≡ 0 → ⊥) → None ≡ meta_from (part_of octets 4 40) → HasNoteJob job octets → ⊥
no_meta octets None some e h = some h.no_phase_at_2
no_meta octets (Some j) some e h = let no : None ≡ Some j.meta = e ∙ h.metadata_at_4 in cc

-- ---- what is written

pub first_is : (banks : List ℕ) → slice_index banks 0 ≡ first_of banks
first_is [] = refl
first_is (a ∷ banks) = refl

pub second_is : (banks : List ℕ) → slice_index banks 1 ≡ second_of banks
second_is [] = refl
second_is (a ∷ banks) = first_is banks

-- two octets that are written after a part of 42
pub placed : (part rest : List ℕ) (x y : ℕ) → length part ≡ 42 → set (set (part ++ (0 ∷ 0 ∷ rest)) 42 x) 43 y ≡ part ++ (x ∷ y ∷ rest)
placed part rest x y long =
    ap (λ (l : List ℕ). set l 43 y) (set-append_right part (0 ∷ 0 ∷ rest) 42 42 x long (omega arith))
    ∙ set-append_right part (x ∷ 0 ∷ rest) 42 43 y long (omega arith)
