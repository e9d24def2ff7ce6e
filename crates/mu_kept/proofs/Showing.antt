-- What is kept, as the model's server sees it.
use Rattle.std.proofs.Common.{◌≡◌, ◌∙◌, ℕ, zero, suc, Bool, true, false, Option, Some, None, List, [], ◌∷◌, length, map, set, replicate, refl, sym, ap, subst}
use Rattle.std.specs.Prelude.{is_some, not, is_none, ◌&&◌, if◌then◌else◌}
use Rattle.std.specs.List.{list_all}
use Rattle.std.proofs.lemmas.List.{map-set}
use Rattle.std.proofs.lemmas.List.Folds.{list_all-map}
use Rattle.mu_model_wire.specs.Reports.{complement}
use Rattle.mu_model_node.specs.declared.Parameters.{Parameters}
use Rattle.mu_model_node.specs.Slots.{Slots, empty, put, is_full, received, missing}
use Rattle.mu_model_node.specs.BlobServer.{Serving, Lacking, Whole}
use Rattle.mu_note.specs.declared.blob.BlobJob.{BlobJob}
use Rattle.mu_blob_rows.specs.declared.looks.TransferLook.{TransferLook}
use Rattle.mu_blob_rows.specs.declared.looks.Serving.TheVariants.{Lacking as LackingHere, Whole as WholeHere}
use Rattle.mu_blob_rows.specs.Looks.{transfer_with, serving_with}
use Rattle.mu_kept.specs.Views.{serving_of}
use Rattle.mu_kept.specs.Shows.{served_with}

-- all blocks are held where all flags say so
pub all_held : (held : Slots) (flags : List Bool) → received held ≡ flags → list_all (λ b. b) flags ≡ is_full held
all_held held flags e = ap (list_all (λ b. b)) (sym e) ∙ list_all-map (λ b. b) is_some held

by_flag : (t : TransferLook) (held : Slots) (b : Bool)
    → serving_with (if b then WholeHere t else LackingHere t) held ≡ (if b then Whole (transfer_with t held) else Lacking (transfer_with t held))
by_flag t held true = refl
by_flag t held false = refl

serves : (id size base : ℕ) (q : Option Parameters) (bank : ℕ) (flags : List Bool) (held : Slots) → received held ≡ flags
    → serving_with (serving_of (Some (record { id = id; size = size; base = base; bank = bank; parameters = q })) flags) held
    ≡ served_with (Some (record { id = id; size = size; base = base; bank = bank; parameters = q })) held
serves id size base None bank flags held e = refl
serves id size base (Some p) bank flags held e =
    by_flag t held (list_all (λ b. b) flags)
    ∙ ap (λ (b : Bool). if b then Whole (transfer_with t held) else Lacking (transfer_with t held)) (all_held held flags e)
  where
    t : TransferLook
    t = record { id = id; size = size; base = base; parameters = Some p }

pub shown : (job : Option BlobJob) (flags : List Bool) (held : Slots) → received held ≡ flags → serving_with (serving_of job flags) held ≡ served_with job held
shown None flags held e = refl
shown (Some j) flags held e = serves j.id j.size j.base j.parameters j.bank flags held e

-- ---- slots after a change

pub received-empty : (n : ℕ) → received (empty n) ≡ replicate n false
received-empty zero = refl
received-empty (suc n) = ap (λ (bs : List Bool). false ∷ bs) (received-empty n)

pub received-put : (held : Slots) (i : ℕ) (octets : List ℕ) (flags : List Bool) → received held ≡ flags → received (put held i octets) ≡ set flags i true
received-put held i octets flags e = map-set is_some held i (Some octets) ∙ ap (λ (bs : List Bool). set bs i true) e

-- all places that have something
pub received-all : (xs : List (List ℕ)) (n : ℕ) → length (map Some xs) ≡ n → received (map Some xs) ≡ replicate n true
received-all xs n e = each xs ∙ ap (λ (k : ℕ). replicate k true) e
  where
    each : (ys : List (List ℕ)) → received (map Some ys) ≡ replicate (length (map Some ys)) true
    each [] = refl
    each (y ∷ ys) = ap (λ (bs : List Bool). true ∷ bs) (each ys)

-- ---- what is missing

not-is_some : (o : Option (List ℕ)) → not (is_some o) ≡ is_none o
not-is_some None = refl
not-is_some (Some octets) = refl

missing-received : (held : Slots) → complement (received held) ≡ missing held
missing-received [] = refl
missing-received (o ∷ held) = λ i. not-is_some o i ∷ missing-received held i

pub missing_shown : (held : Slots) (flags : List Bool) → received held ≡ flags → complement flags ≡ missing held
missing_shown held flags e = ap complement (sym e) ∙ missing-received held
