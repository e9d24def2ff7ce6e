-- What a record says of its banks, bank by bank.
use Rattle.std.proofs.Common.{◌≡◌, ◌∙◌, ℕ, zero, suc, ◌+◌, ◌<◌, ◌≤◌, true, List, [], ◌∷◌, map, length, take, drop, get_or, set, slice_index_or, refl, sym, ap, subst, arith, add-one}
use Rattle.std.proofs.lemmas.List.{take_all}
use Rattle.mu_model_image.specs.declared.Meta.{Meta}
use Rattle.mu_model_record.specs.declared.Record.{Record}
use Rattle.mu_model_record.specs.declared.BankState.{BankState}
use Rattle.mu_model_record.specs.declared.BankState.TheVariants.{Empty}
use Rattle.mu_model_record.specs.Record.{entry_of, IsRecord}
use Rattle.mu_model_represents.specs.Images.{IsSealed, is_among}

-- past the four banks there is none
no_entry : (banks : List BankState) (b : ℕ) → length banks ≤ b → slice_index_or banks b Empty ≡ Empty
no_entry [] b le = refl
no_entry (x ∷ banks) zero le = absurd (omega arith)
no_entry (x ∷ banks) (suc b) le = no_entry banks b (omega arith)

pub four_known : (r : Record) (banks : List ℕ) → IsRecord r
    → (IsSealed (entry_of r 0) → is_among banks 0 ≡ true) → (IsSealed (entry_of r 1) → is_among banks 1 ≡ true) → (IsSealed (entry_of r 2) → is_among banks 2 ≡ true) → (IsSealed (entry_of r 3) → is_among banks 3 ≡ true)
    → (b : ℕ) → IsSealed (entry_of r b) → is_among banks b ≡ true
four_known r banks is h0 h1 h2 h3 zero s = h0 s
four_known r banks is h0 h1 h2 h3 (suc zero) s = h1 s
four_known r banks is h0 h1 h2 h3 (suc (suc zero)) s = h2 s
four_known r banks is h0 h1 h2 h3 (suc (suc (suc zero))) s = h3 s
four_known r banks is h0 h1 h2 h3 (suc (suc (suc (suc b)))) s =
    absurd (subst IsSealed (no_entry r.banks (suc (suc (suc (suc b)))) (omega (arith, is.four))) s)

-- ---- their metadata, one by one

one_more : (f : ℕ → Meta) (metas : List Meta) (banks : List ℕ) (i : ℕ) (meta : Meta) → i < length metas → i < length banks → meta ≡ f (get_or banks i 0)
    → take i metas ≡ map f (take i banks) → take (suc i) (set metas i meta) ≡ map f (take (suc i) banks)
one_more f [] banks i meta lt within is e = absurd (omega arith)
one_more f (m ∷ metas) [] i meta lt within is e = absurd (omega arith)
one_more f (m ∷ metas) (b ∷ banks) zero meta lt within is e = ap (λ (x : Meta). x ∷ []) is
one_more f (m ∷ metas) (b ∷ banks) (suc i) meta lt within is e =
    let first : m ≡ f b = ap (λ (l : List Meta). get_or l 0 m) e in
    let rest : take i metas ≡ map f (take i banks) = ap (λ (l : List Meta). drop 1 l) e in
    λ k. first k ∷ one_more f metas banks i meta (omega arith) (omega arith) is rest k

pub metas_next : (f : ℕ → Meta) (metas : List Meta) (banks : List ℕ) (i : ℕ) (meta : Meta) → i < length metas → i < length banks → meta ≡ f (get_or banks i 0)
    → take i metas ≡ map f (take i banks) → take (i + 1) (set metas i meta) ≡ map f (take (i + 1) banks)
metas_next f metas banks i meta lt within is e =
    subst (λ (n : ℕ). take n (set metas i meta) ≡ map f (take n banks)) (sym (add-one i)) (one_more f metas banks i meta lt within is e)

pub metas_all : (f : ℕ → Meta) (metas : List Meta) (banks : List ℕ) (i : ℕ) → i ≡ length banks → take i metas ≡ map f (take i banks) → take (length banks) metas ≡ map f banks
metas_all f metas banks i is e =
    subst (λ (n : ℕ). take n metas ≡ map f (take n banks)) is e ∙ ap (map f) (take_all (length banks) banks (omega arith))
