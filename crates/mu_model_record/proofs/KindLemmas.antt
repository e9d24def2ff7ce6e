-- What a boot finds on a flash that represents a store.
use Rattle.std.proofs.Common.{◌≡◌, ◌⊎◌, inl, inr, ⊎_elim, ℕ, ◌<◌, ◌≤◌, Option, Some, None, List, refl, sym, ◌∙◌, ap, subst, arith}
use Rattle.std.specs.Prelude.{slice_index, slice_index_or}
use Rattle.sha2.specs.Sha256.{sha256}
use Rattle.mu_model_image.specs.declared.Meta.{Meta}
use Rattle.mu_model_image.specs.Pieces.{block_count}
use Rattle.mu_model_record.specs.declared.BankState.{BankState}
use Rattle.mu_model_record.specs.declared.BankState.TheVariants.{Filling, Sealed}
use Rattle.mu_model_record.specs.Page.{Word}
use Rattle.mu_model_record.specs.Store.{Content, nothing, held, whole, StoreState, content_of_bank, mark_place, BlockLies, BankHolds}
use Rattle.mu_model_record.specs.Represents.{RepresentsAt}
use Rattle.mu_model_record.specs.Kinds.{HasWord, IsBehind, IsPresent, HasPresent, AreMarks, AreFitBelow, sealed_octets, IsStore}

module _ (page : ℕ) (word : Word) (d : StoreState) (image : List ℕ) (at : RepresentsAt page word d image) where
  pub has_word : HasWord image page word
  has_word = record { control = at.control.one_of_two; within = omega (arith, at.size, at.control.one_of_two); there = at.control.there }

  -- each word is behind the present record
  behind : (q : ℕ) (v : Word) → HasWord image q v → IsBehind q v page word d.present.count
  behind q v has = ⊎_elim
      (λ is. subst (λ (n : ℕ). IsBehind n v page word d.present.count) (sym is.0)
      (subst (λ (x : Word). IsBehind page x page word d.present.count) (sym is.1) (d.present, at.control.spells, at.in_range, inr (refl, inr (refl, omega arith)))))
      (λ older. (older.0, older.1, older.2, inl older.3))
      (at.control.others q has.control v has.there)

  pub is_present : IsPresent image page word d.present
  is_present = record { there = has_word; spells = at.control.spells; in_range = at.in_range; greatest = behind }

  marks_of : (b size log : ℕ) (content : Content) → BankHolds d.present b (Filling size log) content image → (i : ℕ) → i < block_count size log → (slice_index image (mark_place b i) ≡ 0xFF) ⊎ (slice_index image (mark_place b i) ≡ 0xFE)
  marks_of b size log nothing holds i lt = absurd holds
  marks_of b size log (whole octets) holds i lt = absurd holds
  marks_of b size log (held blocks) holds i lt = one (slice_index_or blocks i None) (holds.1 i lt)
    where
      one : (block : Option (List ℕ)) → BlockLies d.present b size log i block image → (slice_index image (mark_place b i) ≡ 0xFF) ⊎ (slice_index image (mark_place b i) ≡ 0xFE)
      one None lies = inl lies
      one (Some octets) lies = inr lies.0

  pub are_marks : AreMarks d.present image
  are_marks b size log lt is = marks_of b size log (content_of_bank d b) (subst (λ (e : BankState). BankHolds d.present b e (content_of_bank d b) image) is (at.banks b lt))

  fit_of : (b : ℕ) (meta : Meta) (content : Content) → BankHolds d.present b (Sealed meta) content image → sha256 (sealed_octets d.present b meta image) ≡ meta.digest
  fit_of b meta nothing holds = absurd holds
  fit_of b meta (held blocks) holds = absurd holds
  fit_of b meta (whole octets) holds = ap sha256 holds.0 ∙ holds.1.digest

  pub are_fit : (most : ℕ) → most ≤ d.present.number → AreFitBelow most d.present image
  are_fit most le b meta lt is = fit_of b meta (content_of_bank d b) (subst (λ (e : BankState). BankHolds d.present b e (content_of_bank d b) image) is (at.banks b (omega (arith, lt, le))))

  pub has_present : HasPresent image d.present
  has_present = record { page = page; word = word; is = is_present; size = at.size }

  pub is_store : IsStore image d.present
  is_store = record { is_present = has_present; marks = are_marks; fit = are_fit d.present.number (omega arith) }
