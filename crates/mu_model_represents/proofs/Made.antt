-- The state of a store with images in given banks, and one bank more.
use Rattle.std.proofs.Common.{◌≡◌, ◌⊎◌, ⊎_elim, ℕ, zero, suc, ◌*◌, ◌<◌, ◌≤◌, min, Bool, true, false, Option, Some, None, List, [], ◌∷◌, take, refl, sym, ◌∙◌, ap, subst, arith, eqb, eq-eqb}
use Rattle.std.specs.Prelude.{slice_index_or}
use Rattle.std.proofs.lemmas.Bool.{eqb-true}
use Rattle.std.proofs.lemmas.List.{get_or-take, get_or_past, length-take}
use Rattle.mu_model_image.specs.Meta.{Image}
use Rattle.mu_model_record.specs.declared.Record.{Record}
use Rattle.mu_model_record.specs.declared.BankState.{BankState}
use Rattle.mu_model_record.specs.declared.BankState.TheVariants.{Empty, Sealed}
use Rattle.mu_model_record.specs.Record.{IsEntryInRange, IsFilling, entry_of}
use Rattle.mu_model_record.specs.Store.{Content, nothing, whole, StoreState, content_of_bank}
use Rattle.mu_model_represents.specs.BlobPart.{NoneFilling}
use Rattle.mu_model_represents.specs.Images.{IsSealed, HasImage}
use Rattle.mu_model_represents.specs.Made.{entry_by, content_by, Plan, made, IsPlan, StoresAreMade}
use Rattle.mu_model_represents.specs.StoreStates.{ContentOf, IsStoreState}

module _ (p : Plan) (placed : ℕ → Option Image) (is : IsPlan p placed) where
  abbrev r : Record
  r = (made p placed).present

  entry_is : (b : ℕ) → b < 4 → entry_of r b ≡ entry_by p.entry (placed b) (eqb b p.bank)
  entry_is zero lt = refl
  entry_is (suc zero) lt = refl
  entry_is (suc (suc zero)) lt = refl
  entry_is (suc (suc (suc zero))) lt = refl
  entry_is (suc (suc (suc (suc b)))) lt = absurd (omega arith)

  entry_past : (b : ℕ) → 4 ≤ b → entry_of r b ≡ Empty
  entry_past b ge = get_or_past r.banks b Empty ge

  contents_at : (b : ℕ) → b < 4 → slice_index_or (content_by p.content (placed 0) (eqb 0 p.bank) ∷ content_by p.content (placed 1) (eqb 1 p.bank) ∷ content_by p.content (placed 2) (eqb 2 p.bank) ∷ content_by p.content (placed 3) (eqb 3 p.bank) ∷ []) b nothing ≡ content_by p.content (placed b) (eqb b p.bank)
  contents_at zero lt = refl
  contents_at (suc zero) lt = refl
  contents_at (suc (suc zero)) lt = refl
  contents_at (suc (suc (suc zero))) lt = refl
  contents_at (suc (suc (suc (suc b)))) lt = absurd (omega arith)

  content_is : (b : ℕ) → b < p.number → content_of_bank (made p placed) b ≡ content_by p.content (placed b) (eqb b p.bank)
  content_is b lt = get_or-take p.number (content_by p.content (placed 0) (eqb 0 p.bank) ∷ content_by p.content (placed 1) (eqb 1 p.bank) ∷ content_by p.content (placed 2) (eqb 2 p.bank) ∷ content_by p.content (placed 3) (eqb 3 p.bank) ∷ []) b nothing lt
      ∙ contents_at b (omega (arith, lt, is.number_most))

  -- an image is in its bank
  pub has_image : (b : ℕ) (x : Image) → placed b ≡ Some x → HasImage (made p placed) b x
  has_image b x at =
      let lt = is.there b x at in
      record {
        entry = entry_is b (omega (arith, lt, is.number_most)) ∙ ap (λ (o : Option Image). entry_by p.entry o (eqb b p.bank)) at;
        content = content_is b lt ∙ ap (λ (o : Option Image). content_by p.content o (eqb b p.bank)) at;
      }

  itself : (n : ℕ) → eqb n n ≡ true
  itself n = eq-eqb n n refl

  -- and the bank that has none holds what it should
  pub entry_there : placed p.bank ≡ None → entry_of r p.bank ≡ p.entry
  entry_there none = entry_is p.bank (omega (arith, is.bank, is.number_most)) ∙ (λ i. entry_by p.entry (none i) (itself p.bank i))

  pub content_there : placed p.bank ≡ None → content_of_bank (made p placed) p.bank ≡ p.content
  content_there none = content_is p.bank is.bank ∙ (λ i. content_by p.content (none i) (itself p.bank i))

  -- each bank has an image, or is that one, or is Empty
  kind : (b : ℕ) (o : Option Image) (t : Bool) → (P : BankState → Content → Type 0) → ((x : Image) → o ≡ Some x → P (Sealed x.meta) (whole x.octets)) → (t ≡ true → P p.entry p.content) → P Empty nothing → P (entry_by p.entry o t) (content_by p.content o t)
  kind b (Some x) t P some one none = some x refl
  kind b None true P some one none = one refl
  kind b None false P some one none = none

  range_at : (b : ℕ) → IsEntryInRange r (entry_by p.entry (placed b) (eqb b p.bank))
  range_at b = kind b (placed b) (eqb b p.bank) (λ e c. IsEntryInRange r e) (λ x at. let good = is.good b x at in (good.meta, good.active.room)) (λ t. is.entry) tt

  content_at : (b : ℕ) → ContentOf (entry_by p.entry (placed b) (eqb b p.bank)) (content_by p.content (placed b) (eqb b p.bank))
  content_at b = kind b (placed b) (eqb b p.bank) ContentOf (λ x at. (is.good b x at).active.fit) (λ t. is.content) tt

  -- a bank that is Filling is that one
  filling_at : (b : ℕ) → IsFilling (entry_by p.entry (placed b) (eqb b p.bank)) → b ≡ p.bank
  filling_at b = kind b (placed b) (eqb b p.bank) (λ e c. IsFilling e → b ≡ p.bank) (λ x at h. absurd h) (λ t h. eqb-true b p.bank t) (λ h. absurd h)

  none_at : (b : ℕ) → (IsFilling p.entry → ⊥) → IsFilling (entry_by p.entry (placed b) (eqb b p.bank)) → ⊥
  none_at b not = kind b (placed b) (eqb b p.bank) (λ e c. IsFilling e → ⊥) (λ x at h. h) (λ t h. not h) (λ h. h)

  either : (n i : ℕ) → (i < n) ⊎ (n ≤ i)
  either n i = grind arith

  filling_one : (b : ℕ) → IsFilling (entry_of r b) → b ≡ p.bank
  filling_one b h = ⊎_elim
      (λ lt. filling_at b (subst (λ (e : BankState). IsFilling e) (entry_is b lt) h))
      (λ ge. absurd (subst (λ (e : BankState). IsFilling e) (entry_past b ge) h))
      (either 4 b)

  pub none_filling : (IsFilling p.entry → ⊥) → NoneFilling r
  none_filling not b h = ⊎_elim
      (λ lt. none_at b not (subst (λ (e : BankState). IsFilling e) (entry_is b lt) h))
      (λ ge. subst (λ (e : BankState). IsFilling e) (entry_past b ge) h)
      (either 4 b)

  not_there : (b : ℕ) → p.number ≤ b → entry_by p.entry (placed b) (eqb b p.bank) ≡ Empty
  not_there b ge = kind b (placed b) (eqb b p.bank) (λ e c. e ≡ Empty) (λ x at. absurd (omega (arith, is.there b x at, ge))) (λ t. absurd (omega (arith, eqb-true b p.bank t, is.bank, ge))) refl

  -- a bank that is Sealed has an image, where that one isn't
  sealed_at : (b : ℕ) → (IsSealed p.entry → ⊥) → IsSealed (entry_by p.entry (placed b) (eqb b p.bank)) → (x : Image) × (placed b ≡ Some x)
  sealed_at b not = kind b (placed b) (eqb b p.bank) (λ e c. IsSealed e → (x : Image) × (placed b ≡ Some x)) (λ x at h. (x, at)) (λ t h. absurd (not h)) (λ h. absurd h)

  pub sealed_image : (b : ℕ) → (IsSealed p.entry → ⊥) → IsSealed (entry_of r b) → (x : Image) × (placed b ≡ Some x)
  sealed_image b not h = ⊎_elim
      (λ lt. sealed_at b not (subst (λ (e : BankState). IsSealed e) (entry_is b lt) h))
      (λ ge. absurd (subst (λ (e : BankState). IsSealed e) (entry_past b ge) h))
      (either 4 b)

  pub is_made : IsStoreState (made p placed)
  is_made = record {
    in_range = record {
      number_least = is.number_least;
      number_most = is.number_most;
      pages_least = is.pages_least;
      pages_most = is.pages_most;
      count_least = is.count.least;
      count_most = is.count.most;
      four = refl;
      entries = λ b lt. subst (λ (e : BankState). IsEntryInRange r e) (sym (entry_is b (omega (arith, lt, is.number_most)))) (range_at b);
      not_there = λ b ge lt. entry_is b lt ∙ not_there b ge;
      one_filling = λ a b h g. filling_one a h ∙ sym (filling_one b g);
      tag_size = is.tag.0;
      tag_octets = is.tag.1;
    };
    as_many = length-take p.number (content_by p.content (placed 0) (eqb 0 p.bank) ∷ content_by p.content (placed 1) (eqb 1 p.bank) ∷ content_by p.content (placed 2) (eqb 2 p.bank) ∷ content_by p.content (placed 3) (eqb 3 p.bank) ∷ []) ∙ least p.number is.number_most;
    contents = λ b lt. subst (λ (k : Content). ContentOf (entry_of r b) k) (sym (content_is b lt)) (subst (λ (e : BankState). ContentOf e (content_by p.content (placed b) (eqb b p.bank))) (sym (entry_is b (omega (arith, lt, is.number_most)))) (content_at b));
  }
    where
      least : (n : ℕ) → n ≤ 4 → min n 4 ≡ n
      least n h = omega arith

pub stores_are_made : StoresAreMade
stores_are_made p placed is = record {
  state = is_made p placed is;
  image = has_image p placed is;
  entry = entry_there p placed is;
  content = content_there p placed is;
  none_filling = none_filling p placed is;
  sealed_image = sealed_image p placed is;
}
