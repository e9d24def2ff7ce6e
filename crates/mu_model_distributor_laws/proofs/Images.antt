-- Banks and images: an empty bank, images that go, and one that is added.
use Rattle.std.proofs.Common.{◌≡◌, ◌<◌, ℕ, Bool, true, false, List, [], ◌∷◌, ◌++◌, refl, subst, ◌∙◌, cond, arith, Option}
use Rattle.std.specs.Prelude.{◌==◌, ◌||◌, not}
use Rattle.std.specs.List.{AllByRecursion, filter}
use Rattle.std.proofs.lemmas.Bool.Decides.{nat_tests}
use Rattle.mu_model_distributor.specs.DistState.{StoredImage, UploadJob}
use Rattle.mu_model_distributor.specs.Receivers.{is_stored_in, is_filled_by, empty_banks}
use Rattle.mu_model_distributor.specs.Sound.{IsStored, AreStored, BanksDiffer}

-- ---- an empty bank

by_test : (P : ℕ → Type 0) (p : ℕ → Bool) (y : ℕ) (ys : List ℕ) (x : ℕ) (rest : List ℕ) (b : Bool) → p y ≡ b → P y → (filter p ys ≡ x ∷ rest → P x × (p x ≡ true)) → cond b (y ∷ filter p ys) (filter p ys) ≡ x ∷ rest → P x × (p x ≡ true)
by_test P p y ys x rest true is h k e = let same : y ≡ x = cc in (subst P same h, subst (λ z. p z ≡ true) same is)
by_test P p y ys x rest false is h k e = k e

first_kept : (P : ℕ → Type 0) (p : ℕ → Bool) (xs : List ℕ) (x : ℕ) (rest : List ℕ) → AllByRecursion P xs → filter p xs ≡ x ∷ rest → P x × (p x ≡ true)
first_kept P p [] x rest h e = cc
first_kept P p (y ∷ ys) x rest h e = by_test P p y ys x rest (p y) refl h.0 (first_kept P p ys x rest h.1) e

pub record IsEmptyBank (images : List StoredImage) (bank : ℕ) : Type 0 where
  pub below : bank < 4
  pub free : is_stored_in images bank ≡ false

nor_left : (x y : Bool) → not (x || y) ≡ true → x ≡ false
nor_left true y e = cc
nor_left false y e = refl

pub empty_bank : (images : List StoredImage) (job : Option UploadJob) (bank : ℕ) (rest : List ℕ) → empty_banks images job ≡ bank ∷ rest → IsEmptyBank images bank
empty_bank images job bank rest e =
    let k = first_kept (λ b. b < 4) (λ b. not (is_stored_in images b || is_filled_by job b)) (0 ∷ 1 ∷ 2 ∷ 3 ∷ []) bank rest (omega arith, (omega arith, (omega arith, (omega arith, tt)))) e in
    record { below = k.0; free = nor_left (is_stored_in images bank) (is_filled_by job bank) k.1 }

-- ---- images that go

goes_or_stays : (capacity : ℕ) (x : StoredImage) (rest : List StoredImage) (b : Bool) → IsStored capacity x → AreStored capacity rest → AreStored capacity (cond b (x ∷ rest) rest)
goes_or_stays capacity x rest true h k = (h, k)
goes_or_stays capacity x rest false h k = k

pub stored_filter : (capacity : ℕ) (p : StoredImage → Bool) (images : List StoredImage) → AreStored capacity images → AreStored capacity (filter p images)
stored_filter capacity p [] h = tt
stored_filter capacity p (x ∷ images) h = goes_or_stays capacity x (filter p images) (p x) h.0 (stored_filter capacity p images h.1)

free_or : (x : StoredImage) (rest : List StoredImage) (bank : ℕ) (b : Bool) → (x.bank == bank) ≡ false → is_stored_in rest bank ≡ false → is_stored_in (cond b (x ∷ rest) rest) bank ≡ false
free_or x rest bank true e k = rw (e, k) refl
free_or x rest bank false e k = k

head_free : (x : StoredImage) (images : List StoredImage) (bank : ℕ) → is_stored_in (x ∷ images) bank ≡ false → ((x.bank == bank) ≡ false) × (is_stored_in images bank ≡ false)
head_free x images bank e =
    elim (x.bank == bank) as (λ b. (b || is_stored_in images bank) ≡ false → (b ≡ false) × (is_stored_in images bank ≡ false)) [ true ↦ λ h. cc | false ↦ λ h. (refl, h) ] e

pub free_filter : (p : StoredImage → Bool) (images : List StoredImage) (bank : ℕ) → is_stored_in images bank ≡ false → is_stored_in (filter p images) bank ≡ false
free_filter p [] bank e = refl
free_filter p (x ∷ images) bank e =
    let k = head_free x images bank e in
    free_or x (filter p images) bank (p x) k.0 (free_filter p images bank k.1)

differ_or : (x : StoredImage) (rest : List StoredImage) (b : Bool) → is_stored_in rest x.bank ≡ false → BanksDiffer rest → BanksDiffer (cond b (x ∷ rest) rest)
differ_or x rest true e h = (e, h)
differ_or x rest false e h = h

pub differ_filter : (p : StoredImage → Bool) (images : List StoredImage) → BanksDiffer images → BanksDiffer (filter p images)
differ_filter p [] h = tt
differ_filter p (x ∷ images) h = differ_or x (filter p images) (p x) (free_filter p images x.bank h.0) (differ_filter p images h.1)

-- ---- one that is added

pub stored_join : (capacity : ℕ) (images : List StoredImage) (x : StoredImage) → AreStored capacity images → IsStored capacity x → AreStored capacity (images ++ x ∷ [])
stored_join capacity [] x h k = (k, tt)
stored_join capacity (y ∷ images) x h k = (h.0, stored_join capacity images x h.1 k)

stored_in_join : (images : List StoredImage) (x : StoredImage) (bank : ℕ) → is_stored_in (images ++ x ∷ []) bank ≡ (is_stored_in images bank || (x.bank == bank))
stored_in_join [] x bank = elim (x.bank == bank) as (λ b. (b || false) ≡ b) [ true ↦ refl | false ↦ refl ]
stored_in_join (y ∷ images) x bank =
    let rest = stored_in_join images x bank in
    elim (y.bank == bank) as (λ b. (b || is_stored_in (images ++ x ∷ []) bank) ≡ ((b || is_stored_in images bank) || (x.bank == bank))) [ true ↦ refl | false ↦ rest ]

neither : (x y : Bool) → x ≡ false → y ≡ false → (x || y) ≡ false
neither x y e k = rw (e, k) refl

eq_sym : (a b : ℕ) → (a == b) ≡ false → (b == a) ≡ false
eq_sym a b e = grind (arith, nat_tests)

pub differ_join : (images : List StoredImage) (x : StoredImage) → BanksDiffer images → is_stored_in images x.bank ≡ false → BanksDiffer (images ++ x ∷ [])
differ_join [] x h e = (refl, tt)
differ_join (y ∷ images) x h e =
    let k = head_free y images x.bank e in
    (stored_in_join images x y.bank ∙ neither (is_stored_in images y.bank) (x.bank == y.bank) h.0 (eq_sym y.bank x.bank k.0), differ_join images x h.1 k.1)
