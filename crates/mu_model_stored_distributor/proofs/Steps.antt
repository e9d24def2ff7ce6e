-- The steps of a store beside the work of a distributor.
use Rattle.std.proofs.Common.{◌≡◌, ◌∙◌, ◌<◌, ℕ, zero, suc, ◌+◌, ◌-◌, ◌*◌, Bool, true, false, List, [], ◌∷◌, ◌++◌, length, refl, sym, ap, subst, arith, lit<}
use Rattle.std.specs.Prelude.{◌==◌, ◌&&◌, not, nat_lt, if◌then◌else◌, replicate, drop, bytes_eq, Contains, ◌↔◌}
use Rattle.std.specs.List.{AllByRecursion, AllZip}
use Rattle.std.proofs.lemmas.Bool.Decides.{nat_tests}
use Rattle.std.proofs.lemmas.Slice.Eq.{bytes_eq-Decides}
use Rattle.mu_model_record.specs.declared.Record.{Record}
use Rattle.mu_model_record.specs.Record.{zeros, IsShort}
use Rattle.mu_model_record.specs.Store.{StoreState}
use Rattle.mu_model_record.specs.Next.{is_short, record_steps, block_steps}
use Rattle.mu_model_record.specs.Next.{fresh_after as slots_after}
use Rattle.mu_model_node.specs.declared.FlashWork.{FlashWork}
use Rattle.mu_model_node.specs.declared.FlashWork.TheVariants.{Untouched, Recorded, Begun, PutBlock}
use Rattle.mu_model_node.specs.FlashWork.{fresh_after, record_work, passed_by, work_by}
use Rattle.mu_model_distributor.specs.DistState.{DistDurable}
use Rattle.mu_model_represents_distributor.specs.RepresentsDistributor.{IsDistributor}

opposite : (n : ℕ) → nat_lt 0 n ≡ not (n == 0)
opposite zero = refl
opposite (suc k) =
    let some : nat_lt 0 (suc k) ≡ true = grind (arith, nat_tests) in
    let other : (suc k == 0) ≡ false = grind (arith, nat_tests) in
    some ∙ sym (ap not other)

-- whether a record is short, by the other notion
by_both : (short long : Bool) → (long ≡ false) ↔ (short ≡ true) → short ≡ not long
by_both true false both = refl
by_both false true both = refl
by_both true true both = let no : true ≡ false = both.1 refl in cc
by_both false false both = let no : false ≡ true = both.0 refl in cc

pub short_test : (r : Record) (long : Bool) → (long ≡ false) ↔ IsShort r → is_short r ≡ not long
short_test r long both =
    let decides = bytes_eq-Decides (drop 256 r.tag) (zeros 1536) in
    by_both (is_short r) long (λ e. decides.1 (both.0 e), λ e. both.1 (decides.0 e))

fresh_by : (short lt long : Bool) (fresh : ℕ) → short ≡ not long → lt ≡ not (fresh == 0)
    → (if short then (if lt then fresh - 1 else 3) else 0) ≡ fresh_after long fresh
fresh_by short lt true fresh e f = ap (λ (b : Bool). if b then (if lt then fresh - 1 else 3) else 0) e
fresh_by short lt false fresh e f =
    ap (λ (b : Bool). if b then (if lt then fresh - 1 else 3) else 0) e ∙ ap (λ (b : Bool). if b then fresh - 1 else 3) f ∙ turned (fresh == 0) (fresh - 1)
  where
    turned : (b : Bool) (n : ℕ) → (if not b then n else 3) ≡ (if b then 3 else n)
    turned true n = refl
    turned false n = refl

pub same_fresh : (fresh : ℕ) (r : Record) (long : Bool) → (long ≡ false) ↔ IsShort r → slots_after fresh r ≡ fresh_after long fresh
same_fresh fresh r long both = fresh_by (is_short r) (nat_lt 0 fresh) long fresh (short_test r long both) (opposite fresh)

module _ (s e : StoreState) (d n : DistDurable) (before : IsDistributor s d) (after : IsDistributor e n) where
  zip_by : (short lt is0 : Bool) → short ≡ true → lt ≡ not is0
      → AllZip IsDistributor (if short && lt then e ∷ [] else s ∷ e ∷ []) (if is0 then d ∷ n ∷ [] else n ∷ [])
  zip_by true true false p q = (after, tt)
  zip_by true false true p q = (before, (after, tt))
  zip_by true true true p q = cc
  zip_by true false false p q = cc
  zip_by false lt is0 p q = cc

  zip_long : (short lt long : Bool) (fresh : ℕ) → short ≡ not long → lt ≡ not (fresh == 0)
      → AllZip IsDistributor (if short && lt then e ∷ [] else s ∷ e ∷ []) (record_work long fresh d n)
  zip_long false lt true fresh p q = (before, (after, tt))
  zip_long true lt true fresh p q = cc
  zip_long short lt false fresh p q = zip_by short lt (fresh == 0) p q

  pub record_zip : (fresh : ℕ) (long : Bool) → (long ≡ false) ↔ IsShort e.present → AllZip IsDistributor (record_steps fresh s e) (record_work long fresh d n)
  record_zip fresh long both = zip_long (is_short e.present) (nat_lt 0 fresh) long fresh (short_test e.present long both) (opposite fresh)

  zip_more : (k : ℕ) → AllZip IsDistributor (replicate k s ++ e ∷ []) (replicate k d ++ n ∷ [])
  zip_more zero = (after, tt)
  zip_more (suc k) = (before, zip_more k)

  pub block_zip : (pages : ℕ) → AllZip IsDistributor (block_steps pages s e) (replicate (2 * pages) d ++ n ∷ [])
  block_zip pages =
      let same : pages + pages ≡ 2 * pages = omega arith in
      let P : ℕ → Type 0 = λ k. AllZip IsDistributor (block_steps pages s e) (replicate k d ++ n ∷ []) in
      subst P same (zip_more (pages + pages))

-- ---- among those passed

module _ (d n : DistDurable) where
  both : List DistDurable
  both = d ∷ n ∷ []

  old_is : Contains (d ∷ n ∷ []) d
  old_is = (0, lit< tt, refl)

  new_is : Contains (d ∷ n ∷ []) n
  new_is = (1, lit< tt, refl)

  of_record : (is_long is0 : Bool) → AllByRecursion (λ (x : DistDurable). Contains (d ∷ n ∷ []) x) (if is0 then d ∷ n ∷ [] else n ∷ [])
  of_record is_long true = (old_is, (new_is, tt))
  of_record is_long false = (new_is, tt)

  of_work : (is_long : Bool) (fresh : ℕ) → AllByRecursion (λ (x : DistDurable). Contains (d ∷ n ∷ []) x) (record_work is_long fresh d n)
  of_work true fresh = (old_is, (new_is, tt))
  of_work false fresh = of_record false (fresh == 0)

  of_block : (k : ℕ) → AllByRecursion (λ (x : DistDurable). Contains (d ∷ n ∷ []) x) (replicate k d ++ n ∷ [])
  of_block zero = (new_is, tt)
  of_block (suc k) = (old_is, of_block k)

  pub of_passed : (fresh : ℕ) (work : FlashWork) → AllByRecursion (λ (x : DistDurable). Contains (passed_by d n work) x) (work_by fresh d n work)
  of_passed fresh Untouched = tt
  of_passed fresh (Recorded is_long) = of_work is_long fresh
  of_passed fresh (Begun is_long) = (old_is, of_work is_long fresh)
  of_passed fresh (PutBlock pages) = of_block (2 * pages)
