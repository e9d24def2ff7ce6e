-- The steps of a store beside the work of a node.
use Rattle.std.proofs.Common.{◌≡◌, ◌∙◌, ◌<◌, ℕ, zero, suc, ◌+◌, ◌-◌, ◌*◌, Bool, true, false, List, [], ◌∷◌, ◌++◌, length, refl, sym, ap, subst, arith, lit<}
use Rattle.std.specs.Prelude.{◌==◌, ◌&&◌, not, nat_lt, if◌then◌else◌, replicate, drop, bytes_eq, Contains}
use Rattle.std.specs.List.{AllByRecursion, AllZip}
use Rattle.std.proofs.lemmas.Bool.Decides.{nat_tests}
use Rattle.std.proofs.lemmas.Slice.Eq.{bytes_eq-Decides}
use Rattle.mu_model_record.specs.declared.Record.{Record}
use Rattle.mu_model_record.specs.Record.{zeros, IsShort}
use Rattle.mu_model_record.specs.Store.{StoreState}
use Rattle.mu_model_record.specs.Next.{is_short, record_steps, block_steps}
use Rattle.mu_model_record.specs.Next.{fresh_after as slots_after}
use Rattle.mu_model_node.specs.declared.FlashWork.{FlashWork}
use Rattle.mu_model_node.specs.declared.FlashWork.TheVariants.{Untouched, Recorded, Begun, PutBlock}
use Rattle.mu_model_node.specs.FlashWork.{fresh_after, record_work, passed_by, work_by}
use Rattle.mu_model_node.specs.NodeState.{NodeDurable}
use Rattle.mu_model_represents.specs.RepresentsNode.{IsNode}

opposite : (n : ℕ) → nat_lt 0 n ≡ not (n == 0)
opposite zero = refl
opposite (suc k) =
    let some : nat_lt 0 (suc k) ≡ true = grind (arith, nat_tests) in
    let other : (suc k == 0) ≡ false = grind (arith, nat_tests) in
    some ∙ sym (ap not other)

pub short_test : (r : Record) → IsShort r → is_short r ≡ true
short_test r short = let decides = bytes_eq-Decides (drop 256 r.tag) (zeros 1536) in decides.1 short

fresh_by : (short lt is0 : Bool) (fresh : ℕ) → short ≡ true → lt ≡ not is0
    → (if short then (if lt then fresh - 1 else 3) else 0) ≡ (if is0 then 3 else fresh - 1)
fresh_by true true false fresh e f = refl
fresh_by true false true fresh e f = refl
fresh_by true true true fresh e f = cc
fresh_by true false false fresh e f = cc
fresh_by false lt is0 fresh e f = cc

pub same_fresh : (fresh : ℕ) (r : Record) → IsShort r → slots_after fresh r ≡ fresh_after false fresh
same_fresh fresh r short = fresh_by (is_short r) (nat_lt 0 fresh) (fresh == 0) fresh (short_test r short) (opposite fresh)

module _ (s e : StoreState) (d n : NodeDurable) (before : IsNode s d) (after : IsNode e n) where
  zip_by : (short lt is0 : Bool) → short ≡ true → lt ≡ not is0
      → AllZip IsNode (if short && lt then e ∷ [] else s ∷ e ∷ []) (if is0 then d ∷ n ∷ [] else n ∷ [])
  zip_by true true false p q = (after, tt)
  zip_by true false true p q = (before, (after, tt))
  zip_by true true true p q = cc
  zip_by true false false p q = cc
  zip_by false lt is0 p q = cc

  pub record_zip : (fresh : ℕ) → IsShort e.present → AllZip IsNode (record_steps fresh s e) (record_work false fresh d n)
  record_zip fresh short = zip_by (is_short e.present) (nat_lt 0 fresh) (fresh == 0) (short_test e.present short) (opposite fresh)

  zip_more : (k : ℕ) → AllZip IsNode (replicate k s ++ e ∷ []) (replicate k d ++ n ∷ [])
  zip_more zero = (after, tt)
  zip_more (suc k) = (before, zip_more k)

  pub block_zip : (pages : ℕ) → AllZip IsNode (block_steps pages s e) (replicate (2 * pages) d ++ n ∷ [])
  block_zip pages =
      let same : pages + pages ≡ 2 * pages = omega arith in
      let P : ℕ → Type 0 = λ k. AllZip IsNode (block_steps pages s e) (replicate k d ++ n ∷ []) in
      subst P same (zip_more (pages + pages))

-- ---- among those passed

module _ (d n : NodeDurable) where
  both : List NodeDurable
  both = d ∷ n ∷ []

  old_is : Contains (d ∷ n ∷ []) d
  old_is = (0, lit< tt, refl)

  new_is : Contains (d ∷ n ∷ []) n
  new_is = (1, lit< tt, refl)

  of_record : (is_long is0 : Bool) → AllByRecursion (λ (x : NodeDurable). Contains (d ∷ n ∷ []) x) (if is0 then d ∷ n ∷ [] else n ∷ [])
  of_record is_long true = (old_is, (new_is, tt))
  of_record is_long false = (new_is, tt)

  of_work : (is_long : Bool) (fresh : ℕ) → AllByRecursion (λ (x : NodeDurable). Contains (d ∷ n ∷ []) x) (record_work is_long fresh d n)
  of_work true fresh = (old_is, (new_is, tt))
  of_work false fresh = of_record false (fresh == 0)

  of_block : (k : ℕ) → AllByRecursion (λ (x : NodeDurable). Contains (d ∷ n ∷ []) x) (replicate k d ++ n ∷ [])
  of_block zero = (new_is, tt)
  of_block (suc k) = (old_is, of_block k)

  pub of_passed : (fresh : ℕ) (work : FlashWork) → AllByRecursion (λ (x : NodeDurable). Contains (passed_by d n work) x) (work_by fresh d n work)
  of_passed fresh Untouched = tt
  of_passed fresh (Recorded is_long) = of_work is_long fresh
  of_passed fresh (Begun is_long) = (old_is, of_work is_long fresh)
  of_passed fresh (PutBlock pages) = of_block (2 * pages)
