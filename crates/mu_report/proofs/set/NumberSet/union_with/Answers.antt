use Rattle.std.proofs.Common.{◌≡◌, ℕ, List, Bool, length-set, refl, sym, ap, subst, ◌∙◌, arith}
use Rattle.mu_model_wire.specs.Reports.{union}
use Rattle.mu_report.specs.Words.{AreWords, set_of_words}
use Rattle.mu_report.proofs.Bits.{bound_is}
use Rattle.mu_report.proofs.Masks.{United, united_start, united_step, union_words, union_set}
use Rattle.mu_report.proofs.set.NumberSet.union_with.Goals as goal

pub loop-index-init : goal.loop-index-init
loop-index-init c = record { united = united_start c.self.inside.words c.other.inside.words; count = c.self.told; same = refl }

pub loop-index-preserved : goal.loop-index-preserved
loop-index-preserved c =
    let so_far = c.loop-index.invariant in
    record {
      united = united_step c.self.inside.words c.loop-index.self-inside.words c.other.inside.words c.loop-index.index (omega arith) so_far.united;
      count = length-set c.loop-index.self-inside.words c.loop-index.index _ ∙ so_far.count;
      same = so_far.same;
    }

-- what the loop leaves
all_united : (old new other : List ℕ) (index : ℕ) → index ≡ 32 → United old new other index → United old new other 32
all_united old new other index e h = let P : ℕ → Type 0 = λ i. United old new other i in subst P e h

same_bound : (words : List ℕ) (a b : ℕ) → a ≡ b → AreWords words a → AreWords words b
same_bound words a b e h = let P : ℕ → Type 0 = λ n. AreWords words n in subst P e h

pub invariant_of-self : goal.invariant_of-self
invariant_of-self c =
    let so_far = c.loop-index.invariant in
    let bounds : c.other.inside.bound ≡ c.self.inside.bound = omega (arith, bound_is c.self.inside.words c.self.inside.bound c.args.self.now c.self.view_is, bound_is c.other.inside.words c.other.inside.bound c.args.other.now c.other.view_is) in
    let others = same_bound c.other.inside.words c.other.inside.bound c.self.inside.bound bounds c.other.invariant in
    same_bound c.loop-index.self-inside.words c.self.inside.bound c.loop-index.self-inside.bound (sym so_far.same)
    (union_words c.self.inside.words c.loop-index.self-inside.words c.other.inside.words c.self.inside.bound c.self.invariant others so_far.count
    (all_united c.self.inside.words c.loop-index.self-inside.words c.other.inside.words c.loop-index.index (omega arith) so_far.united))

pub returns : goal.returns
returns c =
    let so_far = c.loop-index.invariant in
    let bounds : c.other.inside.bound ≡ c.self.inside.bound = omega (arith, bound_is c.self.inside.words c.self.inside.bound c.args.self.now c.self.view_is, bound_is c.other.inside.words c.other.inside.bound c.args.other.now c.other.view_is) in
    let others = same_bound c.other.inside.words c.other.inside.bound c.self.inside.bound bounds c.other.invariant in
    let made = union_set c.self.inside.words c.loop-index.self-inside.words c.other.inside.words c.self.inside.bound c.self.invariant others so_far.count
    (all_united c.self.inside.words c.loop-index.self-inside.words c.other.inside.words c.loop-index.index (omega arith) so_far.united) in
    ap (set_of_words c.loop-index.self-inside.words) so_far.same ∙ made
    ∙ ap (λ (n : ℕ). union (set_of_words c.self.inside.words c.self.inside.bound) (set_of_words c.other.inside.words n)) (sym bounds)
    ∙ ap (λ (xs : List Bool). union xs (set_of_words c.other.inside.words c.other.inside.bound)) c.self.view_is
    ∙ ap (union c.args.self.now) c.other.view_is
