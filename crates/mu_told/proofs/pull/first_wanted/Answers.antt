use Rattle.std.proofs.Common.{◌∙◌, ◌+◌, ◌≤◌, ◌∷◌, [], ap, sym, refl, arith, Bool, ℕ, true, length, length-append, set}
use Rattle.mu_model_client.specs.Sets.{set_of}
use Rattle.mu_told.proofs.Wanted.{set_none, set_more, length_is, front, front_none, front_next, sixteen_front, few_front}
use Rattle.mu_told.proofs.pull.first_wanted.Goals as goal

pub loop-count-init : goal.loop-count-init
loop-count-init c = record {
  within = omega arith;
  firsts = cc (set_none (length c.args.set.now), ap (set_of (length c.args.set.now)) (front_none c.args.set.now));
  long = ap (length {A = ℕ}) (front_none c.args.set.now);
  few = omega arith;
}

pub insert-requires : goal.insert-requires
insert-requires c =
    omega (arith, c.in-Some.ensures.within, ap (length {A = Bool}) c.loop-count.invariant.firsts, length_is (length c.args.set.now) (front c.args.set.now c.loop-count.at))

pub loop-count-preserved : goal.loop-count-preserved
loop-count-preserved c =
    let first = c.in-Some.ensures.first in
    let next = front_next c.args.set.now c.loop-count.at c.in-Some.number first.0 first.2 first.1 in
    record {
      within = omega (arith, c.in-Some.ensures.within);
      firsts = c.insert.ensures ∙ ap (λ s. set s c.in-Some.number true) c.loop-count.invariant.firsts
          ∙ sym (set_more (length c.args.set.now) (front c.args.set.now c.loop-count.at) c.in-Some.number c.in-Some.ensures.within)
          ∙ ap (set_of (length c.args.set.now)) (sym next);
      long = ap (length {A = ℕ}) next ∙ length-append (front c.args.set.now c.loop-count.at) (c.in-Some.number ∷ []) ∙ ap (λ n. n + 1) c.loop-count.invariant.long;
      few = omega (arith, c.loop-count-test.true);
    }

pub returns-in_default-clause-firsts : goal.returns-in_default-clause-firsts
returns-in_default-clause-firsts c =
    c.loop-count.invariant.firsts
    ∙ ap (set_of (length c.args.set.now)) (sym (few_front c.args.set.now c.loop-count.at c.loop-count.invariant.within (λ i low. c.in_default.ensures.first i low)
    (omega (arith, c.loop-count.invariant.long, c.loop-count.invariant.few))))

pub returns-in_default-clause-bound : goal.returns-in_default-clause-bound
returns-in_default-clause-bound c = ap (length {A = Bool}) c.loop-count.invariant.firsts ∙ length_is (length c.args.set.now) (front c.args.set.now c.loop-count.at)

pub returns-clause-firsts : goal.returns-clause-firsts
returns-clause-firsts c =
    c.loop-count.invariant.firsts
    ∙ ap (set_of (length c.args.set.now)) (sym (sixteen_front c.args.set.now c.loop-count.at c.loop-count.invariant.within
    (omega (arith, c.loop-count.invariant.long, c.loop-count.invariant.few, c.loop-count-test.false))))

pub returns-clause-bound : goal.returns-clause-bound
returns-clause-bound c = ap (length {A = Bool}) c.loop-count.invariant.firsts ∙ length_is (length c.args.set.now) (front c.args.set.now c.loop-count.at)
