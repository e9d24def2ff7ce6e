use Rattle.std.proofs.Common.{ℕ, ◌*◌, subst, List, ◌∙◌}
use Rattle.std.proofs.Math.ListN.{length-set}
use Rattle.mu_record.proofs.PartLemmas.{range-part}
use Rattle.mu_model_record.specs.Record.{IsEntry}
use Rattle.mu_record.proofs.EntryLemmas.{take_entry}
use Rattle.mu_record.proofs.entry.entries_from.Goals as goal

pub returns-in-None : goal.returns-in-None
returns-in-None c = (c.loop-b.b, c.loop-b-test.true, λ entry. subst (λ (l : List ℕ). ¬ IsEntry entry l) (range-part c.args.octets.now (48 * c.loop-b.b) 48) (c.in-None.ensures entry))

pub loop-b-preserved : goal.loop-b-preserved
loop-b-preserved c = record {
  four = length-set c.loop-b.banks c.loop-b.b c.in-Some.entry ∙ c.loop-b.invariant.four;
  each = take_entry c.loop-b.banks c.args.octets.now c.loop-b.b c.in-Some.entry c.loop-b.invariant.four c.loop-b-test.true
      (subst (λ (l : List ℕ). IsEntry c.in-Some.entry l) (range-part c.args.octets.now (48 * c.loop-b.b) 48) c.in-Some.ensures) c.loop-b.invariant.each;
}
