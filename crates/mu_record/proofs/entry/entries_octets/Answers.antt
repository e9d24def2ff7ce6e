use Rattle.std.proofs.Common.{◌≡◌, ℕ, ◌*◌, length, rules, sym, subst, List, ◌∙◌}
use Rattle.std.specs.Prelude.{slice_index_or}
use Rattle.mu_model_flash.specs.Bits.{part_of}
use Rattle.mu_model_record.specs.declared.BankState.TheVariants.{Empty}
use Rattle.mu_model_record.specs.Record.{IsEntry}
use Rattle.mu_record.proofs.EntryLemmas.{put_entry}
use Rattle.mu_record.proofs.entry.entries_octets.Goals as goal

pub loop-b-preserved : goal.loop-b-preserved
loop-b-preserved c =
    let fits : length c.entry_octets-entry.result ≡ 48 = search rules in
    record {
      whole = c.put.auto.octets ∙ c.loop-b.invariant.whole;
      each = λ k lt. subst (λ (l : List ℕ). IsEntry (slice_index_or c.args.banks.now k Empty) (part_of l (48 * k) 48)) (sym c.put.ensures.written)
          (put_entry c.ranges_of_octets.ensures.writes c.args.banks.now c.loop-b.octets c.entry_octets-entry.result c.loop-b.b c.loop-b.invariant.whole fits c.loop-b-test.true c.entry_octets-entry.ensures c.loop-b.invariant.each k lt);
    }
