use Rattle.std.proofs.Common.{IsTrue}
use Rattle.mu_model_flash.specs.Flash.{Unchanged}
use Rattle.mu_model_record.specs.Kinds.{AreFitBelow}
use Rattle.mu_store.proofs.digest.find_damage.Given as goal

abbrev pub invariant-loop-bank : goal.invariant-loop-bank
invariant-loop-bank g l = record {
  same : Unchanged (g.F.Flash.seen l.fn.flash) (g.F.Flash.seen l.flash);
  fit : IsTrue (g.F.Flash.seen l.fn.flash).told → AreFitBelow l.bank l.fields (g.F.Flash.seen l.fn.flash).octets;
}
