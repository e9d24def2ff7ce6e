use Rattle.std.proofs.Common.{IsTrue}
use Rattle.mu_model_flash.specs.Flash.{Unchanged}
use Rattle.mu_record.specs.Found.{FoundBefore, IsSoundFound}
use Rattle.mu_record.proofs.find.scan_slots.Given as goal

abbrev pub invariant-loop-slot : goal.invariant-loop-slot
invariant-loop-slot g l = record {
  same : Unchanged (g.F.Flash.seen l.fn.flash) (g.F.Flash.seen l.flash);
  found : IsTrue (g.F.Flash.seen l.fn.flash).told → FoundBefore (g.F.Flash.seen l.fn.flash).octets l.page l.slot l.found;
  sound : IsSoundFound l.found;
}
