use Rattle.std.proofs.Common.{IsTrue, ◌≡◌, ◌<◌, false}
use Rattle.mu_model_flash.specs.Flash.{Unchanged}
use Rattle.mu_record.specs.Found.{FoundBefore, IsSoundFound}
use Rattle.mu_record.proofs.find.find_present.Given as goal

abbrev pub invariant-loop-page : goal.invariant-loop-page
invariant-loop-page g l = record {
  same : Unchanged (g.F.Flash.seen l.fn.flash) (g.F.Flash.seen l.flash);
  found : IsTrue (g.F.Flash.seen l.fn.flash).told → FoundBefore (g.F.Flash.seen l.fn.flash).octets l.page 0 l.found;
  sound : IsSoundFound l.found;
  on : 0 < l.page → (g.F.Flash.seen l.fn.flash).off ≡ false;
}
