use Rattle.std.proofs.Common.{◌≤◌}
use Rattle.mu_model_record.specs.Store.{bank_place}
use Rattle.mu_store.proofs.FillPart.{SoFar}
use Rattle.mu_store.proofs.whole.put_all.Given as goal

abbrev pub invariant-loop-page : goal.invariant-loop-page
invariant-loop-page g l = record {
  so_far : SoFar g.F.Flash.seen (bank_place l.fn.base.fields l.bank) l.page (g.S.Source.left l.fn.source) (g.S.Source.left l.source) l.fn.base l.part;
  faults : (g.F.Flash.seen l.fn.base.flash).faults ≤ (g.F.Flash.seen l.part.base.flash).faults;
  later : g.S.Source.faults l.fn.source ≤ g.S.Source.faults l.source;
}
