use Rattle.std.proofs.Common.{◌*◌, IsTrue, min}
use Rattle.mu_model_flash.specs.Bits.{part_of}
use Rattle.mu_model_flash.specs.Flash.{Unchanged}
use Rattle.mu_image.specs.Digests.{HasTaken}
use Rattle.mu_store.proofs.digest.digest_of.Given as goal

abbrev pub invariant-loop-page : goal.invariant-loop-page
invariant-loop-page g l = record {
  same : Unchanged (g.F.Flash.seen l.fn.flash) (g.F.Flash.seen l.flash);
  taken : IsTrue (g.F.Flash.seen l.fn.flash).told → HasTaken l.digesting (part_of (g.F.Flash.seen l.fn.flash).octets l.at (min l.size (4096 * l.page)));
}
