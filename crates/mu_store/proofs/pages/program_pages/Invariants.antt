use Rattle.std.proofs.Common.{◌≡◌, ◌+◌, ◌-◌, ◌*◌, IsTrue, false, length, min, replicate, take}
use Rattle.mu_model_flash.specs.Bits.{blank, part_of, SameOutside}
use Rattle.mu_model_flash.specs.Run.{either, Keeps, Ran}
use Rattle.mu_model_record.specs.Turns.{StaysOutside}
use Rattle.mu_store.proofs.pages.program_pages.Given as goal

abbrev pub invariant-loop-page : goal.invariant-loop-page
invariant-loop-page g l = record {
  keeps : Keeps (g.F.Flash.seen l.fn.flash) (g.F.Flash.seen l.flash);
  ran : (g.F.Flash.seen l.fn.flash).off ≡ false → Ran (either (StaysOutside (4096 * l.first) (length l.octets) (g.F.Flash.seen l.fn.flash).octets)) tt (replicate l.page tt) (g.F.Flash.seen l.fn.flash) (g.F.Flash.seen l.flash);
  outside : IsTrue (g.F.Flash.seen l.fn.flash).told → SameOutside (4096 * l.first) (length l.octets) (g.F.Flash.seen l.fn.flash).octets (g.F.Flash.seen l.flash).octets;
  put : IsTrue (g.F.Flash.seen l.fn.flash).told → part_of (g.F.Flash.seen l.flash).octets (4096 * l.first) (min (length l.octets) (4096 * l.page)) ≡ take (min (length l.octets) (4096 * l.page)) l.octets;
  rest : IsTrue (g.F.Flash.seen l.fn.flash).told → part_of (g.F.Flash.seen l.flash).octets (4096 * l.first + 4096 * l.page) (length l.octets - 4096 * l.page) ≡ blank (length l.octets - 4096 * l.page);
}
