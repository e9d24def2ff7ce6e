use Rattle.std.proofs.Common.{length, arith}
use Rattle.mu_store.proofs.FlagLemmas.{marks_read}
use Rattle.mu_store.proofs.marks.read_flags.Goals as goal

pub returns-clause-marks : goal.returns-clause-marks
returns-clause-marks g c told =
    marks_read c.ranges_of_octets.ensures.parts (g.F.Flash.seen c.args.flash.now).octets c.read.new.out c.args.bank (length c.args.marks.now) (c.in_ok-read.ensures.gives told)
    (omega (arith, c.requires.few, c.requires.within, ((g.met.F.Flash.sound c.args.flash.now).is_image told).size)) c.flags_of.result c.flags_of.ensures
