use Rattle.mu_flash_tests.proofs.Erased.{erased_slot_reads}
use Rattle.mu_flash_tests.proofs.cells_tests.put_slot.Goals as goal

pub write_slot-requires-clause-is_blank : goal.write_slot-requires-clause-is_blank
write_slot-requires-clause-is_blank g c told =
    erased_slot_reads _ (g.met.F.Flash.sound c.args.flash.now) c.turns.ensures.erase 0 c.requires.one _ c.in_ok-erase_page.ensures.operations told c.args.number c.requires.few
