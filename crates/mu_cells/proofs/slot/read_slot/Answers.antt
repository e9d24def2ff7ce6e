use Rattle.std.proofs.Common.{refl}
use Rattle.mu_model_record.specs.Page.{slot_place}
use Rattle.mu_cells.proofs.TurnLemmas.{no_code, some_code}
use Rattle.mu_cells.proofs.slot.read_slot.Goals as goal

pub returns-then-decode-clause-content : goal.returns-then-decode-clause-content
returns-then-decode-clause-content g c told =
    some_code c.ranges_of_octets.ensures.parts (g.F.Flash.seen c.args.flash.now).octets (slot_place c.args.page c.args.slot) 1024 c.read.new.out (c.in_ok-read.ensures.gives told) c.decode.new.octets (c.if-decode.ensures.code.0 refl) (c.if-decode.ensures.content refl)

pub returns-else-decode-clause-content : goal.returns-else-decode-clause-content
returns-else-decode-clause-content g c told =
    no_code c.ranges_of_octets.ensures.parts (g.F.Flash.seen c.args.flash.now).octets (slot_place c.args.page c.args.slot) 1024 c.read.new.out (c.in_ok-read.ensures.gives told) (λ is. cc (c.if-decode.ensures.code.1 is))
