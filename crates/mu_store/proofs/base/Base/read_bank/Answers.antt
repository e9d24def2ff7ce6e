use Rattle.std.proofs.Common.{◌∙◌, ◌+◌, ℕ, length, ap}
use Rattle.mu_model_flash.specs.Bits.{part_of}
use Rattle.mu_store.proofs.PartLemmas.{range-part}
use Rattle.mu_store.proofs.base.Base.read_bank.Goals as goal

pub returns-clause-gives : goal.returns-clause-gives
returns-clause-gives g c told =
    c.in_ok-read.ensures.gives told ∙ range-part _ _ _
    ∙ ap (λ (n : ℕ). part_of (g.F.Flash.seen c.args.self.now.flash).octets (n + c.args.at) (length c.args.out.now)) c.bank_place.ensures
