use Rattle.std.proofs.Common.{◌∙◌, ℕ, ◌*◌, ap, sym, arith}
use Rattle.std.proofs.Math.Nat.{mul-le-mul_left}
use Rattle.mu_model_distributor.specs.Replies.{CapabilitiesStatus}
use Rattle.mu_distributor_rows.proofs.Seen.{capabilities_are}
use Rattle.mu_distributor_rows.proofs.banks.capabilities_answer.Goals as goal

pub returns : goal.returns
returns c s looks =
    c.new.ensures ∙ ap (λ (n : ℕ). CapabilitiesStatus c.args.look.capacity (c.args.look.capacity * n)) c.free_count.ensures.count
    ∙ sym (capabilities_are c.args.look s looks)
