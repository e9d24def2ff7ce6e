use Rattle.std.proofs.Common.{◌≡◌, length, arith}
use Rattle.mu_reference.specs.View.{state_of}
use Rattle.mu_reference.proofs.Received.{last_work, kept_work}
use Rattle.mu_reference.proofs.values.State.received_work.Goals as goal

pub returns-in-None-clause-work : goal.returns-in-None-clause-work
returns-in-None-clause-work c = λ p. kept_work (state_of c.args.self.now) p c.args.chunk c.args.octets.now (rw c.in-None.is at c.in_ok-last_chunk.ensures)

pub returns-in-Some-clause-work : goal.returns-in-Some-clause-work
returns-in-Some-clause-work c =
    let count : c.len.result ≡ length c.in-Some.block.items = omega (arith, c.in-Some.block.ok, c.len.ensures) in
    λ p. last_work (state_of c.args.self.now) p c.args.chunk c.args.octets.now c.in-Some.block.items _ (rw c.in-Some.is at c.in_ok-last_chunk.ensures) (rw count at c.pages_of.ensures.pages)
