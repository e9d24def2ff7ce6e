use Rattle.mu_distributor_note.proofs.Layouts.{spelled, zeros_of, numbers_of}
use Rattle.mu_distributor_note.proofs.spelled.is_spelled.Goals as goal

pub returns-then-has_numbers : goal.returns-then-has_numbers
returns-then-has_numbers c = (
  λ e. spelled c.args.octets.now c.requires (c.has_numbers.ensures.0 c.if-has_numbers.true) (c.has_zeros.ensures.0 e),
  λ s. c.has_zeros.ensures.1 (zeros_of c.args.octets.now s),
)
