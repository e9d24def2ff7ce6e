use Rattle.std.proofs.Common.{◌+◌, ◌*◌, refl, arith}
use Rattle.mu_distributor_note.proofs.Octets.{to_slice, from_slice}
use Rattle.mu_distributor_note.proofs.spelled.has_zeros.Goals as goal

pub returns-then-not-is_zero : goal.returns-then-not-is_zero
returns-then-not-is_zero c = (
  λ e. absurd (cc (e)),
  λ h. absurd (cc (
    c.if-not-is_zero.true,
    c.is_zero.ensures.1
        (to_slice c.args.octets.now (4 + c.from-banks.result) _ 8 refl (λ k low high. h.banks k (omega (arith, c.from-banks.ensures, low)) high)),
  )),
)

pub returns-then-not-is_zero-2 : goal.returns-then-not-is_zero-2
returns-then-not-is_zero-2 c = (λ e. absurd (cc (e)), λ h. absurd (cc (c.if-not-is_zero-2.true, c.is_zero-2.ensures.1 (to_slice c.args.octets.now 68 60 128 refl h.middle))))

pub returns : goal.returns
returns c = (
  λ e. record {
    banks = λ k low high. from_slice c.args.octets.now (4 + c.from-banks.result) _ 8 refl (omega (arith, c.requires.long)) (c.is_zero.ensures.0 c.if-not-is_zero.false) k (omega (arith, c.from-banks.ensures, low)) high;
    middle = from_slice c.args.octets.now 68 60 128 refl (omega (arith, c.requires.long)) (c.is_zero-2.ensures.0 c.if-not-is_zero-2.false);
    rows = λ k low high. from_slice c.args.octets.now (128 + 6 * c.from.result) _ 1728 refl (omega (arith, c.requires.long)) (c.is_zero-3.ensures.0 e) k (omega (arith, c.from.ensures, low)) high;
  },
  λ h. c.is_zero-3.ensures.1 (to_slice c.args.octets.now (128 + 6 * c.from.result) _ 1728 refl (λ k low high. h.rows k (omega (arith, c.from.ensures, low)) high)),
)
