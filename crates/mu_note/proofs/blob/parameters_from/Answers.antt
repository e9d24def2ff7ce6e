use Rattle.std.proofs.Common.{◌≡◌, ◌∙◌, refl, arith, sym}
use Rattle.mu_model_record.specs.Record.{number_at}
use Rattle.mu_note.proofs.Parts.{number_from}
use Rattle.mu_note.proofs.Spelled.{mode_0, mode_some}
use Rattle.mu_note.proofs.blob.parameters_from.Goals.{else-mtu-eq0-via-then-mtu-eq0+else-log-eq0, else-mtu-eq0-via-else-mtu-eq0}
use Rattle.mu_note.proofs.blob.parameters_from.Goals as goal

pub returns-then-log-eq0-clause-read : goal.returns-then-log-eq0-clause-read
returns-then-log-eq0-clause-read c = record {
  no_mode_at_1 = c.if-mode-eq0.true;
  no_mtu_at_2 = sym (c.read_u16-mtu.ensures ∙ number_from c.args.octets.now 2 2) ∙ c.if-mtu-eq0.true;
  no_log_at_19 = c.if-log-eq0.true;
}

pub returns-else-mtu-eq0-clause-foreign : goal.returns-else-mtu-eq0-clause-foreign
returns-else-mtu-eq0-clause-foreign c q h =
    let none = mode_0 c.args.size q c.args.octets.now c.if-mode-eq0.true h in
    let mtu : c.read_u16-mtu.result ≡ number_at 2 c.args.octets.now 2 = c.read_u16-mtu.ensures ∙ number_from c.args.octets.now 2 2 in
    elim c.else-mtu-eq0.branch [
      | else-mtu-eq0-via-then-mtu-eq0+else-log-eq0 w ↦ absurd (omega (arith, none.1, w.if-log-eq0.false))
      | else-mtu-eq0-via-else-mtu-eq0 w ↦ absurd (omega (arith, none.0, mtu, w.if-mtu-eq0.false))
    ]

pub returns-then-mode-gt2-clause-foreign : goal.returns-then-mode-gt2-clause-foreign
returns-then-mode-gt2-clause-foreign c q h =
    let some = mode_some c.args.size q c.args.octets.now (λ z. omega (arith, z, c.if-mode-eq0.false)) h in
    absurd (omega (arith, some.0, c.if-mode-gt2.true))

pub returns-then-mtu-lt20-clause-foreign : goal.returns-then-mtu-lt20-clause-foreign
returns-then-mtu-lt20-clause-foreign c q h =
    let some = mode_some c.args.size q c.args.octets.now (λ z. omega (arith, z, c.if-mode-eq0.false)) h in
    let mtu : c.read_u16-mtu.result ≡ number_at 2 c.args.octets.now 2 = c.read_u16-mtu.ensures ∙ number_from c.args.octets.now 2 2 in
    absurd (omega (arith, some.1, mtu, c.if-mtu-lt20.true))

pub returns-clause-read : goal.returns-clause-read
returns-clause-read c = record {
  mode_at_1 = refl;
  mode_least = omega (arith, c.if-mode-eq0.false);
  mode_most = omega (arith, c.if-mode-gt2.false);
  mtu_at_2 = sym (c.read_u16-mtu.ensures ∙ number_from c.args.octets.now 2 2);
  mtu_least = omega (arith, c.if-mtu-lt20.false);
  log_at_19 = refl;
  same_size = refl;
}
