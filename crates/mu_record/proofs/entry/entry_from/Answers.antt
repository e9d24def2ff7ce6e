use Rattle.mu_record.proofs.EntryLemmas.{all_zero, zero_all, only_filling, only_sealed, only_empty, weaker_none}
use Rattle.mu_record.proofs.entry.entry_from.Goals as goal

pub returns-then-octets-eq-FILLING : goal.returns-then-octets-eq-FILLING
returns-then-octets-eq-FILLING c = weaker_none _ _ _ c.filling_from.result (only_filling c.args.octets.now c.if-octets-eq-FILLING.true) c.filling_from.ensures

pub returns-then-octets-eq-SEALED : goal.returns-then-octets-eq-SEALED
returns-then-octets-eq-SEALED c = weaker_none _ _ _ c.sealed_from.result (only_sealed c.args.octets.now c.if-octets-eq-SEALED.true) c.sealed_from.ensures

pub returns-then-is_zero : goal.returns-then-is_zero
returns-then-is_zero c = all_zero c.args.octets.now 48 c.requires (c.is_zero.ensures.0 c.if-is_zero.true)

pub returns-else-is_zero : goal.returns-else-is_zero
returns-else-is_zero c = only_empty c.args.octets.now c.if-octets-eq-FILLING.false c.if-octets-eq-SEALED.false (λ is. absurd (cc (c.if-is_zero.false, c.is_zero.ensures.1 (zero_all c.args.octets.now 48 is))))
