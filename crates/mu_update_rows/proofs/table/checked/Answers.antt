use Rattle.std.proofs.Common.{◌<◌, sym, subst, arith}
use Rattle.std.specs.Prelude.{IsSomeAnd}
use Rattle.std.proofs.lemmas.List.Elements.{All-from_get_or}
use Rattle.mu_update_rows.proofs.table.checked.Goals as goal

pub returns-in-Some-meta_from-clause-passed : goal.returns-in-Some-meta_from-clause-passed
returns-in-Some-meta_from-clause-passed c = record {
  ranges = c.metadata.ensures.in_range c.args.metadata.now c.in-Some-meta_from.meta (All-from_get_or (λ octet. octet < 256) c.args.metadata.now 0 (λ i below. omega (arith, c.type_inv.metadata i))) (sym c.in-Some-meta_from.ensures);
  room = omega arith;
  newer = subst (λ o. IsSomeAnd o (λ active. active.version < c.in-Some-meta_from.meta.version)) c.in-Some.ensures (omega arith);
}
