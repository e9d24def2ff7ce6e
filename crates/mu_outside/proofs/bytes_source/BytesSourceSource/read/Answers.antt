use Rattle.mu_outside.proofs.StreamLemmas.{gives, ends}
use Rattle.mu_outside.proofs.bytes_source.BytesSourceSource.read.Goals as goal

pub returns-clause-gives : goal.returns-clause-gives
returns-clause-gives c =
    let octets = c.args.self.now.octets.items in
    let held = c.deref.result.now in
    let got = c.copy_from_slice.new.self in (
      gives octets held c.args.out.now got c.args.self.now.at c.min-count.result c.args.self.now.within c.deref.ensures.value c.min-count.ensures c.copy_from_slice.ensures.after,
      ends octets held c.args.out.now got c.args.self.now.at c.min-count.result c.args.self.now.within c.deref.ensures.value c.min-count.ensures c.copy_from_slice.ensures.after,
    )
