use Rattle.std.proofs.Common.{◌+◌, ◌≤◌, ◌∙◌, length, subst, sym, List, ℕ, arith, rules}
use Rattle.mu_model_flash.specs.Bits.{AreOctets}
use Rattle.mu_outside.proofs.TearLemmas.{octets_fit}
use Rattle.mu_outside.proofs.cells.Cells.write.Goals as goal

pub invariant_of-self : goal.invariant_of-self
invariant_of-self c =
    let was = c.args.self.now.is_image in
    let within : c.args.at + length c.args.bytes.now ≤ length c.args.self.now.octets.items = omega (arith, c.requires, was.size) in
    record {
      few_pages = c.args.self.now.few_pages;
      clock_counted = search rules;
      faults_counted = c.args.self.now.faults_counted;
      is_image = record {
        size = c.overwrite.ensures.len ∙ was.size;
        octets = subst (λ (l : List ℕ). AreOctets l) (sym c.overwrite.ensures.items) (c.ranges_of_octets.ensures.writes.octets_written c.args.self.now.octets.items c.args.at c.args.bytes.now within was.octets (octets_fit _ c.type_inv.bytes));
      };
    }
