use Rattle.std.proofs.Common.{◌+◌, ◌≤◌, ◌∙◌, length, arith, rules}
use Rattle.mu_outside.proofs.TearLemmas.{octets_fit}
use Rattle.mu_outside.proofs.cells.Cells.leave.Goals as goal

pub invariant_of-self : goal.invariant_of-self
invariant_of-self c =
    let was = c.args.self.now.is_image in
    let within : c.args.at + length c.args.bytes.now ≤ length c.args.self.now.octets.items = omega (arith, c.requires, was.size) in
    record {
      few_pages = c.args.self.now.few_pages;
      clock_counted = search rules;
      faults_counted = search rules;
      is_image = record {
        size = c.tear.ensures.len ∙ was.size;
        octets = c.ranges_of_octets.ensures.torn.octets_between _ _ _ was.octets (c.ranges_of_octets.ensures.writes.octets_written c.args.self.now.octets.items c.args.at c.args.bytes.now within was.octets (octets_fit _ c.type_inv.bytes)) c.tear.ensures.between;
      };
    }
