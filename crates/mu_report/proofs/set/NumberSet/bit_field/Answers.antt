use Rattle.std.proofs.Common.{◌≡◌, ◌+◌, ◌/◌, ◌++◌, ◌∙◌, ℕ, List, take, ap, rules}
use Rattle.std.specs.List.{flat_map}
use Rattle.byteorder.specs.Endian.{little_bytes}
use Rattle.mu_model_wire.specs.Reports.{bit_field}
use Rattle.mu_report.proofs.Octets.{field_is}
use Rattle.mu_report.proofs.set.NumberSet.bit_field.Goals as goal

pub returns-else-is_err : goal.returns-else-is_err
returns-else-is_err c =
    let field = field_is c.bit_fields.ensures.of_a_set c.bit_fields.ensures.octets c.self.inside.words c.self.inside.bound c.self.invariant in
    let pushed : c.try_extend_from_slice.new.self.items ≡ c.new-field.result.items ++ c.split_at.result.0.now = search rules in
    let all : c.write_u64_into.new.dst ≡ flat_map (little_bytes 8) c.self.inside.words = c.write_u64_into.ensures in
    pushed ∙ ap (λ (xs : List ℕ). xs ++ c.split_at.result.0.now) c.new-field.ensures ∙ c.split_at.ensures.front
    ∙ ap (λ (n : ℕ). take n c.write_u64_into.new.dst) c.field_length.ensures
    ∙ ap (λ (xs : List ℕ). take ((c.self.inside.bound + 7) / 8) xs) all ∙ field ∙ ap bit_field c.self.view_is
