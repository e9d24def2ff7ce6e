use Rattle.std.proofs.Common.{◌≡◌, ◌+◌, ◌≤◌, ◌∙◌, length, take, ap, arith, refl, rules, List, ℕ}
use Rattle.std.proofs.lemmas.List.{length-take-le}
use Rattle.mu_outside.proofs.StreamLemmas.{takes}
use Rattle.mu_outside.proofs.bytes_sink.BytesSinkSink.write.Goals as goal

pub returns-clause-takes : goal.returns-clause-takes
returns-clause-takes c =
    let octets = c.args.self.now.octets.items in
    let piece = take c.min-count.result c.args.bytes.now in
    let size : length piece ≡ c.min-count.result = length-take-le c.min-count.result c.args.bytes.now (omega arith) in
    let held : c.len.result ≡ length octets = search rules in
    let within : c.args.self.now.filled + c.min-count.result ≤ length octets = omega (arith, held, c.args.self.now.within) in
    (take c.args.self.now.filled octets, refl, ap (λ (l : List ℕ). take (c.args.self.now.filled + c.min-count.result) l) c.overwrite.ensures.items ∙ takes octets piece c.args.self.now.filled c.min-count.result (omega (arith, size)) within)
