use Rattle.mu_model_script.specs.Limits.{most_octets, first_lines}
use Rattle.mu_top.specs.Payloads.{BarsPayload, DoesPayload, WearsPayload, PayloadsEnd}
use Rattle.mu_top.proofs.PayloadLines.{payloads_alone}
use Rattle.mu_top.proofs.Working.{completes, alone}
use Rattle.mu_top.proofs.payloads.print_payloads.Goals as goal

pub returns-clause-complete : goal.returns-clause-complete
returns-clause-complete g c = λ reads writes.
    let text = c.args.text in
    completes DoesPayload BarsPayload WearsPayload text most_octets (PayloadsEnd text)
    (λ held left written status ends must reads writes. record {
      must = must;
      refused = alone DoesPayload BarsPayload WearsPayload text most_octets held left written status
          (λ before whole number place word refuses prints. payloads_alone text (first_lines most_octets held) before whole number place word refuses prints) must (λ worn wears. wears.wears);
    })
    _ _ _ _ c.run.result c.run.ensures.ends (λ is. reads (c.run.ensures.source is)) (λ is. writes (c.run.ensures.sink is))
