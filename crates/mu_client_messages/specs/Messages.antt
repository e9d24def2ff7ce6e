-- What of a message the model's answer has, beside what a client keeps of it; and when a client's messages are in their ranges.
use Rattle.std.specs.Prelude.{ℕ, ◌≡◌, ◌⊎◌, drop, List, [], Option, Some, None, unwrap_or}
use Rattle.std.specs.Borrow.{Bor}
use Rattle.std.specs.Option.{option_map}
use Rattle.mu_model_wire.specs.Fields.{Message}
use Rattle.mu_model_wire.specs.Names.{id, count}
use Rattle.mu_model_wire.specs.Reading.{value_of}
use Rattle.mu_model_node.specs.declared.Parameters.{Parameters}
use Rattle.mu_model_client.specs.declared.Sending.{Sending}
use Rattle.mu_model_client.specs.Answers.{Answer, octets_in}
use Rattle.mu_told.specs.declared.update.Shown.{Shown}
use Rattle.mu_rounds.specs.Rounds.{HasShape}
use Rattle.mu_rounds.specs.Told.{answer_of}
use Rattle.mu_rounds.specs.declared.rounds.Rounds.{Rounds}
use Rattle.mu_rounds.specs.declared.told.Heard.{Heard}

-- the answer that was heard in this message
abbrev pub answer_in : Message → Heard → Answer
answer_in m heard = answer_of heard (value_of count m.fields) (drop 1 (octets_in id m.entries))

abbrev pub answer_heard : Message → Option Heard → Option Answer
answer_heard m heard = option_map (answer_in m) heard

-- what is sent has a mode (MshMBT, Transfer Mode)
abbrev pub HasMode : Sending → Type 0
HasMode p = (p.mode ≡ 1) ⊎ (p.mode ≡ 2)

-- what holds of a machine of rounds that sends packets
pub record IsWhole (r : Rounds) : Type 0 where
  pub shape : HasShape r
  pub mode : HasMode r.sending

-- ---- what is shown where it is there; the fields of one thing are there together

abbrev pub parameters_shown : ℕ → Option ℕ → Option ℕ → Option ℕ → Option Parameters
parameters_shown mode None log mtu = None
parameters_shown mode (Some size) log mtu = Some (record { mode = mode; size = size; log = unwrap_or log 0; mtu = unwrap_or mtu 0 })

abbrev pub field_shown : Option (Bor (List ℕ)) → List ℕ
field_shown None = []
field_shown (Some octets) = octets.now

abbrev pub job_shown : Option ℕ → Option ℕ → Option ℕ → Option ℕ → Option Shown
job_shown None base blob index = None
job_shown (Some ttl) base blob index = Some (record { ttl = ttl; base = unwrap_or base 0; id = unwrap_or blob 0; index = unwrap_or index 0 })
