-- The plan of an updater's line: exactly the line's fields, and its content's size.
use Rattle.std.specs.Prelude.{◌≡◌, ◌+◌, ◌*◌, true, length, map}
use Rattle.sha2.specs.Sha256.{sha256}
use Rattle.mu_model_client.specs.Client.{rows}
use Rattle.mu_model_updater.specs.Updater.{UpdaterLine, plan_of, updater_of}

pub record PlanHasItsFields (line : UpdaterLine) : Type 0 where
  pub from : (plan_of line).sending.from ≡ line.address
  -- the address in the upper 16 bits of 64
  pub id : (plan_of line).sending.id ≡ line.address * 281474976710656 + line.id
  pub size : (plan_of line).sending.size ≡ length line.content
  pub log : (plan_of line).sending.log ≡ line.log
  pub chunk : (plan_of line).sending.chunk ≡ line.chunk
  pub mode : (plan_of line).sending.mode ≡ line.mode
  pub group : (plan_of line).sending.group ≡ line.group
  pub ttl : (plan_of line).sending.ttl ≡ line.ttl
  pub base : (plan_of line).sending.base ≡ line.base
  pub offered_size : (plan_of line).meta.size ≡ length line.content
  pub offered_version : (plan_of line).meta.version ≡ line.version
  pub offered_digest : (plan_of line).meta.digest ≡ sha256 line.content
  pub applied : (plan_of line).apply ≡ true
  -- its receivers in the line's order, and the octets that it sends
  pub receivers : map (λ row. row.address) (rows (updater_of line).client) ≡ line.receivers
  pub octets : (updater_of line).image.octets ≡ line.content

abbrev pub PlansHaveTheirFields : Type 0
PlansHaveTheirFields = (line : UpdaterLine) → PlanHasItsFields line
