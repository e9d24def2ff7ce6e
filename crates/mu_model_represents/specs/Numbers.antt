-- The ranges that the widths of a record give to the numbers of what is kept, as far as the rules on durable states don't.
use Rattle.std.specs.Prelude.{ℕ, ◌^◌, ◌<◌, ◌≤◌, Option, Some, None}
use Rattle.std.specs.List.{AllByRecursion}
use Rattle.mu_model_image.specs.Meta.{Image, IsMeta}
use Rattle.mu_model_node.specs.declared.Parameters.{Parameters}
use Rattle.mu_model_node.specs.NodeState.{Job, NodeDurable}

pub record IsCount (count : ℕ) : Type 0 where
  pub least : 1 ≤ count
  pub most : count < 2 ^ 32

abbrev pub HasMtu : Option Parameters → Type 0
HasMtu None = Unit {0}
HasMtu (Some p) = p.mtu < 2 ^ 16

pub record HasJobNumbers (j : Job) : Type 0 where
  pub id : j.id < 2 ^ 64
  pub meta : IsMeta j.meta
  pub ttl : j.ttl < 256
  pub base : j.base < 2 ^ 16
  pub mtu : HasMtu j.parameters

abbrev pub HasNumbersOf : Option Job → Type 0
HasNumbersOf None = Unit {0}
HasNumbersOf (Some j) = HasJobNumbers j

pub record HasNodeNumbers (d : NodeDurable) : Type 0 where
  pub count : IsCount d.count
  pub images : AllByRecursion (λ (x : Image). IsMeta x.meta) d.images
  pub job : HasNumbersOf d.job
