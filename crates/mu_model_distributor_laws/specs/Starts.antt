-- Where a distributor's run may begin beside a boot: a new distributor, and what is stocked into it.
use Rattle.std.specs.Prelude.{ℕ, ◌≡◌, ◌≤◌, []}
use Rattle.mu_model_image.specs.Meta.{Image, IsMeta}
use Rattle.mu_model_node.specs.Sound.{IsActiveImage}
use Rattle.mu_model_distributor.specs.DistState.{NoUpload, DistDurable, DistState}
use Rattle.mu_model_distributor.specs.declared.DistPhase.TheVariants.{Idle}
use Rattle.mu_model_distributor.specs.DistEvents.{live, new_distributor, stocked}
use Rattle.mu_model_distributor.specs.Sound.{IsDistDurable}
use Rattle.mu_model_distributor_laws.specs.RunLaws.{IsInOrder}

-- wherever a run begins, it is in order
abbrev pub StartsAreInOrder : Type 0
StartsAreInOrder = (address : ℕ) (d : DistDurable) (fresh : ℕ) → IsDistDurable d → fresh ≤ 3 → IsInOrder address (live address d fresh)

-- a distributor to which no event has come: it has images, and nothing else
pub record IsUnused (address : ℕ) (s : DistState) : Type 0 where
  pub durable : IsDistDurable s.durable
  pub fresh : s.fresh ≤ 3
  -- so its runs begin as `live` says
  pub live : s ≡ live address s.durable s.fresh
  pub phase : s.durable.phase ≡ Idle
  pub counter : s.durable.counter ≡ 0
  pub receivers : s.durable.receivers ≡ []
  pub upload : s.durable.upload ≡ NoUpload

-- a new one is so
abbrev pub NewIsUnused : Type 0
NewIsUnused = (address pages fresh : ℕ) → 1 ≤ pages → pages ≤ 256 → fresh ≤ 3 → IsUnused address (live address (new_distributor pages) fresh)

-- and stays so while images are stocked
abbrev pub StockedIsUnused : Type 0
StockedIsUnused =
    (address : ℕ) (s : DistState) (image : Image) → IsUnused address s → IsMeta image.meta → IsActiveImage s.durable.capacity image
    → IsUnused address (stocked s image)
