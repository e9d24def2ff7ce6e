-- What is kept and the block that comes go together.
use Rattle.std.specs.Prelude.{◌≡◌, ◌≤◌, ◌<◌, ℕ, Option, Some, None}
use Rattle.mu_model_image.specs.Pieces.{block_count, block_length}
use Rattle.mu_model_image.specs.Sizes.{most_image}
use Rattle.mu_model_node.specs.declared.Parameters.{Parameters}
use Rattle.mu_model_node.specs.declared.Link.{Link}
use Rattle.mu_model_node.specs.declared.Link.TheVariants.{Running}
use Rattle.mu_block.specs.Coming.{Coming}
use Rattle.mu_blob_rows.specs.declared.looks.Serving.{Serving}
use Rattle.mu_blob_rows.specs.declared.looks.Serving.TheVariants.{NoJob, Lacking, Whole}

-- the parameters of a transfer that was begun
pub record AreBegun (p : Parameters) : Type 0 where
  pub mode_most : p.mode ≤ 2
  pub mtu_least : 20 ≤ p.mtu
  pub size_least : 1 ≤ p.size
  pub size_most : p.size ≤ most_image
  pub log_least : 12 ≤ p.log
  pub log_most : p.log ≤ 14

abbrev pub AreSound : Option Parameters → Type 0
AreSound None = Unit {0}
AreSound (Some p) = AreBegun p

abbrev pub HasSound : Option Parameters → Type 0
HasSound None = ⊥
HasSound (Some p) = AreBegun p

-- a job without parameters lacks its blocks
abbrev pub IsSoundServing : Serving → Type 0
IsSoundServing NoJob = Unit {0}
IsSoundServing (Lacking t) = AreSound t.parameters
IsSoundServing (Whole t) = HasSound t.parameters

-- how many blocks the transfer has
abbrev pub count_of : Option Parameters → ℕ
count_of None = 0
count_of (Some p) = block_count p.size p.log

abbrev pub blocks_of : Serving → ℕ
blocks_of NoJob = 0
blocks_of (Lacking t) = count_of t.parameters
blocks_of (Whole t) = count_of t.parameters

-- the block is one of a transfer with these parameters
abbrev pub IsBlockOf : Option Parameters → Coming → Type 0
IsBlockOf None c = ⊥
IsBlockOf (Some p) c = (c.block.number < block_count p.size p.log) × (c.size ≡ block_length p.size p.log c.block.number)

abbrev pub IsBlockIn : Serving → Coming → Type 0
IsBlockIn NoJob c = ⊥
IsBlockIn (Lacking t) c = IsBlockOf t.parameters c
IsBlockIn (Whole t) c = ⊥

-- where a block comes, the link runs, and the block is one of the transfer's, of which blocks are missing
abbrev pub Suits : Serving → Link → Option Coming → Type 0
Suits serving link None = Unit {0}
Suits serving link (Some c) = (link ≡ Running) × IsBlockIn serving c
