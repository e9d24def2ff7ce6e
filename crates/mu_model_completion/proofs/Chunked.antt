-- The chunks of a block at a pair, and when all are sent.
use Rattle.std.proofs.Common.{◌≡◌, ◌<◌, ◌*◌, ℕ, suc, List, [], true, length}
use Rattle.std.specs.List.{AllByRecursion}
use Rattle.mu_model_image.specs.declared.Meta.{Meta}
use Rattle.mu_model_wire.specs.Reports.{every_number}
use Rattle.mu_model_node.specs.declared.NodeConfig.{NodeConfig}
use Rattle.mu_model_client.specs.declared.Sending.{Sending}
use Rattle.mu_model_client.specs.Client.{At, Chunks, chunk_total}
use Rattle.mu_model_client_laws.specs.Laws.{KeepsPlan, FieldsAreRead}
use Rattle.mu_model_completion.specs.Turn.{Member}
use Rattle.mu_model_completion.proofs.Pairs.{Pair}
use Rattle.mu_model_completion.proofs.Stations.{Station}
use Rattle.mu_model_completion.proofs.Asking.{configs}
use Rattle.mu_model_completion.proofs.First.{Good, Row}
use Rattle.mu_model_completion.proofs.Pieces.{lacking_from}
use Rattle.mu_model_completion.proofs.Blocks.{Tiles, Chunked}

module _ (laws : KeepsPlan) (fields : FieldsAreRead) (tiles : Tiles) (p : Sending) (meta : Meta) (config : NodeConfig) (image : List ℕ) (blocks : ℕ) (good : Good p blocks) (most : ℕ) (few : 4 * most < 99)
    (whole : length image ≡ p.size) (chunk_some : 0 < p.chunk) (b n c : ℕ) (total : chunk_total p b ≡ suc c) where
  -- k chunks have come, and rem haven't; the node was heard so many turns ago at most
  abbrev pub IsChunked : ℕ → ℕ → ℕ → Pair → Type 0
  IsChunked k rem a x = Chunked fields tiles p meta image config.address blocks good most few whole chunk_some b n k rem a x

  abbrev pub Chunking : ℕ → ℕ → Pair → Type 0
  Chunking k rem x = Row 2 (lacking_from b (suc n)) (every_number (suc c)) true x × IsChunked k rem (3 * most) x

  -- as the step begins
  abbrev pub Beginning : Pair → Type 0
  Beginning x = Row 2 (lacking_from b (suc n)) (every_number (suc c)) true x × IsChunked 0 (suc c) most x

  pub record ChunksSent (cs : List NodeConfig) (xs : List Member) : Type 0 where
    pub qs : List Pair
    pub station : Station laws p meta config image (At (Chunks b)) [] qs xs
    pub all : AllByRecursion (Chunking (suc c) 0) qs
    pub same : configs qs ≡ cs
