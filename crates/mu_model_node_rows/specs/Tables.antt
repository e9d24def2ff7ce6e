-- The tables of the messages of a node, each evaluated as one.
use Rattle.std.specs.Prelude.{[]}
use Rattle.mu_model_node_rows.specs.Scenes.{Answers, at, to_start, to_transfer, to_block, to_whole, to_verified, to_applying, to_failed, to_cut, to_suspended, to_resumed}
use Rattle.mu_model_node_rows.specs.TableOfTransfer.{idle, taken, next_block, next_chunk}
use Rattle.mu_model_node_rows.specs.TableOfImage.{verifying, verified, applying, failed}
use Rattle.mu_model_node_rows.specs.TableOfCuts.{cut, suspended, resumed}

-- what each message does in each phase
pub record EachMessage : Type 0 where
  pub idle : Answers (at []) idle
  pub taken : Answers (at to_start) taken
  pub next_block : Answers (at to_transfer) next_block
  pub next_chunk : Answers (at to_block) next_chunk
  pub verifying : Answers (at to_whole) verifying
  pub verified : Answers (at to_verified) verified
  pub applying : Answers (at to_applying) applying
  pub failed : Answers (at to_failed) failed
  pub cut : Answers (at to_cut) cut
  pub suspended : Answers (at to_suspended) suspended
  pub resumed : Answers (at to_resumed) resumed
