-- What is read of a node's job.
pub use Rattle.mu_model_node.specs.NodeState.{filling_blocks, filling_count}
