-- What a script reads of a node.
pub use Rattle.mu_model_node.specs.NodeState.{filling_blocks, filling_count}
