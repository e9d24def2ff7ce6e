pub mod Mesh
pub mod MeshOutcomes
pub mod MeshJudged
pub mod Settle
pub mod MeshRun
pub mod MeshWorked
pub mod Alike
