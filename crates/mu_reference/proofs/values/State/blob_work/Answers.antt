use Rattle.mu_reference.proofs.values.State.blob_work.Goals as goal

pub returns-in-ChunkTransfer-clause-work : goal.returns-in-ChunkTransfer-clause-work
returns-in-ChunkTransfer-clause-work c = rw c.in-ChunkTransfer.is c.chunk_work.ensures.work
