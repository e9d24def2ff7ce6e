use Rattle.std.proofs.Common.{refl}
use Rattle.mu_block.specs.Coming.{chunks_of}
use Rattle.mu_blob_rows.specs.Rows.{ChunkLooksSo}
use Rattle.mu_blob_session.specs.Sessions.{session_in}
use Rattle.mu_blob_session.proofs.ChunkLooks.{chunk_looks, passed, heard, same_number}
use Rattle.mu_blob_session.proofs.session.BlobSession.chunk.Goals as goal

pub returns-in-PassOver-clause-row : goal.returns-in-PassOver-clause-row
returns-in-PassOver-clause-row c = λ held from.
    let looks : ChunkLooksSo c.look.result c.args.chunk (chunks_of c.args.self.now.block) c.look_of-look.result = rw c.look_of-look.ensures (chunk_looks c.look.result c.args.kept.serving (session_in c.args.self.now).link c.args.self.now.block c.args.chunk c.look.ensures.serving c.look.ensures.current c.requires) in
    passed _ _ from c.args.chunk c.args.octets.now (c.look.ensures.server held) (c.in-PassOver.ensures.stepped held (chunks_of c.args.self.now.block) from c.args.chunk c.args.octets.now refl looks)

pub returns-in-Hear-clause-row : goal.returns-in-Hear-clause-row
returns-in-Hear-clause-row c = λ held from.
    let looks : ChunkLooksSo c.look.result c.args.chunk (chunks_of c.args.self.now.block) c.look_of-look.result = rw c.look_of-look.ensures (chunk_looks c.look.result c.args.kept.serving (session_in c.args.self.now).link c.args.self.now.block c.args.chunk c.look.ensures.serving c.look.ensures.current c.requires) in
    heard _ _ from c.args.chunk c.args.octets.now (c.look.ensures.server held) (c.in-Hear.ensures.stepped held (chunks_of c.args.self.now.block) from c.args.chunk c.args.octets.now refl looks)

pub returns-in-Receive-clause-number : goal.returns-in-Receive-clause-number
returns-in-Receive-clause-number c = rw c.receive.ensures.block (same_number c.args.self.now.block c.args.chunk c.args.octets.now)
