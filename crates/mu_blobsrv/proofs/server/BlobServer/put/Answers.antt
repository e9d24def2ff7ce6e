use Rattle.mu_blobsrv.specs.Views.{coming_of}
use Rattle.mu_blobsrv.proofs.Came.{few_joined}
use Rattle.mu_blobsrv.proofs.server.BlobServer.put.Goals as goal

pub returns-in_err-put_block-clause-one : goal.returns-in_err-put_block-clause-one
returns-in_err-put_block-clause-one g c = λ d is. few_joined c.in-Some-Some.octets.now (coming_of c.args.self.now) d c.known.ensures c.in-Some-Some.ensures'.octets c.in-Some-Some.ensures'.length is

pub returns-clause-one : goal.returns-clause-one
returns-clause-one g c = λ d is. few_joined c.in-Some-Some.octets.now (coming_of c.args.self.now) d c.known.ensures c.in-Some-Some.ensures'.octets c.in-Some-Some.ensures'.length is
