use Rattle.std.proofs.Common.{◌∙◌, ℕ, ap, arith}
use Rattle.std.proofs.Math.ListN.{length-set}
use Rattle.mu_model_image.specs.declared.Meta.{Meta}
use Rattle.mu_model_record.specs.Record.{entry_of}
use Rattle.mu_place.specs.Place.{place_record}
use Rattle.mu_blobsrv.specs.Views.{place_of}
use Rattle.mu_distributor_server.specs.Boots.{meta_by}
use Rattle.mu_distributor_server.proofs.Judged.{metas_next, metas_all}
use Rattle.mu_distributor_server.proofs.judging.metas_of.Goals as goal

pub loop-i-preserved : goal.loop-i-preserved
loop-i-preserved g c = (
  omega (arith, length-set {A = Meta}, c.loop-i.invariant.0),
  metas_next (λ (b : ℕ). meta_by (entry_of (place_record (place_of c.args.server.now)) b)) c.loop-i.metas c.args.banks.now c.loop-i.i c.meta_by.result
      (omega (arith, c.loop-i.invariant.0, c.requires.few, c.loop-i-test.true)) (omega (arith, c.loop-i-test.true)) (c.meta_by.ensures ∙ ap meta_by c.state_of.ensures) c.loop-i.invariant.1,
)

pub returns : goal.returns
returns g c =
    metas_all (λ (b : ℕ). meta_by (entry_of (place_record (place_of c.args.server.now)) b)) c.loop-i.metas c.args.banks.now c.loop-i.i
    (omega (arith, c.loop-i-test.false, c.loop-i.auto)) c.loop-i.invariant.1
