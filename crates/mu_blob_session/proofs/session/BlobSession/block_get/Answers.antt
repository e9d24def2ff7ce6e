use Rattle.std.proofs.Common.{refl, ◌∙◌}
use Rattle.mu_blob_session.specs.Sessions.{session_in, coming_in}
use Rattle.mu_blob_session.proofs.Rows.{can_open, suits_changed, never_opens, all_held}
use Rattle.mu_blob_session.proofs.session.BlobSession.block_get.Goals as goal

pub change-requires : goal.change-requires
change-requires c =
    can_open c.look.result c.args.kept.serving (all_held c.args.kept.serving) c.block_get-told.result.session c.look.ensures.serving c.requires.sound refl (c.block_get-told.ensures.session (all_held c.args.kept.serving))

pub returns-clause-suits : goal.returns-clause-suits
returns-clause-suits c =
    suits_changed c.look.result c.args.kept.serving (all_held c.args.kept.serving) c.block_get-told.result.session (session_in c.args.self.now) (session_in c.change.new.self) (coming_in c.args.self.now) (coming_in c.change.new.self) c.args.now c.args.from c.look.ensures.serving c.look.ensures.link c.requires.sound refl (c.block_get-told.ensures.session (all_held c.args.kept.serving)) c.requires.suits c.change.ensures.session c.change.ensures.block

pub returns-clause-block : goal.returns-clause-block
returns-clause-block c =
    c.change.ensures.block ∙ never_opens c.look.result c.args.kept.serving c.block_get-told.result.session (coming_in c.args.self.now) (c.block_get-told.ensures.session (all_held c.args.kept.serving))
