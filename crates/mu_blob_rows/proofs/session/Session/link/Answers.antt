use Rattle.mu_blob_rows.proofs.session.Session.link.Goals as goal

pub returns-in-Unlinks : goal.returns-in-Unlinks
returns-in-Unlinks c = λ current. rw c.in-Unlinks.is (c.unlink.ensures current)
