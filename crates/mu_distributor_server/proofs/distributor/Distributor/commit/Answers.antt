use Rattle.mu_distributor_server.proofs.Committed.{commit_works}
use Rattle.mu_distributor_server.proofs.distributor.Distributor.commit.Goals as goal

pub returns-clause-works : goal.returns-clause-works
returns-clause-works g c s t shows from same sound =
    commit_works g.F.Flash.seen
    (record {
      runs = c.runs.ensures;
      refines = c.distributor_runs_are_read.ensures.distributors;
      represented = c.represented_is_sound.ensures.store;
      sound = c.distributor_is_sound.ensures.distributor;
      tag = c.written_distributor.ensures.tag;
      read_back = c.written_distributor.ensures.read_back;
      kept = c.distributor_is_kept.ensures.kept;
      fresh = c.distributor_steps.ensures.fresh;
      steps = c.distributor_steps.ensures.one_record;
    })
    _ _ s t from c.record-note.result same shows.server.job (c.record-note.ensures.note t shows.memory) sound c.states_stay.ensures.tagged c.distributor_is_kept.ensures.stays
    c.commit.result c.requires.fault (c.known.ensures.is_record c.requires.fault) c.commit.ensures.worn c.commit.ensures.fresh (c.commit.ensures.runs from.store from.holds)
