use Rattle.std.proofs.Common.{refl}
use Rattle.mu_distributor_rows.specs.Receivers.{with_rows}
use Rattle.mu_distributor_server.specs.Views.{server_in, place_in}
use Rattle.mu_model_distributor.specs.Commit.{work_to}
use Rattle.mu_model_distributor.specs.Same.{same_durable}
use Rattle.mu_distributor_server.proofs.Asked.{rows_alone, idle_work, fault_ok, fault_err}
use Rattle.mu_distributor_server.proofs.distributor.Distributor.receivers.Goals as goal

pub returns-in-Ok-end-clause-did : goal.returns-in-Ok-end-clause-did
returns-in-Ok-end-clause-did g c s rows to show stands =
    let st = rw c.in-Ok.is at stands in
    rw c.in-Ok.is (record { shows = c.in-Ok-end.ensures.shows s (with_rows s rows) st.0 st.1; sends = refl })

pub returns-in-Ok-end-clause-works : goal.returns-in-Ok-end-clause-works
returns-in-Ok-end-clause-works g c s rows to show stands from sound =
    let st = rw c.in-Ok.is at stands in
    rw c.in-Ok.is (c.in-Ok-end.ensures.works s (with_rows s rows) st.0 from (rows_alone s rows) st.1 (rw c.in-Ok.is at sound))

pub returns-in-Ok-end-clause-faults : goal.returns-in-Ok-end-clause-faults
returns-in-Ok-end-clause-faults g c s rows to show stands =
    let st = rw c.in-Ok.is at stands in
    rw c.in-Ok.is
    (fault_ok (work_to (with_rows s rows) (same_durable s.durable (with_rows s rows).durable)) (place_in c.args.self.now) tt 0 (c.in-Ok-end.ensures.faults s (with_rows s rows) st.1))

pub returns-in-Err-end-clause-works : goal.returns-in-Err-end-clause-works
returns-in-Err-end-clause-works g c s rows to show stands from sound =
    let st = rw c.in-Ok.is at stands in
    rw c.in-Ok.is (c.in-Err-end.ensures.works s (with_rows s rows) st.0 from (rows_alone s rows) st.1 (rw c.in-Ok.is at sound))

pub returns-in-Err-end-clause-faults : goal.returns-in-Err-end-clause-faults
returns-in-Err-end-clause-faults g c s rows to show stands =
    let st = rw c.in-Ok.is at stands in
    rw c.in-Ok.is
    (fault_err _ _ (work_to (with_rows s rows) (same_durable s.durable (with_rows s rows).durable)) (place_in c.args.self.now) c.in-Err-end.why (c.in-Err-end.ensures.faults s (with_rows s rows) st.1))

pub returns-in-Err-clause-works : goal.returns-in-Err-clause-works
returns-in-Err-clause-works g c s rows to show stands from sound =
    rw c.in-Err.is (idle_work g.F.Flash.seen (server_in c.args.self.now) s from c.runs.ensures c.distributor_runs_are_read.ensures.distributors (c.known.ensures.idle from.store from.holds) c.in-Err.status)
