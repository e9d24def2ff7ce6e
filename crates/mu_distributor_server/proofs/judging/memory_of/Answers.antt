use Rattle.std.proofs.Common.{◌∙◌, List, sym, ap, subst, arith}
use Rattle.mu_distmsg.specs.declared.message.ReceiverRow.{ReceiverRow}
use Rattle.mu_model_node.specs.BlobServer.{Serving, serving_phase}
use Rattle.mu_model_distributor.specs.DistEvents.{restarted}
use Rattle.mu_model_represents.specs.BlobPart.{note_part}
use Rattle.mu_model_represents_distributor.specs.RepresentsDistributor.{IsDistributorRecord, IsDistributorOf}
use Rattle.mu_place.specs.Place.{place_record}
use Rattle.mu_kept.specs.Views.{part_in}
use Rattle.mu_kept.specs.Shows.{held_in}
use Rattle.mu_blobsrv.specs.Views.{store_of, place_of, session_of}
use Rattle.mu_distributor_kept.specs.Views.{upload_phase}
use Rattle.mu_distributor_note.specs.Views.{distributor_note}
use Rattle.mu_distributor_note.specs.Rules.{IsDistributorNote}
use Rattle.mu_distributor_rows.specs.Receivers.{AreRowsOf}
use Rattle.mu_distributor_server.specs.Boots.{lags_in}
use Rattle.mu_distributor_server.proofs.Booted.{note_of_record, rules_of, keeps_rules, one_of, head_booted, rows_booted}
use Rattle.mu_distributor_server.proofs.Kept.{kept_of}
use Rattle.mu_distributor_server.proofs.judging.memory_of.Goals as goal

pub note-requires : goal.note-requires
note-requires g c = c.requires

pub goes_with-requires : goal.goes_with-requires
goes_with-requires g c = c.requires

pub as_slice-requires : goal.as_slice-requires
as_slice-requires g c = omega arith

pub metas_of-metas-requires-clause-fault : goal.metas_of-metas-requires-clause-fault
metas_of-metas-requires-clause-fault g c = c.requires

pub metas_of-metas-requires-clause-few : goal.metas_of-metas-requires-clause-few
metas_of-metas-requires-clause-few g c = c.as_slice.ensures.fits

pub lags-lags-requires : goal.lags-lags-requires
lags-lags-requires g c = c.requires

pub new-requires : goal.new-requires
new-requires g c = kept_of c.in-Ok.head c.in-Ok.rows.items c.note.result.now c.in-Ok.ensures.blank c.in-Ok.ensures.read

pub returns-in_default-clause-none : goal.returns-in_default-clause-none
returns-in_default-clause-none g c e part n is = c.in_default.ensures.foreign n (rw c.note.ensures (note_of_record (place_record (place_of c.args.server.now)) part n is))

pub returns-then-not-goes_with-clause-none : goal.returns-then-not-goes_with-clause-none
returns-then-not-goes_with-clause-none g c e part n is =
    let read : IsDistributorNote (distributor_note c.in-Ok.head c.in-Ok.rows.items) (note_part (place_record (place_of c.args.server.now)).tag) = rw c.note.ensures at c.in-Ok.ensures.read in
    absurd (cc (
      c.if-not-goes_with.true,
      c.goes_with.ensures.1
          (keeps_rules c.distributor_is_read.ensures.note c.blob_parts.ensures.one (place_record (place_of c.args.server.now)) (part_in (store_of c.args.server.now)) c.in-Ok.head c.in-Ok.rows.items
          (c.known.ensures.job c.requires) read part n is),
    ))

pub returns-clause-none : goal.returns-clause-none
returns-clause-none g c e part n is = absurd (cc)

pub returns-clause-some : goal.returns-clause-some
returns-clause-some g c =
    let read : IsDistributorNote (distributor_note c.in-Ok.head c.in-Ok.rows.items) (note_part (place_record (place_of c.args.server.now)).tag) = rw c.note.ensures at c.in-Ok.ensures.read in
    let rules : IsDistributorRecord (place_record (place_of c.args.server.now)) (part_in (store_of c.args.server.now)) (distributor_note c.in-Ok.head c.in-Ok.rows.items) =
    rules_of (place_record (place_of c.args.server.now)) (part_in (store_of c.args.server.now)) c.in-Ok.head c.in-Ok.rows.items (c.known.ensures.job c.requires) read (c.goes_with.ensures.0 c.if-not-goes_with.false) in
    record {
      note = distributor_note c.in-Ok.head c.in-Ok.rows.items;
      rules = rules;
      upload = ap upload_phase c.new.ensures.upload;
      memory = λ address s d holds is.
          let of : IsDistributorOf s (part_in (store_of c.args.server.now)) (distributor_note c.in-Ok.head c.in-Ok.rows.items) d =
          one_of c.distributor_is_read.ensures.note c.blob_parts.ensures.one s (place_record (place_of c.args.server.now)) (part_in (store_of c.args.server.now)) (distributor_note c.in-Ok.head c.in-Ok.rows.items) d
          (c.known.ensures.present s holds) rules is in
          record {
            head =
                c.new.ensures.head (restarted address d)
                (head_booted address s (place_record (place_of c.args.server.now)) (part_in (store_of c.args.server.now)) c.in-Ok.head c.in-Ok.rows.items c.metas_of-metas.result (session_of c.args.server.now) d
                (c.known.ensures.present s holds) rules (rw c.as_slice.ensures.value at c.metas_of-metas.ensures) c.in-Ok.ensures.blank of c.lags-lags.result
                (c.lags-lags.ensures (held_in s (part_in (store_of c.args.server.now))) 0
                ∙ ap (λ (v : Serving). lags_in c.in-Ok.head.upload (serving_phase (session_of c.args.server.now) v)) (c.known.ensures.serving s 0 holds)));
            rows =
                subst (λ (l : List ReceiverRow). AreRowsOf l (restarted address d)) (sym c.new.ensures.rows)
                (rows_booted address s (place_record (place_of c.args.server.now)) (part_in (store_of c.args.server.now)) c.in-Ok.head c.in-Ok.rows.items c.metas_of-metas.result (session_of c.args.server.now) d
                (c.known.ensures.present s holds) rules (rw c.as_slice.ensures.value at c.metas_of-metas.ensures) c.in-Ok.ensures.blank of);
          };
    }
