-- Messages in memory as the model's messages.
use Rattle.std.specs.Prelude.{map}
use Rattle.mu_model_node.specs.UpdateMessages.{UpdateStart, UpdateRequest, InformationGet, MetadataCheck, UpdateGet, StartUpdate, UpdateCancel, UpdateApply, ShownJob, UpdateReply, InformationStatus, MetadataStatus, UpdateStatus}
use Rattle.mu_update_rows.specs.Looks.{there}
use Rattle.mu_update_rows.specs.declared.messages.UpdateStart.{UpdateStart as UpdateStartHere}
use Rattle.mu_update_rows.specs.declared.messages.UpdateRequest.{UpdateRequest as UpdateRequestHere}
use Rattle.mu_update_rows.specs.declared.messages.UpdateRequest.TheVariants.{InformationGet as InformationGetHere, MetadataCheck as MetadataCheckHere, UpdateGet as UpdateGetHere, StartUpdate as StartUpdateHere, UpdateCancel as UpdateCancelHere, UpdateApply as UpdateApplyHere}
use Rattle.mu_update_rows.specs.declared.messages.ShownJob.{ShownJob as ShownJobHere}
use Rattle.mu_update_rows.specs.declared.messages.UpdateReply.{UpdateReply as UpdateReplyHere}
use Rattle.mu_update_rows.specs.declared.messages.UpdateReply.TheVariants.{InformationStatus as InformationStatusHere, MetadataStatus as MetadataStatusHere, UpdateStatus as UpdateStatusHere}

abbrev pub update_start_of : UpdateStartHere → UpdateStart
update_start_of u = record { ttl = u.ttl; base = u.base; id = u.id; index = u.index; metadata = u.metadata.now }

abbrev pub update_request_of : UpdateRequestHere → UpdateRequest
update_request_of (InformationGetHere first limit) = InformationGet first limit
update_request_of (MetadataCheckHere index metadata) = MetadataCheck index metadata.now
update_request_of UpdateGetHere = UpdateGet
update_request_of (StartUpdateHere u) = StartUpdate (update_start_of u)
update_request_of UpdateCancelHere = UpdateCancel
update_request_of UpdateApplyHere = UpdateApply

abbrev pub shown_job_of : ShownJobHere → ShownJob
shown_job_of j = record { ttl = j.ttl; base = j.base; id = j.id; index = j.index }

abbrev pub update_reply_of : UpdateReplyHere → UpdateReply
update_reply_of (InformationStatusHere count first ids) = InformationStatus count first (map (λ id. id.items) ids.items)
update_reply_of (MetadataStatusHere status index) = MetadataStatus status index
update_reply_of (UpdateStatusHere status phase job) = UpdateStatus status phase (there shown_job_of job)
