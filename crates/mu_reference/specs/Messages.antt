-- Messages in memory as the model's messages.
use Rattle.mu_blob_answers.specs.Messages.{blob_request_of}
use Rattle.mu_update_rows.specs.Messages.{update_request_of}
use Rattle.mu_model_node.specs.NodeMessages.{Request, OfUpdate, OfBlob}
use Rattle.mu_reference.specs.declared.messages.Request.{Request as RequestHere}
use Rattle.mu_reference.specs.declared.messages.Request.TheVariants.{Update, Blob}

abbrev pub request_of : RequestHere → Request
request_of (Update request) = OfUpdate (update_request_of request)
request_of (Blob request) = OfBlob (blob_request_of request)
