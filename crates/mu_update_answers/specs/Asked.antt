-- What is asked of a node's update server.
use Rattle.mu_model_node.specs.NodeMessages.{Request, OfUpdate}
use Rattle.mu_update_rows.specs.declared.messages.UpdateRequest.{UpdateRequest}
use Rattle.mu_update_rows.specs.Messages.{update_request_of}

-- a request in memory, as a node is asked it
abbrev pub asked : UpdateRequest → Request
asked request = OfUpdate (update_request_of request)
