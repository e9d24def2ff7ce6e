-- The messages of a list that are still to go.
use Rattle.std.specs.Prelude.{List, Option, Some}
use Rattle.std.specs.List.{flat_map}
use Rattle.mu_model_node.specs.BlobMessages.{BlockGet}
use Rattle.mu_model_node.specs.NodeMessages.{Request, OfBlob}
use Rattle.mu_model_client.specs.declared.Sending.{Sending}
use Rattle.mu_model_client.specs.Client.{Purpose, Step, Pull, Receiver, Item}
use Rattle.mu_model_client.specs.Lists.{step_message, said_if}
use Rattle.mu_receivers.specs.Receivers.{receiver_of}
use Rattle.mu_receivers.specs.declared.slot.Slot.{Slot}

-- the message that a step's list has for a receiver; in pull that of its later rounds
abbrev pub list_message : Sending → Purpose → Step → Receiver → Option Request
list_message p purpose (Pull b) r = Some (OfBlob BlockGet)
list_message p purpose step r = step_message p purpose step r

abbrev pub listed : Sending → Purpose → Step → Slot → List Item
listed p purpose step s = said_if (receiver_of s) (list_message p purpose step (receiver_of s)) s.listed

abbrev pub messages_left : Sending → Purpose → Step → List Slot → List Item
messages_left p purpose step slots = flat_map (listed p purpose step) slots
