-- An update client as the model's client, and its rows.
use Rattle.mu_distmsg.specs.declared.message.ReceiverRow.{ReceiverRow}
use Rattle.mu_model_client.specs.Client.{Client}
use Rattle.mu_model_client.specs.Rows.{Row}
use Rattle.mu_client_messages.specs.Messages.{IsWhole}
use Rattle.mu_rounds.specs.Rounds.{client_of}
use Rattle.mu_updcli.specs.declared.client.UpdateClient.TheInside.{Inside}

abbrev pub update_client_of : Inside → Client
update_client_of c = client_of c.rounds

abbrev pub IsWholeClient : Inside → Type 0
IsWholeClient c = IsWhole c.rounds

abbrev pub row_shown : ReceiverRow → Row
row_shown row = record {
  address = row.address;
  index = row.image_index;
  phase = row.phase;
  update_status = row.update_status;
  transfer_status = row.transfer_status;
  progress = row.progress;
}
