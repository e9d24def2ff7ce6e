-- A BLOB client as the model's client.
use Rattle.mu_model_client.specs.Client.{Client}
use Rattle.mu_client_messages.specs.Messages.{IsWhole}
use Rattle.mu_rounds.specs.Rounds.{client_of}
use Rattle.mu_blobcli.specs.declared.client.BlobClient.TheInside.{Inside}

abbrev pub blob_client_of : Inside → Client
blob_client_of c = client_of c.rounds

abbrev pub IsWholeClient : Inside → Type 0
IsWholeClient c = IsWhole c.rounds
