use Rattle.std.proofs.Common.{◌≡◌, map, take}
use Rattle.arrayvec.specs.ArrayVec.{array_vec_len}
use Rattle.mu_codec.specs.View.{packet_of}
use Rattle.mu_model_client.specs.Packets.{request_packet}
use Rattle.mu_rounds.specs.Sents.{sents_of}
use Rattle.mu_client_messages.proofs.sending.send_all.Given as goal

abbrev pub invariant-loop-sent : goal.invariant-loop-sent
invariant-loop-sent l = record {
  count : array_vec_len l.out ≡ l.sent-index;
  sent : map packet_of l.out.items ≡ map (request_packet l.sending.from) (sents_of l.sending l.purpose (take l.sent-index l.sents));
}
