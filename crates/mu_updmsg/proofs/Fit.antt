use Rattle.std.proofs.Common.{List, Result, Ok, Err, refl}
use Rattle.std.specs.Prelude.{ℕ, IfOk}
use Rattle.mu_model_wire.specs.declared.Refusal.{Refusal}
use Rattle.mu_model_wire.specs.Reading.{Gives, message_at}
use Rattle.mu_model_wire.specs.Spelling.{Fits}
use Rattle.mu_model_wire.specs.Laws.{AreOctets, ReadsWhatIsSpelled}
use Rattle.mu_model_wire.specs.Update.{update_rows}
use Rattle.mu_updmsg.specs.declared.message.UpdMsg.{UpdMsg}
use Rattle.mu_updmsg.specs.View.{view}

-- what is read is in its ranges
pub is_fit : ReadsWhatIsSpelled → (bytes : List ℕ) (r : Result UpdMsg Refusal) → AreOctets bytes → Gives view r (message_at update_rows bytes) → IfOk r (λ m. Fits update_rows (view m))
is_fit law bytes (Ok m) octets given = ((law update_rows bytes (view m) refl octets).0 given).0
is_fit law bytes (Err e) octets given = tt
