-- A plain message tells all of the message in memory but where its lent octets lie.
use Rattle.std.specs.Prelude.{◌≡◌}
use Rattle.mu_blobmsg.specs.Laws.{content as blob_content}
use Rattle.mu_updmsg.specs.Laws.{content as update_content}
use Rattle.mu_distmsg.specs.Laws.{content as distribution_content}
use Rattle.mu_access.specs.View.{view, IsEven}
use Rattle.mu_access.specs.declared.message.Message.{Message}
use Rattle.mu_access.specs.declared.message.Message.TheVariants.{Blob, Upd, Dist}

-- the message, whatever the place of its lent octets is
abbrev pub content : Message → Message
content (Blob m) = Blob (blob_content m)
content (Upd m) = Upd (update_content m)
content (Dist m) = Dist (distribution_content m)

abbrev pub ViewTellsAll : Type 0
ViewTellsAll = (m n : Message) → IsEven m → IsEven n → view m ≡ view n → content m ≡ content n
