-- A plain message tells all of the message in memory but where its lent octets lie.
use Rattle.std.specs.Prelude.{◌≡◌, map}
use Rattle.mu_codec.specs.Lent.{unplaced}
use Rattle.mu_updmsg.specs.View.{view}
use Rattle.mu_updmsg.specs.declared.message.Entry.{Entry}
use Rattle.mu_updmsg.specs.declared.message.UpdMsg.{UpdMsg}
use Rattle.mu_updmsg.specs.declared.message.UpdMsg.TheVariants.{InformationGet, InformationStatus, MetadataCheck, MetadataStatus, UpdateGet, UpdateStart, UpdateCancel, UpdateApply, UpdateStatus}

abbrev pub entry_content : Entry → Entry
entry_content e = record { id = unplaced e.id; uri = unplaced e.uri }

-- the message, whatever the place of its lent octets is
abbrev pub content : UpdMsg → UpdMsg
content (InformationStatus c f es) = InformationStatus c f (record { items = map entry_content es.items })
content (MetadataCheck i m) = MetadataCheck i (unplaced m)
content (UpdateStart t b i x m) = UpdateStart t b i x (unplaced m)
content (InformationGet f l) = InformationGet f l
content (MetadataStatus s a i) = MetadataStatus s a i
content UpdateGet = UpdateGet
content UpdateCancel = UpdateCancel
content UpdateApply = UpdateApply
content (UpdateStatus s p t a b i x) = UpdateStatus s p t a b i x

abbrev pub ViewTellsAll : Type 0
ViewTellsAll = (m n : UpdMsg) → view m ≡ view n → content m ≡ content n
