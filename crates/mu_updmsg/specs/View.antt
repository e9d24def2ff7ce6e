-- A message in memory as a plain message: what its fields show, without where lent octets lie.
use Rattle.std.specs.Prelude.{List, [], ◌∷◌, ◌++◌, map}
use Rattle.mu_model_wire.specs.Fields.{Shown, number, octets, perhaps, Message}
use Rattle.mu_model_wire.specs.Names.{id, uri, first, limit, count, index, metadata, status, additional, phase, ttl, base}
use Rattle.mu_updmsg.specs.declared.message.Entry.{Entry}
use Rattle.mu_updmsg.specs.declared.message.UpdMsg.{UpdMsg}
use Rattle.mu_updmsg.specs.declared.message.UpdMsg.TheVariants.{InformationGet, InformationStatus, MetadataCheck, MetadataStatus, UpdateGet, UpdateStart, UpdateCancel, UpdateApply, UpdateStatus}

abbrev pub entry_shown : Entry → List Shown
entry_shown e = octets id e.id.now ∷ octets uri e.uri.now ∷ []

abbrev pub view : UpdMsg → Message
view (InformationGet f l) = record { opcode = 0x8308; fields = number first f ∷ number limit l ∷ []; entries = [] }
view (InformationStatus c f es) = record { opcode = 0x8309; fields = number count c ∷ number first f ∷ []; entries = map entry_shown es.items }
view (MetadataCheck i m) = record { opcode = 0x830A; fields = number index i ∷ octets metadata m.now ∷ []; entries = [] }
view (MetadataStatus s a i) = record { opcode = 0x830B; fields = number status s ∷ number additional a ∷ number index i ∷ []; entries = [] }
view UpdateGet = record { opcode = 0x830C; fields = []; entries = [] }
view (UpdateStart t b i x m) = record {
  opcode = 0x830D;
  fields = number ttl t ∷ number base b ∷ number id i ∷ number index x ∷ octets metadata m.now ∷ [];
  entries = [];
}
view UpdateCancel = record { opcode = 0x830E; fields = []; entries = [] }
view UpdateApply = record { opcode = 0x830F; fields = []; entries = [] }
view (UpdateStatus s p t a b i x) = record {
  opcode = 0x8310;
  fields = number status s ∷ number phase p ∷ perhaps (number ttl) t ++ perhaps (number additional) a ++ perhaps (number base) b ++ perhaps (number id) i ++ perhaps (number index) x;
  entries = [];
}
