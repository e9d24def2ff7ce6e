-- What fields, lists and lines in memory show.
use Rattle.std.specs.Prelude.{◌≡◌, ℕ, List, [], map}
use Rattle.mu_model_wire.specs.Fields.{Shown, number, octets, Message}
use Rattle.mu_model_wire.specs.Names.{field_texts, message_texts, text_of}
use Rattle.mu_model_wire.specs.Names as names
use Rattle.mu_model_wire.specs.Reading.{fields_of}
use Rattle.mu_model_wire.specs.Table.{rows}
use Rattle.mu_model_wire.specs.Reports.{shown_numbers}
use Rattle.mu_updmsg.specs.View.{entry_shown}
use Rattle.mu_distmsg.specs.View.{pair_shown, row_shown}
use Rattle.mu_shown.specs.Lines.{named, entries_text, value_text, field_text, row_list_text}
use Rattle.mu_shown.specs.declared.names.Name.{Name}
use Rattle.mu_shown.specs.declared.names.Name.TheVariants.{Mode, Id, Size, Log, Mtu, Status, Phase, Blocks, Chunk, Octets, Missing, Address, Index, Format, Block, ChunkSize, Bits, Count, First, Limit, Uri, UpdateStatus, TransferStatus, Progress, Appkey, Ttl, Base, Policy, Image, Label, Group, MinLog, MaxLog, MaxChunks, MaxChunkSize, MaxSize, Push, Pull, Metadata, Additional, Receivers, Images, Space, Remaining, Oob, Schemes, Fwid, Kind}
use Rattle.mu_shown.specs.declared.fields.Field.{Field}
use Rattle.mu_shown.specs.declared.fields.Field.TheVariants.{Number, Octets as OctetsOf}
use Rattle.mu_shown.specs.declared.lists.List.{List as Entries}
use Rattle.mu_shown.specs.declared.lists.List.TheVariants.{Nothing, Numbers, Images as ImagesOf, Receivers as ReceiversOf, Rows}
use Rattle.mu_shown.specs.declared.lines.Line.{Line}

-- the grammar's number of each name
abbrev pub number_of : Name → ℕ
number_of Mode = names.mode
number_of Id = names.id
number_of Size = names.size
number_of Log = names.log
number_of Mtu = names.mtu
number_of Status = names.status
number_of Phase = names.phase
number_of Blocks = names.blocks
number_of Chunk = names.chunk
number_of Octets = names.octets
number_of Missing = names.missing
number_of Address = names.address
number_of Index = names.index
number_of Format = names.format
number_of Block = names.block
number_of ChunkSize = names.chunk_size
number_of Bits = names.bits
number_of Count = names.count
number_of First = names.first
number_of Limit = names.limit
number_of Uri = names.uri
number_of UpdateStatus = names.update_status
number_of TransferStatus = names.transfer_status
number_of Progress = names.progress
number_of Appkey = names.appkey
number_of Ttl = names.ttl
number_of Base = names.base
number_of Policy = names.policy
number_of Image = names.image
number_of Label = names.label
number_of Group = names.group
number_of MinLog = names.min_log
number_of MaxLog = names.max_log
number_of MaxChunks = names.max_chunks
number_of MaxChunkSize = names.max_chunk_size
number_of MaxSize = names.max_size
number_of Push = names.push
number_of Pull = names.pull
number_of Metadata = names.metadata
number_of Additional = names.additional
number_of Receivers = names.receivers
number_of Images = names.images
number_of Space = names.space
number_of Remaining = names.remaining
number_of Oob = names.oob
number_of Schemes = names.schemes
number_of Fwid = names.fwid
number_of Kind = names.kind

-- a field as the grammar shows it, its value and the whole of it in a line
abbrev pub seen : Field → Shown
seen (Number name n) = number (number_of name) n
seen (OctetsOf name os) = octets (number_of name) os.now

abbrev pub value_seen : Field → List ℕ
value_seen f = value_text (seen f)

abbrev pub field_seen : Field → List ℕ
field_seen f = field_text (seen f)

-- entries as the grammar shows them, and in a line
abbrev pub list_shown : Entries → List (List Shown)
list_shown Nothing = []
list_shown (Numbers ns) = shown_numbers names.missing ns.now
list_shown (ImagesOf es) = map entry_shown es.now
list_shown (ReceiversOf ps) = map pair_shown ps.now
list_shown (Rows rs) = map row_shown rs.now

abbrev pub list_seen : Entries → List ℕ
list_seen Nothing = []
list_seen (Numbers ns) = named (text_of field_texts names.missing) (entries_text (list_shown (Numbers ns)))
list_seen (ImagesOf es) = named (text_of field_texts names.entries) (entries_text (list_shown (ImagesOf es)))
list_seen (ReceiversOf ps) = named (text_of field_texts names.entries) (entries_text (list_shown (ReceiversOf ps)))
list_seen (Rows rs) = named (text_of field_texts names.entries) (entries_text (list_shown (Rows rs)))

-- the line in memory is that of the message
pub record Shows (line : Line) (m : Message) : Type 0 where
  pub name : line.name.now ≡ text_of message_texts m.opcode
  pub fields : map seen line.fields.items ≡ m.fields
  pub list : list_seen line.list ≡ row_list_text (fields_of rows m.opcode) m
