-- What `format` makes of a flash, what it refuses, and what it writes (this profile).
use Rattle.std.specs.Prelude.{◌≡◌, ℕ, ◌+◌, ◌*◌, ◌==◌, List, [], ◌∷◌, ◌++◌, codes, Option, Some, None, if◌then◌else◌}
use Rattle.std.specs.Fmt.{decimal}
use Rattle.mu_model_flash.specs.Flash.{Seen}
use Rattle.mu_model_node.specs.FlashWork.{page_octets}
use Rattle.mu_model_script.specs.Texts.{text_line}
use Rattle.mu_input.specs.Reading.{WhereTold}
use Rattle.mu_command_line.specs.Refusals.{refused_at, refusal_within}
use Rattle.mu_command_line.specs.declared.status.Status.{Status}
use Rattle.mu_command_line.specs.declared.status.Status.TheVariants.{Done, SourceFault, SinkFault, FlashFault, Refused}
use Rattle.mu_updsrv.specs.Made.{tag_of_one, MakesNode}
use Rattle.mu_dist.specs.Made.{MakesDistributor}
use Rattle.mu_format.specs.declared.making.Format.{Format}
use Rattle.mu_format.specs.declared.making.Kind.{Kind}
use Rattle.mu_format.specs.declared.making.Kind.TheVariants.{Node, Distributor}
use Rattle.mu_format.specs.declared.making.Made.{Made}
use Rattle.mu_format.specs.declared.making.Made.TheVariants.{Whole, Pages, Short, Long, Source, Flash}

-- ---- what is asked for

abbrev pub banks_of : Kind → ℕ
banks_of Node = 2
banks_of Distributor = 4

-- the pages of the flash: two control pages, and for each bank a page of marks and its own
abbrev pub pages_of : Format → ℕ
pages_of what = 2 + banks_of what.kind * (1 + what.pages)

-- octets of a bank
abbrev pub capacity_of : Format → ℕ
capacity_of what = page_octets * what.pages

-- ---- what is refused

-- an image that is empty, or larger than a bank; a distributor has none
abbrev pub input_refusal : Kind → ℕ → List ℕ → Option (List ℕ)
input_refusal Node capacity octets = refusal_within capacity octets
input_refusal Distributor capacity octets = None

-- another number of pages, before any octet is read
abbrev pub refusal_of : Format → ℕ → List ℕ → Option (List ℕ)
refusal_of what pages octets = if pages == pages_of what then input_refusal what.kind (capacity_of what) octets else Some (refused_at 0 (codes "value"))

-- ---- what is written

-- formatted N: the number of the flash's pages
abbrev pub formatted_text : ℕ → List ℕ
formatted_text pages = text_line (codes "formatted" ∷ decimal pages ∷ [])

abbrev pub text_by : ℕ → Option (List ℕ) → List ℕ
text_by pages None = formatted_text pages
text_by pages (Some refusal) = refusal

-- a node's image is read to its end, and for a distributor nothing is read
abbrev pub IsRead : Kind → (held left : List ℕ) → Type 0
IsRead Node held left = left ≡ []
IsRead Distributor held left = left ≡ held

-- From the octets that the source held, `left` are left, these were written, and this was the status.
abbrev pub FormatEnds : Format → (pages : ℕ) (held left written : List ℕ) → Status → Type 0
FormatEnds what pages held left written Done = IsRead what.kind held left × (refusal_of what pages held ≡ None) × (written ≡ formatted_text pages)
FormatEnds what pages held left written Refused = refusal_of what pages held ≡ Some written
FormatEnds what pages held left written SourceFault = written ≡ []
FormatEnds what pages held left written FlashFault = written ≡ []
FormatEnds what pages held left written SinkFault = (rest : List ℕ) × (written ++ rest ≡ text_by pages (refusal_of what pages held))
-- no other status comes
FormatEnds what pages held left written _ = ⊥

-- the same of what a source and a sink tell before and after
abbrev pub FormatTold : Format → (pages : ℕ) (source source' sink sink' : Option (List ℕ)) → Status → Type 0
FormatTold what pages source source' sink sink' status =
    WhereTold source source' (λ held left. WhereTold sink sink' (λ before after. (written : List ℕ) × (after ≡ before ++ written) × FormatEnds what pages held left written status))

-- whatever is told
abbrev pub CanEnd : Status → Type 0
CanEnd Done = Unit {0}
CanEnd Refused = Unit {0}
CanEnd SourceFault = Unit {0}
CanEnd FlashFault = Unit {0}
CanEnd SinkFault = Unit {0}
CanEnd _ = ⊥

-- where nothing fails
abbrev pub EndsBy : Option (List ℕ) → Status → Type 0
EndsBy None status = status ≡ Done
EndsBy (Some refusal) status = status ≡ Refused

-- ---- what stands on the flash

-- a node of one image, all that the source had, or a distributor without images
abbrev pub MakesKind : Kind → (pages version : ℕ) (before after : Option (List ℕ)) (old new : Seen) → Type 0
MakesKind Node pages version before after old new = MakesNode tag_of_one pages version before after old new
MakesKind Distributor pages version before after old new = MakesDistributor pages old new

abbrev pub Makes : Format → (before after : Option (List ℕ)) (old new : Seen) → Type 0
Makes what before after old new = MakesKind what.kind what.pages what.version before after old new

-- ---- what came of it

abbrev pub CameOf : Kind → Option (List ℕ) → (held left : List ℕ) → Made → Type 0
CameOf kind refusal held left Whole = IsRead kind held left × (refusal ≡ None)
CameOf kind refusal held left Pages = refusal ≡ Some (refused_at 0 (codes "value"))
CameOf kind refusal held left (Short place) = refusal ≡ Some (refused_at place (codes "short"))
CameOf kind refusal held left (Long place) = refusal ≡ Some (refused_at place (codes "long"))
CameOf kind refusal held left Source = Unit {0}
CameOf kind refusal held left Flash = Unit {0}

abbrev pub printed_of : ℕ → Made → List ℕ
printed_of pages Whole = formatted_text pages
printed_of pages Pages = refused_at 0 (codes "value")
printed_of pages (Short place) = refused_at place (codes "short")
printed_of pages (Long place) = refused_at place (codes "long")
printed_of pages Source = []
printed_of pages Flash = []

abbrev pub status_of : Made → Status
status_of Whole = Done
status_of Source = SourceFault
status_of Flash = FlashFault
status_of _ = Refused
