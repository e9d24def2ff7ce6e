-- What `image` promises: the size, the version and the digest of the image that the source gives, its metadata and its Firmware ID (this profile).
use Rattle.std.specs.Prelude.{◌≡◌, ℕ, List, [], ◌∷◌, ◌++◌, codes, Option, Some, None}
use Rattle.std.specs.Fmt.{decimal}
use Rattle.hex.specs.Hex.{encode_lower}
use Rattle.mu_model_image.specs.Sizes.{most_image}
use Rattle.mu_model_image.specs.Meta.{meta_octets, firmware_id, own_company, image_of}
use Rattle.mu_model_image.specs.declared.Meta.{Meta}
use Rattle.mu_model_script.specs.Texts.{text_line, refused_text}
use Rattle.mu_command_line.specs.Refusals.{refusal_within}
use Rattle.mu_top.specs.Ends.{ByNumber}
use Rattle.mu_input.specs.Reading.{WhereTold}
use Rattle.mu_top.specs.declared.image.ImageRead.{ImageRead}
use Rattle.mu_top.specs.declared.image.ImageRead.TheVariants.{Whole, Empty, TooLarge}
use Rattle.mu_command_line.specs.declared.status.Status.{Status}
use Rattle.mu_command_line.specs.declared.status.Status.TheVariants.{Done, SourceFault, SinkFault, Refused}

-- size S version V digest D, metadata HEX and id HEX, on three lines
abbrev pub parts_text : (size version digest metadata id : List ℕ) → List ℕ
parts_text size version digest metadata id =
    text_line (codes "size" ∷ size ∷ codes "version" ∷ version ∷ codes "digest" ∷ digest ∷ [])
    ++ (text_line (codes "metadata" ∷ metadata ∷ []) ++ text_line (codes "id" ∷ id ∷ []))

abbrev pub meta_text : Meta → List ℕ
meta_text meta =
    parts_text (decimal meta.size) (decimal meta.version) (encode_lower meta.digest) (encode_lower (meta_octets meta)) (encode_lower (firmware_id own_company meta))

-- the refusal of an image, which has no lines
abbrev pub image_refusal : List ℕ → Option (List ℕ)
image_refusal octets = refusal_within most_image octets

abbrev pub text_or : Option (List ℕ) → List ℕ → List ℕ
text_or (Some refusal) text = refusal
text_or None text = text

-- all that is printed of an image of a version
abbrev pub image_printed : ℕ → List ℕ → List ℕ
image_printed version octets = text_or (image_refusal octets) (meta_text (image_of version octets).meta)

-- the status is Refused where there is a refusal
abbrev pub IsStatusOf : Option (List ℕ) → Status → Type 0
IsStatusOf (Some refusal) status = status ≡ Refused
IsStatusOf None status = status ≡ Done

-- from the octets that the source held, `left` are left, these were written, and this was the status
abbrev pub ImageEnds : (version : ℕ) (held left written : List ℕ) → Status → Type 0
ImageEnds version held left written Done = (left ≡ []) × (image_refusal held ≡ None) × (written ≡ meta_text (image_of version held).meta)
ImageEnds version held left written Refused = image_refusal held ≡ Some written
ImageEnds version held left written SourceFault = written ≡ []
ImageEnds version held left written SinkFault = (rest : List ℕ) × (written ++ rest ≡ image_printed version held)
ImageEnds version held left written _ = ⊥

-- the same of what a source and a sink tell before and after
abbrev pub ImageTold : (version : ℕ) (source source' sink sink' : Option (List ℕ)) → Status → Type 0
ImageTold version source source' sink sink' status =
    WhereTold source source' (λ held left. WhereTold sink sink' (λ before after. (written : List ℕ) × (after ≡ before ++ written) × ImageEnds version held left written status))

abbrev pub PrintsImage : (version : ℕ) (source source' sink sink' : Option (List ℕ)) (number : ℕ) → Type 0
PrintsImage version source source' sink sink' number = ByNumber (ImageTold version source source' sink sink') number

-- where neither the source nor the sink fails
abbrev pub ImageCompletes : (source source' : Option (List ℕ)) (number : ℕ) → Type 0
ImageCompletes source source' number = ByNumber (λ status. WhereTold source source' (λ held left. IsStatusOf (image_refusal held) status)) number

-- ---- reading an image

-- what was read is what the source held
abbrev pub ReadAs : (version : ℕ) (held left : List ℕ) → ImageRead → Type 0
ReadAs version held left (Whole meta) = (left ≡ []) × (image_refusal held ≡ None) × (meta ≡ (image_of version held).meta)
ReadAs version held left Empty = image_refusal held ≡ Some (refused_text 0 0 (codes "short"))
ReadAs version held left TooLarge = image_refusal held ≡ Some (refused_text 0 most_image (codes "long"))

-- what is printed of it
abbrev pub read_printed : ImageRead → List ℕ
read_printed (Whole meta) = meta_text meta
read_printed Empty = refused_text 0 0 (codes "short")
read_printed TooLarge = refused_text 0 most_image (codes "long")

abbrev pub read_status : ImageRead → Status
read_status (Whole meta) = Done
read_status _ = Refused
