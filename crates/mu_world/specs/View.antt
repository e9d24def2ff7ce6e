-- What the values of a world in memory say.
use Rattle.std.specs.Prelude.{List, [], ◌∷◌, Option, Some, None}
use Rattle.mu_model_image.specs.Meta.{Image, image_of}
use Rattle.mu_model_world.specs.World.{Tear, Logged}
use Rattle.mu_model_world.specs.Outcomes.{content_octets}
use Rattle.mu_reference_node.specs.Logging.{what_of}
use Rattle.mu_script.specs.View.{content}
use Rattle.mu_world.specs.declared.content.First.{First}
use Rattle.mu_world.specs.declared.log.LogEntry.{LogEntry}
use Rattle.mu_world.specs.declared.member.Tear.{Tear as HeldTear}

abbrev pub tear_of : HeldTear → Tear
tear_of tear = record { operation = tear.operation; pattern = tear.pattern }

abbrev pub first_image : First → Image
first_image first = image_of first.version (content_octets (content first.content))

-- the images that a node was made with
abbrev pub first_images : First → Option First → List Image
first_images first None = first_image first ∷ []
first_images first (Some second) = first_image first ∷ first_image second ∷ []

abbrev pub entry_of : LogEntry → Logged
entry_of entry = record { node = entry.node; what = what_of entry.what }
