-- What the words of a command line ask for (this profile).
use Rattle.std.specs.Prelude.{ℕ, List, [], ◌∷◌, ◌++◌, codes, bytes_eq, Option, Some, None, if◌then◌else◌}
use Rattle.std.specs.Option.{option_map, option_and_then}
use Rattle.mu_model_script.specs.Tokens.{number_of, after_prefix}
use Rattle.mu_top.specs.declared.words.Command.{Command as HeldCommand}
use Rattle.mu_top.specs.declared.words.Command.TheVariants.{Replay as HeldReplay, Check as HeldCheck, Show as HeldShow, Image as HeldImage}

pub data Command : Type 0 where
  -- the script that the source gives is run
  Replay : Command
  -- the canonical octets of the payloads that the source gives are printed
  Check : Command
  -- the messages of the payloads that the source gives are shown
  Show : Command
  -- what the image is that the source gives, of this version
  Image : (version : ℕ) → Command

abbrev pub command : HeldCommand → Command
command HeldReplay = Replay
command HeldCheck = Check
command HeldShow = Show
command (HeldImage version) = Image version

abbrev pub command_named : List ℕ → Option Command
command_named word =
    if bytes_eq word (codes "replay") then Some Replay
    else if bytes_eq word (codes "check") then Some Check
    else if bytes_eq word (codes "show") then Some Show
    else None

-- a command without keys
abbrev pub without_keys : Option Command → List (List ℕ) → Option Command
without_keys found [] = found
without_keys found (key ∷ keys) = None

-- the value of the one key of a command, behind its name and `=`
abbrev pub value_of_key : List ℕ → List (List ℕ) → Option (List ℕ)
value_of_key name (word ∷ []) = after_prefix (name ++ 61 ∷ []) word
value_of_key name _ = None

-- version=V, V 0..4294967295
abbrev pub image_command : List (List ℕ) → Option Command
image_command keys = option_map Image (option_and_then (number_of 0 4294967295) (value_of_key (codes "version") keys))

-- the first word is the command, the others are its keys
abbrev pub command_by : List (List ℕ) → Option Command
command_by [] = None
command_by (word ∷ keys) = if bytes_eq word (codes "image") then image_command keys else without_keys (command_named word) keys

abbrev pub command_of : Option (List (List ℕ)) → Option Command
command_of None = None
command_of (Some words) = command_by words
