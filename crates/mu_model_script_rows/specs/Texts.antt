-- Lines that say nothing and lines that are too long; the lines of a script; and the texts that are printed.
use Rattle.std.specs.Prelude.{ℕ, ◌≡◌, ◌+◌, ◌/◌, ◌%◌, ◌++◌, true, false, List, [], ◌∷◌, codes, drop, replicate, slice_index, Some, None, Ok, Err}
use Rattle.std.specs.List.{flat_map, range_with_len}
use Rattle.mu_model_script.specs.declared.LineWhy.TheVariants.{Token, Long}
use Rattle.mu_model_script.specs.declared.BadWhy.TheVariants.{Token as BadToken, Member, Packet, Premise}
use Rattle.mu_model_script.specs.Event.{Stock, Say, Updater}
use Rattle.mu_model_script.specs.Limits.{most_octets, most_lines, most_turns, most_in_line, lines_in, first_lines, ended_lines}
use Rattle.mu_model_script.specs.Lines.{script_event}
use Rattle.mu_model_script.specs.Pieces.{lines_of}
use Rattle.mu_model_script.specs.Tokens.{Hex}
use Rattle.mu_model_script.specs.Texts.{sent_text, unread_text, active_text, boot_text, phase_text, ended_text, row_text, refused_text, line_word, bad_word}
use Rattle.mu_model_script_rows.specs.Scenes.{AreRead}
use Rattle.mu_model_script_rows.specs.Lines.{read_lines, refused_lines}

-- a line with so many receivers, from 0100 on
abbrev pub digit : ℕ → ℕ
digit n = slice_index (codes "0123456789abcdef") n

abbrev pub receiver_text : ℕ → List ℕ
receiver_text n = 44 ∷ 0x30 ∷ digit (1 + n / 256) ∷ digit (n / 16 % 16) ∷ digit (n % 16) ∷ []

abbrev pub updater_line : ℕ → List ℕ
updater_line number = codes "updater 0001 0000 7 5 0 push 12 200 2 hex:61 " ++ drop 1 (flat_map receiver_text (range_with_len 0 number))

pub record EachLine : Type 0 where
  pub read : AreRead read_lines
  pub refused : AreRead refused_lines
  -- an empty line, and a comment of at most 4,096 octets
  pub nothing : script_event [] ≡ Ok None
  pub comment : script_event (codes "# a comment  with blanks ") ≡ Ok None
  pub sign : script_event (codes "#") ≡ Ok None
  pub longest_comment : script_event (35 ∷ replicate 4095 32) ≡ Ok None
  pub long_comment : script_event (35 ∷ replicate 4096 32) ≡ Err (record { at = 4096; why = Long })
  pub long_line : script_event (replicate 4097 0x78) ≡ Err (record { at = 4096; why = Long })
  pub longest_line : script_event (replicate 4096 0x78) ≡ Err (record { at = 0; why = Token })
  -- a CR before LF belongs to the last token
  pub carriage_return : script_event (codes "cut 0002" ++ 13 ∷ []) ≡ Err (record { at = 4; why = Token })
  -- 1,024 octets of an image, and 380 of a payload
  pub long_image : script_event (codes "stock 0001 1 hex:" ++ replicate 2050 0x61) ≡ Err (record { at = 13; why = Token })
  pub long_payload : script_event (codes "say 0001 0002 " ++ replicate 762 0x61) ≡ Err (record { at = 14; why = Token })
  pub longest_image : script_event (codes "stock 0001 1 hex:" ++ replicate 2048 0x61) ≡ Ok (Some (Stock 1 1 (Hex (replicate 1024 0xaa))))
  pub longest_payload : script_event (codes "say 0001 0002 " ++ replicate 760 0x61) ≡ Ok (Some (Say 1 2 (replicate 380 0xaa)))
  -- 128 receivers, and one more
  pub most_receivers : script_event (updater_line 128) ≡ Ok (Some (Updater 1 0 7 5 0 1 12 200 2 (Hex (0x61 ∷ [])) (range_with_len 0x0100 128)))
  pub receiver_129 : script_event (updater_line 129) ≡ Err (record { at = 45; why = Token })

pub record EachText : Type 0 where
  -- the last line may lack its LF
  pub lines : lines_of (codes "a" ++ 10 ∷ 10 ∷ codes "b c") ≡ codes "a" ∷ [] ∷ codes "b c" ∷ []
  pub last_ended : lines_of (codes "a" ++ 10 ∷ []) ≡ codes "a" ∷ []
  pub none : lines_of [] ≡ []
  pub one_empty : lines_of (10 ∷ []) ≡ [] ∷ []
  -- lines that are wholly within so many octets: all of the input, a last one whose LF is the last octet, and none that is cut there
  pub all_within : lines_in 4 (codes "a" ++ 10 ∷ codes "bc") ≡ codes "a" ∷ codes "bc" ∷ []
  pub last_within : lines_in 2 (codes "a" ++ 10 ∷ codes "bc") ≡ codes "a" ∷ []
  pub cut_there : lines_in 3 (codes "a" ++ 10 ∷ codes "bc") ≡ codes "a" ∷ []
  -- but one that shows there that it is too long
  pub shown_long : lines_in 4097 (replicate 5000 0x61) ≡ replicate 4097 0x61 ∷ []
  pub not_shown : lines_in 4096 (replicate 5000 0x61) ≡ []
  pub two_lines : first_lines 2 (codes "a" ++ 10 ∷ 10 ∷ codes "b") ≡ codes "a" ∷ [] ∷ []
  pub ended_by_feed : ended_lines (codes "a" ++ 10 ∷ codes "b") ≡ codes "a" ∷ []
  pub sent : sent_text 10 0x1 0xc00a (0x83 ∷ 8 ∷ 0xff ∷ []) ≡ codes "sent 10 0001 c00a 8308ff" ++ 10 ∷ []
  pub unread : unread_text 0 0x7fff ≡ codes "unread 0 7fff" ++ 10 ∷ []
  pub active : active_text 0x2 4294967295 1048576 (0xca ∷ 0x09 ∷ []) ≡ codes "active 0002 4294967295 1048576 ca09" ++ 10 ∷ []
  pub boot : boot_text 0x2 4294967295 256 ≡ codes "boot 0002 4294967295 256" ++ 10 ∷ []
  pub phase : phase_text 0xabc 6 4 ≡ codes "phase 0abc 6 4" ++ 10 ∷ []
  pub ended : ended_text 0x1 true ≡ codes "phase 0001 1" ++ 10 ∷ []
  pub not_ended : ended_text 0x1 false ≡ codes "phase 0001 0" ++ 10 ∷ []
  pub row : row_text 0x2 10 7 9 100 ≡ codes "row 0002 10 7 9 100" ++ 10 ∷ []
  pub refused : refused_text 7 14 (codes "premise") ≡ codes "refused 7 14 premise" ++ 10 ∷ []
  pub token : line_word Token ≡ codes "token"
  pub long : line_word Long ≡ codes "long"
  pub past_bank : bad_word BadToken ≡ codes "token"
  pub member : bad_word Member ≡ codes "member"
  pub packet : bad_word Packet ≡ codes "packet"
  pub premise : bad_word Premise ≡ codes "premise"
  -- limits
  pub octets : most_octets ≡ 16777216
  pub all_lines : most_lines ≡ 100000
  pub turns : most_turns ≡ 5000
  pub in_line : most_in_line ≡ 4096
