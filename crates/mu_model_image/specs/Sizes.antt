-- How large pages and images are (this profile).
use Rattle.std.specs.Prelude.{ℕ}

-- octets of a page of flash
abbrev pub page_octets : ℕ
page_octets = 4096

-- octets of an image: 256 pages
abbrev pub most_image : ℕ
most_image = 1048576
