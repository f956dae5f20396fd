-- Which rows may be coded, read and written (RULES 4.2 and 5.2).
use Rattle.std.specs.Prelude.{ℕ, Bool, ◌&&◌, leb}

-- widths 8 to 32,767
unfoldable pub is_coded : ℕ → Bool
is_coded w = leb 8 w && leb w 32767
