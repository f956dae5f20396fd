-- One row as it is written, RULES 5.2 and 5.5, and the worst row, RULES 7.3. A pixel is four bytes of px.
use Rattle.std.specs.Prelude.{ℕ, ◌+◌, ◌*◌, ◌/◌, ◌%◌, List, [], ◌∷◌, ◌++◌}
use Rattle.steps.specs.Loop.{pick}
use Rattle.steps.specs.Place.{bytes_from}
use Rattle.steps.specs.Width.{is_coded}
use Rattle.channels_written.specs.Channel.{code, channel}

-- the mark 2, 2, w/256, w mod 256
abbrev pub mark : ℕ → List ℕ
mark w = 2 ∷ 2 ∷ (w / 256) ∷ (w % 256) ∷ []

-- the mark, and four channels
unfoldable pub coded_row : List ℕ → ℕ → ℕ → List ℕ
coded_row px at w =
    mark w
    ++ (code (channel px at w) ++ (code (channel px (at + 1) w) ++ (code (channel px (at + 2) w) ++ code (channel px (at + 3) w))))

-- a row of w pixels, the first at place at; at other widths it is written flat
unfoldable pub written_row : List ℕ → ℕ → ℕ → List ℕ
written_row px at w = pick (is_coded w) (coded_row px at w) (bytes_from px at (4 * w))

-- n bytes and a count for each 128 of them: the most that a channel of n bytes takes
abbrev pub worst_channel : ℕ → ℕ
worst_channel n = n + (n + 127) / 128

-- the most that a row of w pixels takes
unfoldable pub worst_row : ℕ → ℕ
worst_row w = pick (is_coded w) (4 + 4 * worst_channel w) (4 * w)
