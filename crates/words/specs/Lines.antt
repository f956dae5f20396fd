-- RULES 3.1 and 3.2: the first line, and the further lines, which are passed over.
use Rattle.std.specs.Prelude.{ℕ, ◌+◌, ◌-◌, Bool, true, false, ◌&&◌, ◌||◌, List, [], ◌∷◌, length, get_or, take, drop, eqb, leb}
use Rattle.steps.specs.Loop.{pick, Turn, more, halt, run}

abbrev pub line_feed : ℕ
line_feed = 10

abbrev pub space : ℕ
space = 32

-- ---- Reading up to a byte, that byte taken too

-- how many bytes that takes: all there are where the byte is not among them
unfoldable pub up_to : ℕ → List ℕ → ℕ
up_to b [] = 0
up_to b (x ∷ xs) = pick (eqb x b) 1 (1 + up_to b xs)

-- the place after it, from a place of the bytes on
unfoldable pub past : ℕ → List ℕ → ℕ → ℕ
past b bytes at = at + up_to b (drop at bytes)

-- the bytes from one place to another
abbrev pub between : List ℕ → ℕ → ℕ → List ℕ
between bytes from to = take (to - from) (drop from bytes)

-- ---- The first line, ended by a line feed, must be exactly #?RADIANCE or #?RGBE

unfoldable pub same : List ℕ → List ℕ → Bool
same [] [] = true
same [] (y ∷ ys) = false
same (x ∷ xs) [] = false
same (x ∷ xs) (y ∷ ys) = eqb x y && same xs ys

abbrev pub radiance_line : List ℕ
radiance_line = 35 ∷ 63 ∷ 82 ∷ 65 ∷ 68 ∷ 73 ∷ 65 ∷ 78 ∷ 67 ∷ 69 ∷ line_feed ∷ []

abbrev pub rgbe_line : List ℕ
rgbe_line = 35 ∷ 63 ∷ 82 ∷ 71 ∷ 66 ∷ 69 ∷ line_feed ∷ []

abbrev pub first_line : List ℕ → List ℕ
first_line bytes = between bytes 0 (past line_feed bytes 0)

unfoldable pub is_first : List ℕ → Bool
is_first line = same line radiance_line || same line rgbe_line

-- ---- Further lines are passed over. The header ends at a line whose first byte is a line feed, or at the end of the bytes

-- a line that starts at a place: it ends the header, or the next one is looked at
unfoldable pub line_turn : List ℕ → ℕ → Turn ℕ ℕ
line_turn bytes at =
    pick (leb (length bytes) at) (halt at)
    (pick (eqb (get_or bytes at 0) line_feed) (halt (at + 1)) (more (past line_feed bytes at)))

abbrev pub no_lines : ℕ → ℕ
no_lines at = at

-- the place after the header's lines; each line takes a byte or more, so that as many turns as there are bytes are enough
unfoldable pub lines_end : List ℕ → ℕ → ℕ
lines_end bytes at = run (line_turn bytes) no_lines (length bytes + 1) at
