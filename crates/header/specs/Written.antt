-- The header as the writer stores it (RULES 3.8).
use Rattle.std.specs.Prelude.{ℕ, zero, suc, ◌+◌, ◌/◌, ◌%◌, true, false, List, [], ◌∷◌, ◌++◌, ltb}
use Rattle.steps.specs.declared.Reading.{Reading}
use Rattle.steps.specs.declared.Reading.TheVariants.{Crate, Document}
use Rattle.words.specs.Lines.{line_feed, space, radiance_line}
use Rattle.words.specs.Axes.{minus_y, plus_x}
use Rattle.stated.specs.declared.Said.{Said}
use Rattle.stated.specs.declared.Colour.TheVariants.{Rgbe}
use Rattle.stated.specs.Said.{nothing, coloured}

-- SOFTWARE=zune-hdr
abbrev pub software_line : List ℕ
software_line = 83 ∷ 79 ∷ 70 ∷ 84 ∷ 87 ∷ 65 ∷ 82 ∷ 69 ∷ 61 ∷ 122 ∷ 117 ∷ 110 ∷ 101 ∷ 45 ∷ 104 ∷ 100 ∷ 114 ∷ line_feed ∷ []

-- FORMAT=32-bit_rle_rgbe
abbrev pub format_line : List ℕ
format_line =
    70 ∷ 79 ∷ 82 ∷ 77 ∷ 65 ∷ 84 ∷ 61 ∷ 51 ∷ 50 ∷ 45 ∷ 98 ∷ 105 ∷ 116 ∷ 95 ∷ 114 ∷ 108 ∷ 101 ∷ 95 ∷ 114 ∷ 103 ∷ 98 ∷ 101 ∷ line_feed ∷ []

abbrev pub empty_line : List ℕ
empty_line = line_feed ∷ []

-- the decimal digits of n; k above n is enough
unfoldable pub digits_by : ℕ → ℕ → List ℕ
digits_by zero n = []
digits_by (suc k) n = elim (ltb n 10) [ true ↦ (48 + n) ∷ [] | false ↦ digits_by k (n / 10) ++ ((48 + n % 10) ∷ []) ]

unfoldable pub digits : ℕ → List ℕ
digits n = digits_by (n + 1) n

-- -Y h +X w
abbrev pub size_line : ℕ → ℕ → List ℕ
size_line width height = minus_y ++ space ∷ (digits height ++ space ∷ (plus_x ++ space ∷ (digits width ++ line_feed ∷ [])))

-- the lines, one after another
unfoldable pub written : ℕ → ℕ → List ℕ
written width height = radiance_line ++ (software_line ++ (format_line ++ (empty_line ++ size_line width height)))

-- what its lines say: a colour kind by the document reading, and nothing by the crate reading
abbrev pub written_said : Reading → Said
written_said Crate = nothing
written_said Document = coloured nothing Rgbe
