-- The light of one pixel, over whole numbers of 2^-149: its largest sample, as a reading shows it.
use Rattle.std.specs.Prelude.{ℕ, max, Bool, not, ◌&&◌, ◌||◌, ltb, eqb}
use Rattle.steps.specs.Loop.{pick}
use Rattle.steps.specs.declared.Reading.{Reading}
use Rattle.pixel.specs.declared.Rgbe.{Rgbe}
use Rattle.pixel.specs.Rgbe.{count_of, units_of}

-- the largest of the three samples
unfoldable pub light_of : Reading → Rgbe → ℕ
light_of reading q = max (max (units_of reading q.r q.e) (units_of reading q.g q.e)) (units_of reading q.b q.e)

-- how many steps, or half steps by the document reading, the light is: by the largest mantissa, and 0 at the exponent byte 0
unfoldable pub top_of : Reading → Rgbe → ℕ
top_of reading q = pick (eqb q.e 0) 0 (count_of reading (max (max q.r q.g) q.b))

-- all three samples are 0
unfoldable pub is_black : Reading → Rgbe → Bool
is_black reading q = eqb (light_of reading q) 0

-- light whose exponent byte is outside 97 to 159, where the crate reading shows it at another brightness than half a step below the document's, or not at all
unfoldable pub is_masked : Reading → Rgbe → Bool
is_masked reading q = not (is_black reading q) && (ltb q.e 97 || ltb 159 q.e)

-- the darker of two pixels, a black one counting for nothing; the first where they are equal
unfoldable pub darker : Reading → Rgbe → Rgbe → Rgbe
darker reading p q = pick (is_black reading q) p (pick (is_black reading p) q (pick (ltb (light_of reading q) (light_of reading p)) q p))

-- the brighter of two pixels; the first where they are equal
unfoldable pub brighter : Reading → Rgbe → Rgbe → Rgbe
brighter reading p q = pick (ltb (light_of reading p) (light_of reading q)) q p
