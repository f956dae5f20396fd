-- The sample skies (RULES 11): the ones marked P, as one table.
use Rattle.std.specs.Prelude.{◌≡◌, true, false, List, [], ◌∷◌, ◌++◌, ℕ, ◌+◌, ◌-◌, replicate, pos, negsuc, Float}
use Rattle.std.specs.Float.{nan, fin, binary32}
use Rattle.std.specs.Float.Ieee.{round}
use Rattle.steps.specs.Answer.{Answer, done, refused, refuse}
use Rattle.pixel.specs.declared.Pixel.{Pixel}
use Rattle.pixel.specs.declared.Rgbe.{Rgbe}
use Rattle.std.specs.Prelude.{Option, Some}
use Rattle.steps.specs.declared.Reading.{Reading}
use Rattle.steps.specs.declared.Reading.TheVariants.{Crate, Document}
use Rattle.pixel.specs.Rgbe.{units_of, pixel_of, packed_of}
use Rattle.header.specs.declared.Head.{Head}
use Rattle.stated.specs.Said.{nothing}
use Rattle.header.specs.Head.{head}
use Rattle.words.specs.Lines.{rgbe_line, line_feed, space}
use Rattle.words.specs.Axes.{minus_y, plus_x, upright}
use Rattle.channels_written.specs.Channel.{code}
use Rattle.reader.specs.Read.{read_of}

-- ---- What a row of the table says

pub data Case : Type 0 where
  -- these four bytes are this pixel by the reading
  shows : Reading → Rgbe → Pixel → Case
  -- this pixel is written so
  writes : Pixel → Option Rgbe → Case
  -- this channel is written as these bytes
  codes : List ℕ → List ℕ → Case
  -- these bytes by the reading, with this output and row store lent, and limits of 65,535: the answer, the output and the row store afterwards
  reads : Reading → List ℕ → List Float → List ℕ → Answer Head → List Float → List ℕ → Case

abbrev pub Right : Case → Type 0
Right (shows reading q p) = pixel_of (units_of reading) q ≡ p
Right (writes p q) = packed_of p ≡ q
Right (codes xs ys) = code xs ≡ ys
Right (reads reading bytes out store answer out' store') = read_of reading bytes 65535 65535 out store ≡ (answer, out', store')

-- every row is right
abbrev pub Each : List Case → Type 0
Each [] = Unit {0}
Each (c ∷ cs) = Right c × Each cs

-- ---- Names for what stands in the table

abbrev pub rgbe : ℕ → ℕ → ℕ → ℕ → Rgbe
rgbe r g b e = record { r = r; g = g; b = b; e = e }

abbrev pub pixel : Float → Float → Float → Pixel
pixel r g b = record { r = r; g = g; b = b }

-- n, n times 2^k, and n times 2^-k for a k above 0; f32s are written with an odd n
abbrev pub whole : ℕ → ℕ → Float
whole n k = fin false n (pos k)

abbrev pub part : ℕ → ℕ → Float
part n k = fin false n (negsuc (k - 1))

abbrev pub none : Float
none = fin false 0 (pos 0)

-- 0.003, the f32 nearest to it
abbrev dusk : Float
dusk = round binary32 false 3 1000

-- #?RGBE, an empty line, and -Y h +X w of one digit each
abbrev small : ℕ → ℕ → List ℕ
small height width = rgbe_line ++ (line_feed ∷ (minus_y ++ (space ∷ (48 + height) ∷ space ∷ (plus_x ++ (space ∷ (48 + width) ∷ line_feed ∷ [])))))

-- (10,10,10,129)(20,20,20,129)(1,1,1,2)
abbrev old_run : List ℕ
old_run = 10 ∷ 10 ∷ 10 ∷ 129 ∷ 20 ∷ 20 ∷ 20 ∷ 129 ∷ 1 ∷ 1 ∷ 1 ∷ 2 ∷ []

-- 10 and 20 by the document reading: 21 and 41 times 2^-8
abbrev tenth : Float
tenth = part 21 8

abbrev fifth : Float
fifth = part 41 8

-- ---- The table

abbrev pub skies : List Case
skies =
    -- 1: empty input; #?RADIANCE with no line feed
    reads Crate [] (whole 1 0 ∷ []) (7 ∷ []) (refuse 1) (whole 1 0 ∷ []) (7 ∷ [])
    ∷ reads Crate (35 ∷ 63 ∷ 82 ∷ 65 ∷ 68 ∷ 73 ∷ 65 ∷ 78 ∷ 67 ∷ 69 ∷ []) [] [] (refuse 1) [] []
    -- 2: height 0 and width 3: done, 18 taken, no sample written
    ∷ reads Crate (small 0 3) (whole 1 0 ∷ []) (replicate 13 7) (done (head nothing upright 3 0 18)) (whole 1 0 ∷ []) (replicate 12 0 ++ 7 ∷ [])
    -- 4: four bytes to samples
    ∷ shows Crate (rgbe 128 64 32 129) (pixel (whole 1 0) (part 1 1) (part 1 2))
    ∷ shows Document (rgbe 128 64 32 129) (pixel (part 257 8) (part 129 8) (part 65 8))
    ∷ shows Crate (rgbe 1 0 0 97) (pixel (part 1 39) none none)
    ∷ shows Crate (rgbe 128 0 0 96) (pixel (part 1 1) none none)
    ∷ shows Crate (rgbe 128 0 0 160) (pixel (part 1 1) none none)
    ∷ shows Document (rgbe 128 0 0 96) (pixel (part 257 41) (part 1 41) (part 1 41))
    ∷ shows Document (rgbe 128 0 0 160) (pixel (whole 257 23) (whole 1 23) (whole 1 23))
    ∷ shows Crate (rgbe 255 255 255 0) (pixel none none none)
    ∷ shows Document (rgbe 255 255 255 0) (pixel none none none)
    -- 5: width 4, one row with an old run: refused in row 0
    ∷ reads Crate (small 1 4 ++ old_run)
    (replicate 12 (whole 1 0)) (replicate 16 7)
    (refused 25 0)
    (replicate 12 (whole 1 0)) (old_run ++ replicate 4 0)
    -- by the document reading the two pixels wanted are copies of the second: done, 30 taken
    ∷ reads Document (small 1 4 ++ old_run)
    (replicate 12 (whole 1 0)) (replicate 16 7)
    (done (head nothing upright 4 1 30))
    (tenth ∷ tenth ∷ tenth ∷ fifth ∷ fifth ∷ fifth ∷ fifth ∷ fifth ∷ fifth ∷ fifth ∷ fifth ∷ fifth ∷ [])
    (10 ∷ 10 ∷ 10 ∷ 129 ∷ 20 ∷ 20 ∷ 20 ∷ 129 ∷ 20 ∷ 20 ∷ 20 ∷ 129 ∷ 20 ∷ 20 ∷ 20 ∷ 129 ∷ [])
    -- 6: channels
    ∷ codes (5 ∷ 5 ∷ 9 ∷ 9 ∷ 9 ∷ 9 ∷ 9 ∷ 9 ∷ []) (130 ∷ 5 ∷ 134 ∷ 9 ∷ [])
    ∷ codes (5 ∷ 5 ∷ 6 ∷ 9 ∷ 9 ∷ 9 ∷ 9 ∷ 9 ∷ []) (3 ∷ 5 ∷ 5 ∷ 6 ∷ 133 ∷ 9 ∷ [])
    -- 7: samples to four bytes: 0.003 three times; -1, no number, 2^-32
    ∷ writes (pixel dusk dusk dusk) (Some (rgbe 196 196 196 120))
    ∷ writes (pixel (fin true 1 (pos 0)) nan (part 1 32)) (Some (rgbe 0 0 128 97))
    -- what 0.003 comes back as: 49/16384, which is 0.00299072265625; by the document reading 393/131072, which is 0.00299835205078125
    ∷ shows Crate (rgbe 196 196 196 120) (pixel (part 49 14) (part 49 14) (part 49 14))
    ∷ shows Document (rgbe 196 196 196 120) (pixel (part 393 17) (part 393 17) (part 393 17))
    ∷ []
