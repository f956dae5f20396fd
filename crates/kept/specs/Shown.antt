-- What is done with inputs and pixels that DIFFERENCES shows: a table like that of the sample skies.
use Rattle.std.specs.Prelude.{true, false, List, [], ◌∷◌, ◌++◌, ℕ, zero, suc, ◌+◌, ◌-◌, ◌^◌, Float, replicate}
use Rattle.std.specs.Float.{nan, inf}
use Rattle.steps.specs.Answer.{done, refused, refuse}
use Rattle.steps.specs.declared.Reading.TheVariants.{Crate, Document}
use Rattle.std.specs.Prelude.{Some, None}
use Rattle.stated.specs.declared.Colour.TheVariants.{Xyze}
use Rattle.stated.specs.declared.Exposure.TheVariants.{Stated}
use Rattle.stated.specs.Said.{nothing}
use Rattle.header.specs.Head.{head}
use Rattle.words.specs.Lines.{rgbe_line, line_feed, space}
use Rattle.words.specs.Axes.{minus_y, plus_x, upright, orientation}
use Rattle.kept.specs.Skies.{Case, shows, reads, writes, rgbe, pixel, whole, part, none}

-- half a step at exponent byte 136
abbrev half : Float
half = part 1 1

-- ---- Files

-- #?RGBE, then these lines, an empty line and a line of sizes
abbrev file : List ℕ → List ℕ → List ℕ
file lines sizes = rgbe_line ++ (lines ++ (line_feed ∷ (sizes ++ (line_feed ∷ []))))

-- -Y h +X w and +X w -Y h, over the digits of h and w
abbrev rows : List ℕ → List ℕ → List ℕ
rows h w = minus_y ++ (space ∷ (h ++ (space ∷ (plus_x ++ (space ∷ w)))))

abbrev columns : List ℕ → List ℕ → List ℕ
columns w h = plus_x ++ (space ∷ (w ++ (space ∷ (minus_y ++ (space ∷ h)))))

-- a number of one digit, and 4294967296
abbrev digit : ℕ → List ℕ
digit n = (48 + n) ∷ []

abbrev huge : List ℕ
huge = 52 ∷ 50 ∷ 57 ∷ 52 ∷ 57 ∷ 54 ∷ 55 ∷ 50 ∷ 57 ∷ 54 ∷ []

-- FORMAT=32-bit_rle_xyze and EXPOSURE=2, each with its line feed
abbrev format : List ℕ
format = 70 ∷ 79 ∷ 82 ∷ 77 ∷ 65 ∷ 84 ∷ 61 ∷ 51 ∷ 50 ∷ 45 ∷ 98 ∷ 105 ∷ 116 ∷ 95 ∷ 114 ∷ 108 ∷ 101 ∷ 95 ∷ 120 ∷ 121 ∷ 122 ∷ 101 ∷ line_feed ∷ []

abbrev exposure : List ℕ
exposure = 69 ∷ 88 ∷ 80 ∷ 79 ∷ 83 ∷ 85 ∷ 82 ∷ 69 ∷ 61 ∷ 50 ∷ line_feed ∷ []

-- a row of 8 whose first three channels are 128, 64 and 32 throughout; its last is to follow
abbrev three_channels : List ℕ
three_channels = 2 ∷ 2 ∷ 0 ∷ 8 ∷ 136 ∷ 128 ∷ 136 ∷ 64 ∷ 136 ∷ 32 ∷ []

-- a pixel of that row, by its exponent byte; and n of them at 0
abbrev lit : ℕ → List ℕ
lit e = 128 ∷ 64 ∷ 32 ∷ e ∷ []

unfoldable pub unlit : ℕ → List ℕ
unlit zero = []
unlit (suc n) = lit 0 ++ unlit n

-- ---- The table

abbrev pub shown : List Case
shown =
    -- DIFFERENCES 3: the bytes end after the last count, which asks for a run of 8 exponents: all of them are 0
    reads Crate (file [] (rows (digit 1) (digit 8)) ++ (three_channels ++ (136 ∷ [])))
    (replicate 24 (whole 1 1)) (replicate 32 7)
    (done (head nothing upright 8 1 29))
    (replicate 24 none) (unlit 8)
    -- the bytes end after two of 8 literal exponents: six of them are 0
    ∷ reads Crate (file [] (rows (digit 1) (digit 8)) ++ (three_channels ++ (8 ∷ 129 ∷ 129 ∷ [])))
    (replicate 24 (whole 1 1)) (replicate 32 7)
    (done (head nothing upright 8 1 31))
    (whole 1 0 ∷ part 1 1 ∷ part 1 2 ∷ whole 1 0 ∷ part 1 1 ∷ part 1 2 ∷ replicate 18 none) (lit 129 ++ (lit 129 ++ unlit 6))
    -- by the document reading both are refused by 9, and what was read stands in the row store
    ∷ reads Document (file [] (rows (digit 1) (digit 8)) ++ (three_channels ++ (136 ∷ []))) (replicate 24 (whole 1 1)) (replicate 32 7) (refused 9 0) (replicate 24 (whole 1 1)) (unlit 8)
    ∷ reads Document (file [] (rows (digit 1) (digit 8)) ++ (three_channels ++ (8 ∷ 129 ∷ 129 ∷ [])))
    (replicate 24 (whole 1 1)) (replicate 32 7)
    (refused 9 0)
    (replicate 24 (whole 1 1)) (lit 129 ++ (lit 129 ++ unlit 6))
    -- 4: by the document reading a mark of 9 in a row of 8 is refused by 14
    ∷ reads Document (file [] (rows (digit 1) (digit 8)) ++ (2 ∷ 2 ∷ 0 ∷ 9 ∷ [])) (replicate 24 (whole 1 1)) (replicate 32 7) (refused 14 0) (replicate 24 (whole 1 1)) (replicate 32 0)
    -- 5: and so is a run of 9
    ∷ reads Document (file [] (rows (digit 1) (digit 8)) ++ (2 ∷ 2 ∷ 0 ∷ 8 ∷ 137 ∷ 128 ∷ [])) (replicate 24 (whole 1 1)) (replicate 32 7) (refused 14 0) (replicate 24 (whole 1 1)) (replicate 32 0)
    -- 6: +X 2 -Y 2 and pixels 1, 2, 3, 4 are rows 1 2 and 3 4
    ∷ reads Crate (file [] (columns (digit 2) (digit 2)) ++ (1 ∷ 0 ∷ 0 ∷ 136 ∷ 2 ∷ 0 ∷ 0 ∷ 136 ∷ 3 ∷ 0 ∷ 0 ∷ 136 ∷ 4 ∷ 0 ∷ 0 ∷ 136 ∷ []))
    (replicate 12 (whole 1 1)) (replicate 8 7)
    (done (head nothing upright 2 2 34))
    (whole 1 0 ∷ none ∷ none ∷ whole 1 1 ∷ none ∷ none ∷ whole 3 0 ∷ none ∷ none ∷ whole 1 2 ∷ none ∷ none ∷ [])
    (3 ∷ 0 ∷ 0 ∷ 136 ∷ 4 ∷ 0 ∷ 0 ∷ 136 ∷ [])
    -- and by the document reading columns, so that the rows are 1 3 and 2 4
    ∷ reads Document (file [] (columns (digit 2) (digit 2)) ++ (1 ∷ 0 ∷ 0 ∷ 136 ∷ 2 ∷ 0 ∷ 0 ∷ 136 ∷ 3 ∷ 0 ∷ 0 ∷ 136 ∷ 4 ∷ 0 ∷ 0 ∷ 136 ∷ []))
    (replicate 12 (whole 1 1)) (replicate 8 7)
    (done (head nothing (orientation true false false) 2 2 34))
    (part 3 1 ∷ half ∷ half ∷ part 7 1 ∷ half ∷ half ∷ part 5 1 ∷ half ∷ half ∷ part 9 1 ∷ half ∷ half ∷ [])
    (3 ∷ 0 ∷ 0 ∷ 136 ∷ 4 ∷ 0 ∷ 0 ∷ 136 ∷ [])
    -- 7: what the crate writes for dark light, 0,0,0,128, is black, and by the document reading half a step of grey, 2^-9
    ∷ shows Crate (rgbe 0 0 0 128) (pixel none none none)
    ∷ shows Document (rgbe 0 0 0 128) (pixel (part 1 9) (part 1 9) (part 1 9))
    -- 8: by the crate reading FORMAT and EXPOSURE are passed over
    ∷ reads Crate (file (format ++ exposure) (rows (digit 1) (digit 1)) ++ (128 ∷ 64 ∷ 32 ∷ 129 ∷ []))
    (replicate 3 (whole 1 1)) (replicate 4 7)
    (done (head nothing upright 1 1 56))
    (whole 1 0 ∷ part 1 1 ∷ part 1 2 ∷ []) (128 ∷ 64 ∷ 32 ∷ 129 ∷ [])
    -- and by the document reading answered, with the same samples
    ∷ reads Document (file (format ++ exposure) (rows (digit 1) (digit 1)) ++ (128 ∷ 64 ∷ 32 ∷ 129 ∷ []))
    (replicate 3 (whole 1 1)) (replicate 4 7)
    (done (head (record { colour = Some Xyze; exposure = Stated (whole 1 1) }) upright 1 1 56))
    (part 257 8 ∷ part 129 8 ∷ part 65 8 ∷ []) (128 ∷ 64 ∷ 32 ∷ 129 ∷ [])
    -- 9: a no-break space behind an axis is not trimmed
    ∷ reads Crate (file [] (minus_y ++ (194 ∷ 160 ∷ space ∷ 48 ∷ space ∷ (plus_x ++ (space ∷ digit 1))))) (none ∷ []) (replicate 4 7) (refuse 2) (none ∷ []) (replicate 4 7)
    -- 10: sizes of 2^32 by 2^32
    ∷ reads Crate (file [] (rows huge huge)) (none ∷ []) (replicate 4 7) (refuse 4) (none ∷ []) (replicate 4 7)
    -- 11: pixels written
    ∷ writes (pixel (part 1 1) (part 1 1) (part 1 1)) (Some (rgbe 128 128 128 128))
    ∷ writes (pixel (whole 1 0) (part 1 1) (part 1 2)) (Some (rgbe 128 64 32 129))
    ∷ writes (pixel (part 1 32) (part 1 32) (part 1 32)) (Some (rgbe 128 128 128 97))
    ∷ writes (pixel (whole (2 ^ 24 - 1) 103) none none) (Some (rgbe 255 0 0 255))
    ∷ writes (pixel (whole 1 127) (whole 1 0) (whole 1 0)) None
    ∷ writes (pixel (inf false) (whole 1 0) (whole 1 0)) None
    ∷ writes (pixel (inf true) (whole 1 0) (whole 1 0)) (Some (rgbe 0 128 128 129))
    ∷ writes (pixel nan (whole 5 0) (whole 1 0)) (Some (rgbe 0 160 32 131))
    -- 15: the f32 nearest to 0.004, three times; and a file of the pixel that the crate writes for it
    ∷ writes (pixel (part 0x83126f 31) (part 0x83126f 31) (part 0x83126f 31)) (Some (rgbe 131 131 131 121))
    ∷ reads Crate (file [] (rows (digit 1) (digit 1)) ++ (1 ∷ 1 ∷ 1 ∷ 128 ∷ []))
    (replicate 3 (whole 1 1)) (replicate 4 7)
    (refused 25 0)
    (replicate 3 (whole 1 1)) (1 ∷ 1 ∷ 1 ∷ 128 ∷ [])
    -- by the document reading it repeats a pixel that is not there
    ∷ reads Document (file [] (rows (digit 1) (digit 1)) ++ (1 ∷ 1 ∷ 1 ∷ 128 ∷ [])) (replicate 3 (whole 1 1)) (replicate 4 7) (refused 14 0) (replicate 3 (whole 1 1)) (replicate 4 0)
    ∷ []
