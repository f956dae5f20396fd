-- The f32 up to which a pixel is written black, and the next above it, by their bit patterns.
use Rattle.std.specs.Prelude.{Float}
use Rattle.std.specs.Float.{binary32}
use Rattle.std.specs.Float.Ieee.{of_bits}
use Rattle.pixel.specs.declared.Pixel.{Pixel}

-- the f32 nearest to 1e-32
abbrev pub last_black : Float
last_black = of_bits binary32 0x0a4f_b11f

-- the next
abbrev pub first_light : Float
first_light = of_bits binary32 0x0a4f_b120

-- a pixel of one sample, three times
abbrev pub grey : Float → Pixel
grey x = record { r = x; g = x; b = x }
