-- `pixel::digits_of` meets its contract: the exponent field counts the binary digits.
use mathlib.Core.Path.{◌≡◌}
use Prim.Native.Nat.{◌+◌, ◌/◌}
use native.Mathlib.Omega.{arith}
use lib.Ieee.{binary32, to_bits, size}
use lib.Ieee.Bits.{to_bits-lt}
use denote.Floats.{passes}
use Rattle.pixel.specs.Units.{mag}
use Rattle.pixel.proofs.Laws.Samples.{bright_number}
use Rattle.pixel.proofs.Laws.Digits.{digits_from_bits}
use Rattle.pixel.proofs.digits_of.Goals as goal

digits_here : (c : goal.Start) → to_bits binary32 c.args.v / 8388608 + 23 ≡ size (mag c.args.v)
digits_here c = digits_from_bits c.args.v (passes _ c.well_formed.0.1) c.requires.fact_1 c.requires.fact_2 c.requires.fact_3

pub float_to_bits-result : goal.float_to_bits-result
float_to_bits-result c = bright_number c.args.v c.requires.fact_1

pub overflow_add-result : goal.overflow_add-result
overflow_add-result c = record { fits = omega (arith, to_bits-lt binary32 c.args.v (passes _ c.well_formed.0.1)) }

pub returns : goal.returns
returns c = digits_here c
