-- `pixel::is_too_bright` meets its contract: the comparison of the code, negated, is `too_bright`.
use mathlib.Core.Path.{◌≡◌, sym, ap, ◌∙◌}
use mathlib.Core.Bool.{not}
use Prim.Native.Nat.{ℕ, ◌^◌}
use lib.Dec.{T, ltb}
use lib.Ieee.{Float, binary32, of_bits, lt, fits}
use denote.Floats.{passes}
use Rattle.pixel.specs.declared.Pixel.{Pixel}
use Rattle.pixel.specs.Units.{mag}
use Rattle.pixel.specs.Rgbe.{peak, too_bright}
use Rattle.pixel.specs.Inner.{bright}
use Rattle.pixel.proofs.Laws.Limits.{below_limit}
use Rattle.pixel.proofs.Laws.Bytes.{bright_by_test}
use Rattle.pixel.proofs.is_too_bright.Goals as goal

-- the test of the code, negated
tested : (v : Float) (p : Pixel) → T (fits binary32 v) → T (bright v) → mag v ≡ peak p → not (lt v (of_bits binary32 0x7f00_0000)) ≡ too_bright p
tested v p number is e =
    ap not (below_limit v number is ∙ ap (λ (n : ℕ). ltb n (2 ^ 276)) e)
    ∙ sym (bright_by_test p)

pub returns : goal.returns
returns c = tested c.largest.result c.args.p (passes _ c.largest.type_inv) c.largest.ensures.0 c.largest.ensures.1
