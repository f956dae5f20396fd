-- `pixel::largest` meets its contract: the larger of two, three times, from 0.
use mathlib.Core.Path.{◌≡◌, ap, ◌∙◌}
use Prim.Native.Nat.{ℕ, max, zero-le}
use native.Mathlib.Nat.{max-eq_right}
use lib.Ieee.{of_bits}
use Rattle.pixel.specs.Units.{mag}
use Rattle.pixel.specs.Rgbe.{peak}
use Rattle.pixel.proofs.largest.Goals as goal

pub brighter-requires : goal.brighter-requires
unfolding of_bits
brighter-requires c = tt

pub returns : goal.returns
unfolding peak mag of_bits
returns c =
    let p = c.args.p in
    let one : mag c.brighter.result ≡ mag p.r = c.brighter.ensures.1 ∙ max-eq_right zero-le in
    let two : mag c.brighter-2.result ≡ max (mag p.r) (mag p.g) = c.brighter-2.ensures.1 ∙ ap (λ (z : ℕ). max z (mag p.g)) one in
    (c.brighter-3.ensures.0, c.brighter-3.ensures.1 ∙ ap (λ (z : ℕ). max z (mag p.b)) two)
