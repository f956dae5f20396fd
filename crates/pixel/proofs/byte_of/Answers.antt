-- `pixel::byte_of` meets its contract: the product is exact or below 1, so its whole part is that of the sample times the power.
use mathlib.Core.Path.{◌≡◌, sym, ◌∙◌, subst}
use Prim.Native.Nat.{ℕ, ◌-◌, ◌^◌, ◌<◌, zero-le}
use native.Mathlib.Nat.{max-eq_right}
use lib.Ieee.{Float, binary32, of_bits, mul}
use denote.Floats.{passes}
use borrow.Author.Rules.{rules}
use Rattle.pixel.specs.Units.{Exactly, mag}
use Rattle.pixel.specs.Rgbe.{byte_of}
use Rattle.pixel.proofs.Laws.Units.{power_exact}
use Rattle.pixel.proofs.Laws.Scaling.{Whole, scaled_whole}
use Rattle.pixel.proofs.Laws.Bytes.{byte_lt}
use Rattle.pixel.proofs.byte_of.Goals as goal

-- the larger of 0 and the sample counts as the sample
same : (c : goal.After-power) → mag c.brighter.result ≡ mag c.args.x
unfolding of_bits mag
same c = c.brighter.ensures.1 ∙ max-eq_right zero-le

here : (c : goal.After-power) → Whole (mul binary32 c.brighter.result c.power.result) (byte_of c.args.digits (mag c.args.x))
here c =
    let N = c.args.digits in
    let scale : Exactly c.power.result (2 ^ (306 - N)) = subst (λ (s : Float). Exactly s (2 ^ (306 - N))) (sym c.power.ensures) (power_exact (306 - N) (search rules)) in
    subst (λ (n : ℕ). Whole (mul binary32 c.brighter.result c.power.result) (byte_of N n)) (same c)
    (scaled_whole c.brighter.result c.power.result N (passes _ c.brighter.type_inv) c.brighter.ensures.0 c.requires.fact_2 (subst (λ (n : ℕ). n < 2 ^ N) (sym (same c)) c.requires.fact_3) scale)

-- a byte
small : (c : goal.After-power) → byte_of c.args.digits (mag c.args.x) < 256
small c = byte_lt (mag c.args.x) c.args.digits c.requires.fact_3

pub brighter-requires : goal.brighter-requires
unfolding of_bits
brighter-requires c = tt

pub round_down-requires-clause-fact_1 : goal.round_down-requires-clause-fact_1
round_down-requires-clause-fact_1 c = (here c).0

pub round_down-requires-clause-fact_2 : goal.round_down-requires-clause-fact_2
round_down-requires-clause-fact_2 c = subst (λ (n : ℕ). n < 256) (sym (here c).1) (small c)

pub returns : goal.returns
returns c =
    let is = c.round_down.ensures ∙ (here c.before).1 in
    (subst (λ (n : ℕ). n < 256) (sym is) (small c.before), is)
