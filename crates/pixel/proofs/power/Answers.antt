-- `pixel::power` meets its contract: an exponent field alone is a power of two.
use mathlib.Core.Path.{ap, ◌∙◌}
use Prim.Native.Nat.{ℕ, ◌-◌, ◌^◌}
use native.Mathlib.Omega.{arith}
use borrow.Author.Rules.{rules}
use Rattle.pixel.specs.Units.{of_units}
use Rattle.pixel.proofs.Laws.Patterns.{field_is, number}
use Rattle.pixel.proofs.power.Goals as goal

pub float_from_bits-result : goal.float_from_bits-result
float_from_bits-result c = number _ (omega arith)

pub returns : goal.returns
returns c = field_is (c.args.j - 22) (search rules) (search rules) ∙ ap (λ (k : ℕ). of_units (2 ^ k)) (omega arith)
