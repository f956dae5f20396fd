-- `light::Light::of` meets its contract.
use Prim.Native.Nat.{ℕ, ◌≤◌, ◌<◌}
use mathlib.Core.Path.{◌≡◌}
use native.Mathlib.Omega.{arith}
use borrow.Author.Rules.{rules}
use Rattle.steps.specs.declared.Reading.{Reading}
use Rattle.pixel.specs.Rgbe.{shift_of}
use Rattle.pixel.proofs.Laws.Scales.{shift_least, shift_most}
use Rattle.light.proofs.Light.of.Goals as goal

range : (reading : Reading) (e r : ℕ) → e < 256 → r ≡ shift_of reading e → (12 ≤ r) × (r ≤ 267)
range reading e r h is = (omega (arith, shift_least reading e), omega (arith, shift_most reading e h))

pub invariant_of-result-clause-within : goal.invariant_of-result-clause-within
invariant_of-result-clause-within c = range c.args.reading c.args.q.e _ (search rules) c.shift.ensures
