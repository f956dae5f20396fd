-- `stated::product::times` meets its contract: one multiplication, which rounds once.
use mathlib.Core.Path.{sym, ◌∙◌}
use denote.Floats.{passes}
use Rattle.stated.proofs.Laws.Product.{times_bright, times_is, times_not}
use Rattle.stated.proofs.product.times.Goals as goal

pub is_usable-requires : goal.is_usable-requires
is_usable-requires c = times_bright c.args.x c.args.y (passes _ c.well_formed.0.1) (passes _ c.well_formed.1.0.1) c.requires.0 c.requires.1

pub returns-then-is_usable-clause-value : goal.returns-then-is_usable-clause-value
returns-then-is_usable-clause-value c = let f = passes _ c.well_formed.0.1 in let g = passes _ c.well_formed.1.0.1 in let u = c.requires.0 in let v = c.requires.1 in let e = sym c.is_usable.ensures ∙ c.if-is_usable.true in times_is c.args.x c.args.y f g u v e

pub returns-then-is_usable-clause-usable_factor : goal.returns-then-is_usable-clause-usable_factor
returns-then-is_usable-clause-usable_factor c = let f = passes _ c.well_formed.0.1 in let g = passes _ c.well_formed.1.0.1 in let u = c.requires.0 in let v = c.requires.1 in let e = sym c.is_usable.ensures ∙ c.if-is_usable.true in (times_bright c.args.x c.args.y f g u v, e)

pub returns-else-is_usable-clause-value : goal.returns-else-is_usable-clause-value
returns-else-is_usable-clause-value c = times_not c.args.x c.args.y (passes _ c.well_formed.0.1) (passes _ c.well_formed.1.0.1) c.requires.0 c.requires.1 (sym c.is_usable.ensures ∙ c.if-is_usable.false)
