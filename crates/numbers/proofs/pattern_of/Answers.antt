-- `numbers::pattern_of` meets its contract.
use mathlib.Core.Path.{sym}
use Rattle.numbers.proofs.Laws.Values.{pattern_is}
use Rattle.numbers.proofs.pattern_of.Goals as goal

pub returns-else-is_nan : goal.returns-else-is_nan
returns-else-is_nan c = let h = c.if-is_nan.ensures in pattern_is _ (sym h.value)
