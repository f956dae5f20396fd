-- `stated::number::ahead` meets its contract: the library's search finds the first of the two bytes.
use Rattle.std.proofs.Common.{rules, tests, eqb}
use Rattle.std.proofs.lemmas.Iterator.{YieldsList-from_slice}
use Rattle.std.proofs.lemmas.Iterator.Search.{position_from_yields_List}
use mathlib.Core.Bool.{◌||◌}
use Rattle.stated.proofs.Laws.Exposure.{ahead_told}
use Rattle.stated.proofs.number.ahead.Goals as goal

pub returns-clause-value : goal.returns-clause-value
returns-clause-value c =
    ahead_told _ _ _ _ _
    (position_from_yields_List {all = c.args.part.now} (λ b. eqb b c.args.x || eqb b c.args.y) _ _ _ c.position.ensures.ran (YieldsList-from_slice _ cc) (λ x b q k. search (rules, tests)))
    c.unwrap_or.ensures
