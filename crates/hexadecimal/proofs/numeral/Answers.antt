-- `hexadecimal::numeral` meets its contract: a digit more is still below the power of 16.
use borrow.Author.Rules.{rules}
use Rattle.hexadecimal.proofs.Laws.Digits.{worth_small, numeral_more, longer_small}
use Rattle.hexadecimal.proofs.numeral.Goals as goal

pub loop-b-preserved : goal.loop-b-preserved
loop-b-preserved c = (longer_small _ _ c.loop-b.invariant.0 _ (search (rules, worth_small)), search (rules, numeral_more))
