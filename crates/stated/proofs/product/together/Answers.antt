-- `stated::product::together` meets its contract: the first number stands, and a later one is multiplied.
use borrow.Author.Rules.{rules}
use denote.Floats.{passes}
use Rattle.stated.proofs.Laws.Product.{together_first, together_more, stated_usable}
use Rattle.stated.proofs.product.together.Goals as goal

pub times-requires : goal.times-requires
times-requires c = (search stated_usable, search rules)

pub returns-in-Stated-clause-value : goal.returns-in-Stated-clause-value
returns-in-Stated-clause-value c = search together_more

pub returns-in-NotStated-clause-value : goal.returns-in-NotStated-clause-value
returns-in-NotStated-clause-value c = together_first c.args.x c.args.before (passes _ c.well_formed.1.0.1) c.requires.1 (search rules)

pub returns-in-NotStated-clause-usable_factor : goal.returns-in-NotStated-clause-usable_factor
returns-in-NotStated-clause-usable_factor c = c.requires.1
