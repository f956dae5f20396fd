-- `flat_read::part::read` meets its contract, by any rule.
use borrow.Author.Rules.{rules}
use Rattle.std.proofs.lemmas.Result.{err_from_is_err_and}
use Rattle.flat_read.proofs.Laws.Flat.{flat_starts, flat_done}
use Rattle.flat_read.proofs.Laws.Pixels.{part_missing, part_err, part_again, part_fits}
use Rattle.flat_read.proofs.part.read.Goals as goal

pub loop-ahead-init : goal.loop-ahead-init
loop-ahead-init g c = (search rules, search flat_starts)

pub returns-then-saturating_sub-lt4 : goal.returns-then-saturating_sub-lt4
returns-then-saturating_sub-lt4 g c = search (part_missing, c.missing.ensures)

pub returns-in_err-ahead : goal.returns-in_err-ahead
returns-in_err-ahead g c =
    let p = err_from_is_err_and c.from_residual.result c.from_residual.ensures.1 in
    rw (p.1, p.2) (search (part_err, c.in_err-ahead.was))

pub loop-ahead-preserved : goal.loop-ahead-preserved
loop-ahead-preserved g c = (search (part_fits, c.in_ok-ahead.was), search (part_again, c.in_ok-ahead.was))

pub returns : goal.returns
returns g c = search flat_done
