-- `words::lines::lines_end` meets its contract. The invariant: from here the definition finds the same place.
use borrow.Author.Rules.{rules}
use Rattle.words.proofs.Laws.Lines.{line_less, lines_start, lines_done, lines_blank, lines_on}
use Rattle.words.proofs.lines.lines_end.Goals as goal

pub loop-p-init : goal.loop-p-init
loop-p-init c = (search rules, search lines_start)

pub returns-then-bytes-p-eq10-clause-value : goal.returns-then-bytes-p-eq10-clause-value
returns-then-bytes-p-eq10-clause-value c = search lines_blank

pub loop-p-smaller : goal.loop-p-smaller
loop-p-smaller c = search line_less

pub loop-p-preserved : goal.loop-p-preserved
loop-p-preserved c = (search rules, search lines_on)

pub returns-clause-value : goal.returns-clause-value
returns-clause-value c = search lines_done
