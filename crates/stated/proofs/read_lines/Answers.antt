-- `stated::read_lines` meets its contract. The invariant: from here the definition says the same.
use borrow.Author.Rules.{rules}
use Rattle.std.proofs.lemmas.Result.{err_from_is_err_and}
use Rattle.words.proofs.Laws.Lines.{line_less}
use Rattle.stated.proofs.Laws.Said.{said_start, said_done, said_ends, said_fault, said_more}
use Rattle.stated.proofs.read_lines.Goals as goal

pub loop-p-init : goal.loop-p-init
loop-p-init c = (search rules, tt, search said_start)

pub returns-else-bytes-p-ne10 : goal.returns-else-bytes-p-ne10
returns-else-bytes-p-ne10 c = search said_ends

pub returns-in_err-said : goal.returns-in_err-said
returns-in_err-said c = let p = err_from_is_err_and c.from_residual.result c.from_residual.ensures.1 in rw (p.1, p.2) (search (said_fault, c.in_err-said.was))

pub loop-p-smaller : goal.loop-p-smaller
loop-p-smaller c = search line_less

pub loop-p-preserved : goal.loop-p-preserved
loop-p-preserved c = (search rules, c.in_ok-said.ensures.sound_answer, search (said_more, c.in_ok-said.was))

pub returns-after-loop-p : goal.returns-after-loop-p
returns-after-loop-p c = search said_done
