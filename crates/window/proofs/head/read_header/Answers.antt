-- `window::head::read_header` meets its contract: the header that a part answers lies in it.
use Rattle.std.proofs.Common.{◌∙◌, ap}
use Rattle.window.specs.Header.{head_part}
use Rattle.window.proofs.Laws.Header.{head_within}
use Rattle.window.proofs.head.read_header.Goals as goal

pub returns-clause-head_within : goal.returns-clause-head_within
returns-clause-head_within c = head_within _ _ _ _ (c.head_part.ensures ∙ ap (head_part c.args.more c.args.part.now) c.read-answer.ensures)
