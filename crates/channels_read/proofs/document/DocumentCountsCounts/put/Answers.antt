-- The document reading's count meets the rule's contract.
use borrow.Author.Rules.{rules}
use Rattle.channels_read.proofs.Laws.Channel.{lacking_room}
use Rattle.channels_read.proofs.Laws.Counts.{document_broken, document_lacking, document_put}
use Rattle.channels_read.proofs.document.DocumentCountsCounts.put.Goals as goal

pub returns-then-width-done : goal.returns-then-width-done
returns-then-width-done c = search document_broken

pub put_lacking-requires : goal.put_lacking-requires
put_lacking-requires c = (search rules, search rules, search lacking_room, search rules)

pub returns-then-lacks : goal.returns-then-lacks
returns-then-lacks c = search document_lacking

pub returns : goal.returns
returns c = search document_put
