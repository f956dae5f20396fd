-- `rows_read::start::put_document` meets its contract: each kind of row is a case of `document_start`.
use borrow.Author.Rules.{rules}
use Rattle.rows_read.proofs.Laws.Row.{some_before, whole_there, whole_pixel, whole_missing, whole_flat, whole_channels}
use Rattle.rows_read.proofs.start.put_document.Goals as goal

pub overflow_sub-next : goal.overflow_sub-next
overflow_sub-next c = search some_before

pub put_bytes-requires : goal.put_bytes-requires
put_bytes-requires c = (search whole_there, search rules)

pub returns-in-Pixel : goal.returns-in-Pixel
returns-in-Pixel c = search whole_pixel

pub returns-in-Missing : goal.returns-in-Missing
returns-in-Missing c = search whole_missing

pub returns-in-Flat : goal.returns-in-Flat
returns-in-Flat c = search whole_flat

pub returns-in-Channels : goal.returns-in-Channels
returns-in-Channels c = search whole_channels
