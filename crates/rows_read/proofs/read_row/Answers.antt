-- `rows_read::read_row` meets its contract: each `return` is a case of `row_by`.
use borrow.Author.Rules.{rules}
use Rattle.rows_read.proofs.Laws.Row.{first_room, one_less, rest_room, row_by_width, row_missing, row_flat, row_pixel, row_marked, channels_there}
use Rattle.rows_read.proofs.read_row.Goals as goal

pub returns-then-is_flat_width : goal.returns-then-is_flat_width
returns-then-is_flat_width c = search row_by_width

pub put_start-requires : goal.put_start-requires
put_start-requires c = (search first_room, search rules)

pub overflow_sub-width : goal.overflow_sub-width
overflow_sub-width c = search one_less

pub read_flat-requires-in-Pixel : goal.read_flat-requires-in-Pixel
read_flat-requires-in-Pixel c = search (rest_room, rules)

pub read_marked-requires : goal.read_marked-requires
read_marked-requires c = (search rules, search channels_there)

pub returns-in-Missing : goal.returns-in-Missing
returns-in-Missing c = search row_missing

pub returns-in-Flat : goal.returns-in-Flat
returns-in-Flat c = search row_flat

pub returns-in-Pixel : goal.returns-in-Pixel
returns-in-Pixel c = search row_pixel

pub returns-in-Channels : goal.returns-in-Channels
returns-in-Channels c = search row_marked
