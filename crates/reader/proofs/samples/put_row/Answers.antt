-- `reader::samples::put_row` meets its contract: in one piece, or pixel by pixel.
use borrow.Author.Rules.{rules}
use Rattle.reader.proofs.Laws.Samples.{along_room, placed_along}
use Rattle.reader.proofs.samples.put_row.Goals as goal

pub put_samples-requires : goal.put_samples-requires
put_samples-requires c = (search rules, search (along_room, c.is_along.ensures, c.if-is_along.true, c.requires.1))

pub returns-then-is_along : goal.returns-then-is_along
returns-then-is_along c = search (placed_along, c.is_along.ensures, c.if-is_along.true, c.put_samples.ensures)
