-- `pixel::pack` meets its contract: the word is taken apart again.
use Rattle.pixel.proofs.Laws.Bytes.{peak_below}
use Rattle.pixel.proofs.pack.Goals as goal

pub word_of-requires : goal.word_of-requires
word_of-requires c = search peak_below

pub returns : goal.returns
returns c = c.parts_of.ensures _ c.word_of.ensures
