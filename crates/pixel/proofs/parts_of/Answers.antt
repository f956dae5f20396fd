-- `pixel::parts_of` meets its contract: each byte is a digit of the word to the base 256.
use Rattle.pixel.proofs.Laws.Words.{word_parts}
use Rattle.pixel.proofs.parts_of.Goals as goal

pub returns : goal.returns
returns c = λ q a. rw c.to_le_bytes.ensures (word_parts q.r q.g q.b q.e _ a.0 a.1 a.2 a.3 a.4)
