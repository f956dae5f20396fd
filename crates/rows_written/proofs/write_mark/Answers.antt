-- `rows_written::write_mark` meets its contract: the two bytes of w are w / 256 and w mod 256.
use mathlib.Core.Path.{◌∙◌}
use Rattle.rows_written.proofs.Laws.Store.{mark_store}
use Rattle.rows_written.proofs.write_mark.Goals as goal

pub returns : goal.returns
returns c = c.put_bytes.ensures ∙ mark_store _ _ _ _ c.requires.0 c.to_be_bytes.ensures
