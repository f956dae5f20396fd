-- `pixel::rgbe_at` meets its contract: the word is taken apart again.
use Prim.Native.Nat.{◌+◌}
use Rattle.pixel.proofs.rgbe_at.Goals as goal

pub returns : goal.returns
returns c =
    let fits = c.type_inv.bytes in
    let i = c.args.i in
    c.parts_of.ensures _ ((fits i).fits, (fits (i + 1)).fits, (fits (i + 2)).fits, (fits (i + 3)).fits, c.from_le_bytes.ensures)
