-- `reader::samples::put_line` meets its contract. The invariant: the first i pixels are in their places.
use mathlib.Core.Path.{◌≡◌}
use Prim.Native.Nat.{◌*◌}
use Rattle.places.specs.Inner.{line_at}
use Rattle.reader.specs.Samples.{placed}
use Rattle.reader.specs.Read.{pixel_by}
use Rattle.reader.proofs.samples.put_line.Given as goal

abbrev pub invariant-loop-i : goal.invariant-loop-i
invariant-loop-i l =
    (l.o ≡ 3 * line_at l.line l.i) × (l.out ≡ placed (pixel_by l.reading) (line_at l.line) l.store 0 l.i l.initial.out)
