-- `hexadecimal::F32Written::of` meets its contract: a pattern above that of infinity is no number's.
use Rattle.hexadecimal.proofs.Laws.Hex.{pattern_nan, pattern_number}
use Rattle.hexadecimal.proofs.F32Written.of.Goals as goal

pub returns-then-bits-gt2139095040 : goal.returns-then-bits-gt2139095040
returns-then-bits-gt2139095040 c = search pattern_nan

pub float_from_bits-result : goal.float_from_bits-result
float_from_bits-result c = search pattern_number
