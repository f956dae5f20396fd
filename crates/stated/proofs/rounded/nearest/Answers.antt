-- `stated::rounded::nearest` meets its contract. The invariant: `top` over b, with so many digits to be dropped, is the same number.
use borrow.Author.Rules.{rules}
use Rattle.pixel.proofs.Laws.Patterns.{number}
use Rattle.stated.proofs.Laws.Nearest.{doubled_start, doubled_left, doubled_falls, doubled_fits, doubled_more, field_fits, divisor, nearest_number, nearest_fits, nearest_is, nearest_usable, nearest_told}
use Rattle.stated.proofs.rounded.nearest.Goals as goal

pub loop-top-init : goal.loop-top-init
loop-top-init c = search doubled_start

pub overflow_mul-top : goal.overflow_mul-top
overflow_mul-top c = record { fits = search doubled_fits }

pub overflow_sub-dropped : goal.overflow_sub-dropped
overflow_sub-dropped c = search doubled_left

pub loop-top-smaller : goal.loop-top-smaller
loop-top-smaller c = search doubled_falls

pub loop-top-preserved : goal.loop-top-preserved
loop-top-preserved c = search doubled_more

pub overflow_mul-result : goal.overflow_mul-result
overflow_mul-result c = record { fits = search field_fits }

pub nearest_whole-requires : goal.nearest_whole-requires
nearest_whole-requires c = (search divisor, search rules, search rules)

pub overflow_add-result : goal.overflow_add-result
overflow_add-result c = record { fits = search nearest_fits }

pub float_from_bits-result : goal.float_from_bits-result
float_from_bits-result c = number _ (search nearest_number)

pub returns-clause-value : goal.returns-clause-value
returns-clause-value c = search nearest_is

pub returns-clause-usable : goal.returns-clause-usable
returns-clause-usable c = (search nearest_usable, search nearest_told)
