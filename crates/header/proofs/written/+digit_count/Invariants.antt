-- `header::written::digit_count` calls itself with n / 10: the measure is n.
use Rattle.header.proofs.written.+digit_count.Given as goal

abbrev pub decreases-digit_count : goal.decreases-digit_count
decreases-digit_count l = l.n
