-- `header::written::put_digits` calls itself with n / 10: the measure is n.
use Rattle.header.proofs.written.+put_digits.Given as goal

abbrev pub decreases-put_digits : goal.decreases-put_digits
decreases-put_digits l = l.n
