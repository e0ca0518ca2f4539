-- All digits but the last are those of a smaller number.
use Rattle.writing.proofs.Output.+put_digits.Given as goal

abbrev pub decreases-put_digits : goal.decreases-put_digits
decreases-put_digits l = l.n
