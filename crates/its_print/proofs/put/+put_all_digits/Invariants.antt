use Rattle.its_print.proofs.put.+put_all_digits.Given as goal

abbrev pub decreases-put_all_digits : goal.decreases-put_all_digits
decreases-put_all_digits l = l.n
