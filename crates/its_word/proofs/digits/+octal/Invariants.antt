use Rattle.its_word.proofs.digits.+octal.Given as goal

abbrev pub decreases-octal : goal.decreases-octal
decreases-octal l = l.n
