-- `text::append::digits` ends: the measure is the number of digits that may still come. Assumes nothing.
use Rattle.text.proofs.append.+digits.Given as goal

abbrev pub decreases-digits : goal.decreases-digits
decreases-digits l = l.left
