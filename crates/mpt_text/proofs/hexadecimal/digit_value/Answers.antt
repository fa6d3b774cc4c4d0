use Rattle.mpt_text.proofs.DigitTable.{digit_there, no_digit_there}
use Rattle.mpt_text.proofs.hexadecimal.digit_value.Goals as goal

pub returns-then-value-lt16-clause-value : goal.returns-then-value-lt16-clause-value
returns-then-value-lt16-clause-value c = digit_there c.args.byte c.ranges.byte.fits c.if-value-lt16.true

pub returns-else-value-lt16-clause-value : goal.returns-else-value-lt16-clause-value
returns-else-value-lt16-clause-value c = no_digit_there c.args.byte c.ranges.byte.fits c.if-value-lt16.false
