-- `text::is_digit` meets its contract: what the library calls a digit is what the definition does. Assumes nothing.
use Rattle.std.proofs.Common.{◌∙◌}
use Rattle.text.proofs.Numbers.{digit-ascii}
use Rattle.text.proofs.is_digit.Goals as goal

pub returns : goal.returns
returns c = c.is_ascii_digit.ensures.value ∙ digit-ascii c.args.b
