-- `desk_lines::put_train` meets its contract: the words and the two numbers, and then what the bit says.
-- Assumes nothing.
use Rattle.text.specs.Text.{bytes}
use Rattle.desk_lines.proofs.Panel.{train-open, train-closed}
use Rattle.desk_lines.proofs.put_train.Goals as goal

pub returns-then-bit_at : goal.returns-then-bit_at
unfolding bytes
returns-then-bit_at c =
    train-open c.args.q c.args.v c.args.t _ _ c.section_at.ensures c.bit_at.ensures c.bytes-a.ensures
    c.number-b.ensures c.bytes-c.ensures c.number-d.ensures c.if-bit_at.true c.bytes.ensures

pub returns : goal.returns
unfolding bytes
returns c =
    train-closed c.args.q c.args.v c.args.t _ _ c.section_at.ensures c.bit_at.ensures c.bytes-a.ensures
    c.number-b.ensures c.bytes-c.ensures c.number-d.ensures c.if-bit_at.false c.bytes-2.ensures
