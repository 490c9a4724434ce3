-- `text::byte_at` meets its contract: inside the text the byte is looked at, past its end nothing stands.
-- Assumes nothing.
use Rattle.text.proofs.Numbers.{byte-there, byte-other, byte_past}
use Rattle.text.proofs.byte_at.Goals as goal
use Rattle.text.proofs.byte_at.Goals.{else-at-text-via-then-at-text+else-text-at, else-at-text-via-else-at-text}

pub returns-then-text-at : goal.returns-then-text-at
returns-then-text-at c = byte-there c.args.text.now _ _ c.if-at-text.true c.if-text-at.true

pub returns-else-at-text : goal.returns-else-at-text
returns-else-at-text c =
    elim c.else-at-text.branch [
      | else-at-text-via-then-at-text+else-text-at w ↦ byte-other c.args.text.now _ _ w.if-at-text.true w.if-text-at.false
      | else-at-text-via-else-at-text w ↦ byte_past c.args.text.now _ _ w.if-at-text.false
    ]
