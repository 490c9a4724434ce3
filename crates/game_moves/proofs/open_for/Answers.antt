-- `game_moves::open_for` meets its contract: the train heads for its own end, and where no train is open no signal is.
-- Assumes nothing.
use Rattle.game_moves.proofs.Moving.{own-opens, nobody-opens, front-opens}
use Rattle.game_moves.proofs.open_for.Goals as goal

pub returns-then-bit_at : goal.returns-then-bit_at
returns-then-bit_at c = λ r p h l. own-opens r p _ _ h c.args.v _ _ l c.bit_at.ensures c.if-bit_at.true

pub returns-then-v-lt-FIRST_TRAIN : goal.returns-then-v-lt-FIRST_TRAIN
returns-then-v-lt-FIRST_TRAIN c = λ r p h l. nobody-opens r p _ _ h _ _ c.if-v-lt-FIRST_TRAIN.true

pub returns : goal.returns
returns c = λ r p h l. front-opens r p _ _ h _ _ _ _ (c.front_in.ensures r p h) (c.open_in.ensures r p h)
