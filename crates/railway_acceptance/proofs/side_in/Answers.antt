-- `railway_acceptance::side_in` meets its contract: a section's end by its index, a stem on the other side than its legs.
-- Assumes nothing.
use Rattle.railway_acceptance.proofs.Bytes.{side-section, stem-of-down, stem-of-up, leg-of}
use Rattle.railway_acceptance.proofs.side_in.Goals as goal

pub returns-then-i-lt-SECTION_ENDS : goal.returns-then-i-lt-SECTION_ENDS
returns-then-i-lt-SECTION_ENDS c = λ r h. side-section r _ c.if-i-lt-SECTION_ENDS.true

pub returns-then-legs-eq0 : goal.returns-then-legs-eq0
returns-then-legs-eq0 c = λ r h. stem-of-down r _ _ h c.if-i-lt-SECTION_ENDS.false c.requires c.if-port-eq0.true c.if-legs-eq0.true

pub returns-else-legs-eq0 : goal.returns-else-legs-eq0
returns-else-legs-eq0 c = λ r h. stem-of-up r _ _ h c.if-i-lt-SECTION_ENDS.false c.requires c.if-port-eq0.true c.if-legs-eq0.false

pub returns-else-port-eq0 : goal.returns-else-port-eq0
returns-else-port-eq0 c = λ r h. leg-of r _ _ h c.if-i-lt-SECTION_ENDS.false c.requires c.if-port-eq0.false
