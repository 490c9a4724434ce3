-- `railway_acceptance::known_at` meets its contract: below the first port a section's end, from there on a port.
-- Assumes nothing.
use Rattle.railway_acceptance.proofs.Bytes.{known-section, known-port}
use Rattle.railway_acceptance.proofs.known_at.Goals as goal

pub returns-then-i-lt-SECTION_ENDS : goal.returns-then-i-lt-SECTION_ENDS
returns-then-i-lt-SECTION_ENDS c = λ r h. known-section r _ _ _ h c.if-i-lt-SECTION_ENDS.true

pub returns-else-i-lt-SECTION_ENDS : goal.returns-else-i-lt-SECTION_ENDS
returns-else-i-lt-SECTION_ENDS c = λ r h. known-port r _ _ _ h c.if-i-lt-SECTION_ENDS.false
