-- `railway_acceptance::one_owner_at` meets its contract: section ends lie below ports, two for each section, and then three for
-- each point. Assumes nothing.
use Rattle.railway_acceptance.proofs.Bytes.{both-sections, section-port, port-section, both-ports}
use Rattle.railway_acceptance.proofs.one_owner_at.Goals as goal

pub returns-then-j-lt-SECTION_ENDS : goal.returns-then-j-lt-SECTION_ENDS
returns-then-j-lt-SECTION_ENDS c = both-sections _ _ c.if-i-lt-SECTION_ENDS.true c.if-j-lt-SECTION_ENDS.true

pub returns-else-j-lt-SECTION_ENDS : goal.returns-else-j-lt-SECTION_ENDS
returns-else-j-lt-SECTION_ENDS c = section-port _ _ c.if-i-lt-SECTION_ENDS.true c.if-j-lt-SECTION_ENDS.false

pub returns-then-j-lt-SECTION_ENDS-2 : goal.returns-then-j-lt-SECTION_ENDS-2
returns-then-j-lt-SECTION_ENDS-2 c = port-section _ _ c.if-i-lt-SECTION_ENDS.false c.if-j-lt-SECTION_ENDS-2.true

pub returns-else-j-lt-SECTION_ENDS-2 : goal.returns-else-j-lt-SECTION_ENDS-2
returns-else-j-lt-SECTION_ENDS-2 c = both-ports _ _ c.if-i-lt-SECTION_ENDS.false c.if-j-lt-SECTION_ENDS-2.false
