-- `railway_acceptance::is_longer` meets its contract: no point past no join, nor at a section; at a port one, and behind it
-- what the walk finds with one point fewer. Assumes nothing.
use Rattle.railway_acceptance.proofs.Bytes.{long-section, long-none, long-here, long-stem, long-leg}
use Rattle.railway_acceptance.proofs.+is_longer.Goals as goal

pub returns-then-j-lt-SECTION_ENDS : goal.returns-then-j-lt-SECTION_ENDS
returns-then-j-lt-SECTION_ENDS t c = λ r h. long-section r _ _ c.if-j-lt-SECTION_ENDS.true

pub returns-then-j-ge-ENDS : goal.returns-then-j-ge-ENDS
returns-then-j-ge-ENDS t c = λ r h. long-none r _ _ c.if-j-ge-ENDS.true

pub returns-then-k-eq0 : goal.returns-then-k-eq0
returns-then-k-eq0 t c = λ r h. long-here r _ c.if-j-lt-SECTION_ENDS.false c.if-j-ge-ENDS.false _ c.if-k-eq0.true

pub returns-then-port-eq0 : goal.returns-then-port-eq0
returns-then-port-eq0 t c =
    λ r h.
    long-stem r _ c.if-j-lt-SECTION_ENDS.false c.if-j-ge-ENDS.false _ c.if-k-eq0.false c.if-port-eq0.true _ _ _ _
    (c.link_in.ensures r h) (c.link_in-then-port-eq0.ensures r h) (c.is_longer.ensures r h)
    (c.is_longer-then-port-eq0.ensures r h)

pub returns-else-port-eq0 : goal.returns-else-port-eq0
returns-else-port-eq0 t c =
    λ r h.
    long-leg r _ c.if-j-lt-SECTION_ENDS.false c.if-j-ge-ENDS.false _ c.if-k-eq0.false c.if-port-eq0.false _ _
    (c.link_in-else-port-eq0.ensures r h) (c.is_longer-else-port-eq0.ensures r h)
