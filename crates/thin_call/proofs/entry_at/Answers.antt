-- `thin_call::entry_at` meets its contract: not listed, at home, and else thinned.
-- Assumes nothing.
use Rattle.thin_call.proofs.Entries.{entry-unlisted, entry-home, entry-lean}
use Rattle.thin_call.proofs.entry_at.Goals as goal

pub returns-then-n : goal.returns-then-n
returns-then-n c =
    λ r h.
    entry-unlisted r c.args.figures.now c.args.settings.now c.args.p _ _ c.entry_at-v.ensures
    c.entry_at-n.ensures c.if-n.true

pub returns-then-home_in : goal.returns-then-home_in
returns-then-home_in c =
    λ r h.
    entry-home r c.args.figures.now c.args.settings.now c.args.p _ _ c.entry_at-v.ensures c.entry_at-n.ensures
    c.if-n.false _ (c.home_in.ensures r _ (c.placement_of-q.ensures r h)) c.if-home_in.true

pub returns : goal.returns
returns c =
    λ r h.
    let on = c.placement_of-q.ensures r h in
    entry-lean r c.args.figures.now c.args.settings.now c.args.p _ _ c.entry_at-v.ensures c.entry_at-n.ensures
    c.if-n.false _ (c.home_in.ensures r _ on) c.if-home_in.false _
    (c.lean_entry.ensures r _ on)
