-- `logs_judge::train_differs` meets its contract: the sections that the logs give for the train are compared one by one.
-- Assumes nothing.
use Rattle.std.proofs.Common.{rules, refl, ◌∙◌, map, filter}
use lib.Dec.{eqb}
use Rattle.logs.specs.declared.Entry.{Entry}
use Rattle.std.proofs.lemmas.Iterator.{YieldsList-from_slice, YieldsList-from_map}
use Rattle.std.proofs.lemmas.Iterator.Consumers.{YieldsList-at, YieldsList-from_filter}
use borrow.Author.Tests.{tests}
use Rattle.logs.specs.Computed.{differs}
use Rattle.logs_judge.proofs.Comparing.{ne-compares, sections-are}
use Rattle.logs_judge.proofs.train_differs.Goals as goal

pub returns : goal.returns
unfolding differs
returns c =
    let t = c.args.t in
    let a = c.args.a.now in
    let b = c.args.b.now in
    ne-compares c.ne.ensures.ran
    (map (λ (e : Entry). e.section) (filter (λ (e : Entry). eqb e.train t) a))
    (map (λ (e : Entry). e.section) (filter (λ (e : Entry). eqb e.train t) b))
    (YieldsList-from_map _ (λ (e : Entry). e.section)
    (YieldsList-at c.map-panel.ensures.source
    (YieldsList-from_filter _ (λ (e : Entry). eqb e.train t) (YieldsList-at c.filter.ensures.source (YieldsList-from_slice a cc))
    c.filter.ensures.closure (λ x r q k. search (rules, tests))))
    c.map-panel.ensures.closure (λ x r q k. search rules))
    (YieldsList-from_map _ (λ (e : Entry). e.section)
    (YieldsList-at c.map-axles.ensures.source
    (YieldsList-from_filter _ (λ (e : Entry). eqb e.train t) (YieldsList-at c.filter-2.ensures.source (YieldsList-from_slice b cc))
    c.filter-2.ensures.closure (λ x r q k. search (rules, tests))))
    c.map-axles.ensures.closure (λ x r q k. search rules))
    ∙ rw (sections-are t a, sections-are t b) refl
