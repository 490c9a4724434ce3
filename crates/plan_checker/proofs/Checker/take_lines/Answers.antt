-- `plan_checker::Checker::take_lines` meets its contract. The loop's invariant: the lines taken so far, and those that are taken from the place reached on,
-- are all that are taken. The place is where a line begins, so each turn reads a whole line; and what is taken was read, so that its end is known.
-- Assumes nothing.
use native.Mathlib.Omega.{arith}
use mathlib.Core.Path.{refl, sym, ◌∙◌, ap}
use lib.ListN.{drop}
use Rattle.railway.specs.declared.Refusal.TheVariants.{PlanForm}
use Rattle.plan.specs.FirstLine.{first_of}
use Rattle.plan.specs.Steps.{refuse}
use Rattle.plan_reader.specs.LineRead.{NoLine, line_of}
use Rattle.plan_checker.specs.Answers.{checking}
use Rattle.plan_checker.proofs.Lines.{LineAt, line_at, read-says, read-end}
use Rattle.plan_checker.proofs.Fronts.{some-small, line-taken, fronting-start, fronting-over, fronting-stop, fronting-next}
use Rattle.plan_checker.proofs.Checker.take_lines.Goals as goal

pub loop-at-init : goal.loop-at-init
loop-at-init c = (
  refl,
  refl,
  λ r h fine. fronting-start r c.args.text.now (checking c.args.self.now c.args.figures.now c.args.settings.now) fine,
)

pub enter-requires : goal.enter-requires
enter-requires c = some-small c.requires (first_of (drop c.loop-at.at c.args.text.now)) _ (λ r h. read-says (c.read_at.ensures r h) c.in-Some.is)

pub returns-in_default : goal.returns-in_default
returns-in_default c =
    let line : LineAt c.args.text.now c.loop-at.at = line_at c.args.text.now c.loop-at.at c.loop-at-test.true in
    λ r h fine.
    let text = c.args.text.now in
    let k = checking c.loop-at.self c.loop-at.figures c.loop-at.settings in
    let f = c.loop-at.invariant.2 r h fine in
    let w = line-taken r k (first_of (drop c.loop-at.at text)) NoLine (refuse k PlanForm) f.fine
    (sym (ap line_of c.in_default.is) ∙ (c.read_at.ensures r h).line) refl in
    fronting-stop r text _ c.loop-at.at k f line _ w _ refl

pub returns-in-Err : goal.returns-in-Err
returns-in-Err c =
    let line : LineAt c.args.text.now c.loop-at.at = line_at c.args.text.now c.loop-at.at c.loop-at-test.true in
    λ r h fine.
    let text = c.args.text.now in
    let k = checking c.loop-at.self c.loop-at.figures c.loop-at.settings in
    let f = c.loop-at.invariant.2 r h fine in
    let w = line-taken r k (first_of (drop c.loop-at.at text)) _ _ f.fine (read-says (c.read_at.ensures r h) c.in-Some.is)
    c.enter.ensures in
    fronting-stop r text _ c.loop-at.at k f line _ w _ c.in-Err.is

pub loop-at-smaller : goal.loop-at-smaller
loop-at-smaller c =
    let here : LineAt c.args.text.now c.loop-at.at = line_at c.args.text.now c.loop-at.at c.loop-at-test.true in
    omega (
      arith,
      read-end (c.read_at.ensures c.requires.railway c.requires.compiled) c.in-Some.is,
      here.some,
      here.within,
    )

pub loop-at-preserved : goal.loop-at-preserved
loop-at-preserved c =
    let line : LineAt c.args.text.now c.loop-at.at = line_at c.args.text.now c.loop-at.at c.loop-at-test.true in
    let text = c.args.text.now in
    let k = checking c.loop-at.self c.loop-at.figures c.loop-at.settings in
    let long₁ = c.enter.auto.figures in
    let long₂ = c.enter.auto.settings in (
      long₁ ∙ c.loop-at.invariant.0,
      long₂ ∙ c.loop-at.invariant.1,
      λ r h fine.
          let f = c.loop-at.invariant.2 r h fine in
          let read = c.read_at.ensures r h in
          let w = line-taken r k (first_of (drop c.loop-at.at text)) _ _ f.fine (read-says read c.in-Some.is) c.enter.ensures in
          fronting-next r text _ c.loop-at.at k f line _ w _ (read-end read c.in-Some.is) c.in_default-enter.is long₁ long₂,
    )

pub returns : goal.returns
returns c =
    λ r h fine.
    fronting-over r c.args.text.now _ c.loop-at.at (checking c.loop-at.self c.loop-at.figures c.loop-at.settings) (c.loop-at.invariant.2 r h fine) c.loop-at-test.false
