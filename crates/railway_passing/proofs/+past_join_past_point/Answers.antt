-- `railway_passing::past_join` and `past_point` meet their contracts. They call each other with the points allowed falling:
-- past a join, over a point with one fewer allowed, and past the next join. Each return is one law of `Answers`.
-- Assumes nothing.
use native.Mathlib.Omega.{arith}
use mathlib.Core.Path.{◌≡◌, ap}
use Rattle.railway_passing.specs.declared.Passed.{Passed}
use Rattle.railway_passing.proofs.Answers.{past-none, past-section, past_stop, past-port, over-derails, over-on}
use Rattle.railway_passing.proofs.+past_join_past_point.Goals as goal

met : {a b : Passed} → a ≡ b → a.count ≡ b.count
met e = ap (λ (x : Passed). x.count) e

-- PAST A JOIN: to nothing, to a port with no point allowed, to a section, over a point
pub past_join-returns-in_default : goal.past_join-returns-in_default
past_join-returns-in_default t c = record { few = omega (arith, met c.nowhere.ensures); follows = λ r h. past-none r c.args.points c.args.left c.args.j _ c.in_default.is c.nowhere.ensures }

pub past_join-returns-then-left-eq0 : goal.past_join-returns-then-left-eq0
past_join-returns-then-left-eq0 t c =
    record {
      few = omega (arith, met c.nowhere-then-left-eq0.ensures);
      follows = λ r h.
          past_stop r c.args.points c.args.left c.args.j _ _ _ _ c.in-Some.is c.in-Port.is c.if-left-eq0.true
          c.nowhere-then-left-eq0.ensures;
    }

pub past_join-returns-in-Section : goal.past_join-returns-in-Section
past_join-returns-in-Section t c =
    record {
      few = omega (arith, met c.entering.ensures);
      follows = λ r h.
          past-section r c.args.points c.args.left c.args.j _ _ _ _ c.in-Some.is c.in-Section.is
          c.entering.ensures;
    }

pub past_join-returns-else-left-eq0 : goal.past_join-returns-else-left-eq0
past_join-returns-else-left-eq0 t c =
    record {
      few = omega (arith, c.past_point.ensures.few);
      follows = λ r h.
          past-port r c.args.points c.args.left c.args.j _ _ _ _ c.in-Some.is c.in-Port.is c.if-left-eq0.false
          (c.past_point.ensures.follows r h);
    }

pub past_point-meeting-requires : goal.past_point-meeting-requires
past_point-meeting-requires t c = omega (arith, met c.nowhere.ensures)

-- OVER A POINT: the train derails there, or goes on past the join behind it
pub past_point-returns-in-None : goal.past_point-returns-in-None
past_point-returns-in-None t c =
    record {
      few = omega (arith, c.meeting.ensures.more, met c.nowhere.ensures);
      follows = λ r h.
          over-derails r c.args.points c.args.left c.args.n c.args.l _ _ c.lies_plus.ensures c.through-on.ensures _ _
          c.meeting.ensures.first c.in-None.is c.nowhere.ensures;
    }

pub past_point-returns-in-Some : goal.past_point-returns-in-Some
past_point-returns-in-Some t c =
    record {
      few = omega (arith, c.meeting-in-Some.ensures.more, c.past_join.ensures.few);
      follows = λ r h.
          over-on r c.args.points c.args.left c.args.n c.args.l _ _ c.lies_plus.ensures c.through-on.ensures _ _
          c.meeting-in-Some.ensures.first _ _ c.requires c.in-Some.is (c.join_of-j.ensures r h)
          (c.past_join.ensures.follows r h);
    }
