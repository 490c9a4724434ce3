-- `railway_routes::put_past`, `put_over` and `put_laid` meet their contracts. They call each other with the points allowed falling: past a link, over a point with one
-- fewer allowed, with the point laid, and past the next link. Each return is one law of `Putting`. The ways of the minus leg are written first, and those of
-- the plus leg behind them, where there is room for as many again. Assumes nothing.
use Prim.Native.Nat.{◌≤◌, ◌+◌}
use native.Mathlib.Omega.{arith}
use mathlib.Core.Path.{sym, ◌∙◌}
use Rattle.railway_routes.specs.Routes.{way_words, flagged, routes}
use Rattle.railway_routes.proofs.Putting.{past-shut, past-section, past-none, past-last, past-port}
use Rattle.railway_routes.proofs.Putting.{over-stem, laid-barred, laid_on, room-one, room-less}
use Rattle.railway_routes.proofs.+put_laid_put_over_put_past.Goals as goal

pub put_laid-returns-then-barred : goal.put_laid-returns-then-barred
put_laid-returns-then-barred t c =
    let w = c.args.walk in record {
      room = omega arith;
      put = λ r h.
          laid-barred r (routes r (flagged c.args.closed.now) w.left) w.care w.want (record { 0 = c.args.n })
          c.args.plus c.args.out c.args.at _ (sym c.if-barred.true ∙ c.barred.ensures);
    }

pub put_laid-returns : goal.put_laid-returns
put_laid-returns t c =
    let w = c.args.walk in record {
      room = c.put_past.ensures.room;
      put = λ r h.
          laid_on r (routes r (flagged c.args.closed.now) w.left) w.care w.want (record { 0 = c.args.n })
          c.args.plus c.args.out c.args.at _ _ _ _ _ _ c.requires.n_lt_most_points c.requires.out_bound
          (sym c.if-barred.false ∙ c.barred.ensures) c.point_bit-one.ensures
          (c.want_with-lies.ensures c.args.n c.point_bit-one.ensures) (c.link_in-j.ensures r h)
          (c.put_past.ensures.put r h);
    }

pub put_over-returns-in-0 : goal.put_over-returns-in-0
put_over-returns-in-0 t c =
    let w = c.args.walk in record {
      room = omega (arith, c.put_laid-next.ensures.room, c.put_laid.ensures.room);
      put = λ r h.
          over-stem r (routes r (flagged c.args.closed.now) w.left) w.care w.want (record { 0 = c.args.n })
          c.args.leg c.args.at _ _ _ c.in-0.is _ _ (c.put_laid-next.ensures.put r h)
          (c.put_laid.ensures.put r h);
    }

pub put_past-returns-then-closed-x : goal.put_past-returns-then-closed-x
put_past-returns-then-closed-x t c = let w = c.args.walk in record { room = omega arith; put = λ r h. past-shut r _ w.left w.care w.want c.args.j c.args.at _ c.if-j-lt-SECTION_ENDS.true c.if-closed-x.true }

pub put_past-bounds-ways-at : goal.put_past-bounds-ways-at
put_past-bounds-ways-at t c =
    let put-past-room : c.args.at + 3 ≤ way_words = omega (arith, room-one c.args.at c.args.walk.left) in
    omega (arith, put-past-room)

pub put_past-bounds-ways-at-then-j-lt-SECTION_ENDS : goal.put_past-bounds-ways-at-then-j-lt-SECTION_ENDS
put_past-bounds-ways-at-then-j-lt-SECTION_ENDS t c =
    let put-past-room : c.args.at + 3 ≤ way_words = omega (arith, room-one c.args.at c.args.walk.left) in
    omega (arith, put-past-room)

pub put_past-bounds-ways-at-then-j-lt-SECTION_ENDS-2 : goal.put_past-bounds-ways-at-then-j-lt-SECTION_ENDS-2
put_past-bounds-ways-at-then-j-lt-SECTION_ENDS-2 t c =
    let put-past-room : c.args.at + 3 ≤ way_words = omega (arith, room-one c.args.at c.args.walk.left) in
    omega (arith, put-past-room)

pub put_past-returns-then-j-lt-SECTION_ENDS : goal.put_past-returns-then-j-lt-SECTION_ENDS
put_past-returns-then-j-lt-SECTION_ENDS t c = let w = c.args.walk in record { room = room-one c.args.at w.left; put = λ r h. past-section r _ w.left w.care w.want c.args.j c.args.at _ c.if-j-lt-SECTION_ENDS.true c.if-closed-x.false }

pub put_past-returns-then-walk-eq0 : goal.put_past-returns-then-walk-eq0
put_past-returns-then-walk-eq0 t c = let w = c.args.walk in record { room = omega arith; put = λ r h. past-last r _ w.left w.care w.want c.args.j c.args.at _ c.if-j-lt-SECTION_ENDS.false c.if-walk-eq0.true }

pub put_past-put_over-requires : goal.put_past-put_over-requires
put_past-put_over-requires t c =
    let room = room-less c.args.at c.args.walk.left c.if-walk-eq0.false in
    (omega arith, (omega (arith, room), omega arith))

pub put_past-returns-then-j-lt-ENDS : goal.put_past-returns-then-j-lt-ENDS
put_past-returns-then-j-lt-ENDS t c =
    let w = c.args.walk in record {
      room = omega (arith, c.put_over.ensures.room, room-less c.args.at w.left c.if-walk-eq0.false);
      put = λ r h.
          past-port r _ w.left w.care w.want c.args.j c.args.at _ _ _ c.if-j-lt-SECTION_ENDS.false
          c.if-j-lt-ENDS.true c.if-walk-eq0.false (c.put_over.ensures.put r h);
    }

pub put_past-returns-else-j-lt-ENDS : goal.put_past-returns-else-j-lt-ENDS
put_past-returns-else-j-lt-ENDS t c = let w = c.args.walk in record { room = omega arith; put = λ r h. past-none r _ w.left w.care w.want c.args.j c.args.at _ c.if-j-lt-ENDS.false }
