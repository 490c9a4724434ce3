-- `runs_text::railway_runs` meets its contract: the text stands whole in a buffer of the call's own, and what is put from there is the text. Assumes nothing.
use Rattle.text.proofs.Appending.{front_fits, front_cut}
use Rattle.answer_lines.proofs.Lines.{made-put}
use Rattle.game.proofs.Accepted.{facts}
use lib.ListN.{get_or}
use Rattle.runs_text.proofs.Spelling.{text-short, railway-put}
use Rattle.runs_text.proofs.railway_runs.Goals as goal

pub spell_runs-n-requires : goal.spell_runs-n-requires
spell_runs-n-requires c = (facts c.args.r c.requires).few-trains

pub slice_bounds-own-end : goal.slice_bounds-own-end
slice_bounds-own-end c = front_fits c.spell_runs-n.ensures c.spell_runs-n.auto.out

pub slice_bounds-put-end : goal.slice_bounds-put-end
slice_bounds-put-end c = front_cut c.spell_runs-n.ensures c.spell_runs-n.auto.out

pub returns : goal.returns
returns c =
    let r = c.args.r in
    railway-put r c.requires _ _ _ _ c.runs_of-runs.ensures
    (made-put c.spell_runs-n.ensures
    (text-short (λ t. get_or c.runs_of-runs.result t 0) r.trains (facts r c.requires).few-trains)
    c.put.ensures)
