-- Moves under whole settings: table and ways are the railway's, a move on them is that under the entry's setting, and a setting acts as its entry. Assumes nothing.
use mathlib.Core.Path.{◌≡◌, refl, sym, ◌∙◌}
use mathlib.Core.Logic.{inl, inr}
use mathlib.Core.Bool.{true, false, cond}
use mathlib.Core.Option.{none, some}
use Prim.Native.Nat.{ℕ}
use Rattle.laws.proofs.Bools.{bool?}
use Rattle.railway.specs.declared.Railway.{Railway}
use Rattle.railway.specs.Record.{is_closed}
use Rattle.railway_routes.specs.Routes.{Laid}
use Rattle.game.specs.Game.{may}
use Rattle.game.specs.Claim.{Alike}
use Rattle.game.specs.Setting.{Setting}
use Rattle.game.specs.Moves.{move_of, game_of}
use Rattle.game_tables.specs.Entries.{setting_at}
use Rattle.game_tables.proofs.Entries.{entry-acts}
use Rattle.railway_compiled.proofs.compile.Met as compile
use Rattle.railway_compiled.specs.Table.{Compiled, compilation}
use Rattle.game_case.proofs.case_ways.Met as ways
use Rattle.game_moves.specs.Answers.{move_under}
use Rattle.game_moves.proofs.move_of.Met as move
use Rattle.statements.specs.Moving.{MovesHold, MovesRun}

-- what settings that are alike make of a move is the same
move-alike : (r : Railway) (p v : ℕ) (s : Setting) (t : ℕ) → Alike (game_of r) p s (setting_at r p v) → move_under r p v t ≡ cond (may (game_of r) p s t) (some (move_of r p s t)) none
unfolding move_under
move-alike r p v s t like = elim (bool? (may (game_of r) p s t)) [
  | inl e ↦ let o : may (game_of r) p (setting_at r p v) t ≡ true = sym (like.same-trains t) ∙ e in let q : move_of r p s t ≡ move_of r p (setting_at r p v) t = like.same_ends t e in rw (e, o, q)
  | inr e ↦ let o : may (game_of r) p (setting_at r p v) t ≡ false = sym (like.same-trains t) ∙ e in rw (e, o)
]

pub moves-hold : MovesHold
moves-hold κs a c left accepted compiled κsʷ d w leftʷ one laid κs' b m left' same ways moved apart s entry =
    let table : Compiled a.0 (compilation c).table = compiled.accepted accepted in
    let way : Laid a.0 (is_closed a.0) w = rw one at laid in
    moved a.0 (rw same table) (rw ways way)
    ∙ move-alike a.0 b.1.1.0 b.1.1.1.0 s b.1.1.1.1.0 (rw entry (entry-acts a.0 accepted b.1.1.0 apart s))

pub moves-run : MovesRun
moves-run =
    record {
      whole = moves-hold;
      compile = record { asks = λ κs a. tt; tells = λ κs a answer left. refl; meets = compile.met };
      ways = record { asks = λ κs a. tt; tells = λ κs a answer left. refl; meets = ways.met };
      move = record { asks = λ κs a. tt; tells = λ κs a answer left. refl; meets = move.met };
    }
