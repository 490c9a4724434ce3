-- What opening a desk is answered with: it stands at the start; the start has no figure; or a refusal. Assumes nothing.
use Rattle.railway.specs.declared.Refusal.{Refusal}

pub data OpenAnswer : Type 0 where
  Opened : OpenAnswer
  NoFigure : OpenAnswer
  Refused : Refusal → OpenAnswer
