use Rattle.am_baton.proofs.Moves.{opens, empty_first}
use Rattle.am_baton.proofs.sharing.lay.Goals as goal

pub push_as-requires-clause-rule : goal.push_as-requires-clause-rule
push_as-requires-clause-rule g c =
    (opens _ _ _ _ c.requires.fresh c.requires.some, empty_first _ _ c.requires.fresh)
