use Rattle.std.proofs.Common.{rules, tests}
use Rattle.am_index.proofs.Dropping.{dropped}
use Rattle.am_index.proofs.lists.drop_spots.Goals as goal

pub returns : goal.returns
returns c = λ key.
    dropped _ c.args.uid _ (λ k v b w g t. search (rules, tests)) _ _ c.retain.ensures.was_unique
    c.retain.ensures.filtered key
