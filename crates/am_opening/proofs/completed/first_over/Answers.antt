use Rattle.std.proofs.Common.{◌≡◌, ◌<◌, ◌∙◌, get_or, length, sym}
use Rattle.am_model.specs.Boards.{board_of}
use Rattle.am_history.specs.Opening.{has_too_many}
use Rattle.am_opening.proofs.Finding.{found_here, not_here, there_too}
use Rattle.am_opening.proofs.completed.first_over.Goals as goal
use Rattle.am_opening.proofs.completed.first_over.Goals.{After-has_too_many}

-- the package of a turn is the one at its place
is_there : (c : After-has_too_many) → (c.loop-package.package-index < length c.args.device.now.packages)
    × (c.package-item.result ≡ get_or c.args.device.now.packages c.loop-package.package-index c.package-item.result)
is_there c = there_too c.as_slice-package-items.ensures c.loop-package-test.true c.package-item.is

pub returns-then-has_too_many : goal.returns-then-has_too_many
returns-then-has_too_many c =
    found_here (has_too_many (board_of c.args.device.now)) c.args.device.now.packages c.loop-package.package-index
    c.package-item.result (is_there (goal.at.returns-then-has_too_many c).After-has_too_many)
    (sym c.has_too_many.ensures ∙ c.if-has_too_many.true) c.loop-package.invariant

pub loop-package-preserved : goal.loop-package-preserved
loop-package-preserved c =
    not_here (has_too_many (board_of c.args.device.now)) c.args.device.now.packages c.loop-package.package-index
    c.package-item.result (is_there (goal.at.loop-package-preserved c).After-has_too_many)
    (sym c.has_too_many.ensures ∙ c.if-has_too_many.false) c.loop-package.invariant
