use Rattle.std.proofs.Common.{◌++◌, ◌∷◌, [], List, sym, subst, ◌∙◌}
use Rattle.am_types.specs.declared.device.Package.{Package}
use Rattle.am_model.specs.Boards as boards
use Rattle.am_installed.specs.Installed.{AreInstalled}
use Rattle.am_index.specs.Standing.{StandsFor}
use Rattle.am_types.proofs.Results.{from_err, from_ok}
use Rattle.am_resolve.proofs.Standing.{listable, without_last}
use Rattle.am_resolve.proofs.board.Board.add_package.Goals as goal
use Rattle.am_resolve.proofs.board.Board.add_package.Goals.{After-is_err-2}

-- the packages with the new one are installed
installed : (c : After-is_err-2) → AreInstalled (c.self.inside.installed.packages ++ c.args.«package» ∷ [])
installed c = subst (λ (b : boards.Board). AreInstalled (b.packages ++ c.args.«package» ∷ [])) (sym c.self.view_is)
    c.requires

-- the index represents the packages with the new one
added : (c : After-is_err-2) → StandsFor c.add.new.self (c.self.inside.installed.packages ++ c.args.«package» ∷ [])
added c =
    from_ok c.add.result c.add.ensures.added (sym c.is_err.ensures.value ∙ c.if-is_err.false)
    c.self.inside.installed.packages c.self.invariant (listable _ (installed c))

pub invariant_of-self-then-is_err-2 : goal.invariant_of-self-then-is_err-2
invariant_of-self-then-is_err-2 c =
    subst (λ (b : boards.Board). StandsFor c.drop_uid.new.self b.packages)
    (sym (from_err c.add_package-added.result c.add_package-added.ensures.same
    (sym c.is_err-2.ensures.value ∙ c.if-is_err-2.true)))
    (subst (λ (l : List Package). StandsFor c.drop_uid.new.self l)
    (without_last c.self.inside.installed.packages c.args.«package»
    (installed (goal.at.invariant_of-self-then-is_err-2 c).After-is_err-2))
    (c.drop_uid.ensures _ (added (goal.at.invariant_of-self-then-is_err-2 c).After-is_err-2)))

pub invariant_of-self-else-is_err-2 : goal.invariant_of-self-else-is_err-2
invariant_of-self-else-is_err-2 c =
    subst (λ (b : boards.Board). StandsFor c.add.new.self b.packages)
    (sym (from_ok c.add_package-added.result c.add_package-added.ensures.added
    (sym c.is_err-2.ensures.value ∙ c.if-is_err-2.false)))
    (added (goal.at.invariant_of-self-else-is_err-2 c).After-is_err-2)
