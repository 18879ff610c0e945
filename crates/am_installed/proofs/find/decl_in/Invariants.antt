use Rattle.std.proofs.Common.{◌≡◌, drop}
use Rattle.am_model.specs.Receivers.{decl_in}
use Rattle.am_installed.proofs.find.decl_in.Given as goal

-- the components that are left give what all of them give
abbrev pub invariant-loop-decl : goal.invariant-loop-decl
invariant-loop-decl l = decl_in l.kind l.class (drop l.decl-index l.decls) ≡ decl_in l.kind l.class l.decls
