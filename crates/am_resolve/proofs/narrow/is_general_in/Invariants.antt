use Rattle.std.proofs.Common.{◌≡◌, ◌+◌, ◌≤◌, drop}
use Rattle.am_resolve.specs.Narrowing.{cost_in, is_general_in}
use Rattle.am_resolve.proofs.narrow.is_general_in.Given as goal

-- the components that are left give what all of them give, within the tests that are left
abbrev pub invariant-loop-decl : goal.invariant-loop-decl
invariant-loop-decl g l = record {
  general : is_general_in l.intent l.class (drop l.decl-index l.decl-items) ≡ is_general_in l.intent l.class l.decls;
  tests : l.steps + cost_in l.intent l.class (drop l.decl-index l.decl-items) ≤ l.initial.steps + cost_in l.intent
      l.class l.decls;
}
