use Rattle.std.proofs.Common.{◌≡◌, ◌++◌, ◌≤◌, [], cond, drop}
use Rattle.am_model.specs.Candidates.{is_kind}
use Rattle.am_index.specs.declared.key.Key.{Key}
use Rattle.am_index.specs.Keys.{is_under}
use Rattle.am_index.specs.Lists.{spots_at, KeepsOthers}
use Rattle.am_index.specs.Members.{members_from, spots_where}
use Rattle.am_index.proofs.lists.note_kind.Given as goal

-- what is listed so far, and what the components that are left add, is what all of them add
abbrev pub invariant-loop-position : goal.invariant-loop-position
invariant-loop-position l = record {
  noted : (key : Key) →
      spots_at l.lists key ++ cond (is_kind key.kind l.kind) (spots_where (λ m. is_under key m.owner m.decl)
      (members_from l.kind l.owner l.position l.place (drop l.position l.decls))) []
      ≡ spots_at l.initial.lists key ++ cond (is_kind key.kind l.kind)
      (spots_where (λ m. is_under key m.owner m.decl) (members_from l.kind l.owner 0 0 l.decls)) [];
  others : KeepsOthers l.owner.uid l.initial.lists l.lists;
  place : l.place ≤ l.position;
}
