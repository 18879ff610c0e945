use Rattle.std.proofs.Common.{◌≡◌, ◌+◌, ◌++◌, ◌∷◌, ◌∙◌, [], cond, drop, sym, ap, arith}
use Rattle.std.proofs.lemmas.List.{drop_more}
use Rattle.am_model.specs.Candidates.{is_kind}
use Rattle.am_index.specs.declared.key.Key.{Key}
use Rattle.am_index.specs.Keys.{is_under}
use Rattle.am_index.specs.Lists.{spots_at}
use Rattle.am_index.specs.Members.{members_from, spots_where, spots_without}
use Rattle.am_index.proofs.Listing.{step_over, step_noted}
use Rattle.am_index.proofs.lists.note_kind.Goals as goal
use Rattle.am_index.proofs.lists.note_kind.Goals.{then-is_kind+in_ok-note_enabled, else-is_kind}

pub loop-position-preserved : goal.loop-position-preserved
loop-position-preserved c =
    let kind = c.args.kind in
    let owner = c.args.owner.now in
    let at = c.loop-position.position in
    let place = c.loop-position.place in
    let decls = c.as_slice-decls.result.now in
    let decl = c.index-decls-position.result in
    let rest = drop (at + 1) decls in
    let next : drop at decls ≡ decl ∷ rest =
    drop_more decls at decl c.loop-position-test.true ∙ ap (λ x. x ∷ rest) (sym c.index-decls-position.is) in
    let here = λ (key : Key).
    ap (λ ds. spots_at c.loop-position.lists key ++ cond (is_kind key.kind kind)
    (spots_where (λ m. is_under key m.owner m.decl) (members_from kind owner at place ds)) []) (sym next)
    ∙ c.loop-position.invariant.noted key in
    elim c.if-is_kind.branch [
      | then-is_kind+in_ok-note_enabled w ↦ record {
        noted = λ key.
            ap (λ n. spots_at c.if-is_kind.lists key ++ cond (is_kind key.kind kind)
            (spots_where (λ m. is_under key m.owner m.decl) (members_from kind owner (at + 1) n rest)) [])
            w.place-is
            ∙ step_noted key kind owner at place decl rest _ _ (here key) (sym c.is_kind.ensures ∙ w.if-is_kind.true)
            (spots_at c.if-is_kind.lists key)
            (ap (λ l. spots_at l key) w.lists-is ∙ w.in_ok-note_enabled.ensures.noted key);
        others = λ key.
            ap (λ m. spots_without (spots_at m key) owner.uid) w.lists-is ∙ w.in_ok-note_enabled.ensures.others key
            ∙ c.loop-position.invariant.others key;
        place = omega arith;
      }
      | else-is_kind w ↦ record {
        noted = λ key.
            ap (λ n. spots_at c.if-is_kind.lists key ++ cond (is_kind key.kind kind)
            (spots_where (λ m. is_under key m.owner m.decl) (members_from kind owner (at + 1) n rest)) [])
            w.place-is
            ∙ ap (λ l. spots_at l key ++ cond (is_kind key.kind kind)
            (spots_where (λ m. is_under key m.owner m.decl) (members_from kind owner (at + 1) place rest)) [])
            w.lists-is
            ∙ step_over key kind owner at place decl rest _ _ (here key) (sym c.is_kind.ensures ∙ w.if-is_kind.false);
        others = λ key. ap (λ m. spots_without (spots_at m key) owner.uid) w.lists-is
            ∙ c.loop-position.invariant.others key;
        place = omega arith;
      }
    ]
