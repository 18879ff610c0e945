use Rattle.std.proofs.Common.{◌≡◌, Bool, true, false, true≢false, not, List, ℕ, nat_eq, refl, sym, ap, subst, ◌∙◌}
use Rattle.std.specs.Cmp.Lexicographic.{same_text, nat_list_eq_equiv, pointwise}
use Rattle.sqlite_schema.specs.declared.schema.Index.{Index}
use Rattle.am_keeper_sql.specs.Table.{kept_index}
use Rattle.am_keeper_sql.proofs.Shapes.{index_is, index_name}
use Rattle.am_keeper_sql.proofs.shape.is_index.Goals as goal

told : (b : Bool) → false ≡ not b → true ≡ b
told true h = refl
told false h = absurd (let e = h in cc)

untold : (b : Bool) → true ≡ not b → b ≡ true → ⊥
untold true h is = true≢false h
untold false h is = true≢false (sym is)

own_text : (a b : List ℕ) → a ≡ b → pointwise nat_eq a b ≡ true
own_text a b is = subst (λ other. pointwise nat_eq a other ≡ true) is (nat_list_eq_equiv.refl a)

pub returns-then-ne : goal.returns-then-ne
returns-then-ne c =
    let name = λ (is : c.args.index.now ≡ kept_index). c.as_slice.ensures ∙ ap (λ (i : Index). i.name) is
    ∙ sym index_name ∙ sym c.as_bytes.ensures.value in
    (λ h. absurd (true≢false (sym h)), λ is. absurd (untold _ c.if-ne.ensures (own_text _ _ (name is))))

pub returns : goal.returns
returns c =
    let name = sym c.as_slice.ensures ∙ same_text _ _ (told _ c.if-ne.ensures) ∙ c.as_bytes.ensures.value
    ∙ index_name in (
      λ h. index_is c.args.index.now name c.if-index-ne1.false c.if-index-ne0.false (c.is_of_key.ensures.columns h)
          (c.is_of_key.ensures.order h) (c.is_of_key.ensures.unique h),
      c.is_of_key.ensures.all,
    )
