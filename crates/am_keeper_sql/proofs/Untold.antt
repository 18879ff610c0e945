-- A selection that fails: the disk had a fault, or a row of the table says no kept row.
use Rattle.std.specs.Prelude.{IsSome}
use Rattle.std.proofs.Common.{◌≡◌, inl, inr, List, [], ◌∷◌, ◌++◌, Option, Some, None, IsTrue, true≢false, refl, sym, ap, subst, ◌∙◌}
use Rattle.std.specs.List.Sorted.{IsPermutation}
use Rattle.sqlite.specs.Store.{Ghosts}
use Rattle.sqlite.specs.Order.{Row}
use Rattle.sqlite.specs.Effect.{Database}
use Rattle.sqlite.specs.Clock.{timed}
use Rattle.sqlite.specs.Held.{Held, state}
use Rattle.sqlite.specs.Given.{HasGiven}
use Rattle.sqlite.specs.Listing.{understood}
use Rattle.sqlite.specs.State.{State, IsUnchanged, Begins}
use Rattle.sqlite.proofs.Callers.{command_of, EndsIn, given_begin, begins_shown}
use Rattle.sqlite_trees.proofs.ListLemmas.{all-permutation}
use Rattle.am_keeper.specs.declared.rows.Rows.{Rows}
use Rattle.am_keeper.specs.Rows.{no_rows}
use Rattle.am_keeper_sql.specs.Table.{kept_schema}
use Rattle.am_keeper_sql.specs.Told.{row_said, shown_in, told_in}
use Rattle.am_keeper_sql.specs.Honest.{HoldsTable}
use Rattle.am_keeper_sql.specs.Failing.{Lasts, FailsToMove, FailsToTell}
use Rattle.am_keeper_sql.proofs.Said.{AllSay, all_told}
use Rattle.am_keeper_sql.proofs.Texts.{select_text, select_is}
use Rattle.am_keeper_sql.proofs.Failures.{then_more, select_fails}
use Rattle.am_keeper_sql.proofs.Selects.{selects}
use Rattle.am_keeper_sql.proofs.Reading.{HasRead}

none_if : {X : Type 0} (o : Option X) → (IsSome o → ⊥) → o ≡ None
none_if None never = refl
none_if (Some x) never = absurd (never refl)

said_at : (front : List Row) (values : Row) (tail : List Row) → AllSay ((front ++ values ∷ []) ++ tail)
    → IsSome (row_said values)
said_at [] values tail all = all.0
said_at (first ∷ front) values tail all = said_at front values tail all.1

-- the selection ends, so the rows that it gave first are among those of the table
among : (s : State) (rows : List Row) → s.now.schema ≡ kept_schema → IsTrue s.is_open → Begins select_text [] s rows
    → (tail : List Row) × IsPermutation (shown_in s.now.trees) (rows ++ tail)
among s rows has live begun =
    let still : IsUnchanged s s = (
      record {
        was_open = live;
        is_open = live;
        now_is = refl;
        committed_is = refl;
        mode =
            refl;
      },
      record { changes = refl; last_rowid = refl },
      refl,
    ) in
    let whole = begins_shown select_text [] s s rows begun still (λ c db it source.
    let command = ap command_of (sym it.is ∙ ap (λ schema. understood schema select_text) has) ∙ select_is.0 in
    subst (λ k. EndsIn k db (timed [] c.formats it.now)) (sym command) tt) in
    (whole.0, selects s s (rows ++ whole.0) has whole.1)

module _ {S : Type 0} (g : Ghosts S) (old mid new : Held S) (rows : Rows) (read : HasRead g old mid rows)
    (holds : HoldsTable (state g old).now) where
  pub unread : IsTrue (state g mid).is_open → (state g mid).step_limit ≡ None → Lasts (state g old) (state g mid)
      → FailsToMove g mid new → FailsToTell (state g old) (state g new)
  unread live none lasts (inl (e, other, fails)) =
      let has = ap (λ (d : Database). d.schema) read.same.0.now_is ∙ holds.schema in
      elim (select_fails (state g mid) (state g new) e has live none (fails select_text [] read.given read.has)) [
        | inl memory ↦ absurd (other memory)
        | inr more ↦ inl (then_more (state g old).faults (state g mid).faults (state g new).faults lasts.counts more)
      ]
  unread live none lasts (inr (values, gives, same, unsaid)) =
      let given : HasGiven g select_text [] new (read.given ++ values ∷ []) = gives select_text [] read.given read.has
      in
      let now : (state g new).now ≡ (state g old).now = same.0.now_is ∙ read.same.0.now_is in
      let has = ap (λ (d : Database). d.schema) now ∙ holds.schema in
      let found = among (state g new) (read.given ++ values ∷ []) has same.0.is_open
      (given_begin g select_text [] new _ given) in
      inr (none_if (told_in (state g old).now.trees) (λ told.
      let all : AllSay (shown_in (state g new).now.trees) = subst (λ (d : Database). AllSay (shown_in d.trees))
      (sym now) (all_told no_rows (shown_in (state g old).now.trees) told) in
      let says = said_at read.given values found.0 (all-permutation (λ values. IsSome (row_said values)) _ _ found.1
      all) in
      true≢false (sym (subst IsSome unsaid says))))
