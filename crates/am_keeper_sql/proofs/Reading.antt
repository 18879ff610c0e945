-- A selection that is read one row at a time.
use Rattle.std.specs.Prelude.{IsSome}
use Rattle.std.proofs.Common.{◌≡◌, inl, inr, List, [], ◌∷◌, ◌++◌, Some, None, IsTrue, refl, sym, ap, subst, ◌∙◌}
use Rattle.std.specs.List.Sorted.{IsPermutation}
use Rattle.sqlite.specs.Store.{Ghosts}
use Rattle.sqlite.specs.Order.{Row}
use Rattle.sqlite.specs.Effect.{Database}
use Rattle.sqlite.specs.Held.{Held, state}
use Rattle.sqlite.specs.Given.{IsPlain, HasGiven, HasBegun, Advances}
use Rattle.sqlite.specs.Listing.{understood}
use Rattle.sqlite.specs.State.{IsUnchanged, Shown}
use Rattle.sqlite.proofs.Callers.{begun_plain, unchanged_then}
use Rattle.am_keeper.specs.declared.rows.Rows.{Rows}
use Rattle.am_keeper.specs.Rows.{no_rows, with_row}
use Rattle.am_keeper_sql.specs.Table.{kept_schema}
use Rattle.am_keeper_sql.specs.Told.{row_said, shown_in, told_in}
use Rattle.am_keeper_sql.proofs.Said.{AllSay, with_said, said_from}
use Rattle.am_keeper_sql.specs.Honest.{HoldsTable, IsSettled, StaysSeen}
use Rattle.am_keeper_sql.specs.Reading.{PutsNext}
use Rattle.am_keeper_sql.proofs.Texts.{select_text, select_plain}
use Rattle.am_keeper_sql.proofs.Seen.{shown_open, unchanged_seen}
use Rattle.am_keeper_sql.proofs.Selects.{selects, told_shown}

told_more : (rows : Rows) (given : List Row) (values : Row) → said_from rows (given ++ values ∷ [])
    ≡ with_said (said_from rows given) (row_said values)
told_more rows [] values = refl
told_more rows (first ∷ given) values = told_more (with_said rows (row_said first)) given values

said_more : (given : List Row) (values : Row) → AllSay given → AllSay (values ∷ []) → AllSay (given ++ values ∷ [])
said_more [] values all last = last
said_more (first ∷ given) values all last = (all.0, said_more given values all.1 last)

module _ {S : Type 0} (g : Ghosts S) where
  -- the rows that were given so far say these kept rows, and the database is as it was
  pub record HasRead (old new : Held S) (rows : Rows) : Type 0 where
    pub given : List Row
    pub has : HasGiven g select_text [] new given
    pub same : IsUnchanged (state g old) (state g new)
    pub told : said_from no_rows given ≡ rows
    pub says : AllSay given

  pub begun_open : (old new : Held S) → HasBegun g select_text [] old new → IsTrue (state g old).is_open
  begun_open old new (inl h) = h.1.0.was_open
  begun_open old new (inr h) = shown_open select_text [] (state g old) (state g new) _ h.1

  pub begun_read : (old new : Held S) → old.schema ≡ kept_schema → HasBegun g select_text [] old new
      → HasRead old new no_rows
  begun_read old new has h =
      let begun = begun_plain g select_text [] old new (subst (λ s. IsPlain (understood s select_text)) (sym has)
      select_plain) h in
      record { given = []; has = begun.0; same = begun.1; told = refl; says = tt }

  module _ (old mid new : Held S) (was : Rows) (read : HasRead old mid was) where
    pub read_more : (now : Rows) → IsUnchanged (state g mid) (state g new) → PutsNext g mid new was now
        → HasRead old new now
    read_more now same next =
        let last : AllSay (next.values ∷ []) = (subst (λ o. IsSome o) (sym next.says) refl, tt) in
        record {
          given = read.given ++ next.values ∷ [];
          has = next.given select_text [] read.given read.has;
          same = unchanged_then _ _ _ read.same same;
          told = told_more no_rows read.given next.values ∙ ap (λ o. with_said (said_from no_rows read.given) o)
              next.says ∙ ap (λ rows. with_row rows next.row) read.told ∙ sym next.put;
          says = said_more read.given next.values read.says last;
        }

    pub read_settled : IsSettled (state g old) → StaysSeen (state g old) (state g mid)
    read_settled was = unchanged_seen (state g old) (state g mid) was read.same

    -- at the end of the selection the kept rows are those that the table tells
    pub read_all : HoldsTable (state g old).now → Advances g mid new None → told_in (state g old).now.trees ≡ Some was
    read_all holds end =
        let db = (state g old).now in
        let shown : Shown select_text [] (state g mid) (state g new) read.given = end select_text [] read.given read.has
        in
        let same : (state g mid).now ≡ db = read.same.0.now_is in
        let of_mid : IsPermutation (shown_in (state g mid).now.trees) read.given = selects (state g mid) (state g new)
        read.given (ap (λ (d : Database). d.schema) same ∙ holds.schema) shown in
        let of_old : IsPermutation (shown_in db.trees) read.given = subst
        (λ (d : Database). IsPermutation (shown_in d.trees) read.given) same of_mid in
        told_shown db holds read.given of_old read.says ∙ ap Some read.told
