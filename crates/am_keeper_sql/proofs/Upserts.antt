-- What the upsert does to the rows of the table.
use Rattle.std.proofs.Common.{◌≡◌, ◌⊎◌, inl, inr, ℕ, ℤ, List, [], ◌∷◌, ◌++◌, map, filter, true, false, Option, Some, None, Ok, Err, Result, OnOk, refl, sym, ap, subst, ◌∙◌}
use Rattle.sqlite.specs.declared.types.Value.{Value}
use Rattle.sqlite.specs.declared.types.Value.TheVariants.{Null}
use Rattle.sqlite.specs.Order.{Row}
use Rattle.sqlite.specs.Source.TheVariants.{Values}
use Rattle.sqlite.specs.Command.{Command}
use Rattle.sqlite.specs.Command.TheVariants.{InsertOr, CreateTable}
use Rattle.sqlite.specs.Edit.{edit_of, edited}
use Rattle.sqlite.specs.Cast.{cast_row}
use Rattle.sqlite.specs.Change.{created, next_tree}
use Rattle.sqlite_rules.specs.declared.error.Rowids.TheVariants.{Chosen, Given}
use Rattle.sqlite_rules.specs.Edit.{with_rowid, is_taken, are_fresh, left_by}
use Rattle.sqlite_rules.specs.Keys.{AreConflicts}
use Rattle.sqlite_rules.specs.Calls.{ids_of}
use Rattle.sqlite_schema.specs.declared.command.Conflict.TheVariants.{Abort}
use Rattle.sqlite_schema.specs.declared.schema.Keys.TheVariants.{Enforced}
use Rattle.sqlite.specs.Does.{Tally, Does, lacks_sequence}
use Rattle.sqlite.specs.Rows.{Written, Task, Upserts, Puts, Clears, Tries, TriesEach, count_of, nothing, shown}
use Rattle.sqlite.specs.Tree.{Trees, rowid, put_row}
use Rattle.sqlite.specs.declared.error.Error.{Error}
use Rattle.sqlite.specs.Listing.{understood}
use Rattle.sqlite.specs.Effect.{Database, IsDatabase}
use Rattle.std.specs.List.Sorted.{IsPermutation}
use Rattle.std.proofs.lemmas.Bool.{and_parts, not-true}
use Rattle.sqlite_trees.specs.View.{IsShaped}
use Rattle.sqlite_trees.specs.declared.store.Shape.TheVariants as shape
use Rattle.sqlite.specs.State.{State, mode_of, Writes, Executes}
use Rattle.sqlite.proofs.Callers.{statement_of, runs_as, one_step}
use Rattle.am_keeper_sql.specs.Table.{kept, kept_schema, no_schema, upsert_text}
use Rattle.am_keeper_sql.specs.Honest.{IsSettled, HoldsTable}
use Rattle.am_keeper_sql.proofs.Found.{found_are}
use Rattle.am_keeper_sql.proofs.Texts.{is_met, updated, create_text, create_is, create_plain, upsert_is, upsert_plain, given_terms, clause}

-- the row of these values, with the next rowid
abbrev pub put_row_for : List Row → Row → Row
put_row_for rows given = with_rowid Chosen rows (cast_row kept (Null ∷ given))

-- no row has the kind, uid and word of the new one, which is added
abbrev pub Adds : Trees → Row → Trees → Type 0
Adds db new after =
    AreConflicts (Some (1 ∷ 2 ∷ 3 ∷ [])) kept_schema.indexes kept (db 0) new []
    × (is_taken (db 0) (cast_row kept new) ≡ false) × (after 0 ≡ put_row (cast_row kept new) (db 0))

-- a row has the kind, uid and word of the new one, and its other columns become those of the new one
abbrev pub Replaces : Row → Trees → Row → Trees → Type 0
Replaces given db new after =
    (there : Row) × (more : List Row) × AreConflicts (Some (1 ∷ 2 ∷ 3 ∷ [])) kept_schema.indexes kept (db 0) new
    (there ∷ more)
    × (rows : List Row) × IsPermutation (map (updated (given ++ rowid there ∷ shown kept new))
    (filter (is_met (given ++ rowid there ∷ shown kept new)) (db 0))) rows
    × (are_fresh (left_by db (edit_of db kept (ids_of rows) Given 1 rows))
    (edit_of db kept (ids_of rows) Given 1 rows).news ≡ true)
    × (after 0 ≡ edited db (edit_of db kept (ids_of rows) Given 1 rows))

-- the row of these values is put in the place of the one with its kind, uid and word, or added
abbrev pub IsUpserted : Row → Trees → Trees → Type 0
IsUpserted given db after = Adds db (put_row_for (db 0) given) after ⊎ Replaces given db (put_row_for (db 0) given)
    after

-- a part that gave a value did not stop on the way
went : {B E R : Type 0} {b : B} {Stops : E → Type 0} → ((stop : E) × Stops stop × (Ok b ≡ Err stop)) ⊎ R → R
went (inl stopped) = absurd (let e = stopped.2 in cc)
went (inr on) = on

same_value : {B E : Type 0} {a b : B} → ◌≡◌ {A = Result B E} (Ok a) (Ok b) → a ≡ b
same_value e = cc

-- outside a transaction a write is committed, and leaves a database
wrote : {command : Command} {text : List ℕ} {given : Row} {count : ℕ} (old new : State)
    → Writes old new None command text given count → IsSettled old → IsSettled new × IsDatabase new.now
wrote old new w was = (
  record { settled = sym (w.shown.committed_is ∙ rw was.autocommit refl); autocommit = w.shown.mode ∙ was.autocommit },
  w.sound,
)

-- the table is made, with no row
pub creates : (old new : State) (count : ℕ) → old.now.schema ≡ no_schema → IsSettled old
    → Executes create_text [] old new (Ok count) → IsSettled new × HoldsTable new.now × (new.now.trees 0 ≡ [])
creates old new count has was h =
    let w = subst (λ t. Writes old new None CreateTable t [] count) create_is.1
    (runs_as create_text [] old new no_schema has CreateTable create_is.0 create_plain count h) in
    let all = went w.changed in
    let first = went all.1 in
    let made = first.1 in
    let both : Ok made.table ≡ Ok kept = sym made.defined ∙ create_is.2 in
    let same : made.table ≡ kept = cc in
    let schema : first.0.schema ≡ kept_schema = made.is ∙ ap (λ s. created s made.table) has
    ∙ ap (created no_schema) same in
    let plain : lacks_sequence first.0.schema ≡ false = ap lacks_sequence schema in
    let now : new.now ≡ first.0 = ap (λ (p : Tally × Database). p.1) (same_value all.2)
    ∙ same_value (rw plain at first.2) in
    let empty : new.now.trees 0 ≡ [] = ap (λ (d : Database). d.trees 0) now
    ∙ subst (λ s. first.0.trees (next_tree s) ≡ []) has made.empty in
    let after = wrote old new w was in (
      after.0,
      record {
        schema = ap (λ (d : Database). d.schema) now
            ∙ schema;
        sound = after.1;
        rising = subst (IsShaped shape.Table) (sym empty) (tt, tt);
      },
      empty,
    )

module _ (v0 v1 v2 v3 v4 v5 v6 : Value) where
  -- the values of a row, and the row as the statement is given it
  abbrev pub params : Row
  params = v0 ∷ v1 ∷ v2 ∷ v3 ∷ v4 ∷ v5 ∷ v6 ∷ []

  abbrev pub source : Row
  source = Null ∷ params

  abbrev new_row : List Row → Row
  new_row rows = put_row_for rows params

  -- what the statement reads
  abbrev pub task_for : Option ℕ → Task
  task_for limit = record { limit = limit; keys = Enforced; schema = kept_schema; table = kept; params = params }

  -- a row that was tried is put or met
  tried_up : (limit : Option ℕ) (new : Row) (db : Trees) (o : Written)
      → Tries (task_for limit) Abort (clause ∷ []) new db (Ok o) → Upserts (task_for limit) Abort new db (clause ∷ [])
      (Ok o)
  tried_up limit new db o (inl no_id) = absurd (let e = no_id.1 in cc)
  tried_up limit new db o (inr (None, judged, ups)) = ups
  tried_up limit new db o (inr (Some why, judged, refused)) = absurd (let e = refused in cc)

  -- the statement is the upsert of the one row
  pub upserts : (old new : State) (count : ℕ) → old.now.schema ≡ kept_schema
      → Executes upsert_text params old new (Ok count)
      → (new.now.schema ≡ kept_schema) × ((w : Written) × (w.trees ≡ new.now.trees)
      × Upserts (task_for old.step_limit) Abort (new_row (old.now.trees 0)) old.now.trees (clause ∷ []) (Ok w))
  upserts old new count has h =
      let db = old.now.trees in
      let command = InsertOr 0 Abort (Values given_terms 8) (clause ∷ []) in
      let w = runs_as upsert_text params old new kept_schema has command upsert_is upsert_plain count h in
      let text = statement_of upsert_text (understood kept_schema upsert_text) in
      let done = went (subst (λ s. Does old.step_limit (mode_of old) params (record old.now { schema = s }) text None
      command (Ok (w.tally, new.now))) has w.changed) in
      let now : new.now ≡ record { schema = kept_schema; trees = done.0.trees } = ap (λ (p : Tally × Database). p.1)
      (same_value (went (went done.2).2).2) in
      let given = went done.1 in
      let counter = went given.2 in
      let each = went counter.2 in
      let counted = went each.2 in
      let one = went (subst (λ (rows : List Row). TriesEach (task_for old.step_limit) Abort (clause ∷ []) rows
      (count_of counter.0) (nothing db) (Ok each.0)) given.1.1 each.1) in
      let trees : done.0.trees ≡ one.0.trees = ap (λ (it : Written). it.trees) (same_value counted.2)
      ∙ same_value counted.1 ∙ ap (λ (p : Written × ℤ). p.0.trees) (same_value one.2) in (
        ap (λ (d : Database). d.schema) now,
        (
          one.0,
          sym trees ∙ sym (ap (λ (d : Database). d.trees) now),
          tried_up
              old.step_limit (new_row (db 0)) db one.0 one.1,
        ),
      )

  clears_puts : (limit : Option ℕ) (new : Row) (db : Trees) (found : List Row) (w : Written)
      → Clears (task_for limit) Abort new db found (Ok w) → Puts (task_for limit) new db (Ok w)
  clears_puts limit new db [] w h = h
  clears_puts limit new db (x ∷ more) w h = h

  puts_adds : (limit : Option ℕ) (new : Row) (db : Trees) (w : Written) → Puts (task_for limit) new db (Ok w)
      → (is_taken (db 0) (cast_row kept new) ≡ false) × (w.trees 0 ≡ put_row (cast_row kept new) (db 0))
  puts_adds limit new db w h =
      let edit = went h in
      let applies = one_step kept_schema Enforced db edit.0 (edit_of db kept [] Given 0 (new ∷ [])) refl edit.1 in
      (not-true _ (and_parts _ _ applies.fresh).0, ap (λ (it : Written). it.trees 0) (same_value edit.2) ∙ applies.rows)

  pub outcome : (limit : Option ℕ) (new : Row) (db : Trees) (w : Written)
      → Upserts (task_for limit) Abort new db (clause ∷ []) (Ok w)
      → Adds db new w.trees ⊎ Replaces params db new w.trees
  outcome limit new db w ([], none, meets) = let put = puts_adds limit new db w
      (clears_puts limit new db meets.0 w meets.2) in inl (none, put.0, put.1)
  outcome limit new db w (there ∷ more, some, meets) =
      let queried = went meets in
      let edit = went queried.2 in
      let applies = one_step kept_schema Enforced db edit.0 (edit_of db kept (ids_of queried.0) Given 1 queried.0) refl
      edit.1 in
      inr (
        there,
        more,
        some,
        queried.0,
        found_are db _ queried.0 queried.1,
        applies.fresh,
        ap
            (λ (it : Written). it.trees 0) (same_value edit.2) ∙ applies.rows,
      )

  -- what one upsert leaves
  pub one_upsert : (old new : State) (count : ℕ) → old.now.schema ≡ kept_schema → IsSettled old
      → Executes upsert_text params old new (Ok count)
      → IsSettled new × (new.now.schema ≡ kept_schema) × IsDatabase new.now
      × IsUpserted params old.now.trees new.now.trees
  one_upsert old new count has was h =
      let ran = wrote old new (runs_as upsert_text params old new kept_schema has
      (InsertOr 0 Abort (Values given_terms 8) (clause ∷ [])) upsert_is upsert_plain count h) was in
      let w = upserts old new count has h in (
        ran.0,
        w.0,
        ran.1,
        subst (λ trees. IsUpserted params old.now.trees trees) w.1.1
            (outcome old.step_limit (new_row (old.now.trees 0)) old.now.trees w.1.0 w.1.2),
      )

-- the same of a statement that may be refused
pub made : (old new : State) (r : Result ℕ Error) → old.now.schema ≡ no_schema → IsSettled old
    → Executes create_text [] old new r
    → OnOk r (IsSettled new × HoldsTable new.now × (new.now.trees 0 ≡ []))
made old new (Err e) has was h = tt
made old new (Ok count) has was h = creates old new count has was h
