-- What an attach makes of the image of a file.
use Rattle.std.proofs.Common.{◌≡◌, ◌≢◌, ◌⊎◌, ◌≤◌, ℕ, inl, inr, sym, ap, subst, subst₂, ◌∙◌, arith}
use Rattle.std.proofs.lemmas.Option.{same_Some}
use Rattle.sqlite_disk.specs.declared.Disk.{Ghosts}
use Rattle.sqlite_disk.specs.declared.Files.{Files}
use Rattle.sqlite_disk.specs.Disk.{MoreFaults}
use Rattle.sqlite_wal.specs.Recovery.{Image}
use Rattle.sqlite_trees.specs.Objects.{catalog_tree}
use Rattle.sqlite_catalog.specs.Listing.{IsSound}
use Rattle.sqlite_catalog.proofs.ReadLemmas.{lists_once}
use Rattle.sqlite.specs.Schema.{Schema}
use Rattle.sqlite.specs.Tree.{Trees}
use Rattle.sqlite.specs.Effect.{Database}
use Rattle.sqlite.specs.State.{State, Opens, IsLive}
use Rattle.sqlite.specs.Start.{FindsIn}
use Rattle.sqlite.specs.Files.{AreFoundIn, HoldsDatabase, IsNothing, IsEmpty, FailsToOpenFiles, image_of}
use Rattle.sqlite.specs.declared.file.Leftover.{Leftover}
use Rattle.sqlite.specs.declared.error.Error.{Error}
use Rattle.sqlite.specs.declared.error.Error.TheVariants.{SqliteFailure}
use Rattle.sqlite.specs.declared.error.ErrorCode.TheVariants.{OutOfMemory}
use Rattle.sqlite.proofs.ListingLemmas.{empty_is_sound}
use Rattle.am_keeper.specs.declared.rows.Rows.{Rows}
use Rattle.am_keeper_sql.specs.Table.{no_schema}
use Rattle.am_keeper_sql.specs.Image.{HasRows, HoldsRows, FindsRows, IsRefused}
use Rattle.am_keeper_sql.proofs.Begins.{one_table}

-- trees list one schema at most
same_schema : (trees : Trees) (s t : Schema) → IsSound s trees → IsSound t trees → s ≡ t
same_schema trees s t p q = lists_once (trees catalog_tree) s t p.lists q.lists

same_has : (s t : Schema) (trees : Trees) (a b : Rows) → s ≡ t → HasRows (record { schema = s; trees = trees }) a
    → HasRows (record { schema = t; trees = trees }) b → a ≡ b
same_has s t trees a b same (inl x) (inl y) = same_Some _ _ (sym x.1 ∙ y.1)
same_has s t trees a b same (inl x) (inr y) = absurd (one_table t (sym same ∙ x.0) y.0)
same_has s t trees a b same (inr x) (inl y) = absurd (one_table t y.0 (sym same ∙ x.0))
same_has s t trees a b same (inr x) (inr y) = x.1 ∙ sym y.1

empty_schema : (trees : Trees) (s : Schema) → IsSound s trees → IsEmpty trees → s ≡ no_schema
empty_schema trees s sound empty = same_schema trees s no_schema sound (empty_is_sound trees empty.1)

module _ (image : Image) where
  -- the rows that are found are those that the image holds
  pub same_rows : (a b : Rows) → FindsRows image a → HoldsRows image b → a ≡ b
  same_rows a b f (inl h) =
      let trees = f.held h.trees h.held in
      let schema = same_schema h.trees f.schema h.schema (subst (IsSound f.schema) trees f.sound) h.sound in
      same_has f.schema h.schema h.trees a b schema (subst (λ (t : Trees). HasRows
      (record { schema = f.schema; trees = t }) a) trees f.has) h.has
  same_rows a b f (inr (new, none)) = by f.has
    where
      by : HasRows (record { schema = f.schema; trees = f.trees }) a → a ≡ b
      by (inl x) = absurd (one_table f.schema x.0 (empty_schema f.trees f.schema f.sound (new.empty f.trees f.found)))
      by (inr x) = x.1 ∙ sym none

  module _ (s : State) (opens : Opens s) (live : IsLive s) (found : FindsIn image s) where
    reads : AreFoundIn image s.now.trees
    reads = subst (λ (db : Database). AreFoundIn image db.trees) (sym opens.clean) found.reads

    holds : (db : Trees) → HoldsDatabase image db → s.now.trees ≡ db
    holds db h = ap (λ (d : Database). d.trees) opens.clean ∙ found.holds db h

    sound : IsSound s.now.schema s.now.trees
    sound = (live opens.is_open).0

    pub finds : (rows : Rows) → HasRows s.now rows → FindsRows image rows
    finds rows has = record {
      trees = s.now.trees;
      schema = s.now.schema;
      found = reads;
      held = holds;
      sound = sound;
      has = has;
    }

    -- a database without rows of a keeper was not made of an image that holds some
    pub not_held : ((rows : Rows) → HasRows s.now rows → ⊥) → (rows : Rows) → HoldsRows image rows → ⊥
    not_held never rows (inl h) =
        let trees = holds h.trees h.held in
        let schema = same_schema h.trees s.now.schema h.schema (subst (IsSound s.now.schema) trees sound) h.sound in
        never rows (subst₂ (λ (sch : Schema) (t : Trees). HasRows (record { schema = sch; trees = t }) rows)
        (sym schema) (sym trees) h.has)
    not_held never rows (inr (new, none)) = never rows (inr (
      empty_schema s.now.trees s.now.schema sound
          (new.empty s.now.trees reads),
      none,
    ))

pub some_fault : (old new : ℕ) → MoreFaults old new → 1 ≤ new
some_fault old new h = grind (arith, h)

-- an open that failed for another cause than memory
pub open_refused : {D : Type 0} {g : Ghosts D} (image : Image) (files : Files D) (left : Leftover D g) (e : Error)
    → image_of g files ≡ image → e ≢ SqliteFailure OutOfMemory
    → FailsToOpenFiles files left e → IsRefused image left
open_refused image files left e is other (inl memory) = absurd (other memory)
open_refused {D} {g} image files left e is other (inr (inl (named, never))) =
    inr (inr (λ rows h. never (subst (λ (i : Image). ((db : Trees) × HoldsDatabase i db) ⊎ IsNothing i) (sym is)
    (wanted rows h))))
  where
    wanted : (rows : Rows) → HoldsRows image rows → ((db : Trees) × HoldsDatabase image db) ⊎ IsNothing image
    wanted rows (inl h) = inl (h.trees, h.held)
    wanted rows (inr (new, none)) = inr new.nothing
open_refused image files left e is other (inr (inr (inl (named, more)))) = inl (some_fault _ _ more)
open_refused image files left e is other (inr (inr (inr (named, full)))) = inr (inl full)
