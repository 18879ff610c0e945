-- The rows of a table in a file have rising rowids.
use Rattle.std.proofs.Common.{◌≡◌, inl, inr, ℕ, List, true, refl, sym, subst, arith}
use Rattle.std.proofs.Math.Logic.{∥∥₁_elim}
use Rattle.sqlite.specs.Tree.{Trees}
use Rattle.sqlite.specs.Files.{AreFoundIn}
use Rattle.sqlite_wal.specs.Recovery.{Image}
use Rattle.sqlite_pages.specs.PageMap.{PageMap}
use Rattle.sqlite_pool.specs.File.{version_in}
use Rattle.sqlite_store.specs.declared.catalog.Wanted.{Wanted}
use Rattle.sqlite_store.specs.Listing.{file_trees, all_trees, listed_from, IsOurs}
use Rattle.sqlite_store.specs.Listed.{is_listed}
use Rattle.sqlite_store.proofs.ListingLemmas.{all_ordered, listing_shaped}
use Rattle.sqlite_trees.specs.Objects.{catalog_tree}
use Rattle.sqlite_trees.specs.Props.{IsShaped-prop}
use Rattle.sqlite_trees.specs.View.{IsShaped}
use Rattle.sqlite_trees.specs.declared.store.Shape.TheVariants as shape
use Rattle.sqlite_catalog.specs.Listing.{IsSound, AreListed}
use Rattle.sqlite_catalog.proofs.LayoutLemmas.{laid_out}
use Rattle.am_keeper_sql.specs.Table.{kept_schema}
use Rattle.am_keeper_sql.specs.Honest.{HasRisingRows}

listed_in : (size : ℕ) (wanted : List Wanted) (pages : PageMap) → file_trees size wanted pages catalog_tree
    ≡ listed_from 0 wanted
unfolding all_trees
listed_in size wanted pages = refl

rising_in : (size : ℕ) (wanted : List Wanted) (pages : PageMap) → IsOurs size true wanted pages
    → IsSound kept_schema (file_trees size wanted pages) → HasRisingRows (file_trees size wanted pages)
rising_in size wanted pages ours sound =
    let listed = subst (λ objects. AreListed objects kept_schema) (listed_in size wanted pages) sound.lists.listed in
    let laid = laid_out (is_listed wanted) (listing_shaped 0 wanted) listed in
    subst (λ s. IsShaped s (file_trees size wanted pages 0)) laid.tables.0
    (all_ordered ours.file.db (version_in pages) 0)

-- so it is in each file that an open found with this table
pub rising_found : (image : Image) (trees : Trees) → AreFoundIn image trees → IsSound kept_schema trees
    → HasRisingRows trees
rising_found image trees (inl (size, pages, wanted, adopts, ours, is)) sound =
    ∥∥₁_elim ours (IsShaped-prop shape.Table (trees 0)) (λ it. subst HasRisingRows (sym is)
    (rising_in size wanted pages it (subst (IsSound kept_schema) is sound)))
rising_found image trees (inr (nothing, empty)) sound = subst (IsShaped shape.Table) (sym (empty.0 0 (omega arith)))
    (tt, tt)
