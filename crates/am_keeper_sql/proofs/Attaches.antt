-- What an open finds, and what a keeper over it holds true.
use Rattle.std.proofs.Common.{◌≡◌, [], ◌∷◌, map, Some, refl, sym, ap, subst, ◌∙◌}
use Rattle.sqlite.specs.Effect.{Database}
use Rattle.sqlite.specs.Store.{Ghosts}
use Rattle.sqlite.specs.Held.{Held, state}
use Rattle.sqlite.specs.Steps.{over_memory}
use Rattle.sqlite.specs.State.{State, Opens, IsLive}
use Rattle.sqlite.specs.Start.{FindsIn}
use Rattle.sqlite.specs.Files.{AreFoundIn}
use Rattle.sqlite.specs.Tree.{Trees}
use Rattle.sqlite.specs.declared.MemStore.{MemStore}
use Rattle.sqlite_wal.specs.Recovery.{Image}
use Rattle.sqlite_trees.specs.View.{doubt}
use Rattle.sqlite_catalog.specs.Listing.{IsSound}
use Rattle.am_keeper.specs.Rows.{no_rows}
use Rattle.am_keeper_sql.specs.declared.database.Database.{Database as Connected}
use Rattle.am_keeper_sql.specs.declared.database.Database.TheVariants.{Memory, File}
use Rattle.am_keeper_sql.specs.Table.{no_schema, kept, kept_schema, values_of}
use Rattle.am_keeper_sql.specs.Told.{told_in, told_from}
use Rattle.am_keeper_sql.specs.Honest.{IsHonest, IsSettled, HasRisingRows, IsInMemory, IsHonestForGood}
use Rattle.am_keeper_sql.proofs.Rising.{rising_found}

pub opened_settled : (s : State) → Opens s → IsSettled s
opened_settled s h = record { settled = h.clean; autocommit = h.autocommit }

pub opened_rising : (image : Image) (s : State) → Opens s → IsLive s → FindsIn image s → s.now.schema ≡ kept_schema
    → HasRisingRows s.now.trees
opened_rising image s h live found has =
    rising_found image s.now.trees (subst (λ (db : Database). AreFoundIn image db.trees) (sym h.clean) found.reads)
    (subst (λ schema. IsSound schema s.now.trees) has (live h.is_open).0)

-- an empty database has no table
pub blank_rising : (s : State) → s.now.schema ≡ no_schema → s.now.schema ≡ kept_schema → HasRisingRows s.now.trees
blank_rising s blank has = absurd (let none : [] ≡ kept ∷ [] = ap (λ schema. schema.tables) (sym blank)
    ∙ ap (λ schema. schema.tables) has in cc)

pub memory_is_honest : (conn : Held MemStore) → IsHonest (state over_memory conn)
unfolding doubt
memory_is_honest conn = record { clean = refl; live = refl }

pub honest_in_memory : {F : Type 0} (g : Ghosts F) (database : Connected F) → IsInMemory database
    → IsHonestForGood g database
honest_in_memory g (Memory conn) h = record { in_memory = tt; honest = memory_is_honest conn }
honest_in_memory g (File conn) h = absurd h

pub told_none : (trees : Trees) → trees 0 ≡ [] → told_in trees ≡ Some no_rows
told_none trees none = ap (λ rows. told_from no_rows (map values_of rows)) none
