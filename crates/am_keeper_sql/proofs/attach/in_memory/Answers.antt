use Rattle.std.proofs.Common.{◌≡◌, inl, inr, refl, arith}
use Rattle.sqlite.specs.Held.{state}
use Rattle.sqlite.specs.Steps.{over_memory}
use Rattle.sqlite_trees.proofs.Doubt.{no_doubt}
use Rattle.am_keeper.specs.declared.failure.KeepFail.{KeepFail}
use Rattle.am_keeper.specs.declared.failure.KeepFail.TheVariants.{Failed, NoMemory}
use Rattle.am_keeper.specs.Rows.{no_rows}
use Rattle.am_keeper_sql.proofs.Attaches.{memory_is_honest}
use Rattle.am_keeper_sql.proofs.Begins.{one_table}
use Rattle.am_keeper_sql.proofs.Images.{some_fault}
use Rattle.am_keeper_sql.proofs.attach.in_memory.Goals as goal

only_memory : (fail : KeepFail) → (fail ≡ Failed → ⊥) → fail ≡ NoMemory
only_memory Failed never = absurd (never refl)
only_memory NoMemory never = refl

-- memory has no faults, and an empty database has no rows
pub returns-in-Err-clause-memory : goal.returns-in-Err-clause-memory
returns-in-Err-clause-memory g c =
    only_memory c.in-Err.fail (λ is.
    elim (c.in-Err.ensures.refused is (no_doubt _ refl)).1 [
      | inl more ↦ (let fault = some_fault 0 0 more in omega (arith, fault))
      | inr never ↦ never no_rows (inr (c.in_ok-conn.ensures.empty.2, refl))
    ])

pub returns-clause-rows : goal.returns-clause-rows
returns-clause-rows g c =
    let s = state over_memory c.in_ok-conn.conn in
    elim (c.in-Ok.ensures.has (memory_is_honest c.in-Ok.begun.0)) [
      | inl there ↦ absurd (one_table s.now.schema there.0 c.in_ok-conn.ensures.empty.2)
      | inr none ↦ none.1
    ]

pub returns-clause-told : goal.returns-clause-told
returns-clause-told g c = c.in-Ok.ensures.told (memory_is_honest c.in-Ok.begun.0)

pub returns-clause-honest : goal.returns-clause-honest
returns-clause-honest g c = record { in_memory = tt; honest = memory_is_honest c.in-Ok.begun.0 }
