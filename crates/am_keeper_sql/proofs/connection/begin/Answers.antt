use Rattle.std.proofs.Common.{inl, inr, Err, IsTrue, ap, ◌∙◌, arith}
use Rattle.sqlite.specs.Held.{state}
use Rattle.sqlite.specs.State.{HasCleanDisk}
use Rattle.am_keeper_sql.proofs.Attaches.{opened_settled}
use Rattle.am_keeper_sql.proofs.Failures.{more_then}
use Rattle.am_keeper_sql.proofs.Begins.{fails_late}
use Rattle.am_keeper_sql.proofs.connection.begin.Goals as goal

pub returns-in-Err-select-clause-refused : goal.returns-in-Err-select-clause-refused
returns-in-Err-select-clause-refused g c is clean =
    let old = state g.S.Store c.args.conn in
    let mid = state g.S.Store c.prepare.new.conn in
    let new = state g.S.Store c.select.new.conn in
    let quiet = c.into_store-in-Err-select.ensures.quiet in
    let last : HasCleanDisk new = omega (arith, quiet.clean, clean) in
    let early = c.select.ensures.lasts.clean last in
    let first = c.prepare.ensures.lasts.clean early in
    let ready = c.requires first in
    let settled = opened_settled old ready.opens in
    let fails = λ (live : IsTrue mid.is_open).
    let held = c.in_default.ensures.ready (record { clean = early; live = live }) settled ready.rising in
    c.select.ensures.failed last live (c.prepare.ensures.lasts.limit ∙ ready.unlimited) held.1
    (c.in-Err-select.is ∙ ap Err is) in
    let why = fails_late old mid new c.prepare.ensures.lasts c.select.ensures.lasts
    (λ honest. c.in_default.ensures.begins honest settled) fails early ready.opens.is_open in (
      first,
      elim why [
        | inl more ↦ inl (more_then old.faults new.faults
            (g.S.Store.faults c.into_store-in-Err-select.result) more quiet.counts)
        | inr none ↦ inr none
      ],
    )
