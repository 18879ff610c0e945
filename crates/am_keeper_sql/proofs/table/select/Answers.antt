use Rattle.std.proofs.Common.{◌≡◌, [], Some, Err, inl, inr, rules, refl, sym, ap, subst, ◌∙◌}
use Rattle.sqlite.specs.Listing.{understood}
use Rattle.sqlite.specs.Given.{IsPlain}
use Rattle.sqlite.specs.Held.{state}
use Rattle.sqlite.specs.State.{HasCleanDisk, Survives, CommitsShowing, FailsToQuery}
use Rattle.am_keeper.specs.declared.failure.KeepFail.TheVariants.{Failed}
use Rattle.am_keeper_sql.specs.Honest.{IsHonest}
use Rattle.am_keeper_sql.specs.Failing.{FailsToTell}
use Rattle.am_keeper_sql.proofs.Texts.{select_text, select_plain}
use Rattle.am_keeper_sql.proofs.Seen.{was_honest, unshown_open, unshown_seen}
use Rattle.am_keeper_sql.proofs.Reading.{begun_open, begun_read, read_more, read_all}
use Rattle.am_keeper_sql.proofs.Failures.{lasts_of, lasts_then, more_then, select_fails}
use Rattle.am_keeper_sql.proofs.Untold.{unread}
use Rattle.am_keeper_sql.proofs.table.select.Goals as goal

pub returns-in-Err-clause-honest : goal.returns-in-Err-clause-honest
returns-in-Err-clause-honest g c honest =
    let old = state g.S.Store c.args.conn.now in
    let new = state g.S.Store c.query.follows.lender-at-none in
    let held = c.query.follows.holds-at-none in
    let kept : Survives old new (CommitsShowing select_text [] old) = search rules in
    let failed : FailsToQuery select_text [] old new c.in-Err.error = (rw c.in-Err.is at held).err honest.clean in
    was_honest old new (CommitsShowing select_text [] old) kept (unshown_open select_text [] old new c.in-Err.error
    failed) honest

pub returns-in-Err-clause-seen : goal.returns-in-Err-clause-seen
returns-in-Err-clause-seen g c honest was holds =
    let old = state g.S.Store c.args.conn.now in
    let new = state g.S.Store c.query.follows.lender-at-none in
    let held = c.query.follows.holds-at-none in
    let failed : FailsToQuery select_text [] old new c.in-Err.error = (rw c.in-Err.is at held).err honest.clean in
    unshown_seen select_text [] old new c.in-Err.error (subst (λ s. IsPlain (understood s select_text))
    (sym holds.schema) select_plain) was honest.live failed

pub rows-init : goal.rows-init
rows-init g c =
    let made = c.in-Ok.ensures in
    let first = c.args.conn.now in
    let found = c.in-Ok.found.conn.now in
    let old = state g.S.Store first in
    let new = state g.S.Store found in (
      refl,
      λ honest. was_honest old new (CommitsShowing select_text [] old) made.survives
          (λ live. begun_open g.S.Store first found (made.begun honest.clean)) honest,
      λ honest has. rw c.new-rows.ensures (begun_read g.S.Store first found has (made.begun honest.clean)),
      lasts_of old new _ made.survives,
    )

pub returns-in-Err-clause-failed : goal.returns-in-Err-clause-failed
returns-in-Err-clause-failed g c clean live none holds is =
    let old = state g.S.Store c.args.conn.now in
    let new = state g.S.Store c.query.follows.lender-at-none in
    let held = c.query.follows.holds-at-none in
    let failed : FailsToQuery select_text [] old new c.in-Err.error = (rw c.in-Err.is at held).err clean in
    let other = c.fail.ensures.failed (let same : c.fail.result ≡ Failed = cc in same) in
    elim (select_fails old new c.in-Err.error holds.schema live none failed)
    [ inl memory ↦ absurd (other memory) | inr more ↦ inl more ]

pub returns-then-not-more-clause-told : goal.returns-then-not-more-clause-told
returns-then-not-more-clause-told g c honest holds =
    let found = c.put_next.new.found.conn.now in
    let late : IsHonest (state g.S.Store found) = search rules in
    let read = c.rows.invariant.2 (c.put_next.ensures.honest late) holds.schema in
    let moved = rw c.if-not-more.true at (c.in-Ok-put_next.ensures.put late) in
    read_all g.S.Store c.args.conn.now c.rows.found.conn.now found c.rows.rows read holds moved.0
    ∙ ap Some (sym (c.finish.ensures.rows ∙ moved.1))

pub returns-in-Err-put_next-clause-failed : goal.returns-in-Err-put_next-clause-failed
returns-in-Err-put_next-clause-failed g c clean live none holds is =
    let old = state g.S.Store c.args.conn.now in
    let mid = state g.S.Store c.rows.found.conn.now in
    let found = c.put_next.new.found.conn.now in
    let late : HasCleanDisk (state g.S.Store found) = search rules in
    let lasts = c.rows.invariant.3 in
    let early = c.put_next.ensures.lasts.clean late in
    let moved = c.put_next.ensures.failed late (let same : c.put_next.result ≡ Err Failed = c.in-Err-put_next.is
    ∙ ap Err (let fail : c.in-Err-put_next.fail ≡ Failed = cc in fail) in same) in
    let told : FailsToTell old (state g.S.Store found) = elim (lasts.closes early live) [
      | inl open' ↦ unread g.S.Store c.args.conn.now c.rows.found.conn.now found c.rows.rows
          (c.rows.invariant.2 (record { clean = early; live = open' }) holds.schema) holds open' (lasts.limit ∙ none)
          lasts moved
      | inr more ↦ inl (more_then old.faults mid.faults (state g.S.Store found).faults more
          c.put_next.ensures.lasts.counts)
    ] in
    search rules

pub rows-preserved : goal.rows-preserved
rows-preserved g c =
    let put = c.put_next.ensures in
    let first = c.args.conn.now in
    let mid = c.rows.found.conn.now in
    let found = c.put_next.new.found.conn.now in (
      put.same_reference ∙ c.rows.invariant.0,
      λ honest. c.rows.invariant.1 (put.honest honest),
      λ honest has. read_more g.S.Store first mid found c.rows.rows (c.rows.invariant.2 (put.honest honest) has)
          c.put_next.new.rows
          (c.in-Ok-put_next.ensures.same honest) (rw c.if-not-more.false at (c.in-Ok-put_next.ensures.put honest)),
      lasts_then (state g.S.Store first) (state g.S.Store mid) (state g.S.Store found) c.rows.invariant.3 put.lasts,
    )
