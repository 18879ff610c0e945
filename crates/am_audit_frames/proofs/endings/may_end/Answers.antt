use Rattle.std.proofs.Common.{inl, inr}
use Rattle.std.proofs.lemmas.Bool.{both_ways}
use Rattle.am_audit_frames.proofs.Frames.{last_cases, last_from_dead, last_from_outcome}
use Rattle.am_audit_frames.proofs.endings.may_end.Goals as goal

pub returns-then-is_found_text : goal.returns-then-is_found_text
returns-then-is_found_text c =
    let found = c.is_found_text.ensures in (
      λ yes. last_from_outcome c.args.input.now c.args.left.now found.0 found.1 (found.2.0 yes),
      λ last. c.if-is_found_text.true,
    )

pub returns-then-may_be_dead : goal.returns-then-may_be_dead
returns-then-may_be_dead c =
    let found = c.is_found_text.ensures in (
      λ yes.
          last_from_dead c.args.input.now c.args.left.now (c.may_be_dead.ensures.0 c.if-may_be_dead.true)
          (c.is_dead_text.ensures.0 yes),
      λ last.
          elim (last_cases c.args.input.now c.args.left.now found.0 found.1 last) [
            | inl written ↦ absurd (both_ways c.is_found_text.result c.if-is_found_text.false (found.2.1 written))
            | inr (dead, written) ↦ c.is_dead_text.ensures.1 written
          ],
    )

pub returns-else-may_be_dead : goal.returns-else-may_be_dead
returns-else-may_be_dead c =
    let found = c.is_found_text.ensures in (
      λ yes. absurd (both_ways c.may_be_dead.result c.if-may_be_dead.false yes),
      λ last.
          elim (last_cases c.args.input.now c.args.left.now found.0 found.1 last) [
            | inl written ↦ absurd (both_ways c.is_found_text.result c.if-is_found_text.false (found.2.1 written))
            | inr (dead, written) ↦ c.may_be_dead.ensures.1 dead
          ],
    )
