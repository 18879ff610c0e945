use Rattle.std.proofs.Common.{rules, ◌≡◌, ◌<◌, ◌+◌, refl, ◌*◌, ◌/◌, ◌%◌, ◌∙◌, length, chars, map, sym, arith}
use Rattle.std.proofs.lemmas.List.{length-map}
use Rattle.std.proofs.lemmas.Str.{IsUtf8-past_char}
use Rattle.am_uri.specs.PathElements.{element_of, is_repeated, allowed_at}
use Rattle.am_uri.proofs.PathReading.{chars_at_end}
use Rattle.am_uri.proofs.PathSteps.{started_at, walked, emptied, ended}
use Rattle.am_uri.proofs.PathWords.{within_of}
use Rattle.am_uri.proofs.matching.walk.Goals as goal

pub loop-c-init : goal.loop-c-init
loop-c-init c =
    let whole = c.into_iter-c-iterator.ensures.into_iter_gives in
    record {
      same_length = search rules;
      text = rw (whole, c.chars-c-items.ensures.rest) c.utf8.path;
      repeated_written = rw c.requires.repeated at c.write_where.ensures;
      allowed_written = rw c.requires.allowed at c.write_where-2.ensures;
      reached_so_far = rw (whole, c.chars-c-items.ensures.rest) (started_at 62 (map element_of c.args.elements.now)
          c.args.reached.now (chars c.args.path.now) c.requires.start (omega arith));
    }

pub skip-requires-clause-spare : goal.skip-requires-clause-spare
skip-requires-clause-spare c = within_of 63 is_repeated _ _ _ c.loop-c.invariant.repeated_written

pub advance-requires-clause-spare : goal.advance-requires-clause-spare
advance-requires-clause-spare c = within_of 63 (allowed_at c.in-Some.c) _ _ _ c.write_allowed.ensures

pub skip-requires-2-clause-spare : goal.skip-requires-2-clause-spare
skip-requires-2-clause-spare c = within_of 63 is_repeated _ _ _ c.loop-c.invariant.repeated_written

pub loop-c-preserved : goal.loop-c-preserved
loop-c-preserved c =
    let held = c.loop-c.invariant in
    let split = c.in-Some.ensures.steps.0 in
    let few : length (map element_of c.args.elements.now) < 63 * length c.args.reached.now = simp length-map
    c.requires.room in
    let count : length c.loop-c.allowed ≡ length c.args.reached.now = omega arith in
    record {
      same_length = omega arith;
      text = IsUtf8-past_char _ _ c.in-Some.c held.text split;
      repeated_written = held.repeated_written;
      allowed_written = rw count at c.write_allowed.ensures;
      reached_so_far = walked 63 _ _ _ _ _ _ _ _ c.in-Some.c _ _ _ held.same_length few held.repeated_written count
          c.write_allowed.ensures c.skip.ensures c.advance.ensures held.text split held.reached_so_far;
    }

pub returns-then-is_empty : goal.returns-then-is_empty
returns-then-is_empty c =
    let held = c.loop-c.invariant in
    let few : length (map element_of c.args.elements.now) < 63 * length c.args.reached.now = simp length-map
    c.requires.room in
    let on = walked 63 _ _ _ _ _ _ _ (length c.loop-c.allowed) c.in-Some.c _ _ _ held.same_length few
    held.repeated_written (omega arith) c.write_allowed.ensures c.skip.ensures c.advance.ensures held.text
    c.in-Some.ensures.steps.0 held.reached_so_far in
    sym (emptied 63 (map element_of c.args.elements.now) c.advance.new.reached (chars c.next.new.self.rest.now)
    (c.if-is_empty.ensures refl)) ∙ on

pub returns : goal.returns
returns c =
    let held = c.loop-c.invariant in
    let few : length (map element_of c.args.elements.now) < 63 * length c.args.reached.now = simp length-map
    c.requires.room in
    let place : length (map element_of c.args.elements.now) ≡ 63 * (length c.args.elements.now / 63) + length
    c.args.elements.now % 63 = simp length-map (omega arith) in
    let last = ended 63 (map element_of c.args.elements.now) c.loop-c.reached c.write_where.new.words
    (length c.args.reached.now) (length c.args.elements.now / 63) (length c.args.elements.now % 63) held.same_length
    few held.repeated_written place (omega arith) in
    c.is_reached.ensures ∙ rw c.skip-2.ensures last ∙ rw (chars_at_end _ c.in-None.ensures.steps.0.0) at
    held.reached_so_far
