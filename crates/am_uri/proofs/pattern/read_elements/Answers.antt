use Rattle.std.proofs.Common.{◌≡◌, ◌<◌, ◌++◌, ◌∷◌, map, take, length, arith, sym, chars}
use Rattle.std.proofs.lemmas.List.{length-set}
use Rattle.am_model.specs.Paths.{elements_of, marks_of}
use Rattle.am_uri.specs.PathElements.{element_of, elements_left}
use Rattle.am_uri.proofs.PathReading.{room, one_more}
use Rattle.am_uri.proofs.pattern.read_elements.Goals as goal
use Rattle.am_uri.proofs.pattern.read_elements.Goals.{In-Some}

held : (c : In-Some) → map element_of (take c.loop-element.count c.loop-element.elements)
    ++ (element_of c.in-Some.element ∷ elements_left c.next_element.new.rest)
    ≡ elements_of (marks_of (chars c.args.pattern.now))
held c = rw (sym c.in-Some.ensures.element) c.loop-element.invariant.read_so_far

below : (c : In-Some) → c.loop-element.count < length c.loop-element.elements
below c = room c.loop-element.elements c.loop-element.count _ _ c.args.pattern.now c.utf8.pattern (held c) (omega arith)
    c.loop-element.invariant.within

pub bounds-elements-count : goal.bounds-elements-count
bounds-elements-count c = below (goal.at.bounds-elements-count c).In-Some

pub loop-element-preserved : goal.loop-element-preserved
loop-element-preserved c =
    let l = c.loop-element in
    record {
      same_length = simp length-set l.invariant.same_length;
      within = simp length-set (omega (arith, below c));
      text = c.in-Some.ensures.text;
      read_so_far = one_more l.elements l.count c.in-Some.element _ _ (below c) (held c);
    }
