use Rattle.std.proofs.Common.{◌≤◌, length, map, drop, arith}
use Rattle.std.proofs.lemmas.List.{length-map, length-drop}
use Rattle.am_uri.specs.PathElements.{element_of}
use Rattle.am_uri.specs.PathWords.{passes}
use Rattle.am_uri.proofs.PathWords.{word_below}
use Rattle.am_uri.proofs.bits.word_of.Goals as goal

pub overflow_mul-word : goal.overflow_mul-word
overflow_mul-word c =
    let l = c.loop-i in
    let few : length (map element_of (drop l.i c.args.elements.now)) ≤ 62 = simp (length-map, length-drop) (omega arith)
    in
    omega (arith, word_below (passes c.args.test) 62 (map element_of (drop l.i c.args.elements.now)) few)

pub overflow_add-word : goal.overflow_add-word
overflow_add-word c =
    let l = c.loop-i in
    let few : length (map element_of (drop l.i c.args.elements.now)) ≤ 62 = simp (length-map, length-drop) (omega arith)
    in
    grind (arith, word_below (passes c.args.test) 62 (map element_of (drop l.i c.args.elements.now)) few)
