use Rattle.std.proofs.Common.{◌-◌, ◌<◌, length, take, drop, arith, length-drop, ap, ◌∙◌}
use Rattle.std.proofs.lemmas.List.{length-take}
use Rattle.am_http.proofs.FillLemmas.{filled, filled_count}
use Rattle.am_http.proofs.window.Window.fill.Goals as goal

-- the bytes that were there, and then those that were read
pub returns-clause-fills : goal.returns-clause-fills
returns-clause-fills g c =
    let e = c.self.inside.end - c.self.inside.start in
    let count = c.in_ok-count.count in
    let moved = c.to_front.new.bytes in
    let read = c.read_behind.new.bytes in
    let room : 0 < length (drop e read) =
    omega (
      arith,
      c.read_behind.ensures.length,
      length-drop e read,
      ap length c.self.view_is,
      length-drop c.self.inside.start (take c.self.inside.end c.self.inside.bytes.items),
      length-take c.self.inside.end c.self.inside.bytes.items,
      ap length c.as_mut_slice.ensures.value,
    ) in (
      take count (drop e read),
      filled_count read e count c.in_ok-count.ensures.within,
      filled c.self.inside.bytes.items _ _ moved _ read _ _ c.self.inside.start c.self.inside.end e count _
          c.self.view_is c.as_mut_slice.ensures.value c.to_front.ensures.moved c.as_mut_slice-2.ensures.value
          (c.to_front.ensures.length ∙ c.as_mut_slice.ensures.len) c.read_behind.ensures.front
          (c.read_behind.ensures.length ∙ c.as_mut_slice-2.ensures.len),
      c.in_ok-count.ensures.left.0,
      λ none. c.in_ok-count.ensures.left.1 none room,
    )
