use Rattle.std.specs.List.{flat_map}
use Rattle.am_model.specs.Sending.{result_items, turn_items}
use Rattle.am_queue_normal.specs.Kept.{items_of}
use Rattle.am_queue.proofs.Ordering.{shown_of_first}
use Rattle.am_queue.proofs.queues.Queues.inbox.Goals as goal

pub returns : goal.returns
returns c =
    let q = c.self.inside in
    let uid = c.args.uid in
    rw (
      c.new.ensures,
      c.in_ok-first_by_number.ensures,
      c.in_ok-push_items.ensures,
      c.in_ok-push_item-2.ensures,
      c.in_ok-item-2.ensures,
      c.in_ok-push_item.ensures,
      c.in_ok-item.ensures,
      c.in_ok-items.ensures.first,
      ←
          c.self.view_is,
    )
    (shown_of_first 64 (items_of uid q.normals.normal) (flat_map (turn_items uid) q.foreground)
    (flat_map (turn_items uid) q.background) (result_items uid q.results.list) c.in_ok-items.ensures.rise)
