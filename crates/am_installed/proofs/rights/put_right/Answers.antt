use Rattle.std.proofs.Common.{arith, sym}
use Rattle.am_model.specs.Rights.{before_right}
use Rattle.am_model.proofs.Lists.{inserted_at, place_within}
use Rattle.am_installed.proofs.rights.put_right.Goals as goal

pub insert-requires : goal.insert-requires
insert-requires g c =
    rw (c.place_of-place.ensures, c.deref.ensures.value)
    (omega (
      arith,
      place_within (before_right g.T.Right.right_of) c.new-right.result c.reserve.new.self.items,
      c.reserve.new.self.ok.0,
    ))

pub returns-clause-put : goal.returns-clause-put
returns-clause-put g c =
    rw (
      c.in_ok-insert.ensures.items,
      c.place_of-place.ensures,
      c.deref.ensures.value,
      c.in_ok-reserve.ensures.items,
      c.new-right.ensures,
      c.in_ok-clone.ensures.cases,
    )
    (sym (inserted_at (before_right g.T.Right.right_of) (g.T.Right.made c.args.uid c.args.text.now)
    c.args.rights.now.items))
