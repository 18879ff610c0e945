-- The desk of a drill, and the requests that are made on it.
use Rattle.std.specs.Prelude.{◌≡◌, ◌≤◌, false, IsTrue}
use Rattle.am_types.specs.Bounds.{longest_body}
use Rattle.am_types.specs.declared.request.Request.{Request}
use Rattle.am_history.specs.Desks.{DeskView}
use Rattle.am_history.specs.Steps.{has_formed_row, keeps_row}
use Rattle.am_drill.specs.Bodies.{weight_of}

-- a desk that is number 0 and has its manager for itself
pub record IsAlone (desk : DeskView) : Type 0 where
  pub number : desk.number ≡ 0
  pub desks : desk.sharing.desks ≡ 1

-- a request for which no row is kept, and whose body is short
pub record IsPlain (request : Request) : Type 0 where
  pub formed : IsTrue (has_formed_row request)
  pub no_row : keeps_row request ≡ false
  pub short : weight_of request ≤ longest_body
