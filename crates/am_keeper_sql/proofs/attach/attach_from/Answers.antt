use Rattle.sqlite.specs.WalFiles.{image_at}
use Rattle.am_keeper_sql.proofs.Failures.{each_value}
use Rattle.am_keeper_sql.proofs.Images.{same_rows}
use Rattle.am_keeper_sql.proofs.attach.attach_from.Goals as goal

pub returns-in-Some-clause-held : goal.returns-in-Some-clause-held
returns-in-Some-clause-held g c some =
    each_value c.in_file.result (λ attached found honest rows held. same_rows (image_at g.S.Start) attached.rows rows
    (found honest) held) c.in_file.ensures.found
