use Rattle.am_index.proofs.Stands.{stands_without}
use Rattle.am_index.proofs.index.FilterIndex.drop_uid.Goals as goal

pub returns : goal.returns
returns c = stands_without c.args.self.now _ c.args.uid c.drop_spots.ensures
