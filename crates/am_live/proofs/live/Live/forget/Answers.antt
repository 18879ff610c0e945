use Rattle.am_live_packages.proofs.PackageLemmas.{forgotten}
use Rattle.am_live.proofs.live.Live.forget.Goals as goal

pub returns : goal.returns
returns c =
    forgotten c.args.self.now _ c.args.uid c.unregister_uid.new.self c.forget_uid.new.self c.forget_uid-2.new.self
    c.forget_uid-3.new.self c.forget_uid-4.new.self
    c.self.view_is c.unregister_uid.ensures c.forget_uid.ensures c.forget_uid-2.ensures c.forget_uid-3.ensures.forgotten
    c.forget_uid-4.ensures
