use Rattle.am_shell.proofs.ServeLemmas.{attached_back, works}
use Rattle.am_shell.proofs.session.serve_session.Goals as goal

pub hand_back-requires : goal.hand_back-requires
hand_back-requires g c =
    let begun = c.in_ok-manager.ensures in
    attached_back _ _ _ (g.T.Store.has_attached c.open_manager.new.store) c.in_ok-manager.manager c.into_manager.result
    c.new-desk.result c.serve_on-end.new.desk
    begun.attached begun.unchanged begun.origin.at_place c.new-desk.ensures.made
    c.serve_on-end.ensures.went.same.desk.desk.origin c.into_manager.ensures

pub returns : goal.returns
returns g c = λ before after.
    let begun = c.in_ok-manager.ensures in
    works _ _ _ _ _ _ _ c.in_ok-manager.manager c.into_manager.result c.new-desk.result c.serve_on-end.new.desk
    c.kept_is_found.ensures c.requires.sound c.as_ref.ensures.value
    begun.origin begun.fresh begun.unchanged c.new-desk.ensures.made c.serve_on-end.ensures c.into_manager.ensures
    c.hand_back.ensures
