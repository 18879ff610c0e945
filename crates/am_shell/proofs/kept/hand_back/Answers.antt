use Rattle.am_shell.proofs.StoreLemmas.{leaves}
use Rattle.am_shell.proofs.kept.hand_back.Goals as goal

pub returns : goal.returns
returns g c =
    let of = g.T.Kept.Keeper in
    let out = c.into_keeper.result in
    let keeper = c.into_keeper.ensures in
    let back = c.detach.ensures in
    leaves _ _ _ _ (of.is_honest out) (of.place out) (of.rows out) (of.faults out)
    back.tells keeper.place (λ tells. g.met.T.Store.honest_where_told c.args.store.now tells out)
    keeper.found back.rows back.keepers keeper.unkept
