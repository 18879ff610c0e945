use Rattle.std.proofs.Common.{◌∙◌, ap, map, sym}
use Rattle.std.specs.Map.{set_value}
use Rattle.std.specs.BTreeMap.{is_at}
use Rattle.std.specs.Ordering.{nat_cmp}
use Rattle.std.specs.Option.{option_copied_mut}
use Rattle.am_model.specs.Pendings.{updated}
use Rattle.am_pending.specs.Records.{pendings_of, with_extras}
use Rattle.am_pending.proofs.Changes.{changed, extras-change, unchanged}
use Rattle.am_pending.proofs.records.Records.set_extras.Goals as goal

pub returns-clause-changed : goal.returns-clause-changed
returns-clause-changed g c =
    let is = sym c.get_mut.ensures.value ∙ ap option_copied_mut c.in-Some.is in
    ap pendings_of ((c.get_mut.follows.holds c.set_extras.new.self).0
    ∙ ap (set_value (is_at (nat_cmp c.args.token)) c.self.inside.by_token.entries) c.set_extras.ensures)
    ∙ changed c.args.token (with_extras c.args.extras) (updated c.args.token c.args.extras)
    (extras-change c.args.token c.args.extras) c.in-Some.kept.now c.self.inside.by_token.entries
    c.get_mut.ensures.ordered is
    ∙ ap (map (updated c.args.token c.args.extras)) c.self.view_is

pub returns-in_default-clause-changed : goal.returns-in_default-clause-changed
returns-in_default-clause-changed g c =
    ap (λ m. pendings_of m.entries) c.get_mut.follows.holds-at-none
    ∙ unchanged c.args.token (with_extras c.args.extras) (updated c.args.token c.args.extras)
    (extras-change c.args.token c.args.extras) c.self.inside.by_token.entries
    (sym c.get_mut.ensures.value ∙ ap option_copied_mut c.in_default.is)
    ∙ ap (map (updated c.args.token c.args.extras)) c.self.view_is
