use Rattle.std.proofs.Common.{◌∙◌}
use Rattle.am_machine.proofs.Fresh.{begins_if, only_no_memory}
use Rattle.am_machine.proofs.beginning.begin_fresh.Goals as goal

pub begin_keyed-requires : goal.begin_keyed-requires
begin_keyed-requires g c = record {
  sound = c.requires.sound;
  order = c.finish-rows.ensures.in_order;
  told = λ honest told tells. (c.finish-rows.ensures.rows ∙ c.new.ensures) ∙ c.requires.told honest told tells;
}

pub begun-requires : goal.begun-requires
begun-requires g c =
    only_no_memory c.begin_keyed.result c.args.device c.finish-rows.result c.requires.sound
    (c.finish-rows.ensures.rows ∙ c.new.ensures) c.begin_keyed.ensures.refused

pub returns : goal.returns
returns g c =
    begins_if g.K.Keeper c.begin_keyed.result c.begun.result c.args.device c.finish-rows.result c.args.keeper
    c.requires.sound (c.finish-rows.ensures.rows ∙ c.new.ensures) c.begun.ensures c.begin_keyed.ensures.begun
