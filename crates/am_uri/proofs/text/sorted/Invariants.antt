use Rattle.std.proofs.Common.{◌≡◌, fold, []}
use Rattle.am_uri.specs.Texts.{with_text}
use Rattle.am_uri.proofs.text.sorted.Given as goal

abbrev pub invariant-loop-text : goal.invariant-loop-text
invariant-loop-text l = l.set.keys ≡ fold with_text [] l.yielded
