use Rattle.std.proofs.Common.{ap, take, drop, ◌∙◌}
use Rattle.am_outside.specs.Memory.{Reading}
use Rattle.am_outside.proofs.GivenBytes.{given_grows}
use Rattle.am_outside.proofs.memory.MemorySourceSource.read.Goals as goal

-- what was given before, and then the front of what was left
pub returns-clause-given : goal.returns-clause-given
returns-clause-given c =
    given_grows c.self.inside.bytes _ _ c.self.inside.at c.copy_front-count.result
    (ap (λ (r : Reading). r.given) c.self.view_is)
    (c.copy_front-count.ensures.copied ∙ ap (λ rest. take c.copy_front-count.result rest)
    (c.rest_from.ensures ∙ ap (λ bytes. drop c.self.inside.at bytes) c.as_slice.ensures))
