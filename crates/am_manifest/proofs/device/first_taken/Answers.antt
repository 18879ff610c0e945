-- The loop's step: one more package.
use Rattle.std.proofs.Common.{◌≡◌, ℕ, true, false, List, Some, sym, ap, ◌∙◌}
use Rattle.am_uri.specs.Texts.{with_text}
use Rattle.am_manifest.specs.Devices.{is_taken}
use Rattle.am_manifest.proofs.Taken.{taken_here, taken_later}
use Rattle.am_manifest.proofs.device.first_taken.Goals as goal

pub returns-then-is_taken : goal.returns-then-is_taken
returns-then-is_taken c =
    let p = c.package-item.result in
    let taken : is_taken c.loop-package.names.keys c.loop-package.keys.keys p ≡ true = cc in
    let here = taken_here c.loop-package.names.keys c.loop-package.keys.keys c.args.packages.now
    c.loop-package.package-index p c.loop-package-test.true c.package-item.is taken in
    ap (λ (name : List ℕ). Some name) c.in_ok-clone.ensures.cases ∙ sym here ∙ c.loop-package.invariant

pub loop-package-preserved : goal.loop-package-preserved
loop-package-preserved c =
    let p = c.package-item.result in
    let names = c.loop-package.names.keys in
    let keys = c.loop-package.keys.keys in
    let other : is_taken names keys p ≡ false = cc in
    let later = taken_later names keys c.args.packages.now c.loop-package.package-index p c.loop-package-test.true
    c.package-item.is other in
    let one : c.insert.new.self.keys ≡ with_text names p.name = c.in_ok-insert.ensures.keys
    ∙ ap (with_text names) c.in_ok-clone-2.ensures.cases in
    let two : c.insert-in-loop-package.new.self.keys ≡ with_text keys p.key = c.in_ok-insert-2.ensures.keys
    ∙ ap (with_text keys) c.in_ok-clone-3.ensures.cases in
    rw (one, two) (sym later ∙ c.loop-package.invariant)
