use Rattle.std.proofs.Common.{◌≡◌, ◌++◌, map}
use Rattle.am_manifest.proofs.rights.with_uid.Given as goal

abbrev pub invariant-loop-text : goal.invariant-loop-text
invariant-loop-text l = l.rights.items ++ map (λ text. (l.uid, text)) l.text-iterator ≡ l.initial.rights.items
    ++ map (λ text. (l.uid, text)) l.texts.keys
