use Rattle.std.proofs.Common.{◌≡◌, map, take}
use Rattle.clap.specs.Words.{app_of}
use Rattle.am_words.specs.Parsed.{app_named}
use Rattle.am_words.proofs.options.command.Given as goal

abbrev pub invariant-loop-name : goal.invariant-loop-name
invariant-loop-name l = app_of l.command ≡ app_named (map (λ name. name.now) (take l.name-index l.names))
