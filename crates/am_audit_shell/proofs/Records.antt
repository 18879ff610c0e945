-- A history that was read of a file is one of whole entries.
use Rattle.std.proofs.Common.{ℕ, List, [], ◌∷◌, ◌++◌}
use Rattle.std.specs.List.{AllByRecursion}
use Rattle.std.proofs.lemmas.List.Elements.{All-from_recursion}
use Rattle.am_types.specs.declared.device.Device.{Device}
use Rattle.am_types.specs.declared.history.Entry.{Entry}
use Rattle.am_history.specs.State.{State, opening}
use Rattle.am_audit_history.specs.Lines.{IsWhole}
use Rattle.am_audit_history.specs.Histories.{IsHistory, Reads, behind}
use Rattle.am_audit_answers.specs.Matching.{IsRecord}
use Rattle.am_audit_shell.specs.Contents.{ground_of}

each_whole : (start : State) (before : List Entry) (bytes : List ℕ) (entries : List Entry) (rest : List ℕ)
    → Reads start before bytes entries rest
    → AllByRecursion IsWhole entries
each_whole start before bytes [] rest reads = tt
each_whole start before bytes (first ∷ others) rest reads =
    (reads.1.whole, each_whole start (before ++ first ∷ []) (behind bytes) others rest reads.3)

pub is_record : (device : Device) (bytes : List ℕ) (history : List Entry) → IsHistory (opening device) bytes history
    → IsRecord (ground_of device history)
is_record device bytes history read =
    record {
      legal = read.legal;
      whole = All-from_recursion IsWhole history
          (each_whole (opening device) [] bytes history [] read.reads);
    }
