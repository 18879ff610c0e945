-- What an audit comes to, once its history was read.
use Rattle.std.proofs.Common.{◌≡◌, ℕ, List, Option, Some, None, Result, Ok, Err, refl, sym, ap, subst}
use Rattle.am_types.specs.declared.device.Device.{Device}
use Rattle.am_types.specs.declared.history.Entry.{Entry}
use Rattle.am_types.specs.declared.manifest.ManifestFault.{ManifestFault}
use Rattle.am_outside.specs.Files.{AnswersTold, ReadsFile, bytes_of}
use Rattle.am_outside.specs.declared.files.FileBytes.{FileBytes}
use Rattle.am_history.specs.State.{State, opening}
use Rattle.am_manifest.specs.Devices.{device_of}
use Rattle.am_audit_history.specs.Histories.{IsHistory, IsReadAs}
use Rattle.am_audit_answers.specs.Matching.{IsRecord}
use Rattle.am_console.specs.declared.setback.Setback.{Setback}
use Rattle.am_console.specs.declared.setback.Setback.TheVariants as setbacks
use Rattle.am_console.specs.Files.{Holds, Shelf}
use Rattle.am_audit_shell.specs.declared.finding.Finding.{Finding}
use Rattle.am_audit_shell.specs.declared.finding.Finding.TheVariants as findings
use Rattle.am_audit_shell.specs.Audits.{Happens}
use Rattle.am_audit_shell.specs.Contents.{AreHeld, Contents, IsGiven, ground_of, over_limit}
use Rattle.am_audit_shell.specs.Held.{ComesTo, Judges}
use Rattle.am_audit_shell.specs.Words.{Named}
use Rattle.am_audit_shell.proofs.Records.{is_record}

same_history : (read : Result (List Entry) ℕ) (x y : List Entry) → read ≡ Ok x → read ≡ Ok y → x ≡ y
same_history read x y e f = cc

same_device : (read : Result Device ManifestFault) (x y : Device) → read ≡ Ok x → read ≡ Ok y → x ≡ y
same_device read x y e f = cc

-- the history that a file is
pub history_of : (start : State) (bytes : List ℕ) (read : Result (List Entry) ℕ) (history : List Entry)
    → IsReadAs start bytes read → read ≡ Ok history
    → IsHistory start bytes history
history_of start bytes (Ok known) history is e = subst (IsHistory start bytes)
    (same_history (Ok known) known history refl e) is
history_of start bytes (Err line) history is e = cc

-- it is a record of whichever device the text describes
pub record_of : (text bytes : List ℕ) (device : Device) (read : Result (List Entry) ℕ) (history slice : List Entry)
    → device_of text ≡ Ok device → IsReadAs (opening device) bytes read → read ≡ Ok history → slice ≡ history
    → (other : Device) → device_of text ≡ Ok other → IsRecord (ground_of other slice)
record_of text bytes device read history slice describes is found same other also =
    subst (λ d. IsRecord (ground_of d slice)) (same_device (device_of text) device other describes also)
    (subst (λ entries. IsRecord (ground_of device entries)) (sym same)
    (is_record device bytes history (history_of (opening device) bytes read history is found)))

-- the verdict by that history is what the contents come to
comes_to : (result : Result Finding Setback) (device : Device) (c : Contents) (history : List Entry)
    → over_limit c ≡ None → IsHistory (opening device) c.history history → Judges result device history c
    → ComesTo result device c
comes_to (Ok (findings.Judged verdict)) device c history within read judged =
    record { within = within; history = history; read = read; judged = judged }
comes_to (Err setbacks.NoMemory) device c history within read judged = tt
comes_to _ device c history within read judged = absurd judged

pub judged_of : (result : Result Finding Setback) (text bytes : List ℕ) (device : Device) (c : Contents)
    (read : Result (List Entry) ℕ) (history slice : List Entry)
    → device_of text ≡ Ok device → None ≡ over_limit c → bytes ≡ c.history → IsReadAs (opening device) bytes read → read
    ≡ Ok history → slice ≡ history
    → ((other : Device) → device_of text ≡ Ok other → Judges result other slice c) → ComesTo result device c
judged_of result text bytes device c read history slice describes within held is found same judges =
    comes_to result device c history (sym within) (subst (λ b. IsHistory (opening device) b history) held
    (history_of (opening device) bytes read history is found))
    (subst (λ entries. Judges result device entries c) same (judges device describes))

-- a file that was read holds what was read
told : {V : Type 0} (view : V → List ℕ) (found : Option (List ℕ)) (old new : ℕ) (read : V)
    → AnswersTold view found old new (Ok read) → found ≡ Some (view read)
told view None old new read answer = absurd answer
told view (Some bytes) old new read answer = sym (ap Some answer)

held : {V : Type 0} (view : V → List ℕ) (files : Option (List FileBytes)) (name : List ℕ) (old new : ℕ) (read : V)
    → ReadsFile view files name old new (Ok read) → Holds files name (view read)
held view None name old new read answer = tt
held view (Some files) name old new read answer = told view (bytes_of name files) old new read answer

-- what the contents come to is what the audit comes to
happens : (result : Result Finding Setback) (named : Named) (before after : Shelf) (device : Device) (c : Contents)
    → IsGiven before.files named device c → ComesTo result device c → Happens result named before after
happens (Ok (findings.OverLimit part)) named before after device c given comes = record
    { device = device; contents = c; given = given; over = comes }
happens (Ok (findings.HistoryRefused line)) named before after device c given comes =
    (comes.0, record { device = device; contents = c; given = given; refused = comes.1 }, comes.2)
happens (Ok (findings.Judged verdict)) named before after device c given comes = record
    { device = device; contents = c; given = given; judged = comes }
happens (Err setbacks.NoMemory) named before after device c given comes = tt
happens _ named before after device c given comes = absurd comes

pub went : {V : Type 0} (view : V → List ℕ) (result : Result Finding Setback) (named : Named) (before after : Shelf)
    (middle : Option (List FileBytes)) (new : ℕ)
    (read : V) (text : List ℕ) (device : Device) (c : Contents)
    → ReadsFile view before.files named.device before.faults new (Ok read) → text ≡ view read → device_of text
    ≡ Ok device → middle ≡ before.files
    → AreHeld middle named c → ComesTo result device c → Happens result named before after
went view result named before after middle new read text device c answer is describes same contents comes =
    happens result named before after device c
    (record {
      describes = record {
        bytes = view read;
        held = held view before.files named.device before.faults new read answer;
        reads = subst (λ b. device_of b ≡ Ok device) is describes;
      };
      contents = subst (λ files. AreHeld files named c) same contents;
    })
    comes
