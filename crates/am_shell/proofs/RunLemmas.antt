-- What follows from how a session went: the cause of its status, and that a good device file gives the work.
use Rattle.std.proofs.Common.{◌≡◌, ℕ, ◌⊎◌, inl, inr, List, Option, Some, None, Result, Ok, Err, refl, sym, ap, ◌∙◌, subst, arith}
use Rattle.std.specs.Io.KnownBytes.{Appends}
use Rattle.std.proofs.lemmas.Option.{same_Some}
use Rattle.am_outside.specs.Counts.{HasRisen}
use Rattle.am_outside.specs.Files.{bytes_of}
use Rattle.am_types.specs.declared.device.Device.{Device}
use Rattle.am_outside.specs.declared.files.FileBytes.{FileBytes}
use Rattle.am_types.specs.declared.manifest.ManifestFault.{ManifestFault}
use Rattle.am_manifest.specs.Devices.{device_of}
use Rattle.am_http.specs.declared.end.End.{End}
use Rattle.am_http.specs.declared.end.End.TheVariants.{Input, Close, Refused, Cut, Limit, Idle, ReadFault, WriteFault}
use Rattle.am_http.specs.Links.{SinkView}
use Rattle.am_console.specs.declared.setback.Setback.TheVariants as setbacks
use Rattle.am_console.specs.Devices.{Describes}
use Rattle.am_console.specs.Files.{IsMissing}
use Rattle.am_shell.specs.declared.undone.Undone.{Undone}
use Rattle.am_shell.specs.declared.undone.Undone.TheVariants as undone
use Rattle.am_shell.specs.Devices.{IsRefused, IsUnread}
use Rattle.am_shell.specs.Kept.{RefusesRows}
use Rattle.am_console.specs.Telling.{Tells}
use Rattle.am_shell.specs.Lines.{end_status, session_line, session_status, status_of, no_memory_line}
use Rattle.am_words.specs.declared.command.SessionWords.{SessionWords}
use Rattle.am_shell.specs.Sessions.{Happens, Worked, Works, Unattached, Unopened}
use Rattle.am_shell.specs.World.{World}
use Rattle.am_shell.specs.Runs.{HasCause, Completes, Runs, RunsCommand, RunsSession}
use Rattle.am_words.specs.declared.command.Command.{Command}
use Rattle.am_words.specs.Grammar.{read_command}

same_device : (read : Result Device ManifestFault) (x y : Device) → read ≡ Ok x → read ≡ Ok y → x ≡ y
same_device read x y e f = cc

-- the statuses of ends, and of what wasn't done
no_end_has : (end : End) (status : ℕ) → (status ≡ 2) ⊎ (status ≡ 3) ⊎ (status ≡ 4) ⊎ (status ≡ 7) ⊎ (status ≡ 10)
    → end_status end ≡ status → ⊥
no_end_has Input status one e = grind arith
no_end_has end status one e = grind arith

nothing_undone_has : (why : Undone) (status : ℕ) → (status ≡ 0) ⊎ (status ≡ 1) ⊎ (status ≡ 2) ⊎ (status ≡ 6)
    → status_of why ≡ status → ⊥
nothing_undone_has (undone.Setback setbacks.FileFault) status one e = grind arith
nothing_undone_has why status one e = grind arith

-- the cause of each status
worked : (o : Result End Undone) (asked : SessionWords) (before after : World) → session_status o ≡ 0
    → Happens o asked before after
    → Worked asked before after Input ⊎ Worked asked before after Close
worked (Ok Input) asked before after s h = inl h
worked (Ok Close) asked before after s h = inr h
worked (Ok Idle) asked before after s h = absurd (h.works.session.went.whole h.works.session.went.ends)
worked (Ok end) asked before after s h = absurd (omega arith)
worked (Err why) asked before after s h = absurd (nothing_undone_has why 0 (inl refl) s)

stopped : (o : Result End Undone) (asked : SessionWords) (before after : World) → session_status o ≡ 1
    → Happens o asked before after
    → Worked asked before after Refused ⊎ Worked asked before after Cut ⊎ Worked asked before after Limit
stopped (Ok Refused) asked before after s h = inl h
stopped (Ok Cut) asked before after s h = inr (inl h)
stopped (Ok Limit) asked before after s h = inr (inr h)
stopped (Ok end) asked before after s h = absurd (omega arith)
stopped (Err why) asked before after s h = absurd (nothing_undone_has why 1 (inr (inl refl)) s)

used : (o : Result End Undone) → session_status o ≡ 2 → ⊥
used (Ok end) s = no_end_has end 2 (inl refl) s
used (Err why) s = nothing_undone_has why 2 (inr (inr (inl refl))) s

refused : (o : Result End Undone) (asked : SessionWords) (before after : World) → session_status o ≡ 3
    → Happens o asked before after
    → IsRefused device_of before.files.files asked.device (session_line o)
refused (Err (undone.Setback (setbacks.DeviceRefused line))) asked before after s h = h.0
refused (Err why) asked before after s h = absurd (omega arith)
refused (Ok end) asked before after s h = absurd (no_end_has end 3 (inr (inl refl)) s)

unread : (o : Result End Undone) (asked : SessionWords) (before after : World) → session_status o ≡ 4
    → Happens o asked before after
    → IsUnread asked.device before.files after.files
unread (Err (undone.Setback setbacks.FileFault)) asked before after s h = h.0
unread (Err why) asked before after s h = absurd (omega arith)
unread (Ok end) asked before after s h = absurd (no_end_has end 4 (inr (inr (inl refl))) s)

read_fault : (o : Result End Undone) (asked : SessionWords) (before after : World) → session_status o ≡ 5
    → Happens o asked before after
    → HasRisen before.input.faults after.input.faults
read_fault (Ok ReadFault) asked before after s h = h.works.session.went.fault
read_fault (Ok end) asked before after s h = absurd (omega arith)
read_fault (Err undone.InputFault) asked before after s h = absurd h
read_fault (Err (undone.Setback setbacks.FileFault)) asked before after s h = absurd (omega arith)
read_fault (Err why) asked before after s h = absurd (omega arith)

write_fault : (o : Result End Undone) (asked : SessionWords) (before after : World) → session_status o ≡ 6
    → Happens o asked before after
    → HasRisen before.output.faults after.output.faults
write_fault (Ok WriteFault) asked before after s h = h.works.session.went.fault
write_fault (Ok end) asked before after s h = absurd (omega arith)
write_fault (Err why) asked before after s h = absurd (nothing_undone_has why 6 (inr (inr (inr refl))) s)

unattached : (o : Result End Undone) (asked : SessionWords) (before after : World) → session_status o ≡ 7
    → Happens o asked before after
    → Unattached asked before after
unattached (Err undone.StoreFault) asked before after s h = h.0
unattached (Err (undone.Setback setbacks.FileFault)) asked before after s h = absurd (omega arith)
unattached (Err why) asked before after s h = absurd (omega arith)
unattached (Ok end) asked before after s h = absurd (no_end_has end 7 (inr (inr (inr (inl refl)))) s)

unopened : (o : Result End Undone) (asked : SessionWords) (before after : World) → session_status o ≡ 10
    → Happens o asked before after
    → Unopened asked before (session_line o)
unopened (Err (undone.RowsRefused line)) asked before after s h = h.0
unopened (Err (undone.Setback setbacks.FileFault)) asked before after s h = absurd (omega arith)
unopened (Err why) asked before after s h = absurd (omega arith)
unopened (Ok end) asked before after s h = absurd (no_end_has end 10 (inr (inr (inr (inr refl)))) s)

-- a run whose line was written whole
told_whole : (o : Result End Undone) (asked : SessionWords) (before after : World) (status : ℕ)
    → Happens o asked before after → status ≡ session_status o
    → Appends before.errors.taken after.errors.taken (session_line o)
    → HasCause asked before after status
told_whole o asked before after status h s a = record {
  worked = λ e. worked o asked before after (sym s ∙ e) h;
  stopped = λ e. stopped o asked before after (sym s ∙ e) h;
  used = λ e. used o (sym s ∙ e);
  refused = λ e. (session_line o, refused o asked before after (sym s ∙ e) h, a);
  unread = λ e. unread o asked before after (sym s ∙ e) h;
  read_fault = λ e. read_fault o asked before after (sym s ∙ e) h;
  write_fault = λ e. inl (write_fault o asked before after (sym s ∙ e) h);
  unattached = λ e. unattached o asked before after (sym s ∙ e) h;
  unopened = λ e. (session_line o, unopened o asked before after (sym s ∙ e) h, a);
}

-- a run whose line wasn't
told_partly : (asked : SessionWords) (before after : World) (status : ℕ)
    → status ≡ 6 → HasRisen before.errors.faults after.errors.faults → HasCause asked before after status
told_partly asked before after status s f = record {
  worked = λ e. absurd (omega arith);
  stopped = λ e. absurd (omega arith);
  used = λ e. absurd (omega arith);
  refused = λ e. absurd (omega arith);
  unread = λ e. absurd (omega arith);
  read_fault = λ e. absurd (omega arith);
  write_fault = λ e. inr f;
  unattached = λ e. absurd (omega arith);
  unopened = λ e. absurd (omega arith);
}

-- how a run went tells the cause of its status
causes : (o : Result End Undone) (asked : SessionWords) (before after : World) (status : ℕ)
    → Happens o asked before after → Tells (session_line o) (session_status o) before.errors
    after.errors status → HasCause asked before after status
causes o asked before after status h (inl (s, a)) = told_whole o asked before after status h s a
causes o asked before after status h (inr (s, f, p)) = told_partly asked before after status s f

-- a told file reads so
reads_so : (told : Option (List FileBytes)) (files : List FileBytes) (name name' bytes : List ℕ)
    (read : Result Device ManifestFault)
    → Describes told name' read → told ≡ Some files → name' ≡ name → bytes_of name files ≡ Some bytes → device_of bytes
    ≡ read
reads_so None files name name' bytes read d t n b = cc
reads_so (Some fs) files name name' bytes read d t n b =
    let same : Some d.bytes ≡ Some bytes = sym d.held ∙ (ap (λ fs'. bytes_of name' fs') (same_Some _ _ t)
    ∙ (ap (λ n'. bytes_of n' files) n ∙ b)) in
    ap (λ bs. device_of bs) (sym (same_Some _ _ same)) ∙ d.reads

-- a told file isn't missing
not_missing : (told : Option (List FileBytes)) (files : List FileBytes) (name name' bytes : List ℕ)
    → IsMissing told name' → told ≡ Some files → name' ≡ name → bytes_of name files ≡ Some bytes → ⊥
not_missing None files name name' bytes m t n b = absurd m
not_missing (Some fs) files name name' bytes m t n b =
    let same : None ≡ Some bytes = sym m ∙ (ap (λ fs'. bytes_of name' fs') (same_Some _ _ t)
    ∙ (ap (λ n'. bytes_of n' files) n ∙ b)) in cc

-- the files failed
unread_fault : (files : List FileBytes) (name name' bytes : List ℕ) (before after : World)
    → IsUnread name' before.files after.files → before.files.files ≡ Some files → name' ≡ name → bytes_of name files
    ≡ Some bytes
    → HasRisen before.files.faults after.files.faults
unread_fault files name name' bytes before after (inl risen) t n b = risen
unread_fault files name name' bytes before after (inr missing) t n b =
    absurd (not_missing before.files.files files name name' bytes missing t n b)

-- memory ran out, or also the errors failed
wanted : (errors errors' : SinkView) (status : ℕ) → Tells no_memory_line 8 errors errors' status
    → HasRisen errors.faults errors'.faults ⊎ (status ≡ 8)
wanted errors errors' status (inl (s, a)) = inr s
wanted errors errors' status (inr (s, f, p)) = inl f

-- the device of a told file is the one that the run began with
begun : (asked : SessionWords) (before : World) (files : List FileBytes) (bytes : List ℕ) (device' device : Device)
    → Describes before.files.files asked.device (Ok device') → before.files.files ≡ Some files
    → bytes_of asked.device files ≡ Some bytes
    → device_of bytes ≡ Ok device → device' ≡ device
begun asked before files bytes device' device file f b d =
    same_device (device_of bytes) device' device
    (reads_so before.files.files files asked.device asked.device bytes (Ok device') file f refl b) d

-- how a session went tells that a good device file gave the work
completes : (o : Result End Undone) (asked : SessionWords) (before after : World) (status : ℕ)
    → Happens o asked before after → Tells (session_line o) (session_status o) before.errors
    after.errors status → Completes asked before after status
completes (Err (undone.Setback (setbacks.DeviceRefused line))) asked before after status h t files bytes device f b d =
    let clash : Ok device ≡ Err h.0.fault =
    sym d ∙ reads_so before.files.files files asked.device asked.device bytes (Err h.0.fault) h.0.file f refl b
    in cc
completes (Err (undone.Setback setbacks.FileFault)) asked before after status h t files bytes device f b d =
    inr (inl (unread_fault files asked.device asked.device bytes before after h.0 f refl b))
completes (Err (undone.Setback setbacks.NoMemory)) asked before after status h t files bytes device f b d =
    inr (inr (inr (inr (wanted before.errors after.errors status t))))
completes (Err undone.StoreFault) asked before after status h t files bytes device f b d =
    inr (inr (inl h.0.risen))
completes (Err (undone.RowsRefused line)) asked before after status h t files bytes device f b d =
    let made : h.0.device ≡ device = begun asked before files bytes h.0.device device h.0.file f b d in
    inr (inr (inr (inl (
      line,
      subst (λ (one : Device). RefusesRows one asked.store before.store line) made
          h.0.refused,
    ))))
completes (Err why) asked before after status h t files bytes device f b d = absurd h
completes (Ok end) asked before after status h t files bytes device f b d =
    let made : h.device ≡ device = begun asked before files bytes h.device device h.file f b d in
    inl (end, subst (λ (one : Device). Works asked one before after end) made h.works)

-- a whole session
runs : (o : Result End Undone) (asked : SessionWords) (before after : World) (status : ℕ)
    → Happens o asked before after → Tells (session_line o) (session_status o) before.errors
    after.errors status → RunsSession asked before after status
runs o asked before after status h t = record {
  went = record { work = o; happened = h; told = t };
  cause = causes o asked before after status h t;
  complete = completes o asked before after status h t;
}

-- a whole session, told by the line and the status that go with it
pub runs_told : (o made : Result End Undone) (asked : SessionWords) (before after : World) (line : List ℕ)
    (code status : ℕ) → o ≡ made
    → line ≡ session_line made → code ≡ session_status made → Happens o asked before after
    → Tells line code before.errors after.errors status → RunsSession asked before after status
runs_told o made asked before after line code status is says means h t =
    runs o asked before after status h
    (subst (λ (l : List ℕ). Tells l (session_status o) before.errors after.errors status)
    (says ∙ ap session_line (sym is))
    (subst (λ (n : ℕ). Tells line n before.errors after.errors status) (means ∙ ap session_status (sym is)) t))

-- a run of the command that the words say
pub runs_command : (words : List (List ℕ)) (found command : Command) (before after : World) (status : ℕ)
    → read_command words ≡ Some found → found ≡ command → RunsCommand (Some command) before after status
    → Runs words before after status
runs_command words found command before after status says is run =
    inl (subst (λ (o : Option Command). RunsCommand o before after status) (sym (says ∙ ap Some is)) run)
