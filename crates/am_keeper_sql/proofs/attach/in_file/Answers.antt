use Rattle.std.proofs.Common.{ℕ, Bool, cond, List, inl, inr, ap₂}
use Rattle.std.proofs.lemmas.Option.{IfSome_then}
use Rattle.sqlite_disk.specs.Events.{Event, replay}
use Rattle.sqlite_wal.specs.Recovery.{Image}
use Rattle.sqlite_trees.proofs.Doubt.{no_doubt}
use Rattle.sqlite.specs.WalFiles.{image_at}
use Rattle.sqlite.specs.Files.{file_state}
use Rattle.am_keeper_sql.proofs.Attaches.{opened_rising}
use Rattle.am_keeper_sql.proofs.Images.{finds, not_held, some_fault, open_refused}
use Rattle.am_keeper_sql.proofs.attach.in_file.Goals as goal

-- what two files held before the first call
abbrev image : List ℕ → List ℕ → Image
image log db = record { log = log; db = db }

abbrev seen : List ℕ → List ℕ → Bool → List Event → List ℕ
seen log db is_log history = (replay (cond is_log log db) history).seen

pub begin-requires : goal.begin-requires
begin-requires g c clean =
    let s = file_state c.in-Ok-open_from.conn in
    let is = c.in-Ok-open_from.ensures.opened clean in
    record {
      opens = is.0;
      live = is.1;
      unlimited = c.in-Ok-open_from.ensures.fresh.unlimited;
      rising = opened_rising (image_at g.S.Start) s is.0 is.1 (c.in-Ok-open_from.ensures.found clean);
    }

pub returns-clause-found : goal.returns-clause-found
returns-clause-found g c honest =
    let s = file_state c.in-Ok-open_from.conn in
    let clean = c.in-Ok-begin.ensures.clean honest.clean in
    let is = c.in-Ok-open_from.ensures.opened clean in
    finds (image_at g.S.Start) s is.0 is.1 (c.in-Ok-open_from.ensures.found clean) c.in-Ok-begin.begun.1
    (c.in-Ok-begin.ensures.has honest)

pub returns-in-Err-begin-clause-refused : goal.returns-in-Err-begin-clause-refused
returns-in-Err-begin-clause-refused g c is whole =
    let s = file_state c.in-Ok-open_from.conn in
    let why = c.in-Err-begin.ensures.refused is (no_doubt _ whole) in
    let opened = c.in-Ok-open_from.ensures.opened why.0 in
    elim why.1 [
      | inl more ↦ inl (some_fault _ _ more)
      | inr never ↦ inr (inr (not_held (image_at g.S.Start) s opened.0 opened.1 (c.in-Ok-open_from.ensures.found why.0)
          never))
    ]

pub returns-in-Err-clause-refused : goal.returns-in-Err-clause-refused
returns-in-Err-clause-refused g c is =
    let other = c.fail.ensures.failed is in
    IfSome_then c.in-Err.left c.in-Err.ensures.cause (λ left cause clean.
    let same = ap₂ image (ap₂ (seen g.S.Start.log g.S.Start.db) cause.1.0 cause.1.1)
    (ap₂ (seen g.S.Start.log g.S.Start.db) cause.2.0 cause.2.1) in
    open_refused (image_at g.S.Start) cause.0 left c.in-Err.error same other (cause.3 clean).0)
