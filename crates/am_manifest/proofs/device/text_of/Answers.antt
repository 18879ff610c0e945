-- The test of UTF-8 against std's.
use Rattle.std.proofs.Common.{Ok, ℕ, List, ap, sym}
use Rattle.std.proofs.lemmas.Str.{is_utf8-from_IsUtf8}
use Rattle.am_manifest.specs.Devices.{text_of}
use Rattle.am_manifest.proofs.Bytes.{is_utf8-none}
use Rattle.am_manifest.proofs.device.text_of.Goals as goal

pub returns-in-Ok-clause-reads : goal.returns-in-Ok-clause-reads
unfolding text_of
returns-in-Ok-clause-reads c =
    let h = c.in-Ok.ensures.cases in
    rw (is_utf8-from_IsUtf8 c.args.bytes.now h.1) (ap (λ (bytes : List ℕ). Ok bytes) (sym h.0))

pub returns-in-Err-clause-reads : goal.returns-in-Err-clause-reads
unfolding text_of
returns-in-Err-clause-reads c = rw (is_utf8-none c.args.bytes.now c.in-Err.ensures.cases.0)
