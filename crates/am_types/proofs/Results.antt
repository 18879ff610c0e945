-- What a call says of its success, where it succeeded, and of its failure, where it failed.
use Rattle.std.proofs.Common.{◌≡◌, true, false, Result, Ok, Err, sym}
use Rattle.std.specs.Prelude.{OnOk, OnErr, is_err}
use Rattle.std.proofs.lemmas.Bool.{true≢false}

pub from_ok : {T E P : Type 0} (r : Result T E) → OnOk r P → is_err r ≡ false → P
from_ok (Ok x) h e = h
from_ok (Err y) h e = absurd (true≢false e)

pub from_err : {T E P : Type 0} (r : Result T E) → OnErr r P → is_err r ≡ true → P
from_err (Ok x) h e = absurd (true≢false (sym e))
from_err (Err y) h e = h
