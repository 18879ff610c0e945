-- What an outcome tells.
use Rattle.std.specs.Prelude.{Result, Ok, Err, IfOk}

-- what is known of a value may be stated in another way
pub if_ok : {A E : Type 0} (r : Result A E) (P Q : A → Type 0) → ((x : A) → P x → Q x) → IfOk r P → IfOk r Q
if_ok (Ok x) P Q more known = more x known
if_ok (Err e) P Q more known = tt
