-- Reading from left to right, up to the first fault.
use Rattle.std.specs.Prelude.{◌≡◌, Result, Ok, Err}
use Rattle.am_types.specs.declared.failure.Unmade.{Unmade}
use Rattle.am_types.specs.declared.failure.Unmade.TheVariants as unmade

infixl 10 ◌>>=◌
-- the second step reads on with what the first one read; a fault of the first one stays
abbrev pub ◌>>=◌ : {F A B : Type 0} → Result A F → (A → Result B F) → Result B F
(Ok x) >>= read = read x
(Err fault) >>= read = Err fault

-- the fault is this one, unless memory ran out
abbrev pub IsFault : {F : Type 0} → Unmade F → F → Type 0
IsFault unmade.NoMemory fault = Unit {0}
IsFault (unmade.Fault met) fault = met ≡ fault

-- the fault is the one that reading meets, unless memory ran out
abbrev pub Fails : {F X : Type 0} → Unmade F → Result X F → Type 0
Fails unmade.NoMemory read = Unit {0}
Fails (unmade.Fault fault) read = read ≡ Err fault

-- what a function answers, seen by `view`, is what reading gives, unless memory ran out
abbrev pub GivesBy : {F X Y : Type 0} → (X → Y) → Result X (Unmade F) → Result Y F → Type 0
GivesBy view (Ok x) read = read ≡ Ok (view x)
GivesBy view (Err fault) read = Fails fault read

-- what a function answers is what reading gives, unless memory ran out
abbrev pub Gives : {F X : Type 0} → Result X (Unmade F) → Result X F → Type 0
Gives (Ok x) read = read ≡ Ok x
Gives (Err fault) read = Fails fault read
