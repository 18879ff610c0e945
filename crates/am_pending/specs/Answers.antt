-- How the result of a call relates to the result of the definitions.
use Rattle.std.specs.Prelude.{◌≡◌, Result, Ok, Err}
use Rattle.am_types.specs.declared.pending.PendingFault.{PendingFault}
use Rattle.am_types.specs.declared.pending.PendingFault.TheVariants.{NoMemory}
use Rattle.am_types.specs.declared.pending.Used.{Used}
use Rattle.am_model.specs.Pendings.{Pendings}

-- the definitions refuse for the same reason; running out of memory implies nothing about them
abbrev pub IsRefusal : {X : Type 0} → PendingFault → Result X PendingFault → Type 0
IsRefusal NoMemory said = Unit {0}
IsRefusal fault said = said ≡ Err fault

-- the answer and the kept records are those of the definitions; after a refusal nothing has changed
abbrev pub IsAnswer : {X : Type 0} → Result X PendingFault → Pendings → Pendings → Result (X × Pendings) PendingFault
    → Type 0
IsAnswer (Ok x) old new said = said ≡ Ok (x, new)
IsAnswer (Err fault) old new said = IsRefusal fault said × (new ≡ old)

-- the kept records are those of the definitions; after a refusal nothing has changed
abbrev pub IsChange : {X : Type 0} → Result X PendingFault → Pendings → Pendings → Result Pendings PendingFault → Type 0
IsChange (Ok x) old new said = said ≡ Ok new
IsChange (Err fault) old new said = IsRefusal fault said × (new ≡ old)

-- the result of using a token is that of the definitions
abbrev pub IsUse : Result Used PendingFault → Result Used PendingFault → Type 0
IsUse (Ok used) said = said ≡ Ok used
IsUse (Err fault) said = IsRefusal fault said
