-- Files by their names, as a reader of files tells them.
use Rattle.std.specs.Prelude.{◌≡◌, ℕ, List, [], ◌∷◌, Option, Some, None, Result, Ok, Err, ⊤, if◌then◌else◌, nat_eq}
use Rattle.std.specs.Cmp.Lexicographic.{pointwise}
use Rattle.am_outside.specs.Counts.{HasRisen}
use Rattle.am_outside.specs.declared.files.FileBytes.{FileBytes}
use Rattle.am_outside.specs.declared.files.FileFail.{FileFail}
use Rattle.am_outside.specs.declared.files.FileFail.TheVariants.{Absent, Failed, NoMemory}

-- the bytes of the first file of that name, if there is one
abbrev pub bytes_of : List ℕ → List FileBytes → Option (List ℕ)
bytes_of name [] = None
bytes_of name (first ∷ others) = if pointwise nat_eq first.name name then Some first.bytes else bytes_of name others

-- the file's bytes were answered whole; a failure raised the count; it isn't absent
abbrev pub AnswersFile : {V : Type 0} → (V → List ℕ) → List ℕ → ℕ → ℕ → Result V FileFail → Type 0
AnswersFile view bytes old new (Ok read) = view read ≡ bytes
AnswersFile view bytes old new (Err Absent) = ⊥
AnswersFile view bytes old new (Err Failed) = HasRisen old new
AnswersFile view bytes old new (Err NoMemory) = ⊤

-- no such file: the answer is that it is absent, or that memory ran out, and the count stays
abbrev pub AnswersNone : {V : Type 0} → ℕ → ℕ → Result V FileFail → Type 0
AnswersNone old new (Ok read) = ⊥
AnswersNone old new (Err Absent) = new ≡ old
AnswersNone old new (Err Failed) = ⊥
AnswersNone old new (Err NoMemory) = new ≡ old

-- of files that aren't told: a failure raised the count, and none is absent
abbrev pub AnswersUntold : {V : Type 0} → ℕ → ℕ → Result V FileFail → Type 0
AnswersUntold old new (Ok read) = ⊤
AnswersUntold old new (Err Absent) = ⊥
AnswersUntold old new (Err Failed) = HasRisen old new
AnswersUntold old new (Err NoMemory) = ⊤

-- what is answered for a name of told files; `view` gives the bytes of what was read
abbrev pub AnswersTold : {V : Type 0} → (V → List ℕ) → Option (List ℕ) → ℕ → ℕ → Result V FileFail → Type 0
AnswersTold view None old new answer = AnswersNone old new answer
AnswersTold view (Some bytes) old new answer = AnswersFile view bytes old new answer

-- what is answered for a name, where the files are told and where they aren't; `old` and `new` are the counts
abbrev pub ReadsFile : {V : Type 0} → (V → List ℕ) → Option (List FileBytes) → List ℕ → ℕ → ℕ → Result V FileFail
    → Type 0
ReadsFile view None name old new answer = AnswersUntold old new answer
ReadsFile view (Some files) name old new answer = AnswersTold view (bytes_of name files) old new answer

-- the names are distinct
abbrev pub AreDistinct : List FileBytes → Type 0
AreDistinct [] = ⊤
AreDistinct (first ∷ others) = (bytes_of first.name others ≡ None) × AreDistinct others
