-- Records as they are kept: by token, with the token of each key and each creator's number of records.
use Rattle.std.specs.Prelude.{◌≡◌, ℕ, ◌+◌, ◌-◌, ◌<◌, ◌==◌, Bool, not, cond, if◌then◌else◌, List, [], ◌∷◌, ◌++◌, All, map, filter, nat_eq, unwrap_or, Option, None, option_map, Result}
use Rattle.am_types.specs.declared.intent.Intent.{Intent}
use Rattle.am_types.specs.declared.intent.Named.{Named}
use Rattle.am_types.specs.declared.filter.FillFault.{FillFault}
use Rattle.am_types.specs.declared.pending.PendingFault.{PendingFault}
use Rattle.std.specs.List.{find}
use Rattle.std.specs.Map.{lookup}
use Rattle.am_model.specs.Pendings.{Pending, Pendings, count_of, fresh, has_key, is_holder, lent, made, updated, without_token}
use Rattle.am_pending.specs.declared.key.Key.{Key}
use Rattle.am_pending.specs.Keys.{asked_by, asking, is_same_key}
use Rattle.am_pending.specs.Once.{AtMostOne}

-- a record: its key, with the whole intent, and the uids other than the creator that hold its token
pub record Kept : Type 0 where
  pub key : Key
  pub holders : List ℕ

-- a record without holders
abbrev pub unheld : Key → Kept
unheld key = record { key = key; holders = [] }

-- a record under its token, as the model has it
abbrev pub pending_of : ℕ → Kept → Pending
pending_of token kept = record {
  token = token;
  creator = kept.key.creator;
  kind = kept.key.kind;
  code = kept.key.code;
  one_shot = kept.key.one_shot;
  immutable = kept.key.immutable;
  mutable = kept.key.mutable;
  intent = kept.key.intent;
  holders = kept.holders;
}

-- the records under their tokens
abbrev pub pendings_of : List (ℕ × Kept) → List Pending
pendings_of entries = map (λ (e : ℕ × Kept). pending_of e.0 e.1) entries

-- the records, with the next token
abbrev pub before : List Pending → ℕ → Pendings
before records next = record { records = records; next = next }

-- the uid made the record, or was given its token
abbrev pub is_holder_of : Kept → ℕ → Bool
is_holder_of kept uid = is_holder (pending_of 0 kept) uid

-- what the record lends, with a fill-in if there is one
abbrev pub lent_by : Kept → Option Intent → Result Intent FillFault
lent_by kept fill = lent (pending_of 0 kept) fill

-- the record with other extras
abbrev pub with_extras : List Named → Kept → Kept
with_extras extras kept = record kept {
  key = record (kept.key) {
    intent = record (kept.key.intent) { extras = extras };
  };
}

-- the record with one more holder
abbrev pub held_by : ℕ → Kept → Kept
held_by to kept = record kept { holders = kept.holders ++ to ∷ [] }

-- the record without this holder
abbrev pub let_go_by : ℕ → Kept → Kept
let_go_by uid kept = record kept { holders = filter (λ holder. not (holder == uid)) kept.holders }

-- the record has the token
abbrev pub is_token : ℕ → Pending → Bool
is_token token kept = kept.token == token

-- the record with this token, if there is one
abbrev pub record_in : ℕ → List Pending → Option Pending
record_in token records = find (is_token token) records

-- the token of the record that has the key, if there is one
abbrev pub token_in : Key → List Pending → Option ℕ
token_in key records = option_map (λ (kept : Pending). kept.token) (find (has_key (asked_by key)) records)

-- the token of a key in a table of tokens
abbrev pub token_at : List (Key × ℕ) → Key → Option ℕ
token_at tokens key = lookup (λ k. is_same_key k key) tokens

-- a creator's number of records in a table of numbers
abbrev pub count_at : List (ℕ × ℕ) → ℕ → ℕ
count_at counts uid = unwrap_or (lookup (nat_eq uid) counts) 0

-- the key has this token, or none, and the others have what they had
abbrev pub IsSetAt : List (Key × ℕ) → List (Key × ℕ) → Key → Option ℕ → Type 0
IsSetAt old new key token = (other : Key) → token_at new other ≡ cond (is_same_key other key) token (token_at old other)

-- the keys of a creator have no token, and the others have what they had
abbrev pub AreUnsetOf : List (Key × ℕ) → List (Key × ℕ) → ℕ → Type 0
AreUnsetOf old new uid = (other : Key) → token_at new other ≡ cond (other.creator == uid) None (token_at old other)

-- a uid's number of records if a creator has one more
abbrev pub raised : List (ℕ × ℕ) → ℕ → ℕ → ℕ
raised counts creator uid = count_at counts uid + cond (uid == creator) 1 0

-- a uid's number of records if a creator has one less
abbrev pub lowered : List (ℕ × ℕ) → ℕ → ℕ → ℕ
lowered counts creator uid = count_at counts uid - cond (uid == creator) 1 0

-- a uid's number of records if a creator's is removed
abbrev pub forgotten : List (ℕ × ℕ) → ℕ → ℕ → ℕ
forgotten counts creator uid = cond (uid == creator) 0 (count_at counts uid)

-- a fresh record of the key after those that stay
abbrev pub with_fresh : Pendings → List Pending → Key → Pendings
with_fresh all stay key = record { records = stay ++ fresh all.next (asked_by key) ∷ []; next = all.next + 1 }

-- without the record of a token
abbrev pub without : Pendings → ℕ → Pendings
without all token = record all { records = without_token all.records token }

-- the outcome for a key that no record has
abbrev pub made_for : Pendings → Bool → Key → Result (Option ℕ × Pendings) PendingFault
made_for all no_create key = made all all.records (asking no_create key)

-- the outcome for a key if its record, the one with this token, is canceled
abbrev pub renewed_for : Pendings → ℕ → Bool → Key → Result (Option ℕ × Pendings) PendingFault
renewed_for all token no_create key = made all (without_token all.records token) (asking no_create key)

-- all records, where the token's record has the extras of the key's intent if it is to be updated
abbrev pub kept_at : Pendings → ℕ → Key → Bool → Pendings
kept_at all token key update =
    record all { records = if update then map (updated token key.intent.extras) all.records else all.records }

-- no two records have the same key or token, all tokens are below the next one, each key has the token of its record,
-- and each creator has its number of records
pub record IsIndexed (records : List Pending) (tokens : Key → Option ℕ) (counts : ℕ → ℕ) (next : ℕ) : Type 0 where
  pub apart : (key : Key) → AtMostOne (has_key (asked_by key)) records
  pub once : (token : ℕ) → AtMostOne (is_token token) records
  pub below : All (λ (kept : Pending). kept.token < next) records
  pub found : (key : Key) → tokens key ≡ token_in key records
  pub counted : (uid : ℕ) → counts uid ≡ count_of records uid
