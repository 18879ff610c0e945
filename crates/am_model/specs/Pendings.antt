-- Pending intents: records that lend their creator's identity to those who hold their token.
use Rattle.std.specs.Prelude.{ℕ, ◌+◌, ℤ, Bool, true, false, not, ◌&&◌, ◌||◌, ◌==◌, nat_le, List, [], ◌∷◌, ◌++◌, length, map, filter, if◌then◌else◌, Option, Some, None, Result, Ok, Err}
use Rattle.std.specs.List.{list_any, count_by, find}
use Rattle.std.specs.Ordering.{int_eq}
use Rattle.am_types.specs.declared.intent.Intent.{Intent}
use Rattle.am_types.specs.declared.intent.Named.{Named}
use Rattle.am_types.specs.declared.manifest.Kind.{Kind}
use Rattle.am_types.specs.declared.filter.FillFault.{FillFault}
use Rattle.am_types.specs.declared.pending.PendingFlags.{PendingFlags}
use Rattle.am_types.specs.declared.pending.PendingFault.{PendingFault}
use Rattle.am_types.specs.declared.pending.PendingFault.TheVariants.{Mutability, Full, NoToken, NotCreator, NotHolder, Canceled, ExtrasFull, HoldersFull}
use Rattle.am_types.specs.declared.pending.Used.{Used}
use Rattle.am_model.specs.Intents.{filter_equals, fill_in}
use Rattle.am_model.specs.Candidates.{is_kind}

-- a live record: its token, its key (the creator, the kind, the code, three flags and the intent except its flags and
-- extras), and those besides the creator who hold the token
pub record Pending : Type 0 where
  pub token : ℕ
  pub creator : ℕ
  pub kind : Kind
  pub code : ℤ
  pub one_shot : Bool
  pub immutable : Bool
  pub mutable : Bool
  pub intent : Intent
  pub holders : List ℕ

-- the live records in the order of their tokens, and the next token
pub record Pendings : Type 0 where
  pub records : List Pending
  pub next : ℕ

-- no record yet
abbrev pub no_pendings : Pendings
no_pendings = record { records = []; next = 1 }

-- what is asked for: the creator, the kind, the code, the intent and the flags
pub record Asked : Type 0 where
  pub creator : ℕ
  pub kind : Kind
  pub code : ℤ
  pub intent : Intent
  pub flags : PendingFlags

-- two truths are the same
abbrev pub is_same_truth : Bool → Bool → Bool
is_same_truth true other = other
is_same_truth false other = not other

-- the record has the key that is asked for; extras and the other flags don't count
abbrev pub has_key : Asked → Pending → Bool
has_key asked kept =
    (((((kept.creator == asked.creator
    && is_kind kept.kind asked.kind)
    && int_eq kept.code asked.code)
    && is_same_truth kept.one_shot asked.flags.one_shot)
    && is_same_truth kept.immutable asked.flags.immutable)
    && is_same_truth kept.mutable asked.flags.mutable)
    && filter_equals kept.intent asked.intent

-- exactly one of mutable and immutable is given
abbrev pub is_clear : PendingFlags → Bool
is_clear flags = not (is_same_truth flags.mutable flags.immutable)

-- how many live records a creator has
abbrev pub count_of : List Pending → ℕ → ℕ
count_of records creator = count_by (λ (kept : Pending). kept.creator == creator) records

-- a fresh record
abbrev pub fresh : ℕ → Asked → Pending
fresh token asked = record {
  token = token;
  creator = asked.creator;
  kind = asked.kind;
  code = asked.code;
  one_shot = asked.flags.one_shot;
  immutable = asked.flags.immutable;
  mutable = asked.flags.mutable;
  intent = asked.intent;
  holders = [];
}

-- the records without that one
abbrev pub without_token : List Pending → ℕ → List Pending
without_token records token = filter (λ (kept : Pending). not (kept.token == token)) records

-- one more record beside those that stay, unless the creator has 1,024 of them; no record at all if none is to be
-- made
abbrev pub made : Pendings → List Pending → Asked → Result (Option ℕ × Pendings) PendingFault
made all stay asked =
    if asked.flags.no_create then Ok (None, record all { records = stay })
    else if nat_le 1024 (count_of stay asked.creator) then Err Full
    else Ok (Some all.next, record { records = stay ++ fresh all.next asked ∷ []; next = all.next + 1 })

-- the record with other extras
abbrev pub updated : ℕ → List Named → Pending → Pending
updated token extras kept =
    if kept.token == token then record kept { intent = record (kept.intent) { extras = extras } } else kept

-- what becomes of the record that has the key, if there is one: it is canceled, or it is kept and may be updated
abbrev pub found : Pendings → Asked → Option Pending → Result (Option ℕ × Pendings) PendingFault
found all asked None = made all all.records asked
found all asked (Some kept) =
    if asked.flags.cancel_current then made all (without_token all.records kept.token) asked
    else if asked.flags.update_current
    then Ok (Some kept.token, record all { records = map (updated kept.token asked.intent.extras) all.records })
    else Ok (Some kept.token, all)

-- a token is asked for: it, if there is one, and the records
unfoldable pub get : Pendings → Asked → Result (Option ℕ × Pendings) PendingFault
get all asked =
    if is_clear asked.flags then found all asked (find (has_key asked) all.records) else Err Mutability

-- the live record of a token, if there is one
abbrev pub record_of : Pendings → ℕ → Option Pending
record_of all token = find (λ (kept : Pending). kept.token == token) all.records

-- the records after the creator canceled that one
abbrev pub canceled : Pendings → ℕ → Option Pending → Result Pendings PendingFault
canceled all uid None = Err NoToken
canceled all uid (Some kept) =
    if kept.creator == uid then Ok (record all { records = without_token all.records kept.token }) else Err NotCreator

-- a token is canceled by a uid
unfoldable pub cancel : Pendings → ℕ → ℕ → Result Pendings PendingFault
cancel all token uid = canceled all uid (record_of all token)

-- the uid made the token, or was given it
abbrev pub is_holder : Pending → ℕ → Bool
is_holder kept uid = (kept.creator == uid) || list_any (λ holder. holder == uid) kept.holders

-- the record with one more holder
abbrev pub with_holder : ℕ → ℕ → Pending → Pending
with_holder token to kept = if kept.token == token then record kept { holders = kept.holders ++ to ∷ [] } else kept

-- the records after the creator gave that token to a uid
abbrev pub given : Pendings → ℕ → ℕ → Option Pending → Result Pendings PendingFault
given all uid to None = Err NoToken
given all uid to (Some kept) =
    if not (kept.creator == uid) then Err NotCreator
    else if is_holder kept to then Ok all
    else if nat_le 64 (length kept.holders) then Err HoldersFull
    else Ok (record all { records = map (with_holder kept.token to) all.records })

-- a token is given to a uid by another
unfoldable pub give : Pendings → ℕ → ℕ → ℕ → Result Pendings PendingFault
give all token uid to = given all uid to (record_of all token)

-- a token that was never made, or was made and isn't live any more
abbrev pub no_record : Pendings → ℕ → PendingFault
no_record all token = if (token == 0) || nat_le all.next token then NoToken else Canceled

-- what is done with the record's intent: a mutable one takes a fill-in
abbrev pub lent : Pending → Option Intent → Result Intent FillFault
lent kept None = Ok kept.intent
lent kept (Some fill) = if kept.mutable then fill_in kept.intent fill else Ok kept.intent

-- what the token stands for
abbrev pub used_as : Pending → Result Intent FillFault → Result Used PendingFault
used_as kept (Err full) = Err ExtrasFull
used_as kept (Ok intent) = Ok (record {
  creator = kept.creator;
  kind = kept.kind;
  intent = intent;
  one_shot =
      kept.one_shot;
})

-- what a token stands for, where its record, if there is one, is held by the uid
abbrev pub used : Pendings → ℕ → ℕ → Option Intent → Option Pending → Result Used PendingFault
used all token uid fill None = Err (no_record all token)
used all token uid fill (Some kept) = if is_holder kept uid then used_as kept (lent kept fill) else Err NotHolder

-- a token is used by a uid, with what that one fills in; the records stay
unfoldable pub use_token : Pendings → ℕ → ℕ → Option Intent → Result Used PendingFault
use_token all token uid fill = used all token uid fill (record_of all token)

-- the record without a holder
abbrev pub without_holder : ℕ → Pending → Pending
without_holder uid kept = record kept { holders = filter (λ holder. not (holder == uid)) kept.holders }

-- a uid is forgotten: its records are canceled, and it holds no token any more
abbrev pub forget_uid : Pendings → ℕ → Pendings
forget_uid all uid =
    record all {
      records = map (without_holder uid) (filter (λ (kept : Pending). not (kept.creator == uid)) all.records);
    }
