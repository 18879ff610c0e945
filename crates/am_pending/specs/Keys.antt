-- What tells one pending intent from another.
use Rattle.std.specs.Prelude.{ℕ, ℤ, Bool, false, ◌&&◌, ◌==◌}
use Rattle.std.specs.Ordering.{int_eq}
use Rattle.am_types.specs.declared.intent.Intent.{Intent}
use Rattle.am_types.specs.declared.manifest.Kind.{Kind}
use Rattle.am_types.specs.declared.pending.PendingFlags.{PendingFlags}
use Rattle.am_pending.specs.declared.key.Key.{Key}
use Rattle.am_model.specs.Candidates.{is_kind}
use Rattle.am_model.specs.Intents.{filter_equals}
use Rattle.am_model.specs.Pendings.{Asked, is_same_truth}

-- the request for the record of a key, which may say not to create one
abbrev pub asking : Bool → Key → Asked
asking no_create key = record {
  creator = key.creator;
  kind = key.kind;
  code = key.code;
  intent = key.intent;
  flags = record {
    one_shot = key.one_shot;
    no_create = no_create;
    cancel_current = false;
    update_current = false;
    immutable = key.immutable;
    mutable = key.mutable;
  };
}

-- the request for the record of a key
abbrev pub asked_by : Key → Asked
asked_by key = asking false key

-- the key of a creator's intent for a kind, a code and flags
abbrev pub key_with : ℕ → Kind → ℤ → Intent → PendingFlags → Key
key_with creator kind code intent flags = record {
  creator = creator;
  kind = kind;
  code = code;
  one_shot = flags.one_shot;
  immutable = flags.immutable;
  mutable = flags.mutable;
  intent = intent;
}

-- the key of a request
abbrev pub key_for : Asked → Key
key_for asked = key_with asked.creator asked.kind asked.code asked.intent asked.flags

-- two keys are the same: extras and flags of their intents don't count
abbrev pub is_same_key : Key → Key → Bool
is_same_key kept asked =
    (((((kept.creator == asked.creator
    && is_kind kept.kind asked.kind)
    && int_eq kept.code asked.code)
    && is_same_truth kept.one_shot asked.one_shot)
    && is_same_truth kept.immutable asked.immutable)
    && is_same_truth kept.mutable asked.mutable)
    && filter_equals kept.intent asked.intent
