-- The words of kinds and of pending flags.
use Rattle.std.specs.Prelude.{ℕ, Bool, List, [], ◌∷◌, codes, if◌then◌else◌, Result, Ok}
use Rattle.serde_json.specs.Data.{Data}
use Rattle.am_types.specs.declared.manifest.Kind.{Kind}
use Rattle.am_types.specs.declared.manifest.Kind.TheVariants.{Activity, Service, Receiver}
use Rattle.am_types.specs.declared.pending.PendingFlags.{PendingFlags}
use Rattle.am_model.specs.Texts.{is_same, lists}
use Rattle.am_wire_fields.specs.declared.fault.WireFault.{WireFault}
use Rattle.am_wire_fields.specs.Fields.{required}
use Rattle.am_wire_fields.specs.Lists.{list_in, word_in, words_in}
use Rattle.am_types.specs.Reading.{◌>>=◌}

-- the kinds of components
unfoldable pub kind_words : List (List ℕ)
kind_words = codes "activity" ∷ codes "service" ∷ codes "receiver" ∷ []

-- the kind that this word names
abbrev pub kind_named : List ℕ → Kind
kind_named word = if is_same word (codes "activity") then Activity else if is_same word (codes "service") then Service
    else Receiver

-- the kind that the field `kind` names with one of these words
unfoldable pub kind_among : List (List ℕ) → Data → Result Kind WireFault
kind_among words body = do
  value ← required (codes "kind") body
  word ← word_in words (codes "kind") value
  Ok (kind_named word)

-- the kind of component that a query asks for
unfoldable pub kind_of : Data → Result Kind WireFault
kind_of body = kind_among kind_words body

-- what a pending intent does
unfoldable pub pending_words : List (List ℕ)
pending_words = codes "activity" ∷ codes "broadcast" ∷ codes "service" ∷ []

-- the kind that a pending intent reaches
unfoldable pub pending_kind_of : Data → Result Kind WireFault
pending_kind_of body = kind_among pending_words body

-- the names of the flags with which a pending intent is asked for
unfoldable pub pending_flag_names : List (List ℕ)
pending_flag_names =
    codes "ONE_SHOT" ∷ codes "NO_CREATE" ∷ codes "CANCEL_CURRENT" ∷ codes "UPDATE_CURRENT" ∷ codes "IMMUTABLE"
    ∷ codes "MUTABLE" ∷ []

-- the flags whose names are set
abbrev pub pending_flags_by : (List ℕ → Bool) → PendingFlags
pending_flags_by is_set = record {
  one_shot = is_set (codes "ONE_SHOT");
  no_create = is_set (codes "NO_CREATE");
  cancel_current = is_set (codes "CANCEL_CURRENT");
  update_current = is_set (codes "UPDATE_CURRENT");
  immutable = is_set (codes "IMMUTABLE");
  mutable = is_set (codes "MUTABLE");
}

-- the flags whose names are listed, once or more often
unfoldable pub pending_flags_listed : List (List ℕ) → PendingFlags
pending_flags_listed names = pending_flags_by (lists names)

-- the field `flags` of a request for a pending intent, which is required
unfoldable pub pending_flags_of : Data → Result PendingFlags WireFault
pending_flags_of body = do
  value ← required (codes "flags") body
  values ← list_in (codes "flags") value
  names ← words_in pending_flag_names (codes "flags") values
  Ok (pending_flags_listed names)
