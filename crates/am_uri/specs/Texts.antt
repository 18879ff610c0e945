-- The forms of texts and names, and sorted lists of texts.
use Rattle.std.specs.Prelude.{ℕ, Bool, true, not, ◌==◌, List, [], length, fold, Option, Some, None}
use Rattle.std.specs.List.{list_any}
use Rattle.std.specs.Ordering.{nat_cmp, is_eq}
use Rattle.std.specs.Cmp.Lexicographic.{slice_cmp}
use Rattle.std.specs.BTreeSet.{insert_key}
use Rattle.am_model.specs.Sound.{is_name, is_package_name, is_access_key}
use Rattle.am_uri.specs.declared.text.Form.{Form}
use Rattle.am_uri.specs.declared.text.Form.TheVariants.{Any, Filled, Class, PackageName, AccessKey}

-- whether a text has this form
abbrev pub fits : Form → List ℕ → Bool
fits Any text = true
fits Filled text = not (length text == 0)
fits Class text = is_name text
fits PackageName text = is_package_name text
fits AccessKey text = is_access_key text

-- a sorted list of texts, with one more in its place unless it is there
abbrev pub with_text : List (List ℕ) → List ℕ → List (List ℕ)
with_text texts text = insert_key (slice_cmp nat_cmp) texts text

-- a sorted list of texts, with one more, if there is one
abbrev pub with_optional : List (List ℕ) → Option (List ℕ) → List (List ℕ)
with_optional texts None = texts
with_optional texts (Some text) = with_text texts text

-- the texts sorted by bytes, each once
abbrev pub sorted_texts : List (List ℕ) → List (List ℕ)
sorted_texts texts = fold with_text [] texts

-- the text is one of these
abbrev pub is_among : List ℕ → List (List ℕ) → Bool
is_among text texts = list_any (λ other. is_eq (slice_cmp nat_cmp text other)) texts
