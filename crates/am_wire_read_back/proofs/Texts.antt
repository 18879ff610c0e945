-- Texts, truths and words: what was read of a value is read again.
use Rattle.std.proofs.Common.{◌≡◌, ℕ, Bool, true, false, cond, List, [], ◌∷◌, length, map, Option, Some, None, option_map, Result, Ok, Err, true≢false, refl, sym, ap, ◌∙◌, subst}
use Rattle.std.specs.Prelude.{nat_lt}
use Rattle.std.specs.List.{AllByRecursion}
use Rattle.serde_json.specs.Data.{Data, boolean, string, object}
use Rattle.serde_json.specs.Find.{as_str}
use Rattle.am_uri.specs.declared.text.Form.{Form}
use Rattle.am_uri.specs.Texts.{fits}
use Rattle.am_model.specs.Texts.{lists}
use Rattle.am_wire_fields.specs.declared.fault.WireFault.{WireFault}
use Rattle.am_wire_fields.specs.declared.fault.WireFault.TheVariants.{WrongKind, TooLong}
use Rattle.am_wire_fields.specs.Fields.{unless_null, field, present, required, of_kind, truth_in, truth_or_false, optional_truth, required_truth}
use Rattle.am_wire_fields.specs.Lists.{word_of, word_in, words_in}
use Rattle.am_types.specs.Reading.{◌>>=◌}
use Rattle.am_wire_fields.specs.Texts.{text_of, text_in, optional_text, required_text}
use Rattle.am_wire_values.specs.Fields.{some_truth}
use Rattle.am_wire_read_back.proofs.Kept.{IsKept, ForSome, field_kept}
use Rattle.am_wire_read_back.proofs.Lists.{IsRead, each_again}
use Rattle.am_wire_read_back.proofs.Objects.{Entry, members_with, value_at, are_apart, field_at}
use Rattle.am_wire_read_back.proofs.Options.{IsFieldReread, IsReread, WritesNoNull, option_field}
use Rattle.am_wire_read_back.proofs.Steps.{step, steps, same_ok}

-- if a test holds, what is read after it
pub if_read : {A E : Type 0} (b : Bool) (read : Result A E) (fault : E) (x : A) → cond b read (Err fault) ≡ Ok x
    → (b ≡ true) × (read ≡ Ok x)
if_read true read fault x h = (refl, h)
if_read false read fault x h = absurd (cc)

-- if a test fails, what is read after it
pub else_read : {A E : Type 0} (b : Bool) (fault : E) (read : Result A E) (x : A) → cond b (Err fault) read ≡ Ok x
    → (b ≡ false) × (read ≡ Ok x)
else_read true fault read x h = absurd (cc)
else_read false fault read x h = (refl, h)

-- and the other way round
pub read_if : {A E : Type 0} (b : Bool) (read : Result A E) (fault : E) (x : A) → b ≡ true → read ≡ Ok x
    → cond b read (Err fault) ≡ Ok x
read_if true read fault x h r = r
read_if false read fault x h r = absurd (true≢false (sym h))

pub read_else : {A E : Type 0} (b : Bool) (fault : E) (read : Result A E) (x : A) → b ≡ false → read ≡ Ok x
    → cond b (Err fault) read ≡ Ok x
read_else true fault read x h r = absurd (true≢false h)
read_else false fault read x h r = r

-- ---- texts

text_of_again : (form : Form) (limit : ℕ) (name : List ℕ) (o : Option (List ℕ)) (text : List ℕ)
    → text_of form limit name o ≡ Ok text → text_of form limit name (Some text) ≡ Ok text
unfolding text_of
text_of_again form limit name None text h = absurd (cc)
text_of_again form limit name (Some said) text h =
    let fit = if_read (fits form said) (cond (nat_lt limit (length said)) (Err (TooLong name)) (Ok said))
    (WrongKind name) text h in
    let short = else_read (nat_lt limit (length said)) (TooLong name) (Ok said) text fit.1 in
    let same : said ≡ text = same_ok said text short.1 in
    let P : List ℕ → Type 0 = λ t. cond (fits form t) (cond (nat_lt limit (length t)) (Err (TooLong name)) (Ok t))
    (Err (WrongKind name)) ≡ Ok text in
    subst P same h

pub text_again : (form : Form) (limit : ℕ) (name : List ℕ) → IsReread (text_in form limit name) string
unfolding text_in
text_again form limit name value text k h = text_of_again form limit name (as_str value) text h

-- an optional text
pub text_field : (form : Form) (limit : ℕ) (name : List ℕ)
    → IsFieldReread name (optional_text form limit name) (option_map string)
unfolding optional_text
text_field form limit name =
    option_field (text_in form limit name) string (text_again form limit name) (λ t. refl) name

-- ---- required fields

-- the value of a required field is that field
pub present_is : (name : List ℕ) (o : Option Data) (value : Data) → present name o ≡ Ok value → o ≡ Some value
unfolding present
present_is name None value h = absurd (cc)
present_is name (Some said) value h = ap Some (same_ok said value h)

pub required_kept : (name : List ℕ) (parent value : Data) → IsKept parent → required name parent ≡ Ok value
    → IsKept value
unfolding required
required_kept name parent value k h = let P : Option Data → Type 0 = ForSome IsKept in subst P
    (present_is name (field name parent) value h) (field_kept name parent k)

-- a field that is written is present
pub required_at : (name : List ℕ) (es : List Entry) (value : Data) → are_apart es ≡ true → value_at name es ≡ Some value
    → unless_null (Some value) ≡ Some value
    → required name (object (members_with es)) ≡ Ok value
unfolding required present
required_at name es value apart is there = ap (present name) (field_at name es apart ∙ (ap unless_null is ∙ there))

-- what was read from a required field is read again
pub field_again : {A : Type 0} (read : Data → Result A WireFault) (write : A → Data) → IsReread read write
    → WritesNoNull write → (name : List ℕ)
    → IsFieldReread name (λ body. required name body >>= read) (λ x. Some (write x))
field_again read write again said name parent x es k h apart is =
    let s = step (required name parent) read x h in
    steps (required name (object (members_with es))) read (write x) x (required_at name es (write x) apart is (said x))
    (again s.value x (required_kept name parent s.value k s.first) s.later)

pub required_text_again : (form : Form) (limit : ℕ) (name : List ℕ)
    → IsFieldReread name (required_text form limit name) (λ t. Some (string t))
unfolding required_text
required_text_again form limit name =
    field_again (text_in form limit name) string (text_again form limit name) (λ t. refl) name

-- ---- truths

pub truth_field : (name : List ℕ) (b : Bool) (es : List Entry) → are_apart es ≡ true → value_at name es ≡ some_truth b
    → optional_truth name (object (members_with es)) ≡ Ok b
unfolding optional_truth truth_or_false truth_in of_kind
truth_field name b es apart is = ap (truth_or_false name) (field_at name es apart ∙ ap unless_null is) ∙ by b
  where
    by : (b : Bool) → truth_or_false name (unless_null (some_truth b)) ≡ Ok b
    by true = refl
    by false = refl

pub required_truth_at : (name : List ℕ) (b : Bool) (es : List Entry) → are_apart es ≡ true → value_at name es
    ≡ Some (boolean b) → required_truth name (object (members_with es)) ≡ Ok b
unfolding required_truth truth_in of_kind
required_truth_at name b es apart is = steps (required name (object (members_with es))) (truth_in name) (boolean b) b
    (required_at name es (boolean b) apart is refl) refl

-- ---- words

pub word_again : (words : List (List ℕ)) (name text : List ℕ) → lists words text ≡ true
    → word_in words name (string text) ≡ Ok text
unfolding word_in word_of
word_again words name text h = read_if (lists words text) (Ok text) (WrongKind name) text h refl

words_are : (words : List (List ℕ)) (name : List ℕ) (texts : List (List ℕ))
    → AllByRecursion (λ text. lists words text ≡ true) texts → AllByRecursion (IsRead (word_in words name) string) texts
words_are words name [] h = tt
words_are words name (t ∷ ts) h = (word_again words name t h.0, words_are words name ts h.1)

pub words_again : (words : List (List ℕ)) (name : List ℕ) (texts : List (List ℕ))
    → AllByRecursion (λ text. lists words text ≡ true) texts → words_in words name (map string texts) ≡ Ok texts
unfolding words_in
words_again words name texts h = each_again (word_in words name) string texts (words_are words name texts h)
