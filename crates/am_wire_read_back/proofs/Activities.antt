-- Queries, activities and services: what was read of a body is read of what is written for it.
use Rattle.std.proofs.Common.{◌≡◌, ℕ, true, List, [], ◌∷◌, Some, Result, Ok, refl, ap, ◌∙◌, subst}
use Rattle.std.specs.Prelude.{codes}
use Rattle.serde_json.specs.Data.{Data, string, object, no_members}
use Rattle.am_types.specs.declared.manifest.Kind.{Kind}
use Rattle.am_types.specs.declared.manifest.Kind.TheVariants.{Activity, Service, Receiver}
use Rattle.am_types.specs.declared.request.Request.{Request}
use Rattle.am_types.specs.declared.request.Request.TheVariants as asks
use Rattle.am_model.specs.Texts.{lists}
use Rattle.am_wire_fields.specs.declared.fault.WireFault.{WireFault}
use Rattle.am_wire_fields.specs.Fields.{required}
use Rattle.am_wire_fields.specs.Lists.{word_in}
use Rattle.am_wire_fields.specs.Numbers.{required_natural}
use Rattle.am_types.specs.Reading.{◌>>=◌}
use Rattle.am_wire.specs.Activities.{fields_of, plain_in, number_in}
use Rattle.am_wire.specs.Words.{kind_words, kind_named, kind_among, kind_of}
use Rattle.am_wire_values.specs.Fields.{natural}
use Rattle.am_wire_values.specs.Names.{kind_name}
use Rattle.am_wire_values.specs.Requests.{with_one, request_data}
use Rattle.am_wire_read_back.proofs.Kept.{IsKept}
use Rattle.am_wire_read_back.proofs.Numbers.{required_natural_again}
use Rattle.am_wire_read_back.proofs.Objects.{Entry, members_with, value_at, are_apart, are_listed}
use Rattle.am_wire_read_back.proofs.Options.{IsReread}
use Rattle.am_wire_read_back.proofs.Parts.{Part, part, fields_known}
use Rattle.am_wire_read_back.proofs.Steps.{step, steps, same_ok}
use Rattle.am_wire_read_back.proofs.Texts.{required_at, word_again}

-- a body without fields
pub plain_again : (r : Request) → plain_in r (object no_members) ≡ Ok r
unfolding plain_in
plain_again r = steps (fields_of [] (object no_members)) (λ known. Ok r) tt r (fields_known [] [] refl) refl

-- a body whose only field is a number
number_again : (name : List ℕ) (value : Data) (n : ℕ) → IsKept value
    → are_listed (name ∷ []) ((name, Some (natural n)) ∷ []) ≡ true → value_at name ((name, Some (natural n)) ∷ [])
    ≡ Some (natural n)
    → number_in name value ≡ Ok n → number_in name (with_one name (natural n)) ≡ Ok n
unfolding number_in
number_again name value n k listed at h =
    let es : List Entry = (name, Some (natural n)) ∷ [] in
    let one = step (fields_of (name ∷ []) value) _ n h in
    steps (fields_of (name ∷ []) (object (members_with es))) (λ known. required_natural name (object (members_with es)))
    tt n (fields_known (name ∷ []) es listed)
    (required_natural_again name value n es k one.later refl at)

-- a request that is made of one thing, which is read again
pub made_again : {A : Type 0} (read : Data → Result A WireFault) (write : A → Data) → IsReread read write
    → (make : A → Request) → ((x : A) → request_data (make x) ≡ write x)
    → (value : Data) (r : Request) → IsKept value → (read value >>= λ x. Ok (make x)) ≡ Ok r
    → (read (request_data r) >>= λ x. Ok (make x)) ≡ Ok r
made_again read write again make written value r k h =
    let one = step (read value) (λ x. Ok (make x)) r h in
    let P : Request → Type 0 = λ r. (read (request_data r) >>= λ x. Ok (make x)) ≡ Ok r in
    subst P (same_ok (make one.value) r one.later)
    (ap (λ d. read d >>= λ x. Ok (make x)) (written one.value)
    ∙ steps (read (write one.value)) (λ x. Ok (make x)) one.value (make one.value) (again value one.value k one.first)
    refl)

-- and so is one that is made of a number
pub numbered : (name : List ℕ) (make : ℕ → Request)
    → ((n : ℕ) → (are_listed (name ∷ []) ((name, Some (natural n)) ∷ []) ≡ true)
    × (value_at name ((name, Some (natural n)) ∷ []) ≡ Some (natural n))
    × (request_data (make n) ≡ with_one name (natural n)))
    → (value : Data) (r : Request) → IsKept value → (number_in name value >>= λ n. Ok (make n)) ≡ Ok r
    → (number_in name (request_data r) >>= λ n. Ok (make n)) ≡ Ok r
numbered name make is value r k h =
    made_again (number_in name) (λ n. with_one name (natural n)) (λ value n k h. let e = is n in number_again name value
    n k e.0 e.1 h) make (λ n. let e = is n in e.2) value r k h

-- a kind is read of its word
pub named_at : (words : List (List ℕ)) (word : List ℕ) (kind : Kind) (es : List Entry) → lists words word ≡ true
    → kind_named word ≡ kind → are_apart es ≡ true → value_at (codes "kind") es ≡ Some (string word)
    → kind_among words (object (members_with es)) ≡ Ok kind
unfolding kind_among
named_at words word kind es listed named apart is =
    steps (required (codes "kind") (object (members_with es))) (λ value. word_in words (codes "kind") value >>= λ word.
    Ok (kind_named word)) (string word) kind
    (required_at (codes "kind") es (string word) apart is refl)
    (steps (word_in words (codes "kind") (string word)) (λ word. Ok (kind_named word)) word kind
    (word_again words (codes "kind") word listed) (ap Ok named))

pub kind_at : (kind : Kind) (es : List Entry) → are_apart es ≡ true → value_at (codes "kind") es
    ≡ Some (string (kind_name kind)) → kind_of (object (members_with es)) ≡ Ok kind
unfolding kind_of kind_words
kind_at Activity es apart is = named_at kind_words (codes "activity") Activity es refl refl apart is
kind_at Service es apart is = named_at kind_words (codes "service") Service es refl refl apart is
kind_at Receiver es apart is = named_at kind_words (codes "receiver") Receiver es refl refl apart is

abbrev pub kind_part : Part Kind
kind_part =
    part (codes "kind") kind_of (λ kind. Some (string (kind_name kind)))
    (λ value kind es k h apart is. kind_at kind es apart is)
