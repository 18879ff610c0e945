-- Sameness of keys is an equivalence, and the same keys are hashed alike.
use Rattle.std.specs.Prelude.{◌≡◌, ℕ, Bool, true, false, Decides, List, [], ◌∷◌, ◌++◌, Option, Some, None, refl}
use Rattle.std.specs.Prelude.{pos}
use mathlib.Core.Bool.{and_comm}
use Rattle.std.proofs.Common.{sym, ap, ◌∙◌, true≢false}
use Rattle.std.proofs.lemmas.Bool.{and_from, or_right}
use Rattle.std.specs.List.{list_all}
use Rattle.std.specs.Option.{option_eq}
use Rattle.std.specs.Cmp.{IsEquivalence, equiv, and_equiv, decided, on_equiv, back_equiv, int_eq_equiv, nat_eq_equiv, unsigned_Decides, signed_Decides}
use Rattle.std.specs.Cmp.Lexicographic.{nat_list_eq_equiv, options_equiv}
use Rattle.std.specs.Hash as fed
use Rattle.am_types.specs.declared.intent.Intent.{Intent}
use Rattle.am_types.specs.declared.intent.Component.{Component}
use Rattle.am_types.specs.declared.uri.Uri.{Uri}
use Rattle.am_types.specs.declared.uri.Mime.{Mime}
use Rattle.am_types.specs.declared.manifest.Kind.{Kind}
use Rattle.am_types.specs.declared.manifest.Kind.TheVariants.{Activity, Service, Receiver}
use Rattle.am_model.specs.Texts.{is_same, lists}
use Rattle.am_model.specs.Candidates.{is_kind}
use Rattle.am_model.specs.Intents.{is_same_mime, is_same_uri, is_same_component, are_same_set, filter_equals}
use Rattle.am_model.specs.Pendings.{is_same_truth}
use Rattle.am_pending.specs.declared.key.Key.{Key}
use Rattle.am_pending.specs.Keys.{is_same_key}
use Rattle.am_pending.specs.Orders.{SameMembers, fed_in_order, one-listed, same_fed, same_members, same_text}

kind-own : (x : Kind) → is_kind x x ≡ true
kind-own Activity = refl
kind-own Service = refl
kind-own Receiver = refl

same_kind : (x y : Kind) → is_kind x y ≡ true → x ≡ y
same_kind Activity Activity h = refl
same_kind Activity Service h = absurd (true≢false (sym h))
same_kind Activity Receiver h = absurd (true≢false (sym h))
same_kind Service Activity h = absurd (true≢false (sym h))
same_kind Service Service h = refl
same_kind Service Receiver h = absurd (true≢false (sym h))
same_kind Receiver Activity h = absurd (true≢false (sym h))
same_kind Receiver Service h = absurd (true≢false (sym h))
same_kind Receiver Receiver h = refl

kind_decides : (x y : Kind) → Decides (is_kind x y) (x ≡ y)
kind_decides x y = (same_kind x y, λ e. ap (is_kind x) (sym e) ∙ kind-own x)

truth_decides : (x y : Bool) → Decides (is_same_truth x y) (x ≡ y)
truth_decides true y = (λ e. sym e, λ e. sym e)
truth_decides false true = (λ e. e, λ e. e)
truth_decides false false = (λ e. refl, λ e. refl)

kind_equiv : IsEquivalence is_kind
kind_equiv = decided is_kind kind_decides

truth_equiv : IsEquivalence is_same_truth
truth_equiv = decided is_same_truth truth_decides

-- texts whose members are all listed elsewhere
all-listed : (xs ys : List (List ℕ)) → ((t : List ℕ) → lists xs t ≡ true → lists ys t ≡ true)
    → list_all (λ t. lists ys t) xs ≡ true
all-listed [] ys h = refl
all-listed (x ∷ xs) ys h = and_from _ _ (h x (one-listed x xs)) (all-listed xs ys
    (λ t k. h t (or_right (is_same x t) (lists xs t) k)))

-- sets with the same members are the same
same_set : (xs ys : List (List ℕ)) → SameMembers xs ys → are_same_set xs ys ≡ true
same_set xs ys h = and_from _ _ (all-listed xs ys (λ t k. sym (h t) ∙ k)) (all-listed ys xs (λ t k. h t ∙ k))

set_equiv : IsEquivalence are_same_set
set_equiv =
    equiv (record {
      symm = λ a b. and_comm (list_all (λ t. lists b t) a) (list_all (λ t. lists a t) b);
      trans = λ a b c h k. same_set a c (λ t. same_members a b h t ∙ same_members b c k t);
    })
    (λ a. same_set a a (λ t. refl))

mime_equiv : IsEquivalence is_same_mime
mime_equiv = and_equiv (on_equiv (λ (m : Mime). m.main) nat_list_eq_equiv)
    (on_equiv (λ (m : Mime). m.sub) nat_list_eq_equiv)

component_equiv : IsEquivalence is_same_component
component_equiv = and_equiv (on_equiv (λ (c : Component). c.«package») nat_list_eq_equiv)
    (on_equiv (λ (c : Component). c.class) nat_list_eq_equiv)

uri_equiv : IsEquivalence is_same_uri
uri_equiv = on_equiv (λ (u : Uri). u.text) nat_list_eq_equiv

-- sameness for a filter is an equivalence
pub filter_equiv : IsEquivalence filter_equals
filter_equiv =
    and_equiv (and_equiv (and_equiv (and_equiv (and_equiv (and_equiv
    (on_equiv (λ (i : Intent). i.action) (options_equiv nat_list_eq_equiv))
    (on_equiv (λ (i : Intent). i.uri) (options_equiv uri_equiv)))
    (on_equiv (λ (i : Intent). i.mime) (options_equiv mime_equiv)))
    (on_equiv (λ (i : Intent). i.identifier) (options_equiv nat_list_eq_equiv)))
    (on_equiv (λ (i : Intent). i.«package») (options_equiv nat_list_eq_equiv)))
    (on_equiv (λ (i : Intent). i.component) (options_equiv component_equiv)))
    (on_equiv (λ (i : Intent). i.categories) set_equiv)

-- sameness of keys is an equivalence
pub same_equiv : IsEquivalence is_same_key
same_equiv =
    and_equiv (and_equiv (and_equiv (and_equiv (and_equiv (and_equiv
    (on_equiv (λ (k : Key). k.creator) nat_eq_equiv)
    (on_equiv (λ (k : Key). k.kind) kind_equiv))
    (on_equiv (λ (k : Key). k.code) int_eq_equiv))
    (on_equiv (λ (k : Key). k.one_shot) truth_equiv))
    (on_equiv (λ (k : Key). k.immutable) truth_equiv))
    (on_equiv (λ (k : Key). k.mutable) truth_equiv))
    (on_equiv (λ (k : Key). k.intent) filter_equiv)

-- and so it is the other way round
pub key_equiv : IsEquivalence (λ (x y : Key). is_same_key y x)
key_equiv = back_equiv same_equiv

-- if the same values are fed alike, so are the same optional values
option_fed : {X : Type 0} (E : X → X → Bool) (F : X → fed.HashWrites) → ((x y : X) → E x y ≡ true → F x ≡ F y)
    → (a b : Option X) → option_eq E a b ≡ true → fed.option F a ≡ fed.option F b
option_fed E F alike None None h = refl
option_fed E F alike None (Some y) h = absurd (true≢false (sym h))
option_fed E F alike (Some x) None h = absurd (true≢false (sym h))
option_fed E F alike (Some x) (Some y) h = ap (λ w. fed.isize (pos 1) ++ w) (alike x y h)

abbrev uri_fed : Uri → fed.HashWrites
uri_fed uri = fed.str uri.text

abbrev mime_fed : Mime → fed.HashWrites
mime_fed mime = fed.str mime.main ++ fed.str mime.sub

abbrev component_fed : Component → fed.HashWrites
component_fed component = fed.str component.«package» ++ fed.str component.class

abbrev kind_fed : Kind → fed.HashWrites
kind_fed Activity = fed.isize (pos 0)
kind_fed Service = fed.isize (pos 1)
kind_fed Receiver = fed.isize (pos 2)

abbrev set_fed : List (List ℕ) → fed.HashWrites
set_fed texts = fed_in_order 64 texts

-- what a hasher is fed of an intent: everything that tells keys apart, and of the categories the first 64 in their
-- order, each once
abbrev pub fed_by_intent : Intent → fed.HashWrites
fed_by_intent intent =
    (((((fed.option fed.str intent.action
    ++ fed.option uri_fed intent.uri)
    ++ fed.option mime_fed intent.mime)
    ++ fed.option fed.str intent.identifier)
    ++ fed.option fed.str intent.«package»)
    ++ fed.option component_fed intent.component)
    ++ set_fed intent.categories

-- what a hasher is fed of a key
abbrev pub fed_by : Key → fed.HashWrites
fed_by key =
    (((((fed.u32 key.creator
    ++ kind_fed key.kind)
    ++ fed.i64 key.code)
    ++ fed.bool key.one_shot)
    ++ fed.bool key.immutable)
    ++ fed.bool key.mutable)
    ++ fed_by_intent key.intent

text_alike : fed.Alike is_same fed.str
text_alike = record { fed = λ x y h. ap fed.str (same_text x y h) }

option_alike : {X : Type 0} {E : X → X → Bool} {F : X → fed.HashWrites} → fed.Alike E F
    → fed.Alike (option_eq E) (fed.option F)
option_alike {E = E} {F = F} alike = record { fed = option_fed E F alike.fed }

set_alike : fed.Alike are_same_set set_fed
set_alike = record { fed = λ x y h. same_fed x y (same_members x y h) 64 }

intent_alike : fed.Alike filter_equals fed_by_intent
intent_alike =
    fed.and-Alike (fed.and-Alike (fed.and-Alike (fed.and-Alike (fed.and-Alike (fed.and-Alike
    (fed.on_Alike (λ (i : Intent). i.action) (option_alike text_alike))
    (fed.on_Alike (λ (i : Intent). i.uri) (option_alike (fed.on_Alike (λ (u : Uri). u.text) text_alike))))
    (fed.on_Alike (λ (i : Intent). i.mime) (option_alike (fed.and-Alike (fed.on_Alike (λ (m : Mime). m.main) text_alike)
    (fed.on_Alike (λ (m : Mime). m.sub) text_alike)))))
    (fed.on_Alike (λ (i : Intent). i.identifier) (option_alike text_alike)))
    (fed.on_Alike (λ (i : Intent). i.«package») (option_alike text_alike)))
    (fed.on_Alike (λ (i : Intent). i.component) (option_alike (fed.and-Alike
    (fed.on_Alike (λ (c : Component). c.«package») text_alike)
    (fed.on_Alike (λ (c : Component). c.class) text_alike)))))
    (fed.on_Alike (λ (i : Intent). i.categories) set_alike)

key_alike : fed.Alike is_same_key fed_by
key_alike =
    fed.and-Alike (fed.and-Alike (fed.and-Alike (fed.and-Alike (fed.and-Alike (fed.and-Alike
    (fed.on_Alike (λ (k : Key). k.creator) (fed.same_Alike fed.u32 unsigned_Decides))
    (fed.on_Alike (λ (k : Key). k.kind) (fed.same_Alike kind_fed kind_decides)))
    (fed.on_Alike (λ (k : Key). k.code) (fed.same_Alike fed.i64 signed_Decides)))
    (fed.on_Alike (λ (k : Key). k.one_shot) (fed.same_Alike fed.bool truth_decides)))
    (fed.on_Alike (λ (k : Key). k.immutable) (fed.same_Alike fed.bool truth_decides)))
    (fed.on_Alike (λ (k : Key). k.mutable) (fed.same_Alike fed.bool truth_decides)))
    (fed.on_Alike (λ (k : Key). k.intent) intent_alike)

-- the same keys are hashed alike
pub key_fed : (x y : Key) → is_same_key y x ≡ true → fed_by x ≡ fed_by y
key_fed x y h = sym (key_alike.fed y x h)
