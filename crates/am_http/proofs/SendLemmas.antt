-- What a sink has taken, as more is written.
use Rattle.std.proofs.Common.{◌≡◌, ℕ, ◌+◌, ◌-◌, ◌<◌, List, [], ◌++◌, length, take, drop, Option, Some, None, Ok, Err, sym, ap, ◌∙◌, subst, arith, append_assoc, append-nil, length-drop}
use Rattle.std.specs.Prelude.{Result, IsErr}
use Rattle.std.specs.Io.KnownBytes.{Appends, Keeps}
use Rattle.std.proofs.Math.Seq.{take-add}
use Rattle.std.proofs.lemmas.List.{take-append-drop}
use Rattle.am_outside.specs.declared.failure.Failed.{Failed}
use Rattle.am_http.specs.Sending.{StopsInside, WritesPart, Sends}

pub appends_trans : (a b c : Option (List ℕ)) (xs ys : List ℕ) → Appends a b xs → Appends b c ys
    → Appends a c (xs ++ ys)
appends_trans None b c xs ys h k = tt
appends_trans (Some a) None c xs ys h k = absurd h
appends_trans (Some a) (Some b) None xs ys h k = absurd k
appends_trans (Some a) (Some b) (Some c) xs ys h k = k ∙ ap (λ l. l ++ ys) h ∙ append_assoc a xs ys

pub appends_none : (a b : Option (List ℕ)) → Keeps a b → Appends a b []
appends_none None b h = tt
appends_none (Some a) None h = absurd h
appends_none (Some a) (Some b) h = h ∙ sym (append-nil a)

pub appends_self : (a : Option (List ℕ)) → Appends a a []
appends_self None = tt
appends_self (Some a) = sym (append-nil a)

-- the front of a text, and then some more of it
pub sent_more : (old mid new : Option (List ℕ)) (text : List ℕ) (at next : ℕ) → at < next
    → Appends old mid (take at text) → Appends mid new (take (next - at) (drop at text))
    → Appends old new (take next text)
sent_more old mid new text at next above so_far more =
    let behind : at + (next - at) ≡ next = omega arith in
    let whole : take at text ++ take (next - at) (drop at text) ≡ take next text =
    sym (take-add at (next - at) text) ∙ ap (λ n. take n text) behind in
    subst (λ bs. Appends old new bs) whole (appends_trans old mid new (take at text) (take (next - at) (drop at text))
    so_far more)

-- what came first whole, and a part of what is behind it
pub part_more : (old half now : Option (List ℕ)) (bs text : List ℕ) → Appends old half bs → WritesPart half now text
    → WritesPart old now (bs ++ text)
part_more old half now bs text so_far part = (
  bs ++ part.0,
  part.1,
  ap (λ l. bs ++ l) part.2 ∙ sym (append_assoc bs part.0 part.1),
  part.3,
  appends_trans old half now bs part.0 so_far part.4,
)

-- the same, with the place at which the next text begins
pub inside_more : (old half now : Option (List ℕ)) (bs text : List ℕ) → Appends old half bs → WritesPart half now text
    → StopsInside old now bs text
inside_more old half now bs text so_far part =
    (part.0, part.1, part.2, part.3, appends_trans old half now bs part.0 so_far part.4)

-- the sink failed behind the front of a text
pub sent_part : (old mid new : Option (List ℕ)) (text : List ℕ) (at : ℕ) → at < length text
    → Appends old mid (take at text) → Keeps mid new → WritesPart old new text
sent_part old mid new text at within so_far keeps = (
  take at text,
  drop at text,
  sym (take-append-drop at text),
  omega (arith, length-drop at text),
  subst (λ bs. Appends old new bs) (append-nil (take at text)) (appends_trans old mid new (take at text) [] so_far
      (appends_none mid new keeps)),
)

pub sends_failed : (old new : Option (List ℕ)) (text : List ℕ) (r : Result (Unit {0}) Failed) → IsErr r
    → WritesPart old new text → Sends old new text r
sends_failed old new text (Ok done) failed part = absurd cc
sends_failed old new text (Err e) failed part = part
