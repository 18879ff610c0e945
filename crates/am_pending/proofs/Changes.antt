-- What changes of the records by token are to the records as the definitions see them.
use Rattle.std.proofs.Common.{◌≡◌, ℕ, ◌<◌, ◌==◌, Bool, true, false, not, ◌||◌, cond, List, [], ◌∷◌, ◌++◌, map, filter, All, Option, Some, None, option_map, refl, sym, ap, ◌∙◌, arith}
use Rattle.std.specs.List.{AllByRecursion, list_any}
use Rattle.std.specs.List.Sorted.{IsStrictlySortedBy}
use Rattle.std.specs.Map.{keys_of, lookup, remove_entry, set_value}
use Rattle.std.specs.BTreeMap.{insert_entry, is_at}
use Rattle.std.specs.Ordering.{nat_cmp, match_ordering}
use Rattle.std.specs.declared.cmp.Ordering.TheVariants.{Less, Greater}
use Rattle.std.specs.Cmp.{nat_cmp_is, nat_eq_equiv, ranked, unsigned_tied, unsigned_Decides}
use Rattle.std.proofs.lemmas.List.Elements.{All-head, All-tail}
use Rattle.std.proofs.lemmas.Bool.{or_parts}
use Rattle.std.proofs.lemmas.Bool.Decides.{nat_tests}
use Rattle.std.proofs.lemmas.Map.Steps.{set_value_same}
use Rattle.std.proofs.lemmas.Option.{same_Some}
use Rattle.am_types.specs.declared.intent.Named.{Named}
use Rattle.am_model.specs.Pendings.{Pending, updated, with_holder, without_holder, without_token}
use Rattle.am_pending.specs.Once.{AtMostOne}
use Rattle.am_pending.specs.Records.{Kept, held_by, is_token, let_go_by, pending_of, pendings_of, record_in, with_extras}
use Rattle.am_pending.proofs.Lists.{any-none, filter-none}

-- whether an entry has the token
at-token : (token place : ℕ) → is_at (nat_cmp token) place ≡ (place == token)
at-token token place = unsigned_tied token place ∙ nat_eq_equiv.symm token place

read_step : (token : ℕ) (e : ℕ × Kept) (o : Option Kept) (p : Option Pending) (b : Bool) → (e.0 == token) ≡ b
    → option_map (pending_of token) o ≡ p → option_map (pending_of token) (cond b (Some e.1) o)
    ≡ cond b (Some (pending_of e.0 e.1)) p
read_step token e o p true h ih = ap (λ n. Some (pending_of n e.1)) (sym ((unsigned_Decides e.0 token).0 h))
read_step token e o p false h ih = ih

-- the record under a token is the one that has the token
pub lookup-records : (token : ℕ) (es : List (ℕ × Kept)) → option_map (pending_of token)
    (lookup (is_at (nat_cmp token)) es) ≡ record_in token (pendings_of es)
lookup-records token [] = refl
lookup-records token (e ∷ es) =
    ap (λ b. option_map (pending_of token) (cond b (Some e.1) (lookup (is_at (nat_cmp token)) es))) (at-token token e.0)
    ∙ read_step token e (lookup (is_at (nat_cmp token)) es) (record_in token (pendings_of es)) (e.0 == token) refl
    (lookup-records token es)

-- of rising tokens no later one is the first
later_apart : (x y t : ℕ) → (x == t) ≡ true → nat_cmp x y ≡ Less → (y == t) ≡ false
later_apart x y t e h =
    let l : x < y = ranked x y Less (sym h) in
    let s : x ≡ t = (unsigned_Decides x t).0 e in
    grind (arith, nat_tests)

none_later : (x t : ℕ) (es : List (ℕ × Kept)) → (x == t) ≡ true → AllByRecursion (λ y. nat_cmp x y ≡ Less) (keys_of es)
    → list_any (is_token t) (pendings_of es) ≡ false
none_later x t [] e h = refl
none_later x t (first ∷ es) e h = ap (λ b. (b || list_any (is_token t) (pendings_of es)))
    (later_apart x first.0 t e h.0) ∙ none_later x t es e h.1

-- at most one record has a token
once : (es : List (ℕ × Kept)) (t : ℕ) → IsStrictlySortedBy nat_cmp (keys_of es)
    → AtMostOne (is_token t) (pendings_of es)
unfolding IsStrictlySortedBy
once [] t s = tt
once (e ∷ es) t s = ((λ h. none_later e.0 t es h s.0), once es t s.1)

-- a record with a token above all others goes last
pub inserted : (t : ℕ) (v : Kept) (es : List (ℕ × Kept)) → All (λ (kept : Pending). kept.token < t) (pendings_of es)
    → pendings_of (insert_entry nat_cmp es t v) ≡ pendings_of es ++ pending_of t v ∷ []
inserted t v [] h = refl
inserted t v (e ∷ es) h =
    let above : e.0 < t = All-head (λ (kept : Pending). kept.token < t) (pending_of e.0 e.1) (pendings_of es) h in
    ap (λ o. pendings_of (match_ordering o ((t, v) ∷ e ∷ es) ((e.0, v) ∷ es) (e ∷ insert_entry nat_cmp es t v)))
    (sym (nat_cmp_is t e.0 Greater above))
    ∙ ap (λ l. pending_of e.0 e.1 ∷ l) (inserted t v es (All-tail (λ (kept : Pending). kept.token < t)
    (pending_of e.0 e.1) (pendings_of es) h))

-- the record of a token is removed, and none is left under it
removed : (t : ℕ) (es : List (ℕ × Kept)) → lookup (is_at (nat_cmp t)) (remove_entry (is_at (nat_cmp t)) es) ≡ None
    → pendings_of (remove_entry (is_at (nat_cmp t)) es) ≡ without_token (pendings_of es) t
removed t [] h = refl
removed t (e ∷ es) h =
    ap (λ b. pendings_of (cond b es (e ∷ remove_entry (is_at (nat_cmp t)) es))) (at-token t e.0)
    ∙ by (e.0 == t) (ap (λ b. lookup (is_at (nat_cmp t)) (cond b es (e ∷ remove_entry (is_at (nat_cmp t)) es)))
    (sym (at-token t e.0)) ∙ h) (at-token t e.0) (λ k. removed t es k)
  where
    left : List (ℕ × Kept)
    left = remove_entry (is_at (nat_cmp t)) es

    by : (b : Bool) → lookup (is_at (nat_cmp t)) (cond b es (e ∷ left)) ≡ None → is_at (nat_cmp t) e.0 ≡ b
        → (lookup (is_at (nat_cmp t)) left ≡ None → pendings_of left ≡ without_token (pendings_of es) t) →
        pendings_of (cond b es (e ∷ left)) ≡ cond (not b) (pending_of e.0 e.1 ∷ without_token (pendings_of es) t)
        (without_token (pendings_of es) t)
    by true k at rest = sym (filter-none (is_token t) (pendings_of es)
        (any-none (is_token t) (pendings_of es) (sym (lookup-records t es) ∙ ap (option_map (pending_of t)) k)))
    by false k at rest = ap (λ l. pending_of e.0 e.1 ∷ l) (rest (ap
        (λ b. cond b (Some e.1) (lookup (is_at (nat_cmp t)) left)) (sym at) ∙ k))

-- what a removal by token leaves
pub taken_away : (t : ℕ) (es left : List (ℕ × Kept)) (records : List Pending)
    → left ≡ remove_entry (is_at (nat_cmp t)) es → lookup (is_at (nat_cmp t)) left ≡ None → pendings_of es ≡ records
    → pendings_of left ≡ without_token records t
taken_away t es left records is none view =
    ap pendings_of is ∙ removed t es (ap (lookup (is_at (nat_cmp t))) (sym is) ∙ none)
    ∙ ap (λ (all : List Pending). without_token all t) view

-- a record that was looked up and not changed leaves all as they were
pub left_alone : (t : ℕ) (es after : List (ℕ × Kept)) (kept : Kept) (records : List Pending)
    → after ≡ set_value (is_at (nat_cmp t)) es kept → lookup (is_at (nat_cmp t)) es ≡ Some kept
    → pendings_of es ≡ records → pendings_of after ≡ records
left_alone t es after kept records is at view =
    ap pendings_of (is ∙ set_value_same (is_at (nat_cmp t)) es kept at) ∙ view

-- a change of the record of a token, as an entry has it and as the definitions have it
abbrev pub Changes : ℕ → (Kept → Kept) → (Pending → Pending) → Type 0
Changes t f g = (e : ℕ × Kept) → g (pending_of e.0 e.1) ≡ cond (e.0 == t) (pending_of e.0 (f e.1)) (pending_of e.0 e.1)

module _ (t : ℕ) (f : Kept → Kept) (g : Pending → Pending) (alike : Changes t f g) where
  none-changed : (es : List (ℕ × Kept)) → list_any (is_token t) (pendings_of es) ≡ false → map g (pendings_of es)
      ≡ pendings_of es
  none-changed [] h = refl
  none-changed (e ∷ es) h = λ i. (alike e ∙ ap (λ b. cond b (pending_of e.0 (f e.1)) (pending_of e.0 e.1))
      (or_parts (e.0 == t) _ h).0) i ∷ none-changed es (or_parts (e.0 == t) _ h).1 i

  -- if none has the token, none is changed
  pub unchanged : (es : List (ℕ × Kept)) → lookup (is_at (nat_cmp t)) es ≡ None → pendings_of es
      ≡ map g (pendings_of es)
  unchanged es h = sym (none-changed es (any-none (is_token t) (pendings_of es)
      (sym (lookup-records t es) ∙ ap (option_map (pending_of t)) h)))

  changed-once : (v : Kept) (es : List (ℕ × Kept)) → AtMostOne (is_token t) (pendings_of es)
      → lookup (is_at (nat_cmp t)) es ≡ Some v → pendings_of (set_value (is_at (nat_cmp t)) es (f v))
      ≡ map g (pendings_of es)
  changed-once v [] m h = cc
  changed-once v (e ∷ es) m h =
      ap (λ b. pendings_of (cond b ((e.0, f v) ∷ es) (e ∷ set_value (is_at (nat_cmp t)) es (f v)))) (at-token t e.0)
      ∙ by (e.0 == t) refl (ap (λ b. cond b (Some e.1) (lookup (is_at (nat_cmp t)) es)) (sym (at-token t e.0)) ∙ h)
      (λ k. changed-once v es m.1 k)
    where
      first : (b : Bool) → (e.0 == t) ≡ b → g (pending_of e.0 e.1)
          ≡ cond b (pending_of e.0 (f e.1)) (pending_of e.0 e.1)
      first b k = alike e ∙ ap (λ b. cond b (pending_of e.0 (f e.1)) (pending_of e.0 e.1)) k

      by : (b : Bool) → (e.0 == t) ≡ b → cond b (Some e.1) (lookup (is_at (nat_cmp t)) es) ≡ Some v
          → (lookup (is_at (nat_cmp t)) es ≡ Some v → pendings_of (set_value (is_at (nat_cmp t)) es (f v))
          ≡ map g (pendings_of es)) →
          pendings_of (cond b ((e.0, f v) ∷ es) (e ∷ set_value (is_at (nat_cmp t)) es (f v))) ≡ g (pending_of e.0 e.1)
          ∷ map g (pendings_of es)
      by true k l rest = λ i. (ap (λ one. pending_of e.0 (f one)) (sym (same_Some e.1 v l)) ∙ sym (first true k)) i
          ∷ sym (none-changed es (m.0 k)) i
      by false k l rest = λ i. sym (first false k) i ∷ rest l i

  -- the record of a token is changed
  pub changed : (v : Kept) (es : List (ℕ × Kept)) → IsStrictlySortedBy nat_cmp (keys_of es)
      → lookup (is_at (nat_cmp t)) es ≡ Some v → pendings_of (set_value (is_at (nat_cmp t)) es (f v))
      ≡ map g (pendings_of es)
  changed v es s h = changed-once v es (once es t s) h

-- other extras
pub extras-change : (t : ℕ) (extras : List Named) → Changes t (with_extras extras) (updated t extras)
extras-change t extras e = refl

-- one more holder
pub holder-change : (t to : ℕ) → Changes t (held_by to) (with_holder t to)
holder-change t to e = refl

-- the records of other creators
pub pendings-others : (uid : ℕ) (es : List (ℕ × Kept)) → pendings_of
    (filter (λ (e : ℕ × Kept). not (e.1.key.creator == uid)) es) ≡ filter
    (λ (kept : Pending). not (kept.creator == uid)) (pendings_of es)
pendings-others uid [] = refl
pendings-others uid (e ∷ es) = by (e.1.key.creator == uid) (pendings-others uid es)
  where
    left : List (ℕ × Kept)
    left = filter (λ (e : ℕ × Kept). not (e.1.key.creator == uid)) es

    others : List Pending
    others = filter (λ (kept : Pending). not (kept.creator == uid)) (pendings_of es)

    by : (b : Bool) → pendings_of left ≡ others → pendings_of (cond (not b) (e ∷ left) left)
        ≡ cond (not b) (pending_of e.0 e.1 ∷ others) others
    by true rest = rest
    by false rest = ap (λ l. pending_of e.0 e.1 ∷ l) rest

-- each record without a holder
pub pendings-let_go : (uid : ℕ) (es : List (ℕ × Kept)) → pendings_of
    (map (λ (e : ℕ × Kept). (e.0, let_go_by uid e.1)) es) ≡ map (without_holder uid) (pendings_of es)
pendings-let_go uid [] = refl
pendings-let_go uid (e ∷ es) = ap (λ l. without_holder uid (pending_of e.0 e.1) ∷ l) (pendings-let_go uid es)
