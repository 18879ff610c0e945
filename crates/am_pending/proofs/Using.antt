-- What canceling, giving and using a token come to, by the record that is found.
use Rattle.std.proofs.Common.{◌≡◌, ℕ, ◌==◌, Bool, true, false, cond, length, map, List, Option, Some, None, Result, Ok, Err, option_map, refl, subst, sym, ap, ◌∙◌}
use Rattle.std.specs.Prelude.{IsOk, nat_le, nat_lt}
use Rattle.std.proofs.lemmas.Bool.{cond_both}
use Rattle.am_types.specs.declared.intent.Intent.{Intent}
use Rattle.am_types.specs.declared.filter.FillFault.{FillFault}
use Rattle.am_types.specs.declared.filter.FillFault.TheVariants as fault
use Rattle.am_types.specs.declared.pending.PendingFault.{PendingFault}
use Rattle.am_types.specs.declared.pending.PendingFault.TheVariants.{NoToken, NotCreator, NotHolder, HoldersFull}
use Rattle.am_model.specs.Intents.{fill_in, filled, united_extras}
use Rattle.am_model.specs.Pendings.{Pending, Pendings, cancel, canceled, give, given, is_holder, lent, no_record, use_token, used, used_as, with_holder, without_token}
use Rattle.am_pending.specs.Answers.{IsChange}
use Rattle.am_pending.specs.declared.key.Key.{Key}
use Rattle.am_pending.specs.Records.{IsIndexed, Kept, before, pending_of, record_in}
use Rattle.am_pending.proofs.Indexing.{mapped, with_holder-leaves}
use Rattle.am_pending.proofs.Lists.{cond_not}

-- what a look-up by token found, in the records as the definitions see them
pub there : (token : ℕ) (inside : List Pending) (all : Pendings) (o found : Option Kept)
    → option_map (pending_of token) o ≡ record_in token inside → o ≡ found → inside ≡ all.records
    → record_in token all.records ≡ option_map (pending_of token) found
there token inside all o found is e view = ap (record_in token) (sym view) ∙ sym is
    ∙ ap (option_map (pending_of token)) e

module _ (all : Pendings) (token uid : ℕ) where
  pub cancel_none : record_in token all.records ≡ None → cancel all token uid ≡ Err NoToken
  unfolding cancel
  cancel_none h = ap (canceled all uid) h

  module _ (kept : Pending) (is : record_in token all.records ≡ Some kept) where
    pub cancel_other : (kept.creator == uid) ≡ false → cancel all token uid ≡ Err NotCreator
    unfolding cancel
    cancel_other e = ap (canceled all uid) is ∙ ap (λ b. cond b (Ok
        (record all { records = without_token all.records kept.token })) (Err NotCreator)) e

    pub cancel_own : (kept.creator == uid) ≡ true → cancel all token uid
        ≡ Ok (record all { records = without_token all.records kept.token })
    unfolding cancel
    cancel_own e = ap (canceled all uid) is ∙ ap (λ b. cond b (Ok (record all
        { records = without_token all.records kept.token })) (Err NotCreator)) e

-- what a gift comes to
pub gift : Pendings → ℕ → ℕ → Pending → Bool → Bool → Bool → Result Pendings PendingFault
gift all uid to kept own has full = cond own (cond has (Ok all) (cond full (Err HoldersFull)
    (Ok (record all { records = map (with_holder kept.token to) all.records })))) (Err NotCreator)

module _ (all : Pendings) (token uid to : ℕ) where
  pub give_none : record_in token all.records ≡ None → give all token uid to ≡ Err NoToken
  unfolding give
  give_none h = ap (given all uid to) h

  module _ (kept : Pending) (is : record_in token all.records ≡ Some kept) where
    pub give_is : give all token uid to ≡ gift all uid to kept (kept.creator == uid) (is_holder kept to)
        (nat_le 64 (length kept.holders))
    unfolding give gift
    give_is = ap (given all uid to) is ∙ cond_not (kept.creator == uid) (Err NotCreator)
        (cond (is_holder kept to) (Ok all) (cond (nat_le 64 (length kept.holders)) (Err HoldersFull)
        (Ok (record all { records = map (with_holder kept.token to) all.records }))))

    pub give_other : (kept.creator == uid) ≡ false → give all token uid to ≡ Err NotCreator
    unfolding gift
    give_other e = give_is ∙ ap (λ own. gift all uid to kept own (is_holder kept to) (nat_le 64 (length kept.holders)))
        e

    pub give_again : (kept.creator == uid) ≡ true → is_holder kept to ≡ true → give all token uid to ≡ Ok all
    unfolding gift
    give_again e f = give_is ∙ (λ i. gift all uid to kept (e i) (f i) (nat_le 64 (length kept.holders)))

    pub give_full : (kept.creator == uid) ≡ true → is_holder kept to ≡ false → nat_le 64 (length kept.holders) ≡ true
        → give all token uid to ≡ Err HoldersFull
    unfolding gift
    give_full e f l = give_is ∙ (λ i. gift all uid to kept (e i) (f i) (l i))

    pub give_new : (kept.creator == uid) ≡ true → is_holder kept to ≡ false → nat_le 64 (length kept.holders) ≡ false
        → give all token uid to ≡ Ok (record all { records = map (with_holder kept.token to) all.records })
    unfolding gift
    give_new e f l = give_is ∙ (λ i. gift all uid to kept (e i) (f i) (l i))

err_ok : (fault : PendingFault) (new : Pendings) → (let r : Result Pendings PendingFault = Err fault in r) ≡ Ok new → ⊥
err_ok fault new e = cc

same_ok : (x y : Pendings) → (let r : Result Pendings PendingFault = Ok x in r) ≡ Ok y → x ≡ y
same_ok x y e = cc

-- after a gift the tables of tokens and of numbers are still in line
module _ (tokens : Key → Option ℕ) (counts : ℕ → ℕ) (next token uid to : ℕ) where
  gift-indexed : (all new : Pendings) (kept : Pending) (own has full : Bool) → gift all uid to kept own has full
      ≡ Ok new → IsIndexed all.records tokens counts next → IsIndexed new.records tokens counts next
  unfolding gift
  gift-indexed all new kept false has full e h = cc
  gift-indexed all new kept true true full e h = subst (λ (p : Pendings). IsIndexed p.records tokens counts next)
      (same_ok all new e) h
  gift-indexed all new kept true false true e h = cc
  gift-indexed all new kept true false false e h =
      subst (λ (p : Pendings). IsIndexed p.records tokens counts next)
      (same_ok (record all { records = map (with_holder kept.token to) all.records }) new e)
      (mapped (with_holder kept.token to) (with_holder-leaves kept.token to) all.records tokens counts next h)

  found-indexed : (all new : Pendings) (o : Option Pending) → record_in token all.records ≡ o → give all token uid to
      ≡ Ok new → IsIndexed all.records tokens counts next → IsIndexed new.records tokens counts next
  found-indexed all new None is e h = absurd (err_ok NoToken new (sym (give_none all token uid to is) ∙ e))
  found-indexed all new (Some kept) is e h =
      gift-indexed all new kept (kept.creator == uid) (is_holder kept to) (nat_le 64 (length kept.holders))
      (sym (give_is all token uid to kept is) ∙ e) h

  pub given-indexed : (old new : List Pending) (r : Result (Unit {0}) PendingFault)
      → IsChange r (before old next) (before new next) (give (before old next) token uid to)
      → IsIndexed old tokens counts next → IsIndexed new tokens counts next
  given-indexed old new (Ok x) e h = found-indexed (before old next) (before new next) (record_in token old) refl e h
  given-indexed old new (Err fault) e h = subst (λ (p : Pendings). IsIndexed p.records tokens counts next) (sym e.1) h

module _ (all : Pendings) (token uid : ℕ) (filled : Option Intent) where
  pub use_none : record_in token all.records ≡ None → use_token all token uid filled ≡ Err (no_record all token)
  unfolding use_token
  use_none h = ap (used all token uid filled) h

  module _ (kept : Pending) (is : record_in token all.records ≡ Some kept) where
    pub use_other : is_holder kept uid ≡ false → use_token all token uid filled ≡ Err NotHolder
    unfolding use_token
    use_other e = ap (used all token uid filled) is ∙ ap (λ b. cond b (used_as kept (lent kept filled)) (Err NotHolder))
        e

    pub use_own : (lends : Result Intent FillFault) → is_holder kept uid ≡ true → lent kept filled ≡ lends
        → use_token all token uid filled ≡ used_as kept lends
    unfolding use_token
    use_own lends e l = ap (used all token uid filled) is ∙ ap (λ b. cond b (used_as kept (lent kept filled))
        (Err NotHolder)) e ∙ ap (used_as kept) l

-- if memory runs out for a fill-in, there is room for the extras
pub ran_out_filling : (kept other : Intent) (r : Result Intent FillFault) → r ≡ Err fault.NoMemory
    → (fill_in kept other ≡ Err fault.ExtrasFull → r ≡ Err fault.ExtrasFull) → IsOk (fill_in kept other)
unfolding fill_in
ran_out_filling kept other r e back =
    cond_both (nat_lt 64 (length (united_extras kept.extras other.extras))) (Err fault.ExtrasFull)
    (Ok (filled kept other)) IsOk
    (λ full. let both : r ≡ Err fault.ExtrasFull = back (rw full refl) in absurd cc) (λ _. refl)

-- what a mutable record lends
pub lent_mutable : (kept : Pending) (o : Option Intent) (other : Intent) → o ≡ Some other → kept.mutable ≡ true
    → lent kept o ≡ fill_in kept.intent other
lent_mutable kept o other is mutable = ap (lent kept) is ∙ ap (λ b. cond b (fill_in kept.intent other) (Ok kept.intent))
    mutable

-- what is lent is used
pub used_ok : (kept : Pending) (r : Result Intent FillFault) → IsOk r → IsOk (used_as kept r)
used_ok kept (Ok intent) h = refl
used_ok kept (Err full) h = cc
