-- Laws of pending intents: what counts for a record's key, which token is answered, and which are live.
use Rattle.std.proofs.Common.{◌≡◌, ◌≢◌, ℕ, ◌+◌, Bool, true, false, not, cond, List, [], ◌∷◌, ◌++◌, map, refl, sym, ap, ◌∙◌, subst}
use Rattle.std.specs.Prelude.{Option, Some, None, Result, Ok, Err, ◌==◌, nat_le}
use Rattle.std.specs.List.{find}
use Rattle.std.proofs.lemmas.Bool.{eqb-true}
use Rattle.am_types.specs.declared.intent.Intent.{Intent}
use Rattle.am_types.specs.declared.intent.Flags.{Flags}
use Rattle.am_types.specs.declared.intent.Named.{Named}
use Rattle.am_types.specs.declared.pending.PendingFault.{PendingFault}
use Rattle.am_types.specs.declared.pending.PendingFault.TheVariants.{NotCreator, Full}
use Rattle.am_model.specs.Pendings.{Pending, Pendings, Asked, has_key, is_clear, made, get, updated, without_token, record_of, canceled, cancel, no_record, count_of, fresh, use_token}
use Rattle.am_model.proofs.Parts.{found_passes}

-- the key of what is asked for has neither the intent's extras nor its flags
pub key_without_extras : (asked : Asked) (extras : List Named) (flags : Flags) (kept : Pending)
    → has_key (record asked { intent = record (asked.intent) { extras = extras; flags = flags } }) kept
    ≡ has_key asked kept
key_without_extras asked extras flags kept = refl

-- nor has that of a record
pub kept_without_extras : (asked : Asked) (extras : List Named) (flags : Flags) (kept : Pending)
    → has_key asked (record kept { intent = record (kept.intent) { extras = extras; flags = flags } })
    ≡ has_key asked kept
kept_without_extras asked extras flags kept = refl

-- whether a record is made, canceled or updated isn't part of the key
pub key_without_wishes : (asked : Asked) (no_create cancel_current update_current : Bool) (kept : Pending)
    → has_key (record asked {
      flags = record (asked.flags) {
        no_create = no_create;
        cancel_current = cancel_current;
        update_current = update_current;
      };
    }) kept ≡ has_key asked kept
key_without_wishes asked no_create cancel_current update_current kept = refl

-- where a record has the key and isn't canceled its token is answered, also where it is updated
pub token_stays : (all : Pendings) (asked : Asked) (kept : Pending) → is_clear asked.flags ≡ true
    → asked.flags.cancel_current ≡ false → find (has_key asked) all.records ≡ Some kept
    → (after : Pendings) × (get all asked ≡ Ok (Some kept.token, after))
unfolding get
token_stays all asked kept clear stays is = rw (clear, is, stays) (by asked.flags.update_current)
  where
    by : (b : Bool) → (after : Pendings) × (cond {A = Result (Option ℕ × Pendings) PendingFault} b
        (Ok (Some kept.token, record all { records = map (updated kept.token asked.intent.extras) all.records }))
        (Ok (Some kept.token, all)) ≡ Ok (Some kept.token, after))
    by true = (_, refl)
    by false = (_, refl)

-- an update leaves every token
pub update_keeps_tokens : (token : ℕ) (extras : List Named) (records : List Pending)
    → map (λ (kept : Pending). kept.token) (map (updated token extras) records)
    ≡ map (λ (kept : Pending). kept.token) records
update_keeps_tokens token extras [] = refl
update_keeps_tokens token extras (first ∷ others) = by (first.token == token) (update_keeps_tokens token extras others)
  where
    by : (b : Bool) → map (λ (kept : Pending). kept.token) (map (updated token extras) others)
        ≡ map (λ (kept : Pending). kept.token) others
        → (cond b (record first { intent = record (first.intent) { extras = extras } }) first).token
        ∷ map (λ (kept : Pending). kept.token) (map (updated token extras) others) ≡ first.token
        ∷ map (λ (kept : Pending). kept.token) others
    by true rest = ap (λ l. first.token ∷ l) rest
    by false rest = ap (λ l. first.token ∷ l) rest

-- no record of a token is left without it
none_of : (token : ℕ) (records : List Pending) → find (λ (kept : Pending). kept.token == token)
    (without_token records token) ≡ None
none_of token [] = refl
none_of token (first ∷ others) = by (first.token == token) refl (none_of token others)
  where
    by : (b : Bool) → (first.token == token) ≡ b → find (λ (kept : Pending). kept.token == token)
        (without_token others token) ≡ None
        → find (λ (kept : Pending). kept.token == token) (cond (not b) (first ∷ without_token others token)
        (without_token others token)) ≡ None
    by true is rest = rest
    by false is rest = rw is rest

-- and each other record is
others_stay : (token other : ℕ) (records : List Pending) → other ≢ token
    → find (λ (kept : Pending). kept.token == other) (without_token records token)
    ≡ find (λ (kept : Pending). kept.token == other) records
others_stay token other [] differs = refl
others_stay token other (first ∷ others) differs = by (first.token == token) (first.token == other) refl refl
    (others_stay token other others differs)
  where
    test : Pending → Bool
    test kept = kept.token == other

    by : (at_token at_other : Bool) → (first.token == token) ≡ at_token → (first.token == other) ≡ at_other
        → find test (without_token others token) ≡ find test others
        → find test (cond (not at_token) (first ∷ without_token others token) (without_token others token))
        ≡ cond at_other (Some first) (find test others)
    by true true is also rest = absurd (differs (sym (eqb-true first.token other also) ∙ eqb-true first.token token is))
    by true false is also rest = rest
    by false true is also rest = rw also refl
    by false false is also rest = rw also rest

-- a cancel that isn't refused leaves out the record of its token
cancel_leaves : (all after : Pendings) (token uid : ℕ) → cancel all token uid ≡ Ok after
    → record all { records = without_token all.records token } ≡ after
unfolding cancel
cancel_leaves all after token uid done = by (record_of all token) refl done
  where
    by : (kept : Option Pending) → record_of all token ≡ kept → canceled all uid kept ≡ Ok after
        → record all { records = without_token all.records token } ≡ after
    by None is done = cc
    by (Some kept) is done = own (kept.creator == uid) (eqb-true kept.token token
        (found_passes (λ (k : Pending). k.token == token) all.records kept is)) done
      where
        own : (b : Bool) → kept.token ≡ token → cond b (Ok (record all
            { records = without_token all.records kept.token })) (Err NotCreator) ≡ Ok after
            → record all { records = without_token all.records token } ≡ after
        own true same done = cc
        own false same done = cc

-- after a cancel the token isn't live
pub canceled_is_not_live : (all after : Pendings) (token uid : ℕ) → cancel all token uid ≡ Ok after
    → record_of after token ≡ None
canceled_is_not_live all after token uid done = subst (λ (p : Pendings). record_of p token ≡ None)
    (cancel_leaves all after token uid done) (none_of token all.records)

-- and each other token stands for what it stood for
pub cancel_keeps_others : (all after : Pendings) (token other uid : ℕ) → other ≢ token → cancel all token uid ≡ Ok after
    → record_of after other ≡ record_of all other
cancel_keeps_others all after token other uid differs done =
    subst (λ (p : Pendings). record_of p other ≡ record_of all other) (cancel_leaves all after token uid done)
    (others_stay token other all.records differs)

-- a use of it is refused then: it is canceled, or it was never given
pub canceled_is_refused : (all : Pendings) (token uid : ℕ) (fill : Option Intent) → record_of all token ≡ None
    → use_token all token uid fill ≡ Err (no_record all token)
unfolding use_token
canceled_is_refused all token uid fill gone = rw gone refl

-- a token that is made is the next one
pub made_is_next : (all after : Pendings) (stay : List Pending) (asked : Asked) (token : ℕ) → made all stay asked
    ≡ Ok (Some token, after) → (token ≡ all.next) × (after.next ≡ all.next + 1)
made_is_next all after stay asked token done = by asked.flags.no_create (nat_le 1024 (count_of stay asked.creator)) done
  where
    by : (no_create full : Bool)
        → cond {A = Result (Option ℕ × Pendings) PendingFault} no_create (Ok (None, record all { records = stay }))
        (cond full (Err Full) (Ok (
          Some all.next,
          record {
            records = stay ++ fresh all.next asked
                ∷ [];
            next = all.next + 1;
          },
        ))) ≡ Ok (Some token, after)
        → (token ≡ all.next) × (after.next ≡ all.next + 1)
    by true full done =
        let made_none : Option ℕ × Pendings = (None, record all { records = stay }) in
        let e : made_none ≡ (Some token, after) = cc in
        let t : None ≡ Some token = ap (λ (p : Option ℕ × Pendings). p.0) e in
        absurd cc
    by false true done = absurd cc
    by false false done =
        let made_one : Option ℕ × Pendings = (
          Some all.next,
          record
              { records = stay ++ fresh all.next asked ∷ []; next = all.next + 1 },
        ) in
        let e : made_one ≡ (Some token, after) = cc in
        let t : Some all.next ≡ Some token = ap (λ (p : Option ℕ × Pendings). p.0) e in
        (cc, ap (λ (p : Option ℕ × Pendings). p.1.next) (sym e))
