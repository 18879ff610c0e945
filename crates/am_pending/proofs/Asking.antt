-- What asking for a token comes to, by what is found.
use Rattle.std.proofs.Common.{◌≡◌, ℕ, Bool, true, false, cond, map, Option, Some, None, Result, Ok, Err, refl, sym, ap, ◌∙◌}
use Rattle.std.specs.List.{find}
use Rattle.am_types.specs.declared.pending.PendingFault.{PendingFault}
use Rattle.am_types.specs.declared.pending.PendingFault.TheVariants.{Mutability}
use Rattle.am_pending.specs.declared.key.Key.{Key}
use Rattle.am_pending.specs.Keys.{asking, key_for}
use Rattle.am_pending.specs.Records.{token_in}
use Rattle.am_pending.proofs.Indexing.{none-has, the_one}
use Rattle.am_model.specs.Pendings.{Asked, Pending, Pendings, found, get, has_key, is_clear, made, updated, without_token}

-- the refusal if the flags aren't clear
pub unclear_get : (all : Pendings) (asked : Asked) → is_clear asked.flags ≡ false → get all asked ≡ Err Mutability
unfolding get
unclear_get all asked unclear = rw unclear refl

abbrev Answer : Type 0
Answer = Result (Option ℕ × Pendings) PendingFault

-- what is asked for with clear flags, by what is found of its key
module _ (all : Pendings) (asked : Asked) (key : Key) (is : key ≡ key_for asked) (clear : is_clear asked.flags ≡ true)
  where
    there : (o : Option ℕ) → token_in key all.records ≡ o → token_in (key_for asked) all.records ≡ o
    there o h = ap (λ (k : Key). token_in k all.records) (sym is) ∙ h

    pub asked_made : token_in key all.records ≡ None → made all all.records (asking asked.flags.no_create key)
        ≡ get all asked
    unfolding get
    asked_made none =
        ap (λ (k : Key). made all all.records (asking asked.flags.no_create k)) is
        ∙ sym (rw (clear, none-has (key_for asked) all.records (there None none)) refl)

    module _ (token : ℕ) (has : token_in key all.records ≡ Some token) where
      one : (kept : Pending) × (find (has_key asked) all.records ≡ Some kept) × (kept.token ≡ token)
      one = the_one (find (has_key asked) all.records) token (there (Some token) has)

      pub asked_renewed : asked.flags.cancel_current ≡ true → made all (without_token all.records token)
          (asking asked.flags.no_create key) ≡ get all asked
      unfolding get
      asked_renewed cancel =
          ap (λ (k : Key). made all (without_token all.records token) (asking asked.flags.no_create k)) is
          ∙ sym (rw (clear, one.1, one.2, cancel) refl)

      pub asked_kept : asked.flags.cancel_current ≡ false → (all' : Pendings) → all'
          ≡ record all {
            records = cond asked.flags.update_current (map (updated token key.intent.extras) all.records)
                all.records;
          } → get all asked ≡ Ok (Some token, all')
      unfolding get
      asked_kept cancel all' new = rw (new, is, clear, one.1, one.2, cancel) (by asked.flags.update_current)
        where
          by : (b : Bool) → cond {A = Answer} b (Ok (
            Some token,
            record all
                { records = map (updated token asked.intent.extras) all.records },
          )) (Ok (Some token, all))
              ≡ Ok (
                Some token,
                record all {
                  records = cond b (map (updated token asked.intent.extras) all.records)
                      all.records;
                },
              )
          by true = refl
          by false = refl
