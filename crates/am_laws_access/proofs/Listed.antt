-- Each package, registered receiver and token's record after an entry was there at its moment, or the entry added it.
use Rattle.std.proofs.Common.{◌≡◌, ℕ, ◌+◌, Bool, true, false, not, cond, List, [], ◌∷◌, ◌++◌, map, refl, subst, ◌⊎◌, inl, inr}
use Rattle.std.specs.Prelude.{All, Option, Some, None, Result, Ok, Err, ◌==◌, nat_le, filter}
use Rattle.std.specs.List.{Contains, find}
use Rattle.std.proofs.lemmas.Bool.{eqb-true}
use Rattle.std.proofs.lemmas.List.Elements.{All-weaker, All-filter, All-map, All-push, All-contains, All-contains_itself}
use Rattle.am_types.specs.declared.device.Package.{Package}
use Rattle.am_types.specs.declared.resolve.Registration.{Registration}
use Rattle.am_types.specs.declared.history.Entry.{Entry}
use Rattle.am_types.specs.declared.pending.PendingFault.{PendingFault}
use Rattle.am_types.specs.declared.pending.PendingFault.TheVariants.{Full, Mutability}
use Rattle.am_types.specs.declared.request.Request.TheVariants as asks
use Rattle.am_model.specs.Boards.{with_stopped}
use Rattle.am_model.specs.Pendings as pendings
use Rattle.am_model.specs.Pendings.{Asked, Pending, Pendings, count_of, found, fresh, has_key, is_clear, made, updated, without_holder, without_token}
use Rattle.am_history.specs.State.{State}
use Rattle.am_history.specs.Steps.{after_due, step}
use Rattle.am_laws.proofs.Requests.{Steps, step_leaves}
use Rattle.am_laws.proofs.Tokens.{IsHeld}
use Rattle.am_laws_access.specs.Adds.{Addition, AReceiver, AToken, APackage, Has, IsAddedBy}

-- this was in the state at the moment of an entry, or the entry added it
abbrev Was : State → Entry → Addition → Type 0
Was state entry a = Has (after_due state entry.now) a ⊎ IsAddedBy (after_due state entry.now) entry a

-- that is so of each of these
pub record AreListed (state : State) (entry : Entry) (apps : List Package) (receivers : List Registration)
    (records : List Pending) : Type 0 where
  pub packages : All (λ (p : Package). Was state entry (APackage p)) apps
  pub registered : All (λ (r : Registration). Was state entry (AReceiver r)) receivers
  pub tokens : All (λ (kept : Pending). Was state entry (AToken kept)) records

-- and of all that another state lists
abbrev pub IsListed : State → Entry → State → Type 0
IsListed state entry after = AreListed state entry after.board.packages after.board.registered after.pendings.records

-- what holds of one answer holds of the same
ok_holds : {A F : Type 0} (Q : A → Type 0) (x y : A) → ◌≡◌ {A = Result A F} (Ok x) (Ok y) → Q x → Q y
ok_holds Q x y e one = let same : x ≡ y = cc in subst Q same one

module _ (state : State) (before : List Entry) (entry : Entry) where
  abbrev due : State
  due = after_due state entry.now

  abbrev OfPackage : Package → Type 0
  OfPackage p = Was state entry (APackage p)

  abbrev OfReceiver : Registration → Type 0
  OfReceiver r = Was state entry (AReceiver r)

  abbrev OfToken : Pending → Type 0
  OfToken kept = Was state entry (AToken kept)

  -- all that is there at the moment
  here : IsListed state entry due
  here = record {
    packages = All-weaker (Contains due.board.packages) OfPackage (λ p one. inl (p.stopped, one)) due.board.packages
        (All-contains_itself due.board.packages);
    registered = All-weaker (Contains due.board.registered) OfReceiver (λ r one. inl one) due.board.registered
        (All-contains_itself due.board.registered);
    tokens = All-weaker (Contains due.pendings.records) OfToken (λ kept one. inl (kept.holders, one))
        due.pendings.records (All-contains_itself due.pendings.records);
  }

  -- packages, one of them stopped or not
  restopped : (uid : ℕ) (stopped : Bool) (packages : List Package) → All OfPackage packages
      → All OfPackage (with_stopped packages uid stopped)
  restopped uid stopped packages all =
      All-map OfPackage (λ (p : Package). cond (p.uid == uid) (record p { stopped = stopped }) p) packages
      (All-weaker OfPackage (λ (p : Package). OfPackage (cond (p.uid == uid) (record p { stopped = stopped }) p))
      (λ p one. by p one (p.uid == uid)) packages all)
    where
      by : (p : Package) → OfPackage p → (b : Bool) → OfPackage (cond b (record p { stopped = stopped }) p)
      by p one true = one
      by p one false = one

  restarted : (uid : ℕ) → AreListed state entry (with_stopped due.board.packages uid false) due.board.registered
      due.pendings.records
  restarted uid = record {
    packages = restopped uid false due.board.packages here.packages;
    registered = here.registered;
    tokens = here.tokens;
  }

  -- records of which none is new
  left_tokens : (records left : List Pending) → All OfToken records → All (IsHeld records) left → All OfToken left
  left_tokens records left all held =
      All-weaker (IsHeld records) OfToken
      (λ kept was. All-contains OfToken records (record kept { holders = was.0 }) all was.1) left held

  -- an app of which nothing goes on
  module _ (uid : ℕ) where
    own_receivers : All OfReceiver (filter (λ (r : Registration). not (r.uid == uid)) due.board.registered)
    own_receivers = All-filter (λ (r : Registration). not (r.uid == uid)) OfReceiver due.board.registered
        here.registered

    own_tokens : All OfToken (pendings.forget_uid due.pendings uid).records
    own_tokens =
        All-map OfToken (without_holder uid) (filter (λ (kept : Pending). not (kept.creator == uid))
        due.pendings.records)
        (All-filter (λ (kept : Pending). not (kept.creator == uid)) OfToken due.pendings.records here.tokens)

  module _ (stored : entry.kept ≡ true) (asked : Asked) (own : asked.creator ≡ entry.uid)
      (request : entry.request ≡ asks.PendingGet asked.kind asked.code asked.intent asked.flags) where
    -- a record that may be made
    made_tokens : (stay : List Pending) → All OfToken stay → (got : Option ℕ × Pendings)
        → made due.pendings stay asked ≡ Ok got → All OfToken got.1.records
    made_tokens stay all got is = by asked.flags.no_create (nat_le 1024 (count_of stay asked.creator)) is
      where
        by : (none full : Bool) → cond {A = Result (Option ℕ × Pendings) PendingFault} none
            (Ok (None, record (due.pendings) { records = stay }))
            (cond full (Err Full) (Ok (
              Some due.pendings.next,
              record {
                records = stay ++ fresh due.pendings.next asked ∷ [];
                next = due.pendings.next + 1;
              },
            ))) ≡ Ok got
            → All OfToken got.1.records
        by true full e = ok_holds (λ (given : Option ℕ × Pendings). All OfToken given.1.records) _ got e all
        by false true e = absurd cc
        by false false e = ok_holds (λ (given : Option ℕ × Pendings). All OfToken given.1.records) _ got e
            (All-push OfToken stay (fresh due.pendings.next asked) all (inr (record {
              stored = stored;
              asked = asked;
              request = request;
              own = own;
              made = inl refl;
            })))

    -- records that may be updated
    updated_tokens : (kept : Pending) → find (has_key asked) due.pendings.records ≡ Some kept
        → All OfToken (map (updated kept.token asked.intent.extras) due.pendings.records)
    updated_tokens kept is =
        All-map OfToken (updated kept.token asked.intent.extras) due.pendings.records
        (All-weaker (Contains due.pendings.records)
        (λ (was : Pending). OfToken (updated kept.token asked.intent.extras was))
        (λ was one. by was one (was.token == kept.token) refl) due.pendings.records
        (All-contains_itself due.pendings.records))
      where
        by : (was : Pending) → Contains due.pendings.records was → (b : Bool) → (was.token == kept.token) ≡ b
            → OfToken (cond b (record was { intent = record (was.intent) { extras = asked.intent.extras } }) was)
        by was one true same = inr (record {
          stored = stored;
          asked = asked;
          request = request;
          own = own;
          made = inr (record {
            found = kept;
            is = is;
            was = was;
            one = one;
            token = eqb-true was.token kept.token same;
            updated = refl;
          });
        })
        by was one false other = inl (was.holders, one)

    -- a token that is asked for
    got_tokens : (got : Option ℕ × Pendings) → pendings.get due.pendings asked ≡ Ok got → All OfToken got.1.records
    unfolding pendings.get
    got_tokens got is = clear (is_clear asked.flags) is
      where
        any : (kept : Option Pending) → find (has_key asked) due.pendings.records ≡ kept
            → found due.pendings asked kept ≡ Ok got → All OfToken got.1.records
        any None none e = made_tokens due.pendings.records here.tokens got e
        any (Some kept) one e = by asked.flags.cancel_current asked.flags.update_current e
          where
            by : (cancels updates : Bool) → cond cancels
                (made due.pendings (without_token due.pendings.records kept.token) asked)
                (cond updates (Ok (
                  Some kept.token,
                  record (due.pendings) {
                    records = map (updated kept.token asked.intent.extras) due.pendings.records;
                  },
                )) (Ok (Some kept.token, due.pendings))) ≡ Ok got
                → All OfToken got.1.records
            by true updates e = made_tokens (without_token due.pendings.records kept.token)
                (All-filter (λ (other : Pending). not (other.token == kept.token)) OfToken due.pendings.records
                here.tokens) got e
            by false true e = ok_holds (λ (given : Option ℕ × Pendings). All OfToken given.1.records) _ got e
                (updated_tokens kept one)
            by false false e = ok_holds (λ (given : Option ℕ × Pendings). All OfToken given.1.records) _ got e
                here.tokens

        clear : (b : Bool) → cond b (found due.pendings asked (find (has_key asked) due.pendings.records))
            (Err Mutability) ≡ Ok got → All OfToken got.1.records
        clear true e = any (find (has_key asked) due.pendings.records) refl e
        clear false e = absurd cc

  -- each step
  steps : entry.kept ≡ true → Steps (IsListed state entry) due entry.uid entry.request
  steps stored = record {
    here = here;
    started = λ uid intent source component found landed did is admits placed. restarted found.0;
    served = λ uid intent component found did is admits. restarted found.0;
    sent = λ sender intent permission ordered did unprotected. here;
    ended = λ keeps. here;
    unserved = λ keeps. here;
    registered = λ filter permission asked. record {
      packages = here.packages;
      registered = All-push OfReceiver due.board.registered _ here.registered
          (inr (record { kept = stored; asked = asked; own = refl; number = refl }));
      tokens = here.tokens;
    };
    taken_back = λ found. record {
      packages = here.packages;
      registered = All-filter (λ (r : Registration). not (r.number == found.number)) OfReceiver due.board.registered
          here.registered;
      tokens = here.tokens;
    };
    finished = λ number answer holder asked is own. here;
    got = λ kind code intent flags got asked given. record {
      packages = here.packages;
      registered = here.registered;
      tokens = got_tokens stored (record {
        creator = entry.uid;
        kind = kind;
        code = code;
        intent = intent;
        flags = flags;
      }) refl asked got given;
    };
    changed = λ after left kept one. record {
      packages = one.packages;
      registered = one.registered;
      tokens = left_tokens after.pendings.records left.records one.tokens kept.records;
    };
    installed = λ text key manifest asked admin read name_unused key_unused room. record {
      packages = All-push OfPackage due.board.packages _ here.packages (inr (record {
        kept = stored;
        admin = admin;
        text = text;
        asked = asked;
        manifest = manifest;
        reads = read;
        is = refl;
      }));
      registered = here.registered;
      tokens = here.tokens;
    };
    gone = λ uid. record {
      packages = All-filter (λ (p : Package). not (p.uid == uid)) OfPackage due.board.packages here.packages;
      registered = own_receivers uid;
      tokens = own_tokens uid;
    };
    stopped = λ uid. record {
      packages = restopped uid true due.board.packages here.packages;
      registered = own_receivers uid;
      tokens = own_tokens uid;
    };
    granted = λ uid permission held live room. here;
    linked = λ uid host approved live room. here;
    advanced = λ by fits. here;
  }

  pub all_listed : IsListed state entry (step state before entry).1
  all_listed = step_leaves (IsListed state entry) state before entry here steps
