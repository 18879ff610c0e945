-- The receivers decided on are those that a broadcast is offered to.
use Rattle.std.proofs.Common.{◌≡◌, ℕ, Bool, true, false, not, ◌&&◌, cond, List, [], ◌∷◌, ◌++◌, map, Option, Some, None, refl, sym, ap, ◌∙◌, subst}
use Rattle.std.specs.Prelude.{is_none, is_some}
use Rattle.std.specs.List.{AllByRecursion, filter}
use Rattle.std.specs.List.Sorted.{IsPermutation}
use Rattle.std.proofs.lemmas.List.{append-nil}
use Rattle.std.proofs.lemmas.List.Elements.{filter-append}
use Rattle.std.proofs.lemmas.List.Sorted.{IsPermutation-append_comm, IsPermutation-append_right, IsPermutation-trans}
use Rattle.am_types.specs.declared.intent.Component.{Component}
use Rattle.am_types.specs.declared.intent.Intent.{Intent}
use Rattle.am_types.specs.declared.filter.Why.{Why}
use Rattle.am_types.specs.declared.manifest.Kind.{Kind}
use Rattle.am_types.specs.declared.manifest.Kind.TheVariants.{Receiver}
use Rattle.am_types.specs.declared.manifest.Decl.{Decl}
use Rattle.am_types.specs.declared.device.Package.{Package}
use Rattle.am_types.specs.declared.resolve.Hit.{Hit}
use Rattle.am_types.specs.declared.resolve.Registration.{Registration}
use Rattle.am_types.specs.declared.broadcast.Aim.TheVariants.{Registered}
use Rattle.am_types.specs.declared.broadcast.Receiving.{Receiving}
use Rattle.am_types.specs.declared.rule.Rule.{Rule}
use Rattle.am_types.specs.declared.rule.Rule.TheVariants as rules
use Rattle.am_model.specs.Boards.{Board}
use Rattle.am_model.specs.Candidates.{candidates, hits, hits_of, in_turn}
use Rattle.am_model.specs.Cuts.{unheard_why}
use Rattle.am_model.specs.Receivers.{Offer, admitted, declared, declared_offer, declared_offers, finds_registered, is_for, name_of, offers, or_rule, receivers, registered_offer, skip_of}
use Rattle.am_installed.specs.Installed.{AreInstalled}
use Rattle.am_model.specs.Accounts.{Question, accounts, declared_accounts, named, offer_to, offered, registered_accounts, registered_standing, search_of, sending_rule, unless_failed, unless_refused}
use Rattle.am_explain.specs.Laws.{ReceiversAreSentTo, account_of, is_decided, is_reached, reached_spots, standing_at}
use Rattle.am_types.specs.declared.account.Account.{Account}
use Rattle.am_types.specs.declared.account.Standing.{Standing}
use Rattle.am_types.specs.declared.account.Standing.TheVariants.{OtherComponent, OtherPackage}
use Rattle.am_explain.proofs.Orders.{flat, flat-append, hits_in_turn, ordered_offers}
use Rattle.am_explain.proofs.Known.{all_known}
use Rattle.am_explain.proofs.Rivals.{HoldsOf, IsOfFound, Rival, all_rivals, as_hits, hit_of_rival, met_account, of_found_in, of_kind, rivals_in}

-- tests that only components that are found may pass
pub decided_found : IsOfFound is_decided
decided_found = record { component = refl; «package» = refl; disabled = refl; filters = λ reasons. refl }

pub reached_found : IsOfFound is_reached
reached_found = record { component = refl; «package» = refl; disabled = refl; filters = λ reasons. refl }

module _ (board : Board) (caller : ℕ) (intent : Intent) (required : Option (List ℕ)) where
  abbrev asked : Question
  asked = record { caller = caller; kind = Receiver; intent = intent; required = required }

  -- the account of an offer
  abbrev told : Offer → Account
  told offer = record { to = offer.aim; standing = offered board asked offer }

  -- as far as it passes a test
  abbrev picked_by : (Standing → Bool) → Offer → List Account
  picked_by test offer = standing_at test (told offer ∷ [])

  module _ (test : Standing → Bool) (of_found : IsOfFound test) where
    -- as far as it passes the test
    abbrev picked : Offer → List Account
    picked = picked_by test

    -- as of the offer to a hit
    abbrev picked_hit : Hit → List Account
    picked_hit hit = flat picked (declared_offer hit (declared board.packages Receiver hit.component))

    picked_rival : (r : Rival) (component : Option Component) → declared board.packages Receiver
        (hit_of_rival r).component ≡ Some (r.owner.uid, r.decl)
        → standing_at test (met_account board asked component r ∷ []) ≡ picked_hit (hit_of_rival r)
    picked_rival r (Some component) known =
        sym (ap (λ (d : Option (ℕ × Decl)). flat picked (declared_offer (hit_of_rival r) d)) known ∙ append-nil _)
    picked_rival r None known =
        sym (ap (λ (d : Option (ℕ × Decl)). flat picked (declared_offer (hit_of_rival r) d)) known ∙ append-nil _)

    picked_rivals : (rs : List Rival) (component : Option Component)
        → AllByRecursion (HoldsOf (search_of board asked) (λ (p : Package) (d : Decl). declared board.packages Receiver
        (record { «package» = p.name; class = d.class }) ≡ Some (p.uid, d))) rs
        → standing_at test (map (met_account board asked component) rs) ≡ flat picked_hit (map hit_of_rival rs)
    picked_rivals [] component known = refl
    picked_rivals (r ∷ rs) component known =
        filter-append (λ (a : Account). test a.standing) (met_account board asked component r ∷ [])
        (map (met_account board asked component) rs)
        ∙ ap (λ l. l ++ standing_at test (map (met_account board asked component) rs))
        (picked_rival r component known.0)
        ∙ ap (λ l. picked_hit (hit_of_rival r) ++ l) (picked_rivals rs component known.1)

    -- of manifests' receivers
    picked_declared : AreInstalled board.packages
        → standing_at test (declared_accounts board asked None board.packages)
        ≡ flat picked_hit (hits_of (candidates (search_of board asked) board.packages))
    picked_declared installed =
        of_found_in board asked test of_found board.packages
        ∙ picked_rivals (rivals_in (search_of board asked) board.packages) intent.component
        (all_rivals (search_of board asked) (λ (p : Package) (d : Decl). declared board.packages Receiver
        (record { «package» = p.name; class = d.class }) ≡ Some (p.uid, d)) board.packages
        (all_known board.packages Receiver installed))
        ∙ ap (flat picked_hit) (sym (as_hits (search_of board asked) board.packages))

    -- of a registered receiver
    picked_one : (r : Registration) (component : Option Component) (is : Bool) (reason : Option Why)
        → standing_at test (record {
          to = Registered r.number;
          standing = cond (is_some component) OtherComponent
              (cond (not is) OtherPackage (unless_failed reason (offered board asked (registered_offer r))));
        } ∷ [])
        ≡ flat picked (map registered_offer (cond ((is_none component && is) && is_none reason) (r ∷ []) []))
    picked_one r (Some component) is reason =
        ap (λ b. cond b (record { to = Registered r.number; standing = OtherComponent } ∷ []) []) of_found.component
    picked_one r None false reason =
        ap (λ b. cond b (record { to = Registered r.number; standing = OtherPackage } ∷ []) []) of_found.«package»
    picked_one r None true (Some reason) =
        ap (λ b. cond b (record {
          to = Registered r.number;
          standing = unless_failed (Some reason)
              (offered board asked (registered_offer r));
        } ∷ []) []) (of_found.filters _)
    picked_one r None true None = sym (append-nil _)

    -- of registered receivers
    picked_registered : (rs : List Registration)
        → standing_at test (registered_accounts board asked None rs)
        ≡ flat picked (map registered_offer (filter (finds_registered board.rules board.packages intent) rs))
    picked_registered [] = refl
    picked_registered (r ∷ rs) =
        filter-append (λ (a : Account). test a.standing) (record {
          to = Registered r.number;
          standing =
              registered_standing board asked r;
        } ∷ []) (registered_accounts board asked None rs)
        ∙ ap (λ l. l ++ standing_at test (registered_accounts board asked None rs))
        (picked_one r intent.component (is_for intent.«package» (name_of board.packages r.uid))
        (unheard_why board.rules r.filter intent))
        ∙ ap (λ l. flat picked (map registered_offer (cond (finds_registered board.rules board.packages intent r) (r ∷ []) []))
        ++ l) (picked_registered rs)
        ∙ by (finds_registered board.rules board.packages intent r)
      where
        others : List Registration
        others = filter (finds_registered board.rules board.packages intent) rs

        by : (b : Bool) → flat picked (map registered_offer (cond b (r ∷ []) []))
            ++ flat picked (map registered_offer others)
            ≡ flat picked (map registered_offer (cond b (r ∷ others) others))
        by true = ap (λ l. l ++ flat picked (map registered_offer others)) (append-nil (picked (registered_offer r)))
        by false = refl

    flat_hits : (hs : List Hit) → flat picked_hit hs ≡ flat picked (declared_offers board.packages hs)
    flat_hits [] = refl
    flat_hits (h ∷ hs) =
        ap (λ l. picked_hit h ++ l) (flat_hits hs)
        ∙ sym (flat-append picked (declared_offer h (declared board.packages Receiver h.component))
        (declared_offers board.packages hs))

    -- those of all that pass the test are those of the offers that do
    pub picked_offers : AreInstalled board.packages
        → IsPermutation (standing_at test (accounts board asked None)) (flat picked (offers board intent))
    picked_offers installed =
        let found = hits_of (candidates (search_of board asked) board.packages) in
        let registered = map registered_offer (filter (finds_registered board.rules board.packages intent) board.registered) in
        let listed = declared_offers board.packages (hits board.rules board.packages Receiver intent false) in
        let parts : standing_at test (accounts board asked None) ≡ flat picked_hit found ++ flat picked registered =
        filter-append (λ (a : Account). test a.standing) (declared_accounts board asked None board.packages)
        (registered_accounts board asked None board.registered)
        ∙ ap (λ l. l ++ standing_at test (registered_accounts board asked None board.registered))
        (picked_declared installed)
        ∙ ap (λ l. flat picked_hit found ++ l) (picked_registered board.registered) in
        let sorted : IsPermutation (flat picked_hit found) (flat picked listed) =
        subst (λ l. IsPermutation (flat picked_hit found) l)
        (flat_hits (hits_of (in_turn board.rules (candidates (search_of board asked) board.packages))))
        (hits_in_turn picked_hit board.rules (candidates (search_of board asked) board.packages)) in
        let joined : IsPermutation (flat picked_hit found ++ flat picked registered)
        (flat picked (registered ++ listed)) =
        subst (λ l. IsPermutation (flat picked_hit found ++ flat picked registered) l)
        (sym (flat-append picked registered listed))
        (IsPermutation-trans _ _ _ (IsPermutation-append_comm (flat picked_hit found) (flat picked registered))
        (IsPermutation-append_right (flat picked registered) _ _ sorted)) in
        subst (λ l. IsPermutation l (flat picked (offers board intent))) (sym parts)
        (IsPermutation-trans _ _ _ joined (ordered_offers picked (registered ++ listed)))

  -- a decision is decided
  pub decides : (rule : Option Rule) → is_decided (unless_refused rule) ≡ true
  decides None = refl
  decides (Some rule) = refl

  or_none : (rule : Option Rule) → or_rule rule None ≡ rule
  or_none None = refl
  or_none (Some rule) = refl

  -- what becomes of an offer
  abbrev receiving : Offer → Receiving
  receiving offer = record { uid = offer.uid; aim = offer.aim; skip = skip_of board intent caller required offer }

  decided_offers : (os : List Offer) → sending_rule board asked ≡ None
      → flat (picked_by is_decided) os ≡ map account_of (map receiving os)
  decided_offers [] e = refl
  decided_offers (o ∷ os) e =
      ap (λ l. picked_by is_decided o ++ l) (decided_offers os e)
      ∙ ap (λ b. cond b (told o ∷ []) [] ++ map account_of (map receiving os))
      (decides (or_rule (skip_of board intent caller required o) (sending_rule board asked)))
      ∙ ap (λ (rule : Option Rule). record {
        to = o.aim;
        standing = unless_refused
            (or_rule (skip_of board intent caller required o) rule);
      } ∷ map account_of (map receiving os)) e
      ∙ ap (λ (rule : Option Rule). record { to = o.aim; standing = unless_refused rule }
      ∷ map account_of (map receiving os)) (or_none (skip_of board intent caller required o))

  reached_offers : (os : List Offer) → sending_rule board asked ≡ None
      → flat (picked_by is_reached) os ≡ reached_spots (admitted (map receiving os))
  reached_offers [] e = refl
  reached_offers (o ∷ os) e =
      ap (λ l. picked_by is_reached o ++ l) (reached_offers os e)
      ∙ ap (λ (rule : Option Rule). standing_at is_reached (record
      { to = o.aim; standing = unless_refused (or_rule (skip_of board intent caller required o) rule) } ∷ [])
      ++ reached_spots (admitted (map receiving os))) e
      ∙ by (skip_of board intent caller required o)
    where
      by : (skip : Option Rule)
          → standing_at is_reached (record { to = o.aim; standing = unless_refused (or_rule skip None) } ∷ [])
          ++ reached_spots (admitted (map receiving os))
          ≡ reached_spots (cond (is_none skip) (record { uid = o.uid; aim = o.aim } ∷ admitted (map receiving os))
          (admitted (map receiving os)))
      by None = refl
      by (Some rule) = refl

  none_reached : (os : List Offer) (rule : Rule) → sending_rule board asked ≡ Some rule → flat (picked_by is_reached) os
      ≡ []
  none_reached [] rule e = refl
  none_reached (o ∷ os) rule e =
      ap (λ l. picked_by is_reached o ++ l) (none_reached os rule e)
      ∙ ap (λ (r : Option Rule). standing_at is_reached (record {
        to = o.aim;
        standing = unless_refused
            (or_rule (skip_of board intent caller required o) r);
      } ∷ []) ++ []) e
      ∙ by (skip_of board intent caller required o)
    where
      by : (skip : Option Rule)
          → standing_at is_reached (record { to = o.aim; standing = unless_refused (or_rule skip (Some rule)) } ∷ [])
          ++ [] ≡ []
      by None = refl
      by (Some other) = refl

  -- if a rule keeps the caller from sending the action, no manifest's receiver is reached
  none_met : (rs : List Rival) (component : Option Component) (rule : Rule) → sending_rule board asked ≡ Some rule
      → standing_at is_reached (map (met_account board asked component) rs) ≡ []
  none_met [] component rule e = refl
  none_met (r ∷ rs) component rule e =
      filter-append (λ (a : Account). is_reached a.standing) (met_account board asked component r ∷ [])
      (map (met_account board asked component) rs)
      ∙ ap (λ l. standing_at is_reached (met_account board asked component r ∷ []) ++ l) (none_met rs component rule e)
      ∙ as_offer component
      ∙ none_reached (offer_to r.owner r.decl ∷ []) rule e
    where
      as_offer : (component : Option Component) → standing_at is_reached (met_account board asked component r ∷ [])
          ++ []
          ≡ flat (picked_by is_reached) (offer_to r.owner r.decl ∷ [])
      as_offer None = refl
      as_offer (Some named) = refl

  none_is_reached : (rule : Rule) → sending_rule board asked ≡ Some rule
      → standing_at is_reached (accounts board asked None) ≡ []
  none_is_reached rule e =
      filter-append (λ (a : Account). is_reached a.standing) (declared_accounts board asked None board.packages)
      (registered_accounts board asked None board.registered)
      ∙ ap (λ l. l ++ standing_at is_reached (registered_accounts board asked None board.registered))
      (of_found_in board asked is_reached reached_found board.packages
      ∙ none_met (rivals_in (search_of board asked) board.packages) intent.component rule e)
      ∙ picked_registered is_reached reached_found board.registered
      ∙ none_reached (map registered_offer (filter (finds_registered board.rules board.packages intent) board.registered)) rule e

-- the law
pub receivers_are_sent_to : ReceiversAreSentTo
receivers_are_sent_to = record {
  offered = λ board asked installed e may.
      subst (λ (kind : Kind). IsPermutation (standing_at is_decided (accounts board (of_kind asked kind) None))
      (map account_of (receivers board asked.intent asked.caller asked.required))) (sym e)
      (subst (λ (l : List Account). IsPermutation (standing_at is_decided
      (accounts board (of_kind asked Receiver) None)) l)
      (decided_offers board asked.caller asked.intent asked.required (offers board asked.intent) may)
      (picked_offers board asked.caller asked.intent asked.required is_decided decided_found installed));
  admitted = λ board asked installed e may.
      subst (λ (kind : Kind). IsPermutation (standing_at is_reached (accounts board (of_kind asked kind) None))
      (reached_spots (admitted (receivers board asked.intent asked.caller asked.required)))) (sym e)
      (subst (λ (l : List Account). IsPermutation (standing_at is_reached
      (accounts board (of_kind asked Receiver) None)) l)
      (reached_offers board asked.caller asked.intent asked.required (offers board asked.intent) may)
      (picked_offers board asked.caller asked.intent asked.required is_reached reached_found installed));
  protected = λ board asked e barred.
      subst (λ (kind : Kind). standing_at is_reached (accounts board (of_kind asked kind) None) ≡ []) (sym e)
      (none_is_reached board asked.caller asked.intent asked.required rules.ProtectedAction barred);
}
