-- What becomes of the offers, gathered and put in order, is the plain definition's.
use Rattle.std.proofs.Common.{◌≡◌, ℕ, ℤ, Bool, true, false, cond, List, [], ◌∷◌, ◌++◌, map, filter, option_copied, refl, sym, ap, ◌∙◌}
use Rattle.std.specs.Prelude.{int_lt}
use Rattle.std.specs.List.{AllByRecursion}
use Rattle.std.specs.List.Sorted.{IsSortedBy, IsStableBy}
use Rattle.std.proofs.lemmas.List.{map-append}
use Rattle.std.specs.declared.cmp.Reverse.{Reverse}
use Rattle.am_types.specs.declared.intent.Intent.{Intent}
use Rattle.am_types.specs.declared.manifest.Kind.TheVariants.{Receiver}
use Rattle.am_types.specs.declared.resolve.Hit.{Hit}
use Rattle.am_types.specs.declared.resolve.Registration.{Registration}
use Rattle.am_model.specs.Boards.{Board}
use Rattle.am_model.specs.Candidates.{hits}
use Rattle.am_model.specs.Lists.{place_by}
use Rattle.am_model.specs.Receivers.{Offer, declared, declared_offer, declared_offers, finds_registered, in_order, receivers, registered_offer, skip_of}
use Rattle.am_resolve.specs.declared.offers.Ranked.{Ranked}
use Rattle.am_resolve.specs.declared.offers.Broadcast.{Broadcast}
use Rattle.am_resolve.specs.Ranking.{in_rank, place_ranked, ranked_of, ranked_of_hits, ranked_of_registered, receiving_of}
use Rattle.am_resolve.proofs.Owners.{IsFoundByUid}
use Rattle.am_index.proofs.Priorities.{before, sorted_is_order}

-- what the offers are sorted by
abbrev pub sort_key : Ranked → Reverse ℤ
sort_key one = record { 0 = one.priority }

-- what a stable sort by falling priority gives is that order
pub sorted_is_in_rank : (found sorted : List Ranked) → IsSortedBy (before (λ (one : Ranked). one.priority)) sorted
    → IsStableBy (before (λ (one : Ranked). one.priority)) found sorted → sorted ≡ in_rank found
sorted_is_in_rank = sorted_is_order (λ (one : Ranked). one.priority) place_ranked in_rank (λ one. refl)
    (λ one first others. refl) refl (λ first others. refl)

module _ (sent : Broadcast) where
  abbrev board : Board
  board = sent.installed.now

  abbrev intent : Intent
  intent = sent.intent.now

  -- what becomes of the offer
  abbrev ranked : Offer → Ranked
  ranked = ranked_of sent

  -- an offer in front of those of no greater priority, after the others
  abbrev place : Offer → List Offer → List Offer
  place = place_by (λ (o : Offer). o.priority)

  -- placing what becomes of an offer is placing the offer
  place-ranked : (offer : Offer) (others : List Offer) → place_ranked (ranked offer) (map ranked others)
      ≡ map ranked (place offer others)
  place-ranked offer [] = refl
  place-ranked offer (first ∷ others) = by (int_lt offer.priority first.priority) (place-ranked offer others)
    where
      by : (b : Bool) → place_ranked (ranked offer) (map ranked others) ≡ map ranked (place offer others)
          → cond b (ranked first ∷ place_ranked (ranked offer) (map ranked others))
          (ranked offer ∷ ranked first ∷ map ranked others)
          ≡ map ranked (cond b (first ∷ place offer others) (offer ∷ first ∷ others))
      by true e = ap (λ l. ranked first ∷ l) e
      by false e = refl

  -- the order of what becomes of offers is the order of the offers
  in_rank-ranked : (all : List Offer) → in_rank (map ranked all) ≡ map ranked (in_order all)
  in_rank-ranked [] = refl
  in_rank-ranked (first ∷ others) = ap (place_ranked (ranked first)) (in_rank-ranked others)
      ∙ place-ranked first (in_order others)

  -- the registered receivers that the intent finds
  of_registered : (rs : List Registration) → ranked_of_registered sent rs
      ≡ map ranked (map registered_offer (filter (finds_registered board.rules board.packages intent) rs))
  of_registered [] = refl
  of_registered (r ∷ rs) = by (finds_registered board.rules board.packages intent r) (of_registered rs)
    where
      by : (b : Bool) → ranked_of_registered sent rs
          ≡ map ranked (map registered_offer (filter (finds_registered board.rules board.packages intent) rs))
          → cond b (ranked (registered_offer r) ∷ []) [] ++ ranked_of_registered sent rs
          ≡ map ranked (map registered_offer (cond b (r ∷ filter (finds_registered board.rules board.packages intent) rs)
          (filter (finds_registered board.rules board.packages intent) rs)))
      by true e = ap (λ l. ranked (registered_offer r) ∷ l) e
      by false e = e

  -- the manifests' receivers
  pub of_hits : (hs : List Hit) → AllByRecursion (IsFoundByUid board.packages) hs
      → ranked_of_hits sent board.packages hs ≡ map ranked (declared_offers board.packages hs)
  of_hits [] found = refl
  of_hits (h ∷ hs) found =
      ap (λ d. map ranked (declared_offer h d) ++ ranked_of_hits sent board.packages hs)
      (sym found.0)
      ∙ ap (λ l. map ranked (declared_offer h (declared board.packages Receiver h.component)) ++ l) (of_hits hs found.1)
      ∙ sym (map-append ranked (declared_offer h (declared board.packages Receiver h.component))
      (declared_offers board.packages hs))

  -- what becomes of each, without its priority
  of_ranked : (all : List Offer) → map receiving_of (map ranked all)
      ≡ map (λ (offer : Offer). record {
        uid = offer.uid;
        aim = offer.aim;
        skip = skip_of board intent sent.sender (option_copied sent.required) offer;
      }) all
  of_ranked [] = refl
  of_ranked (first ∷ others) = ap (λ l. receiving_of (ranked first) ∷ l) (of_ranked others)

  -- what becomes of all offers, in order, is what the definition says
  pub ranked_is_receivers : map receiving_of (in_rank (ranked_of_registered sent board.registered
      ++ map ranked (declared_offers board.packages (hits board.rules board.packages Receiver intent false))))
      ≡ receivers board intent sent.sender (option_copied sent.required)
  ranked_is_receivers =
      let registered = map registered_offer (filter (finds_registered board.rules board.packages intent) board.registered) in
      let listed = declared_offers board.packages (hits board.rules board.packages Receiver intent false) in
      ap (λ l. map receiving_of (in_rank (l ++ map ranked listed))) (of_registered board.registered)
      ∙ ap (λ l. map receiving_of (in_rank l)) (sym (map-append ranked registered listed))
      ∙ ap (map receiving_of) (in_rank-ranked (registered ++ listed))
      ∙ of_ranked (in_order (registered ++ listed))
