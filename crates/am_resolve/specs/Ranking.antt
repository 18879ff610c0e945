-- What becomes of offers, as the code gathers it.
use Rattle.std.specs.Prelude.{ℕ, List, [], ◌∷◌, ◌++◌, map, if◌then◌else◌, Option, Some, None, option_copied, int_lt}
use Rattle.am_types.specs.declared.device.Package.{Package}
use Rattle.am_types.specs.declared.manifest.Decl.{Decl}
use Rattle.am_types.specs.declared.manifest.Kind.TheVariants.{Receiver}
use Rattle.am_types.specs.declared.resolve.Hit.{Hit}
use Rattle.am_types.specs.declared.resolve.Registration.{Registration}
use Rattle.am_types.specs.declared.broadcast.Receiving.{Receiving}
use Rattle.am_model.specs.Boards.{package_at}
use Rattle.am_model.specs.Receivers as model
use Rattle.am_model.specs.Receivers.{decl_in, declared_offer, finds_registered, registered_offer, skip_of, with_uid}
use Rattle.am_resolve.specs.declared.offers.Offer.{Offer}
use Rattle.am_resolve.specs.declared.offers.Ranked.{Ranked}
use Rattle.am_resolve.specs.declared.offers.Broadcast.{Broadcast}

-- an offer of the code, as the model's offer
abbrev pub offer_of : Offer → model.Offer
offer_of offer = record {
  uid = offer.uid;
  aim = offer.aim;
  priority = offer.priority;
  exported = offer.exported;
  permission = option_copied offer.permission;
}

-- what becomes of an offer of what is broadcast
abbrev pub ranked_of : Broadcast → model.Offer → Ranked
ranked_of sent offer = record {
  priority = offer.priority;
  receiving = record {
    uid = offer.uid;
    aim = offer.aim;
    skip = skip_of sent.installed.now sent.intent.now sent.sender (option_copied sent.required) offer;
  };
}

-- what becomes of the offer to a registered receiver, if the intent finds it
abbrev pub ranked_of_registration : Broadcast → Registration → List Ranked
ranked_of_registration sent r =
    if finds_registered sent.installed.now.rules sent.installed.now.packages sent.intent.now r then ranked_of sent (registered_offer r) ∷ []
    else []

-- what becomes of the offers to several
abbrev pub ranked_of_registered : Broadcast → List Registration → List Ranked
ranked_of_registered sent [] = []
ranked_of_registered sent (first ∷ others) = ranked_of_registration sent first ++ ranked_of_registered sent others

-- the enabled receiver that a package declares under a class, if there is one
abbrev pub receiver_in : List ℕ → Option Package → Option Decl
receiver_in class None = None
receiver_in class (Some p) = decl_in Receiver class p.decls

-- the component of a hit, found by the uid of its package
abbrev pub decl_at : List Package → Hit → Option Decl
decl_at packages hit = receiver_in hit.component.class (package_at packages hit.uid)

-- what becomes of the offer to a manifest's receiver
abbrev pub ranked_of_hit : Broadcast → List Package → Hit → List Ranked
ranked_of_hit sent packages hit =
    map (ranked_of sent) (declared_offer hit (with_uid hit.uid (decl_at packages hit)))

-- what becomes of the offers to several
abbrev pub ranked_of_hits : Broadcast → List Package → List Hit → List Ranked
ranked_of_hits sent packages [] = []
ranked_of_hits sent packages (first ∷ others) = ranked_of_hit sent packages first ++ ranked_of_hits sent packages others

-- an offer inserted before those of lesser or equal priority, and after the others
abbrev pub place_ranked : Ranked → List Ranked → List Ranked
place_ranked one [] = one ∷ []
place_ranked one (first ∷ others) =
    if int_lt one.priority first.priority then first ∷ place_ranked one others else one ∷ first ∷ others

-- by falling priority; offers of equal priority keep their order
abbrev pub in_rank : List Ranked → List Ranked
in_rank [] = []
in_rank (first ∷ others) = place_ranked first (in_rank others)

-- what becomes of an offer, without its priority
abbrev pub receiving_of : Ranked → Receiving
receiving_of one = one.receiving
