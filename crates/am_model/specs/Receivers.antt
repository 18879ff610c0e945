-- Who a broadcast is offered to, and which of them are admitted.
use Rattle.std.specs.Prelude.{ℕ, ℤ, Bool, true, false, not, ◌&&◌, ◌==◌, codes, List, [], ◌∷◌, ◌++◌, map, filter, if◌then◌else◌, Option, Some, None, is_none}
use Rattle.std.specs.Bool.{then_some}
use Rattle.std.specs.List.{list_any}
use Rattle.std.specs.Option.{option_or}
use Rattle.am_types.specs.declared.intent.Intent.{Intent}
use Rattle.am_types.specs.declared.intent.Component.{Component}
use Rattle.am_types.specs.declared.manifest.Kind.{Kind}
use Rattle.am_types.specs.declared.manifest.Kind.TheVariants.{Receiver}
use Rattle.am_types.specs.declared.manifest.Decl.{Decl}
use Rattle.am_types.specs.declared.device.Package.{Package}
use Rattle.am_types.specs.declared.device.Rules.{Rules}
use Rattle.am_types.specs.declared.resolve.Hit.{Hit}
use Rattle.am_types.specs.declared.resolve.Registration.{Registration}
use Rattle.am_types.specs.declared.broadcast.Aim.{Aim}
use Rattle.am_types.specs.declared.broadcast.Aim.TheVariants.{Declared, Registered}
use Rattle.am_types.specs.declared.broadcast.Receiving.{Receiving}
use Rattle.am_types.specs.declared.broadcast.Spot.{Spot}
use Rattle.am_types.specs.declared.rule.Rule.{Rule}
use Rattle.am_types.specs.declared.rule.Rule.TheVariants as rules
use Rattle.am_model.specs.Lists.{falling_by}
use Rattle.am_model.specs.Texts.{is_same, lists}
use Rattle.am_model.specs.Cuts.{hears}
use Rattle.am_model.specs.Boards.{Board, package_at}
use Rattle.am_model.specs.Candidates.{hits, is_kind}
use Rattle.am_model.specs.Gates.{Verdict, Admit, NotExported, NeedsPermission, verdict, holds, is_privileged}

-- a receiver that a broadcast is offered to: its uid, which it is, its priority, and who may send to it
pub record Offer : Type 0 where
  pub uid : ℕ
  pub aim : Aim
  pub priority : ℤ
  pub exported : Bool
  pub permission : Option (List ℕ)

-- the enabled component of a kind that a package declares under a class, if there is one
abbrev pub decl_in : Kind → List ℕ → List Decl → Option Decl
decl_in kind class [] = None
decl_in kind class (first ∷ others) =
    if (first.enabled && is_kind kind first.kind) && is_same first.class class then Some first else decl_in kind class
    others

-- the component with the uid of its package
abbrev pub with_uid : ℕ → Option Decl → Option (ℕ × Decl)
with_uid uid None = None
with_uid uid (Some decl) = Some (uid, decl)

-- an enabled component of a kind, with the uid of its package
abbrev pub declared : List Package → Kind → Component → Option (ℕ × Decl)
declared [] kind component = None
declared (first ∷ others) kind component =
    if is_same first.name component.«package»
    then with_uid first.uid (decl_in kind component.class first.decls)
    else declared others kind component

-- the offer to a manifest's receiver
abbrev pub declared_offer : Hit → Option (ℕ × Decl) → List Offer
declared_offer hit None = []
declared_offer hit (Some found) =
    record {
      uid = hit.uid;
      aim = Declared hit.component;
      priority = hit.priority;
      exported = found.1.exported;
      permission = found.1.permission;
    } ∷ []

-- the offers to the manifests' receivers that the intent finds
abbrev pub declared_offers : List Package → List Hit → List Offer
declared_offers packages [] = []
declared_offers packages (first ∷ others) =
    declared_offer first (declared packages Receiver first.component) ++ declared_offers packages others

-- the name of a package, if there is one
abbrev pub name_in : Option Package → Option (List ℕ)
name_in None = None
name_in (Some found) = Some found.name

-- the name of the package of a uid, if there is one; the system and the root are `android`
abbrev pub name_of : List Package → ℕ → Option (List ℕ)
name_of packages uid = if is_privileged uid then Some (codes "android") else name_in (package_at packages uid)

-- the texts are there and are the same
abbrev pub is_text : List ℕ → Option (List ℕ) → Bool
is_text text None = false
is_text text (Some other) = is_same text other

-- the intent names no package, or this one
abbrev pub is_for : Option (List ℕ) → Option (List ℕ) → Bool
is_for None name = true
is_for (Some limited) name = is_text limited name

-- a registered receiver that the intent finds: it names no component, and no other package
abbrev pub finds_registered : Rules → List Package → Intent → Registration → Bool
finds_registered rules packages intent r =
    (is_none intent.component && is_for intent.«package» (name_of packages r.uid)) && hears rules r.filter intent

-- the offer to a registered receiver, which counts as exported
abbrev pub registered_offer : Registration → Offer
registered_offer r =
    record {
      uid = r.uid;
      aim = Registered r.number;
      priority = r.filter.priority;
      exported = true;
      permission =
          r.permission;
    }

-- by falling priority; ties keep their order
abbrev pub in_order : List Offer → List Offer
in_order found = falling_by (λ (o : Offer). o.priority) found

-- who the broadcast is offered to, by falling priority; at a tie registered receivers by number, then the manifests'
-- by uid and place
abbrev pub offers : Board → Intent → List Offer
offers board intent =
    in_order (map registered_offer (filter (finds_registered board.rules board.packages intent) board.registered)
    ++ declared_offers board.packages (hits board.rules board.packages Receiver intent false))

-- the first of two rules
abbrev pub or_rule : Option Rule → Option Rule → Option Rule
or_rule rule other = option_or rule other

-- the rule if the condition holds
abbrev pub rule_where : Bool → Rule → Option Rule
rule_where test rule = then_some test rule

-- the receiver is one of a manifest
abbrev pub is_declared : Aim → Bool
is_declared (Declared component) = true
is_declared (Registered number) = false

-- the intent has an action that is exempt
abbrev pub is_exempt : List (List ℕ) → Option (List ℕ) → Bool
is_exempt exempt None = false
is_exempt exempt (Some action) = lists exempt action

-- the intent has an action, and it is protected
abbrev pub is_protected : List (List ℕ) → Option (List ℕ) → Bool
is_protected protected None = false
is_protected protected (Some action) = lists protected action

-- the intent names neither a component nor a package, and its action isn't exempt
abbrev pub is_unaimed : List (List ℕ) → Intent → Bool
is_unaimed exempt intent = (is_none intent.component && is_none intent.«package») && not
    (is_exempt exempt intent.action)

-- the package of the uid is stopped; the system and the root have none
abbrev pub is_stopped : List Package → ℕ → Bool
is_stopped packages uid = list_any (λ (p : Package). (p.uid == uid) && p.stopped) packages

-- the rule by which the gate refuses
abbrev pub rule_of : Verdict → Option Rule
rule_of Admit = None
rule_of NotExported = Some rules.NotExported
rule_of (NeedsPermission permission) = Some (rules.NeedsPermission permission)

-- the receiver lacks what the sender requires
abbrev pub lacks : Board → ℕ → Option (List ℕ) → Option Rule
lacks board uid None = None
lacks board uid (Some permission) =
    if holds board.grants uid permission then None else Some (rules.ReceiverLacks permission)

-- why the offer is skipped, by the first rule that applies; none if the receiver is admitted
abbrev pub skip_of : Board → Intent → ℕ → Option (List ℕ) → Offer → Option Rule
skip_of board intent sender required offer =
    or_rule (rule_where (intent.flags.registered_only && is_declared offer.aim) rules.RegisteredOnly)
    (or_rule (rule_where ((is_declared offer.aim && is_unaimed board.exempt intent) && not (offer.uid == sender))
    rules.ManifestImplicit)
    (or_rule (rule_where (is_stopped board.packages offer.uid && not intent.flags.include_stopped) rules.StoppedPackage)
    (or_rule (rule_of (verdict board.grants sender offer.uid offer.exported offer.permission))
    (lacks board offer.uid required))))

-- who the broadcast is offered to, each with the rule by which it is skipped or with none
abbrev pub receivers : Board → Intent → ℕ → Option (List ℕ) → List Receiving
receivers board intent sender required =
    map (λ (offer : Offer). record {
      uid = offer.uid;
      aim = offer.aim;
      skip = skip_of board intent sender required offer;
    })
    (offers board intent)

-- the receivers that are admitted, in their order
abbrev pub admitted : List Receiving → List Spot
admitted [] = []
admitted (first ∷ others) =
    if is_none first.skip then record { uid = first.uid; aim = first.aim } ∷ admitted others else admitted others
