-- Of activities those are decided on that a start is for, and those tied among which its user must choose.
use Rattle.std.proofs.Common.{◌≡◌, ℕ, Bool, true, false, not, ◌&&◌, cond, List, [], ◌∷◌, ◌++◌, map, Option, Some, None, refl, sym, ap, ◌∙◌}
use Rattle.std.specs.Prelude.{is_none}
use Rattle.std.specs.List.{AllByRecursion, filter, list_any}
use Rattle.std.proofs.lemmas.List.{append-nil}
use Rattle.std.proofs.lemmas.List.Elements.{filter-append}
use Rattle.am_types.specs.declared.intent.Component.{Component}
use Rattle.am_types.specs.declared.intent.Intent.{Intent}
use Rattle.am_types.specs.declared.manifest.Kind.TheVariants.{Activity}
use Rattle.am_types.specs.declared.manifest.Decl.{Decl}
use Rattle.am_types.specs.declared.device.Package.{Package}
use Rattle.am_types.specs.declared.device.Rules.TheVariants.{Profile}
use Rattle.am_types.specs.declared.resolve.Hit.{Hit}
use Rattle.am_types.specs.declared.resolve.Target.{Target}
use Rattle.am_types.specs.declared.broadcast.Aim.TheVariants.{Declared}
use Rattle.am_types.specs.declared.rule.Rule.{Rule}
use Rattle.am_model.specs.Boards.{Board}
use Rattle.am_model.specs.Candidates.{candidates, hits, hits_of, is_kind}
use Rattle.am_model.specs.Gates.{verdict}
use Rattle.am_model.specs.Receivers.{declared, rule_of}
use Rattle.am_model.specs.Targets.{approves, browser_hits, choice, host_to_view, is_approved, is_general, profile_narrowed, takes_any_host, top}
use Rattle.am_model.specs.Starts.{left_by, target}
use Rattle.am_model.specs.Texts.{is_same}
use Rattle.am_installed.specs.Installed.{AreInstalled}
use Rattle.am_model.specs.Accounts.{Question, accounts, component_of, declared_accounts, is_choice, is_outranked, is_some_approved, left_out, left_out_for_browser, search_of, started, unless_kept, unless_left_out, unless_refused}
use Rattle.am_explain.specs.Laws.{is_decided, is_tied, standing_at, started_component, started_target, tied_hits}
use Rattle.am_types.specs.declared.account.Account.{Account}
use Rattle.am_types.specs.declared.account.Narrowing.{Narrowing}
use Rattle.am_types.specs.declared.account.Narrowing.TheVariants.{Approved, Browser, General}
use Rattle.am_types.specs.declared.account.Standing.{Standing}
use Rattle.am_types.specs.declared.account.Standing.TheVariants.{Outranked, Tied}
use Rattle.am_explain.proofs.Explicit.{tied_found}
use Rattle.am_explain.proofs.Known.{AllDecls, IsGeneral, all_general, all_known}
use Rattle.am_model.proofs.PriorityLaws.{left_fall}
use Rattle.am_explain.proofs.Orders.{profile_hits}
use Rattle.am_explain.proofs.Rivals.{IsOfFound, Rival, all_rivals, as_hits, hit_of_rival, met_account, of_found_in, rivals_in}
use Rattle.am_explain.proofs.SentTo.{decided_found, decides}
use Rattle.am_explain.proofs.Tops.{IsTop, top_of}

-- a hit that the narrowing keeps for a browser
abbrev kept_for_browser : Board → Intent → Option (List ℕ) → Hit → Bool
kept_for_browser board intent (Some browser) hit = is_same hit.component.«package» browser
kept_for_browser board intent None hit = is_general board.packages intent hit

-- a hit that the narrowing keeps
abbrev kept : Board → Intent → Option (List ℕ) → Hit → Bool
kept board intent None hit = true
kept board intent (Some host) hit =
    cond (is_some_approved board intent (Some host)) (is_approved board.links host hit)
    (kept_for_browser board intent board.browser hit)

filter_all : {X : Type 0} (xs : List X) → xs ≡ filter (λ x. true) xs
filter_all [] = refl
filter_all (x ∷ xs) = ap (λ l. x ∷ l) (filter_all xs)

-- the narrowing keeps those
narrowed_is : (board : Board) (intent : Intent) (host : Option (List ℕ))
    → profile_narrowed board intent (hits Profile board.packages Activity intent true) host
    ≡ filter (kept board intent host) (hits Profile board.packages Activity intent true)
narrowed_is board intent None = filter_all (hits Profile board.packages Activity intent true)
narrowed_is board intent (Some host) = by (is_some_approved board intent (Some host)) board.browser
  where
    hs : List Hit
    hs = hits Profile board.packages Activity intent true

    by : (approved : Bool) (browser : Option (List ℕ))
        → cond approved (filter (is_approved board.links host) hs) (browser_hits board intent hs browser)
        ≡ filter (λ hit. cond approved (is_approved board.links host hit) (kept_for_browser board intent browser hit))
        hs
    by true browser = refl
    by false None = refl
    by false (Some browser) = refl

-- what is left out isn't kept
none_unless_kept : (keeps : Bool) (narrowing : Narrowing) → is_none (unless_kept keeps narrowing) ≡ keeps
none_unless_kept true narrowing = refl
none_unless_kept false narrowing = refl

left_out_is : (board : Board) (intent : Intent) (r : Rival) (host : Option (List ℕ))
    → IsGeneral intent board.packages r.owner r.decl
    → is_none (left_out board host r.owner (is_some_approved board intent host)
    (list_any (takes_any_host intent) r.decl.filters))
    ≡ kept board intent host (hit_of_rival r)
left_out_is board intent r None general = refl
left_out_is board intent r (Some host) general = by (is_some_approved board intent (Some host)) board.browser
  where
    any_host : Bool
    any_host = list_any (takes_any_host intent) r.decl.filters

    by : (approved : Bool) (browser : Option (List ℕ))
        → is_none (cond approved (unless_kept (approves board.links host r.owner.uid) Approved)
        (left_out_for_browser browser r.owner.name any_host))
        ≡ cond approved (is_approved board.links host (hit_of_rival r))
        (kept_for_browser board intent browser (hit_of_rival r))
    by true browser = none_unless_kept (approves board.links host r.owner.uid) Approved
    by false (Some browser) = none_unless_kept (is_same r.owner.name browser) Browser
    by false None = none_unless_kept any_host General ∙ sym (general r.place r.finding.priority)

-- no account is none, either way
abbrev no_account : List Account
no_account = []

nothing : (b : Bool) → no_account ≡ cond b no_account no_account
nothing true = refl
nothing false = refl

-- what is told with a standing of one and of others
of_one_more : (test : Standing → Bool) (account : Account) (others : List Account) {told : List Account}
    → standing_at test others ≡ told
    → standing_at test (account ∷ others) ≡ standing_at test (account ∷ []) ++ told
of_one_more test account others is =
    filter-append (λ (a : Account). test a.standing) (account ∷ []) others
    ∙ ap (λ l. standing_at test (account ∷ []) ++ l) is

-- the board under the profile
abbrev pub profiled : Board → Board
profiled board = record board { rules = Profile }

module _ (given : Board) (caller : ℕ) (intent : Intent) (required : Option (List ℕ)) where
  abbrev pub board : Board
  board = profiled given

  abbrev asked : Question
  asked = record { caller = caller; kind = Activity; intent = intent; required = required }

  -- the gate's verdict on a component that is found
  abbrev started_account : Rival → Account
  started_account r = record {
    to = Declared (component_of r.owner r.decl);
    standing = started board caller r.owner
        r.decl;
  }

  -- one of several
  abbrev tied_account : Rival → Account
  tied_account r = record { to = Declared (component_of r.owner r.decl); standing = Tied }

  -- what leaves out a component that is found
  abbrev left_out_by : Rival → Option Narrowing
  left_out_by r = left_out board (host_to_view intent) r.owner (is_some_approved board intent (host_to_view intent))
      (list_any (takes_any_host intent) r.decl.filters)

  -- a component that is found is neither left out nor outranked
  abbrev leads : Rival → Bool
  leads r =
      is_none (left_out_by r) && not (is_outranked r.finding.priority (left_by Profile board intent))

  -- of those that are found these are tied
  tied_of : (rs : List Rival)
      → standing_at is_tied (map (met_account board asked None) rs)
      ≡ cond (is_choice (target board caller intent)) (map tied_account (filter leads rs)) []
  tied_of [] = nothing (is_choice (target board caller intent))
  tied_of (r ∷ rs) =
      of_one_more is_tied (met_account board asked None r) (map (met_account board asked None) rs) (tied_of rs)
      ∙ by (left_out_by r) (is_outranked r.finding.priority (left_by Profile board intent)) (is_choice (target board caller intent))
      (rule_of (verdict board.grants caller r.owner.uid r.decl.exported r.decl.permission))
    where
      others : List Account
      others = map tied_account (filter leads rs)

      by : (narrowing : Option Narrowing) (outranked several : Bool) (rule : Option Rule)
          → standing_at is_tied (record {
            to = Declared (component_of r.owner r.decl);
            standing = unless_left_out
                narrowing (cond outranked Outranked (cond several Tied (unless_refused rule)));
          } ∷ [])
          ++ cond several others []
          ≡ cond several (map tied_account (cond (is_none narrowing && not outranked) (r ∷ filter leads rs)
          (filter leads rs))) []
      by (Some narrowing) outranked true rule = refl
      by (Some narrowing) outranked false rule = refl
      by None true true rule = refl
      by None true false rule = refl
      by None false true rule = refl
      by None false false None = refl
      by None false false (Some rule) = refl

  -- and these decided on
  decided_of : (rs : List Rival)
      → standing_at is_decided (map (met_account board asked None) rs)
      ≡ cond (is_choice (target board caller intent)) [] (map started_account (filter leads rs))
  decided_of [] = nothing (is_choice (target board caller intent))
  decided_of (r ∷ rs) =
      of_one_more is_decided (met_account board asked None r) (map (met_account board asked None) rs) (decided_of rs)
      ∙ by (left_out_by r) (is_outranked r.finding.priority (left_by Profile board intent)) (is_choice (target board caller intent))
    where
      others : List Account
      others = map started_account (filter leads rs)

      decided : standing_at is_decided (started_account r ∷ []) ≡ started_account r ∷ []
      decided = ap (λ b. cond b (started_account r ∷ []) []) (decides board caller intent required
          (rule_of (verdict board.grants caller r.owner.uid r.decl.exported r.decl.permission)))

      by : (narrowing : Option Narrowing) (outranked several : Bool)
          → standing_at is_decided (record {
            to = Declared (component_of r.owner r.decl);
            standing = unless_left_out
                narrowing (cond outranked Outranked (cond several Tied (started board caller r.owner r.decl)));
          } ∷ [])
          ++ cond several [] others
          ≡ cond several [] (map started_account (cond (is_none narrowing && not outranked) (r ∷ filter leads rs)
          (filter leads rs)))
      by (Some narrowing) outranked true = refl
      by (Some narrowing) outranked false = refl
      by None true true = refl
      by None true false = refl
      by None false true = refl
      by None false false = ap (λ l. l ++ others) decided

  -- what is known of a component that is found
  abbrev Sound : Rival → Type 0
  Sound r = (declared board.packages Activity (component_of r.owner r.decl) ≡ Some (r.owner.uid, r.decl))
      × IsGeneral intent board.packages r.owner r.decl

  leads_is : (r : Rival) → Sound r → leads r ≡ IsTop (kept board intent (host_to_view intent)) (left_by Profile board intent)
      (hit_of_rival r)
  leads_is r sound = ap (λ b. b && not (is_outranked r.finding.priority (left_by Profile board intent)))
      (left_out_is board intent r (host_to_view intent) sound.1)

  leading_hits : (rs : List Rival) → AllByRecursion Sound rs
      → map hit_of_rival (filter leads rs) ≡ filter (IsTop (kept board intent (host_to_view intent))
      (left_by Profile board intent)) (map hit_of_rival rs)
  leading_hits [] sound = refl
  leading_hits (r ∷ rs) sound =
      by (leads r) (leading_hits rs sound.1)
      ∙ ap (λ b. cond b (hit_of_rival r ∷ filter (IsTop (kept board intent (host_to_view intent))
      (left_by Profile board intent)) (map hit_of_rival rs)) (filter
      (IsTop (kept board intent (host_to_view intent)) (left_by Profile board intent)) (map hit_of_rival rs)))
      (leads_is r sound.0)
    where
      tops : List Hit
      tops = filter (IsTop (kept board intent (host_to_view intent)) (left_by Profile board intent)) (map hit_of_rival rs)

      by : (b : Bool) → map hit_of_rival (filter leads rs) ≡ tops
          → map hit_of_rival (cond b (r ∷ filter leads rs) (filter leads rs)) ≡ cond b (hit_of_rival r ∷ tops) tops
      by true e = ap (λ l. hit_of_rival r ∷ l) e
      by false e = e

  all_kept : (rs : List Rival) → AllByRecursion Sound rs → AllByRecursion Sound (filter leads rs)
  all_kept [] sound = tt
  all_kept (r ∷ rs) sound = by (leads r) (all_kept rs sound.1)
    where
      by : (b : Bool) → AllByRecursion Sound (filter leads rs) → AllByRecursion Sound
          (cond b (r ∷ filter leads rs) (filter leads rs))
      by true e = (sound.0, e)
      by false e = e

  -- the tied ones are those among which the user must choose
  tied_is : (rs : List Rival) → cond (is_choice (choice (map hit_of_rival rs))) (map tied_account rs) []
      ≡ tied_hits (choice (map hit_of_rival rs))
  tied_is [] = refl
  tied_is (r ∷ []) = refl
  tied_is (r ∷ other ∷ rs) = all (r ∷ other ∷ rs)
    where
      all : (rs : List Rival) → map tied_account rs ≡ map (λ (hit : Hit). record
          { to = Declared hit.component; standing = Tied }) (map hit_of_rival rs)
      all [] = refl
      all (r ∷ rs) = ap (λ l. tied_account r ∷ l) (all rs)

  -- the one that is decided on is the one that is reached
  pub decided_is : (rs : List Rival) → AllByRecursion Sound rs
      → cond (is_choice (choice (map hit_of_rival rs))) [] (map started_account rs)
      ≡ started_target board caller (choice (map hit_of_rival rs))
  decided_is [] sound = refl
  decided_is (r ∷ []) sound = ap (started_component board caller (component_of r.owner r.decl)) (sym sound.0.0)
  decided_is (r ∷ other ∷ rs) sound = refl

  -- what is found
  abbrev rivals : List Rival
  rivals = rivals_in (search_of board asked) board.packages

  all_sound : AreInstalled board.packages → AllByRecursion Sound rivals
  all_sound installed = both rivals
      (all_rivals (search_of board asked) (λ (p : Package) (d : Decl). declared board.packages Activity (component_of p d)
      ≡ Some (p.uid, d)) board.packages (all_known board.packages Activity installed))
      (all_rivals (search_of board asked) (IsGeneral intent board.packages) board.packages
      (each_still board.packages (all_general board.packages intent installed)))
    where
      both : (rs : List Rival) → AllByRecursion (λ (r : Rival). declared board.packages Activity
          (component_of r.owner r.decl) ≡ Some (r.owner.uid, r.decl)) rs
          → AllByRecursion (λ (r : Rival). IsGeneral intent board.packages r.owner r.decl) rs → AllByRecursion Sound rs
      both [] known general = tt
      both (r ∷ rs) known general = ((known.0, general.0), both rs known.1 general.1)

      still : (p : Package) (ds : List Decl) → AllByRecursion (IsGeneral intent board.packages p) ds
          → AllByRecursion (λ (d : Decl). d.enabled && is_kind Activity d.kind ≡ true
          → IsGeneral intent board.packages p d) ds
      still p [] a = tt
      still p (d ∷ ds) a = ((λ e. a.0), still p ds a.1)

      each_still : (ps : List Package) → AllDecls (IsGeneral intent board.packages) ps
          → AllDecls (λ (p : Package) (d : Decl). d.enabled && is_kind Activity d.kind ≡ true
          → IsGeneral intent board.packages p d) ps
      each_still [] a = tt
      each_still (p ∷ ps) a = (still p p.decls a.0, each_still ps a.1)

  -- those that lead are the hits that share the greatest priority
  leading_is : AreInstalled board.packages → map hit_of_rival (filter leads rivals) ≡ top (left_by Profile board intent)
  leading_is installed =
      let keeps = kept board intent (host_to_view intent) in
      let found = candidates (search_of board asked) board.packages in
      let cands = hits_of found in
      leading_hits rivals (all_sound installed)
      ∙ ap (filter (IsTop keeps (left_by Profile board intent))) (sym (as_hits (search_of board asked) board.packages))
      ∙ top_of keeps cands (left_by Profile board intent)
      (narrowed_is board intent (host_to_view intent) ∙ ap (filter keeps) (profile_hits found))
      (left_fall Profile board intent)

  -- the accounts of activities are those of components
  accounts_are : (test : Standing → Bool) → IsOfFound test → intent.component ≡ None
      → standing_at test (accounts board asked None) ≡ standing_at test (map (met_account board asked None) rivals)
  accounts_are test of_found none =
      ap (standing_at test) (append-nil (declared_accounts board asked None board.packages))
      ∙ of_found_in board asked test of_found board.packages
      ∙ ap (λ (component : Option Component). standing_at test (map (met_account board asked component) rivals)) none

  pub implicit_decided : AreInstalled board.packages → intent.component ≡ None
      → standing_at is_decided (accounts board asked None) ≡ started_target board caller (target board caller intent)
  implicit_decided installed none =
      let same : choice (map hit_of_rival (filter leads rivals)) ≡ target board caller intent = ap choice
      (leading_is installed) in
      accounts_are is_decided decided_found none
      ∙ decided_of rivals
      ∙ ap (λ (t : Target). cond (is_choice t) [] (map started_account (filter leads rivals))) (sym same)
      ∙ decided_is (filter leads rivals) (all_kept rivals (all_sound installed))
      ∙ ap (started_target board caller) same

  pub implicit_tied : AreInstalled board.packages → intent.component ≡ None
      → standing_at is_tied (accounts board asked None) ≡ tied_hits (target board caller intent)
  implicit_tied installed none =
      let same : choice (map hit_of_rival (filter leads rivals)) ≡ target board caller intent = ap choice
      (leading_is installed) in
      accounts_are is_tied tied_found none
      ∙ tied_of rivals
      ∙ ap (λ (t : Target). cond (is_choice t) (map tied_account (filter leads rivals)) []) (sym same)
      ∙ tied_is (filter leads rivals)
      ∙ ap tied_hits same
