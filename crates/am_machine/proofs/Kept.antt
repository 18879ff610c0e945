-- What the keeper tells after a call.
use Rattle.std.proofs.Common.{
  ◌≡◌,
  ℕ,
  Bool,
  true,
  false,
  true≢false,
  arith,
  not,
  ◌&&◌,
  ◌||◌,
  List,
  [],
  Option,
  Some,
  None,
  Result,
  Ok,
  Err,
  refl,
  sym,
  ap,
  ◌∙◌,
  subst,
  IsTrue,
  inl,
}
use Rattle.std.specs.Prelude.{if◌then◌else◌, IfOk, OnErr}
use Rattle.std.specs.Option.{option_map}
use Rattle.am_types.specs.declared.failure.NoMemory.{NoMemory}
use Rattle.am_types.specs.declared.history.Entry.{Entry}
use Rattle.am_types.specs.declared.request.Request.{Request}
use Rattle.am_types.specs.declared.request.Request.TheVariants as asks
use Rattle.am_types.specs.declared.reply.Reply.{Reply}
use Rattle.am_types.specs.declared.reply.Reply.TheVariants.{Refused}
use Rattle.am_types.specs.declared.rule.Rule.{Rule}
use Rattle.am_types.specs.declared.rule.Rule.TheVariants.{KeeperFault}
use Rattle.am_keeper.specs.declared.keeper.Keeper.{Ghosts}
use Rattle.am_keeper.specs.declared.rows.Row.{Row}
use Rattle.am_keeper.specs.declared.rows.Rows.{Rows}
use Rattle.am_keeper.specs.Rows.{with_row}
use Rattle.am_keeper.specs.Keeping.{raised_by}
use Rattle.am_history.specs.State.{State}
use Rattle.am_history.specs.Steps.{act, after_due, asks_keeper, at_moment, class_of, due, has_row, is_changing, is_refusal, keeps_row, may_change_by, moment_after, step, Class}
use Rattle.am_history.specs.Steps.Class.{Reads, Changes, Keeps}
use Rattle.am_history.specs.History.{may_change}
use Rattle.am_history.specs.Kept.{row_of}
use Rattle.am_laws.proofs.Faults.{act_never_faults}
use Rattle.am_live_packages.specs.declared.change.Change.{Change}
use Rattle.am_live_packages.specs.declared.change.Change.TheVariants as changes
use Rattle.am_live_packages.specs.Changes.{changed, IsAccepted, IsRefusedBy}
use Rattle.am_machine.specs.declared.keeping.Answered.{Answered}
use Rattle.am_machine.specs.Keeping.{
  AsksAtMostOnce,
  AsksOnce,
  GoesOn,
  Leaves,
  LeavesUnmade,
  Replied,
  TellsSame,
  is_asked,
  is_keeper_fault,
  told_after,
  with_any,
  with_kept,
}

-- a request that keeps no row has none
pub has_no_row : (state : State) (request : Request) → keeps_row request ≡ false → row_of state request ≡ None
has_no_row state (asks.Install text key) rowless = absurd (true≢false rowless)
has_no_row state (asks.Uninstall name) rowless = absurd (true≢false rowless)
has_no_row state (asks.Grant name permission held) rowless = absurd (true≢false rowless)
has_no_row state (asks.Link name host approved) rowless = absurd (true≢false rowless)
has_no_row state _ rowless = refl

-- a request that changes nothing keeps no row
pub reads_keep_nothing : (request : Request) → is_changing request ≡ false → keeps_row request ≡ false
reads_keep_nothing request = by (class_of request)
  where
    by : (class : Class) → may_change_by class ≡ false → has_row class ≡ false
    by Reads reads = refl
    by Changes reads = refl
    by Keeps reads = absurd (true≢false reads)

-- a call that may not change the state at its moment only reads
pub only_reads : (state : State) (now : ℕ) (request : Request) → may_change state now request ≡ false
    → is_changing request ≡ false
only_reads state now request none = by (is_changing request) (due state now) none
  where
    by : (changing is_due : Bool) → (changing || is_due) ≡ false → changing ≡ false
    by false is_due none = refl
    by true is_due none = none

-- without a row all is told as before
same_rows : (told : Option Rows) → told ≡ option_map (with_any None) told
same_rows None = refl
same_rows (Some rows) = refl

pub told_as_before : (state : State) (request : Request) (reply : Reply) (told : Option Rows) → row_of state request
    ≡ None
    → told ≡ told_after state request reply told
told_as_before state request reply told none = by (is_refusal reply)
  where
    by : (b : Bool) → told ≡ (if b then told else option_map (with_any (row_of state request)) told)
    by true = refl
    by false = same_rows told ∙ ap (λ (row : Option Row). option_map (with_any row) told) (sym none)

-- a change isn't answered by a refusal
pub changed_is_accepted : (change : Change) (state : State) → is_refusal (changed change state).0 ≡ false
changed_is_accepted (changes.Install owner) state = refl
changed_is_accepted (changes.Uninstall uid) state = refl
changed_is_accepted (changes.Right right) state = refl

-- a call that is refused at its moment
pub refused_step : (rule : Rule) (state new : State) (before : List Entry) (entry : Entry) (moment : ℕ)
    → IsRefusedBy rule state entry.uid entry.request → moment ≡ moment_after state entry.now → new
    ≡ at_moment state moment
    → step state before (with_kept entry true) ≡ (Refused rule, new)
refused_step rule state new before entry moment refuses is settled =
    subst (λ (m : ℕ). act (at_moment state m) before entry.uid entry.request ≡ (Refused rule, at_moment state m)) is
    (refuses moment before)
    ∙ ap (λ (m : ℕ). (Refused rule, at_moment state m)) (sym is)
    ∙ ap (λ (s : State). (Refused rule, s)) (sym settled)

-- a call whose change was made, or whose row wasn't kept
abbrev pub Made : Change → State → State → ℕ → Reply → Bool → Type 0
Made change state new moment reply kept =
    (if kept then changed change (at_moment state moment) else (Refused KeeperFault, at_moment state moment))
    ≡ (reply, new)

pub made_step : (change : Change) (row : Row) (state new : State) (before : List Entry) (entry : Entry) (moment : ℕ)
    (reply : Reply) (kept : Bool)
    → IsAccepted change row state entry.uid entry.request → moment ≡ moment_after state entry.now
    → Made change state new moment reply kept
    → step state before (with_kept entry kept) ≡ (reply, new)
made_step change row state new before entry moment reply kept accepted is made =
    by kept (subst (λ (m : ℕ). Made change state new m reply kept) is made)
  where
    by : (b : Bool) → Made change state new (moment_after state entry.now) reply b
        → step state before (with_kept entry b) ≡ (reply, new)
    by true was = accepted.done (moment_after state entry.now) before ∙ was
    by false was = was

-- the keeper was asked for it
pub made_asks : (change : Change) (row : Row) (state : State) (before : List Entry) (entry : Entry) (kept : Bool)
    → IsAccepted change row state entry.uid entry.request → keeps_row entry.request ≡ true
    → IsTrue (kept || asks_keeper (after_due state entry.now) before entry.uid entry.request)
made_asks change row state before entry true accepted keeps = refl
made_asks change row state before entry false accepted keeps =
    ap (λ (b : Bool). if b then (if is_refusal answered then false else true) else false) keeps
    ∙ ap (λ (b : Bool). if b then false else true) (ap (λ (answer : Reply × State). is_refusal answer.0)
    (accepted.done (moment_after state entry.now) before)
    ∙ changed_is_accepted change (after_due state entry.now))
  where
    answered : Reply
    answered = (act (after_due state entry.now) before entry.uid entry.request).0

-- and tells its row if it kept it
pub made_told : (change : Change) (row : Row) (state new : State) (entry : Entry) (moment : ℕ) (reply : Reply)
    (kept : Bool) (old now : Option Rows)
    → IsAccepted change row state entry.uid entry.request → Made change state new moment reply kept
    → now ≡ (if kept then option_map (λ told. with_row told row) old else old)
    → now ≡ told_after state entry.request reply old
made_told change row state new entry moment reply true old now accepted made tells =
    tells ∙ ap (λ (r : Option Row). option_map (with_any r) old) (sym accepted.kept)
    ∙ ap (λ (b : Bool). if b then old else option_map (with_any (row_of state entry.request)) old)
    (sym (ap (λ (answer : Reply × State). is_refusal answer.0) (sym made)
    ∙ changed_is_accepted change (at_moment state moment)))
made_told change row state new entry moment reply false old now accepted made tells =
    tells ∙ ap (λ (answer : Reply × State). if is_refusal answer.0 then old else option_map
    (with_any (row_of state entry.request)) old) made

-- the same of what was answered
pub made_done : (change : Change) (row : Row) (state new : State) (entry : Entry) (moment : ℕ)
    (made : Result Answered NoMemory)
    → IsAccepted change row state entry.uid entry.request → moment ≡ moment_after state entry.now
    → IfOk made (λ (answered : Answered). Made change state new moment answered.reply answered.kept)
    → IfOk made (λ (answered : Answered). (before : List Entry) → step state before (with_kept entry answered.kept)
    ≡ (answered.reply, new))
made_done change row state new entry moment (Ok answered) accepted is made =
    λ (before : List Entry). made_step change row state new before entry moment answered.reply answered.kept accepted is
    made
made_done change row state new entry moment (Err error) accepted is made = tt

pub made_asked : (change : Change) (row : Row) (state : State) (entry : Entry) (made : Result Answered NoMemory)
    → IsAccepted change row state entry.uid entry.request → keeps_row entry.request ≡ true
    → IfOk made (λ (answered : Answered). (before : List Entry) → IsTrue
    (answered.kept || asks_keeper (after_due state entry.now) before entry.uid entry.request))
made_asked change row state entry (Ok answered) accepted keeps =
    λ (before : List Entry). made_asks change row state before entry answered.kept accepted keeps
made_asked change row state entry (Err error) accepted keeps = tt

-- what was made is answered neither by a refusal nor, if its row was kept, by a fault
not_refused : (change : Change) (state new : State) (moment : ℕ) (reply : Reply) (kept : Bool)
    → Made change state new moment reply kept
    → is_refusal reply ≡ true → (reply ≡ Refused KeeperFault → ⊥) → ⊥
not_refused change state new moment reply true made refused other =
    true≢false (sym refused ∙ sym (ap (λ (answer : Reply × State). is_refusal answer.0) made)
    ∙ changed_is_accepted change (at_moment state moment))
not_refused change state new moment reply false made refused other = other
    (sym (ap (λ (answer : Reply × State). answer.0) made))

-- and if it isn't, its row was kept
was_kept : (change : Change) (state new : State) (moment : ℕ) (reply : Reply) (kept : Bool)
    → Made change state new moment reply kept → (reply ≡ Refused KeeperFault → ⊥) → kept ≡ true
was_kept change state new moment reply true made other = refl
was_kept change state new moment reply false made other = absurd
    (other (sym (ap (λ (answer : Reply × State). answer.0) made)))

-- a reply that isn't the keeper's fault isn't one by its test either
not_fault : (reply : Reply) → (reply ≡ Refused KeeperFault → ⊥) → is_keeper_fault reply ≡ false
not_fault (Refused KeeperFault) other = absurd (other refl)
not_fault _ other = refl

-- a keeper that isn't asked made no put for a call that asks for none
pub asks_none : {K : Type 0} (g : Ghosts K) (request : Request) (reply : Reply) (keeper : K)
    → is_asked request reply ≡ false → AsksOnce g request reply keeper keeper
asks_none g request reply keeper none = ap (λ (b : Bool). if b then raised_by 1 (g.puts keeper) else g.puts keeper)
    (sym none)

-- a call that keeps no row asks for none
pub keeps_none : (request : Request) (reply : Reply) → keeps_row request ≡ false → is_asked request reply ≡ false
keeps_none request reply none = ap (λ (b : Bool). (not (is_refusal reply) || is_keeper_fault reply) && b) none
    ∙ by (not (is_refusal reply) || is_keeper_fault reply)
  where
    by : (b : Bool) → (b && false) ≡ false
    by true = refl
    by false = refl

-- nor does one that is refused by another rule than the keeper's fault
pub refused_none : (request : Request) (rule : Rule) → (Refused rule ≡ Refused KeeperFault → ⊥)
    → is_asked request (Refused rule) ≡ false
refused_none request rule other = ap (λ (b : Bool). b && keeps_row request) (not_fault (Refused rule) other)

-- and no request is refused by that one itself
refused_other : (rule : Rule) (state : State) (caller : ℕ) (request : Request) → IsRefusedBy rule state caller request
    → Refused rule ≡ Refused KeeperFault → ⊥
refused_other rule state caller request refuses fault =
    act_never_faults (at_moment state 0) [] caller request
    (ap (λ (answer : Reply × State). answer.0) (refuses 0 []) ∙ fault)

-- what a call leaves of a keeper that isn't asked for it
pub leaves_same : {K : Type 0} (g : Ghosts K) (call : Replied) (keeper : K)
    → g.rows keeper ≡ told_after call.state call.request call.reply (g.rows keeper)
    → is_asked call.request call.reply ≡ false → Leaves g call keeper keeper
leaves_same g call keeper told none = record {
  put = λ (honest : g.is_honest keeper). told;
  unasked = λ refused other. refl;
  counts = λ other. refl;
  asks = asks_none g call.request call.reply keeper none;
}

-- since it keeps no row
pub leaves_rowless : {K : Type 0} (g : Ghosts K) (call : Replied) (keeper : K) → keeps_row call.request ≡ false
    → Leaves g call keeper keeper
leaves_rowless g call keeper rowless =
    leaves_same g call keeper
    (told_as_before call.state call.request call.reply (g.rows keeper) (has_no_row call.state call.request rowless))
    (keeps_none call.request call.reply rowless)

-- or is refused
pub leaves_refused : {K : Type 0} (g : Ghosts K) (rule : Rule) (state : State) (caller : ℕ) (request : Request)
    (keeper : K) → IsRefusedBy rule state caller request
    → Leaves g (record { state = state; request = request; reply = Refused rule }) keeper keeper
leaves_refused g rule state caller request keeper refuses =
    leaves_same g (record { state = state; request = request; reply = Refused rule }) keeper refl
    (refused_none request rule (refused_other rule state caller request refuses))

-- or wasn't made
pub leaves_unmade : {K : Type 0} (g : Ghosts K) (keeper : K) → LeavesUnmade g keeper keeper
leaves_unmade g keeper =
    record { rows = λ (honest : g.is_honest keeper). refl; uncounted = refl; asks = inl refl }

-- what is known anyway is known of an answer, and if there is none
pub whatever : {P : Type 0} (made : Result Answered NoMemory) → P → IfOk made (λ (answered : Answered). P)
whatever (Ok answered) known = known
whatever (Err error) known = tt

pub otherwise : {X P : Type 0} (made : Result X NoMemory) → P → OnErr made P
otherwise (Ok answered) known = tt
otherwise (Err error) known = known

-- a call whose change was planned asks the keeper
made_is_asked : (change : Change) (state new : State) (moment : ℕ) (reply : Reply) (kept : Bool) (request : Request)
    → Made change state new moment reply kept → keeps_row request ≡ true → is_asked request reply ≡ true
made_is_asked change state new moment reply true request made keeps =
    let accepted : is_refusal reply ≡ false = sym (ap (λ (answer : Reply × State). is_refusal answer.0) made)
    ∙ changed_is_accepted change (at_moment state moment) in
    rw (accepted, keeps)
made_is_asked change state new moment reply false request made keeps =
    rw (sym (ap (λ (answer : Reply × State). answer.0) made), keeps)

-- what such a call leaves of the keeper
pub made_leaves : {K : Type 0} (g : Ghosts K) (change : Change) (row : Row) (state new : State) (entry : Entry)
    (moment : ℕ) (made : Result Answered NoMemory) (old now : K)
    → IsAccepted change row state entry.uid entry.request → keeps_row entry.request ≡ true
    → IfOk made (λ (answered : Answered). Made change state new moment answered.reply answered.kept)
    → IfOk made (λ (answered : Answered). g.is_honest now →
    g.rows now ≡ (if answered.kept then option_map (λ told. with_row told row) (g.rows old) else g.rows old))
    → IfOk made (λ (answered : Answered). answered.kept ≡ true → g.faults now ≡ g.faults old)
    → IfOk made (λ (answered : Answered). g.puts now ≡ raised_by 1 (g.puts old))
    → IfOk made (λ (answered : Answered). Leaves g
    (record { state = state; request = entry.request; reply = answered.reply }) old now)
made_leaves g change row state new entry moment (Ok answered) old now accepted keeps is tells counts once = record {
  put = λ (honest : g.is_honest now). made_told change row state new entry moment answered.reply answered.kept
      (g.rows old) (g.rows now) accepted is (tells honest);
  unasked = λ refused other. absurd
      (not_refused change state new moment answered.reply answered.kept is refused other);
  counts = λ other. counts (was_kept change state new moment answered.reply answered.kept is other);
  asks = rw (made_is_asked change state new moment answered.reply answered.kept entry.request is keeps) once;
}
made_leaves g change row state new entry moment (Err error) old now accepted keeps is tells counts once = tt

-- what is known of a keeper after a call that isn't made
pub unmade_leaves : {K X : Type 0} (g : Ghosts K) (made : Result X NoMemory) (old now : K)
    → OnErr made (TellsSame g old now) → OnErr made (g.faults now ≡ g.faults old)
    → OnErr made (AsksAtMostOnce g old now) → OnErr made (LeavesUnmade g old now)
unmade_leaves g (Ok answered) old now rows uncounted asks = tt
unmade_leaves g (Err error) old now rows uncounted asks =
    record { rows = rows; uncounted = uncounted; asks = asks }
