-- Laws of broadcasts: what an abort and an answer change, and what the passing of time and the settling of a queue
-- leave.
use Rattle.std.proofs.Common.{◌≡◌, ℕ, ◌+◌, Bool, true, false, not, ◌&&◌, ◌||◌, cond, List, [], ◌∷◌, ◌++◌, length, map, append_assoc, refl, sym, ap, ◌∙◌}
use Rattle.std.specs.Prelude.{Option, Some, None, is_some, IsTrue, Ok, Err, nat_le, nat_lt}
use Rattle.std.specs.List.{list_any, list_all, filter}
use Rattle.std.proofs.lemmas.List.{map-append}
use Rattle.am_types.specs.declared.broadcast.Spot.{Spot}
use Rattle.am_types.specs.declared.broadcast.Sending.{Sending}
use Rattle.am_types.specs.declared.broadcast.SendFault.TheVariants.{Full, TooMany}
use Rattle.am_types.specs.declared.broadcast.Answer.{Answer}
use Rattle.am_types.specs.declared.broadcast.Outcome.{Outcome}
use Rattle.am_model.specs.Filters.{is_empty}
use Rattle.am_model.specs.Broadcasts.{Broadcasts, Normal, Delivery, InTurn, Past, Current, Doing, Answered, Late, Gone, Settled, outcome_after, fold_outcome, outcome_of, turn, turned, doings, is_abort, is_over, result_of, dispatched, with_results, settled, is_head_due, is_delivery_due, due, normals_keeping, expired}
use Rattle.am_model.specs.Sending.{strike, strike_from, strike_rest, live, with_sent, send}
use Rattle.am_model.proofs.Lists.{none_left}
use Rattle.am_model.proofs.Parts.{neither}

-- where aborts count for nothing a broadcast is over just when no receiver is left
pub abort_ends_nothing : (broadcast : InTurn) → broadcast.no_abort ≡ true → is_over broadcast ≡ is_empty broadcast.rest
abort_ends_nothing broadcast no_abort = rw no_abort (or_false (is_empty broadcast.rest))
  where
    or_false : (b : Bool) → b || false ≡ b
    or_false true = refl
    or_false false = refl

-- the doing without its abort, if it has one
abbrev pub without_abort : Doing → Doing
without_abort (Answered answer) = Answered (record answer { abort = false })
without_abort Late = Late
without_abort Gone = Gone

-- and its outcome is that of the same answers without their aborts
pub abort_sets_nothing : (outcome : Outcome) (list : List Doing) → fold_outcome outcome true list
    ≡ fold_outcome outcome true (map without_abort list)
abort_sets_nothing outcome [] = refl
abort_sets_nothing outcome (Late ∷ others) = abort_sets_nothing outcome others
abort_sets_nothing outcome (Gone ∷ others) = abort_sets_nothing outcome others
abort_sets_nothing outcome (Answered answer ∷ others) =
    rw (and_false answer.abort) (abort_sets_nothing (outcome_after outcome answer.set) others)
  where
    and_false : (b : Bool) → b && false ≡ false
    and_false true = refl
    and_false false = refl

-- the doing is an answer that sets an outcome
abbrev pub is_setting : Doing → Bool
is_setting (Answered answer) = is_some answer.set
is_setting Late = false
is_setting Gone = false

-- where nothing was set the outcome is the initial one
pub nothing_set : (outcome : Outcome) (no_abort : Bool) (list : List Doing) → list_any is_setting list ≡ false
    → fold_outcome outcome no_abort list ≡ outcome
nothing_set outcome no_abort [] none = refl
nothing_set outcome no_abort (Late ∷ others) none = nothing_set outcome no_abort others none
nothing_set outcome no_abort (Gone ∷ others) none = nothing_set outcome no_abort others none
nothing_set outcome no_abort (Answered answer ∷ others) none = by answer.set (answer.abort && not no_abort)
    (nothing_set outcome no_abort others) none
  where
    by : (set : Option Outcome) (ends : Bool) → (list_any is_setting others ≡ false
        → fold_outcome outcome no_abort others ≡ outcome) → is_some set || list_any is_setting others ≡ false
        → cond ends (outcome_after outcome set) (fold_outcome (outcome_after outcome set) no_abort others) ≡ outcome
    by None true rest none = refl
    by None false rest none = rest none
    by (Some new) ends rest none = cc

-- an answer ends the broadcast
abbrev pub ends : Bool → List Doing → Bool
ends no_abort list = not no_abort && list_any is_abort list

-- the fold of two lists one after the other: the second counts from the outcome of the first, unless that ended the
-- broadcast
pub fold_in_turn : (outcome : Outcome) (no_abort : Bool) (list others : List Doing)
    → fold_outcome outcome no_abort (list ++ others)
    ≡ cond (ends no_abort list) (fold_outcome outcome no_abort list)
    (fold_outcome (fold_outcome outcome no_abort list) no_abort others)
fold_in_turn outcome no_abort [] others = never no_abort _ _
  where
    never : (b : Bool) (x y : Outcome) → y ≡ cond (not b && false) x y
    never true x y = refl
    never false x y = refl
fold_in_turn outcome no_abort (Late ∷ list) others = fold_in_turn outcome no_abort list others
fold_in_turn outcome no_abort (Gone ∷ list) others = fold_in_turn outcome no_abort list others
fold_in_turn outcome no_abort (Answered answer ∷ list) others = by answer.abort no_abort
    (fold_in_turn (outcome_after outcome answer.set) no_abort list others)
  where
    now : Outcome
    now = outcome_after outcome answer.set

    by : (abort b : Bool) → fold_outcome now b (list ++ others) ≡ cond (ends b list) (fold_outcome now b list)
        (fold_outcome (fold_outcome now b list) b others)
        → cond (abort && not b) now (fold_outcome now b (list ++ others))
        ≡ cond (not b && (abort || list_any is_abort list)) (cond (abort && not b) now (fold_outcome now b list))
        (fold_outcome (cond (abort && not b) now (fold_outcome now b list)) b others)
    by true true rest = rest
    by true false rest = refl
    by false true rest = rest
    by false false rest = rest

-- no delivery is due: what is kept of the normal broadcasts is all
pub none_due : (now : ℕ) (deliveries : List Delivery) → list_any (is_delivery_due now) deliveries ≡ false
    → filter (λ delivery. not (is_delivery_due now delivery)) deliveries ≡ deliveries
none_due now [] none = refl
none_due now (first ∷ others) none = by (is_delivery_due now first) (none_due now others) none
  where
    by : (b : Bool) → (list_any (is_delivery_due now) others ≡ false
        → filter (λ delivery. not (is_delivery_due now delivery)) others ≡ others)
        → b || list_any (is_delivery_due now) others ≡ false
        → cond (not b) (first ∷ filter (λ delivery. not (is_delivery_due now delivery)) others)
        (filter (λ delivery. not (is_delivery_due now delivery)) others) ≡ first ∷ others
    by true rest none = cc
    by false rest none = ap (λ kept. first ∷ kept) (rest none)

-- each normal broadcast has a delivery left
abbrev pub AreLive : List Normal → Type 0
AreLive normal = IsTrue (list_all (λ (n : Normal). not (is_empty n.deliveries)) normal)

-- a queue whose head, if there is one, isn't over and has a delivery
abbrev pub IsSettled : List InTurn → Type 0
IsSettled [] = Unit {0}
IsSettled (head ∷ others) = (is_over head ≡ false) × (is_some head.current ≡ true)

-- a queue that settled is settled
pub settled_is_settled : (next deadline : ℕ) (queue : List InTurn) → IsSettled (settled next deadline queue).queue
settled_is_settled next deadline [] = tt
settled_is_settled next deadline (head ∷ others) =
    by (is_over head) refl (settled_is_settled (next + length (result_of next head)) deadline others)
  where
    after : Settled
    after = settled (next + length (result_of next head)) deadline others

    begun : (current : Option Current) → is_over head ≡ false → head.current ≡ current
        → IsSettled (dispatched next deadline head others current).queue
    begun None on is = (on, refl)
    begun (Some current) on is = (on, ap is_some is)

    by : (b : Bool) → is_over head ≡ b → IsSettled after.queue → IsSettled
        (cond b (with_results (result_of next head) after) (dispatched next deadline head others head.current)).queue
    by true is rest = rest
    by false is rest = begun head.current is refl

-- and settling it again changes nothing
pub settled_stays : (next deadline : ℕ) (queue : List InTurn) → IsSettled queue → settled next deadline queue
    ≡ record { queue = queue; results = []; next = next }
settled_stays next deadline [] ready = refl
settled_stays next deadline (head ∷ others) ready = rw ready.0 (begun head.current refl ready.1)
  where
    begun : (current : Option Current) → head.current ≡ current → is_some current ≡ true
        → dispatched next deadline head others current ≡ record { queue = head ∷ others; results = []; next = next }
    begun None is some = cc
    begun (Some current) is some = refl

-- no normal delivery is due: all stay
pub normals_stay : (now : ℕ) (normal : List Normal) → AreLive normal
    → list_any (λ (n : Normal). list_any (is_delivery_due now) n.deliveries) normal ≡ false
    → normals_keeping (λ delivery. not (is_delivery_due now delivery)) normal ≡ normal
normals_stay now [] live none = refl
normals_stay now (first ∷ others) live none =
    let parts = neither (list_any (is_delivery_due now) first.deliveries)
    (list_any (λ (n : Normal). list_any (is_delivery_due now) n.deliveries) others) none in
    rw (none_due now first.deliveries parts.0) (by (is_empty first.deliveries) live
    (λ l. normals_stay now others l parts.1))
  where
    kept : List Normal
    kept = normals_keeping (λ delivery. not (is_delivery_due now delivery)) others

    by : (b : Bool) → IsTrue (not b && list_all (λ (n : Normal). not (is_empty n.deliveries)) others)
        → (AreLive others → kept ≡ others) → cond (not b) (first ∷ kept) kept ≡ first ∷ others
    by true live rest = cc
    by false live rest = ap (λ l. first ∷ l) (rest live)

-- at a moment at which nothing is due the passing of time changes nothing
pub nothing_expires : (all : Broadcasts) (now : ℕ) → AreLive all.normal → due all now ≡ false → expired all now ≡ all
nothing_expires all now live none =
    let heads = neither (is_head_due now all.foreground || is_head_due now all.background)
    (list_any (λ (n : Normal). list_any (is_delivery_due now) n.deliveries) all.normal) none in
    let both = neither (is_head_due now all.foreground) (is_head_due now all.background) heads.0 in
    rw (both.0, both.1) (ap (λ (normal : List Normal). record all { normal = normal })
    (normals_stay now all.normal live heads.1))

-- the doings of a list, one of which follows the others
doings_and_one : (past : List Past) (last : Past) → map (λ (p : Past). p.doing) (past ++ last ∷ [])
    ≡ map (λ (p : Past). p.doing) past ++ last.doing ∷ []
doings_and_one past last = map-append (λ (p : Past). p.doing) past (last ∷ [])

-- a doing that sets nothing leaves the outcome
leaves_outcome : (doing : Doing) → is_setting doing ≡ false → (broadcast : InTurn) → outcome_of (turn doing broadcast)
    ≡ outcome_of broadcast
leaves_outcome doing sets broadcast = by broadcast.rest
  where
    so_far : Outcome
    so_far = outcome_of broadcast

    either : (b : Bool) (last : Outcome) → last ≡ so_far → cond b so_far last ≡ so_far
    either true last same = refl
    either false last same = same

    alone : list_any is_setting (doing ∷ []) ≡ false
    alone = rw sets refl

    by : (rest : List Spot) → outcome_of (turned doing broadcast rest) ≡ so_far
    by [] = refl
    by (spot ∷ others) =
        ap (fold_outcome broadcast.initial broadcast.no_abort) (doings_and_one broadcast.past
        (record { spot = spot; doing = doing }))
        ∙ fold_in_turn broadcast.initial broadcast.no_abort (doings broadcast) (doing ∷ [])
        ∙ either (ends broadcast.no_abort (doings broadcast)) _ (nothing_set so_far broadcast.no_abort (doing ∷ [])
        alone)

-- a late receiver leaves the outcome
pub late_leaves_outcome : (broadcast : InTurn) → outcome_of (turn Late broadcast) ≡ outcome_of broadcast
late_leaves_outcome broadcast = leaves_outcome Late refl broadcast

-- one that went away leaves it
pub gone_leaves_outcome : (broadcast : InTurn) → outcome_of (turn Gone broadcast) ≡ outcome_of broadcast
gone_leaves_outcome broadcast = leaves_outcome Gone refl broadcast

-- and so does one that answers without an outcome
pub plain_leaves_outcome : (answer : Answer) (broadcast : InTurn) → answer.set ≡ None
    → outcome_of (turn (Answered answer) broadcast) ≡ outcome_of broadcast
plain_leaves_outcome answer broadcast plain = leaves_outcome (Answered answer) (ap is_some plain) broadcast

-- the receivers of an ordered broadcast, past and left
abbrev pub spots_of : InTurn → List Spot
spots_of broadcast = map (λ (p : Past). p.spot) broadcast.past ++ broadcast.rest

-- a turn moves the first that is left to those that are past: all stay in their order
pub turn_keeps_order : (doing : Doing) (broadcast : InTurn) → spots_of (turn doing broadcast) ≡ spots_of broadcast
turn_keeps_order doing broadcast = by broadcast.rest refl
  where
    spots : List Spot
    spots = map (λ (p : Past). p.spot) broadcast.past

    by : (rest : List Spot) → broadcast.rest ≡ rest → spots_of (turned doing broadcast rest) ≡ spots ++ broadcast.rest
    by [] is = refl
    by (spot ∷ others) is =
        ap (λ l. l ++ others) (map-append (λ (p : Past). p.spot) broadcast.past
        (record { spot = spot; doing = doing } ∷ []))
        ∙ append_assoc spots (spot ∷ []) others
        ∙ ap (λ l. spots ++ l) (sym is)

-- no receiver that was struck is left
pub struck_are_not_left : (struck : Spot → Bool) (broadcast : InTurn) → list_any struck (strike struck broadcast).rest
    ≡ false
struck_are_not_left struck broadcast = by broadcast.rest broadcast.current refl
  where
    either : (b : Bool) (x y : InTurn) → list_any struck x.rest ≡ false → list_any struck y.rest ≡ false
        → list_any struck (cond b x y).rest ≡ false
    either true x y first second = first
    either false x y first second = second

    by : (rest : List Spot) (current : Option Current) → broadcast.rest ≡ rest
        → list_any struck (strike_from struck broadcast rest current).rest ≡ false
    by rest None is = none_left struck broadcast.rest
    by [] (Some current) is = ap (list_any struck) is
    by (spot ∷ others) (Some current) is =
        either (struck spot) (strike_rest struck (turn Gone broadcast)) (strike_rest struck broadcast)
        (none_left struck (turn Gone broadcast).rest) (none_left struck broadcast.rest)

-- a broadcast that is sent has the next number
pub sent_is_next : (all after : Broadcasts) (sending : Sending) (number : ℕ) → send all sending ≡ Ok (number, after)
    → number ≡ all.next_broadcast
unfolding send
sent_is_next all after sending number done = by (nat_le 64 (live all sending.sender)) (nat_lt 1024 (length sending.to))
    done
  where
    sent : ℕ × Broadcasts
    sent = (all.next_broadcast, with_sent all sending sending.ordered)

    by : (full many : Bool) → cond full (Err Full) (cond many (Err TooMany) (Ok sent)) ≡ Ok (number, after) → number
        ≡ all.next_broadcast
    by true many done = absurd cc
    by false true done = absurd cc
    by false false done = let e : sent ≡ (number, after) = cc in ap (λ (p : ℕ × Broadcasts). p.0) (sym e)
