-- A broadcast that is sent keeps all broadcasts sound.
use Rattle.std.proofs.Common.{◌≡◌, ℕ, ◌+◌, ◌*◌, ◌≤◌, Bool, true, false, cond, List, [], ◌∷◌, ◌++◌, length, refl, ap, ◌∙◌, arith}
use Rattle.std.proofs.lemmas.Bool.Decides.{nat_tests}
use Rattle.std.specs.Prelude.{Option, Some, None, Ok, Err, ◌==◌, nat_le, nat_lt}
use Rattle.am_types.specs.Bounds.{greatest_number}
use Rattle.am_types.specs.declared.broadcast.SendFault.{SendFault}
use Rattle.am_types.specs.declared.broadcast.SendFault.TheVariants.{Full, TooMany}
use Rattle.am_queue.specs.Taken.{refusal_of}
use Rattle.am_types.specs.declared.broadcast.Sending.{Sending}
use Rattle.am_model.specs.Broadcasts as broadcasts
use Rattle.am_model.specs.Broadcasts.{Broadcasts, Normal, InTurn}
use Rattle.am_model.specs.Sending.{at_once, live}
use Rattle.am_queue_ordered.proofs.Counting.{count_by-append}
use Rattle.am_queue_ordered.specs.Counts.{count_of, one_for}
use Rattle.am_queue.specs.Sound.{ShareNumbers, IsSound, AreSound, all_of}
use Rattle.am_queue.proofs.Refusals.{unless_refused}
use Rattle.am_queue.proofs.Rising.{rising_further}

-- one broadcast more of a sender
one_for_it : (sender uid : ℕ) → cond (sender == uid) 1 0 ≡ one_for sender uid
one_for_it sender uid = grind (arith, nat_tests)

-- numbers that were given out
numbered : (next bound bound' count : ℕ) (one other : List InTurn) → bound + count ≤ bound'
    → ShareNumbers next bound one other → ShareNumbers (next + count) bound' one other
numbered next bound bound' count one other more share = record {
  suffice = omega (arith, share.suffice, more);
  one_free = λ number free is. share.one_free number (omega (arith, free)) is;
  other_free = λ number free is. share.other_free number (omega (arith, free)) is;
  differ = share.differ;
}

pub sound_numbered : (all : Broadcasts) (normal : List Normal) (count : ℕ) → IsSound all
    → all.next_broadcast ≤ greatest_number → count ≤ 1024
    → IsSound (all_of normal all.foreground all.background all.results (all.next_broadcast + 1)
    (all.next_delivery + count))
sound_numbered all normal count sound few short = record {
  queues = numbered all.next_delivery (1025 * all.next_broadcast) (1025 * (all.next_broadcast + 1)) count all.foreground
      all.background (omega (arith, short)) sound.queues;
  broadcasts = omega (arith, few);
  rising = rising_further 0 all.next_delivery (all.next_delivery + count) all.results (omega arith) sound.rising;
}

-- a normal broadcast that is sent
pub at_once_sound : {end room : ℕ} (first : ℕ) {counts counts' : List (ℕ × ℕ)} {all : Broadcasts} (sending : Sending)
    → AreSound end room counts all → all.next_broadcast ≤ greatest_number
    → length sending.to ≤ 1024 → ((uid : ℕ) → count_of counts' uid ≡ count_of counts uid + one_for sending.sender uid)
    → AreSound (all.next_delivery + length sending.to) room counts'
    (all_of (all.normal ++ at_once all.next_broadcast first sending ∷ []) all.foreground all.background all.results
    (all.next_broadcast + 1) (all.next_delivery + length sending.to))
at_once_sound first {all = all} sending sound few short counted = record {
  sound = sound_numbered all (all.normal ++ at_once all.next_broadcast first sending ∷ []) (length sending.to)
      sound.sound few short;
  counted = λ uid. omega (
    arith,
    counted uid,
    sound.counted uid,
    one_for_it sending.sender uid,
    count_by-append
        (λ (n : Normal). n.sender == uid) all.normal (at_once all.next_broadcast first sending ∷ []),
  );
  end_before = omega arith;
  results_fit = sound.results_fit;
}

-- the definition refuses for this reason, or sends if there is none
pub sent_unless : {X : Type 0} (all : Broadcasts) (sender receivers : ℕ) (sent : X) {reason : Option SendFault}
    → refusal_of all sender receivers ≡ reason
    → cond (nat_le 64 (live all sender)) (Err Full) (cond (nat_lt 1024 receivers) (Err TooMany) (Ok sent))
    ≡ unless_refused reason sent
sent_unless {X} all sender receivers sent is =
    by (nat_le 64 (live all sender)) (nat_lt 1024 receivers) ∙ ap (λ r. unless_refused r sent) is
  where
    by : (full many : Bool) → cond full (Err Full) (cond many (Err TooMany) (Ok sent))
        ≡ unless_refused (cond full (Some Full) (cond many (Some TooMany) None)) sent
    by true many = refl
    by false true = refl
    by false false = refl
