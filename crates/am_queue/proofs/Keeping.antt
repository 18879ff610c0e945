-- Each call keeps all broadcasts sound.
use Rattle.std.proofs.Common.{◌≡◌, ℕ, ◌+◌, ◌*◌, ◌<◌, ◌≤◌, true, List, [], ◌∷◌, ◌++◌, length, arith, ◌⊎◌, inl, inr}
use Rattle.std.proofs.lemmas.List.Sums.{sum_by-cons}
use Rattle.am_model.specs.Broadcasts as broadcasts
use Rattle.am_model.specs.Broadcasts.{Broadcasts, Normal, InTurn, settled}
use Rattle.am_queue_ordered.specs.Counts.{Follows, queued_of, results_of}
use Rattle.am_queue_normal.specs.Kept.{normals_of}
use Rattle.am_queue.specs.Results.{AreRising}
use Rattle.am_queue.specs.Sound.{owed_in, has_current, ShareNumbers, IsSound, AreSound, all_of}
use Rattle.am_queue.proofs.Rising.{settled_rising}
use Rattle.am_queue.proofs.Soundness.{AreMild, settled_owes, settled_rises, settled_current}

-- each broadcast in a queue may still take a number
as_many_owed : (queue : List InTurn) → length queue ≤ owed_in queue
as_many_owed [] = omega arith
as_many_owed (b ∷ others) = rw sum_by-cons (omega (arith, as_many_owed others))

-- a delivery number is left for each broadcast in the queues
pub numbers_left : {all : Broadcasts} → IsSound all
    → all.next_delivery + length all.foreground + length all.background ≤ 1025 * 1125899906842625
numbers_left {all} sound =
    omega (arith, sound.queues.suffice, sound.broadcasts, as_many_owed all.foreground, as_many_owed all.background)

module _ (next bound : ℕ) (one other : List InTurn) (share : ShareNumbers next bound one other) where
  -- either queue is the first
  pub swapped : ShareNumbers next bound other one
  swapped = record {
    suffice = omega (arith, share.suffice);
    one_free = share.other_free;
    other_free = share.one_free;
    differ = λ number is other_is. share.differ number other_is is;
  }

  -- one of them settles
  pub one_settles : (deadline : ℕ) → ShareNumbers (settled next deadline one).next bound
      (settled next deadline one).queue other
  one_settles deadline = record {
    suffice = omega (arith, share.suffice, settled_owes next deadline one);
    one_free = λ number free is. new number free (settled_current next deadline one number is);
    other_free = λ number free is. share.other_free number (omega (arith, settled_rises next deadline one, free)) is;
    differ = λ number is other_is. apart number other_is (settled_current next deadline one number is);
  }
    where
      new : (number : ℕ) → (settled next deadline one).next ≤ number
          → (has_current number one ≡ true) ⊎ ((next ≤ number) × (number < (settled next deadline one).next)) → ⊥
      new number free (inl old) = share.one_free number (omega (arith, settled_rises next deadline one, free)) old
      new number free (inr given) = omega (arith, given.1, free)

      apart : (number : ℕ) → has_current number other ≡ true
          → (has_current number one ≡ true) ⊎ ((next ≤ number) × (number < (settled next deadline one).next)) → ⊥
      apart number is (inl old) = share.differ number old is
      apart number is (inr given) = share.other_free number given.0 is

  -- one of them changes mildly
  pub one_changes : (after : List InTurn) → AreMild one after → ShareNumbers next bound after other
  one_changes after mild = record {
    suffice = omega (arith, share.suffice, mild.owe_less);
    one_free = λ number free is. share.one_free number free (mild.current number is);
    other_free = share.other_free;
    differ = λ number is other_is. share.differ number (mild.current number is) other_is;
  }

-- all with other parts, and the queues changed mildly
pub sound_mild : (all : Broadcasts) (normal : List Normal) (foreground background : List InTurn)
    (results : List broadcasts.Result)
    → IsSound all → AreRising 0 all.next_delivery results → AreMild all.foreground foreground
    → AreMild all.background background
    → IsSound (all_of normal foreground background results all.next_broadcast all.next_delivery)
sound_mild all normal foreground background results sound rising first second = record {
  queues = swapped _ _ _ _ (one_changes _ _ _ _ (swapped _ _ _ _ (one_changes _ _ _ _ sound.queues foreground first))
      background second);
  broadcasts = sound.broadcasts;
  rising = rising;
}

-- the same, with everything that the code keeps apart from the broadcasts
pub mild : {end room room' : ℕ} {counts counts' : List (ℕ × ℕ)} {all : Broadcasts} {normal : List Normal}
    {foreground background : List InTurn} {results : List broadcasts.Result}
    → AreSound end room counts all → AreRising 0 all.next_delivery results → AreMild all.foreground foreground
    → AreMild all.background background
    → room ≤ room'
    → Follows counts counts' (λ uid. normals_of all.normal uid + results_of all.results uid)
    (λ uid. normals_of normal uid + results_of results uid)
    → AreSound end room' counts' (all_of normal foreground background results all.next_broadcast all.next_delivery)
mild sound rising first second more follows = record {
  sound = sound_mild _ _ _ _ _ sound.sound rising first second;
  counted = λ uid. omega (arith, sound.counted uid, follows uid, first.senders uid, second.senders uid);
  end_before = sound.end_before;
  results_fit = omega (arith, sound.results_fit, first.as_many, second.as_many, more);
}

-- the two queues exchanged
abbrev exchanged : Broadcasts → Broadcasts
exchanged all = record all { foreground = all.background; background = all.foreground }

-- what holds of the foreground queue holds of the background queue
pub other_way : {end room : ℕ} {counts : List (ℕ × ℕ)} {all : Broadcasts} → AreSound end room counts all
    → AreSound end room counts (exchanged all)
other_way sound = record {
  sound = record {
    queues = swapped _ _ _ _ sound.sound.queues;
    broadcasts = sound.sound.broadcasts;
    rising = sound.sound.rising;
  };
  counted = λ uid. omega (arith, sound.counted uid);
  end_before = sound.end_before;
  results_fit = omega (arith, sound.results_fit);
}

-- the foreground queue settled
pub settles : {end room room' next : ℕ} (deadline : ℕ) {counts counts' : List (ℕ × ℕ)} {all : Broadcasts}
    {queue : List InTurn} {results : List broadcasts.Result}
    → AreSound end room counts all
    → queue ≡ (settled all.next_delivery deadline all.foreground).queue
    → results ≡ all.results ++ (settled all.next_delivery deadline all.foreground).results
    → next ≡ (settled all.next_delivery deadline all.foreground).next
    → length queue + room ≤ length all.foreground + room'
    → Follows counts counts' (λ uid. queued_of all.foreground uid + results_of all.results uid)
    (λ uid. queued_of queue uid + results_of results uid)
    → AreSound end room' counts' (all_of all.normal queue all.background results all.next_broadcast next)
settles deadline {all = all} sound queue_is results_are next_is fits follows = record {
  sound = rw (queue_is, results_are, next_is) (record {
    queues = one_settles _ _ _ _ sound.sound.queues deadline;
    broadcasts = sound.sound.broadcasts;
    rising = settled_rising all.next_delivery deadline all.foreground all.results sound.sound.rising;
  });
  counted = λ uid. omega (arith, sound.counted uid, follows uid);
  end_before = omega (arith, sound.end_before, next_is, settled_rises all.next_delivery deadline all.foreground);
  results_fit = omega (arith, sound.results_fit, fits);
}
