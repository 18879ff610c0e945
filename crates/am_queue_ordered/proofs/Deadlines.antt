-- Laws of deadlines: something is due from the earliest deadline on, and not before it.
use Rattle.std.proofs.Common.{◌≡◌, ℕ, ◌<◌, ◌≤◌, Bool, true, false, ◌||◌, List, [], ◌∷◌, ◌++◌, map, refl, sym, ap, ◌∙◌, arith}
use Rattle.std.specs.Prelude.{min, Option, Some, None, nat_le}
use Rattle.std.specs.List.{list_any}
use Rattle.std.proofs.lemmas.Bool.{false≢true, leb-true, leb-false, le-leb, lt-leb}
use Rattle.std.proofs.lemmas.List.Folds.{list_any-append}
use Rattle.am_model.specs.Broadcasts.{Broadcasts, Normal, Delivery, InTurn, Current, is_head_due, is_delivery_due, due, head_deadline, current_deadline, deadlines_of, normal_deadlines, deadlines, earlier, earliest, earliest_deadline}

-- the moment has come, if there is one
abbrev pub has_come : ℕ → Option ℕ → Bool
has_come now None = false
has_come now (Some moment) = nat_le moment now

-- one of the moments has come
abbrev pub some_came : ℕ → List ℕ → Bool
some_came now moments = list_any (λ moment. nat_le moment now) moments

or_false : (b : Bool) → b || false ≡ b
or_false true = refl
or_false false = refl

-- the earlier of two moments has come just when one of them has
earlier_comes : (a b now : ℕ) → nat_le (min a b) now ≡ nat_le a now || nat_le b now
earlier_comes a b now = by (nat_le a now) (nat_le b now) refl refl
  where
    by : (x y : Bool) → nat_le a now ≡ x → nat_le b now ≡ y → nat_le (min a b) now ≡ x || y
    by true y one other = let before : a ≤ now = leb-true a now one in le-leb (min a b) now (omega arith)
    by false true one other = let before : b ≤ now = leb-true b now other in le-leb (min a b) now (omega arith)
    by false false one other =
        let after : now < a = leb-false a now one in
        let after' : now < b = leb-false b now other in
        lt-leb (min a b) now (omega arith)

-- or of a moment and another, if there is another
pub either_comes : (now moment : ℕ) (other : Option ℕ) → nat_le (earlier moment other) now
    ≡ nat_le moment now || has_come now other
either_comes now moment None = sym (or_false (nat_le moment now))
either_comes now moment (Some other) = earlier_comes moment other now

-- the earliest of some moments has come just when one of them has
pub earliest_comes : (now : ℕ) (moments : List ℕ) → has_come now (earliest moments) ≡ some_came now moments
earliest_comes now [] = refl
earliest_comes now (first ∷ others) = either_comes now first (earliest others)
    ∙ ap (λ b. nat_le first now || b) (earliest_comes now others)

-- the earliest of two lists together has come just when that of one of them has
pub joined_comes : (now : ℕ) (some others : List ℕ)
    → has_come now (earliest (some ++ others)) ≡ has_come now (earliest some) || has_come now (earliest others)
joined_comes now some others =
    earliest_comes now (some ++ others)
    ∙ list_any-append (λ moment. nat_le moment now) some others
    ∙ ap (λ b. b || some_came now others) (sym (earliest_comes now some))
    ∙ ap (λ b. has_come now (earliest some) || b) (sym (earliest_comes now others))

-- the head is due just when its deadline has come
head_comes : (now : ℕ) (queue : List InTurn) → some_came now (head_deadline queue) ≡ is_head_due now queue
head_comes now [] = refl
head_comes now (head ∷ others) = by head.current
  where
    by : (current : Option Current) → some_came now (current_deadline current)
        ≡ is_head_due now (record head { current = current } ∷ others)
    by None = refl
    by (Some current) = or_false (nat_le current.deadline now)

-- a delivery is due just when one of the deadlines has come
deliveries_come : (now : ℕ) (deliveries : List Delivery)
    → some_came now (map (λ (d : Delivery). d.deadline) deliveries) ≡ list_any (is_delivery_due now) deliveries
deliveries_come now [] = refl
deliveries_come now (first ∷ others) = ap (λ b. nat_le first.deadline now || b) (deliveries_come now others)

-- a normal delivery is due just when one of their deadlines has come
pub normals_come : (now : ℕ) (normal : List Normal)
    → some_came now (normal_deadlines normal) ≡ list_any (λ (n : Normal). list_any (is_delivery_due now) n.deliveries)
    normal
normals_come now [] = refl
normals_come now (first ∷ others) =
    list_any-append (λ moment. nat_le moment now) (deadlines_of first) (normal_deadlines others)
    ∙ ap (λ b. b || some_came now (normal_deadlines others)) (deliveries_come now first.deliveries)
    ∙ ap (λ b. list_any (is_delivery_due now) first.deliveries || b) (normals_come now others)

-- something is due just when the earliest deadline has come
pub due_at_earliest : (all : Broadcasts) (now : ℕ) → due all now ≡ has_come now (earliest_deadline all)
due_at_earliest all now = sym (
    earliest_comes now (deadlines all)
    ∙ list_any-append came (head_deadline all.foreground ++ head_deadline all.background) (normal_deadlines all.normal)
    ∙ ap (λ b. b || some_came now (normal_deadlines all.normal)) (list_any-append came (head_deadline all.foreground)
    (head_deadline all.background))
    ∙ ap (λ b. (b || some_came now (head_deadline all.background)) || some_came now (normal_deadlines all.normal))
    (head_comes now all.foreground)
    ∙ ap (λ b. (is_head_due now all.foreground || b) || some_came now (normal_deadlines all.normal))
    (head_comes now all.background)
    ∙ ap (λ b. (is_head_due now all.foreground || is_head_due now all.background) || b) (normals_come now all.normal))
  where
    came : ℕ → Bool
    came moment = nat_le moment now

-- two moments that have come at the same times are the same
pub same_moment : (a b : Option ℕ) → ((now : ℕ) → has_come now a ≡ has_come now b) → a ≡ b
same_moment None None same = refl
same_moment None (Some y) same = absurd (false≢true (same y ∙ le-leb y y (omega arith)))
same_moment (Some x) None same = absurd (false≢true (sym (same x) ∙ le-leb x x (omega arith)))
same_moment (Some x) (Some y) same =
    let one : x ≤ y = leb-true x y (same y ∙ le-leb y y (omega arith)) in
    let other : y ≤ x = leb-true y x (sym (same x) ∙ le-leb x x (omega arith)) in
    let is : x ≡ y = omega arith in
    ap Some is
