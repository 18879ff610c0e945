-- The parts of a host between its dots, cut from the front.
use Rattle.std.proofs.Common.{◌≡◌, ℕ, suc, not, ◌+◌, ◌<◌, Bool, true, false, ◌&&◌, cond, eqb, List, [], ◌∷◌, length, refl, sym, ap, ◌∙◌, arith, count_by}
use Rattle.std.specs.List.{slice_split, onto_first, position_or_len, before_first, after_first}
use Rattle.std.proofs.lemmas.Bool.{false≢true}
use Rattle.std.proofs.lemmas.List.Splits.{slice_split_first, length-slice_split}
use Rattle.am_model.specs.Filters.{is_empty}
use Rattle.am_model.specs.Links.{are_domain_parts, is_domain_part, is_top_part, parts_of, with_byte}

-- the byte is a dot
abbrev pub is_dot : ℕ → Bool
is_dot b = eqb b 46

same_first : (b : ℕ) (parts : List (List ℕ)) → with_byte b parts ≡ onto_first b parts
same_first b [] = refl
same_first b (first ∷ others) = refl

-- the parts are those between the dots
pub parts_are_cut : (host : List ℕ) → parts_of host ≡ slice_split is_dot host
parts_are_cut [] = refl
parts_are_cut (b ∷ others) = by (is_dot b) (parts_are_cut others)
  where
    by : (c : Bool) → parts_of others ≡ slice_split is_dot others
        → cond c ([] ∷ parts_of others) (with_byte b (parts_of others))
        ≡ cond c ([] ∷ slice_split is_dot others) (onto_first b (slice_split is_dot others))
    by true e = ap (λ l. [] ∷ l) e
    by false e = ap (with_byte b) e ∙ same_first b (slice_split is_dot others)

-- there is always one
some_part : (host : List ℕ) → is_empty (parts_of host) ≡ false
some_part [] = refl
some_part (b ∷ others) = by (is_dot b)
  where
    filled : (parts : List (List ℕ)) → is_empty (with_byte b parts) ≡ false
    filled [] = refl
    filled (first ∷ rest) = refl

    by : (c : Bool) → is_empty (cond c ([] ∷ parts_of others) (with_byte b (parts_of others))) ≡ false
    by true = refl
    by false = filled (parts_of others)

-- how many there are
pub count_of : (host : List ℕ) → length (parts_of host) ≡ count_by is_dot host + 1
count_of host = ap (length {A = List ℕ}) (parts_are_cut host) ∙ length-slice_split is_dot host

-- no dot is left
whole : (host : List ℕ) → position_or_len is_dot host ≡ length host → slice_split is_dot host ≡ host ∷ []
whole [] e = refl
whole (b ∷ others) e = by (is_dot b) e (whole others)
  where
    by : (c : Bool) → cond (not c) (1 + position_or_len is_dot others) 0 ≡ suc (length others)
        → (position_or_len is_dot others ≡ length others → slice_split is_dot others ≡ others ∷ [])
        → cond c ([] ∷ slice_split is_dot others) (onto_first b (slice_split is_dot others)) ≡ (b ∷ others) ∷ []
    by true e rest = absurd (omega (arith, e))
    by false e rest = ap (onto_first b) (rest (omega (arith, e)))

-- without a dot the host is the one part
pub one_part : (host : List ℕ) → position_or_len is_dot host ≡ length host → parts_of host ≡ host ∷ []
one_part host e = parts_are_cut host ∙ whole host e

-- the first part, and those of what follows the first dot
pub first_part : (host part others : List ℕ) → position_or_len is_dot host < length host
    → part ≡ before_first is_dot host → others ≡ after_first is_dot host → parts_of host ≡ part ∷ parts_of others
first_part host part others h front back =
    parts_are_cut host ∙ slice_split_first is_dot host 46 h
    ∙ ap (λ (l : List ℕ). l ∷ slice_split is_dot (after_first is_dot host)) (sym front)
    ∙ ap (λ (l : List ℕ). part ∷ slice_split is_dot l) (sym back)
    ∙ ap (λ l. part ∷ l) (sym (parts_are_cut others))

-- a part in front of those of a host
pub in_front : (part host : List ℕ) → are_domain_parts (part ∷ parts_of host)
    ≡ is_domain_part part && are_domain_parts (parts_of host)
in_front part host = by (parts_of host) (some_part host)
  where
    by : (parts : List (List ℕ)) → is_empty parts ≡ false
        → are_domain_parts (part ∷ parts) ≡ is_domain_part part && are_domain_parts parts
    by [] e = absurd (false≢true (sym e))
    by (next ∷ rest) e = refl

-- what is asked of the parts, where the first is followed by a dot
pub first_of_more : (host part others : List ℕ)
    → (position_or_len is_dot host < length host) × (part ≡ before_first is_dot host) × (others ≡ after_first is_dot host)
    → are_domain_parts (parts_of host) ≡ is_domain_part part && are_domain_parts (parts_of others)
first_of_more host part others cut =
    ap are_domain_parts (first_part host part others cut.0 cut.1 cut.2) ∙ in_front part others

-- and where it is the only one
pub one_of_one : (host : List ℕ) → position_or_len is_dot host ≡ length host
    → are_domain_parts (parts_of host) ≡ is_domain_part host && is_top_part host
one_of_one host none = ap are_domain_parts (one_part host none)
