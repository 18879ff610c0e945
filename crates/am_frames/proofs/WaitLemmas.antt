-- A text that more bytes can make a head either has a head of at most 64 fields before it, or 65 lines.
use Rattle.std.proofs.Common.{◌≡◌, ℕ, ◌+◌, ◌<◌, ◌≤◌, ◌==◌, true, List, [], ◌∷◌, ◌++◌, length, take, drop, refl, sym, ap, ◌∙◌, arith, append_assoc, append-nil, inl, inr}
use Rattle.std.specs.Prelude.{count_by}
use Rattle.std.specs.List.{flat_map}
use Rattle.std.proofs.lemmas.Bool.{cases_lt}
use Rattle.std.proofs.lemmas.Grind.{flat_map-append}
use Rattle.std.proofs.lemmas.List.{length-append, length-take-le, take-append-drop, take_at, take-append-le}
use Rattle.std.proofs.lemmas.List.Elements.{All-nil, All-cons, All-take}
use Rattle.std.proofs.lemmas.List.Sums.{sum_by-append}
use Rattle.std.proofs.lemmas.Str.{IsUtf8-from_ascii}
use Rattle.std.proofs.lemmas.Str.Ascii.{IsAscii-cons, IsAscii-nil}
use Rattle.httparse.specs.Ascii.{line_feed, space}
use Rattle.httparse.specs.Grammar.{LineEnd, crlf, lf, print_end, print_blank, print_version, Field, print_field, IsField, RequestHead, print_request, IsRequestHead, ReadsRequest, MayBecomeRequest, is_token_byte, is_uri_byte}
use Rattle.httparse.proofs.OpenLemmas.{letter_is_token}
use Rattle.am_frames.specs.Framing.{IsDead, MayWait}

abbrev line_feeds : List ℕ → ℕ
line_feeds text = count_by (λ b. b == line_feed) text

line_feeds-append : (a b : List ℕ) → line_feeds (a ++ b) ≡ line_feeds a + line_feeds b
line_feeds-append a b = sum_by-append _ a b

line_feeds-end : (end : LineEnd) → line_feeds (print_end end) ≡ 1
line_feeds-end crlf = refl
line_feeds-end lf = refl

length-end : (end : LineEnd) → 0 < length (print_end end)
length-end crlf = omega arith
length-end lf = omega arith

line_feeds-field : (f : Field) → 1 ≤ line_feeds (print_field f)
line_feeds-field f =
    omega (arith, line_feeds-append (f.name ++ 58 ∷ f.raw) (print_end f.end), line_feeds-end f.end)

line_feeds-fields : (fs : List Field) → length fs ≤ line_feeds (flat_map print_field fs)
line_feeds-fields [] = omega arith
line_feeds-fields (f ∷ fs) =
    omega (arith, line_feeds-append (print_field f) (flat_map print_field fs), line_feeds-field f, line_feeds-fields fs)

-- a head up to its first field
abbrev pub front : RequestHead → List ℕ
front h =
    print_blank h.blank
    ++ h.method ++ space ∷ h.target ++ space ∷ print_version h.minor ++ print_end h.line_end

-- the head with its first 64 fields alone
abbrev with_64 : RequestHead → RequestHead
with_64 h = record h { fields = take 64 h.fields }

-- the same, without the empty line at its end
abbrev lines_64 : RequestHead → List ℕ
lines_64 h = front h ++ flat_map print_field (take 64 h.fields)

pub print_request_is : (h : RequestHead) → print_request h ≡ front h
    ++ (flat_map print_field h.fields ++ print_end h.last)
unfolding print_request
print_request_is h = refl

print_with_64 : (h : RequestHead) → print_request (with_64 h) ≡ lines_64 h ++ print_end h.last
print_with_64 h =
    print_request_is (with_64 h) ∙ sym (append_assoc (front h) (flat_map print_field (take 64 h.fields))
    (print_end h.last))

print_split : (h : RequestHead)
    → print_request h ≡ lines_64 h ++ (flat_map print_field (drop 64 h.fields) ++ print_end h.last)
print_split h =
    let a = flat_map print_field (take 64 h.fields) in
    let b = flat_map print_field (drop 64 h.fields) in
    let fields : flat_map print_field h.fields ≡ a ++ b =
    ap (flat_map print_field) (sym (take-append-drop 64 h.fields))
    ∙ flat_map-append print_field (take 64 h.fields) (drop 64 h.fields) in
    print_request_is h ∙ ap (λ (t : List ℕ). front h ++ (t ++ print_end h.last)) fields
    ∙ ap (λ (t : List ℕ). front h ++ t) (append_assoc a b (print_end h.last))
    ∙ sym (append_assoc (front h) a (b ++ print_end h.last))

line_feeds-lines : (h : RequestHead) → 64 < length h.fields → 65 ≤ line_feeds (lines_64 h)
line_feeds-lines h many =
    let start = print_blank h.blank ++ h.method ++ space ∷ h.target ++ space ∷ print_version h.minor in
    omega (
      arith,
      line_feeds-append (front h) (flat_map print_field (take 64 h.fields)),
      line_feeds-append start (print_end h.line_end),
      line_feeds-end h.line_end,
      line_feeds-fields (take 64 h.fields),
      length-take-le 64 h.fields (omega arith),
    )

-- a head has bytes
pub length-print_request : (h : RequestHead) → 0 < length (print_request h)
length-print_request h =
    let section = flat_map print_field h.fields ++ print_end h.last in
    let start = print_blank h.blank ++ h.method ++ space ∷ h.target ++ space ∷ print_version h.minor in
    omega (
      arith,
      ap length (print_request_is h),
      length-append (front h) section,
      length-append start (print_end h.line_end),
      length-end h.line_end,
    )

pub print_request-some : (h : RequestHead) (rest : List ℕ) → [] ≡ print_request h ++ rest → ⊥
print_request-some h rest e =
    omega (arith, ap length e, length-append (print_request h) rest, length-print_request h)

-- one of two texts with the same bytes begins with the other
longer : (a b c d : List ℕ) → a ++ b ≡ c ++ d → length c ≤ length a → a ≡ c ++ drop (length c) a
longer a b c d e fits =
    let front_of : take (length c) a ≡ c =
    sym (take-append-le (length c) a b fits) ∙ ap (take (length c)) e ∙ take_at c d (length c) refl in
    sym (take-append-drop (length c) a) ∙ ap (λ (t : List ℕ). t ++ drop (length c) a) front_of

-- a head that more bytes make of the text
not_dead : (text more : List ℕ) (h : RequestHead) → ReadsRequest (text ++ more) h [] → length h.fields ≤ 64
    → ¬ (IsDead text)
not_dead text more h reads few dead = absurd (omega (arith, dead more h [] reads))

is_with_64 : (h : RequestHead) → IsRequestHead h → IsRequestHead (with_64 h)
is_with_64 h is = record {
  method = is.method;
  target = is.target;
  target_text = is.target_text;
  minor = is.minor;
  fields = All-take IsField 64 h.fields is.fields;
}

pub MayWait-from_head : (text more : List ℕ) (h : RequestHead) → ReadsRequest (text ++ more) h [] → MayWait text
MayWait-from_head text more h reads =
    let tail = flat_map print_field (drop 64 h.fields) ++ print_end h.last in
    let same : text ++ more ≡ lines_64 h ++ tail = reads.1 ∙ append-nil _ ∙ print_split h in
    elim (cases_lt 64 (length h.fields)) [
      | inr few ↦ inl (not_dead text more h reads few)
      | inl many ↦
          elim (cases_lt (length (lines_64 h)) (length text)) [
            | inl past ↦
                let rest = drop (length (lines_64 h)) text in
                let e = ap line_feeds (longer text more (lines_64 h) tail same (omega arith)) in
                inr (inr (omega (arith, e, line_feeds-append (lines_64 h) rest, line_feeds-lines h many)))
            | inr inside ↦
                let rest = drop (length text) (lines_64 h) in
                let whole : text ++ (rest ++ print_end h.last) ≡ print_request (with_64 h) ++ [] =
                sym (append_assoc text rest (print_end h.last))
                ∙ ap (λ (t : List ℕ). t ++ print_end h.last) (sym (longer (lines_64 h) tail text more (sym same)
                inside))
                ∙ sym (print_with_64 h) ∙ sym (append-nil _) in
                inl (not_dead text (rest ++ print_end h.last) (with_64 h) (is_with_64 h reads.0, whole)
                (omega (arith, length-take-le 64 h.fields (omega arith))))
          ]
    ]

pub MayWait-from_MayBecome : (text : List ℕ) → MayBecomeRequest text → MayWait text
MayWait-from_MayBecome text (inl h) = MayWait-from_head text h.0 h.1 h.2
MayWait-from_MayBecome text (inr target) = inr (inl target)

-- `A / HTTP/1.0`, a head of no fields
abbrev shortest : RequestHead
shortest = record {
  blank = [];
  method = 65 ∷ [];
  target = 47 ∷ [];
  minor = 0;
  line_end = lf;
  fields = [];
  last = lf;
}

is_shortest : IsRequestHead shortest
is_shortest = record {
  method = (omega arith, All-cons (λ b. is_token_byte b ≡ true) 65 [] letter_is_token (All-nil _));
  target = (omega arith, All-cons (λ b. is_uri_byte b ≡ true) 47 [] refl (All-nil _));
  target_text = IsUtf8-from_ascii _ (IsAscii-cons 47 [] (omega arith) IsAscii-nil);
  minor = omega arith;
  fields = All-nil _;
}

pub MayWait-nil : MayWait []
MayWait-nil =
    inl (not_dead [] (print_request shortest) shortest (is_shortest, sym (append-nil _)) (omega arith))
