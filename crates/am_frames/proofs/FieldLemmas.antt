-- How the fields of a name are found one after another.
use Rattle.std.proofs.Common.{◌≡◌, ℕ, ◌+◌, ◌<◌, Bool, true, false, ◌||◌, List, [], ◌∷◌, ◌++◌, length, get_or, take, drop, refl, sym, ap, ◌∙◌, cond}
use Rattle.std.specs.List.{list_any}
use Rattle.std.proofs.lemmas.Bool.{cond-true, cond-false}
use Rattle.std.proofs.lemmas.List.{append-nil, map_more, at_drop_more}
use Rattle.httparse.specs.Spans.{span_bytes, header_bytes}
use Rattle.httparse.specs.declared.spans.HeaderSpan.{HeaderSpan}
use Rattle.am_frames.specs.declared.fields.Named.{Named}
use Rattle.am_frames.specs.declared.fields.Named.TheVariants.{Absent, Once, Repeated}
use Rattle.am_frames.specs.Fields.{Header, is_named, values_of, lists_close}
use Rattle.am_frames.specs.FrameSpans.{headers_at, IsNamedBy, IsNamedWithin, with_value}

values_of-cons : (name : List ℕ) (h : Header) (hs : List Header) (t : Bool) → is_named name h ≡ t
    → values_of name (h ∷ hs) ≡ cond t (h.1 ∷ values_of name hs) (values_of name hs)
values_of-cons name h hs true e = cond-true _ _ _ e
values_of-cons name h hs false e = cond-false _ _ _ e

values_of-append : (name : List ℕ) (xs ys : List Header)
    → values_of name (xs ++ ys) ≡ values_of name xs ++ values_of name ys
values_of-append name [] ys = refl
values_of-append name (x ∷ xs) ys = by_test (is_named name x) refl (values_of-append name xs ys)
  where
    by_test : (t : Bool) → is_named name x ≡ t → values_of name (xs ++ ys) ≡ values_of name xs ++ values_of name ys
        → values_of name ((x ∷ xs) ++ ys) ≡ values_of name (x ∷ xs) ++ values_of name ys
    by_test true e rest =
        values_of-cons name x (xs ++ ys) true e ∙ ap (λ (t : List (List ℕ)). x.1 ∷ t) rest
        ∙ ap (λ (t : List (List ℕ)). t ++ values_of name ys) (sym (values_of-cons name x xs true e))
    by_test false e rest =
        values_of-cons name x (xs ++ ys) false e ∙ rest
        ∙ ap (λ (t : List (List ℕ)). t ++ values_of name ys) (sym (values_of-cons name x xs false e))

module _ (bytes name : List ℕ) (headers : List HeaderSpan) (i : ℕ) (d : HeaderSpan) (inside : i < length headers) where
  -- the values of one more field
  values_of_more : (t : Bool) → is_named name (header_bytes bytes (get_or headers i d)) ≡ t
      → values_of name (headers_at bytes (take (i + 1) headers))
      ≡ values_of name (headers_at bytes (take i headers)) ++ cond t (span_bytes bytes (get_or headers i d).value ∷ [])
      []
  values_of_more t e =
      ap (values_of name) (map_more (header_bytes bytes) headers i d inside)
      ∙ values_of-append name (headers_at bytes (take i headers)) _
      ∙ ap (λ (v : List (List ℕ)). values_of name (headers_at bytes (take i headers)) ++ v)
      (values_of-cons name (header_bytes bytes (get_or headers i d)) [] t e)

  pub IsNamedBy_other : (found : Named) → is_named name (header_bytes bytes (get_or headers i d)) ≡ false
      → IsNamedBy bytes (values_of name (headers_at bytes (take i headers))) found
      → IsNamedBy bytes (values_of name (headers_at bytes (take (i + 1) headers))) found
  IsNamedBy_other Absent e h = values_of_more false e ∙ append-nil _ ∙ h
  IsNamedBy_other (Once s) e h = values_of_more false e ∙ append-nil _ ∙ h
  IsNamedBy_other (Repeated s) e h = (h.0, h.1, values_of_more false e ∙ append-nil _ ∙ h.2)

  pub IsNamedBy_more : (found : Named) → is_named name (header_bytes bytes (get_or headers i d)) ≡ true
      → IsNamedBy bytes (values_of name (headers_at bytes (take i headers))) found
      → IsNamedBy bytes (values_of name (headers_at bytes (take (i + 1) headers)))
      (with_value found (get_or headers i d).value)
  IsNamedBy_more Absent e h =
      values_of_more true e ∙ ap (λ (v : List (List ℕ)). v ++ (span_bytes bytes (get_or headers i d).value ∷ [])) h
  IsNamedBy_more (Once s) e h = (
    span_bytes bytes (get_or headers i d).value,
    [],
    values_of_more true e ∙ ap (λ (v : List (List ℕ)). v ++ (span_bytes bytes (get_or headers i d).value ∷ [])) h,
  )
  IsNamedBy_more (Repeated s) e h = (
    h.0,
    h.1 ++ (span_bytes bytes (get_or headers i d).value ∷ []),
    values_of_more true e ∙ ap (λ (v : List (List ℕ)). v ++ (span_bytes bytes (get_or headers i d).value ∷ [])) h.2,
  )

  -- the values that are left, from one field on
  closes_more : (t : Bool) → is_named name (header_bytes bytes (get_or headers i d)) ≡ t
      → list_any lists_close (values_of name (headers_at bytes (drop i headers)))
      ≡ list_any lists_close (cond t (span_bytes bytes (get_or headers i d).value
      ∷ values_of name (headers_at bytes (drop (i + 1) headers)))
      (values_of name (headers_at bytes (drop (i + 1) headers))))
  closes_more t e =
      at_drop_more (λ (hs : List HeaderSpan). list_any lists_close (values_of name (headers_at bytes hs))) headers i d
      inside
      ∙ ap (list_any lists_close)
      (values_of-cons name (header_bytes bytes (get_or headers i d)) (headers_at bytes (drop (i + 1) headers)) t e)

  pub closes_other : is_named name (header_bytes bytes (get_or headers i d)) ≡ false
      → list_any lists_close (values_of name (headers_at bytes (drop i headers)))
      ≡ list_any lists_close (values_of name (headers_at bytes (drop (i + 1) headers)))
  closes_other e = closes_more false e

  pub closes_here : is_named name (header_bytes bytes (get_or headers i d)) ≡ true
      → lists_close (span_bytes bytes (get_or headers i d).value) ≡ true
      → list_any lists_close (values_of name (headers_at bytes (drop i headers))) ≡ true
  closes_here e close =
      closes_more true e
      ∙ ap (λ (b : Bool). b || list_any lists_close (values_of name (headers_at bytes (drop (i + 1) headers)))) close

  pub closes_not_here : is_named name (header_bytes bytes (get_or headers i d)) ≡ true
      → lists_close (span_bytes bytes (get_or headers i d).value) ≡ false
      → list_any lists_close (values_of name (headers_at bytes (drop i headers)))
      ≡ list_any lists_close (values_of name (headers_at bytes (drop (i + 1) headers)))
  closes_not_here e close =
      closes_more true e
      ∙ ap (λ (b : Bool). b || list_any lists_close (values_of name (headers_at bytes (drop (i + 1) headers)))) close

pub IsNamedWithin_more : (n : ℕ) (found : Named) (h : HeaderSpan) → IsNamedWithin n found
    → IsNamedWithin n (Once h.value)
    → IsNamedWithin n (with_value found h.value)
IsNamedWithin_more n Absent h old new = new
IsNamedWithin_more n (Once s) h old new = old
IsNamedWithin_more n (Repeated s) h old new = old
