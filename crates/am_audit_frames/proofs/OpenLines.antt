-- Lines that end inside a target, and the empty lines before them.
use Rattle.std.proofs.Common.{◌≡◌, ◌≢◌, ℕ, ◌+◌, ◌<◌, true, List, [], ◌∷◌, ◌++◌, length, get_or, take, drop, refl, sym, ap, ◌∙◌, subst, arith, append_assoc, length-append, take-append-drop, inl, inr, Option, Some, None}
use Rattle.std.specs.Prelude.{MatchOption}
use denote.Ref.{Bor}
use Rattle.std.proofs.lemmas.Bool.{both_ways, cases_order, and_parts, and_from, ltb-true, lt-ltb}
use Rattle.std.proofs.lemmas.List.{take_at, drop_at, drop_more, get_or_at, get_or_append_left}
use Rattle.std.proofs.lemmas.List.Sums.{AllPass-from_list_all, list_all-from_AllPass}
use Rattle.httparse.specs.Ascii.{line_feed, crlf_bytes}
use Rattle.httparse.specs.Grammar.{LineEnd, crlf, lf, print_end, print_blank, AllPass, EndsInTarget, is_token, is_token_byte, is_uri_byte}
use Rattle.httparse.specs.Pieces.{Stops, is_newline}
use Rattle.httparse.proofs.PieceLemmas.{print_end_unique, newline_not_stopped, space_ends_token, Stops_token}
use Rattle.httparse.proofs.ReadLemmas.{blank_more}
use Rattle.am_audit_frames.specs.Streams.{IsOpenLine}

-- ---- a line

-- no blank stands before the place
abbrev pub HasNoBlank : List ℕ → ℕ → Type 0
HasNoBlank line at = (k : ℕ) → k < at → get_or line k 0 ≢ 32

-- the first blank stands behind the method
method_ends : (line : List ℕ) (at : ℕ) → HasNoBlank line at → at < length line → get_or line at 0 ≡ 32
    → (x : IsOpenLine line) → length x.0 ≡ at
method_ends line at before inside blank x =
    elim (cases_order (length x.0) at) [
      | inl same ↦ same
      | inr (inl short) ↦
          absurd (before (length x.0) short
          (ap (λ (t : List ℕ). get_or t (length x.0) 0) x.4 ∙ get_or_at x.0 32 x.1 0 (length x.0) refl))
      | inr (inr long) ↦
          let same : get_or x.0 at 0 ≡ 32 =
          sym (get_or_append_left x.0 (32 ∷ x.1) 0 at long) ∙ ap (λ (t : List ℕ). get_or t at 0) (sym x.4) ∙ blank in
          let token : is_token_byte 32 ≡ true = subst (λ (b : ℕ). is_token_byte b ≡ true) same (x.2.1 at 0 long) in
          absurd (both_ways (is_token_byte 32) space_ends_token token)
    ]

pub open_line_method : (line : List ℕ) (at : ℕ) → HasNoBlank line at → at < length line → get_or line at 0 ≡ 32
    → IsOpenLine line → is_token (take at line) ≡ true
open_line_method line at before inside blank x =
    let same = method_ends line at before inside blank x in
    let front : take at line ≡ x.0 = ap (take at) x.4 ∙ take_at x.0 (32 ∷ x.1) at same in
    subst (λ (m : List ℕ). is_token m ≡ true) (sym front)
    (and_from _ _ (lt-ltb 0 (length x.0) x.2.0) (list_all-from_AllPass is_token_byte x.0 x.2.1))

pub open_line_target : (line : List ℕ) (at : ℕ) → HasNoBlank line at → at < length line → get_or line at 0 ≡ 32
    → IsOpenLine line → AllPass is_uri_byte (drop (at + 1) line)
open_line_target line at before inside blank x =
    let same = method_ends line at before inside blank x in
    let rest : drop at line ≡ 32 ∷ x.1 = ap (drop at) x.4 ∙ drop_at x.0 (32 ∷ x.1) at same in
    let first = drop_more line at 0 inside in
    let back : drop (at + 1) line ≡ x.1 = cc in
    subst (AllPass is_uri_byte) (sym back) x.3

pub open_line_from : (line : List ℕ) (at : ℕ) → at < length line → get_or line at 0 ≡ 32
    → is_token (take at line) ≡ true → AllPass is_uri_byte (drop (at + 1) line) → IsOpenLine line
open_line_from line at inside blank token pass =
    let both = and_parts _ _ token in
    let rest : drop at line ≡ 32 ∷ drop (at + 1) line =
    drop_more line at 0 inside ∙ ap (λ (b : ℕ). b ∷ drop (at + 1) line) blank in (
      take at line,
      drop (at + 1) line,
      (ltb-true 0 (length (take at line)) both.0, AllPass-from_list_all is_token_byte (take at line) both.1),
      pass,
      sym (take-append-drop at line) ∙ ap (λ (t : List ℕ). take at line ++ t) rest,
    )

pub no_open_line : (line : List ℕ) → HasNoBlank line (length line) → IsOpenLine line → ⊥
no_open_line line none x =
    let size : length line ≡ length x.0 + length (32 ∷ x.1) = ap length x.4 ∙ length-append x.0 (32 ∷ x.1) in
    none (length x.0) (omega arith)
    (ap (λ (t : List ℕ). get_or t (length x.0) 0) x.4 ∙ get_or_at x.0 32 x.1 0 (length x.0) refl)

-- ---- empty lines

-- the text begins with no empty line
abbrev pub HasNoLine : List ℕ → Type 0
HasNoLine text = (end : LineEnd) (more : List ℕ) → text ≡ print_end end ++ more → ⊥

-- no empty line, neither in CR LF nor in LF
no_line : (text : List ℕ) → ((rest : List ℕ) → text ≡ crlf_bytes ++ rest → ⊥)
    → ((rest : List ℕ) → text ≡ line_feed ∷ rest → ⊥)
    → HasNoLine text
no_line text not_crlf not_lf crlf more e = not_crlf more e
no_line text not_crlf not_lf lf more e = not_lf more e

-- the second attempt decides, where the first found none
pub line_or_none : (text : List ℕ) (r : Option (Bor (List ℕ))) → ((rest : List ℕ) → text ≡ crlf_bytes ++ rest → ⊥)
    → MatchOption r ((rest : List ℕ) → text ≡ line_feed ∷ rest → ⊥) (λ x. text ≡ line_feed ∷ x.now)
    → MatchOption r (HasNoLine text) (λ x. (end : LineEnd) × (text ≡ print_end end ++ x.now))
line_or_none text None not_crlf not_lf = no_line text not_crlf not_lf
line_or_none text (Some x) not_crlf e = (lf, e)

-- one more empty line was passed
pub line_more : (text rest more : List ℕ) → ((blank : List LineEnd) × (text ≡ print_blank blank ++ rest))
    → ((end : LineEnd) × (rest ≡ print_end end ++ more)) → (blank : List LineEnd) × (text ≡ print_blank blank ++ more)
line_more text rest more before line = (
  before.0 ++ line.0 ∷ [],
  blank_more before.0 line.0 text rest more before.1 line.1,
)

blank_same : (a b : List LineEnd) (r q : List ℕ) → HasNoLine r → HasNoLine q → print_blank a ++ r ≡ print_blank b ++ q
    → r ≡ q
blank_same [] [] r q nr nq e = e
blank_same [] (y ∷ b) r q nr nq e = absurd (nr y _ (e ∙ append_assoc (print_end y) (print_blank b) q))
blank_same (x ∷ a) [] r q nr nq e = absurd (nq x _ (sym e ∙ append_assoc (print_end x) (print_blank a) r))
blank_same (x ∷ a) (y ∷ b) r q nr nq e =
    blank_same a b r q nr nq
    (print_end_unique x y _ _
    (sym (append_assoc (print_end x) (print_blank a) r) ∙ e ∙ append_assoc (print_end y) (print_blank b) q)).1

pub ends_from_line : (text rest : List ℕ) (blank : List LineEnd) → text ≡ print_blank blank ++ rest → IsOpenLine rest
    → EndsInTarget text
ends_from_line text rest blank before x = (
  blank,
  x.0,
  x.1,
  x.2,
  x.3,
  before ∙ ap (λ (t : List ℕ). print_blank blank ++ t) x.4 ∙ sym (append_assoc (print_blank blank) x.0 (32 ∷ x.1)),
)

pub line_from_ends : (text rest : List ℕ) (blank : List LineEnd) → text ≡ print_blank blank ++ rest → HasNoLine rest
    → EndsInTarget text → IsOpenLine rest
line_from_ends text rest blank before none e =
    let line = e.1 ++ 32 ∷ e.2 in
    let stops : Stops is_newline line = Stops_token e.1 (32 ∷ e.2) e.3.0 e.3.1 in
    let same : line ≡ rest =
    blank_same e.0 blank line rest (λ end more is. newline_not_stopped end more line (sym is) stops) none
    (sym (append_assoc (print_blank e.0) e.1 (32 ∷ e.2)) ∙ sym e.5 ∙ before) in
    (e.1, e.2, e.3, e.4, sym same)
