-- What is left of the lists of an index when the spots of a uid are removed.
use Rattle.std.proofs.Common.{◌≡◌, ℕ, Bool, true, false, not, cond, List, [], ◌∷◌, Some, None, Vec, refl, sym, ap, ◌∙◌, subst}
use Rattle.std.specs.List.{IsDistinct}
use Rattle.std.specs.Map.{lookup, keys_of}
use Rattle.std.specs.Map.Calls.{RetainsPairs}
use Rattle.std.specs.declared.alloc.Global.{Global}
use Rattle.std.proofs.lemmas.Bool.{false≢true}
use Rattle.std.proofs.lemmas.Map.{lookup-none}
use Rattle.std.proofs.lemmas.Map.Entries.{none_past_head}
use Rattle.am_model.specs.Filters.{is_empty}
use Rattle.am_index.specs.declared.key.Key.{Key}
use Rattle.am_index.specs.declared.key.Spot.{Spot}
use Rattle.am_index.specs.Keys.{same_key}
use Rattle.am_index.specs.Lists.{spots_in}
use Rattle.am_index.specs.Members.{spots_without}
use Rattle.am_index.proofs.Same.{same_key_equiv}

-- a list of which nothing is left is empty
nothing : (spots : List Spot) → not (is_empty spots) ≡ false → spots ≡ []
nothing [] e = refl
nothing (x ∷ xs) e = absurd (false≢true (sym e))

module _ {F : Type 0} (T : F → Key → Vec Spot Global → Bool → Vec Spot Global → F → Type 0) (uid : ℕ) (f : F)
    (says : (k : Key) (v : Vec Spot Global) (b : Bool) (w : Vec Spot Global) (g : F) → T f k v b w g
    → (w.items ≡ spots_without v.items uid) × (b ≡ not (is_empty w.items)) × (g ≡ f)) where
  -- an entry and those after it
  entry : (e : Key × Vec Spot Global) (es rest : List (Key × Vec Spot Global)) (w : Vec Spot Global) (q : Key)
      → w.items ≡ spots_without e.1.items uid
      → (same_key q e.0 ≡ true → lookup (same_key q) es ≡ None)
      → spots_in (lookup (same_key q) rest) ≡ spots_without (spots_in (lookup (same_key q) es)) uid
      → (b s : Bool) → b ≡ not (is_empty w.items) → same_key q e.0 ≡ s
      → spots_in (lookup (same_key q) (cond b ((e.0, w) ∷ rest) rest))
      ≡ spots_without (spots_in (cond s (Some e.1) (lookup (same_key q) es))) uid
  entry e es rest w q left alone below true true some same = ap (λ t. spots_in
      (cond t (Some w) (lookup (same_key q) rest))) same ∙ left
  entry e es rest w q left alone below true false some same = ap (λ t. spots_in
      (cond t (Some w) (lookup (same_key q) rest))) same ∙ below
  entry e es rest w q left alone below false true some same =
      below ∙ ap (λ o. spots_without (spots_in o) uid) (alone same) ∙ sym (nothing w.items (sym some)) ∙ left
  entry e es rest w q left alone below false false some same = below

  -- under each key those of other uids are left
  pub dropped : (es kept : List (Key × Vec Spot Global)) → IsDistinct same_key (keys_of es) → RetainsPairs T f es kept
      → (q : Key) → spots_in (lookup (same_key q) kept) ≡ spots_without (spots_in (lookup (same_key q) es)) uid
  unfolding IsDistinct
  dropped [] kept unique h q = ap (λ l. spots_in (lookup (same_key q) l)) h
  dropped (e ∷ es) kept unique h q =
      let said = says e.0 e.1 h.0 h.1 h.2 h.4 in
      let rest = dropped es h.3 unique.1 (subst (λ g. RetainsPairs T g es h.3) said.2 h.5) q in
      ap (λ l. spots_in (lookup (same_key q) l)) h.6
      ∙ entry e es h.3 h.1 q said.0 (λ same. lookup-none (same_key q) es
      (none_past_head same_key_equiv q e es unique same)) rest h.0 (same_key q e.0) said.1 refl
