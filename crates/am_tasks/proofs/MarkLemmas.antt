-- Components of different marks differ.
use Rattle.std.proofs.Common.{◌≡◌, ◌≢◌, Bool, true, false, refl, sym, ap}
use Rattle.std.proofs.lemmas.Bool.{and_parts}
use Rattle.std.specs.Cmp.Lexicographic.{bytes_decides}
use Rattle.am_types.specs.declared.intent.Component.{Component}
use Rattle.am_model.specs.Texts.{is_same}
use Rattle.am_model.specs.Tasks.{Instance}
use Rattle.am_model.specs.Placement.{is_of}
use Rattle.am_tasks.specs.Marks.{mark_of, mark_of_bytes}

-- an instance of a component has its mark
same_mark : (component : Component) (instance : Instance) → is_of component instance ≡ true → mark_of component
    ≡ mark_of instance.component
same_mark component instance is =
    let parts = and_parts (is_same component.«package» instance.component.«package»)
    (is_same component.class instance.component.class) is in
    let class : component.class ≡ instance.component.class = (bytes_decides component.class instance.component.class).0
    parts.1 in
    ap mark_of_bytes class

-- so one of another mark is of another component
pub other_mark : (component : Component) (instance : Instance) → mark_of instance.component ≢ mark_of component
    → is_of component instance ≡ false
other_mark component instance differs = by (is_of component instance) refl
  where
    by : (b : Bool) → is_of component instance ≡ b → b ≡ false
    by true is = absurd (differs (sym (same_mark component instance is)))
    by false is = refl
