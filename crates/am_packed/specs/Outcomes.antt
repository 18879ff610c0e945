-- Outcomes of broadcasts as bytes.
use Rattle.std.specs.Prelude.{refl}
use Rattle.am_types.specs.declared.broadcast.Outcome.{Outcome}
use Rattle.am_types.specs.declared.broadcast.Ordered.{Ordered}
use Rattle.am_packed.specs.Forms.{Form, ◌and◌, ◌&◌, made_of}
use Rattle.am_packed.specs.Numbers.{flag, whole}
use Rattle.am_packed.specs.Texts.{text}
use Rattle.am_packed.specs.Lists.{option_of, list_of}
use Rattle.am_packed.specs.Intents.{named_form}

-- the result of an ordered broadcast
unfoldable pub outcome_form : Form Outcome
outcome_form =
    made_of (whole and option_of text and list_of named_form) (λ x. x.code & x.text & x.extras)
    (λ p. record { code = p.0; text = p.1.0; extras = p.1.1 }) (λ x. refl)

-- how an ordered broadcast starts
unfoldable pub ordered_form : Form Ordered
ordered_form =
    made_of (outcome_form and flag) (λ x. x.initial & x.wanted) (λ p. record { initial = p.0; wanted = p.1 })
    (λ x. refl)
