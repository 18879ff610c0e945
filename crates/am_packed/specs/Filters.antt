-- Filters as bytes.
use Rattle.std.specs.Prelude.{◌≡◌, ℕ, zero, suc, false, List, refl}
use Rattle.am_types.specs.declared.filter.Authority.{Authority}
use Rattle.am_types.specs.declared.filter.PathRule.{PathRule}
use Rattle.am_types.specs.declared.filter.PathRule.TheVariants as rules
use Rattle.am_types.specs.declared.filter.Filter.{Filter}
use Rattle.am_packed.specs.Forms.{Form, ◌and◌, ◌&◌, made_of}
use Rattle.am_packed.specs.Numbers.{number, short_number, short_whole}
use Rattle.am_packed.specs.Texts.{text}
use Rattle.am_packed.specs.Lists.{option_of, list_of}
use Rattle.am_packed.specs.Intents.{mime_form}

-- a host and its port
unfoldable pub authority_form : Form Authority
authority_form =
    made_of (text and option_of short_number) (λ x. x.host & x.port) (λ p. record { host = p.0; port = p.1 })
    (λ x. refl)

-- the number of a rule on paths
abbrev pub rule_number : PathRule → ℕ
rule_number (rules.Literal words) = 0
rule_number (rules.Prefix words) = 1
rule_number (rules.Suffix words) = 2
rule_number (rules.Pattern words) = 3

-- its text
abbrev pub rule_text : PathRule → List ℕ
rule_text (rules.Literal words) = words
rule_text (rules.Prefix words) = words
rule_text (rules.Suffix words) = words
rule_text (rules.Pattern words) = words

-- the rule of that number with that text
abbrev pub rule_of : ℕ → List ℕ → PathRule
rule_of zero words = rules.Literal words
rule_of (suc zero) words = rules.Prefix words
rule_of (suc (suc zero)) words = rules.Suffix words
rule_of (suc (suc (suc n))) words = rules.Pattern words

pub rule_back : (rule : PathRule) → rule_of (rule_number rule) (rule_text rule) ≡ rule
rule_back (rules.Literal words) = refl
rule_back (rules.Prefix words) = refl
rule_back (rules.Suffix words) = refl
rule_back (rules.Pattern words) = refl

-- a rule on paths as its number and its text
abbrev pub path_parts : Form PathRule
path_parts = made_of (number and text) (λ x. rule_number x & rule_text x) (λ p. rule_of p.0 p.1) rule_back

-- a rule on paths, which has a text and so isn't light
unfoldable pub path_form : Form PathRule
path_form = record {
  bytes = path_parts.bytes;
  read = path_parts.read;
  light = λ rule. false;
  again = path_parts.again;
}

-- a filter
unfoldable pub filter_form : Form Filter
filter_form =
    made_of (list_of text and list_of text and list_of text and list_of authority_form and list_of path_form and
    list_of mime_form and short_whole)
    (λ x. x.actions & x.categories & x.schemes & x.authorities & x.paths & x.types & x.priority)
    (λ p. record {
      actions = p.0;
      categories = p.1.0;
      schemes = p.1.1.0;
      authorities = p.1.1.1.0;
      paths = p.1.1.1.1.0;
      types = p.1.1.1.1.1.0;
      priority = p.1.1.1.1.1.1;
    })
    (λ x. refl)
