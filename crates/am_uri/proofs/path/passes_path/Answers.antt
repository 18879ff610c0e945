use Rattle.std.proofs.lemmas.Str.Pattern.{starts_text, ends_text}
use Rattle.am_uri.proofs.path.passes_path.Goals as goal

pub returns-in-Prefix : goal.returns-in-Prefix
returns-in-Prefix c =
    let test = starts_text c.starts_with.result _ _ c.starts_with.ensures.cases in
    rw c.in-Prefix.is (rw (c.as_str-in-Prefix.ensures, c.as_str-path.ensures) at test)

pub returns-in-Suffix : goal.returns-in-Suffix
returns-in-Suffix c =
    let test = ends_text c.ends_with.result _ _ c.ends_with.ensures.cases in
    rw c.in-Suffix.is (rw (c.as_str-in-Suffix.ensures, c.as_str-path.ensures) at test)
