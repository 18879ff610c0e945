-- A text with its parts against the definition of a URI.
use Rattle.std.proofs.Common.{◌≡◌, ℕ, true, false, List, length, nat_lt, Bool, Some, None, if◌then◌else◌, refl}
use Rattle.std.specs.Option.{option_copied}
use Rattle.am_model.specs.Uris.{has_scheme, scheme_in, rest_in, path_text, is_escaped, is_port_good, host_of, port_in, uri_of}
use Rattle.am_uri.specs.declared.uri.Written.{Written}
use Rattle.am_uri.specs.Lent.{decoded}

-- a text that passes all tests but the last is the URI of its parts, or has a path that isn't UTF-8
pub uri_of-parts : (text : List ℕ) (parts : Written) → nat_lt 1024 (length text) ≡ false → has_scheme text ≡ true
    → is_port_good (rest_in text) ≡ true → is_escaped (path_text (rest_in text)) ≡ true
    → parts.scheme.now ≡ scheme_in text → parts.rest.now ≡ rest_in text → option_copied parts.host ≡ host_of (rest_in text) → parts.port
    ≡ port_in (rest_in text) → parts.path.now ≡ path_text (rest_in text) → uri_of text ≡ decoded text parts
unfolding uri_of
uri_of-parts text parts short scheme good escaped scheme_is rest_is host_is port_is path_is = rw
    (short, scheme, good, escaped, scheme_is, rest_is, host_is, port_is, path_is)

-- what a test let through
pub passed : {A : Type 0} (test : Bool) (a b : A) → Some a ≡ (if test then Some b else None) → (test ≡ true) × (a ≡ b)
passed true a b h = (refl, cc)
passed false a b h = absurd (let e = h in cc)
