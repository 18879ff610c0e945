use Rattle.std.proofs.Common.{◌≡◌, false, true, nat_lt, length, Err, sym, ap, ◌∙◌, arith, rules}
use Rattle.std.proofs.lemmas.Bool.{le-ltb}
use Rattle.am_types.specs.declared.uri.UriFault.TheVariants.{BadPort}
use Rattle.am_model.specs.Uris.{has_scheme, scheme_in, rest_in, is_port_good, host_of, port_in, is_escaped, path_text, uri_of}
use Rattle.am_uri.proofs.Wholes.{uri_of-parts, passed}
use Rattle.am_uri.proofs.uri.parts.Goals as goal

pub returns-in_err-host : goal.returns-in_err-host
unfolding uri_of
returns-in_err-host c =
    let text = c.args.text.now in
    let short : nat_lt 1024 (length text) ≡ false = le-ltb 1024 _ (omega (arith, c.if-text-gt-MAX_LEN.false)) in
    let cut = passed (has_scheme text) (c.in-Some.scheme.now, c.in-Some.rest.now) (scheme_in text, rest_in text)
    c.in-Some.ensures in
    let scheme = cut.0 in
    let rest : c.in-Some.rest.now ≡ rest_in text = ap (λ both. both.1) cut.1 in
    let bad = c.in_err-host.ensures in
    let good : is_port_good (rest_in text) ≡ false = ap is_port_good (sym rest) ∙ bad.1 in
    let fault = bad.0 in
    let is : c.from_residual.result ≡ Err BadPort = search rules in
    rw (is, short, scheme, good)

pub returns : goal.returns
returns c =
    let text = c.args.text.now in
    let short : nat_lt 1024 (length text) ≡ false = le-ltb 1024 _ (omega (arith, c.if-text-gt-MAX_LEN.false)) in
    let cut = passed (has_scheme text) (c.in-Some.scheme.now, c.in-Some.rest.now) (scheme_in text, rest_in text)
    c.in-Some.ensures in
    let rest : c.in-Some.rest.now ≡ rest_in text = ap (λ both. both.1) cut.1 in
    let server = c.in_ok-host.ensures in
    let path : c.path_of-path.result.now ≡ path_text (rest_in text) = c.path_of-path.ensures ∙ ap path_text rest in
    let escaped : is_escaped (path_text (rest_in text)) ≡ true = ap is_escaped (sym path ∙ sym c.as_bytes.ensures.value)
    ∙ sym c.if-not-is_escaped.ensures in
    uri_of-parts text (record {
      scheme = c.in-Some.scheme;
      rest = c.in-Some.rest;
      host = c.in_ok-host.host;
      port = c.in_ok-host.port;
      path =
          c.path_of-path.result;
    }) short cut.0 (ap is_port_good (sym rest) ∙ server.0) escaped (ap (λ both. both.0) cut.1) rest
    (server.1 ∙ ap host_of rest) (server.2 ∙ ap port_in rest) path
