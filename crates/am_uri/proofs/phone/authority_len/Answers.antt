use Rattle.std.proofs.Common.{rules, tests}
use Rattle.std.proofs.lemmas.Iterator.Adapters.{YieldsList-from_bytes}
use Rattle.std.proofs.lemmas.Iterator.Search.{position_from_yields_List}
use Rattle.am_model.specs.Uris.{phone_ends_authority}
use Rattle.am_uri.proofs.Cuts.{position-unwrapped}
use Rattle.am_uri.proofs.phone.authority_len.Goals as goal

pub returns : goal.returns
returns c = position-unwrapped phone_ends_authority c.args.text.now _ _ c.unwrap_or.ensures
    (position_from_yields_List phone_ends_authority _ _ c.position.result c.position.ensures.ran
    (YieldsList-from_bytes c.args.text.now c.bytes.ensures.rest) (λ x b q k. search (rules, tests)))
