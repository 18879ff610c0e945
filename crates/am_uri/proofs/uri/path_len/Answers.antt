use Rattle.std.proofs.Common.{rules, tests}
use Rattle.std.proofs.lemmas.Iterator.Adapters.{YieldsList-from_bytes}
use Rattle.std.proofs.lemmas.Iterator.Search.{position_from_yields_List}
use Rattle.am_model.specs.Uris.{ends_path}
use Rattle.am_uri.proofs.Cuts.{position-unwrapped}
use Rattle.am_uri.proofs.uri.path_len.Goals as goal

pub returns : goal.returns
returns c = position-unwrapped ends_path c.args.text.now _ _ c.unwrap_or.ensures
    (position_from_yields_List ends_path _ _ c.position.result c.position.ensures.ran
    (YieldsList-from_bytes c.args.text.now c.bytes.ensures.rest) (λ x b q k. search (rules, tests)))
