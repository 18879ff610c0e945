-- The loop's step: one more package, from the last one on.
use Rattle.std.proofs.Common.{◌≡◌, ℕ, ◌-◌, cond, List, get_or, Some, ap, ◌∙◌, arith, string_bytes}
use Rattle.std.proofs.lemmas.Map.Text.{btree_map_updates_text}
use Rattle.std.specs.Str.{bytes_eq}
use Rattle.am_manifest.specs.RightsHeld.{place_in}
use Rattle.am_manifest.proofs.Holders.{place_more}
use Rattle.am_manifest.proofs.rights.places_of.Goals as goal

pub loop-i-preserved : goal.loop-i-preserved
loop-i-preserved c =
    let packages = c.args.packages.now in
    let i = c.loop-i.i in
    let p = get_or packages (i - 1) c.index-packages-i.result in
    let is : p ≡ get_or packages (i - 1) p = ap (get_or packages (i - 1)) c.index-packages-i.is in
    let key = string_bytes c.in_ok-name.name in
    let named : key ≡ p.name = c.in_ok-name.ensures.ok ∙ c.as_str.ensures in
    let added = λ (name : List ℕ). btree_map_updates_text key c.loop-i.places c.insert.new.self (Some (i - 1))
    c.in_ok-insert.ensures.updates name ∙ ap (λ (bytes : List ℕ). cond (bytes_eq bytes name) (Some (i - 1))
    (place_in c.loop-i.places name)) named in
    record {
      within = omega arith;
      found = place_more packages i p c.loop-i-test.true c.loop-i.invariant.within is (place_in c.loop-i.places)
          (place_in c.insert.new.self) added c.loop-i.invariant.found;
    }
