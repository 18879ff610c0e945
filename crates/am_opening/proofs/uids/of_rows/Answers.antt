use Rattle.std.proofs.Common.{ℕ, List, max, map, not, ap, ◌∙◌, ◌==◌}
use Rattle.std.specs.Prelude.{filter}
use Rattle.std.specs.List.{fold}
use Rattle.am_keeper.specs.declared.rows.GrantRow.{GrantRow}
use Rattle.am_keeper.specs.declared.rows.LinkRow.{LinkRow}
use Rattle.am_keeper.specs.declared.rows.PackageRow.{PackageRow}
use Rattle.am_history.specs.Packages.{no_uid}
use Rattle.am_opening.proofs.Greatest.{greatest_through}
use Rattle.am_opening.proofs.uids.of_rows.Goals as goal

pub returns-clause-greatest : goal.returns-clause-greatest
returns-clause-greatest c =
    let rows = c.args.rows.now in
    let given = λ (uid : ℕ). not (uid == no_uid) in
    let packages = λ (l : List PackageRow). map (λ (row : PackageRow). row.uid) l in
    let grants = λ (l : List GrantRow). map (λ (row : GrantRow). row.uid) l in
    let links = λ (l : List LinkRow). map (λ (row : LinkRow). row.uid) l in
    c.of_rights.ensures.greatest
    ∙ ap (λ (l : List LinkRow). fold max c.of_rights-greatest.result (filter given (links l))) c.as_slice-3.ensures
    ∙ greatest_through given c.args.least c.of_packages-greatest.result c.of_rights-greatest.result
    (packages rows.packages) (grants rows.grants) (links rows.links)
    (c.of_packages-greatest.ensures.greatest ∙ ap (λ (l : List PackageRow). fold max c.args.least (packages l))
    c.as_slice.ensures)
    (c.of_rights-greatest.ensures.greatest ∙ ap (λ (l : List GrantRow). fold max c.of_packages-greatest.result
    (filter given (grants l))) c.as_slice-2.ensures)
