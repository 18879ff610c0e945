use Rattle.am_wire_replies.proofs.accounts.AccountPrinted.print.Goals as goal

pub returns-in-OtherPackage : goal.returns-in-OtherPackage
returns-in-OtherPackage c = rw c.in-OtherPackage.is c.print_verdict-in-OtherPackage.ensures

pub returns-in-Outranked : goal.returns-in-Outranked
returns-in-Outranked c = rw c.in-Outranked.is c.print_verdict-in-Outranked.ensures

pub returns-in-Narrowed : goal.returns-in-Narrowed
returns-in-Narrowed c = rw c.in-Narrowed.is c.print_fields-in-Narrowed.ensures
