use Rattle.am_wire_replies.proofs.items.ItemPrinted.print.Goals as goal

pub returns-in-Normal : goal.returns-in-Normal
returns-in-Normal c = rw c.in-Normal.is c.print_fields.ensures

pub returns-in-InOrder : goal.returns-in-InOrder
returns-in-InOrder c = rw c.in-InOrder.is c.print_fields-in-InOrder.ensures

pub returns-in-Final : goal.returns-in-Final
returns-in-Final c = rw c.in-Final.is c.print_fields-in-Final.ensures
