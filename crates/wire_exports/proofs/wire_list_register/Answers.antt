-- `wire_exports::wire_list_register` meets its contract: the number is the answer's, and `listing::list_register` leaves the list.
use Rattle.wire_exports.specs.NumberLaws.{listed_so}
use Rattle.wire_exports.proofs.wire_list_register.Goals as goal

pub returns : goal.returns
returns c = listed_so c.counted_number.ensures.listed c.list_register.ensures
