-- `wire_exports::wire_write_link_frame` meets its contract: the number is the answer's, and `wire::write_link_frame` leaves the bytes.
use Rattle.wire_exports.specs.NumberLaws.{framed}
use Rattle.wire_exports.proofs.wire_write_link_frame.Goals as goal

pub returns : goal.returns
returns c = framed c.counted_number.ensures.written c.write_link_frame.ensures
