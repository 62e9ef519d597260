-- The values are narrow enough for their types, and those behind the fixed ones are the entries', four each.
use Prim.Native.Nat.{◌-◌, ◌/◌}
use lib.ListN.{get_or}
use Rattle.frame_table.specs.Table.{fixed_fields, entry_fields}
use Rattle.frames.proofs.fixed_at.Goals as goal

pub returns : goal.returns
returns c =
    let a = c.args in
    let vs = a.fixed.now in
    λ i. record {
      client = get_or vs 1 0;
      server = get_or vs 2 0;
      tag = get_or vs 3 0;
      key = c.new-key.ensures i;
      badge = get_or vs 6 0;
      number = get_or vs 7 0;
      entries = (a.fields - fixed_fields) / entry_fields;
    }
