-- `link_frames::write_keys` meets its contract: the fronts of the rows have all servers' keys at the tag, and the tags that they come from.
use mathlib.Core.Path.{refl, sym, ap, ◌∙◌}
use native.Mathlib.Omega.{arith}
use lib.ListN.{length}
use Rattle.ranges.specs.LaidLaws.{built-length, laid_front}
use Rattle.coordinator.specs.Latest.{latest_word, latest_tag_at}
use Rattle.frames.specs.declared.Message.TheVariants.{Keys}
use Rattle.wire.specs.Cases.{wrote, last-keys}
use Rattle.link_frames.proofs.write_keys.Goals as goal

pub latest_entries-requires : goal.latest_entries-requires
latest_entries-requires c =
    let p = c.requires in
    let tag = c.last_tag-tag.ensures in
    let ready = p.0 in record {
      servers_bound = (p.1, (omega (arith, p.1), omega (arith, p.1)));
      has_entry = record { place = omega (arith, tag, ready.some, ready.few); there = omega (arith, tag, ready.some, ready.logged) };
    }

pub slice_bounds-write_frame-end : goal.slice_bounds-write_frame-end
slice_bounds-write_frame-end c =
    let a = c.args in
    let keys = latest_word a.log.now c.last_tag-tag.result in
    sym (ap length (laid_front keys a.servers _ c.latest_entries.ensures.keys) ∙ built-length keys a.servers)

pub slice_bounds-write_frame-end-3 : goal.slice_bounds-write_frame-end-3
slice_bounds-write_frame-end-3 c =
    let a = c.args in
    let tags = latest_tag_at a.log.now c.last_tag-tag.result in
    sym (ap length (laid_front tags a.servers _ c.latest_entries.ensures.tags) ∙ built-length tags a.servers)

pub returns : goal.returns
returns c =
    let a = c.args in
    let tag = c.last_tag-tag.result in
    let laid = c.latest_entries.ensures in
    last-keys a.number a.client a.servers a.log.now a.bytes.now c.last_tag-tag.ensures
    (wrote (Keys a.client tag a.servers) a.bytes.now
    (laid_front (latest_word a.log.now tag) a.servers _ laid.keys)
    refl
    (laid_front (latest_tag_at a.log.now tag) a.servers _ laid.tags)
    c.write_frame.ensures)
