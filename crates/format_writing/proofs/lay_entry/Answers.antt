-- Three fields, one behind the other; a key's is its count's and its client's.
use borrow.Author.Rules.{rules}
use native.Mathlib.Omega.{arith}
use Rattle.format_writing.specs.Packing.{entry-put}
use Rattle.format_writing.proofs.lay_entry.Goals as goal

pub lay_badge-requires : goal.lay_badge-requires
lay_badge-requires c = (λ d. (c.requires.0.badged d, c.requires.1 d), search rules)

pub returns : goal.returns
returns c =
    let a = c.args in
    entry-put a.behind a.key _ a.number a.bytes.now a.at
    (λ i. omega (arith, c.slice_known-1.given i))
    (omega (arith, c.requires.3))
    c.requires.4
    c.write_field.ensures
    c.lay_badge.ensures
    c.write_field-2.ensures
