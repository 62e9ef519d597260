-- The table tells where the entries begin and what stands behind their key; badges are stored where they have bits.
use mathlib.Core.Path.{◌≡◌, ap, ap₂, ◌∙◌}
use Prim.Native.Nat.{ℕ, ◌+◌}
use Rattle.ranges.specs.Laid.{laid}
use Rattle.ranges.specs.Tests.{by-test}
use Rattle.frame_table.specs.declared.Behind.{Behind}
use Rattle.frame_table.specs.declared.Shape.{Shape}
use Rattle.frame_table.specs.Table.{badge_place, number_place, header_bits, has_badges}
use Rattle.frame_table.specs.Entry.{behind_of, badge-none}
use Rattle.frame_table.proofs.Entry.{is_slim}
use Rattle.frame_table.proofs.TableLaws.{sort_known}
use Rattle.formats.specs.Judging.{behind_limits}
use Rattle.formats.specs.Found.{entries_bit, key_at, badge_at, number_at}
use Rattle.frame_entries.specs.Storable.{badges-alone, badges-stored}
use Rattle.frame_entries.proofs.store.Goals.{After-entries_at-first}
use Rattle.frame_entries.proofs.store.Goals as goal

pub row_of-row-requires : goal.row_of-row-requires
row_of-row-requires c = ap (λ (s : Shape). s.target) c.shape_of-shape.ensures

pub behind_key-behind-requires : goal.behind_key-behind-requires
behind_key-behind-requires c =
    let known = sort_known c.args.kind c.row_of-row.ensures in
    (known badge_place, known number_place)

-- where the entries begin, and what stands behind their key
module _ (c : After-entries_at-first) where
  told :
      let kind = c.args.kind in
      (c.entries_at-first.result ≡ entries_bit kind) × (c.behind_key-behind.result ≡ behind_of kind)
  told =
      let kind = c.args.kind in (
        c.entries_at-first.ensures ∙ ap (λ (s : Shape). header_bits + s.body) c.shape_of-shape.ensures,
        (behind_limits kind c.row_of-row.ensures c.behind_key-behind.ensures).0,
      )

pub store_entries-requires : goal.store_entries-requires
store_entries-requires c =
    let p = c.requires in
    let t = told (goal.at.store_entries-requires c).After-entries_at-first in
    (rw (t.0, t.1) p.held, p.places.for-keys, p.places.for-numbers)

pub returns-then-behind-eq0 : goal.returns-then-behind-eq0
returns-then-behind-eq0 c =
    let a = c.args in
    let t = told (goal.at.returns-then-behind-eq0 c).After-entries_at-first in
    let e = c.store_entries.ensures in (
      e.0 ∙ ap₂ (λ (p : ℕ) (b : Behind). laid (key_at a.bytes.now p b) a.entries a.keys.now) t.0 t.1,
      badges-alone a.kind (ap (λ (b : Behind). b.badge) t.1) _ a.badges.now c.if-behind-eq0.true,
      e.1 ∙ ap₂ (λ (p : ℕ) (b : Behind). laid (number_at a.bytes.now p b) a.entries a.numbers.now) t.0 t.1,
    )

pub store_badges-requires : goal.store_badges-requires
store_badges-requires c =
    let kind = c.args.kind in
    let t = told (goal.at.store_badges-requires c).After-entries_at-first in
    let e = ap (λ (b : Behind). b.badge) t.1 in
    let some = c.if-behind-eq0.false in (
      rw (t.0, t.1) c.requires.held,
      e ∙ (is_slim kind).badged (λ z. some (e ∙ z)),
      by-test (has_badges kind) (λ h. c.requires.places.for_badges h) (λ h. absurd (some (e ∙ badge-none kind h))),
    )

pub returns : goal.returns
returns c =
    let a = c.args in
    let t = told (goal.at.returns c).After-entries_at-first in
    let e = c.store_entries.ensures in (
      e.0 ∙ ap₂ (λ (p : ℕ) (b : Behind). laid (key_at a.bytes.now p b) a.entries a.keys.now) t.0 t.1,
      c.store_badges.ensures
          ∙ ap₂ (λ (p : ℕ) (b : Behind). laid (badge_at a.bytes.now p b) a.entries a.badges.now) t.0 t.1
          ∙ badges-stored a.kind (ap (λ (b : Behind). b.badge) t.1) _ a.badges.now c.if-behind-eq0.false,
      e.1 ∙ ap₂ (λ (p : ℕ) (b : Behind). laid (number_at a.bytes.now p b) a.entries a.numbers.now) t.0 t.1,
    )
