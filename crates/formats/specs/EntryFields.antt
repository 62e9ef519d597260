-- The fields of an entry among a frame's: the states ahead of them, and what they may hold there.
use Rattle.std.specs.Prelude.{◌≡◌, ℕ, ◌+◌, ◌≤◌, ◌<◌, cond, eqb}
use Rattle.std.proofs.Math.Path.{refl, sym}
use Rattle.std.proofs.Common.{ap, ap₂, ◌∙◌, arith}
use Rattle.frame_table.specs.declared.Field.{Field}
use Rattle.frame_table.specs.Table.{count, of, entry_place, badge_place, number_place}
use Rattle.frame_table.specs.Table.{sort_at, bits_of, least_of, most_of, limits_of, limit_row}
use Rattle.frame_table.specs.Entry.{count_bits, owner_bits, Plain, Keyed}
use Rattle.formats.specs.declared.state.State.{State}
use Rattle.formats.specs.Format.{sort_of, field_of, next_of}
use Rattle.formats.specs.FormatLaws.{field_is, next_place, next-kind, place-last, place_inner}

-- ---- the states ahead of an entry's fields

pub record Ahead (kind place : ℕ) (st : State) : Type 0 where
  pub its-kind : st.kind ≡ kind
  pub its-place : st.place ≡ place

module _ {kind place : ℕ} {st : State} (a : Ahead kind place st) where
  pub sort-ahead : sort_of st ≡ sort_at kind place
  sort-ahead = ap₂ sort_at a.its-kind a.its-place

  pub ahead-next : (v : ℕ) → entry_place ≤ place → place < number_place → Ahead kind (place + 1) (next_of st v)
  ahead-next v h l =
      record {
        its-kind = next-kind st v (λ e. omega (arith, a.its-place)) ∙ a.its-kind;
        its-place = next_place st v ∙ place_inner st.place (λ e. omega (arith, a.its-place)) ∙ ap (λ (p : ℕ). p + 1) a.its-place;
      }

pub ahead-again : {kind : ℕ} {st : State} → Ahead kind number_place st → (v : ℕ) → Ahead kind entry_place (next_of st v)
ahead-again {kind} {st} a v =
    record {
      its-kind = next-kind st v (λ e. omega (arith, a.its-place)) ∙ a.its-kind;
      its-place = next_place st v ∙ place-last st.place a.its-place;
    }

-- ---- what its fields may hold

-- a key's client, behind a count
abbrev pub owner_field : ℕ → Field
owner_field c = limit_row owner_bits 0 (cond (eqb c 0) 0 15)

module _ {kind : ℕ} (k : Keyed kind) where
  module _ {st : State} (a : Ahead kind entry_place st) where
    pub count-field : field_of st ≡ limit_row count_bits 0 255
    unfolding bits_of least_of most_of
    count-field = sym (field_is st {s = count} (sym (sort-ahead a ∙ k.counts)) refl refl refl)

    -- behind the count c
    pub owner-field : (c : ℕ) → field_of (next_of st c) ≡ owner_field c
    unfolding bits_of least_of most_of next_of
    owner-field c =
        let b = ahead-next a c (omega arith) (omega arith) in
        sym (field_is (next_of st c) {s = of} (sym (sort-ahead b ∙ k.owners)) refl refl refl)

  -- a badge and a number are as the table of sorts has them
  plain-field : {place : ℕ} {st : State} → Plain (sort_at kind place) → Ahead kind place st → field_of st ≡ limits_of (sort_at kind place)
  unfolding bits_of least_of most_of
  plain-field {place} {st} p a =
      sym (field_is st {s = sort_at kind place} (sym (sort-ahead a)) refl (rw p.not_own) (rw (p.not_own, p.not_of)))

  pub badge-field : {st : State} → Ahead kind badge_place st → field_of st ≡ limits_of (sort_at kind badge_place)
  badge-field a = plain-field k.badges a

  pub number-field : {st : State} → Ahead kind number_place st → field_of st ≡ limits_of (sort_at kind number_place)
  number-field a = plain-field k.numbers a
