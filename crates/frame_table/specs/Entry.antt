-- The fields of an entry, a key's count and client, a badge and a number: what each may hold, whatever the kind.
use Rattle.std.specs.Prelude.{◌≡◌, refl, ℕ, ◌+◌, ◌^◌, ◌≤◌, ◌<◌, Bool, true, false, not, ◌&&◌, ◌||◌, eqb, ltb}
use Rattle.std.proofs.Common.{ap, eqb-true, ne_eqb, ltb-true, ltb-false}
use Rattle.std.proofs.lemmas.Bool.{eqb-false, not-true, not-false}
use Rattle.ranges.specs.Tests.{both_left, both_right, by-test}
use Rattle.ranges.specs.All.{all_below}
use Rattle.ranges.specs.AllLaws.{all_at}
use Rattle.frame_table.specs.declared.Behind.{Behind}
use Rattle.frame_table.specs.Table.{none, count, own, of, many_place, entry_place, owner_place, badge_place, number_place, kinds}
use Rattle.frame_table.specs.Table.{sort_at, bits_of, limits_of, has_badges}
use Rattle.frame_table.specs.TableLaws.{many-none, bits_most, bits-some, badge_wide}

-- the bits of a key's count, of its client, of both, of a mask, and of a badge
abbrev pub count_bits : ℕ
count_bits = 8

abbrev pub owner_bits : ℕ
owner_bits = 4

abbrev pub key_bits : ℕ
key_bits = 12

abbrev pub mask_bits : ℕ
mask_bits = 16

abbrev pub badge_width : ℕ
badge_width = 16

-- ---- a kind that has entries

-- the bits of its entries' badge, none where they lack it, of their number, and this number's least value
abbrev pub badge_bits : ℕ → ℕ
badge_bits kind = bits_of (sort_at kind badge_place)

abbrev pub number_bits : ℕ → ℕ
number_bits kind = bits_of (sort_at kind number_place)

abbrev pub number_least : ℕ → ℕ
number_least kind = (limits_of (sort_at kind number_place)).least

-- so what stands behind their key, by the sorts of the two
abbrev pub behind_by : ℕ → ℕ → Behind
behind_by badge number = record { badge = bits_of badge; width = bits_of number; least = (limits_of number).least }

abbrev pub behind_of : ℕ → Behind
behind_of kind = behind_by (sort_at kind badge_place) (sort_at kind number_place)

-- the bits behind the key, and of an entry
abbrev pub behind_bits : Behind → ℕ
behind_bits b = b.badge + b.width

abbrev pub entry_bits : Behind → ℕ
entry_bits b = key_bits + behind_bits b

-- no field is wider than a number can be, and a badge that has bits has those of a badge
pub record Slim (b : Behind) : Type 0 where
  pub badge : b.badge ≤ 32
  pub badged : (b.badge ≡ 0 → ⊥) → b.badge ≡ badge_width
  pub number : b.width ≤ 32

-- a field that its bits and its least decide
pub record Plain (sort : ℕ) : Type 0 where
  pub not_own : eqb sort own ≡ false
  pub not_of : eqb sort of ≡ false
  pub widest : (limits_of sort).most + 1 ≡ 2 ^ bits_of sort

plain_right : ℕ → Bool
plain_right sort = not (eqb sort own) && (not (eqb sort of) && eqb ((limits_of sort).most + 1) (2 ^ bits_of sort))

plain : (sort : ℕ) → plain_right sort ≡ true → Plain sort
unfolding plain_right
plain sort e =
    let r = both_right (not (eqb sort own)) _ e in
    record {
      not_own = not-true _ (both_left _ _ e);
      not_of = not-true _ (both_left _ _ r);
      widest = eqb-true _ _ (both_right (not (eqb sort of)) _ r);
    }

-- They are a key, a badge or none, of which each is right, and a number; only a mask has a least above 0, and no badge is ahead of it.
pub record Keyed (kind : ℕ) : Type 0 where
  pub counts : sort_at kind entry_place ≡ count
  pub owners : sort_at kind owner_place ≡ of
  pub badges : Plain (sort_at kind badge_place)
  pub any-badge : (limits_of (sort_at kind badge_place)).least ≡ 0
  pub numbers : Plain (sort_at kind number_place)
  pub masked : (number_least kind ≡ 0 → ⊥) → (badge_bits kind ≡ 0) × (number_bits kind ≡ mask_bits)

keyed_right : ℕ → Bool
keyed_right kind =
    eqb (sort_at kind many_place) none
    || (eqb (sort_at kind entry_place) count
    && (eqb (sort_at kind owner_place) of
    && (plain_right (sort_at kind badge_place)
    && (eqb (limits_of (sort_at kind badge_place)).least 0
    && (plain_right (sort_at kind number_place)
    && (eqb (number_least kind) 0 || (eqb (badge_bits kind) 0 && eqb (number_bits kind) mask_bits)))))))

-- one computed test
all_keyed : all_below keyed_right kinds ≡ true
unfolding all_below keyed_right plain_right sort_at bits_of
all_keyed = refl

keyed : (kind : ℕ) → kind < kinds → (sort_at kind many_place ≡ none → ⊥) → Keyed kind
unfolding keyed_right
keyed kind h d =
    let badge = sort_at kind badge_place in
    let number = sort_at kind number_place in
    let e₀ = rw (ne_eqb (sort_at kind many_place) none d) at (all_at keyed_right kinds all_keyed kind h) in
    let e₁ = both_right (eqb (sort_at kind entry_place) count) _ e₀ in
    let e₂ = both_right (eqb (sort_at kind owner_place) of) _ e₁ in
    let e₃ = both_right (plain_right badge) _ e₂ in
    let e₄ = both_right (eqb (limits_of badge).least 0) _ e₃ in
    let e₅ : (eqb (number_least kind) 0 || (eqb (badge_bits kind) 0 && eqb (number_bits kind) mask_bits)) ≡ true =
    both_right (plain_right number) _ e₄ in
    record {
      counts = eqb-true _ _ (both_left _ _ e₀);
      owners = eqb-true _ _ (both_left _ _ e₁);
      badges = plain badge (both_left _ _ e₂);
      any-badge = eqb-true _ _ (both_left _ _ e₃);
      numbers = plain number (both_left _ _ e₄);
      masked =
          λ l.
          let m : (eqb (badge_bits kind) 0 && eqb (number_bits kind) mask_bits) ≡ true = rw (ne_eqb (number_least kind) 0 l) at e₅ in
          (eqb-true _ _ (both_left _ _ m), eqb-true _ _ (both_right (eqb (badge_bits kind) 0) _ m));
    }

-- a kind has bits for a badge exactly where its entries have one
pub badge-none : (kind : ℕ) → has_badges kind ≡ false → badge_bits kind ≡ 0
unfolding has_badges bits_of
badge-none kind e =
    let z : sort_at kind badge_place ≡ none = eqb-true _ _ (not-false (eqb (sort_at kind badge_place) none) e) in
    ap bits_of z

-- beyond the table there are no entries
pub keyed-some : (kind : ℕ) → (sort_at kind many_place ≡ none → ⊥) → Keyed kind
keyed-some kind d =
    by-test (ltb kind kinds) (λ t. keyed kind (ltb-true _ _ t) d) (λ t. absurd (d (many-none kind (ltb-false _ _ t))))
