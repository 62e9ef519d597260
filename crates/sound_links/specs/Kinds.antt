-- Whether a link is sound, by the word of its kind, as the code meets it.
use Rattle.std.specs.Prelude.{ℕ, ◌<◌, ◌≡◌, Bool, true, false, ◌&&◌, eqb}
use Rattle.std.proofs.Common.{arith}
use borrow.Author.Tests.{lt-leb, ne_eqb}
use Rattle.ranges.specs.Tests.{by_equal}
use Rattle.tables.specs.Rows.{word_at}
use Rattle.tables.specs.Links.{link_width, link_row, link_at}
use Rattle.tables.specs.Tables.{Tables, state_of, mask_of}
use Rattle.rules.specs.Common.{writing, asking_setpoints}
use Rattle.soundness.specs.Sound.{uses, request_sound, reply_sound, badge_sound, key_on, content_sound, link_sound}
use Rattle.soundness.specs.Parts.{number_on, badge_on}

module _ (t : Tables) (q i : ℕ) {kind : ℕ} (d : kind ≡ word_at link_width t.links (link_row q i) 0) where
  abbrev used : Bool
  used = uses (state_of t q) (mask_of t q) i

  pub nothing-sound : kind ≡ 0 → true ≡ link_sound t q i
  unfolding link_sound content_sound link_at
  nothing-sound e = rw (← d, e)

  -- a kind that there is not
  kind_beyond : 3 < kind → false ≡ link_sound t q i
  unfolding link_sound
  kind_beyond l = rw (← d, lt-leb _ _ l)

  -- of the kinds behind a reply's there is only the lost link, wherever the state uses it
  pub lost-sound : (kind ≡ 0 → ⊥) → (kind ≡ 1 → ⊥) → (kind ≡ 2 → ⊥) → used ≡ true → eqb kind 3 ≡ link_sound t q i
  unfolding link_sound content_sound link_at
  lost-sound f g h u =
      by_equal kind 3
      (λ e. rw (← d, e, u))
      (λ n. rw (ne_eqb _ _ n)
      (kind_beyond (by_equal kind 0 (λ e. absurd (f e)) (λ e. by_equal kind 1 (λ e. absurd (g e)) (λ e. by_equal kind 2 (λ e. absurd (h e)) (λ e. omega arith))))))

  pub request-sound : {r : Bool} → kind ≡ 1 → used ≡ true →
      r ≡ (request_sound (state_of t q) q (key_on t q i) (number_on t q i) t && badge_sound writing (state_of t q)
      (badge_on t q i)) → r ≡ link_sound t q i
  unfolding link_sound content_sound link_at
  request-sound e u s = rw (← d, e, u) s

  pub reply-sound : {r : Bool} → kind ≡ 2 → used ≡ true →
      r ≡ (reply_sound (state_of t q) i (number_on t q i) t && badge_sound asking_setpoints (state_of t q) (badge_on t q i)) → r ≡ link_sound t q i
  unfolding link_sound content_sound link_at
  reply-sound e u s = rw (← d, e, u) s

  -- something stands on a link that the state does not use
  pub not-used : (kind ≡ 0 → ⊥) → used ≡ false → false ≡ link_sound t q i
  unfolding link_sound content_sound link_at
  not-used f u =
      by_equal kind 1
      (λ e. rw (← d, e, u))
      (λ g. by_equal kind 2
      (λ e. rw (← d, e, u))
      (λ h. by_equal kind 3
      (λ e. rw (← d, e, u))
      (λ n. kind_beyond (omega arith))))
