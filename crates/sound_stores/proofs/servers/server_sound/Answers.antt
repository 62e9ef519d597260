-- `sound_stores::servers::server_sound` meets its contract: the number held, the first key, then every key and every badge.
use mathlib.Core.Bool.{not}
use Prim.Native.Nat.{ℕ}
use mathlib.Core.Path.{sym, ◌∙◌, ap}
use Rattle.ranges.specs.Tests.{and_stops, and_goes_on, is, is-not, fails, holds}
use Rattle.keys.specs.Keys.{key_word, opening}
use Rattle.soundness.specs.Facts.{between_facts}
use Rattle.soundness.specs.Sound.{between, server_sound}
use borrow.Author.Rules.{rules}
use Rattle.sound_stores.proofs.servers.server_sound.Goals as goal

pub returns-then-not-between : goal.returns-then-not-between
unfolding server_sound
returns-then-not-between c = λ t. sym (and_stops _ (and_stops _ (and_stops _ (fails (c.between.ensures ∙ ap (λ (n : ℕ). between 1 n 256) c.count_at-held.ensures) (ap not c.if-not-between.true)))))

pub returns-then-key_word-ne0 : goal.returns-then-key_word-ne0
unfolding server_sound
returns-then-key_word-ne0 c =
    λ t. sym (and_stops _ (and_stops _ (and_goes_on _
    (holds (c.between.ensures ∙ ap (λ (n : ℕ). between 1 n 256) c.count_at-held.ensures) (ap not c.if-not-between.false))
    (is-not {v = key_word opening} c.key_word.ensures c.if-key_word-ne0.true))))

pub keys_in_range-requires : goal.keys_in_range-requires
keys_in_range-requires c =
    let b = between_facts 1 c.count_at-held.result 256 (holds c.between.ensures (ap not c.if-not-between.false)) in
    search rules

pub returns-then-not-keys_in_range : goal.returns-then-not-keys_in_range
unfolding server_sound
returns-then-not-keys_in_range c =
    λ t. sym (and_stops _ (and_goes_on _
    (and_goes_on _
    (holds (c.between.ensures ∙ ap (λ (n : ℕ). between 1 n 256) c.count_at-held.ensures) (ap not c.if-not-between.false))
    (is {v = key_word opening} c.key_word.ensures c.if-key_word-ne0.false))
    (rw (← c.count_at-held.ensures, ← c.count_at-clients.ensures)
    (fails c.keys_in_range.ensures (ap not c.if-not-keys_in_range.true)))))

pub badges_fit-requires : goal.badges_fit-requires
badges_fit-requires c =
    let b = between_facts 1 c.count_at-held.result 256
    (holds c.between.ensures (ap not c.if-not-between.false)) in
    search rules

pub returns : goal.returns
unfolding server_sound
returns c =
    λ t. sym (and_goes_on _
    (and_goes_on _
    (and_goes_on _
    (holds (c.between.ensures ∙ ap (λ (n : ℕ). between 1 n 256) c.count_at-held.ensures) (ap not c.if-not-between.false))
    (is {v = key_word opening} c.key_word.ensures
    c.if-key_word-ne0.false))
    (rw (
      ← c.count_at-held.ensures,
      ← c.count_at-clients.ensures,
    ) (holds c.keys_in_range.ensures (ap not c.if-not-keys_in_range.false))))
    (rw (← c.count_at-held.ensures) (sym c.badges_fit.ensures)))
