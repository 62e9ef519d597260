-- What a client's row gives to be sent, by its state, and when two rows give the same.
use Rattle.std.specs.Prelude.{ℕ, ◌≡◌}
use Rattle.keys.specs.Keys.{key_at_word, opening}
use Rattle.ranges.specs.Tests.{by_equal}
use Rattle.std.proofs.Common.{ne_eqb}
use Rattle.tables.specs.Tables.{Tables, state_of, count_of, mask_of, setpoint_of, write_badge_of, asked_of}
use Rattle.rules.specs.Common.{writing, entering, asking_keys, asking_setpoints, asking_all, request, set_request}
use Rattle.rules.specs.Loss.{own_key_of, sent_in, sent_by}

module _ (t : Tables) (q i : ℕ) where
  pub sent-writing : state_of t q ≡ writing → sent_by q i t ≡ set_request (own_key_of t q) (write_badge_of t q) (setpoint_of t q i)
  unfolding sent_in
  sent-writing e = rw e

  pub sent-entering : state_of t q ≡ entering → sent_by q i t ≡ request (own_key_of t q) (mask_of t q)
  unfolding sent_in
  sent-entering e = rw e

  pub sent-keys : state_of t q ≡ asking_keys → sent_by q i t ≡ request opening 0
  unfolding sent_in
  sent-keys e = rw e

  pub sent_setpoints : state_of t q ≡ asking_setpoints → sent_by q i t ≡ request (key_at_word (asked_of t q i)) 0
  unfolding sent_in
  sent_setpoints e = rw e

  pub sent-all : state_of t q ≡ asking_all → sent_by q i t ≡ request opening 0
  unfolding sent_in
  sent-all e = rw e

-- the words that the state looks at are the same: a key asked for matters only while setpoints are asked for
pub sent-same : (t t' : Tables) (q i : ℕ) → state_of t' q ≡ state_of t q → count_of t' q ≡ count_of t q → mask_of t' q ≡ mask_of t q →
    write_badge_of t' q ≡ write_badge_of t q → setpoint_of t' q i ≡ setpoint_of t q i →
    (state_of t q ≡ asking_setpoints → asked_of t' q i ≡ asked_of t q i) → sent_by q i t' ≡ sent_by q i t
unfolding sent_in
sent-same t t' q i state count mask badge setpoint asked =
    by_equal (state_of t q) asking_setpoints
    (λ e. rw (state, e, asked e))
    (λ d. rw (state, count, mask, badge, setpoint, ne_eqb (state_of t q) asking_setpoints d))
