-- "Two steps are new: a link's request or reply is lost, and a panel sends a lost request again."
use Rattle.std.specs.Prelude.{ℕ, cond, eqb}
use Rattle.keys.specs.declared.Key.{Key}
use Rattle.keys.specs.Keys.{key_of, key_at_word, opening}
use Rattle.tables.specs.Tables.{Tables, state_of, count_of, mask_of, setpoint_of, write_badge_of, asked_of, content_at}
use Rattle.tables.specs.declared.links.Content.{Content}
use Rattle.tables.specs.declared.links.Content.TheVariants.{Nothing, Request, Reply, Lost}
use Rattle.rules.specs.Answers.{Left}
use Rattle.rules.specs.Common.{writing, entering, asking_setpoints, request, set_request}
use Rattle.rules.specs.Request.{answered_by, refused}

-- "A lost link is a fourth link content"; "Losing from an empty or already lost link returns 14"
abbrev pub on_loss : Content → ℕ → ℕ → Tables → Left
on_loss Nothing q i t = refused 14 t
on_loss (Request w) q i t = answered_by Lost q i t
on_loss (Reply w) q i t = answered_by Lost q i t
on_loss Lost q i t = refused 14 t

unfoldable pub link_lost : ℕ → ℕ → Tables → Left
link_lost q i t = on_loss (content_at t q i) q i t

-- the key of the client's own WRITE
abbrev pub own_key_of : Tables → ℕ → Key
own_key_of t q = key_of (count_of t q) q

-- What the client's row gives to be sent again, by its state: its WRITE's key, badge and setpoint; key and mask; the key that it asks
-- for. What asks the head for keys, or for all, carries nothing.
unfoldable pub sent_in : ℕ → ℕ → ℕ → Tables → Content
sent_in state q i t =
    cond (eqb state writing) (set_request (own_key_of t q) (write_badge_of t q) (setpoint_of t q i))
    (cond (eqb state entering) (request (own_key_of t q) (mask_of t q))
    (cond (eqb state asking_setpoints) (request (key_at_word (asked_of t q i)) 0) (request opening 0)))

abbrev pub sent_by : ℕ → ℕ → Tables → Content
sent_by q i t = sent_in (state_of t q) q i t

-- "sending again on a link not lost returns 15"
abbrev pub on_resend : Content → ℕ → ℕ → Tables → Left
on_resend Nothing q i t = refused 15 t
on_resend (Request w) q i t = refused 15 t
on_resend (Reply w) q i t = refused 15 t
on_resend Lost q i t = answered_by (sent_by q i t) q i t

unfoldable pub link_resent : ℕ → ℕ → Tables → Left
link_resent q i t = on_resend (content_at t q i) q i t
