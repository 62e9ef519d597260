-- The seven public steps, for every input: refused by number with all as before, or accepted and changed as `rules` says.
use Rattle.std.specs.Prelude.{ℕ, zero, suc, ◌%◌, List}
use Rattle.tables.specs.Tables.{Tables}
use Rattle.rules.specs.Answer.{Ok}
use Rattle.rules.specs.declared.Arrival.TheVariants as arrival
use Rattle.rules.specs.Answers.{Left, left, Arrived}
use Rattle.rules.specs.Open.{opened}
use Rattle.rules.specs.Begin.{begun_write, begun_read}
use Rattle.rules.specs.Request.{refused, request_delivered}
use Rattle.rules.specs.Reply.{said, reply_delivered}
use Rattle.rules.specs.Loss.{link_lost, link_resent}
use Rattle.refusals.specs.Refusals.{open_refusal, write_refusal, read_refusal, delivery_refusal}

-- number 0 refuses nothing
abbrev pub unless : ℕ → Left → Tables → Left
unless zero x t = x
unless (suc n) x t = refused (suc n) t

abbrev pub unless_arrived : ℕ → Arrived → Tables → Arrived
unless_arrived zero x t = x
unless_arrived (suc n) x t = said (arrival.Refused (suc n)) t

unfoldable pub open' : ℕ → ℕ → ℕ → List ℕ → Tables → Left
open' method k p setpoints t = unless (open_refusal method k p setpoints t) (left Ok (opened method k p setpoints t)) t

-- "Every WRITE carries a 16-bit badge number": of any number its last 16 bits
abbrev pub badge_of : ℕ → ℕ
badge_of badge = badge % 65536

unfoldable pub begin_write : ℕ → ℕ → ℕ → List ℕ → Tables → Left
begin_write q mask badge setpoints t = unless (write_refusal q mask setpoints t) (left Ok (begun_write q mask (badge_of badge) setpoints t)) t

unfoldable pub begin_read : ℕ → ℕ → Tables → Left
begin_read q mask t = unless (read_refusal q mask t) (left Ok (begun_read q mask t)) t

unfoldable pub deliver_request : ℕ → ℕ → Tables → Left
deliver_request q i t = unless (delivery_refusal q i t) (request_delivered q i t) t

unfoldable pub deliver_reply : ℕ → ℕ → Tables → Arrived
deliver_reply q i t = unless_arrived (delivery_refusal q i t) (reply_delivered q i t) t

-- "a link's request or reply is lost, and a panel sends a lost request again": 2, 3 and 7 as for a delivery, then 14 or 15
unfoldable pub lose : ℕ → ℕ → Tables → Left
lose q i t = unless (delivery_refusal q i t) (link_lost q i t) t

unfoldable pub resend : ℕ → ℕ → Tables → Left
resend q i t = unless (delivery_refusal q i t) (link_resent q i t) t
