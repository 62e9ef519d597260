-- The cases of the steps on sound tables, as the code meets them: refused by a cause with all as before, or accepted.
use Rattle.std.specs.Prelude.{ℕ, suc, pred, ◌<◌, ◌≡◌, refl, Bool, true, false, not, ◌&&◌, List, length, eqb}
use Rattle.std.proofs.Math.Nat.{mod-eq_of_lt}
use Rattle.std.proofs.Common.{sym, subst}
use Rattle.causes.specs.declared.Refusal.{Refusal}
use Rattle.causes.specs.declared.Refusal.TheVariants as refusal
use Rattle.causes.specs.Numbers.{number_of}
use Rattle.tables.specs.Tables.{Tables}
use Rattle.rules.specs.Answer.{Ok, Refused}
use Rattle.rules.specs.declared.Arrival.TheVariants as arrival
use Rattle.rules.specs.Answers.{Left, left, Arrived}
use Rattle.rules.specs.Open.{opened}
use Rattle.rules.specs.Begin.{begun_write, begun_read}
use Rattle.rules.specs.Request.{request_delivered}
use Rattle.rules.specs.Reply.{said, reply_delivered}
use Rattle.rules.specs.Loss.{link_lost, link_resent}
use Rattle.soundness.specs.Sound.{long_enough}
use Rattle.soundness.specs.Facts.{Sound, facts-sound}
use Rattle.refusals.specs.Refusals.{press_opens, open_refusal, write_fault, write_refusal, read_fault, read_refusal, delivery_fault}
use Rattle.refusals.specs.Refusals.{delivery_refusal}
use Rattle.refusals.specs.Steps.{unless, unless_arrived, badge_of, open', begin_write, begin_read, deliver_request, deliver_reply, lose, resend}
use Rattle.keeping.specs.Accepted.{Openable, openable, Writable, writable, Readable, readable, Deliverable, deliverable}

-- no cause has number 0
number_next : (r : Refusal) → suc (pred (number_of r)) ≡ number_of r
number_next refusal.NoSuchPress = refl
number_next refusal.NotSound = refl
number_next refusal.Absent = refl
number_next refusal.Retired = refl
number_next refusal.Busy = refl
number_next refusal.Unfit = refl
number_next refusal.Spent = refl
number_next refusal.Unanswerable = refl
number_next refusal.NoMessage = refl
number_next refusal.CutShort = refl
number_next refusal.Malformed = refl
number_next refusal.NoRoom = refl
number_next refusal.Unreadable = refl
number_next refusal.NothingToLose = refl
number_next refusal.NothingLost = refl
number_next refusal.IllMade = refl

-- so a cause refuses
refuses : (r : Refusal) (x : Left) (t : Tables) → left (Refused (number_of r)) t ≡ unless (number_of r) x t
refuses r x t = subst (λ (n : ℕ). left (Refused n) t ≡ unless n x t) (number_next r) refl

refuses_arrival : (r : Refusal) (x : Arrived) (t : Tables) → said (arrival.Refused (number_of r)) t ≡ unless_arrived (number_of r) x t
refuses_arrival r x t = subst (λ (n : ℕ). said (arrival.Refused n) t ≡ unless_arrived n x t) (number_next r) refl

-- sound tables: refused by a cause r, or by none
module _ (t : Tables) (s : Sound t) where
  module _ (q mask : ℕ) (setpoints : List ℕ) where
    write-number : {n : ℕ} → n ≡ write_fault q mask (length setpoints) t → write_refusal q mask setpoints t ≡ n
    unfolding write_refusal
    write-number d = rw (facts-sound t s) (sym d)

    pub write-refused : (r : Refusal) → number_of r ≡ write_fault q mask (length setpoints) t → (badge : ℕ) →
        left (Refused (number_of r)) t ≡ begin_write q mask badge setpoints t
    unfolding begin_write
    write-refused r d badge = rw (write-number d) (refuses r (left Ok (begun_write q mask (badge_of badge) setpoints t)) t)

    module _ (d : 0 ≡ write_fault q mask (length setpoints) t) where
      -- a badge of 16 bits is carried as it is
      pub write-accepted : (badge : ℕ) → badge < 65536 → {x : Tables} → x ≡ begun_write q mask badge setpoints t →
          left Ok x ≡ begin_write q mask badge setpoints t
      unfolding begin_write
      write-accepted badge l e = rw (write-number d, mod-eq_of_lt l, e)

      pub write_able : Writable q mask setpoints t
      write_able = writable q mask setpoints t (write-number d)

  module _ (q mask : ℕ) where
    read_number : {n : ℕ} → n ≡ read_fault q mask t → read_refusal q mask t ≡ n
    unfolding read_refusal
    read_number d = rw (facts-sound t s) (sym d)

    pub read-refused : (r : Refusal) → number_of r ≡ read_fault q mask t → left (Refused (number_of r)) t ≡ begin_read q mask t
    unfolding begin_read
    read-refused r d = rw (read_number d) (refuses r (left Ok (begun_read q mask t)) t)

    module _ (d : 0 ≡ read_fault q mask t) where
      pub read-accepted : {x : Tables} → x ≡ begun_read q mask t → left Ok x ≡ begin_read q mask t
      unfolding begin_read
      read-accepted e = rw (read_number d, e)

      pub read_able : Readable q mask t
      read_able = readable q mask t (read_number d)

  module _ (q i : ℕ) where
    delivery-number : {n : ℕ} → n ≡ delivery_fault q i t → delivery_refusal q i t ≡ n
    unfolding delivery_refusal
    delivery-number d = rw (facts-sound t s) (sym d)

    module _ (r : Refusal) (d : number_of r ≡ delivery_fault q i t) where
      pub request-refused : left (Refused (number_of r)) t ≡ deliver_request q i t
      unfolding deliver_request
      request-refused = rw (delivery-number d) (refuses r (request_delivered q i t) t)

      pub loss-refused : left (Refused (number_of r)) t ≡ lose q i t
      unfolding lose
      loss-refused = rw (delivery-number d) (refuses r (link_lost q i t) t)

      pub resend-refused : left (Refused (number_of r)) t ≡ resend q i t
      unfolding resend
      resend-refused = rw (delivery-number d) (refuses r (link_resent q i t) t)

      pub reply-refused : said (arrival.Refused (number_of r)) t ≡ deliver_reply q i t
      unfolding deliver_reply
      reply-refused = rw (delivery-number d) (refuses_arrival r (reply_delivered q i t) t)

    module _ (d : 0 ≡ delivery_fault q i t) where
      pub request-accepted : {x : Left} → x ≡ request_delivered q i t → x ≡ deliver_request q i t
      unfolding deliver_request
      request-accepted e = rw (delivery-number d) e

      pub loss-accepted : {x : Left} → x ≡ link_lost q i t → x ≡ lose q i t
      unfolding lose
      loss-accepted e = rw (delivery-number d) e

      pub resend-accepted : {x : Left} → x ≡ link_resent q i t → x ≡ resend q i t
      unfolding resend
      resend-accepted e = rw (delivery-number d) e

      pub reply-accepted : {x : Arrived} → x ≡ reply_delivered q i t → x ≡ deliver_reply q i t
      unfolding deliver_reply
      reply-accepted e = rw (delivery-number d) e

      pub delivery_able : Deliverable q i t
      delivery_able = deliverable q i t (delivery-number d)

-- an opening; b is whether the press fits, l whether the tables are long enough
module _ (m k p : ℕ) (setpoints : List ℕ) (t : Tables) {b : Bool} (d : b ≡ (press_opens m k p && eqb (length setpoints) k)) where
  pub open_wrong : not b ≡ true → left (Refused 1) t ≡ open' m k p setpoints t
  unfolding open' open_refusal
  open_wrong e = rw (← d, e)

  module _ {l : Bool} (f : l ≡ long_enough k p t) (e : not b ≡ false) where
    pub open_short : not l ≡ true → left (Refused 2) t ≡ open' m k p setpoints t
    unfolding open' open_refusal
    open_short g = rw (← d, e, ← f, g)

    pub open-accepted : {x : Tables} → not l ≡ false → x ≡ opened m k p setpoints t → left Ok x ≡ open' m k p setpoints t
    unfolding open' open_refusal
    open-accepted g h = rw (← d, e, ← f, g, h)

    pub open_able : not l ≡ false → Openable m k p setpoints t
    unfolding open_refusal
    open_able g = openable m k p setpoints t (rw (← d, e, ← f, g))
