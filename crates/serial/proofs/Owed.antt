-- What a step owes the history at each answer. The claim follows from these alone, whatever the method.
use Prim.Native.Nat.{ℕ, zero, suc, ◌≤◌, ◌<◌}
use mathlib.Core.Path.{◌≡◌}
use mathlib.Core.Bool.{true, cond}
use Rattle.keys.specs.Masks.{has_server}
use Rattle.rules.specs.Answer.{Ok, Refused}
use Rattle.rules.specs.declared.Arrival.{Arrival}
use Rattle.rules.specs.declared.Arrival.TheVariants as arrival
use Rattle.rules.specs.declared.Delivered.{Delivered}
use Rattle.claim.specs.Steps.{Event, opened, begun-write, begun-read, requested, replied, lost, resent}
use Rattle.claim.specs.History.{Value, value_shown, changed, Transaction, Doing, nothing, writing, tagged, reading, History}
use Rattle.claim.specs.Claim.{enough}

-- the value of server i in the row behind the WRITE of a tag
unfoldable pub value_at : (ℕ → Value) → (ℕ → Transaction) → ℕ → ℕ → Value
value_at initial write zero i = initial i
value_at initial write (suc tag) i = cond (has_server (write (suc tag)).mask i) ((write (suc tag)).value i) (value_at initial write tag i)

abbrev pub value_in : History → ℕ → ℕ → Value
value_in h tag i = value_at h.initial h.write tag i

-- a delivery that does not end a READ leaves deliveries to come
abbrev pub More : ℕ → Doing → Type 0
More extra nothing = ⊥
More extra (writing mask badge setpoints begin) = Unit {0}
More extra (tagged tag) = Unit {0}
More extra (reading mask begin deliveries losses) = suc deliveries < enough extra mask losses

-- a loss and a request sent again are of a transaction
abbrev pub Busy : Doing → Type 0
Busy nothing = ⊥
Busy (writing mask badge setpoints begin) = Unit {0}
Busy (tagged tag) = Unit {0}
Busy (reading mask begin deliveries losses) = Unit {0}

-- A READ that ends: its tag lies between the number of WRITEs tagged at its begin and the number tagged now, it shows the values behind that tag,
-- and this is the delivery at which it ends.
pub record OwedRead (floor : ℕ) (h : History) (doing : Doing) (tag : ℕ) (d : Delivered) : Type 0 where
  pub mask : ℕ
  pub begin : ℕ
  pub deliveries : ℕ
  pub losses : ℕ
  pub is : doing ≡ reading mask begin deliveries losses
  pub low : floor ≤ tag
  pub high : tag ≤ h.tags
  pub shows : (i : ℕ) → has_server mask i ≡ true → value_shown d i ≡ value_in h tag i
  pub count : suc deliveries ≡ enough h.extra mask losses

-- `floor` is, for each client, the number of WRITEs tagged when its transaction began
abbrev pub OwedArrival : (ℕ → ℕ) → History → Arrival → Delivered → ℕ → Type 0
OwedArrival floor h arrival.Wait d q = More h.extra (h.doing q)
OwedArrival floor h arrival.Next d q = More h.extra (h.doing q)
OwedArrival floor h (arrival.Write tag) d q = h.doing q ≡ tagged tag
OwedArrival floor h (arrival.Read tag) d q = OwedRead (floor q) h (h.doing q) tag d
OwedArrival floor h (arrival.Refused n) d q = Unit {0}

abbrev pub Owed : (ℕ → ℕ) → History → Event → Type 0
Owed floor h (opened method k p setpoints answer) = Unit {0}
Owed floor h (begun-write q mask badge setpoints Ok) = h.doing q ≡ nothing
Owed floor h (begun-write q mask badge setpoints (Refused n)) = Unit {0}
Owed floor h (begun-read q mask Ok) = (h.doing q ≡ nothing) × (0 < enough h.extra mask 0)
Owed floor h (begun-read q mask (Refused n)) = Unit {0}
Owed floor h (requested q i Ok) = More h.extra (h.doing q)
Owed floor h (requested q i (Refused n)) = Unit {0}
Owed floor h (replied q i d) = OwedArrival floor h d.arrival d q
Owed floor h (lost q i Ok) = Busy (h.doing q)
Owed floor h (lost q i (Refused n)) = Unit {0}
Owed floor h (resent q i Ok) = Busy (h.doing q)
Owed floor h (resent q i (Refused n)) = Unit {0}

-- a begin sets the client's floor
abbrev pub floor_after : Event → History → (ℕ → ℕ) → ℕ → ℕ
floor_after (opened method k p setpoints answer) h floor = floor
floor_after (begun-write q mask badge setpoints Ok) h floor = changed floor q h.tags
floor_after (begun-write q mask badge setpoints (Refused n)) h floor = floor
floor_after (begun-read q mask Ok) h floor = changed floor q h.tags
floor_after (begun-read q mask (Refused n)) h floor = floor
floor_after (requested q i answer) h floor = floor
floor_after (replied q i d) h floor = floor
floor_after (lost q i answer) h floor = floor
floor_after (resent q i answer) h floor = floor
