-- Laws of the texts: how they are printed part by part, and how long they are.
use Rattle.std.specs.Prelude.{ℕ, ◌+◌, ◌≤◌, ◌<◌, ◌≡◌, refl, Bool, true, false, List, [], ◌∷◌, ◌++◌, length, take, get_or}
use Rattle.std.proofs.Common.{sym, eq-eqb, ne_eqb}
use Rattle.schedule.specs.Decimal.{decimal, spaced_all}
use Rattle.schedule.specs.DecimalLaws.{decimal-one, spaced-more}
use Rattle.ranges.specs.Turns.{turns-none, turns_more}
use Rattle.keys.specs.Masks.{has_server}
use Rattle.printing.specs.Texts.{spaced, server_text, masked_text, servers_below, end_text}
use Rattle.printing.specs.Printed.{Printed}
use Rattle.printing.specs.PrintedLaws.{printed-none, printed_then}

-- the text of a server, by what was asked of the mask
module _ (mask : ℕ) (setpoints tags badges : List ℕ) (server : ℕ) {has : Bool} (m : has ≡ has_server mask server) where
  pub server-shown : has ≡ true → masked_text mask setpoints tags badges server
      ≡ server_text server (get_or setpoints server 0) (get_or tags server 0) (get_or badges server 0)
  server-shown e = rw (← m, e)

  pub server-passed : has ≡ false → masked_text mask setpoints tags badges server ≡ []
  server-passed e = rw (← m, e)

-- the text of an end
module _ (end : ℕ) where
  pub no_end : end ≡ 0 → end_text end ≡ 32 ∷ 45 ∷ []
  no_end e = rw (eq-eqb end 0 e)

  pub some_end : (end ≡ 0 → ⊥) → end_text end ≡ spaced end
  some_end d = rw (ne_eqb end 0 d)

-- a number of one digit
module _ (n : ℕ) (h : n < 10) where
  pub one-length : length (decimal n) ≡ 1
  one-length = rw (decimal-one n h)

  pub printed-one : {out left : List ℕ} {at next : ℕ} → Printed out at ((48 + n) ∷ []) next left → Printed out at (decimal n) next left
  printed-one p = rw (decimal-one n h) p

-- one server more
pub shown-more : (mask : ℕ) (setpoints tags badges : List ℕ) (n : ℕ) →
    servers_below mask setpoints tags badges (n + 1) ≡ servers_below mask setpoints tags badges n ++ masked_text mask setpoints tags badges n
shown-more mask setpoints tags badges n =
    sym (turns_more (λ server text. text ++ masked_text mask setpoints tags badges server) n [] refl refl)

-- printing a row of numbers, one by one
module _ (out : List ℕ) (at : ℕ) (h : at ≤ length out) where
  pub printed-nothing : Printed out at (spaced_all []) at out
  unfolding spaced_all
  printed-nothing = printed-none out at h

  pub printed-number : (numbers : List ℕ) (i : ℕ) {left last : List ℕ} {next end : ℕ} → i < length numbers
      → Printed out at (spaced_all (take i numbers)) next left → Printed left next (spaced (get_or numbers i 0)) end last → Printed out at (spaced_all (take (i + 1) numbers)) end last
  printed-number numbers i k p q = rw (spaced-more numbers i k) (printed_then out (spaced_all (take i numbers)) (spaced (get_or numbers i 0)) at h p q)

  -- printing what is shown of a mask, server by server
  module _ (mask : ℕ) (setpoints tags badges : List ℕ) where
    pub printed_no-server : Printed out at (servers_below mask setpoints tags badges 0) at out
    printed_no-server = rw (← turns-none (λ server text. text ++ masked_text mask setpoints tags badges server) []) (printed-none out at h)

    pub printed-server : (n : ℕ) {left last : List ℕ} {next end : ℕ}
        → Printed out at (servers_below mask setpoints tags badges n) next left
        → Printed left next (masked_text mask setpoints tags badges n) end last
        → Printed out at (servers_below mask setpoints tags badges (n + 1)) end last
    printed-server n p q =
        rw (shown-more mask setpoints tags badges n)
        (printed_then out (servers_below mask setpoints tags badges n) (masked_text mask setpoints tags badges n) at h p q)
