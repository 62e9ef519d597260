-- Lines and the steps they name, worked out by the definition: the readings that a schedule's author may ask about.
use Rattle.std.specs.Prelude.{◌≡◌, refl, [], ◌∷◌}
use Rattle.schedule.specs.declared.Step.TheVariants.{Open, BeginWrite, BeginRead, Request, Reply, Lose, Resend}
use Rattle.schedule.specs.Numbers.{digit_of, read_on, number_of, spaced_of, numbers_behind}
use Rattle.schedule.specs.Steps.{alone, unreadable, step_of}

-- lines that name a step
pub record Readable : Type 0 where
  -- `O 2 2 2`
  pub opens : step_of (79 ∷ 32 ∷ 50 ∷ 32 ∷ 50 ∷ 32 ∷ 50 ∷ []) ≡ alone (Open 2 2 2)
  -- `O 2 2 2 1200 30`
  pub setpoints : step_of (79 ∷ 32 ∷ 50 ∷ 32 ∷ 50 ∷ 32 ∷ 50 ∷ 32 ∷ 49 ∷ 50 ∷ 48 ∷ 48 ∷ 32 ∷ 51 ∷ 48 ∷ [])
      ≡ record { step = Open 2 2 2; setpoints = 1200 ∷ 30 ∷ [] }
  -- `W 0 3 0`: a WRITE with no setpoints
  pub write : step_of (87 ∷ 32 ∷ 48 ∷ 32 ∷ 51 ∷ 32 ∷ 48 ∷ []) ≡ alone (BeginWrite 0 3 0)
  -- `W 0 3 65535 1`: the largest badge
  pub badge : step_of (87 ∷ 32 ∷ 48 ∷ 32 ∷ 51 ∷ 32 ∷ 54 ∷ 53 ∷ 53 ∷ 51 ∷ 53 ∷ 32 ∷ 49 ∷ [])
      ≡ record { step = BeginWrite 0 3 65535; setpoints = 1 ∷ [] }
  -- `R 1 3`
  pub read : step_of (82 ∷ 32 ∷ 49 ∷ 32 ∷ 51 ∷ []) ≡ alone (BeginRead 1 3)
  -- `> 0 16`
  pub request : step_of (62 ∷ 32 ∷ 48 ∷ 32 ∷ 49 ∷ 54 ∷ []) ≡ alone (Request 0 16)
  -- `< 4294967295 0`
  pub largest : step_of (60 ∷ 32 ∷ 52 ∷ 50 ∷ 57 ∷ 52 ∷ 57 ∷ 54 ∷ 55 ∷ 50 ∷ 57 ∷ 53 ∷ 32 ∷ 48 ∷ []) ≡ alone (Reply 4294967295 0)
  -- `! 0 16`
  pub lose : step_of (33 ∷ 32 ∷ 48 ∷ 32 ∷ 49 ∷ 54 ∷ []) ≡ alone (Lose 0 16)
  -- `+ 0 16`
  pub resend : step_of (43 ∷ 32 ∷ 48 ∷ 32 ∷ 49 ∷ 54 ∷ []) ≡ alone (Resend 0 16)

readable : Readable
unfolding step_of numbers_behind spaced_of number_of read_on digit_of
readable = record {
  opens = refl;
  setpoints = refl;
  write = refl;
  badge = refl;
  read = refl;
  request = refl;
  largest = refl;
  lose = refl;
  resend = refl;
}

-- lines that name none
pub record Refused : Type 0 where
  -- ``: the empty line
  pub empty : step_of ([]) ≡ unreadable
  -- `O 2 2`: too few numbers
  pub no_clients : step_of (79 ∷ 32 ∷ 50 ∷ 32 ∷ 50 ∷ []) ≡ unreadable
  -- `W 0`
  pub no_mask : step_of (87 ∷ 32 ∷ 48 ∷ []) ≡ unreadable
  -- `W 0 3`: no badge
  pub no_badge : step_of (87 ∷ 32 ∷ 48 ∷ 32 ∷ 51 ∷ []) ≡ unreadable
  -- `W 0 3 65536 1`: a badge of 17 bits
  pub badge : step_of (87 ∷ 32 ∷ 48 ∷ 32 ∷ 51 ∷ 32 ∷ 54 ∷ 53 ∷ 53 ∷ 51 ∷ 54 ∷ 32 ∷ 49 ∷ []) ≡ unreadable
  -- `R 0`
  pub no_read_mask : step_of (82 ∷ 32 ∷ 48 ∷ []) ≡ unreadable
  -- `R 0 1 5`: too many
  pub third : step_of (82 ∷ 32 ∷ 48 ∷ 32 ∷ 49 ∷ 32 ∷ 53 ∷ []) ≡ unreadable
  -- `! 0`: no target
  pub no_target : step_of (33 ∷ 32 ∷ 48 ∷ []) ≡ unreadable
  -- `! 0 16 1`: one number too many
  pub lose_third : step_of (33 ∷ 32 ∷ 48 ∷ 32 ∷ 49 ∷ 54 ∷ 32 ∷ 49 ∷ []) ≡ unreadable
  -- `+ 0`
  pub no_resend_target : step_of (43 ∷ 32 ∷ 48 ∷ []) ≡ unreadable
  -- `+ 0 16 1`
  pub resend_third : step_of (43 ∷ 32 ∷ 48 ∷ 32 ∷ 49 ∷ 54 ∷ 32 ∷ 49 ∷ []) ≡ unreadable
  -- `R 0 1 `: a space at the end
  pub behind : step_of (82 ∷ 32 ∷ 48 ∷ 32 ∷ 49 ∷ 32 ∷ []) ≡ unreadable
  -- `R 0  1`: two spaces
  pub two_spaces : step_of (82 ∷ 32 ∷ 48 ∷ 32 ∷ 32 ∷ 49 ∷ []) ≡ unreadable
  -- ` R 0 1`: a space in front
  pub front : step_of (32 ∷ 82 ∷ 32 ∷ 48 ∷ 32 ∷ 49 ∷ []) ≡ unreadable
  -- `R\t0 1`: a tab
  pub tab : step_of (82 ∷ 9 ∷ 48 ∷ 32 ∷ 49 ∷ []) ≡ unreadable
  -- `R 0 1\r`: byte 13
  pub return : step_of (82 ∷ 32 ∷ 48 ∷ 32 ∷ 49 ∷ 13 ∷ []) ≡ unreadable
  -- `R 0 +5`: a sign
  pub sign : step_of (82 ∷ 32 ∷ 48 ∷ 32 ∷ 43 ∷ 53 ∷ []) ≡ unreadable
  -- `R 0 05`: a leading zero
  pub zero : step_of (82 ∷ 32 ∷ 48 ∷ 32 ∷ 48 ∷ 53 ∷ []) ≡ unreadable
  -- `R 0 4294967296`: too large
  pub large : step_of (82 ∷ 32 ∷ 48 ∷ 32 ∷ 52 ∷ 50 ∷ 57 ∷ 52 ∷ 57 ∷ 54 ∷ 55 ∷ 50 ∷ 57 ∷ 54 ∷ []) ≡ unreadable
  -- `Q 0 1`: another letter
  pub letter : step_of (81 ∷ 32 ∷ 48 ∷ 32 ∷ 49 ∷ []) ≡ unreadable
  -- `R0 1`: no space
  pub close : step_of (82 ∷ 48 ∷ 32 ∷ 49 ∷ []) ≡ unreadable

refused : Refused
unfolding step_of numbers_behind spaced_of number_of read_on digit_of
refused = record {
  empty = refl;
  no_clients = refl;
  no_mask = refl;
  no_badge = refl;
  badge = refl;
  no_read_mask = refl;
  third = refl;
  no_target = refl;
  lose_third = refl;
  no_resend_target = refl;
  resend_third = refl;
  behind = refl;
  two_spaces = refl;
  front = refl;
  tab = refl;
  return = refl;
  sign = refl;
  zero = refl;
  large = refl;
  letter = refl;
  close = refl;
}
