-- "What the members were promised of a method A run holds for runs whose opening and accepted begins go by the rules as they stood
-- before this request, kept as definitions for it, and whose other steps, refused begins too, go by these": the machine of such runs. Its
-- steps are today's, and openings and begins by the former rules (`refusals/Former`); it plays every method, and A's runs among them.
use Rattle.std.specs.Prelude.{ℕ, List}
use Rattle.refusals.specs.Former.{former_open, former_begin_write, former_begin_read}
use Rattle.claim.specs.Steps.{Step, opening, beginning-write, beginning-read, request, reply, losing, resending}
use Rattle.claim.specs.Steps.{opened, begun-write, begun-read, leaving, Machine, play}

pub data MixedStep : Type 0 where
  today : Step → MixedStep
  former-opening : (method k p : ℕ) → List ℕ → MixedStep
  former-write : (client mask badge : ℕ) → List ℕ → MixedStep
  former-read : (client mask : ℕ) → MixedStep

abbrev pub mixed : Machine MixedStep
mixed (today step) t = play step t
mixed (former-opening method k p setpoints) t = leaving (opened method k p setpoints) (former_open method k p setpoints t)
mixed (former-write q mask badge setpoints) t = leaving (begun-write q mask badge setpoints) (former_begin_write q mask badge setpoints t)
mixed (former-read q mask) t = leaving (begun-read q mask) (former_begin_read q mask t)

-- a list of steps with all its openings and begins by the former rules
abbrev pub formerly : Step → MixedStep
formerly (opening method k p setpoints) = former-opening method k p setpoints
formerly (beginning-write q mask badge setpoints) = former-write q mask badge setpoints
formerly (beginning-read q mask) = former-read q mask
formerly (request q i) = today (request q i)
formerly (reply q i) = today (reply q i)
formerly (losing q i) = today (losing q i)
formerly (resending q i) = today (resending q i)

abbrev pub play_formerly : Machine Step
play_formerly step t = mixed (formerly step) t
