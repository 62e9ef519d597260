-- Worked examples of the badge that a WRITE carries: 16 bits are enough, and no fewer.
use Rattle.std.specs.Prelude.{◌≡◌, refl}
use Rattle.refusals.specs.Steps.{badge_of}

pub record Examples : Type 0 where
  pub none : badge_of 0 ≡ 0
  pub some : badge_of 300 ≡ 300
  pub last : badge_of 65535 ≡ 65535

pub examples : Examples
examples = record { none = refl; some = refl; last = refl }
