-- Texts worked out by the definition: what a READ shows of a station, and the register's line of a WRITE.
use Rattle.std.specs.Prelude.{◌≡◌, refl, [], ◌∷◌}
use Rattle.schedule.specs.Decimal.{digits, spaced_all}
use Rattle.printing.specs.Texts.{server_text, write_text}

pub record Texts : Type 0 where
  -- ` 0=1800@1#7`
  pub shown : server_text 0 1800 1 7 ≡ 32 ∷ 48 ∷ 61 ∷ 49 ∷ 56 ∷ 48 ∷ 48 ∷ 64 ∷ 49 ∷ 35 ∷ 55 ∷ []
  -- ` 15=0@0#65535`
  pub largest : server_text 15 0 0 65535 ≡ 32 ∷ 49 ∷ 53 ∷ 61 ∷ 48 ∷ 64 ∷ 48 ∷ 35 ∷ 54 ∷ 53 ∷ 53 ∷ 51 ∷ 53 ∷ []
  -- `W 1 0 1 2 15 0`
  pub finished : write_text 1 0 1 2 15 0 ≡ 87 ∷ 32 ∷ 49 ∷ 32 ∷ 48 ∷ 32 ∷ 49 ∷ 32 ∷ 50 ∷ 32 ∷ 49 ∷ 53 ∷ 32 ∷ 48 ∷ 10 ∷ []
  -- `W 1 0 1 2 - 7`: no end yet
  pub unfinished : write_text 1 0 1 2 0 7 ≡ 87 ∷ 32 ∷ 49 ∷ 32 ∷ 48 ∷ 32 ∷ 49 ∷ 32 ∷ 50 ∷ 32 ∷ 45 ∷ 32 ∷ 55 ∷ 10 ∷ []

texts : Texts
unfolding digits spaced_all
texts = record { shown = refl; largest = refl; finished = refl; unfinished = refl }
