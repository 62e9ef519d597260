-- What is known of a file that was read: how many bytes of the space it takes, and that it is not cut.
use Rattle.std.specs.Prelude.{ℕ, ◌≤◌, ◌≡◌, Bool, true, false, not, List, length, take, replicate}
use Rattle.std.proofs.Common.{arith, sym, ◌∙◌, true≢false, length-take-le}
use Rattle.std.proofs.lemmas.List.{length-replicate}
use Rattle.ranges.specs.Tests.{holds}
use Rattle.recording_files.specs.File.{is_file}

pub record Holds (read : Bool) (n : ℕ) (space : List ℕ) : Type 0 where
  pub within : n ≤ length space
  pub counted : n ≡ length (take n space)
  pub whole : read ≡ true → is_file (take n space) ≡ true

-- the cases, as the code meets them: nothing was read, or a file
pub holds-none : (space : List ℕ) {read : Bool} {n : ℕ} → n ≡ 0 → read ≡ false → Holds read n space
holds-none space {n = n} e d =
    let h : n ≤ length space = omega arith in
    record { within = h; counted = sym (length-take-le n space h); whole = λ t. absurd (true≢false (sym t ∙ d)) }

pub holds_file : (space : List ℕ) {n : ℕ} {r : Bool} → n ≤ length space → r ≡ is_file (take n space) → not r ≡ false → Holds true n space
holds_file space {n} h e d = record { within = h; counted = sym (length-take-le n space h); whole = λ t. holds e d }

-- so many zeros
pub zeros-length : (n : ℕ) → n ≡ length {A = ℕ} (replicate n 0)
zeros-length n = sym (length-replicate n 0)
