-- What comparing gives by the number of a refusal is what it gives by its cause.
use Rattle.std.specs.Prelude.{ℕ, ◌≡◌, refl, Option, None, Result, Ok, Err}
use Rattle.std.specs.Option.{option_map_or}
use Rattle.std.specs.Result.{result_err, result_map_both, result_unwrap_or}
use Rattle.causes.specs.declared.Refusal.{Refusal}
use Rattle.causes.specs.Numbers.{number_of}
use Rattle.recordings.specs.declared.Difference.{Difference}
use Rattle.recordings.specs.Compared.{Compared, Refused}
use Rattle.recordings.specs.Results.{agreement_by, compared_by}

pub compared-numbered : (r : Result (Option Difference) Refusal) {s : Result (Option Difference) ℕ} →
    s ≡ result_map_both (λ given. given) number_of r →
    option_map_or Refused (result_err s) (agreement_by (result_unwrap_or s None)) ≡ compared_by r
compared-numbered (Ok _) e = rw e
compared-numbered (Err _) e = rw e
