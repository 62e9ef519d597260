-- What the functions return, as what comparing gives: a refusal goes by the number of its cause.
use Rattle.std.specs.Prelude.{ℕ, Result, Ok, Err, Option, None, Some}
use Rattle.causes.specs.declared.Refusal.{Refusal}
use Rattle.causes.specs.Numbers.{number_of}
use Rattle.recordings.specs.declared.Difference.{Difference}
use Rattle.recordings.specs.Place as place
use Rattle.recordings.specs.Compared as compared

abbrev pub place_by : Option ℕ → place.Place
place_by None = place.Nowhere
place_by (Some n) = place.At n

abbrev pub agreement_by : Option Difference → compared.Compared
agreement_by None = compared.Agree
agreement_by (Some d) = compared.Differ d.client d.target d.place

abbrev pub compared_by : Result (Option Difference) Refusal → compared.Compared
compared_by (Ok o) = agreement_by o
compared_by (Err r) = compared.Refused (number_of r)
