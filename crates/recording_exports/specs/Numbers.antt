-- What comparing answers, as the number by which it crosses to other languages.
use Rattle.std.specs.Prelude.{ℕ, ◌+◌, ◌*◌}
use Rattle.recordings.specs.Compared.{Compared}
use Rattle.recordings.specs.Compared.{Agree, Differ, Refused}

-- a difference: 2^32, and below it panel and target as digits to the base 256, the place behind them in 16 bits
abbrev pub differ_number : ℕ → ℕ → ℕ → ℕ
differ_number client target place = 4294967296 + (client * 256 + target) * 65536 + place

-- 0 where they agree; a refusal is its own number, below 256
abbrev pub compared_number : Compared → ℕ
compared_number Agree = 0
compared_number (Differ client target place) = differ_number client target place
compared_number (Refused n) = n
