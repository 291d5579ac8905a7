-- Numbers of calls with the bytes that each takes.
use Rattle.std.specs.Prelude.{◌==◌, ℕ, List, Option, option_map}
use Rattle.std.specs.List.{find}

-- a call's number, and how many bytes it takes
abbrev pub Cut : Type 0
Cut = ℕ × ℕ

-- how many bytes the call takes, by the first cut with its number
abbrev pub cut_of : List Cut → ℕ → Option ℕ
cut_of cuts call = option_map (λ c. c.1) (find (λ c. c.0 == call) cuts)
