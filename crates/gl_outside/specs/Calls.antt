-- Numbers of calls.
use Rattle.std.specs.Prelude.{◌==◌, ℕ, Bool, List}
use Rattle.std.specs.List.{list_any}

-- the call's number stands in the list
abbrev pub is_listed : List ℕ → ℕ → Bool
is_listed calls call = list_any (λ c. c == call) calls
