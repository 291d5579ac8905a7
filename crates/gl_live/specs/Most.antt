-- The greatest count.
use Rattle.std.specs.Prelude.{ℕ, ◌-◌, ◌^◌}

-- the last number of 64 bits
unfoldable pub most : ℕ
most = 2 ^ 64 - 1
