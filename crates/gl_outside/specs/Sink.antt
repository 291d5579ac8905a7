-- When a put may want memory.
use Rattle.std.specs.Prelude.{◌≡◌, ◌<◌, ◌-◌, ◌^◌, ◌⊎◌, ℕ}

-- the last value of a count, which a u64 keeps
abbrev pub last_count : ℕ
last_count = 2 ^ 64 - 1

-- the count of wants rose, or one of the two counts stood at its last value
abbrev pub Wanted : ℕ → ℕ → ℕ → Type 0
Wanted faults wants_before wants_now = (wants_before < wants_now) ⊎ (faults ≡ last_count) ⊎ (wants_before ≡ last_count)
