-- An arena with each value seen through a function: what a crate shows of values with a hidden part.
use Rattle.std.specs.Prelude.{ℕ, map, Option, Some, None}
use Rattle.gl_arena.specs.Arena.{Arena}

module _ {A B : Type 0} (f : A → B) where
  -- one place
  abbrev pub mapped_slot : Option (ℕ × A) → Option (ℕ × B)
  mapped_slot None = None
  mapped_slot (Some e) = Some (e.0, f e.1)

  -- the places hold what f makes of their values; the stamps and the count are the same
  abbrev pub mapped : Arena A → Arena B
  mapped a = record { slots = map mapped_slot a.slots; made = a.made }
