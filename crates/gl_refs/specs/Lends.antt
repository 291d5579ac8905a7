-- What references end as, once a reference to a value in them has ended.
use Rattle.std.specs.Prelude.{⊤}
use Rattle.std.specs.Borrow.{Fml, MutBor, follows_so}
use mathlib.Core.Option.{none}
use Rattle.gl_refs.specs.Refs.{Refs}
use Rattle.gl_refs.specs.contracts.refs.Refs.{the_row}

-- this holds of them then
abbrev pub Rests : MutBor Refs → (Refs → Type 0) → Fml
Rests r P = follows_so the_row the_row r.ghost_name none (λ _ _. ⊤) P
