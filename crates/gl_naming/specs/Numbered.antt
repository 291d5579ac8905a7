-- What a machine that names by numbers keeps of references, and of the modifiers of a turn.
use Rattle.std.specs.Prelude.{◌≡◌, ◌<◌, ℕ, List, [], ◌∷◌, Bool, Option, Some}
use Rattle.gl_meaning.specs.Path.{at}
use Rattle.gl_meaning.specs.Scope.{Source, item_value}
use Rattle.gl_plain.specs.Ids.{Id, ref, modifier_id}
use Rattle.gl_plain.specs.State.{Form, source_form, row, Thing, State}
use Rattle.gl_plain.specs.Reads.{RowsReadLower}

-- the source of the reference with that number
abbrev pub number : ℕ → Source
number r = item_value (at r ∷ [])

-- the reference of a source has the source of its own number, which was given: it is below n
abbrev pub OwnSource : ℕ → ℕ → Form → Type 0
OwnSource n r (source_form x v) = (x ≡ number r) × (r < n)
OwnSource n r _ = Unit {0}

-- what was read last has numbers below n: what holds of other sources doesn't matter
abbrev pub LastBelow : ℕ → ((Source → Bool) → Bool) → Type 0
LastBelow n last = (t u : Source → Bool) → ((k : ℕ) → k < n → t (number k) ≡ u (number k)) → last t ≡ last u

abbrev pub NumberedThing : ℕ → ℕ → Option Thing → Type 0
NumberedThing n r (Some (row x)) = OwnSource n r x.form × LastBelow n x.last
NumberedThing n r _ = Unit {0}

-- A reference reads only references with lower numbers. Where n is the next number of a reference, each source was given its number, and so
-- was each that was read when a reference was evaluated last.
abbrev pub IsNumbered : ℕ → (Id → Option Thing) → Type 0
IsNumbered n look = RowsReadLower look × ((r : ℕ) → NumberedThing n r (look (ref r)))

-- none of the modifiers is counted
abbrev pub NoneCounted : (Id → ℕ) → List ℕ → Type 0
NoneCounted count [] = Unit {0}
NoneCounted count (m ∷ ms) = (count (modifier_id m) ≡ 0) × NoneCounted count ms

-- no modifier that was installed or updated in this turn is counted
abbrev pub Unlisted : (Id → ℕ) → State → Type 0
Unlisted count st = NoneCounted count st.installs × NoneCounted count st.updates
