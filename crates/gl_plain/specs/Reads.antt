-- What references read.
use Rattle.std.specs.Prelude.{◌<◌, ℕ, List, [], ◌∷◌, ◌++◌, Option, Some}
use Rattle.gl_plain.specs.Ids.{Id, ref}
use Rattle.gl_plain.specs.State.{Form, constant_form, source_form, property_form, call_form, joined_form, all_form, refs_of, row, Thing}

-- the references that a form reads
abbrev pub reads : Form → List ℕ
reads (constant_form v) = []
reads (source_form x v) = []
reads (property_form r k) = r ∷ []
reads (call_form n rs ns) = rs ++ refs_of ns
reads (joined_form rs) = rs
reads (all_form rs) = rs

abbrev pub IdsBelow : ℕ → List ℕ → Type 0
IdsBelow b [] = Unit {0}
IdsBelow b (r ∷ rs) = (r < b) × IdsBelow b rs

-- where a thing is a reference's row, it reads none but lower numbers
abbrev pub ReadsLower : ℕ → Option Thing → Type 0
ReadsLower n (Some (row x)) = IdsBelow n (reads x.form)
ReadsLower n _ = Unit {0}

-- A reference reads only references with lower numbers.
abbrev pub RowsReadLower : (Id → Option Thing) → Type 0
RowsReadLower look = (n : ℕ) → ReadsLower n (look (ref n))
