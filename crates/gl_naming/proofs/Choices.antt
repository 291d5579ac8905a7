-- What stands where there is a list, and where there is none.
use Rattle.gl_value.specs.Value.{Values, no_values, value}
use Rattle.gl_meaning.specs.Path.{Path}
use Rattle.gl_plain.specs.Stands.{WhereValues}

pub where_list : (Q : Type 0) (vs : Values Path) (P : Values Path → Type 0) → ((us : Values Path) → P us → Q) → WhereValues vs P ⊥ → Q
where_list Q no_values P k h = absurd h
where_list Q (value v vs) P k h = k (value v vs) h

pub where_else : (Q : Type 0) (vs : Values Path) (P : Type 0) → (P → Q) → WhereValues vs (λ us. ⊥) P → Q
where_else Q no_values P k h = k h
where_else Q (value v vs) P k h = absurd h
