-- The parts of an element with the machine's scopes that wrote them. The rules are those of the meaning, which hold for any type of scope.
use Rattle.std.specs.Prelude.{ℕ, List, []}
use Rattle.gl_ast.specs.Template.{Part}
use Rattle.gl_meaning.specs.Scope.{Pair, Scope}
use Rattle.gl_meaning.specs.Parts.{Written, WrittenValue, WrittenModifier, spread_in}
use Rattle.gl_plain.specs.State.{MScope, mscope, MPassed, mnothing, mpassed, passed_in, scope_by}

-- What `...attributes` stands for: the parts that the invocation wrote, along the chain of the scopes that wrote.
abbrev pub mpassed_parts : MPassed → List (Written MScope)
mpassed_parts mnothing = []
mpassed_parts (mpassed b ps bs (mscope i a l w)) = spread_in (mpassed_parts w) (mscope i a l w) ps

abbrev pub mwritten_parts : MScope → List Part → List (Written MScope)
mwritten_parts s ps = spread_in (mpassed_parts (passed_in s)) s ps

-- What the meaning has for them, from what references mean.

abbrev pub written_by : (ℕ → Pair) → Written MScope → Written Scope
written_by f w = record { part = w.part; by = scope_by f w.by }

abbrev pub value_by : (ℕ → Pair) → WrittenValue MScope → WrittenValue Scope
value_by f w = record { name = w.name; value = w.value; by = scope_by f w.by }

abbrev pub modifier_by : (ℕ → Pair) → WrittenModifier MScope → WrittenModifier Scope
modifier_by f w = record { name = w.name; args = w.args; names = w.names; by = scope_by f w.by }
