-- The elements without an end tag are the names of the table.
use Rattle.std.proofs.Common.{◌≡◌, ℕ, List, Bool, true, false, Option, Some, None, refl, ap, ◌∙◌}
use Rattle.std.specs.Prelude.{map, not, is_some, is_none}
use Rattle.gl_base.specs.Names.{has_text}
use Rattle.gl_ast.specs.Grammar.{is_void}
use Rattle.gl_ast.specs.Void.{void_names}
use Rattle.gl_names.specs.Void.{void_rows}

names_are : map (λ r. r.0) void_rows ≡ void_names
unfolding void_names void_rows
names_are = refl

some_is : {A : Type 0} (o : Option A) (b : Bool) → is_none o ≡ not b → is_some o ≡ b
some_is None true e = cc
some_is None false e = refl
some_is (Some x) true e = refl
some_is (Some x) false e = cc

pub void_found : (o : Option ℕ) (name tag : List ℕ) → is_none o ≡ not (has_text name (map (λ r. r.0) void_rows)) → name ≡ tag → is_some o ≡ is_void tag
void_found o name tag e same = some_is o (has_text name (map (λ r. r.0) void_rows)) e ∙ ap (λ ns. has_text name ns) names_are ∙ ap (λ n. has_text n void_names) same
