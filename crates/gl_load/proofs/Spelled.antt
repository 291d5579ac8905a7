-- What the bytes of a template are read as, where the parser tells what they spell.
use Rattle.std.proofs.Common.{◌≡◌, ℕ, List, Option, Some, None, refl}
use Rattle.gl_ast.specs.Grammar.{Spells}
use Rattle.gl_ast.specs.Template.{Body}
use Rattle.gl_parse.specs.ReadStmt.{template_of}
use Rattle.gl_parse.proofs.SpellsRead.{read_spells}

none_left : (read : Option Body) → ((b : Body) → read ≡ Some b → ⊥) → read ≡ None
none_left None never = refl
none_left (Some b) never = absurd (never b refl)

pub nothing_read : (bytes : List ℕ) → ((b : Body) → Spells bytes b → ⊥) → template_of bytes ≡ None
nothing_read bytes never = none_left (template_of bytes) (λ b is. never b (read_spells bytes b is))
