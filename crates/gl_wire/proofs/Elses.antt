-- The rows of an else body that isn't empty, and those of a component that has blocks.
use Rattle.std.proofs.Common.{◌≡◌, List, [], ◌∷◌, ◌++◌, ℕ, refl}
use Rattle.std.specs.Prelude.{codes}
use Rattle.serde_json.specs.Data.{Data}
use Rattle.gl_base.specs.Texts.{Text}
use Rattle.gl_wire.specs.Json.{row, component_rows, body_rows, else_rows, end_row}
use Rattle.gl_wire.specs.Wire.{Stmt, Body, body_of, slots_of}
use Rattle.gl_wire.specs.declared.version.Version.{Version}
use Rattle.gl_wire.specs.declared.version.Version.TheVariants.{Second}

pub else_body : (version : Version) (ss : List Stmt) → (ss ≡ [] → ⊥) → else_rows version (body_of ss) ≡ row (codes "else") [] ∷ body_rows version (body_of ss)
else_body version [] some = absurd (some refl)
else_body version (s ∷ ss) some = refl

pub component_blocks : (a b c : Data) (inner : List Data) (ss : List (Text × (List ℕ × Body))) → (ss ≡ [] → ⊥) → component_rows Second (a ∷ b ∷ c ∷ []) (slots_of ss) inner ≡ row (codes "comp") (a ∷ b ∷ c ∷ []) ∷ (inner ++ end_row)
component_blocks a b c inner [] some = absurd (some refl)
component_blocks a b c inner (s ∷ ss) some = refl
