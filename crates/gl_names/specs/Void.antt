-- The names of the elements that have no end tag, each with its place in the order of names.
use Rattle.std.specs.Prelude.{[], ◌∷◌, codes}
use Rattle.gl_names.specs.Table.{Rows}

unfoldable pub void_rows : Rows
void_rows =
    (codes "area", 0) ∷ (codes "base", 1) ∷ (codes "br", 2) ∷ (codes "col", 3) ∷ (codes "embed", 4) ∷
    (codes "hr", 5) ∷ (codes "img", 6) ∷ (codes "input", 7) ∷ (codes "link", 8) ∷ (codes "meta", 9) ∷
    (codes "param", 10) ∷ (codes "source", 11) ∷ (codes "track", 12) ∷ (codes "wbr", 13) ∷ []
