-- The elements that have no end tag.
use Rattle.std.specs.Prelude.{List, [], ◌∷◌, codes}
use Rattle.gl_base.specs.Texts.{Text}

unfoldable pub void_names : List Text
void_names =
    codes "area" ∷ codes "base" ∷ codes "br" ∷ codes "col" ∷ codes "embed" ∷ codes "hr" ∷ codes "img"
    ∷ codes "input" ∷ codes "link" ∷ codes "meta" ∷ codes "param" ∷ codes "source" ∷ codes "track" ∷ codes "wbr" ∷ []
