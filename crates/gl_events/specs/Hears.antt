-- When a page hears as a rendering does.
use Rattle.std.specs.Prelude.{ℕ, List, flat_map}
use Rattle.gl_base.specs.Texts.{Text}
use Rattle.gl_meaning.specs.Path.{V}
use Rattle.gl_meaning.specs.Changes.{Numbers}
use Rattle.gl_meaning.specs.Actions.{listeners, paths_numbered}
use Rattle.gl_code.specs.declared.page.Page.{Page}
use Rattle.gl_actions.specs.World.{World}
use Rattle.gl_actions.specs.Reads.{Listens}

-- what listens in the rendering at the node with a number
abbrev pub listeners_at : World → Numbers → ℕ → Text → List V
listeners_at w numbers q name = flat_map (λ p. listeners w.forest p name) (paths_numbered q numbers.of)

-- The page hears as the rendering: the nodes with a number are those at the paths that have it, with the same modifiers in order.
abbrev pub Hears : World → Page → Numbers → Type 0
Hears w page numbers = (q : ℕ) → Listens w page q (paths_numbered q numbers.of)
