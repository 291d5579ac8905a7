-- The rendering over which actions run, of a page that stands in a state of a session.
use Rattle.std.specs.Prelude.{List, map}
use Rattle.gl_ast.specs.Template.{Body}
use Rattle.gl_meaning.specs.Session as session
use Rattle.gl_meaning.specs.View.{manifest_view}
use Rattle.gl_opc.specs.declared.app.App.{App}
use Rattle.gl_follows.specs.Sets.{Put}
use Rattle.gl_vm.specs.Labels.{labelled}
use Rattle.gl_code.specs.declared.page.Page.{Page}
use Rattle.gl_actions.specs.Sets as s
use Rattle.gl_actions.specs.World.{World, owner_in, field_in}
use Rattle.gl_standing.specs.Standing.{StandsIn}

-- the application, the names of owners that the page has, the state's cells, and what it shows
abbrev pub world_of : (a : App) (templates : List Body) (page : Page) (s : session.State) → StandsIn a templates page s → World
world_of a templates page s x = record {
  manifest = manifest_view a.manifest;
  templates = templates;
  names = x.follows.named.owner;
  once = x.follows.named.once;
  touched = x.touched;
  store = s.store;
  forest = s.rendering;
}

-- a set by the number of its owner and the name of its field
abbrev pub put_of : World → s.Set → Put
put_of w x = record { owner = x.owner.1; field = field_in w (owner_in w x.owner.1) x.field; value = labelled x.to }

abbrev pub puts_of : World → List s.Set → List Put
puts_of w xs = map (put_of w) xs
