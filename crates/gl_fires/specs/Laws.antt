-- What a page that stands in a state of a session has for the actions of an event.
use Rattle.std.specs.Prelude.{◌≡◌, ℕ, List, map}
use Rattle.gl_ast.specs.Template.{Body}
use Rattle.gl_meaning.specs.Session as session
use Rattle.gl_meaning.specs.Actions.{paths_numbered}
use Rattle.gl_opc.specs.declared.app.App.{App}
use Rattle.gl_follows.specs.Sets.{held_of, AreOwn}
use Rattle.gl_code.specs.Tables.{env_of}
use Rattle.gl_code.specs.declared.page.Page.{Page}
use Rattle.gl_actions.specs.Sets.{Set}
use Rattle.gl_actions.specs.World.{sets_in}
use Rattle.gl_actions.specs.Reads.{Reads, Listens}
use Rattle.gl_actions.specs.Own.{shown_in, AreOwnSets}
use Rattle.gl_standing.specs.Standing.{StandsIn}
use Rattle.gl_fires.specs.Worlds.{world_of, puts_of}

-- It has what actions read,
abbrev pub HasWorld : Type 0
HasWorld = (a : App) (templates : List Body) (page : Page) (s : session.State) (x : StandsIn a templates page s) → Reads a page (world_of a templates page s x)

-- and the nodes with a number have the modifiers that stand at its paths.
abbrev pub Hears : Type 0
Hears =
    (a : App) (templates : List Body) (page : Page) (s : session.State) (x : StandsIn a templates page s)
    → (k : ℕ) → Listens (world_of a templates page s x) page k (paths_numbered k s.numbers.of)

-- Sets of its own, by the numbers of owners and the names of fields, are of fields of its instances, and with the names of owners they are those of
-- the meaning.
abbrev pub SetsAreOwn : Type 0
SetsAreOwn =
    (a : App) (templates : List Body) (page : Page) (s : session.State) (x : StandsIn a templates page s) (sets : List Set) → AreOwnSets a page sets
    → let w = world_of a templates page s x in
    AreOwn (env_of a templates).app x.follows.named.owner (shown_in a page) (puts_of w sets) × (map (held_of x.follows.named.owner) (puts_of w sets) ≡ sets_in w sets)
