-- What a page that stands in a state shows.
use Rattle.std.specs.Prelude.{◌≡◌, ◌<◌, List, None}
use Rattle.gl_ast.specs.Template.{Body}
use Rattle.gl_meaning.specs.Session as session
use Rattle.gl_opc.specs.declared.app.App.{App}
use Rattle.gl_plain.specs.Ids.{Id}
use Rattle.gl_plain.specs.Live.{times}
use Rattle.gl_plain.specs.Drawn.{drawn_app}
use Rattle.gl_naming.specs.Renamed.{there_with}
use Rattle.gl_kept.specs.Around.{IsThing}
use Rattle.gl_machine.specs.Code.{live_of}
use Rattle.gl_vm.specs.View.{state_of}
use Rattle.gl_code.specs.CodeView.{seen_code}
use Rattle.gl_code.specs.Tables.{env_of, tables_of}
use Rattle.gl_code.specs.declared.page.Page.{Page}
use Rattle.gl_standing.specs.Standing.{StandsIn}

-- With the names that it has of owners and sources it shows the state's rendering.
abbrev pub StandingShows : Type 0
StandingShows =
    (a : App) (templates : List Body) (page : Page) (s : session.State) (x : StandsIn a templates page s)
    → let n = tables_of (env_of a templates).manifest in
    drawn_app (env_of a templates).app (λ q. there_with x.follows.named.owner x.follows.named.source ((state_of n page.vm x.touched).look q)) (live_of (seen_code n page.code)) ≡ s.rendering

-- What its machine keeps is just what its updating program names: an id names a thing exactly where the program counts it, one of its kind,
-- and a reference reads only references of the program. So nothing is kept of what stands there no more.
abbrev pub NothingElse : Type 0
NothingElse =
    (a : App) (templates : List Body) (page : Page) (s : session.State) (x : StandsIn a templates page s) (q : Id)
    → let n = tables_of (env_of a templates).manifest in let l = live_of (seen_code n page.code) in let there = (state_of n page.vm x.touched).look q in
    (0 < times q l → IsThing (λ r. times r l) q.kind there) × (times q l ≡ 0 → there ≡ None)
