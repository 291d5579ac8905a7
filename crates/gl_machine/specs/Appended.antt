-- What a body that is appended, from anywhere and in any state, stands for.
use Rattle.std.specs.Prelude.{◌≡◌, ◌<◌, ◌≤◌, ℕ, true, false}
use Rattle.gl_ast.specs.Template.{Body}
use Rattle.gl_meaning.specs.App.{App}
use Rattle.gl_meaning.specs.Path.{Path}
use Rattle.gl_meaning.specs.Scope.{Scope, passed_of}
use Rattle.gl_meaning.specs.Eval.{Store}
use Rattle.gl_meaning.specs.Render.{Forest, render_body, yields_of, components_at, fits}
use Rattle.gl_plain.specs.Ids.{Id}
use Rattle.gl_plain.specs.State.{MScope, State}
use Rattle.gl_plain.specs.Live.{times_in}
use Rattle.gl_plain.specs.Stands.{StandIn, Owned}
use Rattle.gl_plain.specs.Drawn.{drawn_in}
use Rattle.gl_machine.specs.Code.{Codes, lives_of}
use Rattle.gl_machine.specs.Outcome.{Outcome, ok, deep, lost}

-- the rendering of a body in a scope at a path, with m levels of nesting left
abbrev pub rendering_of : App → Store → ℕ → Scope → Path → Body → Forest
rendering_of app store m s p b = let inner = components_at m app store in render_body app store inner (yields_of app store inner (passed_of s)) s p 0 b

-- In the machine's scope ms, of which the references have numbers below `low` and which is the scope s: what was appended in the state st,
-- as it is in the state after it.
pub record Appended (app : App) (store : Store) (m low : ℕ) (s : Scope) (ms : MScope) (p : Path) (b : Body) (st st' : State) (cs : Codes) : Type 0 where
  pub stands : StandIn app store store st'.look m low s ms p 0 b (lives_of cs)
  -- it shows the rendering, which nests no deeper than it may
  pub shows : drawn_in app st'.look ms p 0 b (lives_of cs) ≡ rendering_of app store m s p b
  pub fine : fits (rendering_of app store m s p b) ≡ true
  -- all that was there is as it was, and its ids were never given before
  pub others : (q : Id) → q.num < st.next q.kind → st'.look q ≡ st.look q
  pub rises : (q : Id) → st.next q.kind ≤ st'.next q.kind
  pub new : (q : Id) → q.num < st.next q.kind → times_in q (lives_of cs) ≡ 0
  pub owned : Owned st' (λ q. times_in q (lives_of cs))

-- It is so, or the rendering nests too deep.
abbrev pub Answers : App → Store → ℕ → ℕ → Scope → MScope → Path → Body → State → Outcome (Codes × State) → Type 0
Answers app store m low s ms p b st (ok x) = Appended app store m low s ms p b st x.1 x.0
Answers app store m low s ms p b st deep = fits (rendering_of app store m s p b) ≡ false
Answers app store m low s ms p b st lost = Unit {0}
