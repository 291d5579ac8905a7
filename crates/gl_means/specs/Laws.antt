-- The laws of what references mean.
use Rattle.std.specs.Prelude.{◌≡◌, ℕ, List, [], map, filter_map, Bool, false, Option}
use Rattle.gl_ast.specs.Template.{Expr, Exprs}
use Rattle.gl_arena.specs.Id as arena
use Rattle.gl_meaning.specs.App.{App}
use Rattle.gl_meaning.specs.Actions.{lay}
use Rattle.gl_meaning.specs.Path.{Path}
use Rattle.gl_meaning.specs.Scope.{Source}
use Rattle.gl_meaning.specs.Eval.{Store, eval, eval_all}
use Rattle.gl_meaning.specs.Known.{Among}
use Rattle.gl_meaning.specs.Render.{Forest, draw}
use Rattle.gl_meaning.specs.Changes.{Position, positions, Sets, stale}
use Rattle.gl_meaning.specs.Session as session
use Rattle.gl_plain.specs.Ids.{Id}
use Rattle.gl_plain.specs.State.{MScope, scope_by, Thing, State}
use Rattle.gl_plain.specs.Live.{Live}
use Rattle.gl_plain.specs.Machine.{OnlyTouched}
use Rattle.gl_turns.specs.Places.{position_in, places}
use Rattle.gl_naming.specs.Laws.{IsOneToOne}
use Rattle.gl_naming.specs.Named.{Named}
use Rattle.gl_naming.specs.Renamed.{state_with}
use Rattle.gl_follows.specs.Turns.{FollowsBy}
use Rattle.gl_vm.specs.View.{Tables, state_of}
use Rattle.gl_vm.specs.declared.vm.Vm.{Vm}
use Rattle.gl_means.specs.Means.{sees, meant, Gave, Computes, ComputeAll, HasRead, MeansStill, Evaluated, EvaluatedIn}

-- Expressions

-- A reference that computes an expression means, with the names, what the expression gives in its scope: the value, and the sources in order.
abbrev pub ExpressionMeans : Type 0
ExpressionMeans =
    (f : Path → Path) (g : Source → Source) → IsOneToOne f → (app : App) (τ : Store) (ms : MScope) (e : Expr) (look : Id → Option Thing) (r : ℕ)
    → Computes f g app τ ms e look r → sees f g look r ≡ eval app τ (scope_by (sees f g look) ms) e

abbrev pub ExpressionsMean : Type 0
ExpressionsMean =
    (f : Path → Path) (g : Source → Source) → IsOneToOne f → (app : App) (τ : Store) (ms : MScope) (es : Exprs) (look : Id → Option Thing) (rs : List ℕ)
    → ComputeAll f g app τ ms es look rs → map (sees f g look) rs ≡ eval_all app τ (scope_by (sees f g look) ms) es

-- So in code, where the state that is kept has it so ..
abbrev pub MeansExpression : Vm → arena.Id → Type 0
MeansExpression vm id =
    (f : Path → Path) (g : Source → Source) → IsOneToOne f → (n : Tables) (touched : Source → Bool) (app : App) (τ : Store) (ms : MScope) (e : Expr)
    → let now = (state_of n vm touched).look in Computes f g app τ ms e now id.1 → meant f g vm.refs id ≡ eval app τ (scope_by (sees f g now) ms) e

-- .. and of what is kept of its last evaluation.
abbrev pub KeepsExpression : Vm → arena.Id → Type 0
KeepsExpression vm id =
    (f : Path → Path) (g : Source → Source) → IsOneToOne f → (n : Tables) (touched : Source → Bool) (app : App) (τ : Store) (ms : MScope) (e : Expr)
    → let now = (state_of n vm touched).look in Computes f g app τ ms e now id.1 → Gave f g vm.refs id (eval app τ (scope_by (sees f g now) ms) e)

-- Positions

-- Each position of the tree has one of the rendering, and each of the rendering one of the tree, with which P holds.
abbrev pub Together : (Path × ℕ → Position → Type 0) → Live → Forest → Type 0
Together P l drawn =
    ((z : Path × ℕ) → Among z (filter_map position_in (places [] l)) → (o : Position) × Among o (positions drawn) × P z o)
    × ((o : Position) → Among o (positions drawn) → (z : Path × ℕ) × Among z (filter_map position_in (places [] l)) × P z o)

-- Where the machine stands for the rendering over a store, each position last read the sources of what its expressions give over that store,
-- also while the cells hold another one.
abbrev pub PositionsKeep : Type 0
PositionsKeep = (app : App) (σ τ : Store) (st : State) (l : Live) (x : Named app σ τ st l) → Together (HasRead x.source st) l (draw app σ)

-- What it reads means, where only touched cells hold something else now, each Pair still of which no source was touched.
abbrev pub PositionsStill : Type 0
PositionsStill =
    (app : App) (σ τ : Store) (st : State) (l : Live) (x : Named app σ τ st l) (touched : Source → Bool) → OnlyTouched app σ τ (state_with x.owner x.source touched st)
    → Together (MeansStill x.owner x.source touched st) l (draw app σ)

-- So between the sets of an event and the update: a position that persists and isn't stale was evaluated, and would be again, to what its
-- expressions give over the cells of now.
abbrev pub FreshStands : Type 0
FreshStands =
    (app : App) (σ : Store) (sets : Sets) (st : State) (l : Live) (x : Named app σ (lay sets σ) st l) → let old = draw app σ in let new = draw app (lay sets σ) in
    (z : Path × ℕ) (o : Position) → Among z (filter_map position_in (places [] l)) → Among o (positions new) → o.path ≡ z.0 → stale old new sets z.0 ≡ false
    → Evaluated x.owner x.source st z o

-- Where the cells hold the store that is rendered, so is each position.
abbrev pub PositionsStand : Type 0
PositionsStand = (app : App) (τ : Store) (st : State) (l : Live) (x : Named app τ τ st l) → Together (Evaluated x.owner x.source st) l (draw app τ)

-- So in code, where the machine follows a state of a session ..
abbrev pub EvaluatesPositions : Vm → Type 0
EvaluatesPositions vm =
    (n : Tables) (touched : Source → Bool) (app : App) (s : session.State) (l : Live) (x : FollowsBy app s (state_of n vm touched) l)
    → Together (EvaluatedIn x.named.owner x.named.source vm.refs) l s.rendering

-- .. and between the sets of an event and the update.
abbrev pub FreshPositions : Vm → Type 0
FreshPositions vm =
    (n : Tables) (touched : Source → Bool) (app : App) (σ : Store) (sets : Sets) (l : Live) (x : Named app σ (lay sets σ) (state_of n vm touched) l) → let old = draw app σ in let new = draw app (lay sets σ) in
    (z : Path × ℕ) (o : Position) → Among z (filter_map position_in (places [] l)) → Among o (positions new) → o.path ≡ z.0 → stale old new sets z.0 ≡ false
    → EvaluatedIn x.owner x.source vm.refs z o
