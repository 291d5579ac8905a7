-- Laws on places that persist: what an expression at one reads, how deep components stand, and which numbers nodes have.
use Rattle.std.specs.Prelude.{◌≡◌, ◌≤◌, ◌↔◌, ℕ, suc, List, map, Option, Some, option_map}
use Rattle.gl_base.specs.Texts.{Text}
use Rattle.gl_ast.specs.Template.{Expr, Exprs, Part, Slots}
use Rattle.gl_meaning.specs.App.{App, Event}
use Rattle.gl_meaning.specs.Path.{Path, at_path, nesting}
use Rattle.gl_meaning.specs.Scope.{Scope, passed, passed_of, arguments_of, with_locals, bind}
use Rattle.gl_meaning.specs.Eval.{Store, eval, eval_all}
use Rattle.gl_meaning.specs.Render.{component, item_region, too_deep, Forest, Entry, entry_pairs, draw, render}
use Rattle.gl_meaning.specs.Changes.{Sets, nodes}
use Rattle.gl_meaning.specs.Actions.{lay}
use Rattle.gl_meaning.specs.Session.{State, Turn, applied, turn_of, step}
use Rattle.gl_meaning.specs.Known.{Among}
use Rattle.gl_meaning.specs.Laws.{In, Keeps, KeepsAll, IsUntouched, Reached}

-- What is read

-- The scopes of one place before and after some sets. Such a place is the template of an instance that is in both renderings; and where
-- one is, there are further ones in it: the body of a `let`, that of an item which is in both renderings, and the block that a `yield`
-- shows. So these are the scopes in which an expression at a place that persists is evaluated.
pub data OnePlace (app : App) (store : Store) (sets : Sets) : Scope → Scope → Type 0 where
  in_template : {s t : Scope} (i : Path) (f g : Forest)
      → In (component i s f) (draw app store) → In (component i t g) (draw app (lay sets store))
      → OnePlace app store sets s t
  in_let : {s t : Scope} (ns : List Text) (es : Exprs) → OnePlace app store sets s t
      → OnePlace app store sets (with_locals (bind ns (eval_all app store s es)) s) (with_locals (bind ns (eval_all app (lay sets store) t es)) t)
  in_item : {s t : Scope} (ns : List Text) (i : Path) (x y : Entry) (f g : Forest) → OnePlace app store sets s t
      → In (item_region i x.value x.index f) (draw app store) → In (item_region i y.value y.index g) (draw app (lay sets store))
      → OnePlace app store sets (with_locals (bind ns (entry_pairs i x)) s) (with_locals (bind ns (entry_pairs i y)) t)
  in_block : {s t : Scope} (ns : List Text) (es : Exprs) (ps qs : List Part) (bs cs : Slots) (u w : Scope) → OnePlace app store sets s t
      → passed_of s ≡ passed ps bs u → passed_of t ≡ passed qs cs w
      → OnePlace app store sets (with_locals (bind ns (eval_all app store s es)) u) (with_locals (bind ns (eval_all app (lay sets store) t es)) w)

-- An expression at a place that persists gives the same Pair where no source that it read is touched.
abbrev pub ReadIsKept : Type 0
ReadIsKept =
    (app : App) (store : Store) (sets : Sets) (s t : Scope) → OnePlace app store sets s t → (e : Expr)
    → Keeps (IsUntouched (draw app store) (draw app (lay sets store)) sets) (eval app store s e) (eval app (lay sets store) t e)

-- Each value of a `let` and of a `yield` at a place that persists does so too.
abbrev pub ValuesAreKept : Type 0
ValuesAreKept =
    (app : App) (store : Store) (sets : Sets) (s t : Scope) → OnePlace app store sets s t → (es : Exprs)
    → KeepsAll (IsUntouched (draw app store) (draw app (lay sets store)) sets) (eval_all app store s es) (eval_all app (lay sets store) t es)

-- An instance that is in both renderings has arguments of the same names, and each that read nothing touched is the same.
abbrev pub ArgumentsAreKept : Type 0
ArgumentsAreKept =
    (app : App) (store : Store) (sets : Sets) → let old = draw app store in let new = draw app (lay sets store) in
    (i : Path) (s t : Scope) (f g : Forest) → In (component i s f) old → In (component i t g) new
    → (map (λ n. n.0) (arguments_of s) ≡ map (λ n. n.0) (arguments_of t))
    × KeepsAll (IsUntouched old new sets) (map (λ n. n.1) (arguments_of s)) (map (λ n. n.1) (arguments_of t))

-- Nesting

-- Each component that is rendered has a nesting of at most the limit.
abbrev pub ComponentsNest : Type 0
ComponentsNest = (app : App) (store : Store) (i : Path) (s : Scope) (f : Forest) → In (component i s f) (draw app store) → nesting i ≤ app.limit

-- Each that is too deep would have just one more.
abbrev pub DeepIsOneMore : Type 0
DeepIsOneMore = (app : App) (store : Store) (i : Path) → In (too_deep i) (draw app store) → nesting i ≡ suc app.limit

-- Numbers

-- After each turn the paths that have a number are those of the nodes.
abbrev pub NumberedAreNodes : Type 0
NumberedAreNodes = (app : App) (s : State) → Reached app s → (i : Path) → Among i (nodes s.rendering) ↔ ((n : ℕ) × (at_path i s.numbers.of ≡ Some n))

-- In each turn a node keeps its number exactly where its path persists.
abbrev pub NumberPersists : Type 0
NumberPersists =
    (app : App) (s : State) (e : Event) (t : Turn) → Reached app s → step app s (Some e) ≡ Some t
    → (i : Path) (n : ℕ) → at_path i s.numbers.of ≡ Some n → (at_path i t.state.numbers.of ≡ Some n) ↔ Among i (nodes t.state.rendering)

-- Turns

-- A step is the turn of the rendering of the cells that its event leaves, where there is one.
abbrev pub StepRenders : Type 0
StepRenders =
    (app : App) (s : State) (e : Option Event) → let a = applied app s e in
    step app s e ≡ option_map (turn_of app s e a) (render app (lay a.sets s.store))
