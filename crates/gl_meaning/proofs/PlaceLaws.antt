-- What is read at places that persist, and which numbers nodes have.
use Rattle.std.proofs.Common.{◌≡◌, ℕ, List, ◌∷◌, map, Bool, true, false, Option, Some, None, refl, ap, subst}
use Rattle.std.specs.Prelude.{if◌then◌else◌, ◌↔◌, option_map}
use Rattle.gl_ast.specs.Template
use Rattle.gl_meaning.specs.App.{App, Event}
use Rattle.gl_meaning.specs.Path.{Path, at_path}
use Rattle.gl_meaning.specs.Scope
use Rattle.gl_meaning.specs.Eval
use Rattle.gl_meaning.specs.Render
use Rattle.gl_meaning.specs.Changes.{nodes, Numbers, number, Sets}
use Rattle.gl_meaning.specs.Actions.{lay}
use Rattle.gl_meaning.specs.Session.{State, Turn, applied, turn_of, step}
use Rattle.gl_meaning.specs.Known.{Among}
use Rattle.gl_meaning.specs.Laws.{In, Keeps, KeepsAll, keeps_none, keeps_more, IsUntouched, Reached}
use Rattle.gl_meaning.specs.PlaceLaws.{OnePlace, in_template, in_let, in_item, in_block}
use Rattle.gl_meaning.proofs.Alike
use Rattle.gl_meaning.proofs.Frame
use Rattle.gl_meaning.proofs.Numbers.{number_is_kept, others_are_numbered, nodes_are_numbered}
use Rattle.gl_meaning.proofs.Sessions.{stepped-turn, after-turns, laid}
use Rattle.gl_meaning.proofs.Touched.{frame, items_kept, cells_kept}

-- What is read

module _ (U : Scope.Source → Type 0) where
  names-same : {a b : Scope.NamedPairs} → Frame.KeepsNames U a b → map (λ n. n.0) a ≡ map (λ n. n.0) b
  names-same Frame.names_none = refl
  names-same (Frame.names_more {n = n} h hs) = ap (λ ns. n ∷ ns) (names-same hs)

  pairs-keep : {a b : Scope.NamedPairs} → Frame.KeepsNames U a b → KeepsAll U (map (λ n. n.1) a) (map (λ n. n.1) b)
  pairs-keep Frame.names_none = keeps_none
  pairs-keep (Frame.names_more h hs) = keeps_more h (pairs-keep hs)

  arguments-keep : {s t : Scope.Scope} → Frame.KeepsScope U s t → Frame.KeepsNames U (Scope.arguments_of s) (Scope.arguments_of t)
  arguments-keep (Frame.keeps_scope a l v) = a

  passed-keeps : {s t : Scope.Scope} → Frame.KeepsScope U s t → Frame.KeepsPassed U (Scope.passed_of s) (Scope.passed_of t)
  passed-keeps (Frame.keeps_scope a l v) = v

  -- the scopes that wrote what was passed
  writer-keeps : {ps qs : List Template.Part} {bs cs : Template.Slots} {u w : Scope.Scope} → Frame.KeepsPassed U (Scope.passed ps bs u) (Scope.passed qs cs w) → Frame.KeepsScope U u w
  writer-keeps (Frame.keeps_passed h) = h

module _ (app : App) (σ : Eval.Store) (sets : Sets) where
  abbrev U : Scope.Source → Type 0
  U x = IsUntouched (Render.draw app σ) (Render.draw app (lay sets σ)) sets x

  kept : {s t : Scope.Scope} → OnePlace app σ sets s t → Frame.KeepsScope U s t
  kept (in_template {s = s} {t = t} i f g m n) = (frame app σ sets (Render.component i s f) (Render.component i t g) m n refl).2
  kept (in_let ns es h) = let k = kept h in Alike.keeps-locals U k (Alike.keeps-bind U ns (Frame.eval_all_keeps U app σ (lay sets σ) (cells_kept app σ sets) k es))
  kept (in_item ns i x y f g h m n) =
      Alike.keeps-locals U (kept h) (Alike.keeps-bind U ns (Alike.entry-keeps U i x y (items_kept app σ sets (Render.item_region i x.value x.index f) (Render.item_region i y.value y.index g) m n refl)))
  kept (in_block {t = t} ns es ps qs bs cs u w h p q) =
      let k = kept h in
      let wrote = writer-keeps U (subst (λ z. Frame.KeepsPassed U (Scope.passed ps bs u) z) q (subst (λ z. Frame.KeepsPassed U z (Scope.passed_of t)) p (passed-keeps U k))) in
      Alike.keeps-locals U wrote (Alike.keeps-bind U ns (Frame.eval_all_keeps U app σ (lay sets σ) (cells_kept app σ sets) k es))

  pub read_is_kept : (s t : Scope.Scope) → OnePlace app σ sets s t → (e : Template.Expr) → Keeps U (Eval.eval app σ s e) (Eval.eval app (lay sets σ) t e)
  read_is_kept s t h e = Frame.eval_keeps U app σ (lay sets σ) (cells_kept app σ sets) (kept h) e

  pub values_are_kept : (s t : Scope.Scope) → OnePlace app σ sets s t → (es : Template.Exprs) → KeepsAll U (Eval.eval_all app σ s es) (Eval.eval_all app (lay sets σ) t es)
  values_are_kept s t h es = Frame.eval_all_keeps U app σ (lay sets σ) (cells_kept app σ sets) (kept h) es

  pub arguments_are_kept : (i : Path) (s t : Scope.Scope) (f g : Render.Forest) → In (Render.component i s f) (Render.draw app σ) → In (Render.component i t g) (Render.draw app (lay sets σ))
      → (map (λ n. n.0) (Scope.arguments_of s) ≡ map (λ n. n.0) (Scope.arguments_of t)) × KeepsAll U (map (λ n. n.1) (Scope.arguments_of s)) (map (λ n. n.1) (Scope.arguments_of t))
  arguments_are_kept i s t f g m n = let k = arguments-keep U (kept (in_template i f g m n)) in (names-same U k, pairs-keep U k)

-- Numbers

has-number : (ns : Numbers) (f : Render.Forest) (i : Path) → Among i (nodes f) → (o : Option ℕ) → at_path i ns.of ≡ o → (n : ℕ) × (at_path i (number ns f).of ≡ Some n)
has-number ns f i m (Some n) e = (n, number_is_kept ns f i n m e)
has-number ns f i m None e = let g = others_are_numbered ns f i m e in (g.0, g.2)

pub numbered_are_nodes : (app : App) (s : State) → Reached app s → (i : Path) → Among i (nodes s.rendering) ↔ ((n : ℕ) × (at_path i s.numbers.of ≡ Some n))
numbered_are_nodes app = after-turns app (λ s. (i : Path) → Among i (nodes s.rendering) ↔ ((n : ℕ) × (at_path i s.numbers.of ≡ Some n)))
    (λ s e q i. let f = Render.draw app (laid app s e) in ((λ m. has-number s.numbers f i m (at_path i s.numbers.of) refl), (λ g. nodes_are_numbered s.numbers f i g.0 g.1)))

pub number_persists : (app : App) (s : State) (e : Event) (t : Turn) → Reached app s → step app s (Some e) ≡ Some t → (i : Path) (n : ℕ) → at_path i s.numbers.of ≡ Some n → (at_path i t.state.numbers.of ≡ Some n) ↔ Among i (nodes t.state.rendering)
number_persists app s e t reached k i n a =
    let m = stepped-turn app s (Some e) t k in let f = Render.draw app (laid app s (Some e)) in
    subst (λ t. (at_path i t.state.numbers.of ≡ Some n) ↔ Among i (nodes t.state.rendering)) m.1 ((λ b. nodes_are_numbered s.numbers f i n b), (λ b. number_is_kept s.numbers f i n b a))

-- Turns

mapped : {A B : Type 0} (f : A → B) (x : A) (b : Bool) → (if b then Some (f x) else None) ≡ option_map f (if b then Some x else None)
mapped f x true = refl
mapped f x false = refl

pub step_renders : (app : App) (s : State) (e : Option Event) → let a = applied app s e in step app s e ≡ option_map (turn_of app s e a) (Render.render app (lay a.sets s.store))
step_renders app s e = let f = Render.draw app (laid app s e) in mapped (turn_of app s e (applied app s e)) f (Render.fits f)
