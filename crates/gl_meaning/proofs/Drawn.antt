-- What each way of making forests keeps, each rendering has.
use Rattle.std.proofs.Common.{ℕ, zero, suc, List, [], ◌∷◌, ◌++◌, Bool, true, false, Option, Some, None}
use Rattle.std.specs.Prelude.{if◌then◌else◌}
use Rattle.gl_base.specs.Texts.{Text}
use Rattle.gl_value.specs.Value
use Rattle.gl_ast.specs.Template
use Rattle.gl_meaning.specs.App.{App}
use Rattle.gl_meaning.specs.Path
use Rattle.gl_meaning.specs.Scope
use Rattle.gl_meaning.specs.Eval
use Rattle.gl_meaning.specs.Parts
use Rattle.gl_meaning.specs.Render

-- A property of forests that each way of making them keeps is one of each rendering.
module _ (app : App) (σ : Eval.Store) (Q : Render.Forest → Type 0) (none : Q Render.no_pieces) (both : (f g : Render.Forest) → Q f → Q g → Q (Render.join f g))
    (of_text : (i : Path.Path) (z : Text) → Q (Render.single (Render.text_node i z))) (of_comment : (i : Path.Path) (z : Text) → Q (Render.single (Render.comment_node i z))) (of_deep : (i : Path.Path) → Q (Render.single (Render.too_deep i)))
    (of_position : (i : Path.Path) (vs : List Scope.Pair) (f : Render.Forest) → Q f → Q (Render.piece (Render.position i vs) f)) (of_branch : (i : Path.Path) (f : Render.Forest) → Q f → Q (Render.single (Render.branch i f)))
    (of_item : (i : Path.Path) (v : Path.V) (n : ℕ) (f g : Render.Forest) → Q f → Q g → Q (Render.piece (Render.item_region i v n f) g)) (of_component : (i : Path.Path) (w : Scope.Scope) (f : Render.Forest) → Q f → Q (Render.single (Render.component i w f)))
    (of_element : (i : Path.Path) (tag : Text) (ws : List (Parts.Written Scope.Scope)) (f : Render.Forest) → Q f → Q (Render.element_of app σ i tag ws f)) where
  of-comment-or : (i : Path.Path) (f : Render.Forest) → Q f → Q (Render.or_comment i f)
  of-comment-or i f h = both f (if Render.has_node f then Render.no_pieces else Render.single (Render.comment_node (Path.empty ∷ i) [])) h (chosen (Render.has_node f)) where
    chosen : (b : Bool) → Q (if b then Render.no_pieces else Render.single (Render.comment_node (Path.empty ∷ i) []))
    chosen true = none
    chosen false = of_comment (Path.empty ∷ i) []

  of-region : (i : Path.Path) (f : Render.Forest) → Q f → Q (Render.region_at i f)
  of-region i f h = of_branch i (Render.or_comment i f) (of-comment-or i f h)

  of-if : (i : Path.Path) (b : Bool) (f g : Render.Forest) → Q f → Q g → Q (if b then Render.region_at (Path.main ∷ i) f else Render.region_at (Path.otherwise ∷ i) g)
  of-if i true f g h k = of-region (Path.main ∷ i) f h
  of-if i false f g h k = of-region (Path.otherwise ∷ i) g k

  of-entries : (one : Path.Path → Render.Entry → Render.Forest) → ((i : Path.Path) (x : Render.Entry) → Q (one i x)) → (i : Path.Path) (xs : List Render.Entry) → Q (Render.render_entries one i xs)
  of-entries one h i [] = none
  of-entries one h i (x ∷ xs) = let j = Path.item x.key x.occurrence ∷ i in of_item j x.value x.index (Render.or_comment j (one j x)) (Render.render_entries one i xs) (of-comment-or j (one j x) (h j x)) (of-entries one h i xs)

  of-items : (i : Path.Path) (vs : Value.Values Path.Path) (f : Value.Values Path.Path → Render.Forest) (o : Render.Forest) → ((vs : Value.Values Path.Path) → Q (f vs)) → Q o → Q (Render.items_or_else i vs f o)
  of-items i Value.no_values f o h k = of-region (Path.otherwise ∷ i) o k
  of-items i (Value.value v vs) f o h k = of_branch (Path.items ∷ i) (f (Value.value v vs)) (h (Value.value v vs))

  abbrev OfComponents : Render.Components → Type 0
  OfComponents d = (i : Path.Path) (gs : Scope.NamedPairs) (w : Scope.Passed) → Q (d i gs w)

  abbrev OfYields : Render.Yields → Type 0
  OfYields y = (n : Text) (vs : List Scope.Pair) (i : Path.Path) → Q (y n vs i)

  module _ (d : Render.Components) (y : Render.Yields) (hd : OfComponents d) (hy : OfYields y) where
    abbrev body_at : Scope.Scope → Path.Path → Template.Body → Render.Forest
    body_at w i b = Render.render_body app σ d y w i 0 b

    mutual
      of-stmt : (q : Template.Stmt) (w : Scope.Scope) (i : Path.Path) → Q (Render.render_stmt app σ d y w i q)
      of-stmt (Template.text_stmt z) w i = of_text i z
      of-stmt (Template.comment_stmt z) w i = of_comment i z
      of-stmt (Template.put z) w i = let v = Eval.eval app σ w z in of_position i (v ∷ []) (Render.single (Render.text_node i (Value.text_of v.value))) (of_text i (Value.text_of v.value))
      of-stmt (Template.element tag ps b) w i = of_element i tag (Parts.written_parts w ps) (body_at w i b) (of-body b w i 0)
      of-stmt (Template.component_stmt n ps gs bs) w i = hd (Path.into n ∷ i) (Eval.eval_given app σ w gs) (Scope.passed ps bs w)
      of-stmt (Template.if_stmt z u b o) w i =
          let v = Eval.eval app σ w z in let t = Eval.takes_first u v.value in let f = body_at w (Path.main ∷ i) b in let g = body_at w (Path.otherwise ∷ i) o in
          of_position i (v ∷ []) (if t then Render.region_at (Path.main ∷ i) f else Render.region_at (Path.otherwise ∷ i) g) (of-if i t f g (of-body b w (Path.main ∷ i) 0) (of-body o w (Path.otherwise ∷ i) 0))
      of-stmt (Template.each z key ns b o) w i =
          let v = Eval.eval app σ w z in let vs = Render.values_listed v.value in let g = body_at w (Path.otherwise ∷ i) o in
          let inside : Path.Path → Render.Entry → Scope.Scope = λ q x. Scope.with_locals (Scope.bind ns (Render.entry_pairs q x)) w in
          let one : Path.Path → Render.Entry → Render.Forest = λ q x. body_at (inside q x) q b in
          let f : Value.Values Path.Path → Render.Forest = λ ws. Render.render_entries one (Path.items ∷ i) (Render.entries key 0 [] ws) in
          of_position i (v ∷ []) (Render.items_or_else i vs f g) (of-items i vs f g (λ ws. of-entries one (λ q x. of-body b (inside q x) q 0) (Path.items ∷ i) (Render.entries key 0 [] ws)) (of-body o w (Path.otherwise ∷ i) 0))
      of-stmt (Template.let_stmt es ns b) w i = of-body b (Scope.with_locals (Scope.bind ns (Eval.eval_all app σ w es)) w) (Path.main ∷ i) 0
      of-stmt (Template.yield es n) w i = hy n (Eval.eval_all app σ w es) i

      of-body : (b : Template.Body) (w : Scope.Scope) (i : Path.Path) (n : ℕ) → Q (Render.render_body app σ d y w i n b)
      of-body Template.end w i n = none
      of-body (Template.stmt q b) w i n = both (Render.render_stmt app σ d y w (Path.at n ∷ i) q) (Render.render_body app σ d y w i (suc n) b) (of-stmt q w (Path.at n ∷ i)) (of-body b w i (suc n))

  of-block : (b : Option Render.Block) (f : Render.Block → Render.Forest) → ((b : Render.Block) → Q (f b)) → Q (Render.in_block b f)
  of-block None f h = none
  of-block (Some b) f h = h b

  of-yields : (d : Render.Components) → OfComponents d → (w : Scope.Passed) → OfYields (Render.yields_of app σ d w)
  of-yields d h Scope.nothing_passed n vs i = none
  of-yields d h (Scope.passed ps bs (Scope.scope j b l w)) n vs i =
      of-block (Render.block_named n bs) (λ z. Render.render_body app σ d (Render.yields_of app σ d w) (Scope.scope j b (l ++ Scope.bind z.params vs) w) (Path.slot n ∷ i) 0 z.body)
      (λ z. of-body d (Render.yields_of app σ d w) h (of-yields d h w) z.body (Scope.scope j b (l ++ Scope.bind z.params vs) w) (Path.slot n ∷ i) 0)

  of-components : (n : ℕ) → OfComponents (Render.components_at n app σ)
  of-components zero i gs w = of_deep i
  of-components (suc n) i gs w =
      let d = Render.components_at n app σ in let z = Scope.scope i gs [] w in
      of_component i z (Render.render_body app σ d (Render.yields_of app σ d w) z i 0 (Eval.class_at app i).template) (of-body d (Render.yields_of app σ d w) (of-components n) (of-yields d (of-components n) w) (Eval.class_at app i).template z i 0)

  pub draw_has : Q (Render.draw app σ)
  draw_has = of-components app.limit [] [] Scope.nothing_passed
