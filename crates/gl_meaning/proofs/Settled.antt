-- What is rendered from the settled store is the same rendering.
use Rattle.gl_meaning.specs.Known.{Among}
use Rattle.std.proofs.Common.{◌≡◌, ℕ, zero, suc, List, [], ◌∷◌, ◌++◌, map, Bool, true, false, true≢false, Option, Some, None, refl, sym, ap, ap₂, ◌∙◌, subst, inl, inr, cond}
use mathlib.Core.Path.{fun_ext}
use Rattle.std.specs.Prelude.{if◌then◌else◌, unwrap_or, filter, filter_map, flat_map, ◌&&◌, codes}
use Rattle.std.specs.List.{cons_option}
use Rattle.std.specs.Str.{bytes_eq}
use Rattle.gl_value.specs.Value.{Values, no_values, value, undefined, plain}
use Rattle.gl_base.specs.Names.{named}
use Rattle.gl_meaning.proofs.Equal.{text_means, text_itself, path_means, path_itself}
use Rattle.gl_base.specs.Texts.{Text}
use Rattle.gl_meaning.specs.App.{App}
use Rattle.gl_meaning.specs.Changes
use Rattle.gl_meaning.specs.Eval
use Rattle.gl_meaning.specs.Parts
use Rattle.gl_meaning.specs.Path
use Rattle.gl_meaning.specs.Render
use Rattle.gl_meaning.specs.Scope
use Rattle.gl_ast.specs.Template

-- Two stores that hold the same in the fields of an instance.
abbrev pub AgreeAt : App → Eval.Store → Eval.Store → Path.Path → Type 0
AgreeAt app σ τ i = (x : Text) (v : Template.Plain) → named x (Eval.class_at app i).fields ≡ Some v → Eval.cell_value app σ i x ≡ Eval.cell_value app τ i x

-- in each instance of a forest
abbrev mutual
  pub AgreePiece : App → Eval.Store → Eval.Store → Render.Piece → Type 0
  AgreePiece app σ τ (Render.component i w f) = AgreeAt app σ τ i × AgreeIn app σ τ f
  AgreePiece app σ τ (Render.element_node i n a m f) = AgreeIn app σ τ f
  AgreePiece app σ τ (Render.branch i f) = AgreeIn app σ τ f
  AgreePiece app σ τ (Render.item_region i v n f) = AgreeIn app σ τ f
  AgreePiece app σ τ _ = Unit {0}

  pub AgreeIn : App → Eval.Store → Eval.Store → Render.Forest → Type 0
  AgreeIn app σ τ Render.no_pieces = Unit {0}
  AgreeIn app σ τ (Render.piece q f) = AgreePiece app σ τ q × AgreeIn app σ τ f

-- in `this` and in each scope that wrote what was passed
abbrev mutual
  pub AgreeScope : App → Eval.Store → Eval.Store → Scope.Scope → Type 0
  AgreeScope app σ τ (Scope.scope i a l w) = AgreeAt app σ τ i × AgreePassed app σ τ w

  pub AgreePassed : App → Eval.Store → Eval.Store → Scope.Passed → Type 0
  AgreePassed app σ τ Scope.nothing_passed = Unit {0}
  AgreePassed app σ τ (Scope.passed ps bs w) = AgreeScope app σ τ w

module _ (app : App) (σ τ : Eval.Store) where
  member-same : (g h : Template.Expr → Scope.Pair) → ((x : Template.Expr) → g x ≡ h x) → (w : Scope.Scope) (x : Text) → AgreeAt app σ τ (Scope.this_of w)
      → (f : Option Template.Plain) → named x (Eval.class_at app (Scope.this_of w)).fields ≡ f → (m : Option Template.Expr)
      → Eval.member_pair app σ g w x (Eval.field_or f (Eval.getter_or_action m)) ≡ Eval.member_pair app τ h w x (Eval.field_or f (Eval.getter_or_action m))
  member-same g h k w x a (Some v) q m = ap (λ z. record { value = z; sources = Scope.cell (Scope.this_of w) x ∷ [] }) (a x v q)
  member-same g h k w x a None q (Some y) = k y
  member-same g h k w x a None q None = refl

  module _ (g h : Template.Expr → Scope.Pair) (k : (x : Template.Expr) → g x ≡ h x) (w : Scope.Scope) (a : AgreeAt app σ τ (Scope.this_of w)) where
    mutual
      eval-same : (x : Template.Expr) → Eval.eval_in app σ g w x ≡ Eval.eval_in app τ h w x
      eval-same (Template.literal v) = refl
      eval-same (Template.this x ks) = ap (Eval.with_properties ks) (member-same g h k w x a _ refl _)
      eval-same (Template.argument n ks) = refl
      eval-same (Template.bare n ks) = refl
      eval-same (Template.call n es ns) = ap₂ (Eval.call_pair n) (all-same es) (named-same ns)
      eval-same (Template.cat es) = ap Eval.cat_pair (all-same es)

      all-same : (es : Template.Exprs) → Eval.eval_all_in app σ g w es ≡ Eval.eval_all_in app τ h w es
      all-same Template.no_exprs = refl
      all-same (Template.expr x es) = ap₂ (λ y ys. y ∷ ys) (eval-same x) (all-same es)

      named-same : (ns : Template.NamedExprs) → Eval.eval_named_in app σ g w ns ≡ Eval.eval_named_in app τ h w ns
      named-same Template.no_named = refl
      named-same (Template.named_expr n x ns) = ap₂ (λ y ys. (n, y) ∷ ys) (eval-same x) (named-same ns)

  deep-same : (n : ℕ) (w : Scope.Scope) → AgreeAt app σ τ (Scope.this_of w) → (x : Template.Expr) → Eval.eval_deep n app σ w x ≡ Eval.eval_deep n app τ w x
  deep-same zero w a x = refl
  deep-same (suc n) (Scope.scope i b l o) a x = eval-same _ _ (deep-same n (Scope.own_scope (Scope.scope i b l o)) a) (Scope.scope i b l o) a x

  pub eval_same : (w : Scope.Scope) → AgreeAt app σ τ (Scope.this_of w) → (x : Template.Expr) → Eval.eval app σ w x ≡ Eval.eval app τ w x
  eval_same w a x = deep-same (suc (Eval.getters_count app w)) w a x

  pub eval_all_same : (w : Scope.Scope) → AgreeAt app σ τ (Scope.this_of w) → (es : Template.Exprs) → Eval.eval_all app σ w es ≡ Eval.eval_all app τ w es
  eval_all_same (Scope.scope i b l o) a es = all-same _ _ (deep-same (Eval.getters_count app (Scope.scope i b l o)) (Scope.own_scope (Scope.scope i b l o)) a) (Scope.scope i b l o) a es

  pub eval_named_same : (w : Scope.Scope) → AgreeAt app σ τ (Scope.this_of w) → (ns : Template.NamedExprs) → Eval.eval_named app σ w ns ≡ Eval.eval_named app τ w ns
  eval_named_same (Scope.scope i b l o) a ns = named-same _ _ (deep-same (Eval.getters_count app (Scope.scope i b l o)) (Scope.own_scope (Scope.scope i b l o)) a) (Scope.scope i b l o) a ns

  pub value_same : (w : Scope.Scope) → AgreeAt app σ τ (Scope.this_of w) → (v : Template.AttrValue) → Eval.eval_value app σ w v ≡ Eval.eval_value app τ w v
  value_same w a (Template.fixed x) = refl
  value_same w a (Template.live x) = eval_same w a x

  -- the parts of elements
  abbrev AgreeValues : List (Parts.WrittenValue Scope.Scope) → Type 0
  AgreeValues [] = Unit {0}
  AgreeValues (w ∷ ws) = AgreeAt app σ τ (Scope.this_of w.by) × AgreeValues ws

  abbrev AgreeModifiers : List (Parts.WrittenModifier Scope.Scope) → Type 0
  AgreeModifiers [] = Unit {0}
  AgreeModifiers (w ∷ ws) = AgreeAt app σ τ (Scope.this_of w.by) × AgreeModifiers ws

  abbrev AgreeWritten : List (Parts.Written Scope.Scope) → Type 0
  AgreeWritten [] = Unit {0}
  AgreeWritten (w ∷ ws) = AgreeAt app σ τ (Scope.this_of w.by) × AgreeWritten ws

  agree-filter : (test : (Parts.WrittenValue Scope.Scope) → Bool) (ws : List (Parts.WrittenValue Scope.Scope)) → AgreeValues ws → AgreeValues (filter test ws)
  agree-filter test [] a = tt
  agree-filter test (w ∷ ws) a = elim (test w) as (λ b. AgreeValues (cond b (w ∷ filter test ws) (filter test ws))) [ true ↦ (a.0, agree-filter test ws a.1) | false ↦ agree-filter test ws a.1 ]

  agree-last : (ws : List (Parts.WrittenValue Scope.Scope)) → AgreeValues ws → AgreeValues (Parts.last_only ws)
  agree-last [] a = tt
  agree-last (w ∷ []) a = a
  agree-last (w ∷ v ∷ ws) a = agree-last (v ∷ ws) a.1

  agree-taken : (n : Text) (ws : List (Parts.WrittenValue Scope.Scope)) → AgreeValues ws → AgreeValues (Parts.taken_values n ws)
  agree-taken n ws a =
      let group = filter (λ w. bytes_eq n w.name) ws in
      let h : AgreeValues group = agree-filter _ ws a in
      elim (bytes_eq n (codes "class")) as (λ b. AgreeValues (if b then group else Parts.last_only group)) [ true ↦ h | false ↦ agree-last group h ]

  values-same : (ws : List (Parts.WrittenValue Scope.Scope)) → AgreeValues ws → map (λ w. Eval.eval_value app σ w.by w.value) ws ≡ map (λ w. Eval.eval_value app τ w.by w.value) ws
  values-same [] a = refl
  values-same (w ∷ ws) a = ap₂ (λ y ys. y ∷ ys) (value_same w.by a.0 w.value) (values-same ws a.1)

  taken-same : (ws : List (Parts.WrittenValue Scope.Scope)) → AgreeValues ws → (n : Text) → Parts.taken_pairs app σ ws n ≡ Parts.taken_pairs app τ ws n
  taken-same ws a n = values-same (Parts.taken_values n ws) (agree-taken n ws a)

  modifiers-same : (ws : List (Parts.WrittenModifier Scope.Scope)) → AgreeModifiers ws → (i : Path.Path) (n : ℕ) → Parts.modifiers_of app σ i n ws ≡ Parts.modifiers_of app τ i n ws
  modifiers-same [] a i n = refl
  modifiers-same (w ∷ ws) a i n =
      ap₂ (λ y ys. y ∷ ys)
      (ap₂ (λ es ns. record { path = Path.modifier_at n ∷ i; name = w.name; args = es; names = ns }) (eval_all_same w.by a.0 w.args) (eval_named_same w.by a.0 w.names))
      (modifiers-same ws a.1 i (suc n))

  agree-attribute : (b : Scope.Scope) (q : Template.Part) → AgreeAt app σ τ (Scope.this_of b) → (ws : List (Parts.WrittenValue Scope.Scope)) → AgreeValues ws → AgreeValues (cons_option (Parts.attribute_in b q) ws)
  agree-attribute b (Template.attribute n v) a ws h = (a, h)
  agree-attribute b (Template.modifier n es ns) a ws h = h
  agree-attribute b Template.spread a ws h = h

  agree-attributes : (ws : List (Parts.Written Scope.Scope)) → AgreeWritten ws → AgreeValues (Parts.attributes_in ws)
  agree-attributes [] a = tt
  agree-attributes (w ∷ ws) a = agree-attribute w.by w.part a.0 (Parts.attributes_in ws) (agree-attributes ws a.1)

  agree-modifier : (b : Scope.Scope) (q : Template.Part) → AgreeAt app σ τ (Scope.this_of b) → (ws : List (Parts.WrittenModifier Scope.Scope)) → AgreeModifiers ws → AgreeModifiers (cons_option (Parts.modifier_in b q) ws)
  agree-modifier b (Template.attribute n v) a ws h = h
  agree-modifier b (Template.modifier n es ns) a ws h = (a, h)
  agree-modifier b Template.spread a ws h = h

  agree-modifiers : (ws : List (Parts.Written Scope.Scope)) → AgreeWritten ws → AgreeModifiers (Parts.modifiers_in ws)
  agree-modifiers [] a = tt
  agree-modifiers (w ∷ ws) a = agree-modifier w.by w.part a.0 (Parts.modifiers_in ws) (agree-modifiers ws a.1)

  agree-written-append : (ws vs : List (Parts.Written Scope.Scope)) → AgreeWritten ws → AgreeWritten vs → AgreeWritten (ws ++ vs)
  agree-written-append [] vs a b = b
  agree-written-append (w ∷ ws) vs a b = (a.0, agree-written-append ws vs a.1 b)

  agree-spread : (for : List (Parts.Written Scope.Scope)) (w : Scope.Scope) (ps : List Template.Part) → AgreeWritten for → AgreeAt app σ τ (Scope.this_of w) → AgreeWritten (Parts.spread_in for w ps)
  agree-spread for w [] a b = tt
  agree-spread for w (Template.spread ∷ ps) a b = agree-written-append for _ a (agree-spread for w ps a b)
  agree-spread for w (Template.attribute n v ∷ ps) a b = (b, agree-spread for w ps a b)
  agree-spread for w (Template.modifier n es ns ∷ ps) a b = (b, agree-spread for w ps a b)

  agree-passed-parts : (w : Scope.Passed) → AgreePassed app σ τ w → AgreeWritten (Parts.passed_parts w)
  agree-passed-parts Scope.nothing_passed a = tt
  agree-passed-parts (Scope.passed ps bs (Scope.scope i b l w)) a = agree-spread (Parts.passed_parts w) (Scope.scope i b l w) ps (agree-passed-parts w a.1) a.0

  agree-written : (w : Scope.Scope) (ps : List Template.Part) → AgreeScope app σ τ w → AgreeWritten (Parts.written_parts w ps)
  agree-written (Scope.scope i b l w) ps a = agree-spread (Parts.passed_parts w) (Scope.scope i b l w) ps (agree-passed-parts w a.1) a.0

  element-same : (i : Path.Path) (tag : Text) (ws : List (Parts.Written Scope.Scope)) → AgreeWritten ws → (f : Render.Forest) → Render.element_of app σ i tag ws f ≡ Render.element_of app τ i tag ws f
  element-same i tag ws a f =
      let taken : Parts.taken_pairs app σ (Parts.attributes_in ws) ≡ Parts.taken_pairs app τ (Parts.attributes_in ws) = fun_ext (taken-same (Parts.attributes_in ws) (agree-attributes ws a)) in
      ap₂ (λ ps ms. Render.element_from i tag (Parts.attributes_in ws) ps ms f) taken (modifiers-same (Parts.modifiers_in ws) (agree-modifiers ws a) i 0)

  -- forests
  agree-join : (f g : Render.Forest) → AgreeIn app σ τ (Render.join f g) → AgreeIn app σ τ f × AgreeIn app σ τ g
  agree-join Render.no_pieces g a = (tt, a)
  agree-join (Render.piece q f) g a = let h = agree-join f g a.1 in ((a.0, h.0), h.1)

  agree-comment : (i : Path.Path) (f : Render.Forest) → AgreeIn app σ τ (Render.or_comment i f) → AgreeIn app σ τ f
  agree-comment i f a = (agree-join f _ a).0

  agree-element : (i : Path.Path) (tag : Text) (ws : List (Parts.Written Scope.Scope)) (f : Render.Forest) → AgreeIn app σ τ (Render.element_of app σ i tag ws f) → AgreeIn app σ τ f
  agree-element i tag ws f a = ((agree-join (Render.forest_of _) (Render.single (Render.element_node i tag _ _ f)) a).1).0

  region-same : (i : Path.Path) (f g : Render.Forest) → (AgreeIn app σ τ f → f ≡ g) → AgreeIn app σ τ (Render.region_at i f) → Render.region_at i f ≡ Render.region_at i g
  region-same i f g h a = ap (Render.region_at i) (h (agree-comment i f a.0))

  if-same : (i : Path.Path) (u : Bool) (v w : Scope.Pair) → v ≡ w → (f g f' g' : Render.Forest) → (AgreeIn app σ τ f → f ≡ f') → (AgreeIn app σ τ g → g ≡ g')
      → AgreeIn app σ τ (Render.if_of i u v f g) → Render.if_of i u v f g ≡ Render.if_of i u w f' g'
  if-same i u v w q f g f' g' h k a =
      chosen (Eval.takes_first u v.value) a.1 ∙ ap (λ x. Render.if_of i u x f' g') q
    where
      chosen : (b : Bool) → AgreeIn app σ τ (if b then Render.region_at (Path.main ∷ i) f else Render.region_at (Path.otherwise ∷ i) g)
          → Render.piece (Render.position i (v ∷ [])) (if b then Render.region_at (Path.main ∷ i) f else Render.region_at (Path.otherwise ∷ i) g)
          ≡ Render.piece (Render.position i (v ∷ [])) (if b then Render.region_at (Path.main ∷ i) f' else Render.region_at (Path.otherwise ∷ i) g')
      chosen true a = ap (Render.piece (Render.position i (v ∷ []))) (region-same _ f f' h a)
      chosen false a = ap (Render.piece (Render.position i (v ∷ []))) (region-same _ g g' k a)

  entries-same : (one two : Path.Path → Render.Entry → Render.Forest) → ((i : Path.Path) (x : Render.Entry) → AgreeIn app σ τ (one i x) → one i x ≡ two i x) → (i : Path.Path) (xs : List Render.Entry)
      → AgreeIn app σ τ (Render.render_entries one i xs) → Render.render_entries one i xs ≡ Render.render_entries two i xs
  entries-same one two h i [] a = refl
  entries-same one two h i (x ∷ xs) a =
      let q = Path.item x.key x.occurrence ∷ i in
      ap₂ (λ f g. Render.piece (Render.item_region q x.value x.index (Render.or_comment q f)) g) (h q x (agree-comment q (one q x) a.0)) (entries-same one two h i xs a.1)

  items-same : (i : Path.Path) (vs : Values Path.Path) (f g : Values Path.Path → Render.Forest) (o o' : Render.Forest) → ((vs : Values Path.Path) → AgreeIn app σ τ (f vs) → f vs ≡ g vs) → (AgreeIn app σ τ o → o ≡ o')
      → AgreeIn app σ τ (Render.items_or_else i vs f o) → Render.items_or_else i vs f o ≡ Render.items_or_else i vs g o'
  items-same i no_values f g o o' h k a = region-same _ o o' k a
  items-same i (value v vs) f g o o' h k a = ap (λ x. Render.single (Render.branch (Path.items ∷ i) x)) (h (value v vs) (a.0))

  each-same : (i : Path.Path) (v w : Scope.Pair) → v ≡ w → (f g : Values Path.Path → Render.Forest) (o o' : Render.Forest) → ((vs : Values Path.Path) → AgreeIn app σ τ (f vs) → f vs ≡ g vs) → (AgreeIn app σ τ o → o ≡ o')
      → AgreeIn app σ τ (Render.each_of i v f o) → Render.each_of i v f o ≡ Render.each_of i w g o'
  each-same i v w q f g o o' h k a = ap (Render.piece (Render.position i (v ∷ []))) (items-same i (Render.values_listed v.value) f g o o' h k a.1) ∙ ap (λ x. Render.each_of i x g o') q

  agree-this : (w : Scope.Scope) → AgreeScope app σ τ w → AgreeAt app σ τ (Scope.this_of w)
  agree-this (Scope.scope i b l o) a = a.0

  agree-locals : (w : Scope.Scope) (l : Scope.NamedPairs) → AgreeScope app σ τ w → AgreeScope app σ τ (Scope.with_locals l w)
  agree-locals (Scope.scope i b m o) l a = a

  given-same : (w : Scope.Scope) → AgreeAt app σ τ (Scope.this_of w) → (gs : List (Text × Template.AttrValue)) → Eval.eval_given app σ w gs ≡ Eval.eval_given app τ w gs
  given-same w a [] = refl
  given-same w a (g ∷ gs) = ap₂ (λ y ys. (g.0, y) ∷ ys) (value_same w a g.1) (given-same w a gs)

  abbrev SameComponents : Render.Components → Render.Components → Type 0
  SameComponents c d = (i : Path.Path) (gs : Scope.NamedPairs) (w : Scope.Passed) → AgreePassed app σ τ w → AgreeIn app σ τ (c i gs w) → c i gs w ≡ d i gs w

  abbrev SameYields : Render.Yields → Render.Yields → Type 0
  SameYields y z = (n : Text) (vs : List Scope.Pair) (i : Path.Path) → AgreeIn app σ τ (y n vs i) → y n vs i ≡ z n vs i

  module _ (c d : Render.Components) (y z : Render.Yields) (h : SameComponents c d) (k : SameYields y z) where
    mutual
      stmt-same : (x : Template.Stmt) (w : Scope.Scope) (i : Path.Path) → AgreeScope app σ τ w → AgreeIn app σ τ (Render.render_stmt app σ c y w i x) → Render.render_stmt app σ c y w i x ≡ Render.render_stmt app τ d z w i x
      stmt-same (Template.text_stmt x) w i a q = refl
      stmt-same (Template.comment_stmt x) w i a q = refl
      stmt-same (Template.put x) w i a q = ap (Render.put_of i) (eval_same w (agree-this w a) x)
      stmt-same (Template.element tag ps b) w i a q =
          element-same i tag (Parts.written_parts w ps) (agree-written w ps a) _
          ∙ ap (Render.element_of app τ i tag (Parts.written_parts w ps)) (body-same b w i 0 a (agree-element i tag (Parts.written_parts w ps) _ q))
      stmt-same (Template.component_stmt n ps gs bs) w i a q =
          h (Path.into n ∷ i) _ (Scope.passed ps bs w) a q ∙ ap (λ x. d (Path.into n ∷ i) x (Scope.passed ps bs w)) (given-same w (agree-this w a) gs)
      stmt-same (Template.if_stmt x u b o) w i a q =
          if-same i u _ _ (eval_same w (agree-this w a) x) _ _ _ _ (body-same b w (Path.main ∷ i) 0 a) (body-same o w (Path.otherwise ∷ i) 0 a) q
      stmt-same (Template.each x n ns b o) w i a q =
          each-same i _ _ (eval_same w (agree-this w a) x) _ _ _ _
          (λ vs. entries-same _ _ (λ j e. body-same b (Scope.with_locals (Scope.bind ns (Render.entry_pairs j e)) w) j 0 (agree-locals w _ a)) (Path.items ∷ i) (Render.entries n 0 [] vs))
          (body-same o w (Path.otherwise ∷ i) 0 a) q
      stmt-same (Template.let_stmt es ns b) w i a q =
          body-same b (Scope.with_locals (Scope.bind ns (Eval.eval_all app σ w es)) w) (Path.main ∷ i) 0 (agree-locals w _ a) q
          ∙ ap (λ vs. Render.render_body app τ d z (Scope.with_locals (Scope.bind ns vs) w) (Path.main ∷ i) 0 b) (eval_all_same w (agree-this w a) es)
      stmt-same (Template.yield es n) w i a q = k n _ i q ∙ ap (λ vs. z n vs i) (eval_all_same w (agree-this w a) es)

      body-same : (b : Template.Body) (w : Scope.Scope) (i : Path.Path) (n : ℕ) → AgreeScope app σ τ w → AgreeIn app σ τ (Render.render_body app σ c y w i n b) → Render.render_body app σ c y w i n b ≡ Render.render_body app τ d z w i n b
      body-same Template.end w i n a q = refl
      body-same (Template.stmt x b) w i n a q =
          let parts = agree-join (Render.render_stmt app σ c y w (Path.at n ∷ i) x) _ q in
          ap₂ Render.join (stmt-same x w (Path.at n ∷ i) a parts.0) (body-same b w i (suc n) a parts.1)

  block-same : (b : Option Render.Block) (f g : Render.Block → Render.Forest) → ((b : Render.Block) → AgreeIn app σ τ (f b) → f b ≡ g b) → AgreeIn app σ τ (Render.in_block b f) → Render.in_block b f ≡ Render.in_block b g
  block-same None f g h a = refl
  block-same (Some b) f g h a = h b a

  yields-same : (c d : Render.Components) → SameComponents c d → (w : Scope.Passed) → AgreePassed app σ τ w → SameYields (Render.yields_of app σ c w) (Render.yields_of app τ d w)
  yields-same c d h Scope.nothing_passed a n vs i q = refl
  yields-same c d h (Scope.passed ps bs (Scope.scope j b l w)) a n vs i q =
      block-same (Render.block_named n bs) _ _
      (λ x. body-same c d (Render.yields_of app σ c w) (Render.yields_of app τ d w) h (yields-same c d h w a.1) x.body (Scope.scope j b (l ++ Scope.bind x.params vs) w) (Path.slot n ∷ i) 0 a) q

  components-same : (n : ℕ) → SameComponents (Render.components_at n app σ) (Render.components_at n app τ)
  components-same zero i gs w a q = refl
  components-same (suc n) i gs w a q =
      let v = Scope.scope i gs [] w in
      ap (λ f. Render.single (Render.component i v f))
      (body-same (Render.components_at n app σ) (Render.components_at n app τ) _ _ (components-same n) (yields-same _ _ (components-same n) w a) (Eval.class_at app i).template v i 0 (q.0.0, a) q.0.1)

  pub draw_same : AgreeIn app σ τ (Render.draw app σ) → Render.draw app σ ≡ Render.draw app τ
  draw_same q = components-same app.limit [] [] Scope.nothing_passed tt q

among-cons-left : (i : Path.Path) (o : Option Path.Path) (js ks : List Path.Path) → (Among i js → Among i ks) → Among i (cons_option o js) → Among i (cons_option o ks)
among-cons-left i None js ks h m = h m
among-cons-left i (Some j) js ks h (inl q) = inl q
among-cons-left i (Some j) js ks h (inr m) = inr (h m)

among-left : (i : Path.Path) (g : Render.Piece → Option Path.Path) (xs ys : List Render.Piece) → Among i (filter_map g xs) → Among i (filter_map g (xs ++ ys))
among-left i g [] ys m = absurd m
among-left i g (x ∷ xs) ys m = among-cons-left i (g x) _ _ (among-left i g xs ys) m

among-cons-right : (i : Path.Path) (o : Option Path.Path) (js : List Path.Path) → Among i js → Among i (cons_option o js)
among-cons-right i None js m = m
among-cons-right i (Some j) js m = inr m

among-right : (i : Path.Path) (g : Render.Piece → Option Path.Path) (xs ys : List Render.Piece) → Among i (filter_map g ys) → Among i (filter_map g (xs ++ ys))
among-right i g [] ys m = m
among-right i g (x ∷ xs) ys m = among-cons-right i (g x) _ (among-right i g xs ys m)

module _ (app : App) (σ τ : Eval.Store) where
  mutual
    agree-piece : (q : Render.Piece) → ((i : Path.Path) → Among i (filter_map Changes.instance_path (Changes.pieces_in q)) → AgreeAt app σ τ i) → AgreePiece app σ τ q
    agree-piece (Render.component i w f) h = (h i (inl refl), agree-forest f (λ j m. h j (inr m)))
    agree-piece (Render.element_node i n a m f) h = agree-forest f h
    agree-piece (Render.branch i f) h = agree-forest f h
    agree-piece (Render.item_region i v n f) h = agree-forest f h
    agree-piece (Render.text_node i x) h = tt
    agree-piece (Render.comment_node i x) h = tt
    agree-piece (Render.position i x) h = tt
    agree-piece (Render.too_deep i) h = tt

    agree-forest : (f : Render.Forest) → ((i : Path.Path) → Among i (Changes.instances f) → AgreeAt app σ τ i) → AgreeIn app σ τ f
    agree-forest Render.no_pieces h = tt
    agree-forest (Render.piece q f) h = (agree-piece q (λ i m. h i (among-left i Changes.instance_path (Changes.pieces_in q) (Changes.pieces f) m)), agree-forest f (λ i m. h i (among-right i Changes.instance_path (Changes.pieces_in q) (Changes.pieces f) m)))

named-some : {A : Type 0} (fs : List (Text × A)) (g : Text × A) → Among g fs → (v : A) × (named g.0 fs ≡ Some v)
named-some [] g m = absurd m
named-some (f ∷ fs) g (inl q) = (f.1, ap (λ b. if b then Some f.1 else named g.0 fs) (ap (λ z. bytes_eq g.0 z.0) (sym q) ∙ text_itself g.0))
named-some {A = A} (f ∷ fs) g (inr m) = later (bytes_eq g.0 f.0) (named-some fs g m) where
  later : (b : Bool) → (v : A) × (named g.0 fs ≡ Some v) → (v : A) × ((if b then Some f.1 else named g.0 fs) ≡ Some v)
  later true h = (f.1, refl)
  later false h = h

module _ (app : App) (σ : Eval.Store) where
  abbrev cells : Path.Path → List (Text × Template.Plain) → Eval.Store
  cells i fs = map (λ f. record { instance = i; field = f.0; value = Eval.cell_value app σ i f.0 }) fs

  held-chosen : (i : Path.Path) (x y : Text) (u v : Template.Plain) (other : Option Template.Plain) (later : Option Path.V) (b : Bool) → (b ≡ true → x ≡ y) → (other ≡ Some v → later ≡ Some (Eval.cell_value app σ i x))
      → (if b then Some u else other) ≡ Some v → (if b then Some (Eval.cell_value app σ i y) else later) ≡ Some (Eval.cell_value app σ i x)
  held-chosen i x y u v other later true h k q = ap (λ z. Some (Eval.cell_value app σ i z)) (sym (h refl))
  held-chosen i x y u v other later false h k q = k q

  held-here : (i : Path.Path) (x : Text) (v : Template.Plain) (fs : List (Text × Template.Plain)) (rest : Eval.Store) → named x fs ≡ Some v → Eval.held_at i x (cells i fs ++ rest) ≡ Some (Eval.cell_value app σ i x)
  held-here i x v [] rest q = absurd cc
  held-here i x v (f ∷ fs) rest q =
      ap (λ b. if b && bytes_eq x f.0 then Some (Eval.cell_value app σ i f.0) else Eval.held_at i x (cells i fs ++ rest)) (path_itself i)
      ∙ held-chosen i x f.0 f.1 v (named x fs) (Eval.held_at i x (cells i fs ++ rest)) (bytes_eq x f.0) (text_means x f.0) (held-here i x v fs rest) q

  held-there : (i j : Path.Path) (x : Text) → Path.path_eq i j ≡ false → (fs : List (Text × Template.Plain)) (rest : Eval.Store) → Eval.held_at i x (cells j fs ++ rest) ≡ Eval.held_at i x rest
  held-there i j x q [] rest = refl
  held-there i j x q (f ∷ fs) rest =
      ap (λ b. if b && bytes_eq x f.0 then Some (Eval.cell_value app σ j f.0) else Eval.held_at i x (cells j fs ++ rest)) q ∙ held-there i j x q fs rest

  held-settled : (i : Path.Path) (x : Text) (v : Template.Plain) → named x (Eval.class_at app i).fields ≡ Some v → (js : List Path.Path) → Among i js → Eval.held_at i x (flat_map (Changes.cells_of app σ) js) ≡ Some (Eval.cell_value app σ i x)
  held-settled i x v q [] m = absurd m
  held-settled i x v q (j ∷ js) m = by_test (held-settled i x v q js) (Path.path_eq i j) refl m where
    by_test : (Among i js → Eval.held_at i x (flat_map (Changes.cells_of app σ) js) ≡ Some (Eval.cell_value app σ i x)) → (b : Bool) → Path.path_eq i j ≡ b → Among i (j ∷ js) → Eval.held_at i x (cells j (Eval.class_at app j).fields ++ flat_map (Changes.cells_of app σ) js) ≡ Some (Eval.cell_value app σ i x)
    by_test h true k m = subst (λ z. Eval.held_at i x (cells z (Eval.class_at app z).fields ++ flat_map (Changes.cells_of app σ) js) ≡ Some (Eval.cell_value app σ i x)) (path_means i j k) (held-here i x v (Eval.class_at app i).fields _ q)
    by_test h false k (inl z) = absurd (true≢false (sym (path_itself i) ∙ (ap (Path.path_eq i) z ∙ k)))
    by_test h false k (inr n) = held-there i j x k (Eval.class_at app j).fields _ ∙ h n

  settled-agrees : (f : Render.Forest) (i : Path.Path) → Among i (Changes.instances f) → AgreeAt app σ (Changes.settle app σ f) i
  settled-agrees f i m x v q = sym (ap (λ h. unwrap_or h (plain (unwrap_or (named x (Eval.class_at app i).fields) undefined))) (held-settled i x v q (Changes.instances f) m))

  pub draw_settled : Render.draw app (Changes.settle app σ (Render.draw app σ)) ≡ Render.draw app σ
  draw_settled = sym (draw_same app σ (Changes.settle app σ (Render.draw app σ)) (agree-forest app σ _ (Render.draw app σ) (settled-agrees (Render.draw app σ))))

  pub render_settled : Render.render app (Changes.settle app σ (Render.draw app σ)) ≡ Render.render app σ
  render_settled = ap (λ f. if Render.fits f then Some f else None) draw_settled

  -- the cells of an instance, from two stores that agree there
  cells-same : (τ : Eval.Store) (i : Path.Path) (fs : List (Text × Template.Plain)) → ((x : Text) (v : Template.Plain) → named x fs ≡ Some v → Eval.cell_value app σ i x ≡ Eval.cell_value app τ i x)
      → (gs : List (Text × Template.Plain)) → ((g : Text × Template.Plain) → Among g gs → Among g fs)
      → let from : Eval.Store → Text × Template.Plain → Eval.Held = λ υ f. record { instance = i; field = f.0; value = Eval.cell_value app υ i f.0 } in map (from τ) gs ≡ map (from σ) gs
  cells-same τ i fs h [] m = refl
  cells-same τ i fs h (g ∷ gs) m =
      let held = named-some fs g (m g (inl refl)) in
      let from : Path.V → Eval.Held = λ v. record { instance = i; field = g.0; value = v } in
      ap₂ (λ v hs. from v ∷ hs) (sym (h g.0 held.0 held.1)) (cells-same τ i fs h gs (λ x n. m x (inr n)))

  settled-cells : (f : Render.Forest) (js : List Path.Path) → ((j : Path.Path) → Among j js → Among j (Changes.instances f)) → flat_map (Changes.cells_of app (Changes.settle app σ f)) js ≡ flat_map (Changes.cells_of app σ) js
  settled-cells f [] m = refl
  settled-cells f (j ∷ js) m =
      let fs = (Eval.class_at app j).fields in
      ap₂ (λ xs ys. xs ++ ys) (cells-same (Changes.settle app σ f) j fs (settled-agrees f j (m j (inl refl))) fs (λ g n. n)) (settled-cells f js (λ i n. m i (inr n)))

  pub settle_settled : (f : Render.Forest) → Changes.settle app (Changes.settle app σ f) f ≡ Changes.settle app σ f
  settle_settled f = settled-cells f (Changes.instances f) (λ j n. n)

pub draw_settles : (app : App) (σ : Eval.Store) → let f = Render.draw app σ in Changes.settle app (Changes.settle app σ f) f ≡ Changes.settle app σ f
draw_settles app σ = settle_settled app σ (Render.draw app σ)
