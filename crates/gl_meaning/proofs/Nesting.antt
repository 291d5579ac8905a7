-- How deep components stand: none deeper than the limit, and what is too deep by just one.
use Rattle.std.proofs.Common.{◌≡◌, ◌≤◌, ◌+◌, ℕ, zero, suc, List, [], ◌∷◌, ◌++◌, Bool, true, false, Option, Some, None, refl, sym, ap, subst, inl, inr, arith}
use Rattle.std.specs.Prelude.{if◌then◌else◌}
use Rattle.gl_base.specs.Texts.{Text}
use Rattle.gl_value.specs.Value
use Rattle.gl_ast.specs.Template
use Rattle.gl_meaning.specs.Laws.{In}
use Rattle.gl_meaning.specs.App.{App}
use Rattle.gl_meaning.specs.Path
use Rattle.gl_meaning.specs.Scope
use Rattle.gl_meaning.specs.Eval
use Rattle.gl_meaning.specs.Parts
use Rattle.gl_meaning.specs.Render
use Rattle.gl_meaning.proofs.Under.{in_join, in_comment, InElement, of_parts, itself, inside, parts_of, in_element}

-- a component stands no deeper than the limit, and what is too deep stands one deeper
abbrev pub NestsAt : ℕ → Render.Piece → Type 0
NestsAt n (Render.component i s f) = Path.nesting i ≤ n
NestsAt n (Render.too_deep i) = Path.nesting i ≡ suc n
NestsAt n _ = Unit {0}

module _ (most : ℕ) where
  abbrev pub AllNest : Render.Forest → Type 0
  AllNest f = (x : Render.Piece) → In x f → NestsAt most x

  by-itself : (x y : Render.Piece) → x ≡ y → NestsAt most y → NestsAt most x
  by-itself x y q h = subst (NestsAt most) (sym q) h

  none : AllNest Render.no_pieces
  none x m = absurd m

  both : (f g : Render.Forest) → AllNest f → AllNest g → AllNest (Render.join f g)
  both f g h k x m = elim (in_join x f g m) [ inl l ↦ h x l | inr l ↦ k x l ]

  of-text : (i : Path.Path) (z : Text) → AllNest (Render.single (Render.text_node i z))
  of-text i z x (inl q) = by-itself x _ q tt
  of-text i z x (inr m) = absurd m

  of-comment : (i : Path.Path) (z : Text) → AllNest (Render.single (Render.comment_node i z))
  of-comment i z x (inl q) = by-itself x _ q tt
  of-comment i z x (inr m) = absurd m

  of-position : (i : Path.Path) (vs : List Scope.Pair) (f : Render.Forest) → AllNest f → AllNest (Render.piece (Render.position i vs) f)
  of-position i vs f h x (inl q) = by-itself x _ q tt
  of-position i vs f h x (inr m) = h x m

  of-branch : (i : Path.Path) (f : Render.Forest) → AllNest f → AllNest (Render.single (Render.branch i f))
  of-branch i f h x (inl (inl q)) = by-itself x _ q tt
  of-branch i f h x (inl (inr m)) = h x m
  of-branch i f h x (inr m) = absurd m

  of-item : (i : Path.Path) (v : Path.V) (n : ℕ) (f g : Render.Forest) → AllNest f → AllNest g → AllNest (Render.piece (Render.item_region i v n f) g)
  of-item i v n f g h k x (inl (inl q)) = by-itself x _ q tt
  of-item i v n f g h k x (inl (inr m)) = h x m
  of-item i v n f g h k x (inr m) = k x m

  of-comment-or : (i : Path.Path) (f : Render.Forest) → AllNest f → AllNest (Render.or_comment i f)
  of-comment-or i f h x m = elim (in_comment x i f m) [ inl k ↦ h x k | inr q ↦ by-itself x _ q tt ]

  of-region : (i : Path.Path) (f : Render.Forest) → AllNest f → AllNest (Render.region_at i f)
  of-region i f h = of-branch i (Render.or_comment i f) (of-comment-or i f h)

  of-if : (i : Path.Path) (b : Bool) (f g : Render.Forest) → AllNest f → AllNest g → AllNest (if b then Render.region_at (Path.main ∷ i) f else Render.region_at (Path.otherwise ∷ i) g)
  of-if i true f g h k = of-region (Path.main ∷ i) f h
  of-if i false f g h k = of-region (Path.otherwise ∷ i) g k

  of-element : (app : App) (σ : Eval.Store) (i : Path.Path) (tag : Text) (ws : List (Parts.Written Scope.Scope)) (f : Render.Forest) → AllNest f → AllNest (Render.element_of app σ i tag ws f)
  of-element app σ i tag ws f h x m = by-kind (in_element app σ x i tag ws f m) where
    by-kind : InElement x i tag (parts_of app σ i ws) f → NestsAt most x
    by-kind (of_parts a o) = by-itself x _ o.3 tt
    by-kind (itself a ms q) = by-itself x _ q tt
    by-kind (inside l) = h x l

  -- items stand as deep as their list
  of-entries : (one : Path.Path → Render.Entry → Render.Forest) (d : ℕ) → ((i : Path.Path) (x : Render.Entry) → Path.nesting i ≡ d → AllNest (one i x)) → (i : Path.Path) → Path.nesting i ≡ d → (xs : List Render.Entry) → AllNest (Render.render_entries one i xs)
  of-entries one d h i e [] = none
  of-entries one d h i e (x ∷ xs) =
      let j = Path.item x.key x.occurrence ∷ i in
      of-item j x.value x.index (Render.or_comment j (one j x)) (Render.render_entries one i xs) (of-comment-or j (one j x) (h j x e)) (of-entries one d h i e xs)

  of-items : (i : Path.Path) (vs : Value.Values Path.Path) (f : Value.Values Path.Path → Render.Forest) (o : Render.Forest) → ((vs : Value.Values Path.Path) → AllNest (f vs)) → AllNest o → AllNest (Render.items_or_else i vs f o)
  of-items i Value.no_values f o h k = of-region (Path.otherwise ∷ i) o k
  of-items i (Value.value v vs) f o h k = of-branch (Path.items ∷ i) (f (Value.value v vs)) (h (Value.value v vs))

  -- a component at a nesting of n, and a block that is yielded at one of n
  abbrev NestComponents : ℕ → Render.Components → Type 0
  NestComponents n d = (i : Path.Path) (gs : Scope.NamedPairs) (w : Scope.Passed) → Path.nesting i ≡ n → AllNest (d i gs w)

  abbrev NestYields : ℕ → Render.Yields → Type 0
  NestYields n y = (m : Text) (vs : List Scope.Pair) (i : Path.Path) → Path.nesting i ≡ n → AllNest (y m vs i)

  module _ (app : App) (σ : Eval.Store) where
    module _ (n : ℕ) (d : Render.Components) (y : Render.Yields) (hd : NestComponents (suc n) d) (hy : NestYields n y) where
      abbrev body_at : Scope.Scope → Path.Path → Template.Body → Render.Forest
      body_at w i b = Render.render_body app σ d y w i 0 b

      mutual
        nest-stmt : (q : Template.Stmt) (w : Scope.Scope) (i : Path.Path) → Path.nesting i ≡ n → AllNest (Render.render_stmt app σ d y w i q)
        nest-stmt (Template.text_stmt z) w i e = of-text i z
        nest-stmt (Template.comment_stmt z) w i e = of-comment i z
        nest-stmt (Template.put z) w i e = let v = Eval.eval app σ w z in of-position i (v ∷ []) (Render.single (Render.text_node i (Value.text_of v.value))) (of-text i (Value.text_of v.value))
        nest-stmt (Template.element tag ps b) w i e = of-element app σ i tag (Parts.written_parts w ps) (body_at w i b) (nest-body b w i 0 e)
        nest-stmt (Template.component_stmt m ps gs bs) w i e = hd (Path.into m ∷ i) (Eval.eval_given app σ w gs) (Scope.passed ps bs w) (ap suc e)
        nest-stmt (Template.if_stmt z u b o) w i e =
            let v = Eval.eval app σ w z in let t = Eval.takes_first u v.value in let f = body_at w (Path.main ∷ i) b in let g = body_at w (Path.otherwise ∷ i) o in
            of-position i (v ∷ []) (if t then Render.region_at (Path.main ∷ i) f else Render.region_at (Path.otherwise ∷ i) g) (of-if i t f g (nest-body b w (Path.main ∷ i) 0 e) (nest-body o w (Path.otherwise ∷ i) 0 e))
        nest-stmt (Template.each z key ns b o) w i e =
            let v = Eval.eval app σ w z in let vs = Render.values_listed v.value in let g = body_at w (Path.otherwise ∷ i) o in
            let inner : Path.Path → Render.Entry → Scope.Scope = λ q x. Scope.with_locals (Scope.bind ns (Render.entry_pairs q x)) w in
            let one : Path.Path → Render.Entry → Render.Forest = λ q x. body_at (inner q x) q b in
            let f : Value.Values Path.Path → Render.Forest = λ ws. Render.render_entries one (Path.items ∷ i) (Render.entries key 0 [] ws) in
            of-position i (v ∷ []) (Render.items_or_else i vs f g)
            (of-items i vs f g (λ ws. of-entries one n (λ q x h. nest-body b (inner q x) q 0 h) (Path.items ∷ i) e (Render.entries key 0 [] ws)) (nest-body o w (Path.otherwise ∷ i) 0 e))
        nest-stmt (Template.let_stmt es ns b) w i e = nest-body b (Scope.with_locals (Scope.bind ns (Eval.eval_all app σ w es)) w) (Path.main ∷ i) 0 e
        nest-stmt (Template.yield es m) w i e = hy m (Eval.eval_all app σ w es) i e

        nest-body : (b : Template.Body) (w : Scope.Scope) (i : Path.Path) (k : ℕ) → Path.nesting i ≡ n → AllNest (Render.render_body app σ d y w i k b)
        nest-body Template.end w i k e = none
        nest-body (Template.stmt q b) w i k e = both (Render.render_stmt app σ d y w (Path.at k ∷ i) q) (Render.render_body app σ d y w i (suc k) b) (nest-stmt q w (Path.at k ∷ i) e) (nest-body b w i (suc k) e)

    nest-block : (b : Option Render.Block) (f : Render.Block → Render.Forest) → ((b : Render.Block) → AllNest (f b)) → AllNest (Render.in_block b f)
    nest-block None f h = none
    nest-block (Some b) f h = h b

    nest-yields : (n : ℕ) (d : Render.Components) → NestComponents (suc n) d → (w : Scope.Passed) → NestYields n (Render.yields_of app σ d w)
    nest-yields n d h Scope.nothing_passed m vs i e = none
    nest-yields n d h (Scope.passed ps bs (Scope.scope j b l w)) m vs i e =
        nest-block (Render.block_named m bs) (λ z. Render.render_body app σ d (Render.yields_of app σ d w) (Scope.scope j b (l ++ Scope.bind z.params vs) w) (Path.slot m ∷ i) 0 z.body)
        (λ z. nest-body n d (Render.yields_of app σ d w) h (nest-yields n d h w) z.body (Scope.scope j b (l ++ Scope.bind z.params vs) w) (Path.slot m ∷ i) 0 e)

    -- with k levels left, a component stands k levels above the first that is too deep
    nest-components : (k n : ℕ) → k + n ≡ suc most → NestComponents n (Render.components_at k app σ)
    nest-components zero n sum i gs w e = λ x m. elim m [ inl q ↦ by-itself x (Render.too_deep i) q (let a : Path.nesting i ≡ n = e in omega (arith, sum, a)) | inr q ↦ absurd q ]
    nest-components (suc k) n sum i gs w e = λ x m. elim m [
      | inl l ↦ elim l [
        | inl q ↦ by-itself x (Render.component i (Scope.scope i gs [] w) _) q (let a : Path.nesting i ≡ n = e in omega (arith, sum, a))
        | inr o ↦
            let d = Render.components_at k app σ in let next : k + suc n ≡ suc most = omega (arith, sum) in let below = nest-components k (suc n) next in
            nest-body n d (Render.yields_of app σ d w) below (nest-yields n d below w) (Eval.class_at app i).template (Scope.scope i gs [] w) i 0 e x o
      ]
      | inr q ↦ absurd q
    ]

all-nest : (app : App) (σ : Eval.Store) → AllNest app.limit (Render.draw app σ)
all-nest app σ = nest-components app.limit app σ app.limit 1 (let h : app.limit + 1 ≡ suc app.limit = omega arith in h) [] [] Scope.nothing_passed refl

pub components_nest : (app : App) (σ : Eval.Store) (i : Path.Path) (s : Scope.Scope) (f : Render.Forest) → In (Render.component i s f) (Render.draw app σ) → Path.nesting i ≤ app.limit
components_nest app σ i s f m = all-nest app σ (Render.component i s f) m

pub deep_is_one_more : (app : App) (σ : Eval.Store) (i : Path.Path) → In (Render.too_deep i) (Render.draw app σ) → Path.nesting i ≡ suc app.limit
deep_is_one_more app σ i m = all-nest app σ (Render.too_deep i) m
