-- The nesting of the owner is enough for the actions that an action calls.
use Rattle.gl_meaning.specs.Laws.{InPiece, Within, IsAbove, Owners, NamesIn, AboveOf, ReadsAbove, AllReadAbove}
use Rattle.std.proofs.Common.{◌≡◌, ◌≤◌, ◌+◌, ◌-◌, ℕ, zero, suc, List, [], ◌∷◌, ◌++◌, Bool, true, false, Option, Some, None, refl, sym, ap, ◌∙◌, subst, inl, inr, arith}
use Rattle.std.specs.Prelude.{if◌then◌else◌, unwrap_or, filter_map}
use Rattle.std.specs.List.{cons_option}
use Rattle.gl_base.specs.Names.{last_named}
use Rattle.gl_meaning.proofs.Equal.{path_means}
use Rattle.gl_base.specs.Texts.{Text}
use Rattle.gl_meaning.specs.App.{Step, call_step, set_step, App}
use Rattle.gl_meaning.proofs.Reach
use Rattle.gl_meaning.specs.Actions
use Rattle.gl_meaning.specs.Changes
use Rattle.gl_meaning.specs.Eval
use Rattle.gl_meaning.specs.Path
use Rattle.gl_meaning.specs.Render
use Rattle.gl_meaning.specs.Scope
use Rattle.gl_value.specs.Value

-- the scopes of a forest, each with its path
abbrev GoodScopes : List (Path.Path × Scope.Scope) → Type 0
GoodScopes [] = Unit {0}
GoodScopes (x ∷ xs) = NamesIn (AboveOf x.0) (Scope.arguments_of x.1) × GoodScopes xs

cons-scopes : (m : Option (Path.Path × Scope.Scope)) (xs ys : List (Path.Path × Scope.Scope)) → (GoodScopes xs → GoodScopes ys) → GoodScopes (cons_option m xs) → GoodScopes (cons_option m ys)
cons-scopes None xs ys h k = h k
cons-scopes (Some z) xs ys h k = (k.0, h k.1)

scopes-append : (xs ys : List Render.Piece) → GoodScopes (filter_map Changes.scope_in ys) → GoodScopes (filter_map Changes.scope_in xs) → GoodScopes (filter_map Changes.scope_in (xs ++ ys))
scopes-append [] ys h g = h
scopes-append (x ∷ xs) ys h g = cons-scopes (Changes.scope_in x) (filter_map Changes.scope_in xs) (filter_map Changes.scope_in (xs ++ ys)) (scopes-append xs ys h) g

mutual
  piece-scopes : (q : Render.Piece) → ((x : Render.Piece) → InPiece x q → ReadsAbove x) → GoodScopes (filter_map Changes.scope_in (Changes.pieces_in q))
  piece-scopes (Render.element_node i n b m f) g = forest-scopes f (λ x k. g x (inr k))
  piece-scopes (Render.component i w f) g = (g (Render.component i w f) (inl refl), forest-scopes f (λ x k. g x (inr k)))
  piece-scopes (Render.branch i f) g = forest-scopes f (λ x k. g x (inr k))
  piece-scopes (Render.item_region i z n f) g = forest-scopes f (λ x k. g x (inr k))
  piece-scopes (Render.text_node i z) g = tt
  piece-scopes (Render.comment_node i z) g = tt
  piece-scopes (Render.position i z) g = tt
  piece-scopes (Render.too_deep i) g = tt

  forest-scopes : (f : Render.Forest) → AllReadAbove f → GoodScopes (Changes.scopes f)
  forest-scopes Render.no_pieces g = tt
  forest-scopes (Render.piece q f) g = scopes-append (Changes.pieces_in q) (Changes.pieces f) (forest-scopes f (λ x k. g x (inr k))) (piece-scopes q (λ x k. g x (inl k)))

found-good : (i : Path.Path) (xs : List (Path.Path × Scope.Scope)) → GoodScopes xs → NamesIn (AboveOf i) (Scope.arguments_of (unwrap_or (Path.at_path i xs) Actions.no_scope))
found-good i [] g = tt
found-good i (x ∷ xs) g = chosen (found-good i xs g.1) (Path.path_eq i x.0) refl where
  chosen : NamesIn (AboveOf i) (Scope.arguments_of (unwrap_or (Path.at_path i xs) Actions.no_scope)) → (b : Bool) → Path.path_eq i x.0 ≡ b → NamesIn (AboveOf i) (Scope.arguments_of (unwrap_or (if b then Some x.1 else Path.at_path i xs) Actions.no_scope))
  chosen h true q = subst (λ z. NamesIn (AboveOf z) (Scope.arguments_of x.1)) (sym (path_means i x.0 q)) g.0
  chosen h false q = h

within-nesting : (k i : Path.Path) → Within k i → Path.nesting k ≤ Path.nesting i
within-nesting k [] q = rw q (omega arith)
within-nesting k (l ∷ i) (inl q) = rw q (omega arith)
within-nesting k (l ∷ i) (inr m) = step l (within-nesting k i m) where
  step : (l : Path.PathStep) → Path.nesting k ≤ Path.nesting i → Path.nesting k ≤ Path.nesting (l ∷ i)
  step (Path.into n) h = omega arith
  step (Path.at n) h = h
  step Path.main h = h
  step Path.otherwise h = h
  step Path.items h = h
  step (Path.item z n) h = h
  step (Path.slot n) h = h
  step Path.empty h = h
  step (Path.attribute_at n) h = h
  step (Path.modifier_at n) h = h

-- a value whose owners all stand above an instance within n levels
abbrev Near : ℕ → Path.V → Type 0
Near n x = Actions.owner_nesting x ≤ n

near : (n : ℕ) (i : Path.Path) → ((k : Path.Path) → IsAbove k i → Path.nesting k ≤ n) → (x : Path.V) → Owners (AboveOf i) x → Near n x
near n i h (Value.action k m vs) g = h k g.0
near n i h Value.undefined g = omega arith
near n i h Value.null g = omega arith
near n i h (Value.boolean b) g = omega arith
near n i h (Value.integer z) g = omega arith
near n i h (Value.text z) g = omega arith
near n i h (Value.list vs) g = omega arith
near n i h (Value.pairs ms) g = omega arith

module _ (app : App) (σ : Eval.Store) (f : Render.Forest) (good : AllReadAbove f) where
  module _ (n : ℕ) (calls more : Actions.Calls) (same : (x : Path.V) → Near n x → (g : List Path.V) (z : Changes.Sets) → calls x g z ≡ more x g z) (w : Scope.Scope) (reach : (m : Text) (ks : List Text) → Near n (Value.properties ks (unwrap_or (last_named m (Scope.arguments_of w)) Scope.absent).value)) where
    step-same : (q : Step) (z : Changes.Sets) → Actions.run_step app σ calls w q z ≡ Actions.run_step app σ more w q z
    step-same (set_step u x y) z = refl
    step-same (call_step u m ks es) z = ap (λ k. if Actions.runs app σ calls w u z then k else z) (same _ (reach m ks) (Eval.values_in (Eval.eval_all app (Actions.lay z σ) w es)) z)

    steps-same : (qs : List Step) (z : Changes.Sets) → Actions.run_steps app σ calls w qs z ≡ Actions.run_steps app σ more w qs z
    steps-same [] z = refl
    steps-same (q ∷ qs) z = ap (Actions.run_steps app σ calls w qs) (step-same q z) ∙ steps-same qs (Actions.run_step app σ more w q z)

  argument-near : (n : ℕ) (i : Path.Path) → ((k : Path.Path) → IsAbove k i → Path.nesting k ≤ n) → (ps : List Text) (given : List Path.V) (m : Text) (ks : List Text)
      → Near n (Value.properties ks (unwrap_or (last_named m (Scope.arguments_of (Actions.action_scope f i ps given))) Scope.absent).value)
  argument-near n i h ps given m ks =
      near n i h _ (Reach.properties_reach (AboveOf i) ks _ (Reach.argument_reach (AboveOf i) m _ (found-good i (Changes.scopes f) (forest-scopes f good))))

  nesting-positive : (i : Path.Path) → 1 ≤ Path.nesting i
  nesting-positive [] = omega arith
  nesting-positive (Path.into n ∷ i) = omega arith
  nesting-positive (Path.at n ∷ i) = nesting-positive i
  nesting-positive (Path.main ∷ i) = nesting-positive i
  nesting-positive (Path.otherwise ∷ i) = nesting-positive i
  nesting-positive (Path.items ∷ i) = nesting-positive i
  nesting-positive (Path.item z n ∷ i) = nesting-positive i
  nesting-positive (Path.slot n ∷ i) = nesting-positive i
  nesting-positive (Path.empty ∷ i) = nesting-positive i
  nesting-positive (Path.attribute_at n ∷ i) = nesting-positive i
  nesting-positive (Path.modifier_at n ∷ i) = nesting-positive i

  run-action : (n : ℕ) → ((x : Path.V) → Near n x → (given : List Path.V) (z : Changes.Sets) → Actions.run_at n app σ f x given z ≡ Actions.run_at (suc n) app σ f x given z)
      → (i : Path.Path) (m : Text) (vs : Value.Values Path.Path) → Path.nesting i ≤ suc n → (given : List Path.V) (z : Changes.Sets) → Actions.run_at (suc n) app σ f (Value.action i m vs) given z ≡ Actions.run_at (suc (suc n)) app σ f (Value.action i m vs) given z
  run-action n h [] m vs k given z =
      let q = Actions.action_at app [] m in let ps = Value.list_of vs ++ given in
      steps-same n (Actions.run_at n app σ f) (Actions.run_at (suc n) app σ f) h (Actions.action_scope f [] q.params ps) (argument-near n [] (λ j g. absurd g) q.params ps) q.steps z
  run-action n h (Path.into l ∷ i) m vs k given z =
      let q = Actions.action_at app (Path.into l ∷ i) m in let ps = Value.list_of vs ++ given in
      steps-same n (Actions.run_at n app σ f) (Actions.run_at (suc n) app σ f) h (Actions.action_scope f (Path.into l ∷ i) q.params ps)
      (argument-near n (Path.into l ∷ i) (λ j g. let b : Path.nesting j ≤ Path.nesting i = within-nesting j i g in omega arith) q.params ps) q.steps z
  run-action n h (Path.at l ∷ i) m vs k given z = refl
  run-action n h (Path.main ∷ i) m vs k given z = refl
  run-action n h (Path.otherwise ∷ i) m vs k given z = refl
  run-action n h (Path.items ∷ i) m vs k given z = refl
  run-action n h (Path.item y l ∷ i) m vs k given z = refl
  run-action n h (Path.slot l ∷ i) m vs k given z = refl
  run-action n h (Path.empty ∷ i) m vs k given z = refl
  run-action n h (Path.attribute_at l ∷ i) m vs k given z = refl
  run-action n h (Path.modifier_at l ∷ i) m vs k given z = refl

  -- with as many levels as the owner's nesting, or more, one level more changes nothing
  run_more : (n : ℕ) (x : Path.V) → Near n x → (given : List Path.V) (z : Changes.Sets) → Actions.run_at n app σ f x given z ≡ Actions.run_at (suc n) app σ f x given z
  run_more zero (Value.action i m vs) h given z = let g : 1 ≤ Path.nesting i = nesting-positive i in absurd (omega arith)
  run_more (suc n) (Value.action i m vs) h given z = run-action n (run_more n) i m vs h given z
  run_more zero Value.undefined h given z = refl
  run_more zero Value.null h given z = refl
  run_more zero (Value.boolean b) h given z = refl
  run_more zero (Value.integer y) h given z = refl
  run_more zero (Value.text y) h given z = refl
  run_more zero (Value.list vs) h given z = refl
  run_more zero (Value.pairs ms) h given z = refl
  run_more (suc n) Value.undefined h given z = refl
  run_more (suc n) Value.null h given z = refl
  run_more (suc n) (Value.boolean b) h given z = refl
  run_more (suc n) (Value.integer y) h given z = refl
  run_more (suc n) (Value.text y) h given z = refl
  run_more (suc n) (Value.list vs) h given z = refl
  run_more (suc n) (Value.pairs ms) h given z = refl

  -- from the nesting of the owner on
  enough : (x : Path.V) (given : List Path.V) (z : Changes.Sets) (d n : ℕ) → n ≡ Actions.owner_nesting x + d → Actions.run_at n app σ f x given z ≡ Actions.run app σ f x given z
  enough x given z zero n q = let e : n ≡ Actions.owner_nesting x = omega arith in ap (λ m. Actions.run_at m app σ f x given z) e
  enough x given z (suc d) n q =
      let m = Actions.owner_nesting x + d in let e : n ≡ suc m = omega arith in
      ap (λ k. Actions.run_at k app σ f x given z) e ∙ (sym (run_more m x (omega arith) given z) ∙ enough x given z d m refl)

  pub run_enough : (x : Path.V) (given : List Path.V) (z : Changes.Sets) (n : ℕ) → Actions.owner_nesting x ≤ n → Actions.run_at n app σ f x given z ≡ Actions.run app σ f x given z
  run_enough x given z n h = enough x given z (n - Actions.owner_nesting x) n (omega arith)
