-- An expression whose sources are untouched keeps its Pair.
use Rattle.gl_meaning.specs.Laws.{Untouched, Keeps, KeepsAll, keeps_none, keeps_more}
use Rattle.std.proofs.Common.{◌≡◌, ℕ, zero, suc, List, [], ◌∷◌, ◌++◌, map, length, Bool, true, false, Option, Some, None, refl, ap, ap₂, ◌∙◌}
use Rattle.std.specs.Prelude.{if◌then◌else◌, unwrap_or}
use Rattle.std.specs.Str.{bytes_eq}
use Rattle.gl_base.specs.Names.{named, last_named, or_else, at_place}
use Rattle.gl_base.specs.Texts.{Text}
use Rattle.gl_meaning.specs.App.{App}
use Rattle.gl_meaning.specs.Eval
use Rattle.gl_value.specs.Helpers
use Rattle.gl_meaning.specs.Path
use Rattle.gl_meaning.specs.Scope
use Rattle.gl_ast.specs.Template

module _ (U : Scope.Source → Type 0) where
  pub data KeepsNames : Scope.NamedPairs → Scope.NamedPairs → Type 0 where
    names_none : KeepsNames [] []
    names_more : {n : Text} {v w : Scope.Pair} {vs ws : Scope.NamedPairs} → Keeps U v w → KeepsNames vs ws → KeepsNames ((n, v) ∷ vs) ((n, w) ∷ ws)

  -- two scopes of one place, in two renderings
  mutual
    pub data KeepsScope : Scope.Scope → Scope.Scope → Type 0 where
      keeps_scope : {i : Path.Path} {a b l m : Scope.NamedPairs} {v w : Scope.Passed} → KeepsNames a b → KeepsNames l m → KeepsPassed v w → KeepsScope (Scope.scope i a l v) (Scope.scope i b m w)

    pub data KeepsPassed : Scope.Passed → Scope.Passed → Type 0 where
      keeps_nothing : KeepsPassed Scope.nothing_passed Scope.nothing_passed
      keeps_passed : {ps : List Template.Part} {bs : Template.Slots} {v w : Scope.Scope} → KeepsScope v w → KeepsPassed (Scope.passed ps bs v) (Scope.passed ps bs w)

  pub untouched_append : (xs ys : List Scope.Source) → Untouched U (xs ++ ys) → Untouched U xs × Untouched U ys
  untouched_append [] ys u = (tt, u)
  untouched_append (x ∷ xs) ys u = let r = untouched_append xs ys u.1 in ((u.0, r.0), r.1)

  pub keeps_itself : (v : Scope.Pair) → Keeps U v v
  keeps_itself v u = refl

  keeps-at : {vs ws : List Scope.Pair} → KeepsAll U vs ws → (i : ℕ) → Keeps U (at_place Scope.absent i vs) (at_place Scope.absent i ws)
  keeps-at keeps_none i = keeps_itself Scope.absent
  keeps-at (keeps_more k ks) zero = k
  keeps-at (keeps_more k ks) (suc i) = keeps-at ks i

  pub keeps_list : {vs ws : List Scope.Pair} → KeepsAll U vs ws → Untouched U (Scope.sources_of vs) → vs ≡ ws
  keeps_list keeps_none u = refl
  keeps_list (keeps_more {v = v} {vs = vs} k ks) u = let r = untouched_append v.sources (Scope.sources_of vs) u in ap₂ (λ y ys. y ∷ ys) (k r.0) (keeps_list ks r.1)

  pub keeps_names : {vs ws : Scope.NamedPairs} → KeepsNames vs ws → Untouched U (Scope.sources_of (map (λ n. n.1) vs)) → vs ≡ ws
  keeps_names names_none u = refl
  keeps_names (names_more {n = n} {v = v} {vs = vs} k ks) u = let r = untouched_append v.sources (Scope.sources_of (map (λ n. n.1) vs)) u in ap₂ (λ y ys. (n, y) ∷ ys) (k r.0) (keeps_names ks r.1)

  OptionKeeps : Option Scope.Pair → Option Scope.Pair → Type 0
  OptionKeeps None None = Unit {0}
  OptionKeeps (Some v) (Some w) = Keeps U v w
  OptionKeeps _ _ = ⊥

  keeps-or-else : (x y x' y' : Option Scope.Pair) → OptionKeeps x x' → OptionKeeps y y' → OptionKeeps (or_else x y) (or_else x' y')
  unfolding OptionKeeps
  keeps-or-else None y None y' k m = m
  keeps-or-else (Some x) y (Some x') y' k m = k
  keeps-or-else None y (Some x') y' k m = absurd k
  keeps-or-else (Some x) y None y' k m = absurd k

  keeps-if : (b : Bool) (v w : Scope.Pair) → Keeps U v w → OptionKeeps (if b then Some v else None) (if b then Some w else None)
  unfolding OptionKeeps
  keeps-if true v w k = k
  keeps-if false v w k = tt

  keeps-last : {vs ws : Scope.NamedPairs} → KeepsNames vs ws → (x : Text) → OptionKeeps (last_named x vs) (last_named x ws)
  unfolding OptionKeeps
  keeps-last names_none x = tt
  keeps-last (names_more {n = n} {v = v} {w = w} {vs = vs} {ws = ws} k ks) x = keeps-or-else (last_named x vs) _ (last_named x ws) _ (keeps-last ks x) (keeps-if (bytes_eq x n) v w k)

  keeps-unwrap : (x y : Option Scope.Pair) → OptionKeeps x y → Keeps U (unwrap_or x Scope.absent) (unwrap_or y Scope.absent)
  unfolding OptionKeeps
  keeps-unwrap None None k = keeps_itself Scope.absent
  keeps-unwrap (Some v) (Some w) k = k
  keeps-unwrap None (Some w) k = absurd k
  keeps-unwrap (Some v) None k = absurd k

  keeps-properties : (ks : List Text) (v w : Scope.Pair) → Keeps U v w → Keeps U (Eval.with_properties ks v) (Eval.with_properties ks w)
  keeps-properties ks v w k u = ap (Eval.with_properties ks) (k u)

  keeps-bare : (n : Text) (ks : List Text) (x y : Option Scope.Pair) → OptionKeeps x y → Keeps U (Eval.bare_pair n ks x) (Eval.bare_pair n ks y)
  unfolding OptionKeeps
  keeps-bare n ks None None k = keeps_itself (Eval.call_pair n [] [])
  keeps-bare n ks (Some v) (Some w) k = keeps-properties ks v w k
  keeps-bare n ks None (Some w) k = absurd k
  keeps-bare n ks (Some v) None k = absurd k

  keeps-branch : (unless : Bool) (c d v w v' w' : Scope.Pair) → Keeps U c d → Keeps U v v' → Keeps U w w' → Keeps U (Eval.branch_pair unless c v w) (Eval.branch_pair unless d v' w')
  keeps-branch unless c d v w v' w' k m n u =
      let r = untouched_append c.sources _ u in
      chosen (Eval.takes_first unless c.value) r.1 ∙ ap (λ x. Eval.branch_pair unless x v' w') (k r.0)
    where
      chosen : (b : Bool) → Untouched U (if b then v else w).sources → Eval.after_reading c (if b then v else w) ≡ Eval.after_reading c (if b then v' else w')
      chosen true q = ap (Eval.after_reading c) (m q)
      chosen false q = ap (Eval.after_reading c) (n q)

  keeps-every : (f : Helpers.Helper) {vs ws : List Scope.Pair} {ns ms : Scope.NamedPairs} → KeepsAll U vs ws → KeepsNames ns ms → Keeps U (Eval.all_pair f vs ns) (Eval.all_pair f ws ms)
  keeps-every f {vs} {ws} {ns} {ms} k m u = let r = untouched_append (Scope.sources_of vs) _ u in ap₂ (Eval.all_pair f) (keeps_list k r.0) (keeps_names m r.1)

  keeps-read : (b : Option Bool) (f : Helpers.Helper) {vs ws : List Scope.Pair} {ns ms : Scope.NamedPairs} → KeepsAll U vs ws → KeepsNames ns ms → Keeps U (Eval.pair_read b f vs ns) (Eval.pair_read b f ws ms)
  keeps-read None f k m = keeps-every f k m
  keeps-read (Some unless) f k m = keeps-branch unless _ _ _ _ _ _ (keeps-at k 0) (keeps-at k 1) (keeps-at k 2)

  keeps-helper : (f : Option Helpers.Helper) {vs ws : List Scope.Pair} {ns ms : Scope.NamedPairs} → KeepsAll U vs ws → KeepsNames ns ms → Keeps U (Eval.helper_pair f vs ns) (Eval.helper_pair f ws ms)
  keeps-helper None k m = keeps_itself Scope.absent
  keeps-helper (Some f) k m = keeps-read (Eval.branch_of f) f k m

  module _ (app : App) (σ τ : Eval.Store) (cells : (i : Path.Path) (x : Text) → U (Scope.cell i x) → Eval.cell_value app σ i x ≡ Eval.cell_value app τ i x) where
    keeps-member : (f g : Template.Expr → Scope.Pair) → ((x : Template.Expr) → Keeps U (f x) (g x)) → (i : Path.Path) (a b l m : Scope.NamedPairs) (v w : Scope.Passed) (x : Text) (q : Eval.Member)
        → Keeps U (Eval.member_pair app σ f (Scope.scope i a l v) x q) (Eval.member_pair app τ g (Scope.scope i b m w) x q)
    keeps-member f g k i a b l m v w x Eval.field_member = λ u. ap (λ z. record { value = z; sources = Scope.cell i x ∷ [] }) (cells i x u.0)
    keeps-member f g k i a b l m v w x (Eval.getter_member y) = k y
    keeps-member f g k i a b l m v w x Eval.action_member = λ u. refl

    module _ (f g : Template.Expr → Scope.Pair) (k : (x : Template.Expr) → Keeps U (f x) (g x)) (i : Path.Path) (a b l m : Scope.NamedPairs) (v w : Scope.Passed) (ka : KeepsNames a b) (kl : KeepsNames l m) where
      mutual
        keeps-eval : (x : Template.Expr) → Keeps U (Eval.eval_in app σ f (Scope.scope i a l v) x) (Eval.eval_in app τ g (Scope.scope i b m w) x)
        keeps-eval (Template.literal x) = keeps_itself _
        keeps-eval (Template.this x ks) = keeps-properties ks _ _ (keeps-member f g k i a b l m v w x (Eval.member_of (Eval.class_at app i) x))
        keeps-eval (Template.argument n ks) = keeps-properties ks _ _ (keeps-unwrap (last_named n a) (last_named n b) (keeps-last ka n))
        keeps-eval (Template.bare n ks) = keeps-bare n ks (last_named n l) (last_named n m) (keeps-last kl n)
        keeps-eval (Template.call n es ns) = keeps-helper (named n Helpers.helper_table) (keeps-all es) (keeps-named ns)
        keeps-eval (Template.cat es) = λ u. ap Eval.cat_pair (keeps_list (keeps-all es) u)

        keeps-all : (es : Template.Exprs) → KeepsAll U (Eval.eval_all_in app σ f (Scope.scope i a l v) es) (Eval.eval_all_in app τ g (Scope.scope i b m w) es)
        keeps-all Template.no_exprs = keeps_none
        keeps-all (Template.expr x es) = keeps_more (keeps-eval x) (keeps-all es)

        keeps-named : (ns : Template.NamedExprs) → KeepsNames (Eval.eval_named_in app σ f (Scope.scope i a l v) ns) (Eval.eval_named_in app τ g (Scope.scope i b m w) ns)
        keeps-named Template.no_named = names_none
        keeps-named (Template.named_expr n x ns) = names_more (keeps-eval x) (keeps-named ns)

    keeps-deep : (n : ℕ) {v w : Scope.Scope} → KeepsScope v w → (x : Template.Expr) → Keeps U (Eval.eval_deep n app σ v x) (Eval.eval_deep n app τ w x)
    keeps-deep zero k x = keeps_itself Scope.absent
    keeps-deep (suc n) (keeps_scope {i = i} {v = v} {w = w} ka kl kw) x = keeps-eval _ _ (keeps-deep n (keeps_scope ka names_none keeps_nothing)) i _ _ _ _ v w ka kl x

    pub eval_keeps : {v w : Scope.Scope} → KeepsScope v w → (x : Template.Expr) → Keeps U (Eval.eval app σ v x) (Eval.eval app τ w x)
    eval_keeps (keeps_scope {i = i} ka kl kw) x = keeps-deep (suc (length (Eval.class_at app i).getters)) (keeps_scope ka kl kw) x

    pub eval_all_keeps : {v w : Scope.Scope} → KeepsScope v w → (es : Template.Exprs) → KeepsAll U (Eval.eval_all app σ v es) (Eval.eval_all app τ w es)
    eval_all_keeps (keeps_scope {i = i} {v = v} {w = w} ka kl kw) es = keeps-all _ _ (keeps-deep (length (Eval.class_at app i).getters) (keeps_scope ka names_none keeps_nothing)) i _ _ _ _ v w ka kl es

    pub eval_named_keeps : {v w : Scope.Scope} → KeepsScope v w → (ns : Template.NamedExprs) → KeepsNames (Eval.eval_named app σ v ns) (Eval.eval_named app τ w ns)
    eval_named_keeps (keeps_scope {i = i} {v = v} {w = w} ka kl kw) ns = keeps-named _ _ (keeps-deep (length (Eval.class_at app i).getters) (keeps_scope ka names_none keeps_nothing)) i _ _ _ _ v w ka kl ns

    pub value_keeps : {v w : Scope.Scope} → KeepsScope v w → (x : Template.AttrValue) → Keeps U (Eval.eval_value app σ v x) (Eval.eval_value app τ w x)
    value_keeps k (Template.fixed x) = keeps_itself _
    value_keeps k (Template.live x) = eval_keeps k x
