-- Two scopes of one place write the same names, and take live values for the same ones.
use Rattle.std.proofs.Common.{◌≡◌, List, ◌∷◌, map, true≢false, refl, ap, ap₂}
use Rattle.std.specs.Prelude.{false, filter, not, ◌||◌}
use Rattle.std.specs.Str.{bytes_eq}
use Rattle.gl_base.specs.Texts.{Text}
use Rattle.gl_ast.specs.Template
use Rattle.gl_meaning.specs.App.{App}
use Rattle.gl_meaning.specs.Eval
use Rattle.gl_meaning.specs.Parts
use Rattle.gl_meaning.specs.Scope
use Rattle.gl_meaning.specs.Path
use Rattle.gl_meaning.proofs.Alike.{KeepsValues, values_none, values_more}

module _ (U : Scope.Source → Type 0) (app : App) (σ τ : Eval.Store) (cells : (i : Path.Path) (x : Text) → U (Scope.cell i x) → Eval.cell_value app σ i x ≡ Eval.cell_value app τ i x) where
  -- the names, and which attributes take live values, are the same
  pub same-names : {xs ys : List (Parts.WrittenValue Scope.Scope)} → KeepsValues U app σ τ cells xs ys → Parts.distinct_names xs ≡ Parts.distinct_names ys
  same-names values_none = refl
  same-names (values_more {n = n} h hs) = ap (λ ns. n ∷ filter (λ m. not (bytes_eq n m)) ns) (same-names hs)

  pub same-live : {xs ys : List (Parts.WrittenValue Scope.Scope)} → KeepsValues U app σ τ cells xs ys → Parts.some_live xs ≡ Parts.some_live ys
  same-live values_none = refl
  same-live (values_more {z = z} h hs) = ap (λ b. Parts.is_live z || b) (same-live hs)

  -- values of which none is live are the same
  pub same-fixed : {xs ys : List (Parts.WrittenValue Scope.Scope)} → KeepsValues U app σ τ cells xs ys → Parts.some_live xs ≡ false
      → map (λ w. Eval.eval_value app σ w.by w.value) xs ≡ map (λ w. Eval.eval_value app τ w.by w.value) ys
  same-fixed values_none e = refl
  same-fixed (values_more {z = Template.fixed u} h hs) e = ap₂ (λ x xs. x ∷ xs) refl (same-fixed hs e)
  same-fixed (values_more {z = Template.live u} h hs) e = absurd (true≢false e)
