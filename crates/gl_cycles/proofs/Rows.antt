-- Rows that are filled one after another.
use Rattle.std.proofs.Common.{◌≡◌, ℕ, ◌+◌, ◌<◌, ◌≤◌, List, get_or, set, length, replicate, refl, ap, sym, ◌∙◌, arith, Some, option_map, slice_get, inl, inr}
use Rattle.std.proofs.lemmas.List.{get_or-replicate, get_or_past, length-replicate, get_or-set_same, get_or-set_other}
use Rattle.std.proofs.lemmas.Option.{slice_get-map, slice_get_past, slice_get_read}
use Rattle.gl_ast.specs.View.{seen_pairs, named_view, expr_view}
use Rattle.gl_ast.specs.declared.expr.NamedExpr.{NamedExpr}
use Rattle.gl_meaning.specs.Known.{mentions}
use Rattle.gl_cycles.specs.Marks.{with_names, mentioned}
use Rattle.gl_cycles.proofs.Bits.{less_or}

pub zeros : (n k : ℕ) → ◌≡◌ {A = ℕ} (get_or (replicate n 0) k 0) 0
zeros n k = elim (less_or k n) [
  | inl x ↦ get_or-replicate n k 0 0 x
  | inr y ↦ get_or_past (replicate n 0) k 0 (omega (arith, y, length-replicate {A = ℕ} n 0))
]

-- what stands at a place
pub seen_at : (gs : List NamedExpr) (i : ℕ) (g : NamedExpr) → i < length gs → g ≡ get_or gs i g → slice_get (seen_pairs gs) i ≡ Some (named_view g)
seen_at gs i g below is = slice_get-map named_view gs i ∙ ap (option_map named_view) (slice_get_read gs (length gs) i g refl below is)

module _ (gs : List NamedExpr) (rows : List ℕ) (i : ℕ) where
  abbrev Done : List ℕ → ℕ → Type 0
  Done rs n = (k : ℕ) → k < n → get_or rs k 0 ≡ mentioned (seen_pairs gs) (slice_get (seen_pairs gs) k)

  abbrev Empty : List ℕ → ℕ → Type 0
  Empty rs n = (k : ℕ) → n ≤ k → get_or rs k 0 ≡ 0

  module _ (g : NamedExpr) (m : ℕ) (inside : i < length rows) (done : Done rows i) (empty : Empty rows i) (below : i < length gs) (is : g ≡ get_or gs i g) (marked : m ≡ with_names (seen_pairs gs) 0 (mentions (expr_view g.value))) where
    pub set_done : Done (set rows i m) (i + 1)
    set_done k within = elim (less_or k i) [
      | inl x ↦ get_or-set_other rows i k m 0 (λ e. omega (arith, x, e)) ∙ done k x
      | inr y ↦
          let same : k ≡ i = omega (arith, y, within) in
          rw same (get_or-set_same rows i m 0 inside ∙ (marked ∙ sym (ap (mentioned (seen_pairs gs)) (seen_at gs i g below is))))
    ]

    pub set_empty : Empty (set rows i m) (i + 1)
    set_empty k from = get_or-set_other rows i k m 0 (λ e. omega (arith, from, e)) ∙ empty k (omega (arith, from))

  pub rows_all : length gs ≤ i → Done rows i → Empty rows i → (k : ℕ) → get_or rows k 0 ≡ mentioned (seen_pairs gs) (slice_get (seen_pairs gs) k)
  rows_all past done empty k = elim (less_or k i) [
    | inl x ↦ done k x
    | inr y ↦ empty k y ∙ sym (ap (mentioned (seen_pairs gs)) (slice_get-map named_view gs k ∙ ap (option_map named_view) (slice_get_past gs k (omega (arith, past, y)))))
  ]
