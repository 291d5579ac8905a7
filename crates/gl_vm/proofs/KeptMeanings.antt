-- What is kept of a reference is what it means in the state.
use Rattle.std.proofs.Common.{◌≡◌, ℕ, Bool, true, false, List, [], ◌∷◌, map, Option, Some, None, option_map, IsSome, refl, sym, ap, ◌∙◌}
use Rattle.std.specs.Prelude.{◌||◌}
use Rattle.std.specs.List.{list_any}
use Rattle.gl_arena.specs.Id.{Id}
use Rattle.gl_arena.specs.Arena.{IsStamped}
use Rattle.gl_tags.specs.Tags as t
use Rattle.gl_refs.specs.Forms as f
use Rattle.gl_refs.specs.State as s
use Rattle.gl_refs.specs.Refs.{Refs, rows_of, forms_of}
use Rattle.gl_meaning.specs.Scope.{Source, Pair}
use Rattle.gl_plain.specs.Ids.{Id as Name, ref}
use Rattle.gl_plain.specs.State.{row, any_of, Thing, pair_of}
use Rattle.gl_vm.specs.Led.{held_of, leads_to}
use Rattle.gl_vm.specs.Labels.{labelled}
use Rattle.gl_vm.specs.View.{row_at, source_of}
use Rattle.gl_vm.proofs.Values.{means}

any_map : (g : Id → Source) (xs : List Id) (p : Source → Bool) → list_any p (map g xs) ≡ list_any (λ t. p (g t)) xs
any_map g [] p = refl
any_map g (x ∷ xs) p = ap (λ b. p (g x) || b) (any_map g xs p)

live_of : (tags : t.Tags) (o : Option s.Row) → IsSome (s.kept_row tags o) → IsSome (option_map (λ (x : s.Row). x.form) o)
live_of tags None h = let no : false ≡ true = h in absurd (cc)
live_of tags (Some x) h = refl

module _ (r : Refs) (stamped : IsStamped r.rows) (sound : s.IsSound r.tags (rows_of r)) (look : Name → Option Thing) (looks : (n : ℕ) → look (ref n) ≡ option_map row (row_at r n)) (id : Id) (kept : s.IsKept r.tags (rows_of r) id)
    (like : f.Like (record { value = held_of r id; sources = t.leads_of r.tags.tags (s.held_tag r.tags (rows_of r) id) }) (f.meaning (forms_of r) id)) where
  live : IsSome (forms_of r id)
  live = live_of r.tags (rows_of r id) kept

  pub kept_value : (pair_of look id.1).value ≡ labelled (held_of r id)
  kept_value = ap (λ (p : Pair). p.value) (means r stamped sound look looks id live) ∙ ap labelled (sym like.value)

  pub kept_sources : (p : Source → Bool) → any_of (pair_of look id.1).sources p ≡ leads_to r id (λ t. p (source_of r t))
  kept_sources p =
      ap (λ (q : Pair). any_of q.sources p) (means r stamped sound look looks id live)
      ∙ (any_map (source_of r) (f.meaning (forms_of r) id).sources p ∙ sym (like.sources (λ t. p (source_of r t))))
