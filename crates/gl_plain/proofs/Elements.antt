-- The attributes and modifiers of an element that is appended.
use Rattle.std.proofs.Common.{◌≡◌, ℕ, Bool, true, false, List, [], ◌∷◌, ◌++◌, map, cond, refl, sym, ◌∙◌, ap}
use Rattle.std.specs.Prelude.{if◌then◌else◌, filter, ◌||◌, not, codes}
use Rattle.std.specs.List.{cons_option}
use Rattle.std.specs.Str.{bytes_eq}
use Rattle.gl_base.specs.Texts.{Text}
use Rattle.gl_ast.specs.Template.{Plain, Exprs, AttrValue, Slots, Part}
use Rattle.gl_ast.specs.Template as t
use Rattle.gl_meaning.specs.App.{App}
use Rattle.gl_meaning.specs.Scope.{Pair, Scope, scope}
use Rattle.gl_meaning.specs.Eval.{Store, eval_value}
use Rattle.gl_meaning.specs.Parts.{WrittenValue, WrittenModifier, spread_in, passed_parts, written_parts, attribute_in, attributes_in, distinct_names, taken_values, last_only, is_live, some_live, modifier_in, modifiers_in, taken_pairs, Written}
use Rattle.gl_plain.specs.State.{names_by, MScope, mscope, MPassed, mnothing, mpassed, scope_by, passed_by}
use Rattle.gl_plain.specs.Parts.{mpassed_parts, mwritten_parts, written_by, value_by, modifier_by}
use Rattle.gl_plain.specs.Stands.{CellsIn, CellsPassed, ScopeBelow, PassedBelow, attrs_by, mods_by}

-- The machine's parts are the meaning's.

module _ (f : ℕ → Pair) where
  append_by : (xs ys : List (Written MScope)) → map (written_by f) (xs ++ ys) ≡ map (written_by f) xs ++ map (written_by f) ys
  append_by [] ys = refl
  append_by (x ∷ xs) ys = ap (λ zs. written_by f x ∷ zs) (append_by xs ys)

  spread_by : (xs : List (Written MScope)) (s : MScope) (ps : List Part) → spread_in (map (written_by f) xs) (scope_by f s) ps ≡ map (written_by f) (spread_in xs s ps)
  spread_by xs s [] = refl
  spread_by xs s (t.spread ∷ ps) = ap (λ zs. map (written_by f) xs ++ zs) (spread_by xs s ps) ∙ sym (append_by xs (spread_in xs s ps))
  spread_by xs s (t.attribute n v ∷ ps) = ap (λ zs. record { part = t.attribute n v; by = scope_by f s } ∷ zs) (spread_by xs s ps)
  spread_by xs s (t.modifier n es ns ∷ ps) = ap (λ zs. record { part = t.modifier n es ns; by = scope_by f s } ∷ zs) (spread_by xs s ps)

  passed_parts_by : (v : MPassed) → passed_parts (passed_by f v) ≡ map (written_by f) (mpassed_parts v)
  passed_parts_by mnothing = refl
  passed_parts_by (mpassed k ps bs (mscope i a l w)) =
      ap (λ zs. spread_in zs (scope i.path (names_by f a) (names_by f l) (passed_by f w)) ps) (passed_parts_by w) ∙ spread_by (mpassed_parts w) (mscope i a l w) ps

  parts_by : (s : MScope) (ps : List Part) → written_parts (scope_by f s) ps ≡ map (written_by f) (mwritten_parts s ps)
  parts_by (mscope i a l w) ps =
      ap (λ zs. spread_in zs (scope i.path (names_by f a) (names_by f l) (passed_by f w)) ps) (passed_parts_by w) ∙ spread_by (mpassed_parts w) (mscope i a l w) ps

  attribute_by : (s : MScope) (p : Part) (vs : List (WrittenValue Scope)) (ms : List (WrittenValue MScope)) → vs ≡ map (value_by f) ms
      → cons_option (attribute_in (scope_by f s) p) vs ≡ map (value_by f) (cons_option (attribute_in s p) ms)
  attribute_by s (t.attribute n v) vs ms e = ap (λ zs. record { name = n; value = v; by = scope_by f s } ∷ zs) e
  attribute_by s (t.modifier n es ns) vs ms e = e
  attribute_by s t.spread vs ms e = e

  attributes_by : (ws : List (Written MScope)) → attributes_in (map (written_by f) ws) ≡ map (value_by f) (attributes_in ws)
  attributes_by [] = refl
  attributes_by (w ∷ ws) = attribute_by w.by w.part _ _ (attributes_by ws)

  modifier_in_by : (s : MScope) (p : Part) (vs : List (WrittenModifier Scope)) (ms : List (WrittenModifier MScope)) → vs ≡ map (modifier_by f) ms
      → cons_option (modifier_in (scope_by f s) p) vs ≡ map (modifier_by f) (cons_option (modifier_in s p) ms)
  modifier_in_by s (t.attribute n v) vs ms e = e
  modifier_in_by s (t.modifier n es ns) vs ms e = ap (λ zs. record { name = n; args = es; names = ns; by = scope_by f s } ∷ zs) e
  modifier_in_by s t.spread vs ms e = e

  modifiers_by : (ws : List (Written MScope)) → modifiers_in (map (written_by f) ws) ≡ map (modifier_by f) (modifiers_in ws)
  modifiers_by [] = refl
  modifiers_by (w ∷ ws) = modifier_in_by w.by w.part _ _ (modifiers_by ws)

  pub element_attrs : (s : MScope) (ps : List Part) → attrs_by ps (scope_by f s) ≡ map (value_by f) (attributes_in (mwritten_parts s ps))
  element_attrs s ps = ap attributes_in (parts_by s ps) ∙ attributes_by (mwritten_parts s ps)

  pub element_mods : (s : MScope) (ps : List Part) → mods_by ps (scope_by f s) ≡ map (modifier_by f) (modifiers_in (mwritten_parts s ps))
  element_mods s ps = ap modifiers_in (parts_by s ps) ∙ modifiers_by (mwritten_parts s ps)

  pub distinct_by : (ms : List (WrittenValue MScope)) → distinct_names (map (value_by f) ms) ≡ distinct_names ms
  distinct_by [] = refl
  distinct_by (m ∷ ms) = ap (λ ns. m.name ∷ filter (λ n. not (bytes_eq m.name n)) ns) (distinct_by ms)

  group_by : (n : Text) (ms : List (WrittenValue MScope)) → filter (λ w. bytes_eq n w.name) (map (value_by f) ms) ≡ map (value_by f) (filter (λ w. bytes_eq n w.name) ms)
  group_by n [] = refl
  group_by n (m ∷ ms) = by (bytes_eq n m.name) (group_by n ms) where
    by : (b : Bool) → filter (λ w. bytes_eq n w.name) (map (value_by f) ms) ≡ map (value_by f) (filter (λ w. bytes_eq n w.name) ms)
        → cond b (value_by f m ∷ filter (λ w. bytes_eq n w.name) (map (value_by f) ms)) (filter (λ w. bytes_eq n w.name) (map (value_by f) ms))
        ≡ map (value_by f) (cond b (m ∷ filter (λ w. bytes_eq n w.name) ms) (filter (λ w. bytes_eq n w.name) ms))
    by true e = ap (λ zs. value_by f m ∷ zs) e
    by false e = e

  last_by_value : (ms : List (WrittenValue MScope)) → last_only (map (value_by f) ms) ≡ map (value_by f) (last_only ms)
  last_by_value [] = refl
  last_by_value (m ∷ []) = refl
  last_by_value (m ∷ n ∷ ms) = last_by_value (n ∷ ms)

  pub taken_by : (n : Text) (ms : List (WrittenValue MScope)) → taken_values n (map (value_by f) ms) ≡ map (value_by f) (taken_values n ms)
  taken_by n ms = by (bytes_eq n (codes "class")) where
    by : (b : Bool) → (if b then filter (λ w. bytes_eq n w.name) (map (value_by f) ms) else last_only (filter (λ w. bytes_eq n w.name) (map (value_by f) ms)))
        ≡ map (value_by f) (if b then filter (λ w. bytes_eq n w.name) ms else last_only (filter (λ w. bytes_eq n w.name) ms))
    by true = group_by n ms
    by false = ap last_only (group_by n ms) ∙ last_by_value (filter (λ w. bytes_eq n w.name) ms)

  pub live_by : (ms : List (WrittenValue MScope)) → some_live (map (value_by f) ms) ≡ some_live ms
  live_by [] = refl
  live_by (m ∷ ms) = ap (λ b. is_live m.value || b) (live_by ms)

  -- what an attribute's values are
  pub pairs_by : (app : App) (ρ : Store) (ms : List (WrittenValue MScope)) → map (λ w. eval_value app ρ w.by w.value) (map (value_by f) ms) ≡ map (λ w. eval_value app ρ (scope_by f w.by) w.value) ms
  pairs_by app ρ [] = refl
  pairs_by app ρ (m ∷ ms) = ap (λ zs. eval_value app ρ (scope_by f m.by) m.value ∷ zs) (pairs_by app ρ ms)

  pub taken_pairs_by : (app : App) (ρ : Store) (s : MScope) (ps : List Part) (n : Text)
      → map (λ w. eval_value app ρ (scope_by f w.by) w.value) (taken_values n (attributes_in (mwritten_parts s ps))) ≡ taken_pairs app ρ (attrs_by ps (scope_by f s)) n
  taken_pairs_by app ρ s ps n =
      sym (pairs_by app ρ (taken_values n (attributes_in (mwritten_parts s ps))))
      ∙ ap (map (λ w. eval_value app ρ w.by w.value)) (sym (taken_by n (attributes_in (mwritten_parts s ps))) ∙ ap (taken_values n) (sym (element_attrs s ps)))

-- The scopes that wrote the parts are in scope.

module _ (app : App) (b : ℕ) (ms : MScope) where
  abbrev pub Near : MScope → Type 0
  Near by = ScopeBelow app b by × ((ρ : Store) (f : ℕ → Pair) → CellsIn app ρ f ms → CellsIn app ρ f by)

  abbrev pub NearWritten : List (Written MScope) → Type 0
  NearWritten [] = Unit {0}
  NearWritten (w ∷ ws) = Near w.by × NearWritten ws

  near_append : (xs ys : List (Written MScope)) → NearWritten xs → NearWritten ys → NearWritten (xs ++ ys)
  near_append [] ys h k = k
  near_append (x ∷ xs) ys h k = (h.0, near_append xs ys h.1 k)

  near_spread : (xs : List (Written MScope)) (s : MScope) (ps : List Part) → NearWritten xs → Near s → NearWritten (spread_in xs s ps)
  near_spread xs s [] h k = tt
  near_spread xs s (t.spread ∷ ps) h k = near_append xs (spread_in xs s ps) h (near_spread xs s ps h k)
  near_spread xs s (t.attribute n v ∷ ps) h k = (k, near_spread xs s ps h k)
  near_spread xs s (t.modifier n es ns ∷ ps) h k = (k, near_spread xs s ps h k)

  near_passed : (v : MPassed) → PassedBelow app b v → ((ρ : Store) (f : ℕ → Pair) → CellsIn app ρ f ms → CellsPassed app ρ f v) → NearWritten (mpassed_parts v)
  near_passed mnothing h k = tt
  near_passed (mpassed j ps bs (mscope i a l w)) h k =
      near_spread (mpassed_parts w) (mscope i a l w) ps (near_passed w h.3 (λ ρ f c. (k ρ f c).1)) (h, k)

-- the parts of an element
pub near_parts : (app : App) (b : ℕ) (ms : MScope) (ps : List Part) → ScopeBelow app b ms → NearWritten app b ms (mwritten_parts ms ps)
near_parts app b (mscope i a l w) ps low =
    near_spread app b (mscope i a l w) (mpassed_parts w) (mscope i a l w) ps (near_passed app b (mscope i a l w) w low.3 (λ ρ f c. c.1)) (low, λ ρ f c. c)
