-- The parts of a tag with other names, as the meaning has them.
use Rattle.std.proofs.Common.{◌≡◌, List, [], ◌∷◌, ◌++◌, map, Bool, true, false, cond, refl, sym, ap, ap₂, ◌∙◌}
use Rattle.std.specs.Prelude.{if◌then◌else◌, filter, codes}
use Rattle.std.specs.List.{cons_option}
use Rattle.std.specs.Str.{bytes_eq}
use Rattle.std.proofs.lemmas.List.{map-append}
use Rattle.gl_base.specs.Texts.{Text}
use Rattle.gl_ast.specs.Template as t
use Rattle.gl_ast.specs.Template.{Part}
use Rattle.gl_meaning.specs.App.{App}
use Rattle.gl_meaning.specs.Path.{Path}
use Rattle.gl_meaning.specs.Scope.{Source, Pair, Scope, scope, Passed, nothing_passed, passed, passed_of}
use Rattle.gl_meaning.specs.Eval.{Store, eval_value, eval_all, eval_named}
use Rattle.gl_meaning.specs.Parts.{Written, WrittenValue, WrittenModifier, spread_in, passed_parts, written_parts, attribute_in, attributes_in, taken_values, last_only, modifier_in, modifiers_in, taken_pairs}
use Rattle.gl_plain.specs.Stands.{attrs_by, mods_by, modifier_pairs, head_of, tail_of, pairs_for}
use Rattle.gl_naming.specs.Renamed.{pair_with, StoresAgree}
use Rattle.gl_naming.proofs.Pairs.{named_pairs}
use Rattle.gl_naming.proofs.Evals.{scope_with, passed_with, ScopeStill, PassedStill, ScopeIs, PassedIs, eval_all_to, eval_named_to, eval_value_to, passed_stays, passed_are}

-- each was written in a scope with the property
abbrev pub AllBy : {A : Type 0} → (A → Scope) → (Scope → Type 0) → List A → Type 0
AllBy by P [] = Unit {0}
AllBy by P (x ∷ xs) = P (by x) × AllBy by P xs

abbrev pub by_written : Written Scope → Scope
by_written w = w.by

abbrev pub by_value : WrittenValue Scope → Scope
by_value w = w.by

abbrev pub by_modifier : WrittenModifier Scope → Scope
by_modifier w = w.by

-- A property that goes on to the scope that wrote what was passed.
module _ (P : Scope → Type 0) (Q : Passed → Type 0) (into : (ps : List Part) (bs : t.Slots) (s : Scope) → Q (passed ps bs s) → P s) (out : (s : Scope) → P s → Q (passed_of s)) where
  join_by : (ws zs : List (Written Scope)) → AllBy by_written P ws → AllBy by_written P zs → AllBy by_written P (ws ++ zs)
  join_by [] zs h g = g
  join_by (w ∷ ws) zs h g = (h.0, join_by ws zs h.1 g)

  spread_by : (ws : List (Written Scope)) (s : Scope) (ps : List Part) → AllBy by_written P ws → P s → AllBy by_written P (spread_in ws s ps)
  spread_by ws s [] h g = tt
  spread_by ws s (t.spread ∷ ps) h g = join_by ws _ h (spread_by ws s ps h g)
  spread_by ws s (t.attribute n v ∷ ps) h g = (g, spread_by ws s ps h g)
  spread_by ws s (t.modifier n es ns ∷ ps) h g = (g, spread_by ws s ps h g)

  passed_by : (w : Passed) → Q w → AllBy by_written P (passed_parts w)
  passed_by nothing_passed h = tt
  passed_by (passed ps bs (scope i a l w)) h = let s = into ps bs (scope i a l w) h in spread_by (passed_parts w) (scope i a l w) ps (passed_by w (out (scope i a l w) s)) s

  written_by : (s : Scope) (ps : List Part) → P s → AllBy by_written P (written_parts s ps)
  written_by (scope i a l w) ps h = spread_by (passed_parts w) (scope i a l w) ps (passed_by w (out (scope i a l w) h)) h

  values_by : (ws : List (Written Scope)) → AllBy by_written P ws → AllBy by_value P (attributes_in ws)
  values_by [] h = tt
  values_by (w ∷ ws) h = by w.part (values_by ws h.1) where
    by : (p : Part) → AllBy by_value P (attributes_in ws) → AllBy by_value P (cons_option (attribute_in w.by p) (attributes_in ws))
    by (t.attribute n v) r = (h.0, r)
    by (t.modifier n es ns) r = r
    by t.spread r = r

  modifiers_by : (ws : List (Written Scope)) → AllBy by_written P ws → AllBy by_modifier P (modifiers_in ws)
  modifiers_by [] h = tt
  modifiers_by (w ∷ ws) h = by w.part (modifiers_by ws h.1) where
    by : (p : Part) → AllBy by_modifier P (modifiers_in ws) → AllBy by_modifier P (cons_option (modifier_in w.by p) (modifiers_in ws))
    by (t.attribute n v) r = r
    by (t.modifier n es ns) r = (h.0, r)
    by t.spread r = r

  group_by : (n : Text) (ws : List (WrittenValue Scope)) → AllBy by_value P ws → AllBy by_value P (filter (λ w. bytes_eq n w.name) ws)
  group_by n [] h = tt
  group_by n (w ∷ ws) h = by (bytes_eq n w.name) (group_by n ws h.1) where
    by : (b : Bool) → AllBy by_value P (filter (λ w. bytes_eq n w.name) ws) → AllBy by_value P (cond b (w ∷ filter (λ w. bytes_eq n w.name) ws) (filter (λ w. bytes_eq n w.name) ws))
    by true r = (h.0, r)
    by false r = r

  last_by : (ws : List (WrittenValue Scope)) → AllBy by_value P ws → AllBy by_value P (last_only ws)
  last_by [] h = tt
  last_by (w ∷ []) h = h
  last_by (w ∷ z ∷ ws) h = last_by (z ∷ ws) h.1

  taken_by : (n : Text) (ws : List (WrittenValue Scope)) → AllBy by_value P ws → AllBy by_value P (taken_values n ws)
  taken_by n ws h = by (bytes_eq n (codes "class")) where
    by : (b : Bool) → AllBy by_value P (if b then filter (λ w. bytes_eq n w.name) ws else last_only (filter (λ w. bytes_eq n w.name) ws))
    by true = group_by n ws h
    by false = last_by (filter (λ w. bytes_eq n w.name) ws) (group_by n ws h)

  pub attrs_all : (ps : List Part) (s : Scope) → P s → AllBy by_value P (attrs_by ps s)
  attrs_all ps s h = values_by (written_parts s ps) (written_by s ps h)

  pub mods_all : (ps : List Part) (s : Scope) → P s → AllBy by_modifier P (mods_by ps s)
  mods_all ps s h = modifiers_by (written_parts s ps) (written_by s ps h)

  pub taken_all : (n : Text) (ws : List (WrittenValue Scope)) → AllBy by_value P ws → AllBy by_value P (taken_values n ws)
  taken_all = taken_by

module _ (h : Path → Path) (k : Source → Source) where
  abbrev to : Pair → Pair
  to p = pair_with h k p

  abbrev on : Scope → Scope
  on s = scope_with h k s

  abbrev written_to : Written Scope → Written Scope
  written_to w = record { part = w.part; by = on w.by }

  abbrev pub value_to : WrittenValue Scope → WrittenValue Scope
  value_to w = record { name = w.name; value = w.value; by = on w.by }

  abbrev pub modifier_to : WrittenModifier Scope → WrittenModifier Scope
  modifier_to w = record { name = w.name; args = w.args; names = w.names; by = on w.by }

  spread_to : (xs : List (Written Scope)) (s : Scope) (ps : List Part) → spread_in (map written_to xs) (on s) ps ≡ map written_to (spread_in xs s ps)
  spread_to xs s [] = refl
  spread_to xs s (t.spread ∷ ps) = ap (λ zs. map written_to xs ++ zs) (spread_to xs s ps) ∙ sym (map-append written_to xs (spread_in xs s ps))
  spread_to xs s (t.attribute n v ∷ ps) = ap (λ zs. record { part = t.attribute n v; by = on s } ∷ zs) (spread_to xs s ps)
  spread_to xs s (t.modifier n es ns ∷ ps) = ap (λ zs. record { part = t.modifier n es ns; by = on s } ∷ zs) (spread_to xs s ps)

  passed_to : (v : Passed) → passed_parts (passed_with h k v) ≡ map written_to (passed_parts v)
  passed_to nothing_passed = refl
  passed_to (passed ps bs (scope i a l w)) = ap (λ zs. spread_in zs (on (scope i a l w)) ps) (passed_to w) ∙ spread_to (passed_parts w) (scope i a l w) ps

  parts_to : (s : Scope) (ps : List Part) → written_parts (on s) ps ≡ map written_to (written_parts s ps)
  parts_to (scope i a l w) ps = ap (λ zs. spread_in zs (on (scope i a l w)) ps) (passed_to w) ∙ spread_to (passed_parts w) (scope i a l w) ps

  attributes_to : (ws : List (Written Scope)) → attributes_in (map written_to ws) ≡ map value_to (attributes_in ws)
  attributes_to [] = refl
  attributes_to (w ∷ ws) = by w.part (attributes_to ws) where
    by : (p : Part) → attributes_in (map written_to ws) ≡ map value_to (attributes_in ws)
        → cons_option (attribute_in (on w.by) p) (attributes_in (map written_to ws)) ≡ map value_to (cons_option (attribute_in w.by p) (attributes_in ws))
    by (t.attribute n v) e = ap (λ zs. record { name = n; value = v; by = on w.by } ∷ zs) e
    by (t.modifier n es ns) e = e
    by t.spread e = e

  modifiers_to : (ws : List (Written Scope)) → modifiers_in (map written_to ws) ≡ map modifier_to (modifiers_in ws)
  modifiers_to [] = refl
  modifiers_to (w ∷ ws) = by w.part (modifiers_to ws) where
    by : (p : Part) → modifiers_in (map written_to ws) ≡ map modifier_to (modifiers_in ws)
        → cons_option (modifier_in (on w.by) p) (modifiers_in (map written_to ws)) ≡ map modifier_to (cons_option (modifier_in w.by p) (modifiers_in ws))
    by (t.attribute n v) e = e
    by (t.modifier n es ns) e = ap (λ zs. record { name = n; args = es; names = ns; by = on w.by } ∷ zs) e
    by t.spread e = e

  attrs_to : (ps : List Part) (s : Scope) → attrs_by ps (on s) ≡ map value_to (attrs_by ps s)
  attrs_to ps s = ap attributes_in (parts_to s ps) ∙ attributes_to (written_parts s ps)

  mods_to : (ps : List Part) (s : Scope) → mods_by ps (on s) ≡ map modifier_to (mods_by ps s)
  mods_to ps s = ap modifiers_in (parts_to s ps) ∙ modifiers_to (written_parts s ps)

  group_to : (n : Text) (ms : List (WrittenValue Scope)) → filter (λ w. bytes_eq n w.name) (map value_to ms) ≡ map value_to (filter (λ w. bytes_eq n w.name) ms)
  group_to n [] = refl
  group_to n (m ∷ ms) = by (bytes_eq n m.name) (group_to n ms) where
    by : (b : Bool) → filter (λ w. bytes_eq n w.name) (map value_to ms) ≡ map value_to (filter (λ w. bytes_eq n w.name) ms)
        → cond b (value_to m ∷ filter (λ w. bytes_eq n w.name) (map value_to ms)) (filter (λ w. bytes_eq n w.name) (map value_to ms))
        ≡ map value_to (cond b (m ∷ filter (λ w. bytes_eq n w.name) ms) (filter (λ w. bytes_eq n w.name) ms))
    by true e = ap (λ zs. value_to m ∷ zs) e
    by false e = e

  last_to : (ms : List (WrittenValue Scope)) → last_only (map value_to ms) ≡ map value_to (last_only ms)
  last_to [] = refl
  last_to (m ∷ []) = refl
  last_to (m ∷ n ∷ ms) = last_to (n ∷ ms)

  taken_to : (n : Text) (ms : List (WrittenValue Scope)) → taken_values n (map value_to ms) ≡ map value_to (taken_values n ms)
  taken_to n ms = by (bytes_eq n (codes "class")) where
    by : (b : Bool) → (if b then filter (λ w. bytes_eq n w.name) (map value_to ms) else last_only (filter (λ w. bytes_eq n w.name) (map value_to ms)))
        ≡ map value_to (if b then filter (λ w. bytes_eq n w.name) ms else last_only (filter (λ w. bytes_eq n w.name) ms))
    by true = group_to n ms
    by false = ap last_only (group_to n ms) ∙ last_to (filter (λ w. bytes_eq n w.name) ms)

  module _ (app : App) where
    -- modifiers, as a tag has them by its scope
    abbrev pub ModsMove : (Scope → List (WrittenModifier Scope)) → Type 0
    ModsMove ws = (s : Scope) → ScopeStill h k app s → (ws (on s) ≡ map modifier_to (ws s)) × AllBy by_modifier (ScopeStill h k app) (ws s)

    pub mods_move : (ps : List Part) → ModsMove (mods_by ps)
    mods_move ps s still = (mods_to ps s, mods_all (ScopeStill h k app) (PassedStill h k app) (λ qs bs v w. w) still_passed ps s still) where
      still_passed : (v : Scope) → ScopeStill h k app v → PassedStill h k app (passed_of v)
      still_passed (scope i a l w) g = g.1

    pub tail_moves : (ws : Scope → List (WrittenModifier Scope)) → ModsMove ws → ModsMove (λ s. tail_of (ws s))
    tail_moves ws m s still = let g = m s still in (ap tail_of g.0 ∙ tails (ws s), tail_all (ws s) g.1) where
      tails : (xs : List (WrittenModifier Scope)) → tail_of (map modifier_to xs) ≡ map modifier_to (tail_of xs)
      tails [] = refl
      tails (x ∷ xs) = refl

      tail_all : (xs : List (WrittenModifier Scope)) → AllBy by_modifier (ScopeStill h k app) xs → AllBy by_modifier (ScopeStill h k app) (tail_of xs)
      tail_all [] a = tt
      tail_all (x ∷ xs) a = a.1

  module _ (once : (o p : Path) → h o ≡ h p → o ≡ p) (app : App) (σ τ : Store) (agree : StoresAgree h k app σ τ) where
    values_to : (ws : List (WrittenValue Scope)) → AllBy by_value (ScopeStill h k app) ws → map (λ w. eval_value app τ w.by w.value) (map value_to ws) ≡ map to (map (λ w. eval_value app σ w.by w.value) ws)
    values_to [] a = refl
    values_to (w ∷ ws) a = ap₂ (λ p ps. p ∷ ps) (eval_value_to h k once app σ τ agree w.by a.0 w.value) (values_to ws a.1)

    -- what an attribute takes
    pub taken_pairs_to : (ps : List Part) (s : Scope) → ScopeStill h k app s → (n : Text) → taken_pairs app τ (attrs_by ps (on s)) n ≡ map to (taken_pairs app σ (attrs_by ps s) n)
    taken_pairs_to ps s still n =
        let ws = attrs_by ps s in
        ap (λ vs. map (λ w. eval_value app τ w.by w.value) (taken_values n vs)) (attrs_to ps s)
        ∙ (ap (map (λ w. eval_value app τ w.by w.value)) (taken_to n ws)
        ∙ values_to (taken_values n ws) (taken_all (ScopeStill h k app) (PassedStill h k app) (λ qs bs v w. w) (passed_stays h k app) n ws (attrs_all (ScopeStill h k app) (PassedStill h k app) (λ qs bs v w. w) (passed_stays h k app) ps s still)))

    -- what a modifier is given
    pub modifier_pairs_to : (w : WrittenModifier Scope) → ScopeStill h k app w.by → modifier_pairs app τ (modifier_to w) ≡ map to (modifier_pairs app σ w)
    modifier_pairs_to w a =
        ap₂ (λ ps ns. ps ++ map (λ n. n.1) ns) (eval_all_to h k once app σ τ agree w.by a w.args) (eval_named_to h k once app σ τ agree w.by a w.names)
        ∙ (ap (λ ns. map to (eval_all app σ w.by w.args) ++ ns) (named_pairs h k (eval_named app σ w.by w.names))
        ∙ sym (map-append to (eval_all app σ w.by w.args) (map (λ n. n.1) (eval_named app σ w.by w.names))))

    first_pairs_to : (ws : List (WrittenModifier Scope)) → AllBy by_modifier (ScopeStill h k app) ws → pairs_for app τ (head_of (map modifier_to ws)) ≡ map to (pairs_for app σ (head_of ws))
    first_pairs_to [] a = refl
    first_pairs_to (w ∷ ws) a = modifier_pairs_to w a.0

    pub mod_pairs_to : (ws : Scope → List (WrittenModifier Scope)) → ModsMove app ws → (s : Scope) → ScopeStill h k app s → pairs_for app τ (head_of (ws (on s))) ≡ map to (pairs_for app σ (head_of (ws s)))
    mod_pairs_to ws m s still = let g = m s still in ap (λ xs. pairs_for app τ (head_of xs)) g.0 ∙ first_pairs_to (ws s) g.1

  -- what is written in scopes that are as they were
  module _ (app : App) where
    pub mods_are : (ps : List Part) (s : Scope) → ScopeIs h k app s → AllBy by_modifier (ScopeIs h k app) (mods_by ps s)
    mods_are ps s is = mods_all (ScopeIs h k app) (PassedIs h k app) (λ qs bs v w. w) (passed_are h k app) ps s is
