-- The parts of a tag with other names.
use Rattle.std.proofs.Common.{◌≡◌, ℕ, zero, suc, List, [], ◌∷◌, ◌++◌, map, length, Bool, true, false, refl, ap, ap₂, ◌∙◌}
use Rattle.std.specs.Prelude.{if◌then◌else◌, filter_map}
use Rattle.std.specs.List.{cons_option}
use Rattle.gl_base.specs.Texts.{Text}
use Rattle.gl_value.specs.Value.{text, attribute_text}
use Rattle.gl_value.specs.Owners.{with_owners}
use Rattle.gl_value.proofs.Owners.{rules_leave_owners}
use Rattle.gl_ast.specs.Template as t
use Rattle.gl_ast.specs.Template.{AttrValue, Part}
use Rattle.gl_meaning.specs.App.{App}
use Rattle.gl_meaning.specs.Path.{Path, V}
use Rattle.gl_meaning.specs.Scope.{Source, Pair, absent}
use Rattle.gl_meaning.specs.Eval.{values_in}
use Rattle.gl_meaning.specs.Parts.{Written, spread_in, attribute_value, joined_texts}
use Rattle.gl_labels.specs.Laws.{names_with}
use Rattle.gl_plain.specs.Ids.{a_modifier}
use Rattle.gl_plain.specs.State.{constant_form, MScope, mscope, MPassed, mnothing, mpassed, inst_of, passed_in, modifier_row, State, make, note_installed}
use Rattle.gl_plain.specs.Naming.{by_number}
use Rattle.gl_plain.specs.Binding.{Placed, place, first_value, bind_pairs, bind_exprs_as}
use Rattle.gl_plain.specs.Parts.{mpassed_parts, mwritten_parts}
use Rattle.gl_plain.specs.Live.{ModSpot}
use Rattle.gl_plain.specs.Tags.{Waiting, live_part, modifier_part, bind_attribute, bind_attribute_as, bind_part, bind_part_as, bind_written, bind_written_as, Given, fixed_given, live_given, taken_waiting, some_waiting_live, given_ref, given_refs, given_pairs, AttrsGiven, give_attrs, flush_parts, attributes_waiting, names_waiting, WaitingModifier, modifiers_waiting, first_values, named_with, values_from, install, install_all, install_parts}
use Rattle.gl_naming.specs.Renamed.{pair_with, installed_with, state_with, bound_all_with, placed_with, parts_with, attrs_with, mods_with, run_with, OwnerRight, ScopeRight, PassedRight}
use Rattle.gl_naming.proofs.Pairs.{place_map, values_to}
use Rattle.gl_naming.proofs.Bound.{make_im, new_im, exprs_bound, pairs_bound, live_bound, place_im}

module _ (f : Path → Path) (g : Source → Source) where
  abbrev to : Pair → Pair
  to p = pair_with f g p

  pub owner_of : (ms : MScope) → ScopeRight f g ms → OwnerRight f g (inst_of ms)
  owner_of (mscope i a l w) h = h.0

  -- each part is written in a scope with right names
  abbrev pub PartsRight : List (Written MScope) → Type 0
  PartsRight [] = Unit {0}
  PartsRight (w ∷ ws) = ScopeRight f g w.by × PartsRight ws

  parts_join : (ws zs : List (Written MScope)) → PartsRight ws → PartsRight zs → PartsRight (ws ++ zs)
  parts_join [] zs h k = k
  parts_join (w ∷ ws) zs h k = (h.0, parts_join ws zs h.1 k)

  spread_right : (ws : List (Written MScope)) (s : MScope) (ps : List Part) → PartsRight ws → ScopeRight f g s → PartsRight (spread_in ws s ps)
  spread_right ws s [] h k = tt
  spread_right ws s (t.spread ∷ ps) h k = parts_join ws _ h (spread_right ws s ps h k)
  spread_right ws s (t.attribute n z ∷ ps) h k = (k, spread_right ws s ps h k)
  spread_right ws s (t.modifier n es ns ∷ ps) h k = (k, spread_right ws s ps h k)

  passed_right : (w : MPassed) → PassedRight f g w → PartsRight (mpassed_parts w)
  passed_right mnothing h = tt
  passed_right (mpassed b ps bs (mscope i a l w)) h = spread_right (mpassed_parts w) (mscope i a l w) ps (passed_right w h.1) h

  pub passed_of : (ms : MScope) → ScopeRight f g ms → PassedRight f g (passed_in ms)
  passed_of (mscope i a l w) h = h.1

  pub written_right : (ms : MScope) (ps : List Part) → ScopeRight f g ms → PartsRight (mwritten_parts ms ps)
  written_right ms ps h = spread_right (mpassed_parts (passed_in ms)) ms ps (passed_right (passed_in ms) (passed_of ms h)) h

  texts_same : (ps : List Pair) → filter_map (λ p. attribute_text p.value) (map to ps) ≡ filter_map (λ p. attribute_text p.value) ps
  texts_same [] = refl
  texts_same (p ∷ ps) = ap₂ (λ o ys. cons_option o ys) (rules_leave_owners f p.value).2 (texts_same ps)

  pub attribute_same : (ps : List Pair) → attribute_value (map to ps) ≡ attribute_value ps
  attribute_same ps = ap joined_texts (texts_same ps)

  pub first_on : (ps : List Pair) → first_value (map to ps) ≡ with_owners f (first_value ps)
  first_on ps = ap (λ p. p.value) (place_map to absent 0 ps)

  pub firsts_on : (n : ℕ) (vs : List V) → first_values n (map (with_owners f) vs) ≡ map (with_owners f) (first_values n vs)
  firsts_on zero vs = refl
  firsts_on (suc n) [] = refl
  firsts_on (suc n) (v ∷ vs) = ap (λ ws. with_owners f v ∷ ws) (firsts_on n vs)

  pub from_on : (n : ℕ) (vs : List V) → values_from n (map (with_owners f) vs) ≡ map (with_owners f) (values_from n vs)
  from_on zero vs = refl
  from_on (suc n) [] = refl
  from_on (suc n) (v ∷ vs) = from_on n vs

  pub named_on : (ns : List Text) (vs : List V) → named_with ns (map (with_owners f) vs) ≡ names_with f (named_with ns vs)
  named_on [] vs = refl
  named_on (n ∷ ns) [] = refl
  named_on (n ∷ ns) (v ∷ vs) = ap (λ ws. (n, with_owners f v) ∷ ws) (named_on ns vs)

  module _ (hot : Source → Bool) where
    abbrev im : State → State
    im st = state_with f g hot st

    attribute_im : (app : App) (ms : MScope) → ScopeRight f g ms → (n : Text) (v : AttrValue) (st : State) → bind_attribute app ms n v (im st) ≡ parts_with f g hot (bind_attribute_as by_number app ms n v st)
    attribute_im app ms h n (t.fixed z) st = refl
    attribute_im app ms h n (t.live e) st = ap (λ b. record { parts = live_part n b.id ∷ []; made = b.made; state = b.state }) (live_bound f g hot app ms (owner_of ms h) e st)

    part_im : (app : App) (ms : MScope) → ScopeRight f g ms → (p : Part) (st : State) → bind_part app ms p (im st) ≡ parts_with f g hot (bind_part_as by_number app ms p st)
    part_im app ms h (t.attribute n v) st = attribute_im app ms h n v st
    part_im app ms h (t.modifier n es ns) st =
        let b = bind_exprs_as by_number app ms es st in
        ap (λ y. let z = bind_pairs app ms ns y.state in record { parts = modifier_part n y.ids z.names ∷ []; made = y.made ++ z.made; state = z.state }) (exprs_bound f g hot app ms (owner_of ms h) es st)
        ∙ ap (λ z. record { parts = modifier_part n b.ids z.names ∷ []; made = b.made ++ z.made; state = z.state }) (pairs_bound f g hot app ms (owner_of ms h) ns b.state)
    part_im app ms h t.spread st = refl

    pub written_im : (app : App) (ws : List (Written MScope)) → PartsRight ws → (st : State) → bind_written app ws (im st) ≡ parts_with f g hot (bind_written_as by_number app ws st)
    written_im app [] h st = refl
    written_im app (w ∷ ws) h st =
        let b = bind_part_as by_number app w.by w.part st in
        ap (λ y. let z = bind_written app ws y.state in record { parts = y.parts ++ z.parts; made = y.made ++ z.made; state = z.state }) (part_im app w.by h.0 w.part st)
        ∙ ap (λ z. record { parts = b.parts ++ z.parts; made = b.made ++ z.made; state = z.state }) (written_im app ws h.1 b.state)

    given_im : (x : Given) (st : State) → given_ref x (im st) ≡ Rattle.gl_naming.specs.Renamed.bound_with f g hot (given_ref x st)
    given_im (fixed_given z) st = new_im f g hot (constant_form (text z)) st
    given_im (live_given r) st = refl

    givens_im : (xs : List (Text × Given)) (st : State) → given_refs xs (im st) ≡ bound_all_with f g hot (given_refs xs st)
    givens_im [] st = refl
    givens_im (x ∷ xs) st =
        let b = given_ref x.1 st in
        ap (λ y. let z = given_refs xs y.state in record { ids = y.id ∷ z.ids; made = y.made ++ z.made; state = z.state }) (given_im x.1 st)
        ∙ ap (λ z. record { ids = b.id ∷ z.ids; made = b.made ++ z.made; state = z.state }) (givens_im xs b.state)

    module _ (once : (o p : Path) → f o ≡ f p → o ≡ p) where
      attrs_im : (ws : List (Text × Given)) (ns : List Text) (st : State) → give_attrs ws ns (im st) ≡ attrs_with f g hot (give_attrs ws ns st)
      attrs_im ws [] st = refl
      attrs_im ws (n ∷ ns) st = by (some_waiting_live (taken_waiting n ws)) (attrs_im ws ns) where
        by : (u : Bool) → ((s : State) → give_attrs ws ns (im s) ≡ attrs_with f g hot (give_attrs ws ns s))
            → let taken = taken_waiting n ws in
            let one : State → AttrsGiven = λ s. (let x = place (given_refs taken s) in let r = give_attrs ws ns x.state in record { attrs = (n, attribute_value x.pairs) ∷ r.attrs; spots = record { name = n; spot = x.spot } ∷ r.spots; state = r.state }) in
            let fixed : State → AttrsGiven = λ s. (let r = give_attrs ws ns s in record { attrs = (n, attribute_value (given_pairs taken)) ∷ r.attrs; spots = r.spots; state = r.state }) in
            (if u then one (im st) else fixed (im st)) ≡ attrs_with f g hot (if u then one st else fixed st)
        by true rest =
            let b = given_refs (taken_waiting n ws) st in
            let x = place b in
            ap (λ y. let z = place y in let r = give_attrs ws ns z.state in record { attrs = (n, attribute_value z.pairs) ∷ r.attrs; spots = record { name = n; spot = z.spot } ∷ r.spots; state = r.state }) (givens_im (taken_waiting n ws) st)
            ∙ (ap (λ z. let r = give_attrs ws ns z.state in record { attrs = (n, attribute_value z.pairs) ∷ r.attrs; spots = record { name = n; spot = z.spot } ∷ r.spots; state = r.state }) (place_im f g hot once b)
            ∙ ap₂ (λ v r. record { attrs = (n, v) ∷ r.attrs; spots = record { name = n; spot = x.spot } ∷ r.spots; state = r.state }) (attribute_same x.pairs) (rest x.state))
        by false rest = ap (λ r. record { attrs = (n, attribute_value (given_pairs (taken_waiting n ws))) ∷ r.attrs; spots = r.spots; state = r.state }) (rest st)

      pub flush_im : (ps : List Waiting) (st : State) → flush_parts ps (im st) ≡ attrs_with f g hot (flush_parts ps st)
      flush_im ps st = attrs_im (attributes_waiting ps) (names_waiting (attributes_waiting ps)) st

      one_im : (n i : ℕ) (w : WaitingModifier) (x : Placed) → install n i w (placed_with f g hot x) ≡ run_with f g hot (install n i w x)
      one_im n i w x =
          let m = x.state.next a_modifier in
          let k = length w.ids in
          let names = map (λ y. y.0) w.names in
          let vs = values_in x.pairs in
          let spot : ModSpot = record { id = m; positional = k; names = names; spot = x.spot } in
          ap (λ ws. (spot, note_installed m (make a_modifier (modifier_row (record { on_node = n; place = i; name = w.name; args = first_values k ws; names = named_with names (values_from k ws) })) (im x.state)))) (values_to f g x.pairs)
          ∙ (ap₂ (λ us ms. (spot, note_installed m (make a_modifier (modifier_row (record { on_node = n; place = i; name = w.name; args = us; names = ms })) (im x.state))))
          (firsts_on k vs) (ap (named_with names) (from_on k vs) ∙ named_on names (values_from k vs))
          ∙ ap (λ s. (spot, note_installed m s)) (make_im f g hot a_modifier (modifier_row (record { on_node = n; place = i; name = w.name; args = first_values k vs; names = named_with names (values_from k vs) })) x.state))

      mods_im : (n i : ℕ) (ws : List WaitingModifier) (st : State) → install_all n i ws (im st) ≡ mods_with f g hot (install_all n i ws st)
      mods_im n i [] st = refl
      mods_im n i (w ∷ ws) st =
          let x = place (record { ids = w.ids ++ map (λ y. y.1) w.names; made = []; state = st }) in
          let a = install n i w x in
          ap (λ z. let y = install n i w z in let r = install_all n (suc i) ws y.1 in record { spots = y.0 ∷ r.spots; state = r.state }) (place_im f g hot once (record { ids = w.ids ++ map (λ y. y.1) w.names; made = []; state = st }))
          ∙ (ap (λ y. let r = install_all n (suc i) ws y.1 in record { spots = y.0 ∷ r.spots; state = r.state }) (one_im n i w x)
          ∙ ap (λ r. record { spots = a.0 ∷ r.spots; state = r.state }) (mods_im n (suc i) ws a.1))

      pub install_im : (n i : ℕ) (ps : List Waiting) (st : State) → install_parts n i ps (im st) ≡ mods_with f g hot (install_parts n i ps st)
      install_im n i ps st = mods_im n i (modifiers_waiting ps) st
