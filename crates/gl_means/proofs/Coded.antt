-- The same in code.
use Rattle.std.proofs.Common.{◌≡◌, ℕ, Bool, true, false, true≢false, List, [], ◌∷◌, map, Option, Some, None, option_map, IsSome, refl, sym, ap, ap₂, ◌∙◌, subst}
use Rattle.std.specs.Prelude.{unwrap_or, ◌<◌, ◌||◌}
use Rattle.std.specs.List.{list_any}
use Rattle.gl_arena.specs.Id.{Id}
use Rattle.gl_arena.specs.Arena.{by_stamp, IsStamped}
use Rattle.gl_arena.proofs.Stamps.{by_stamp-id}
use Rattle.gl_tags.specs.Tags as t
use Rattle.gl_refs.specs.Forms as f
use Rattle.gl_refs.specs.State as s
use Rattle.gl_refs.specs.Refs.{Refs, rows_of, forms_of}
use Rattle.gl_refs.proofs.Meanings.{each_map}
use Rattle.gl_meaning.specs.Path.{Path}
use Rattle.gl_meaning.specs.Scope.{Source, sources_of}
use Rattle.gl_meaning.specs.Changes.{Position}
use Rattle.gl_plain.specs.Ids.{Id as Name}
use Rattle.gl_plain.specs.State.{Form, all_form, any_of, row, Thing, pair_of}
use Rattle.gl_plain.specs.Renew.{spot_ids, last_of as told}
use Rattle.gl_naming.specs.Renamed.{pair_with}
use Rattle.gl_naming.proofs.Pairs.{map_map, sources_to}
use Rattle.gl_vm.specs.Led.{leads_to, IsReached, Led}
use Rattle.gl_vm.specs.View.{stamps, seen_form, last_led, last_of, seen_row, source_of, Tables, state_of}
use Rattle.gl_vm.specs.declared.vm.Vm.{Vm}
use Rattle.gl_vm.proofs.Values.{IsHeld, led-list, means, position-sources}
use Rattle.gl_means.specs.Means.{sees, meant, Evaluated, EvaluatedIn}
use Rattle.gl_means.specs.Laws.{MeansExpression, EvaluatesPositions, FreshPositions, Together}
use Rattle.gl_means.proofs.Expressions.{one_means}
use Rattle.gl_means.proofs.Plain.{evaluated, drawn_is, fresh_stands}

-- Rows

-- a row that is seen as a position is one
pub record SeenPosition (k : ℕ) (tags : t.Tags) (rows : ℕ → Option s.Row) (made : ℕ) (o : Option s.Row) (reads : List ℕ) (last : (Source → Bool) → Bool) : Type 0 where
  pub found : s.Row
  pub is : o ≡ Some found
  pub ids : List Id
  pub form : found.form ≡ f.all_form ids
  pub numbers : stamps ids ≡ reads
  pub last_is : last_led tags rows made found.last ≡ last

abbrev form_all : Form → Bool
form_all (all_form rs) = true
form_all _ = false

abbrev is_all : Option Thing → Bool
is_all (Some (row x)) = form_all x.form
is_all _ = false

seen_position : (k : ℕ) (tags : t.Tags) (rows : ℕ → Option s.Row) (made : ℕ) (o : Option s.Row) (reads : List ℕ) (last : (Source → Bool) → Bool)
    → option_map row (option_map (seen_row tags rows made k) o) ≡ Some (row (record { form = all_form reads; last = last })) → SeenPosition k tags rows made o reads last
seen_position k tags rows made None reads last e = absurd (true≢false (sym (ap is_all e)))
seen_position k tags rows made (Some x) reads last e = by x.form refl e where
  by : (g : f.Form) → x.form ≡ g → Some (row (record { form = seen_form k g; last = last_of tags rows made g x.last })) ≡ Some (row (record { form = all_form reads; last = last })) → SeenPosition k tags rows made (Some x) reads last
  by (f.all_form ids) q h = record { found = x; is = refl; ids = ids; form = q; numbers = ap spot_ids h; last_is = ap told h }
  by (f.constant_form v) q h = absurd (true≢false (sym (ap is_all h)))
  by (f.source_form i u v) q h = absurd (true≢false (sym (ap is_all h)))
  by (f.prop_form r n) q h = absurd (true≢false (sym (ap is_all h)))
  by (f.call_form m ids ns) q h = absurd (true≢false (sym (ap is_all h)))
  by (f.cat_form ids) q h = absurd (true≢false (sym (ap is_all h)))

module _ (vm : Vm) (stamped : IsStamped vm.refs.rows) (sound : s.IsSound vm.refs.tags (rows_of vm.refs)) where
  abbrev r : Refs
  r = vm.refs

  module _ (nm : Path → Path) (g : Source → Source) (n : Tables) (touched : Source → Bool) where
    abbrev look : Name → Option Thing
    look = (state_of n vm touched).look

    pub meant_is : (id : Id) → IsSome (forms_of r id) → meant nm g r id ≡ sees nm g look id.1
    meant_is id live = ap (pair_with nm g) (sym (means r stamped sound look (λ k. refl) id live))

    all_meant : (ids : List Id) → f.Each (λ q. IsSome (forms_of r q)) ids → map (meant nm g r) ids ≡ map (sees nm g look) (stamps ids)
    all_meant [] e = refl
    all_meant (q ∷ ids) e = ap₂ (λ p ps. p ∷ ps) (meant_is q e.0) (all_meant ids e.1)

    -- what the tag of a last evaluation leads to
    leads_are : Led r → (id : Id) (x : s.Row) (ids : List Id) → rows_of r id ≡ Some x → x.form ≡ f.all_form ids → (p : Source → Bool) → last_led r.tags (by_stamp r.rows) r.rows.made x.last p ≡ leads_to r id (λ u. p (source_of r u))
    leads_are led id x ids is form p = by x.last refl where
      of_tag : (u : Id) → s.held_tag r.tags (rows_of r) id ≡ u → list_any (λ v. p (source_of r v)) (t.leads_of r.tags.tags u) ≡ leads_to r id (λ v. p (source_of r v))
      of_tag u e = ap (λ v. list_any (λ w. p (source_of r w)) (t.leads_of r.tags.tags v)) (sym e)

      own : (o : Option s.Last) → x.last ≡ o → s.own_tag (rows_of r id) ≡ s.own_by (f.all_form ids) o
      own o e = ap s.own_tag is ∙ ap₂ (λ h k. s.own_by h k) form e

      by : (o : Option s.Last) → x.last ≡ o → last_led r.tags (by_stamp r.rows) r.rows.made o p ≡ leads_to r id (λ u. p (source_of r u))
      by None e =
          sym (ap (λ b. list_any (λ w. p (source_of r w)) (t.leads_by r.tags.still b)) sound.tags_sound.still)
          ∙ of_tag r.tags.still (ap (λ h. unwrap_or h r.tags.still) (own None e))
      by (Some l) e =
          let here : rows_of r id ≡ Some (record { form = f.all_form ids; last = Some l }) = is ∙ (λ i. Some (record { form = form i; last = e i })) in
          led-list r stamped sound (t.leads_of r.tags.tags l.tag)
          (each_map (IsReached r id) (IsHeld r stamped sound) (t.leads_of r.tags.tags l.tag)
          (λ u h. record { id = h.source; row = record { form = f.source_form h.is.kind u h.is.was; last = h.is.last }; kind = h.is.kind; value = h.is.was; is = h.is.is; form = refl }) (led id ids l here)) p
          ∙ (any_map_to (t.leads_of r.tags.tags l.tag) ∙ of_tag l.tag (ap (λ h. unwrap_or h r.tags.still) (own (Some l) e)))
        where
          any_map_to : (us : List Id) → any_of (map (source_of r) us) p ≡ list_any (λ w. p (source_of r w)) us
          any_map_to [] = refl
          any_map_to (u ∷ us) = ap (λ b. p (source_of r u) || b) (any_map_to us)

    module _ (led : Led r) (z : Path × ℕ) (o : Position) (e : Evaluated nm g (state_of n vm touched) z o) where
      pub position_coded : EvaluatedIn nm g r z o
      position_coded =
          let x = seen_position z.1 r.tags (by_stamp r.rows) r.rows.made (by_stamp r.rows z.1) e.reads e.last e.is in
          let p = by_stamp-id r.rows z.1 x.found x.is in
          let is : forms_of r p.0 ≡ Some (f.all_form x.ids) = ap (option_map (λ (y : s.Row). y.form)) p.2 ∙ ap (λ h. Some h) x.form in
          let live = each_map (λ q. (q.1 < p.0.1) × IsSome (forms_of r q)) (λ q. IsSome (forms_of r q)) x.ids (λ q h. h.1) (sound.lower p.0 (f.all_form x.ids) is) in
          let them : map (sees nm g look) (stamps x.ids) ≡ o.pairs = ap (map (sees nm g look)) x.numbers ∙ e.means in
          record {
            path = e.path;
            id = p.0;
            number = p.1;
            reads = x.ids;
            is = is;
            means = all_meant x.ids live ∙ them;
            sources = λ test. sym (leads_are led p.0 x.found x.ids p.2 x.form (λ y. test (g y))) ∙ (ap (λ h. h (λ y. test (g y))) x.last_is ∙ e.sources test);
            again = ap (map g) (sym (position-sources r stamped sound look (λ k. refl) p.0 x.ids is))
                ∙ (sym (sources_to nm g (map (pair_of look) (stamps x.ids))) ∙ (ap sources_of (map_map (pair_of look) (pair_with nm g) (stamps x.ids)) ∙ ap sources_of them));
          }

  pub means_expression : (id : Id) → IsSome (forms_of r id) → MeansExpression vm id
  means_expression id live nm g once n touched app τ ms e c = meant_is nm g n touched id live ∙ one_means nm g once (state_of n vm touched).look app τ ms e id.1 c

  pub evaluates_positions : Led r → EvaluatesPositions vm
  evaluates_positions led n touched app h l x =
      let st = state_of n vm touched in
      let nm = x.named.owner in let g = x.named.source in
      let y : Together (Evaluated nm g st) l h.rendering =
      subst (λ d. Together (Evaluated nm g st) l d) (sym (drawn_is app h.store st l x.named) ∙ x.rendering) (evaluated app h.store st l x.named) in (
        (λ z m. let w = y.0 z m in (w.0, w.1, position_coded nm g n touched led z w.0 w.2)),
        (λ o m. let w = y.1 o m in (w.0, w.1, position_coded nm g n touched led w.0 o w.2)),
      )

  pub fresh_positions : Led r → FreshPositions vm
  fresh_positions led n touched app σ sets l x z o m k e fresh =
      position_coded x.owner x.source n touched led z o (fresh_stands app σ sets (state_of n vm touched) l x z o m k e fresh)
