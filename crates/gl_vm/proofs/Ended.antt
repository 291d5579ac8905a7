-- A reference that ends.
use Rattle.std.proofs.Common.{◌≡◌, ◌≢◌, ℕ, Bool, true, false, Option, Some, None, option_map, IsSome, List, refl, sym, ap, ap₂, ◌∙◌, inl, inr}
use Rattle.std.specs.Prelude.{◌&&◌, ◌==◌}
use Rattle.std.proofs.lemmas.Bool.{cases_eq}
use Rattle.gl_arena.specs.Id.{Id}
use Rattle.gl_arena.specs.Arena.{by_stamp, amended, IsStamped, Ends, Sets}
use Rattle.gl_arena.proofs.Stamps.{by_stamp-id, by_stamp-live, ends-sets}
use Rattle.gl_tags.specs.Tags as t
use Rattle.gl_refs.specs.Forms as f
use Rattle.gl_refs.specs.State as s
use Rattle.gl_refs.specs.Refs.{Refs, rows_of, forms_of, SameCounts}
use Rattle.gl_meaning.specs.Scope.{Source}
use Rattle.gl_plain.specs.Ids.{ref}
use Rattle.gl_vm.specs.Labels.{label}
use Rattle.gl_vm.specs.Kept.{Kept, state_by}
use Rattle.gl_vm.specs.View.{Tables, stamps, seen_form, is_led, form_led, led_by, last_of, seen_row, row_at, kept_of, AgreesAt, Agrees}
use Rattle.gl_vm.specs.Steps.{Does, dropped_one, IsForgotten}
use Rattle.gl_vm.specs.declared.vm.Vm.{Vm}
use Rattle.gl_vm.proofs.States.{amended_is}
use Rattle.gl_vm.proofs.Rows.{none_not, below_same}
use Rattle.gl_vm.proofs.Sources.{value_stays, source_dirtyable}
use Rattle.gl_vm.proofs.Drops.{row_ended}

row_there : (o : Option s.Row) → IsSome (option_map (λ (x : s.Row). x.form) o) → IsSome o
row_there None h = h
row_there (Some x) h = refl

-- nothing that isn't a source is led to
not_led : (leads : List Id) (o : Option s.Row) → s.is_source o ≡ false → is_led leads o ≡ false
not_led leads None e = refl
not_led leads (Some x) e = by x.form e where
  by : (g : f.Form) → s.by_form g ≡ false → form_led leads g ≡ false
  by (f.source_form k u v) e = let no : true ≡ false = e in absurd (cc)
  by (f.constant_form v) e = refl
  by (f.prop_form r n) e = refl
  by (f.call_form h ids ns) e = refl
  by (f.cat_form ids) e = refl
  by (f.all_form ids) e = refl

pub forgotten : (r : Refs) (id : Id) → (s.is_source (rows_of r id) ≡ true → IsForgotten r id) → IsForgotten r id
forgotten r id h = by (s.is_source (rows_of r id)) refl where
  by : (b : Bool) → s.is_source (rows_of r id) ≡ b → IsForgotten r id
  by true e = h e
  by false e = λ k x l ids q g w. not_led (t.leads_of r.tags.tags l.tag) (rows_of r id) e

module _ (vm : Vm) (r : Refs) (id : Id) (stamped : IsStamped vm.refs.rows) (sound : s.IsSound vm.refs.tags (rows_of vm.refs)) (live : IsSome (forms_of vm.refs id)) (ends : Ends vm.refs.rows r.rows id)
    (tags : s.EndsTag vm.refs.tags r.tags (s.own_tag (rows_of vm.refs id))) (counts : SameCounts vm.refs r) where
  abbrev was : Refs
  was = vm.refs

  sets : Sets was.rows r.rows id.1 None
  sets = ends-sets was.rows r.rows id stamped (row_there (rows_of was id) live) ends

  there : (x : s.Row) × (rows_of was id ≡ Some x)
  there = by (rows_of was id) refl (row_there (rows_of was id) live) where
    by : (o : Option s.Row) → rows_of was id ≡ o → IsSome o → (x : s.Row) × (rows_of was id ≡ Some x)
    by None e h = let no : false ≡ true = h in absurd (cc)
    by (Some x) e h = (x, e)

  -- a tag of another reference stays
  own_stays : (k : ℕ) (x : s.Row) (u : Id) → k ≢ id.1 → by_stamp was.rows k ≡ Some x → s.own_tag (Some x) ≡ Some u → t.tag_at r.tags u ≡ t.tag_at was.tags u
  own_stays k x u ne e o =
      let p = by_stamp-id was.rows k x e in
      tags.others u (λ q. ne (sym p.1 ∙ ap (λ (j : Id). j.1) (sound.owned p.0 id u (ap s.own_tag p.2 ∙ o) q)))

  module _ (forgets : IsForgotten vm.refs id) where
    led-same : (leads : List Id) → is_led leads (by_stamp was.rows id.1) ≡ false → led_by leads (by_stamp r.rows) r.rows.made ≡ led_by leads (by_stamp was.rows) was.rows.made
    led-same leads e = λ z p. (ap (λ n. led_by leads (by_stamp r.rows) n p) ends.count ∙ below_same (λ k. is_led leads (by_stamp r.rows k) && p (label k)) (λ k. is_led leads (by_stamp was.rows k) && p (label k)) was.rows.made (λ k lt. ap (λ b. b && p (label k)) (at_row k))) z where
      at_row : (k : ℕ) → is_led leads (by_stamp r.rows k) ≡ is_led leads (by_stamp was.rows k)
      at_row k = elim (cases_eq k id.1) [
        | inl q ↦ ap (is_led leads) (ap (by_stamp r.rows) q ∙ sets.here) ∙ (sym e ∙ ap (λ j. is_led leads (by_stamp was.rows j)) (sym q))
        | inr ne ↦ ap (is_led leads) (sets.others k ne)
      ]

    last-same : (k : ℕ) (x : s.Row) (g : f.Form) (o : Option s.Last) → k ≢ id.1 → by_stamp was.rows k ≡ Some x → x.form ≡ g → x.last ≡ o → last_of r.tags (by_stamp r.rows) r.rows.made g o ≡ last_of was.tags (by_stamp was.rows) was.rows.made g o
    last-same k x (f.constant_form v) o ne e a b = refl
    last-same k x (f.source_form q u v) o ne e a b = refl
    last-same k x (f.prop_form i n) o ne e a b = refl
    last-same k x (f.call_form h ids ns) o ne e a b = refl
    last-same k x (f.cat_form ids) o ne e a b = refl
    last-same k x (f.all_form ids) None ne e a b = refl
    last-same k x (f.all_form ids) (Some l) ne e a b =
        ap (λ u. led_by (t.leads_by l.tag u) (by_stamp r.rows) r.rows.made) (own_stays k x l.tag ne e (ap (λ g. s.own_by g x.last) a ∙ ap (λ o. s.own_by (f.all_form ids) o) b))
        ∙ led-same (t.leads_of was.tags.tags l.tag)
        (ap (is_led (t.leads_of was.tags.tags l.tag)) (by_stamp-live was.rows id there.0 stamped there.1 ∙ sym there.1)
        ∙ (let p = by_stamp-id was.rows k x e in forgets p.0 x l ids p.2 a b))

    row-stays : (k : ℕ) → k ≢ id.1 → row_at r k ≡ row_at was k
    row-stays k ne = ap (option_map (seen_row r.tags (by_stamp r.rows) r.rows.made k)) (sets.others k ne) ∙ by (by_stamp was.rows k) refl where
      by : (o : Option s.Row) → by_stamp was.rows k ≡ o → option_map (seen_row r.tags (by_stamp r.rows) r.rows.made k) o ≡ option_map (seen_row was.tags (by_stamp was.rows) was.rows.made k) o
      by None e = refl
      by (Some x) e = ap (λ l. Some (record { form = seen_form k x.form; last = l })) (last-same k x x.form x.last ne e refl refl)

    kept-is : (n : Tables) → kept_of n (record vm { refs = r }) ≡ record (kept_of n vm) { row = amended (row_at was) id.1 None }
    kept-is n = λ z. record (kept_of n vm) {
      row = amended_is (row_at was) id.1 None (row_at r) (ap (option_map (seen_row r.tags (by_stamp r.rows) r.rows.made id.1)) sets.here) row-stays z;
      rows = ends.count z;
      evaluated = stamps (counts.evaluated z);
    }

    still-agrees : (touched : Source → Bool) → Agrees touched vm → Agrees touched (record vm { refs = r })
    still-agrees touched a k x e = elim (cases_eq k id.1) [
      | inl q ↦ absurd (none_not x (sym (ap (by_stamp r.rows) q ∙ sets.here) ∙ e))
      | inr ne ↦ let w = sym (sets.others k ne) ∙ e in by ne w x.form refl (a k x w)
    ]
      where
        by : k ≢ id.1 → by_stamp was.rows k ≡ Some x → (g : f.Form) → x.form ≡ g → AgreesAt was touched k g → AgreesAt r touched k g
        by ne w (f.source_form q u v) b h =
            let d = source_dirtyable was stamped sound k x q u v w b in
            h ∙ sym (ap₂ (λ n c. n == c) (value_stays was.tags r.tags u d (own_stays k x u ne w (ap (λ g. s.own_by g x.last) b))) tags.rest.clock)
        by ne w (f.constant_form v) b h = tt
        by ne w (f.prop_form i n) b h = tt
        by ne w (f.call_form i ids ns) b h = tt
        by ne w (f.cat_form ids) b h = tt
        by ne w (f.all_form ids) b h = tt

    pub reference_gone : Does (λ n. dropped_one (ref id.1)) vm (record vm { refs = r })
    reference_gone n touched a = record { state = ap (λ (k : Kept). state_by k touched) (kept-is n) ∙ row_ended (kept_of n vm) touched id.1; agrees = still-agrees touched a }
