-- References as rows of the state, where one is made.
use Rattle.std.proofs.Common.{◌≡◌, ◌≢◌, ℕ, zero, suc, ◌<◌, Bool, true, false, Option, Some, None, option_map, List, [], refl, sym, ap, ap₂, subst, ◌∙◌, inl, inr, arith}
use Rattle.std.specs.Prelude.{◌&&◌, ◌||◌, ◌==◌, unwrap_or}
use Rattle.std.proofs.lemmas.Bool.{cases_eq}
use Rattle.gl_arena.specs.Id.{Id}
use Rattle.gl_arena.specs.Arena.{by_stamp, amended, IsStamped}
use Rattle.gl_arena.proofs.Stamps.{gives-sets, sets-is}
use Rattle.gl_tags.specs.Tags as t
use Rattle.gl_refs.specs.Forms as f
use Rattle.gl_refs.specs.State as s
use Rattle.gl_refs.specs.Refs.{Refs, Makes}
use Rattle.gl_meaning.specs.Scope.{Source}
use Rattle.gl_plain.specs.State.{any_of}
use Rattle.gl_plain.specs.Binding.{made_row}
use Rattle.gl_vm.specs.Labels.{label}
use Rattle.gl_vm.specs.Kept.{Kept, some_below, state_by}
use Rattle.gl_vm.specs.View.{Tables, stamps, seen_form, form_led, is_led, led_by, last_of, seen_row, row_of, row_at, kept_of, AgreesAt, Agrees}
use Rattle.gl_vm.specs.Steps.{Does, Numbers}
use Rattle.gl_vm.specs.declared.vm.Vm.{Vm}
use Rattle.gl_vm.proofs.States.{amended_here, amended_off, amended_is, with_row, row_made}

pub below_same : (f g : ℕ → Bool) (n : ℕ) → ((k : ℕ) → k < n → f k ≡ g k) → some_below f n ≡ some_below g n
below_same f g zero h = refl
below_same f g (suc n) h = ap₂ (λ a b. a || b) (h n (omega arith)) (below_same f g n (λ k lt. h k (omega (arith, lt))))

pub none_not : {A : Type 0} (x : A) → None ≡ Some x → ⊥
none_not x e = let no : None ≡ Some x = e in cc

pub some_same : {A : Type 0} (x y : A) → Some x ≡ Some y → x ≡ y
some_same x y e = ap (λ o. unwrap_or o x) e

pub last_none : (tags : t.Tags) (rows : ℕ → Option s.Row) (made : ℕ) (g : f.Form) → last_of tags rows made g None ≡ any_of []
last_none tags rows made (f.constant_form v) = refl
last_none tags rows made (f.source_form k u v) = refl
last_none tags rows made (f.prop_form r n) = refl
last_none tags rows made (f.call_form h ids ns) = refl
last_none tags rows made (f.cat_form ids) = refl
last_none tags rows made (f.all_form ids) = refl

-- a reference is made: no other one leads to it, and what the others lead to stays
module _ (tags tags' : t.Tags) (rows : ℕ → Option s.Row) (made : ℕ) (g : f.Form)
    (apart : (k : ℕ) (r : s.Row) (l : s.Last) → rows k ≡ Some r → r.last ≡ Some l → s.is_bound r.form ≡ true → (t.leads_of tags'.tags l.tag ≡ t.leads_of tags.tags l.tag) × (form_led (t.leads_of tags.tags l.tag) g ≡ false)) where
  abbrev row' : s.Row
  row' = record { form = g; last = None }

  abbrev rows' : ℕ → Option s.Row
  rows' = amended rows made (Some row')

  led-more : (leads : List Id) → form_led leads g ≡ false → led_by leads rows' (suc made) ≡ led_by leads rows made
  led-more leads e = λ z p. at p z where
    at : (p : Source → Bool) → led_by leads (amended rows made (Some (record { form = g; last = None }))) (suc made) p ≡ led_by leads rows made p
    at p =
        ap₂ (λ a b. a || b)
        (ap (λ o. is_led leads o && p (label made)) (amended_here rows made (Some row')) ∙ ap (λ b. b && p (label made)) e)
        (below_same (λ k. is_led leads (rows' k) && p (label k)) (λ k. is_led leads (rows k) && p (label k)) made
        (λ k lt. ap (λ o. is_led leads o && p (label k)) (amended_off rows made (Some row') k (λ q. absurd (omega (arith, lt, q))))))

  last-more : (k : ℕ) (r : s.Row) (h : f.Form) (o : Option s.Last) → rows k ≡ Some r → r.form ≡ h → r.last ≡ o → last_of tags' rows' (suc made) h o ≡ last_of tags rows made h o
  last-more k r h None e a b = last_none tags' rows' (suc made) h ∙ sym (last_none tags rows made h)
  last-more k r (f.constant_form v) (Some l) e a b = refl
  last-more k r (f.source_form q u v) (Some l) e a b = refl
  last-more k r (f.prop_form i n) (Some l) e a b = refl
  last-more k r (f.call_form h ids ns) (Some l) e a b = refl
  last-more k r (f.cat_form ids) (Some l) e a b = refl
  last-more k r (f.all_form ids) (Some l) e a b = let h = apart k r l e b (ap s.is_bound a) in
      ap (λ x. led_by x rows' (suc made)) h.0 ∙ led-more (t.leads_of tags.tags l.tag) h.1

  row-more : (k : ℕ) → k ≢ made → row_of tags' rows' (suc made) k ≡ row_of tags rows made k
  row-more k ne = ap (option_map (seen_row tags' rows' (suc made) k)) (amended_off rows made (Some row') k ne) ∙ by_row (rows k) refl where
    by_row : (o : Option s.Row) → rows k ≡ o → option_map (seen_row tags' rows' (suc made) k) o ≡ option_map (seen_row tags rows made k) o
    by_row None e = refl
    by_row (Some r) e = ap (λ l. Some (record { form = seen_form k r.form; last = l })) (last-more k r r.form r.last e refl refl)

  pub rows_more : row_of tags' rows' (suc made) ≡ amended (row_of tags rows made) made (Some (record { form = seen_form made g; last = any_of [] }))
  rows_more =
      amended_is (row_of tags rows made) made (Some (record { form = seen_form made g; last = any_of [] })) (row_of tags' rows' (suc made))
      (ap (option_map (seen_row tags' rows' (suc made) made)) (amended_here rows made (Some row')) ∙ ap (λ l. Some (record { form = seen_form made g; last = l })) (last_none tags' rows' (suc made) g))
      row-more

-- a reference that is no source
plain_led : (leads : List Id) (g : f.Form) → s.by_form g ≡ false → form_led leads g ≡ false
plain_led leads (f.source_form k u v) e = let no : true ≡ false = e in cc
plain_led leads (f.constant_form v) e = refl
plain_led leads (f.prop_form r n) e = refl
plain_led leads (f.call_form h ids ns) e = refl
plain_led leads (f.cat_form ids) e = refl
plain_led leads (f.all_form ids) e = refl

plain_agrees : (r : Refs) (touched : Source → Bool) (k : ℕ) (g : f.Form) → s.by_form g ≡ false → AgreesAt r touched k g
plain_agrees r touched k (f.source_form q u v) e = let no : true ≡ false = e in absurd (cc)
plain_agrees r touched k (f.constant_form v) e = tt
plain_agrees r touched k (f.prop_form i n) e = tt
plain_agrees r touched k (f.call_form h ids ns) e = tt
plain_agrees r touched k (f.cat_form ids) e = tt
plain_agrees r touched k (f.all_form ids) e = tt

same_agrees : (r r' : Refs) → r'.tags ≡ r.tags → (touched : Source → Bool) (k : ℕ) (g : f.Form) → AgreesAt r touched k g → AgreesAt r' touched k g
same_agrees r r' e touched k (f.source_form q u v) a = subst (λ (x : t.Tags). touched (label k) ≡ (t.value_of x u == x.clock)) (sym e) a
same_agrees r r' e touched k (f.constant_form v) a = tt
same_agrees r r' e touched k (f.prop_form i n) a = tt
same_agrees r r' e touched k (f.call_form h ids ns) a = tt
same_agrees r r' e touched k (f.cat_form ids) a = tt
same_agrees r r' e touched k (f.all_form ids) a = tt

module _ (vm : Vm) (r : Refs) (id : Id) (g : f.Form) (plain : s.by_form g ≡ false) (stamped : IsStamped vm.refs.rows) (makes : Makes vm.refs r id g) where
  abbrev was : Refs
  was = vm.refs

  abbrev put-in : s.Row
  put-in = record { form = g; last = None }

  rows-are : by_stamp r.rows ≡ amended (by_stamp was.rows) was.rows.made (Some put-in)
  rows-are = sets-is was.rows r.rows was.rows.made (Some put-in) (gives-sets was.rows r.rows id put-in stamped makes.gives).0

  count-is : r.rows.made ≡ suc was.rows.made
  count-is = let c = makes.gives.count in omega (arith, c)

  row-is : row_at r ≡ amended (row_at was) was.rows.made (Some (record { form = seen_form was.rows.made g; last = any_of [] }))
  row-is =
      ap (λ tags. row_of tags (by_stamp r.rows) r.rows.made) makes.tags
      ∙ (ap₂ (λ rows made. row_of was.tags rows made) rows-are count-is
      ∙ rows_more was.tags was.tags (by_stamp was.rows) was.rows.made g (λ k x l e b i. (refl, plain_led (t.leads_of was.tags.tags l.tag) g plain)))

  kept-is : (n : Tables) → kept_of n (record vm { refs = r }) ≡ with_row (record { form = seen_form was.rows.made g; last = any_of [] }) (kept_of n vm)
  kept-is n = λ z. record (kept_of n vm) { row = row-is z; rows = count-is z; evaluated = stamps (makes.counts.evaluated z) }

  plain_touched : (touched : Source → Bool) → Agrees touched vm → Agrees touched (record vm { refs = r })
  plain_touched touched a k x e = elim (cases_eq k was.rows.made) [
    | inl q ↦ subst (λ (y : s.Row). AgreesAt r touched k y.form) (some_same _ _ (sym (amended_here (by_stamp was.rows) was.rows.made (Some put-in)) ∙ (ap (amended (by_stamp was.rows) was.rows.made (Some put-in)) (sym q) ∙ (sym (ap (λ h. h k) rows-are) ∙ e)))) (plain_agrees r touched k g plain)
    | inr ne ↦ same_agrees was r makes.tags touched k x.form (a k x (sym (ap (λ h. h k) rows-are ∙ amended_off (by_stamp was.rows) was.rows.made (Some put-in) k ne) ∙ e))
  ]

  pub plain_step : Does (λ n. made_row (seen_form was.rows.made g)) vm (record vm { refs = r })
  plain_step n touched a = record {
    state = ap (λ (k : Kept). state_by k touched) (kept-is n) ∙ row_made (kept_of n vm) touched (record { form = seen_form was.rows.made g; last = any_of [] });
    agrees = plain_touched touched a;
  }

  pub plain_numbers : Numbers was.rows r.rows id
  plain_numbers = let g = gives-sets was.rows r.rows id put-in stamped makes.gives in record { stamp = makes.gives.stamp; own = g.1; olds = g.0.own }

pub bound_plain : (g : f.Form) → s.is_bound g ≡ true → s.by_form g ≡ false
bound_plain (f.source_form k u v) e = let no : false ≡ true = e in cc
bound_plain (f.constant_form v) e = refl
bound_plain (f.prop_form r n) e = refl
bound_plain (f.call_form h ids ns) e = refl
bound_plain (f.cat_form ids) e = refl
bound_plain (f.all_form ids) e = refl
