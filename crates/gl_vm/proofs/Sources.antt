-- Cells and items as rows of the state: made, and given another value.
use Rattle.std.proofs.Common.{◌≡◌, ◌≢◌, ℕ, suc, Bool, true, false, Option, Some, None, List, [], ◌∷◌, refl, sym, ap, ap₂, subst, ◌∙◌, inl, inr, arith}
use Rattle.std.specs.Prelude.{◌&&◌, ◌||◌, ◌==◌, not}
use Rattle.std.specs.List.{list_any}
use Rattle.std.proofs.lemmas.Bool.{cases_eq}
use Rattle.gl_arena.specs.Id.{Id, same_id}
use Rattle.gl_arena.specs.Arena.{Arena, named, by_stamp, amended, IsStamped}
use Rattle.gl_arena.proofs.Ids.{same_id-true}
use Rattle.gl_arena.proofs.Stamps.{gives-sets, sets-is, by_stamp-id}
use Rattle.gl_tags.specs.Tags as t
use Rattle.gl_refs.specs.Forms as f
use Rattle.gl_refs.specs.State as s
use Rattle.gl_refs.specs.Refs.{Refs, rows_of, MakesSource}
use Rattle.gl_refs.proofs.Rows.{bound_fits, combined_is}
use Rattle.gl_meaning.specs.Scope.{Source}
use Rattle.gl_meaning.proofs.Equal.{path_itself}
use Rattle.gl_meaning.specs.Path.{at}
use Rattle.gl_plain.specs.State.{any_of, source_eq}
use Rattle.gl_plain.specs.Naming.{by_number, made_source}
use Rattle.gl_vm.specs.Labels.{label, labelled}
use Rattle.gl_vm.specs.Kept.{Kept, state_by}
use Rattle.gl_vm.specs.View.{Tables, stamps, seen_form, row_of, row_at, kept_of, AgreesAt, Agrees}
use Rattle.gl_vm.specs.Steps.{Does, Numbers}
use Rattle.gl_vm.specs.declared.vm.Vm.{Vm}
use Rattle.gl_vm.proofs.States.{test_yes, num_no, amended_here, amended_off, with_row, row_made}
use Rattle.gl_vm.proofs.Rows.{rows_more, some_same}

-- Labels

pub label_same : (k : ℕ) → source_eq (label k) (label k) ≡ true
label_same k = path_itself (at k ∷ [])

pub label_apart : (k m : ℕ) → k ≢ m → source_eq (label k) (label m) ≡ false
label_apart k m ne = ap (λ b. b && true) (num_no m k ne)

-- Tags

or_left : (a b : Bool) → (a || b) ≡ false → a ≡ false
or_left false b e = refl
or_left true b e = e

or_right : (a b : Bool) → (a || b) ≡ false → b ≡ false
or_right false b e = e
or_right true b e = let no : true ≡ false = e in cc

not_true : (b : Bool) → not b ≡ false → b ≡ true
not_true true e = refl
not_true false e = let no : true ≡ false = e in cc

-- a tag that isn't live is none of the tags that one leads to
unled : (a : Arena t.Tag) (u : Id) → named a u ≡ None → (leads : List Id) → list_any (λ k. not (t.is_dirtyable (named a k))) leads ≡ false → list_any (same_id u) leads ≡ false
unled a u none [] e = refl
unled a u none (x ∷ xs) e = ap₂ (λ a b. a || b) (by_test (same_id u x) refl) (unled a u none xs (or_right (not (t.is_dirtyable (named a x))) _ e)) where
  by_test : (b : Bool) → same_id u x ≡ b → same_id u x ≡ false
  by_test false q = q
  by_test true q = let d : t.is_dirtyable (named a x) ≡ true = not_true _ (or_left (not (t.is_dirtyable (named a x))) (list_any (λ k. not (t.is_dirtyable (named a k))) xs) e) in
      let no : false ≡ true = ap t.is_dirtyable (sym none ∙ ap (named a) (same_id-true u x q)) ∙ d in absurd (cc)

unled_by : (tags : t.Tags) (u x : Id) → t.IsSound tags → t.tag_at tags u ≡ None → s.is_combined (t.tag_at tags x) ≡ true → list_any (same_id u) (t.leads_of tags.tags x) ≡ false
unled_by tags u x sound none e = let c = combined_is (t.tag_at tags x) e in
    ap (λ o. list_any (same_id u) (t.leads_by x o)) c.1 ∙ unled tags.tags u none c.0 (subst (λ (o : Option t.Tag). t.IsRight tags.tags tags.clock tags.count o) c.1 (sound.right x))

dirty_value : (a a' : Arena t.Tag) (o : Option t.Tag) → t.is_dirtyable o ≡ true → t.value_by t.revision a' o ≡ t.value_by t.revision a o
dirty_value a a' (Some (t.dirtyable r o)) e = refl
dirty_value a a' (Some t.constant) e = let no : false ≡ true = e in absurd (cc)
dirty_value a a' (Some (t.combined ls)) e = let no : false ≡ true = e in absurd (cc)
dirty_value a a' None e = let no : false ≡ true = e in absurd (cc)

pub value_stays : (tags tags' : t.Tags) (u : Id) → t.is_dirtyable (t.tag_at tags u) ≡ true → t.tag_at tags' u ≡ t.tag_at tags u → t.value_of tags' u ≡ t.value_of tags u
value_stays tags tags' u d e = ap (t.value_by t.revision tags'.tags) e ∙ dirty_value tags.tags tags'.tags (t.tag_at tags u) d

pub dirty_not_none : (o : Option t.Tag) → t.is_dirtyable o ≡ true → o ≢ None
dirty_not_none o d e = let no : false ≡ true = ap t.is_dirtyable (sym e) ∙ d in cc

pub dirty_not_combined : (o : Option t.Tag) → t.is_dirtyable o ≡ true → s.is_combined o ≡ true → ⊥
dirty_not_combined (Some (t.dirtyable r o)) d e = let no : false ≡ true = e in cc
dirty_not_combined (Some t.constant) d e = let no : false ≡ true = e in cc
dirty_not_combined (Some (t.combined ls)) d e = let no : false ≡ true = d in cc
dirty_not_combined None d e = let no : false ≡ true = d in cc

-- the tag of a last evaluation is combined, and that of a source dirtyable
module _ (r : Refs) (stamped : IsStamped r.rows) (sound : s.IsSound r.tags (rows_of r)) where
  pub last_combined : (k : ℕ) (x : s.Row) (l : s.Last) → by_stamp r.rows k ≡ Some x → x.last ≡ Some l → s.is_bound x.form ≡ true → s.is_combined (t.tag_at r.tags l.tag) ≡ true
  last_combined k x l e b i = let p = by_stamp-id r.rows k x e in
      (subst (λ (o : Option s.Last). s.LastFits r.tags o) b (bound_fits r.tags x.form x.last i (sound.fits p.0 x p.2))).0

  pub source_dirtyable : (k : ℕ) (x : s.Row) (kind : Bool) (u : Id) (v : f.V) → by_stamp r.rows k ≡ Some x → x.form ≡ f.source_form kind u v → t.is_dirtyable (t.tag_at r.tags u) ≡ true
  source_dirtyable k x kind u v e b = let p = by_stamp-id r.rows k x e in subst (λ (g : f.Form). s.RowFits r.tags g x.last) b (sound.fits p.0 x p.2)

-- A source is made

module _ (vm : Vm) (r : Refs) (id : Id) (kind : Bool) (v : f.V) (stamped : IsStamped vm.refs.rows) (sound : s.IsSound vm.refs.tags (rows_of vm.refs)) (makes : MakesSource vm.refs r id kind v) where
  abbrev was : Refs
  was = vm.refs

  abbrev tag : Id
  tag = makes.gives.tag

  abbrev form : f.Form
  form = f.source_form kind tag v

  abbrev put-in : s.Row
  put-in = record { form = form; last = None }

  rows-are : by_stamp r.rows ≡ amended (by_stamp was.rows) was.rows.made (Some put-in)
  rows-are = sets-is was.rows r.rows was.rows.made (Some put-in) (gives-sets was.rows r.rows id put-in stamped makes.gives.gives).0

  count-is : r.rows.made ≡ suc was.rows.made
  count-is = let c = makes.gives.gives.count in omega (arith, c)

  vacant : t.tag_at was.tags tag ≡ None
  vacant = makes.gives.tagged.vacant

  tags-stay : (u : Id) (o : Option t.Tag) → t.tag_at was.tags u ≡ o → o ≢ None → t.tag_at r.tags u ≡ t.tag_at was.tags u
  tags-stay u o e ne = makes.gives.tagged.others u (λ q. ne (sym e ∙ (ap (t.tag_at was.tags) q ∙ vacant)))

  combined-stays : (u : Id) → s.is_combined (t.tag_at was.tags u) ≡ true → t.leads_of r.tags.tags u ≡ t.leads_of was.tags.tags u
  combined-stays u e = ap (t.leads_by u) (tags-stay u (t.tag_at was.tags u) refl (λ q. let no : false ≡ true = ap s.is_combined (sym q) ∙ e in cc))

  row-is : row_at r ≡ amended (row_at was) was.rows.made (Some (record { form = seen_form was.rows.made form; last = any_of [] }))
  row-is =
      ap₂ (λ rows made. row_of r.tags rows made) rows-are count-is
      ∙ rows_more was.tags r.tags (by_stamp was.rows) was.rows.made form
      (λ k x l e b i. let c = last_combined was stamped sound k x l e b i in (combined-stays l.tag c, unled_by was.tags tag l.tag sound.tags_sound vacant c))

  module _ (touched : Source → Bool) (a : Agrees touched vm) where
    abbrev then-touched : Source → Bool
    then-touched y = source_eq y (label was.rows.made) || touched y

    here-agrees : AgreesAt r then-touched was.rows.made form
    here-agrees =
        ap (λ b. b || touched (label was.rows.made)) (label_same was.rows.made)
        ∙ sym (test_yes r.tags.clock (t.value_of r.tags tag) (ap (t.value_by t.revision r.tags.tags) makes.gives.tagged.given ∙ sym makes.gives.rest.clock))

    off-agrees : (k : ℕ) (x : s.Row) (g : f.Form) → k ≢ was.rows.made → by_stamp was.rows k ≡ Some x → x.form ≡ g → AgreesAt was touched k g → AgreesAt r then-touched k g
    off-agrees k x (f.source_form q u w) ne e b h = let d = source_dirtyable was stamped sound k x q u w e b in
        ap (λ b. b || touched (label k)) (label_apart k was.rows.made ne)
        ∙ (h ∙ sym (ap₂ (λ n c. n == c) (value_stays was.tags r.tags u d (tags-stay u _ refl (dirty_not_none _ d))) makes.gives.rest.clock))
    off-agrees k x (f.constant_form w) ne e b h = tt
    off-agrees k x (f.prop_form i n) ne e b h = tt
    off-agrees k x (f.call_form i ids ns) ne e b h = tt
    off-agrees k x (f.cat_form ids) ne e b h = tt
    off-agrees k x (f.all_form ids) ne e b h = tt

    made-agrees : Agrees then-touched (record vm { refs = r })
    made-agrees k x e = elim (cases_eq k was.rows.made) [
      | inl q ↦ subst (λ (y : s.Row). AgreesAt r then-touched k y.form) (some_same _ _ (sym (amended_here (by_stamp was.rows) was.rows.made (Some put-in)) ∙ (ap (amended (by_stamp was.rows) was.rows.made (Some put-in)) (sym q) ∙ (sym (ap (λ h. h k) rows-are) ∙ e))))
          (subst (λ (m : ℕ). AgreesAt r then-touched m form) (sym q) here-agrees)
      | inr ne ↦ let o = sym (ap (λ h. h k) rows-are ∙ amended_off (by_stamp was.rows) was.rows.made (Some put-in) k ne) ∙ e in
          off-agrees k x x.form ne o refl (a k x o)
    ]

  kept-is : (n : Tables) → kept_of n (record vm { refs = r }) ≡ with_row (record { form = seen_form was.rows.made form; last = any_of [] }) (kept_of n vm)
  kept-is n = λ z. record (kept_of n vm) { row = row-is z; rows = count-is z; evaluated = stamps (makes.counts.evaluated z) }

  pub source_step : Does (λ n. made_source by_number (label was.rows.made) (labelled v)) vm (record vm { refs = r })
  source_step n touched a = record {
    state = ap (λ (k : Kept). state_by k (then-touched touched a)) (kept-is n) ∙ row_made (kept_of n vm) (then-touched touched a) (record { form = seen_form was.rows.made form; last = any_of [] });
    agrees = made-agrees touched a;
  }

  pub source_numbers : Numbers was.rows r.rows id
  source_numbers = let g = gives-sets was.rows r.rows id put-in stamped makes.gives.gives in record { stamp = makes.gives.gives.stamp; own = g.1; olds = g.0.own }
