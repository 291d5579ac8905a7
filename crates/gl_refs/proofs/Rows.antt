-- When a row's kept value is right, by the kinds of rows.
use Rattle.std.proofs.Common.{◌≡◌, ◌≤◌, Bool, true, false, cond, ltb, List, [], ◌∷◌, Option, Some, None, option_map, unwrap_or, IsSome, refl, sym, subst, ◌∙◌, ap}
use Rattle.std.specs.List.{list_any}
use Rattle.std.proofs.lemmas.Bool.{ltb-false, le-ltb}
use Rattle.gl_arena.specs.Id.{Id}
use Rattle.gl_arena.specs.Arena.{named}
use Rattle.gl_tags.specs.Tags as t
use Rattle.gl_refs.specs.Forms.{V, Form, constant_form, source_form, prop_form, call_form, cat_form, all_form, Pair, pair_by, form_or, below, value_by, meaning, Like}
use Rattle.gl_refs.specs.State.{Last, Row, Rows, forms, Kept, last_kept, kept_last, held_last, held_by, held, held_tag, own_tag, kept_by, kept_row, kept, kept_pair, IsRight, own_by, is_combined, LastFits, RowFits, is_bound}
use Rattle.gl_refs.proofs.Meanings.{meaning_is}
use Rattle.gl_refs.specs.View.{seen_form, seen_rule, TakesLast}
use Rattle.gl_refs.specs.declared.form.Form as c
use Rattle.gl_refs.specs.declared.form.Form.TheVariants.{Prop, Call, Cat, All}
use Rattle.gl_refs.specs.declared.row.Rule.{Rule}
use Rattle.gl_refs.specs.declared.row.Rule.TheVariants as rule

pub some_is : {A : Type 0} (x y : A) → Some x ≡ Some y → x ≡ y
some_is x y e = cc

pub last_fresh : (tags : t.Tags) (l : Last) (k : Kept) → last_kept tags l ≡ Some k → (t.order_of tags l.tag ≤ l.order) × (k ≡ record { value = l.value; tag = l.tag })
last_fresh tags l k e = by (ltb l.order (t.order_of tags l.tag)) refl e where
  by : (b : Bool) → ltb l.order (t.order_of tags l.tag) ≡ b → cond b None (Some (record { value = l.value; tag = l.tag })) ≡ Some k → (t.order_of tags l.tag ≤ l.order) × (k ≡ record { value = l.value; tag = l.tag })
  by true d h = absurd (let n : None ≡ Some k = h in cc)
  by false d h = (ltb-false l.order (t.order_of tags l.tag) d, sym (some_is (record { value = l.value; tag = l.tag }) k h))

pub fresh_last : (tags : t.Tags) (l : Last) → t.order_of tags l.tag ≤ l.order → last_kept tags l ≡ Some (record { value = l.value; tag = l.tag })
fresh_last tags l h = rw (le-ltb l.order (t.order_of tags l.tag) h) refl

pub dirty_leads : (i : Id) (o : Option t.Tag) → t.is_dirtyable o ≡ true → t.leads_by i o ≡ i ∷ []
dirty_leads i None e = absurd (let n : false ≡ true = e in cc)
dirty_leads i (Some t.constant) e = absurd (let n : false ≡ true = e in cc)
dirty_leads i (Some (t.combined leads)) e = absurd (let n : false ≡ true = e in cc)
dirty_leads i (Some (t.dirtyable r o)) e = refl

pub combined_is : (o : Option t.Tag) → is_combined o ≡ true → (leads : List Id) × (o ≡ Some (t.combined leads))
combined_is None e = absurd (let n : false ≡ true = e in cc)
combined_is (Some t.constant) e = absurd (let n : false ≡ true = e in cc)
combined_is (Some (t.dirtyable r o)) e = absurd (let n : false ≡ true = e in cc)
combined_is (Some (t.combined leads)) e = (leads, refl)

pub bound_fits : (tags : t.Tags) (g : Form) (l : Option Last) → is_bound g ≡ true → RowFits tags g l → LastFits tags l
bound_fits tags (constant_form v) l e h = absurd (let n : false ≡ true = e in cc)
bound_fits tags (source_form k s v) l e h = absurd (let n : false ≡ true = e in cc)
bound_fits tags (prop_form r n) l e h = h
bound_fits tags (call_form n ids ns) l e h = h
bound_fits tags (cat_form ids) l e h = h
bound_fits tags (all_form ids) l e h = h

pub fits_bound : (tags : t.Tags) (g : Form) (l : Option Last) → is_bound g ≡ true → LastFits tags l → RowFits tags g l
fits_bound tags (constant_form v) l e h = tt
fits_bound tags (source_form k s v) l e h = absurd (let n : false ≡ true = e in cc)
fits_bound tags (prop_form r n) l e h = h
fits_bound tags (call_form n ids ns) l e h = h
fits_bound tags (cat_form ids) l e h = h
fits_bound tags (all_form ids) l e h = h

pub bound_kept : (tags : t.Tags) (g : Form) (l : Last) → is_bound g ≡ true → kept_by tags g (Some l) ≡ last_kept tags l
bound_kept tags (constant_form v) l e = absurd (let n : false ≡ true = e in cc)
bound_kept tags (source_form k s v) l e = absurd (let n : false ≡ true = e in cc)
bound_kept tags (prop_form r n) l e = refl
bound_kept tags (call_form n ids ns) l e = refl
bound_kept tags (cat_form ids) l e = refl
bound_kept tags (all_form ids) l e = refl

pub bound_own : (g : Form) (l : Last) → is_bound g ≡ true → own_by g (Some l) ≡ Some l.tag
bound_own (constant_form v) l e = absurd (let n : false ≡ true = e in cc)
bound_own (source_form k s v) l e = absurd (let n : false ≡ true = e in cc)
bound_own (prop_form r n) l e = refl
bound_own (call_form n ids ns) l e = refl
bound_own (cat_form ids) l e = refl
bound_own (all_form ids) l e = refl

module _ (tags : t.Tags) (rows : Rows) (still : named tags.tags tags.still ≡ Some t.constant) (i : Id) where
  abbrev pub Bound : Form → Option Last → Type 0
  Bound g o = (l : Last) → is_bound g ≡ true → o ≡ Some l → t.order_of tags l.tag ≤ l.order → Like (kept_pair tags (record { value = l.value; tag = l.tag })) (meaning (forms rows) i)

  form_is : (g : Form) (o : Option Last) → rows i ≡ Some (record { form = g; last = o }) → meaning (forms rows) i ≡ pair_by (below (meaning (forms rows)) i) g
  form_is g o e = meaning_is (forms rows) i ∙ ap (λ x. pair_by (below (meaning (forms rows)) i) (form_or (option_map (λ (r : Row). r.form) x))) e

  pair_is : (k : Kept) (p : Pair) → Like (kept_pair tags k) p → (q : Pair) → q ≡ p → Like (kept_pair tags k) q
  pair_is k p h q e = subst (λ x. Like (kept_pair tags k) x) (sym e) h

  by_last : (g : Form) (o : Option Last) (k : Kept) → is_bound g ≡ true → Bound g o → (x : Option Kept) → x ≡ Some k → ((l : Last) → o ≡ Some l → x ≡ last_kept tags l) → (o ≡ None → x ≡ None) → Like (kept_pair tags k) (meaning (forms rows) i)
  by_last g None k b h x e f n = absurd (let z : None ≡ Some k = sym (n refl) ∙ e in cc)
  by_last g (Some l) k b h x e f n =
      let d = last_fresh tags l k (sym (f l refl) ∙ e) in
      subst (λ y. Like (kept_pair tags y) (meaning (forms rows) i)) (sym d.1) (h l b refl d.0)

  some_last : (o : Option Last) (g : Form) → is_bound g ≡ true → (l : Last) → o ≡ Some l → kept_by tags g o ≡ last_kept tags l
  some_last o g b l e = ap (kept_by tags g) e ∙ bound_kept tags g l b

  -- where the last evaluation of a bound row is right while it is fresh, what is kept is right
  pub row_right : (g : Form) (o : Option Last) → rows i ≡ Some (record { form = g; last = o }) → RowFits tags g o → Bound g o → (k : Kept) → kept tags rows i ≡ Some k → Like (kept_pair tags k) (meaning (forms rows) i)
  row_right (constant_form v) o e f b k h =
      let q : record { value = v; tag = tags.still } ≡ k = some_is (record { value = v; tag = tags.still }) k (sym (ap (kept_row tags) e) ∙ h) in
      subst (λ y. Like (kept_pair tags y) (meaning (forms rows) i)) q
      (pair_is (record { value = v; tag = tags.still }) (record { value = v; sources = [] }) (record { value = refl; sources = λ p. ap (λ o. list_any p (t.leads_by tags.still o)) still }) (meaning (forms rows) i) (form_is (constant_form v) o e))
  row_right (source_form kind s v) o e f b k h =
      let q : record { value = v; tag = s } ≡ k = some_is (record { value = v; tag = s }) k (sym (ap (kept_row tags) e) ∙ h) in
      subst (λ y. Like (kept_pair tags y) (meaning (forms rows) i)) q
      (pair_is (record { value = v; tag = s }) (record { value = v; sources = s ∷ [] }) (record { value = refl; sources = λ p. ap (list_any p) (dirty_leads s (named tags.tags s) f) }) (meaning (forms rows) i) (form_is (source_form kind s v) o e))
  row_right (prop_form r n) o e f b k h = by_last (prop_form r n) o k refl b (kept tags rows i) h (λ l d. ap (kept_row tags) e ∙ some_last o (prop_form r n) refl l d) (λ d. ap (kept_row tags) e ∙ ap (kept_by tags (prop_form r n)) d)
  row_right (call_form n ids ns) o e f b k h = by_last (call_form n ids ns) o k refl b (kept tags rows i) h (λ l d. ap (kept_row tags) e ∙ some_last o (call_form n ids ns) refl l d) (λ d. ap (kept_row tags) e ∙ ap (kept_by tags (call_form n ids ns)) d)
  row_right (cat_form ids) o e f b k h = by_last (cat_form ids) o k refl b (kept tags rows i) h (λ l d. ap (kept_row tags) e ∙ some_last o (cat_form ids) refl l d) (λ d. ap (kept_row tags) e ∙ ap (kept_by tags (cat_form ids)) d)
  row_right (all_form ids) o e f b k h = by_last (all_form ids) o k refl b (kept tags rows i) h (λ l d. ap (kept_row tags) e ∙ some_last o (all_form ids) refl l d) (λ d. ap (kept_row tags) e ∙ ap (kept_by tags (all_form ids)) d)

-- a bound row that stays, with the last evaluation fresh, is right as before
pub was_right : (tags : t.Tags) (rows : Rows) (i : Id) (g : Form) (l : Last) → IsRight tags rows → rows i ≡ Some (record { form = g; last = Some l }) → is_bound g ≡ true → t.order_of tags l.tag ≤ l.order
    → Like (kept_pair tags (record { value = l.value; tag = l.tag })) (meaning (forms rows) i)
was_right tags rows i g l r e b h = r i (record { value = l.value; tag = l.tag }) (ap (kept_row tags) e ∙ (bound_kept tags g l b ∙ fresh_last tags l h))

pub bound_last : (tags : t.Tags) (g : Form) (o : Option Last) (l : Last) → is_bound g ≡ true → RowFits tags g o → o ≡ Some l → is_combined (t.tag_at tags l.tag) ≡ true
bound_last tags g o l b f e = let h : LastFits tags (Some l) = subst (LastFits tags) e (bound_fits tags g o b f) in h.0

pub bound_form : (g : c.Form) → is_bound (seen_form g) ≡ true
bound_form (Prop r n) = refl
bound_form (Call n ids ns) = refl
bound_form (Cat ids) = refl
bound_form (All ids) = refl

pub bound_rule : (g : Rule) → is_bound (seen_rule g) ≡ true
bound_rule (rule.Prop r n) = refl
bound_rule (rule.Call n ids ns) = refl
bound_rule (rule.Cat ids) = refl

-- what a form gives may be the value of an evaluation
pub takes_value : (f : Id → V) (g : Form) (v : V) → is_bound g ≡ true → v ≡ value_by f g → TakesLast g v
takes_value f (constant_form x) v e h = absurd (let n : false ≡ true = e in cc)
takes_value f (source_form k s x) v e h = absurd (let n : false ≡ true = e in cc)
takes_value f (prop_form r n) v e h = tt
takes_value f (call_form n ids ns) v e h = tt
takes_value f (cat_form ids) v e h = tt
takes_value f (all_form ids) v e h = h

pub dirty_live : (o : Option t.Tag) → t.is_dirtyable o ≡ true → IsSome o
dirty_live None e = absurd (let n : false ≡ true = e in cc)
dirty_live (Some x) e = refl

pub combined_live : (o : Option t.Tag) → is_combined o ≡ true → IsSome o
combined_live None e = absurd (let n : false ≡ true = e in cc)
combined_live (Some x) e = refl

pub bound_kept_last : (tags : t.Tags) (g : Form) (o : Option Last) → is_bound g ≡ true → kept_by tags g o ≡ kept_last tags o
bound_kept_last tags (constant_form v) o e = absurd (let n : false ≡ true = e in cc)
bound_kept_last tags (source_form k s v) o e = absurd (let n : false ≡ true = e in cc)
bound_kept_last tags (prop_form r n) None e = refl
bound_kept_last tags (prop_form r n) (Some l) e = refl
bound_kept_last tags (call_form n ids ns) None e = refl
bound_kept_last tags (call_form n ids ns) (Some l) e = refl
bound_kept_last tags (cat_form ids) None e = refl
bound_kept_last tags (cat_form ids) (Some l) e = refl
bound_kept_last tags (all_form ids) None e = refl
bound_kept_last tags (all_form ids) (Some l) e = refl

-- what may be used is what is held
pub kept_held : (tags : t.Tags) (rows : Rows) (q : Id) (k : Kept) → kept tags rows q ≡ Some k → (held (rows q) ≡ Some k.value) × (held_tag tags rows q ≡ k.tag)
kept_held tags rows q k h = by (rows q) h where
  last : (o : Option Last) → kept_last tags o ≡ Some k → (held_last o ≡ Some k.value) × (unwrap_or (option_map (λ (l : Last). l.tag) o) tags.still ≡ k.tag)
  last None e = absurd (let n : None ≡ Some k = e in cc)
  last (Some l) e = let d = last_fresh tags l k e in (ap (λ (y : Kept). Some y.value) (sym d.1), ap (λ (y : Kept). y.tag) (sym d.1))

  form : (g : Form) (o : Option Last) → kept_by tags g o ≡ Some k → (held_by g o ≡ Some k.value) × (unwrap_or (own_by g o) tags.still ≡ k.tag)
  form (constant_form v) o e = let d = some_is (record { value = v; tag = tags.still }) k e in (ap (λ (y : Kept). Some y.value) d, ap (λ (y : Kept). y.tag) d)
  form (source_form w s v) o e = let d = some_is (record { value = v; tag = s }) k e in (ap (λ (y : Kept). Some y.value) d, ap (λ (y : Kept). y.tag) d)
  form (prop_form r n) o e = last o (sym (bound_kept_last tags (prop_form r n) o refl) ∙ e)
  form (call_form n ids ns) o e = last o (sym (bound_kept_last tags (call_form n ids ns) o refl) ∙ e)
  form (cat_form ids) o e = last o (sym (bound_kept_last tags (cat_form ids) o refl) ∙ e)
  form (all_form ids) o e = last o (sym (bound_kept_last tags (all_form ids) o refl) ∙ e)

  by : (o : Option Row) → kept_row tags o ≡ Some k → (held o ≡ Some k.value) × (unwrap_or (own_tag o) tags.still ≡ k.tag)
  by None e = absurd (let n : None ≡ Some k = e in cc)
  by (Some r) e = form r.form r.last e
