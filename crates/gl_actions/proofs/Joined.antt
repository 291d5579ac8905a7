-- The join of values, when all were gone through.
use Rattle.std.proofs.Common.{◌≡◌, ℕ, ◌≤◌, Bool, true, false, not, List, [], ◌∷◌, ◌++◌, drop, length, filter, flat_map, refl, sym, ap, ◌∙◌, append-nil}
use Rattle.std.proofs.lemmas.Bool.{or_parts}
use Rattle.gl_value.specs.Value as v
use Rattle.std.specs.Prelude.{◌||◌}
use Rattle.std.specs.List.{list_any}
use Rattle.std.proofs.lemmas.List.{drop_all}
use Rattle.gl_base.specs.Texts.{Text}
use Rattle.gl_value.specs.Value.{null, text, undefined, boolean, integer, list, pairs, action, text_of, is_missing, join_kept, join_values}
use Rattle.gl_value.specs.View.{seen_items}
use Rattle.gl_value.specs.declared.value.Value.{Value}

abbrev V : Type 0
V = v.Value ℕ

abbrev pub is_there : V → Bool
is_there v = not (is_missing v)

step-text : (v : V) (vs : List V) → flat_map text_of (filter is_there (v ∷ vs)) ≡ text_of v ++ flat_map text_of (filter is_there vs)
step-text undefined vs = refl
step-text null vs = refl
step-text (boolean b) vs = refl
step-text (integer i) vs = refl
step-text (text s) vs = refl
step-text (list xs) vs = refl
step-text (pairs ms) vs = refl
step-text (action o n xs) vs = refl

kept-text : (vs : List V) → flat_map text_of (filter is_there vs) ≡ flat_map text_of vs
kept-text [] = refl
kept-text (v ∷ vs) = step-text v vs ∙ ap (λ t. text_of v ++ t) (kept-text vs)

some-kept : (v : V) (vs : List V) → is_missing v ≡ false → filter is_there (v ∷ vs) ≡ v ∷ filter is_there vs
some-kept v vs e = rw e refl

none-kept : (v : V) (vs : List V) → is_missing v ≡ true → filter is_there (v ∷ vs) ≡ filter is_there vs
none-kept v vs e = rw e refl

missing-text : (v : V) → is_missing v ≡ true → text_of v ≡ []
missing-text undefined e = refl
missing-text null e = refl
missing-text (boolean b) e = absurd (let n : false ≡ true = e in cc)
missing-text (integer i) e = absurd (let n : false ≡ true = e in cc)
missing-text (text s) e = absurd (let n : false ≡ true = e in cc)
missing-text (list xs) e = absurd (let n : false ≡ true = e in cc)
missing-text (pairs ms) e = absurd (let n : false ≡ true = e in cc)
missing-text (action o n xs) e = absurd (let n : false ≡ true = e in cc)

-- the join is the text of all, where one of them is there
pub joined-some : (vs : List V) → list_any is_there vs ≡ true → join_values vs ≡ text (flat_map text_of vs)
joined-some [] e = absurd (let n : false ≡ true = e in cc)
joined-some (v ∷ vs) e = by (is_missing v) refl (joined-some vs) where
  by : (b : Bool) → is_missing v ≡ b → (list_any is_there vs ≡ true → join_values vs ≡ text (flat_map text_of vs)) → join_values (v ∷ vs) ≡ text (flat_map text_of (v ∷ vs))
  by false m h = ap join_kept (some-kept v vs m) ∙ ap (λ t. let x : V = text (text_of v ++ t) in x) (kept-text vs)
  by true m h =
      let rest : list_any is_there vs ≡ true = sym (ap (λ b. not b || list_any is_there vs) m) ∙ e in
      ap join_kept (none-kept v vs m) ∙ (h rest ∙ sym (ap (λ t. let x : V = text (t ++ flat_map text_of vs) in x) (missing-text v m)))

pub joined-none : (vs : List V) → list_any is_there vs ≡ false → join_values vs ≡ null
joined-none [] e = refl
joined-none (v ∷ vs) e =
    let p = or_parts (not (is_missing v)) (list_any is_there vs) e in
    ap join_kept (none-kept v vs (was (is_missing v) p.0)) ∙ joined-none vs p.1 where
      was : (b : Bool) → not b ≡ false → b ≡ true
      was true h = refl
      was false h = absurd (let n : true ≡ false = h in cc)

or_false : (b : Bool) → (b || false) ≡ b
or_false true = refl
or_false false = refl

module _ (vs : List Value) (k : ℕ) (done : Text) (some : Bool) (end : length vs ≤ k)
    (texts : done ++ flat_map text_of (seen_items (drop k vs)) ≡ flat_map text_of (seen_items vs)) (any : (some || list_any is_there (seen_items (drop k vs))) ≡ list_any is_there (seen_items vs)) where
  text_is : done ≡ flat_map text_of (seen_items vs)
  text_is = sym (append-nil done) ∙ (ap (λ xs. done ++ flat_map text_of (seen_items xs)) (sym (drop_all k vs end)) ∙ texts)

  any_is : list_any is_there (seen_items vs) ≡ some
  any_is = sym any ∙ (ap (λ xs. some || list_any is_there (seen_items xs)) (drop_all k vs end) ∙ or_false some)

  pub join_text : some ≡ true → text done ≡ join_values (seen_items vs)
  join_text e = ap (λ t. let x : V = text t in x) text_is ∙ sym (joined-some (seen_items vs) (any_is ∙ e))

  pub join_null : some ≡ false → null ≡ join_values (seen_items vs)
  join_null e = sym (joined-none (seen_items vs) (any_is ∙ e))
