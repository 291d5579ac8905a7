-- What positions read at their last evaluations lives.
use Rattle.std.proofs.Common.{◌≡◌, ◌≢◌, Bool, true, false, Option, Some, None, option_map, List, [], ◌∷◌, refl, sym, ap, subst, ◌∙◌}
use Rattle.std.specs.Prelude.{◌||◌}
use Rattle.std.specs.List.{list_any}
use Rattle.gl_arena.specs.Id.{Id, same_id}
use Rattle.gl_arena.proofs.Ids.{same_id-true, same_id-other}
use Rattle.gl_tags.specs.Tags as t
use Rattle.gl_refs.specs.Forms as f
use Rattle.gl_refs.specs.State as s
use Rattle.gl_refs.specs.State.{Reaches}
use Rattle.gl_refs.specs.Refs.{Refs, rows_of, forms_of}
use Rattle.gl_refs.proofs.Meanings.{each_map}
use Rattle.gl_refs.proofs.Reaching.{reach_unread}
use Rattle.gl_vm.specs.Led.{IsReached, Led}
use Rattle.gl_vm.specs.View.{is_led, form_led}
use Rattle.gl_vm.specs.Steps.{IsForgotten}
use Rattle.gl_vm.proofs.Settled.{any_none}

pub pick : (P : Id → Type 0) (xs : List Id) → f.Each P xs → (w : Id) → list_any (same_id w) xs ≡ true → P w
pick P [] e w h = let no : false ≡ true = h in absurd (cc)
pick P (x ∷ xs) e w h = by (same_id w x) refl h (λ g. pick P xs e.1 w g) where
  by : (b : Bool) → same_id w x ≡ b → (b || list_any (same_id w) xs) ≡ true → (list_any (same_id w) xs ≡ true → P w) → P w
  by true q h r = subst P (sym (same_id-true w x q)) e.0
  by false q h r = r h

-- no position read a cell or an item that no live form names
pub led_forgotten : (r : Refs) (id : Id) → s.IsSound r.tags (rows_of r) → f.IsUnread (forms_of r) id → Led r → IsForgotten r id
led_forgotten r id sound unread led k x l ids e g w = by (rows_of r id) refl where
  row_k : rows_of r k ≡ Some (record { form = f.all_form ids; last = Some l })
  row_k = e ∙ λ z. Some (record { form = g z; last = w z })

  form : (y : s.Row) → rows_of r id ≡ Some y → (h : f.Form) → y.form ≡ h → form_led (t.leads_of r.tags.tags l.tag) h ≡ false
  form y b (f.source_form q u v) c =
      any_none u (t.leads_of r.tags.tags l.tag) (each_map (IsReached r k) (λ z. same_id u z ≡ false) (t.leads_of r.tags.tags l.tag) (λ z d. same_id-other u z (apart z d)) (led k ids l row_k)) where
        apart : (z : Id) → IsReached r k z → u ≢ z
        apart z d n =
            let one : d.source ≡ id = sound.owned d.source id z (ap s.own_tag d.is.is) (ap s.own_tag b ∙ (ap (λ h. s.own_by h y.last) c ∙ ap (λ j. Some j) n)) in
            let it : id ≡ k = reach_unread (forms_of r) k id (subst (Reaches (forms_of r) k) one d.reach) unread in
            let no : Some (f.source_form q u v) ≡ Some (f.all_form ids) =
            sym (ap (λ h. Some h) c) ∙ (sym (ap (option_map (λ (z : s.Row). z.form)) b) ∙ (ap (λ j. option_map (λ (z : s.Row). z.form) (rows_of r j)) it ∙ ap (option_map (λ (z : s.Row). z.form)) row_k)) in
            cc
  form y b (f.constant_form v) c = refl
  form y b (f.prop_form i n) c = refl
  form y b (f.call_form h is ns) c = refl
  form y b (f.cat_form is) c = refl
  form y b (f.all_form is) c = refl

  by : (o : Option s.Row) → rows_of r id ≡ o → is_led (t.leads_of r.tags.tags l.tag) (rows_of r id) ≡ false
  by None b = ap (is_led (t.leads_of r.tags.tags l.tag)) b
  by (Some y) b = ap (is_led (t.leads_of r.tags.tags l.tag)) b ∙ form y b y.form refl
