-- What tags tell of references, and what stamps do.
use Rattle.std.proofs.Common.{◌≡◌, ℕ, ◌≤◌, true, false, Option, Some, None, option_map, unwrap_or, IsSome, refl, sym, subst, ◌∙◌, ap, arith}
use Rattle.std.specs.List.{list_any}
use Rattle.gl_arena.specs.Id.{Id}
use Rattle.gl_arena.specs.Arena.{IsStamped, by_stamp}
use Rattle.gl_arena.specs.Mapped.{mapped}
use Rattle.gl_arena.proofs.Mapped.{named-mapped, by_stamp-mapped, are_stamped-mapped}
use Rattle.gl_arena.proofs.Stamps.{by_stamp-same}
use Rattle.gl_value.specs.Value.{undefined}
use Rattle.gl_tags.specs.Tags as t
use Rattle.gl_refs.specs.Forms.{Form, constant_form, source_form, prop_form, call_form, cat_form, all_form, meaning, Like}
use Rattle.gl_refs.specs.State.{Last, Row, Rows, forms, Kept, kept, held_value, held_tag, own_tag, own_by, form_tagged, has_tag, IsKept, IsValidForm, IsValid, IsSound}
use Rattle.gl_refs.specs.Refs.{Refs, Reads}
use Rattle.gl_refs.proofs.Rows.{kept_held}

pub kept_like : (tags : t.Tags) (rows : Rows) (i : Id) → IsSound tags rows → IsKept tags rows i
    → Like (record { value = held_value rows i; sources = t.leads_of tags.tags (held_tag tags rows i) }) (meaning (forms rows) i)
kept_like tags rows i sound h = by (kept tags rows i) refl h where
  by : (o : Option Kept) → kept tags rows i ≡ o → IsSome o → Like (record { value = held_value rows i; sources = t.leads_of tags.tags (held_tag tags rows i) }) (meaning (forms rows) i)
  by None e h = absurd (let n : false ≡ true = h in cc)
  by (Some k) e h =
      let r = sound.right i k e in
      let d = kept_held tags rows i k e in
      record {
        value = ap (λ o. unwrap_or o undefined) d.0 ∙ r.value;
        sources = λ p. ap (λ u. list_any p (t.leads_of tags.tags u)) d.1 ∙ r.sources p;
      }

pub valid_by_tag : (tags : t.Tags) (rows : Rows) (i : Id) (since : ℕ) → IsSound tags rows → has_tag (rows i) ≡ true
    → (IsValid tags since (rows i) → t.value_of tags (held_tag tags rows i) ≤ since) × (t.value_of tags (held_tag tags rows i) ≤ since → IsValid tags since (rows i))
valid_by_tag tags rows i since sound h = row (rows i) h where
  form : (g : Form) (o : Option Last) → form_tagged g o ≡ true
      → (IsValidForm tags since g o → t.value_of tags (unwrap_or (own_by g o) tags.still) ≤ since) × (t.value_of tags (unwrap_or (own_by g o) tags.still) ≤ since → IsValidForm tags since g o)
  form (constant_form v) o h = (λ x. subst (λ y. t.value_by t.revision tags.tags y ≤ since) (sym sound.tags_sound.still) (omega arith), λ x. tt)
  form (source_form k s v) o h = (λ x. x, λ x. x)
  form (prop_form r n) None h = absurd (let n : false ≡ true = h in cc)
  form (prop_form r n) (Some l) h = (λ x. x, λ x. x)
  form (call_form n ids ns) None h = absurd (let n : false ≡ true = h in cc)
  form (call_form n ids ns) (Some l) h = (λ x. x, λ x. x)
  form (cat_form ids) None h = absurd (let n : false ≡ true = h in cc)
  form (cat_form ids) (Some l) h = (λ x. x, λ x. x)
  form (all_form ids) None h = absurd (let n : false ≡ true = h in cc)
  form (all_form ids) (Some l) h = (λ x. x, λ x. x)

  row : (o : Option Row) → has_tag o ≡ true → (IsValid tags since o → t.value_of tags (unwrap_or (own_tag o) tags.still) ≤ since) × (t.value_of tags (unwrap_or (own_tag o) tags.still) ≤ since → IsValid tags since o)
  row None h = absurd (let n : false ≡ true = h in cc)
  row (Some r) h = form r.form r.last h

pub forms_by_stamp : (old new : Refs) (id : Id) → IsStamped old.rows → IsStamped new.rows → Reads old new id → (s : ℕ)
    → option_map (λ (r : Row). r.form) (by_stamp new.rows s) ≡ option_map (λ (r : Row). r.form) (by_stamp old.rows s)
forms_by_stamp old new id was is reads s =
    let f : Row → Form = λ r. r.form in
    sym (by_stamp-mapped f new.rows s)
    ∙ (by_stamp-same (mapped f old.rows) (mapped f new.rows) s (are_stamped-mapped f old.rows was) (are_stamped-mapped f new.rows is)
    (λ i e. named-mapped f new.rows i ∙ (ap (λ l. l i) reads.settles.forms ∙ sym (named-mapped f old.rows i)))
    ∙ by_stamp-mapped f old.rows s)
