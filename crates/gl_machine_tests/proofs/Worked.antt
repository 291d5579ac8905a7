-- References step by step.
use Rattle.std.proofs.Common.{◌≡◌, ◌≢◌, true, false, [], Option, Some, None, option_map, IsSome, refl, sym, subst, ◌∙◌, ap, ◌⊎◌, inl, inr}
use Rattle.std.specs.Prelude.{slice_index_or}
use Rattle.std.specs.List.{list_any}
use Rattle.gl_arena.specs.Id.{Id, same_id}
use Rattle.gl_arena.specs.Arena.{Arena, named, stamped, with_value, Gives}
use Rattle.gl_arena.proofs.Ids.{id_cases}
use Rattle.gl_arena.proofs.Values.{Writes, with_value-writes}
use Rattle.gl_refs.specs.Forms.{V, Form, constant_form, source_form, Look, parts, IsUnread}
use Rattle.gl_refs.specs.State as s
use Rattle.gl_refs.specs.State.{forms, is_cell, is_item}
use Rattle.gl_refs.specs.Refs as r
use Rattle.gl_refs.specs.Refs.{Refs}

-- an item stays one, whatever it is given
pub given_item : (old new : Refs) (id : Id) (v : V) → is_item (r.forms_of old id) ≡ true → (r.Holds old id true v × (new ≡ old)) ⊎ ((r.Holds old id true v → ⊥) × r.SetsValue old new id true v) → is_item (r.forms_of new id) ≡ true
given_item old new id v h (inl k) = ap (λ q. is_item (r.forms_of q id)) k.1 ∙ h
given_item old new id v h (inr k) =
    let x = k.1 in
    let w = with_value-writes old.rows id (record { form = source_form true x.tag v; last = x.last }) (subst IsSome (sym x.held) refl) in
    ap (λ (a : Arena s.Row). is_item (forms (λ i. named a i) id)) x.rows ∙ ap (λ o. is_item (option_map (λ (q : s.Row). q.form) o)) w.given

-- a constant that was made alone is read by nothing
pub alone_unread : (old new : Refs) (k : Id) (v : V) → old.rows.slots ≡ [] → Gives old.rows new.rows k (record { form = constant_form v; last = None }) → IsUnread (r.forms_of new) k
alone_unread old new k v e g i q h = by (id_cases i k) where
  form_is : (x y : Form) → Some x ≡ Some y → x ≡ y
  form_is x y e = cc

  empty : named old.rows i ≡ None
  empty = ap (λ s. stamped i.1 (slice_index_or s i.0 None)) e

  by : (i ≡ k) ⊎ (i ≢ k) → list_any (same_id k) (parts q) ≡ false
  by (inl p) = subst (λ x. list_any (same_id k) (parts x) ≡ false) (form_is (constant_form v) q (sym (ap (option_map (λ (x : s.Row). x.form)) (ap (named new.rows) p ∙ g.given)) ∙ h)) refl
  by (inr ne) = absurd (let n : None ≡ Some q = sym (ap (option_map (λ (x : s.Row). x.form)) (g.others i ne ∙ empty)) ∙ h in cc)

-- and what lives stays live
pub given_live : (old new : Refs) (id : Id) (v : V) → (r.Holds old id true v × (new ≡ old)) ⊎ ((r.Holds old id true v → ⊥) × r.SetsValue old new id true v) → (i : Id) → IsSome (r.forms_of old i) → IsSome (r.forms_of new i)
given_live old new id v (inl k) i h = subst (λ q. IsSome (r.forms_of q i)) (sym k.1) h
given_live old new id v (inr k) i h = subst IsSome (sym (ap (λ (a : Arena s.Row). forms (λ j. named a j) i) x.rows)) (by (id_cases i id)) where
  x : r.SetsValue old new id true v
  x = k.1

  w : Writes old.rows (with_value old.rows id (record { form = source_form true x.tag v; last = x.last })) id (record { form = source_form true x.tag v; last = x.last })
  w = with_value-writes old.rows id (record { form = source_form true x.tag v; last = x.last }) (subst IsSome (sym x.held) refl)

  by : (i ≡ id) ⊎ (i ≢ id) → IsSome (forms (λ j. named (with_value old.rows id (record { form = source_form true x.tag v; last = x.last })) j) i)
  by (inl q) = subst IsSome (sym (ap (λ j. option_map (λ (q : s.Row). q.form) (named (with_value old.rows id (record { form = source_form true x.tag v; last = x.last })) j)) q ∙ ap (option_map (λ (q : s.Row). q.form)) w.given)) refl
  by (inr n) = subst IsSome (sym (ap (option_map (λ (q : s.Row). q.form)) (w.others i n))) h

-- what stays in two steps
pub stays_then : (x y z : Look) → ((i : Id) → IsSome (x i) → y i ≡ x i) → ((i : Id) → IsSome (y i) → z i ≡ y i) → (i : Id) → IsSome (x i) → z i ≡ x i
stays_then x y z f g i h = g i (subst IsSome (sym (f i h)) h) ∙ f i h

pub cell_there : (o : Option Form) → is_cell o ≡ true → IsSome o
cell_there None e = absurd (let n : false ≡ true = e in cc)
cell_there (Some g) e = refl
