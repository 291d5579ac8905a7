-- No reference reads a position: what keeps that.
use Rattle.std.proofs.Common.{◌≡◌, ◌≢◌, ◌<◌, Bool, true, false, Option, Some, None, option_map, IsSome, List, refl, sym, ap, subst, ◌∙◌, ◌⊎◌, inl, inr, Result, Ok, Err, IfOk, OnErr}
use Rattle.std.specs.List.{list_any}
use Rattle.gl_arena.specs.Id.{Id, same_id}
use Rattle.gl_arena.specs.Arena.{Arena, named, Gives}
use Rattle.gl_arena.proofs.Ids.{id_cases, same_id-other}
use Rattle.gl_arena.proofs.Values.{with_value-writes}
use Rattle.gl_refs.specs.Forms as f
use Rattle.gl_refs.specs.State as s
use Rattle.gl_refs.specs.Refs.{Refs, forms_of, Makes, MakesSource, SetsValue, Holds}
use Rattle.gl_refs.proofs.Meanings.{each_map}
use Rattle.gl_vm.specs.View.{PositionsUnread}
use Rattle.gl_vm.proofs.Rows.{none_not, some_same}
use Rattle.gl_vm.proofs.Settled.{any_none}

pub either_way : {T E : Type 0} {P : T → Type 0} {Q R : Type 0} (r : Result T E) → ((x : T) → P x → R) → (Q → R) → IfOk r P → OnErr r Q → R
either_way (Ok v) f g p q = f v p
either_way (Err e) f g p q = g q

pub live_of : (o : Option f.Form) → s.is_readable o ≡ true → IsSome o
live_of None e = e
live_of (Some g) e = refl

not_all : (o : Option f.Form) (ids : List Id) → o ≡ Some (f.all_form ids) → s.is_readable o ≡ true → ⊥
not_all o ids e h = let no : false ≡ true = sym (ap s.is_readable e) ∙ h in cc

pub calm_same : (a b : Refs) → forms_of b ≡ forms_of a → PositionsUnread a → PositionsUnread b
calm_same a b e calm = subst (λ (l : f.Look). (i : Id) (ids : List Id) → l i ≡ Some (f.all_form ids) → f.IsUnread l i) (sym e) calm

module _ (a b : Refs) (id : Id) (others : (q : Id) → q ≢ id → forms_of b q ≡ forms_of a q) (calm : PositionsUnread a) where
  pub calm_made : (g : f.Form) → forms_of a id ≡ None → forms_of b id ≡ Some g → f.AreLower (forms_of a) → f.Each (λ q. s.is_readable (forms_of a q) ≡ true) (f.parts g) → PositionsUnread b
  calm_made g vacant given lower parts i ids e k h e' = by (id_cases i id) (id_cases k id) where
    not_new : (x : Id) → IsSome (forms_of a x) → i ≡ id → i ≢ x
    not_new x live q r = let no : false ≡ true = subst IsSome (ap (forms_of a) (sym r ∙ q) ∙ vacant) live in cc

    here : k ≡ id → g ≡ h
    here r = some_same g h (sym (ap (forms_of b) r ∙ given) ∙ e')

    by : (i ≡ id) ⊎ (i ≢ id) → (k ≡ id) ⊎ (k ≢ id) → list_any (same_id i) (f.parts h) ≡ false
    by (inl q) (inl r) =
        subst (λ x. list_any (same_id i) (f.parts x) ≡ false) (here r)
        (any_none i (f.parts g) (each_map (λ x. s.is_readable (forms_of a x) ≡ true) (λ x. same_id i x ≡ false) (f.parts g) (λ x d. same_id-other i x (not_new x (live_of (forms_of a x) d) q)) parts))
    by (inr n) (inl r) =
        subst (λ x. list_any (same_id i) (f.parts x) ≡ false) (here r)
        (any_none i (f.parts g) (each_map (λ x. s.is_readable (forms_of a x) ≡ true) (λ x. same_id i x ≡ false) (f.parts g)
        (λ x d. same_id-other i x (λ z. not_all (forms_of a x) ids (ap (forms_of a) (sym z) ∙ (sym (others i n) ∙ e)) d)) parts))
    by (inl q) (inr m) =
        any_none i (f.parts h) (each_map (λ x. (x.1 < k.1) × IsSome (forms_of a x)) (λ x. same_id i x ≡ false) (f.parts h) (λ x d. same_id-other i x (not_new x d.1 q)) (lower k h (sym (others k m) ∙ e')))
    by (inr n) (inr m) = calm i ids (sym (others i n) ∙ e) k h (sym (others k m) ∙ e')

  pub calm_put : (kind : Bool) (tag : Id) (v : f.V) → forms_of b id ≡ Some (f.source_form kind tag v) → PositionsUnread b
  calm_put kind tag v given i ids e k h e' = by (id_cases i id) (id_cases k id) where
    by : (i ≡ id) ⊎ (i ≢ id) → (k ≡ id) ⊎ (k ≢ id) → list_any (same_id i) (f.parts h) ≡ false
    by (inl q) r = let no : Some (f.source_form kind tag v) ≡ Some (f.all_form ids) = sym (ap (forms_of b) q ∙ given) ∙ e in absurd (cc)
    by (inr n) (inl r) = subst (λ x. list_any (same_id i) (f.parts x) ≡ false) (some_same (f.source_form kind tag v) h (sym (ap (forms_of b) r ∙ given) ∙ e')) refl
    by (inr n) (inr m) = calm i ids (sym (others i n) ∙ e) k h (sym (others k m) ∙ e')

  pub calm_ended : forms_of b id ≡ None → PositionsUnread b
  calm_ended ended i ids e k h e' = by (id_cases i id) (id_cases k id) where
    by : (i ≡ id) ⊎ (i ≢ id) → (k ≡ id) ⊎ (k ≢ id) → list_any (same_id i) (f.parts h) ≡ false
    by (inl q) r = absurd (none_not (f.all_form ids) (sym (ap (forms_of b) q ∙ ended) ∙ e))
    by (inr n) (inl r) = absurd (none_not h (sym (ap (forms_of b) r ∙ ended) ∙ e'))
    by (inr n) (inr m) = calm i ids (sym (others i n) ∙ e) k h (sym (others k m) ∙ e')

abbrev form_in : s.Row → f.Form
form_in x = x.form

module _ (a b : Refs) (id : Id) where
  pub calm_makes : (g : f.Form) → Makes a b id g → f.AreLower (forms_of a) → f.Each (λ q. s.is_readable (forms_of a q) ≡ true) (f.parts g) → PositionsUnread a → PositionsUnread b
  calm_makes g m lower parts calm =
      calm_made a b id (λ q ne. ap (option_map form_in) (m.gives.others q ne)) calm g (ap (option_map form_in) m.gives.vacant) (ap (option_map form_in) m.gives.given) lower parts

  pub calm_source : (kind : Bool) (v : f.V) → MakesSource a b id kind v → f.AreLower (forms_of a) → PositionsUnread a → PositionsUnread b
  calm_source kind v m lower calm =
      calm_made a b id (λ q ne. ap (option_map form_in) (m.gives.gives.others q ne)) calm (f.source_form kind m.gives.tag v) (ap (option_map form_in) m.gives.gives.vacant) (ap (option_map form_in) m.gives.gives.given) lower tt

  pub calm_sets : (kind : Bool) (v : f.V) → SetsValue a b id kind v → PositionsUnread a → PositionsUnread b
  calm_sets kind v x calm =
      let w = with_value-writes a.rows id (record { form = f.source_form kind x.tag v; last = x.last }) (subst IsSome (sym x.held) refl) in
      calm_put a b id (λ q ne. ap (λ (r : Arena s.Row). option_map form_in (named r q)) x.rows ∙ ap (option_map form_in) (w.others q ne)) calm kind x.tag v
      (ap (λ (r : Arena s.Row). option_map form_in (named r id)) x.rows ∙ ap (option_map form_in) w.given)

  pub calm_given : (v : f.V) → (Holds a id true v × (b ≡ a)) ⊎ ((Holds a id true v → ⊥) × SetsValue a b id true v) → PositionsUnread a → PositionsUnread b
  calm_given v (inl x) calm = subst PositionsUnread (sym x.1) calm
  calm_given v (inr x) calm = calm_sets true v x.1 calm

  pub form_makes : (g : f.Form) → Makes a b id g → forms_of b id ≡ Some g
  form_makes g m = ap (option_map form_in) m.gives.given

  olds_given : (x : s.Row) → Gives a.rows b.rows id x → (i : Id) → IsSome (forms_of a i) → forms_of b i ≡ forms_of a i
  olds_given x g i live = by (id_cases i id) where
    by : (i ≡ id) ⊎ (i ≢ id) → forms_of b i ≡ forms_of a i
    by (inl e) = let no : false ≡ true = subst IsSome (ap (forms_of a) e ∙ ap (option_map form_in) g.vacant) live in absurd (cc)
    by (inr ne) = ap (option_map form_in) (g.others i ne)

  pub olds_makes : (g : f.Form) → Makes a b id g → (i : Id) → IsSome (forms_of a i) → forms_of b i ≡ forms_of a i
  olds_makes g m i live = olds_given (record { form = g; last = None }) m.gives i live

  pub olds_source : (kind : Bool) (v : f.V) → MakesSource a b id kind v → (i : Id) → IsSome (forms_of a i) → forms_of b i ≡ forms_of a i
  olds_source kind v m i live = olds_given (record { form = f.source_form kind m.gives.tag v; last = None }) m.gives.gives i live

  pub live_source : (kind : Bool) (v : f.V) → MakesSource a b id kind v → IsSome (forms_of b id)
  live_source kind v m = subst IsSome (sym (ap (option_map form_in) m.gives.gives.given)) refl

  pub cell_source : (v : f.V) → MakesSource a b id false v → s.is_cell (forms_of b id) ≡ true
  cell_source v m = ap (λ o. s.is_cell (option_map form_in o)) m.gives.gives.given

  pub item_source : (v : f.V) → MakesSource a b id true v → s.is_item (forms_of b id) ≡ true
  item_source v m = ap (λ o. s.is_item (option_map form_in o)) m.gives.gives.given

pub olds_err : (a b : Refs) → b ≡ a → (i : Id) → IsSome (forms_of a i) → forms_of b i ≡ forms_of a i
olds_err a b e i live = ap (λ (r : Refs). forms_of r i) e

pub olds_kept : (a b : Refs) → forms_of b ≡ forms_of a → (i : Id) → IsSome (forms_of a i) → forms_of b i ≡ forms_of a i
olds_kept a b e i live = ap (λ l. l i) e

pub on_err : {T E P Q : Type 0} (r : Result T E) → (P → Q) → OnErr r P → OnErr r Q
on_err (Ok v) h p = p
on_err (Err e) h p = h p
