-- Owners that are renamed, and renamed back; values that hold no action.
use Rattle.std.proofs.Common.{◌≡◌, ℕ, List, [], ◌∷◌, map, Bool, true, false, Option, Some, None, refl, sym, ap, ap₂, ◌∙◌, subst}
use Rattle.std.specs.Prelude.{if◌then◌else◌, unwrap_or, ◌&&◌}
use Rattle.std.specs.Str.{bytes_eq}
use Rattle.gl_base.specs.Texts.{Text}
use Rattle.gl_base.specs.Names.{named}
use Rattle.gl_value.specs.Value.{undefined, null, boolean, integer, text, list, pairs, action, Values, no_values, value, Members, no_members, member, plain}
use Rattle.gl_value.specs.Owners.{with_owners, values_with, members_with}
use Rattle.gl_meaning.specs.App.{App}
use Rattle.gl_meaning.specs.Path.{Path, V, path_eq}
use Rattle.gl_meaning.specs.Scope.{Source, Pair}
use Rattle.gl_meaning.specs.Eval.{Store, class_at, held_at}
use Rattle.gl_meaning.specs.Laws.{NoPath, Owners, OwnersAll, OwnersMembers, HoldsNoAction}
use Rattle.gl_plain.specs.Ids.{Id, ref}
use Rattle.gl_plain.specs.State.{Form, constant_form, source_form, property_form, call_form, joined_form, all_form, row, content, instance_row, block_row, modifier_row, Thing}
use Rattle.gl_plain.specs.Reads.{reads, IdsBelow, ReadsLower, RowsReadLower}
use Rattle.gl_labels.specs.Laws.{names_with}
use Rattle.gl_naming.specs.Renamed.{pair_with, form_with, thing_with, there_with, StoresAgree}
use Rattle.gl_naming.specs.Moved.{Undoes}
use Rattle.gl_naming.proofs.Bound.{plain_on}

-- Twice is once.

module _ (f g : Path → Path) where
  abbrev both : Path → Path
  both o = f (g o)

  mutual
    pub owners_twice : (v : V) → with_owners f (with_owners g v) ≡ with_owners both v
    owners_twice undefined = refl
    owners_twice null = refl
    owners_twice (boolean b) = refl
    owners_twice (integer i) = refl
    owners_twice (text s) = refl
    owners_twice (list vs) = ap list (values_twice vs)
    owners_twice (pairs ms) = ap pairs (members_twice ms)
    owners_twice (action o n vs) = ap (action (f (g o)) n) (values_twice vs)

    values_twice : (vs : Values Path) → values_with f (values_with g vs) ≡ values_with both vs
    values_twice no_values = refl
    values_twice (value v vs) = ap₂ value (owners_twice v) (values_twice vs)

    members_twice : (ms : Members Path) → members_with f (members_with g ms) ≡ members_with both ms
    members_twice no_members = refl
    members_twice (member k v ms) = ap₂ (λ w ns. member k w ns) (owners_twice v) (members_twice ms)

  pub list_twice : (vs : List V) → map (with_owners f) (map (with_owners g) vs) ≡ map (with_owners both) vs
  list_twice [] = refl
  list_twice (v ∷ vs) = ap₂ (λ w ws. w ∷ ws) (owners_twice v) (list_twice vs)

  pub names_twice : (ns : List (Text × V)) → names_with f (names_with g ns) ≡ names_with both ns
  names_twice [] = refl
  names_twice (n ∷ ns) = ap₂ (λ w ws. (n.0, w) ∷ ws) (owners_twice n.1) (names_twice ns)

-- the same names
module _ (f : Path → Path) (same : (o : Path) → f o ≡ o) where
  mutual
    pub owners_same : (v : V) → with_owners f v ≡ v
    owners_same undefined = refl
    owners_same null = refl
    owners_same (boolean b) = refl
    owners_same (integer i) = refl
    owners_same (text s) = refl
    owners_same (list vs) = ap list (values_same vs)
    owners_same (pairs ms) = ap pairs (members_same ms)
    owners_same (action o n vs) = ap₂ (λ p ws. action p n ws) (same o) (values_same vs)

    values_same : (vs : Values Path) → values_with f vs ≡ vs
    values_same no_values = refl
    values_same (value v vs) = ap₂ value (owners_same v) (values_same vs)

    members_same : (ms : Members Path) → members_with f ms ≡ ms
    members_same no_members = refl
    members_same (member k v ms) = ap₂ (λ w ns. member k w ns) (owners_same v) (members_same ms)

-- what has no action in it has no names
module _ (f : Path → Path) where
  mutual
    pub free_on : (v : V) → Owners NoPath v → with_owners f v ≡ v
    free_on undefined h = refl
    free_on null h = refl
    free_on (boolean b) h = refl
    free_on (integer i) h = refl
    free_on (text s) h = refl
    free_on (list vs) h = ap list (free_values vs h)
    free_on (pairs ms) h = ap pairs (free_members ms h)
    free_on (action o n vs) h = absurd h.0

    free_values : (vs : Values Path) → OwnersAll NoPath vs → values_with f vs ≡ vs
    free_values no_values h = refl
    free_values (value v vs) h = ap₂ value (free_on v h.0) (free_values vs h.1)

    free_members : (ms : Members Path) → OwnersMembers NoPath ms → members_with f ms ≡ ms
    free_members no_members h = refl
    free_members (member k v ms) h = ap₂ (λ w ns. member k w ns) (free_on v h.0) (free_members ms h.1)

  held_free : (q : Path) (x : Text) (d : V) → with_owners f d ≡ d → (σ : Store) → HoldsNoAction σ → with_owners f (unwrap_or (held_at q x σ) d) ≡ unwrap_or (held_at q x σ) d
  held_free q x d e [] h = e
  held_free q x d e (y ∷ ys) h = by (path_eq q y.instance && bytes_eq x y.field) (held_free q x d e ys h.1) where
    by : (b : Bool) → with_owners f (unwrap_or (held_at q x ys) d) ≡ unwrap_or (held_at q x ys) d
        → let o : Option V = if b then Some y.value else held_at q x ys in with_owners f (unwrap_or o d) ≡ unwrap_or o d
    by true r = free_on y.value h.0
    by false r = r

  pub free_agrees : (g : Source → Source) (app : App) (σ : Store) → HoldsNoAction σ → StoresAgree f g app σ σ
  free_agrees g app σ h q x = sym (held_free q x (plain (unwrap_or (named x (class_at app q).fields) undefined)) (plain_on f (unwrap_or (named x (class_at app q).fields) undefined)) σ h)

-- Renamed and back

module _ (h back : Path → Path) (k undo : Source → Source) (eh : Undoes back h) (ek : Undoes undo k) where
  pub undone : (v : V) → with_owners h (with_owners back v) ≡ v
  undone v = owners_twice h back v ∙ owners_same (λ o. h (back o)) eh.1 v

  sources_back : (xs : List Source) → map k (map undo xs) ≡ xs
  sources_back [] = refl
  sources_back (x ∷ xs) = ap₂ (λ y ys. y ∷ ys) (ek.1 x) (sources_back xs)

  pub pair_back : (p : Pair) → pair_with h k (pair_with back undo p) ≡ p
  pair_back p = ap₂ (λ v xs. record { value = v; sources = xs }) (undone p.value) (sources_back p.sources)

  pub renamed_apart : (o p : Path) → h o ≡ h p → o ≡ p
  renamed_apart o p e = sym (eh.0 o) ∙ (ap back e ∙ eh.0 p)

-- States

module _ (h f : Path → Path) (k g : Source → Source) where
  form_twice : (x : Form) → form_with h k (form_with f g x) ≡ form_with (λ o. h (f o)) (λ y. k (g y)) x
  form_twice (constant_form v) = ap constant_form (owners_twice h f v)
  form_twice (source_form x v) = ap (source_form (k (g x))) (owners_twice h f v)
  form_twice (property_form r n) = refl
  form_twice (call_form n rs ns) = refl
  form_twice (joined_form rs) = refl
  form_twice (all_form rs) = refl

  thing_twice : (x : Thing) → thing_with h k (thing_with f g x) ≡ thing_with (λ o. h (f o)) (λ y. k (g y)) x
  thing_twice (row x) = ap (λ y. row (record { form = y; last = λ t. x.last (λ z. t (k (g z))) })) (form_twice x.form)
  thing_twice (content c) = refl
  thing_twice (instance_row i) = refl
  thing_twice block_row = refl
  thing_twice (modifier_row x) = ap₂ (λ us ns. modifier_row (record { on_node = x.on_node; place = x.place; name = x.name; args = us; names = ns })) (list_twice h f x.args) (names_twice h f x.names)

  there_twice : (o : Option Thing) → there_with h k (there_with f g o) ≡ there_with (λ o'. h (f o')) (λ y. k (g y)) o
  there_twice None = refl
  there_twice (Some x) = ap Some (thing_twice x)

  pub look_twice : (look : Id → Option Thing) → ◌≡◌ {A = Id → Option Thing} (λ q. there_with h k (there_with f g (look q))) (λ q. there_with (λ o. h (f o)) (λ y. k (g y)) (look q))
  look_twice look = λ j q. there_twice (look q) j

  -- what rows read is the same
  reads_with : (x : Form) → reads (form_with f g x) ≡ reads x
  reads_with (constant_form v) = refl
  reads_with (source_form y v) = refl
  reads_with (property_form r n) = refl
  reads_with (call_form n rs ns) = refl
  reads_with (joined_form rs) = refl
  reads_with (all_form rs) = refl

  lower_with : (n : ℕ) (o : Option Thing) → ReadsLower n (there_with f g o) ≡ ReadsLower n o
  lower_with n None = refl
  lower_with n (Some (row x)) = ap (IdsBelow n) (reads_with x.form)
  lower_with n (Some (content c)) = refl
  lower_with n (Some (instance_row i)) = refl
  lower_with n (Some block_row) = refl
  lower_with n (Some (modifier_row x)) = refl

  pub rows_with : (look : Id → Option Thing) → RowsReadLower look → RowsReadLower (λ q. there_with f g (look q))
  rows_with look h n = subst (λ P. P) (sym (lower_with n (look (ref n)))) (h n)

  pub rows_without : (look : Id → Option Thing) → RowsReadLower (λ q. there_with f g (look q)) → RowsReadLower look
  rows_without look h n = subst (λ P. P) (lower_with n (look (ref n))) (h n)
