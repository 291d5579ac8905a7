-- What is taken by a key is what stands at the key's place.
use Rattle.std.proofs.Common.{◌≡◌, ◌≢◌, ℕ, zero, suc, List, [], ◌∷◌, Bool, true, false, Option, Some, None, refl, sym, ap, ap₂, subst, ◌∙◌, inl, inr, set}
use Rattle.std.specs.Prelude.{slice_get, if◌then◌else◌}
use Rattle.std.specs.Bool.{Decides}
use Rattle.std.proofs.lemmas.Bool.Decides.{Decides-eqb}
use Rattle.gl_value.specs.Value.{same}
use Rattle.gl_value.proofs.Sameness.{same-Decides, both_left, both_right, both_true}
use Rattle.gl_ast.specs.ExprCode.{owned, unowned, unowned-owned}
use Rattle.gl_meaning.specs.Known.{Among}
use Rattle.gl_meaning.specs.Laws.{NoRepeat}
use Rattle.gl_meaning.specs.Path.{no_owners}
use Rattle.gl_meaning.specs.Render.{Entry}
use Rattle.gl_machine.specs.RenewCode.{Runs, CodeHandle, is_code_of, taken_code, with_code_front}
use Rattle.gl_each.specs.Key.{Key, entry_key}
use Rattle.gl_update.specs.ListItems.{Item, handle, handles, spot_key, there, HasKeys}

no_owners-Decides : (a b : ⊥) → Decides (no_owners a b) (a ≡ b)
no_owners-Decides a b = absurd a

module _ (run : Runs) (m : ℕ) where
  -- an item is the entry's just where it has its key
  of_entry : (e : Entry) (x : Item) → is_code_of e (handle run m x) ≡ true → entry_key e ≡ spot_key x
  of_entry e x t =
      let v : e.key ≡ x.0.key = (same-Decides no_owners no_owners-Decides e.key x.0.key).0 (both_left _ _ t) in
      let o : e.occurrence ≡ x.0.occurrence = (Decides-eqb e.occurrence x.0.occurrence).0 (both_right (same no_owners e.key x.0.key) _ t) in
      ap₂ (λ k n. (owned k, n)) v o

  is_entry : (e : Entry) (x : Item) → entry_key e ≡ spot_key x → is_code_of e (handle run m x) ≡ true
  is_entry e x t =
      let v : e.key ≡ x.0.key = sym (unowned-owned e.key) ∙ (ap (λ (k : Key). unowned k.0) t ∙ unowned-owned x.0.key) in
      let o : e.occurrence ≡ x.0.occurrence = ap (λ (k : Key). k.1) t in
      both_true _ _ ((same-Decides no_owners no_owners-Decides e.key x.0.key).1 v) ((Decides-eqb e.occurrence x.0.occurrence).1 o)

  among_got : {A : Type 0} (xs : List A) (i : ℕ) (x : A) → slice_get xs i ≡ Some x → Among x xs
  among_got [] i x e = absurd (cc)
  among_got (y ∷ ys) zero x e = let is : x ≡ y = cc in inl is
  among_got (y ∷ ys) (suc i) x e = inr (among_got ys i x e)

  first_or : (e : Entry) (x : CodeHandle) (xs : List CodeHandle) (b : Bool) → is_code_of e x ≡ b
      → taken_code e (x ∷ xs) ≡ (if b then Some (x, xs) else with_code_front x (taken_code e xs))
  first_or e x xs b is = ap (λ c. if c then Some (x, xs) else with_code_front x (taken_code e xs)) is

  -- what has another key is no item of the entry
  other : (e : Entry) (x : Item) (k : Key) → spot_key x ≡ k → entry_key e ≢ k → is_code_of e (handle run m x) ≡ false
  other e x k is apart = by (is_code_of e (handle run m x)) refl where
    by : (b : Bool) → is_code_of e (handle run m x) ≡ b → is_code_of e (handle run m x) ≡ false
    by false h = h
    by true h = absurd (apart (of_entry e x h ∙ is))

  -- the first item is taken, where it has the entry's key
  pub taken_first : (e : Entry) (x : Item) (xs : List Item) → entry_key e ≡ spot_key x → taken_code e (handles run m (x ∷ xs)) ≡ Some (handle run m x, handles run m xs)
  taken_first e x xs t = first_or e (handle run m x) (handles run m xs) true (is_entry e x t)

  -- the item at the place of the entry's key is taken
  pub taken_there : (e : Entry) (ks : List Key) (os : List (Option Item)) (i : ℕ) (x : Item) → NoRepeat ks → HasKeys ks os → slice_get ks i ≡ Some (entry_key e) → slice_get os i ≡ Some (Some x)
      → taken_code e (handles run m (there os)) ≡ Some (handle run m x, handles run m (there (set os i None)))
  taken_there e [] os i x once has k o = absurd (cc)
  taken_there e (k ∷ ks) [] i x once has h o = absurd has
  taken_there e (k ∷ ks) (None ∷ os) zero x once has h o = absurd (cc)
  taken_there e (k ∷ ks) (Some y ∷ os) zero x once has h o =
      let is : y ≡ x = cc in
      let here : k ≡ entry_key e = cc in
      first_or e (handle run m y) (handles run m (there os)) true (is_entry e y (sym here ∙ sym has.0))
      ∙ ap (λ z. Some (handle run m z, handles run m (there os))) is
  taken_there e (k ∷ ks) (None ∷ os) (suc i) x once has h o = taken_there e ks os i x once.1 has h o
  taken_there e (k ∷ ks) (Some y ∷ os) (suc i) x once has h o =
      let apart : entry_key e ≢ k = λ same. once.0 (subst (λ z. Among z ks) same (among_got ks i (entry_key e) h)) in
      first_or e (handle run m y) (handles run m (there os)) false (other e y k has.0 apart)
      ∙ ap (with_code_front (handle run m y)) (taken_there e ks os i x once.1 has.1 h o)

  -- where the entry's key is none of the keys, nothing is taken
  pub taken_nowhere : (e : Entry) (ks : List Key) (os : List (Option Item)) → HasKeys ks os → ((i : ℕ) → slice_get ks i ≢ Some (entry_key e)) → taken_code e (handles run m (there os)) ≡ None
  taken_nowhere e [] [] has none = refl
  taken_nowhere e [] (o ∷ os) has none = absurd has
  taken_nowhere e (k ∷ ks) [] has none = absurd has
  taken_nowhere e (k ∷ ks) (None ∷ os) has none = taken_nowhere e ks os has (λ i. none (suc i))
  taken_nowhere e (k ∷ ks) (Some y ∷ os) has none =
      let apart : entry_key e ≢ k = λ same. none zero (ap Some (sym same)) in
      first_or e (handle run m y) (handles run m (there os)) false (other e y k has.0 apart)
      ∙ ap (with_code_front (handle run m y)) (taken_nowhere e ks os has.1 (λ i. none (suc i)))

-- what is left keeps its places
pub keys_left : (ks : List Key) (os : List (Option Item)) (i : ℕ) → HasKeys ks os → HasKeys ks (set os i None)
keys_left [] [] i has = has
keys_left [] (o ∷ os) i has = absurd has
keys_left (k ∷ ks) [] i has = absurd has
keys_left (k ∷ ks) (None ∷ os) zero has = has
keys_left (k ∷ ks) (Some y ∷ os) zero has = has.1
keys_left (k ∷ ks) (None ∷ os) (suc i) has = keys_left ks os i has
keys_left (k ∷ ks) (Some y ∷ os) (suc i) has = (has.0, keys_left ks os i has.1)
