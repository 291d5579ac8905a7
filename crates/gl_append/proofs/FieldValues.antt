-- What fields begin with.
use Rattle.std.proofs.Common.{◌≡◌, ℕ, zero, suc, ◌+◌, List, [], ◌∷◌, ◌++◌, map, Bool, true, false, true≢false, cond, Option, Some, None, option_map, refl, sym, ◌∙◌, ap, ap₂, subst, arith}
use Rattle.std.specs.Prelude.{◌&&◌, IsTrue, slice_get, unwrap_or}
use Rattle.std.specs.Ordering.{is_lt}
use Rattle.std.specs.Str.{bytes_eq}
use Rattle.std.proofs.lemmas.Cmp.{nat_list_cmp_total, tied_itself}
use Rattle.gl_base.specs.Texts.{Text, bytes_of, text_less}
use Rattle.gl_base.specs.Names.{named, or_else, at_place}
use Rattle.gl_value.specs.Value.{Value, undefined, null, boolean, integer, text, list, pairs, action, Values, no_values, value, Members, no_members, member, plain, plain_values, plain_members}
use Rattle.gl_value.specs.Owners.{with_owners, values_with, members_with}
use Rattle.gl_value.specs.Plain.{plain_pair}
use Rattle.gl_ast.specs.Template.{Body, end}
use Rattle.gl_meaning.specs.App.{App}
use Rattle.gl_meaning.specs.Eval.{Store, held_at, cell_value, class_at, class_named}
use Rattle.gl_meaning.specs.Manifest.{ClassEntry, class_of, classes_of}
use Rattle.gl_meaning.specs.ManifestRules.{Each}
use Rattle.gl_meaning.specs.Order.{Rise, names_of}
use Rattle.gl_meaning.specs.Path.{Path, V, path_eq}
use Rattle.gl_meaning.proofs.Equal.{both_true, text_means, text_itself, path_means, path_itself}
use Rattle.gl_machine.proofs.Numbered.{some_is, none_some, same_if}
use Rattle.gl_vm.specs.Labels.{labelled, all_labelled, owner_path}
use Rattle.gl_code.specs.Cells.{CellList, cells_at, held_in_turn, store_of, initial_value, initial_values}
use Rattle.gl_append.proofs.Scopes.{or_else-map}

-- Texts that rise differ

not_less_than_itself : (t : Text) → text_less t t ≡ false
not_less_than_itself t = ap is_lt (tied_itself nat_list_cmp_total (bytes_of t))

later_differs : (t u : Text) → IsTrue (text_less t u) → bytes_eq u t ≡ false
later_differs t u less =
    same_if (bytes_eq u t) false
    (λ e. let itself : text_less t t ≡ true = subst (λ x. text_less t x ≡ true) (text_means u t e) less in let not_so = not_less_than_itself t in absurd (true≢false (sym itself ∙ not_so)))
    (λ e. absurd (true≢false (sym e)))

-- Places in lists

each_at : {A : Type 0} (P : A → Type 0) (xs : List A) → Each P xs → (i : ℕ) (x : A) → slice_get xs i ≡ Some x → P x
each_at P [] h i x there = absurd (none_some x there)
each_at P (y ∷ xs) h zero x there = subst P (some_is y x there) h.0
each_at P (y ∷ xs) h (suc i) x there = each_at P xs h.1 i x there

pub mapped_at : {A B : Type 0} (f : A → B) (xs : List A) (i : ℕ) (x : A) → slice_get xs i ≡ Some x → slice_get (map f xs) i ≡ Some (f x)
mapped_at f [] i x there = absurd (none_some x there)
mapped_at f (y ∷ xs) zero x there = ap (λ z. Some (f z)) (some_is y x there)
mapped_at f (y ∷ xs) (suc i) x there = mapped_at f xs i x there

named_at : {A : Type 0} (xs : List (Text × A)) → Rise (names_of xs) → (i : ℕ) (x : Text × A) → slice_get xs i ≡ Some x → named x.0 xs ≡ Some x.1
named_at [] r i x there = absurd (none_some x there)
named_at (y ∷ xs) r zero x there = subst (λ z. named z.0 (y ∷ xs) ≡ Some z.1) (some_is y x there) (ap (λ b. cond b (Some y.1) (named y.0 xs)) (text_itself y.0))
named_at (y ∷ xs) r (suc i) x there =
    ap (λ b. cond b (Some y.1) (named x.0 xs)) (later_differs y.0 x.0 (each_at (λ u. IsTrue (text_less y.0 u)) (names_of xs) r.0 i x.0 (mapped_at (λ z. z.0) xs i x there))) ∙ named_at xs r.1 i x there

names_mapped : (xs : List (Text × Value ℕ)) → names_of (map (λ (x : Text × Value ℕ). plain_pair {P = ⊥} x) xs) ≡ names_of xs
names_mapped [] = refl
names_mapped (x ∷ xs) = ap (λ ns. x.0 ∷ ns) (names_mapped xs)

-- the class of a name is that of its number
pub class_fields : (cs : List ClassEntry) (bs : List Body) → Rise (map (λ c. c.name) cs) → (i : ℕ) (c : ClassEntry) → slice_get cs i ≡ Some c → (class_named c.name (classes_of cs bs)).fields ≡ c.fields
class_fields [] bs r i c there = absurd (none_some c there)
class_fields (d ∷ cs) [] r zero c there =
    subst (λ (z : ClassEntry). (class_named z.name (classes_of (d ∷ cs) [])).fields ≡ z.fields) (some_is d c there) (ap (λ b. (cond b (class_of d end) (class_named d.name (classes_of cs []))).fields) (text_itself d.name))
class_fields (d ∷ cs) [] r (suc i) c there =
    ap (λ b. (cond b (class_of d end) (class_named c.name (classes_of cs []))).fields)
    (later_differs d.name c.name (each_at (λ u. IsTrue (text_less d.name u)) (map (λ (x : ClassEntry). x.name) cs) r.0 i c.name (mapped_at (λ x. x.name) cs i c there)))
    ∙ class_fields cs [] r.1 i c there
class_fields (d ∷ cs) (b ∷ bs) r zero c there =
    subst (λ (z : ClassEntry). (class_named z.name (classes_of (d ∷ cs) (b ∷ bs))).fields ≡ z.fields) (some_is d c there) (ap (λ t. (cond t (class_of d b) (class_named d.name (classes_of cs bs))).fields) (text_itself d.name))
class_fields (d ∷ cs) (b ∷ bs) r (suc i) c there =
    ap (λ t. (cond t (class_of d b) (class_named c.name (classes_of cs bs))).fields)
    (later_differs d.name c.name (each_at (λ u. IsTrue (text_less d.name u)) (map (λ (x : ClassEntry). x.name) cs) r.0 i c.name (mapped_at (λ x. x.name) cs i c there)))
    ∙ class_fields cs bs r.1 i c there

pub each_class : (P : ClassEntry → Type 0) (cs : List ClassEntry) → Each P cs → (i : ℕ) (c : ClassEntry) → slice_get cs i ≡ Some c → P c
each_class P cs h i c there = each_at P cs h i c there

-- What is held

and_not : (a b : Bool) → b ≡ false → (a && b) ≡ false
and_not true b e = e
and_not false b e = refl

turn_at : (q : Path) (xs : List Text) → Rise xs → (vs : List (Value ℕ)) (i : ℕ) (x : Text) → slice_get xs i ≡ Some x → held_at q x (held_in_turn q xs vs) ≡ Some (labelled (at_place undefined i vs))
turn_at q [] r vs i x there = absurd (none_some x there)
turn_at q (y ∷ xs) r [] zero x there =
    ap (λ b. cond b (Some undefined) (held_at q x (held_in_turn q xs []))) (both_true (path_eq q q) (bytes_eq x y) (path_itself q) (subst (λ z. bytes_eq z y ≡ true) (some_is y x there) (text_itself y)))
turn_at q (y ∷ xs) r [] (suc i) x there =
    ap (λ b. cond b (Some undefined) (held_at q x (held_in_turn q xs []))) (and_not (path_eq q q) (bytes_eq x y) (later_differs y x (each_at (λ u. IsTrue (text_less y u)) xs r.0 i x there))) ∙ turn_at q xs r.1 [] i x there
turn_at q (y ∷ xs) r (v ∷ vs) zero x there =
    ap (λ b. cond b (Some (labelled v)) (held_at q x (held_in_turn q xs vs))) (both_true (path_eq q q) (bytes_eq x y) (path_itself q) (subst (λ z. bytes_eq z y ≡ true) (some_is y x there) (text_itself y)))
turn_at q (y ∷ xs) r (v ∷ vs) (suc i) x there =
    ap (λ b. cond b (Some (labelled v)) (held_at q x (held_in_turn q xs vs))) (and_not (path_eq q q) (bytes_eq x y) (later_differs y x (each_at (λ u. IsTrue (text_less y u)) xs r.0 i x there))) ∙ turn_at q xs r.1 vs i x there

turn_elsewhere : (q p : Path) → path_eq q p ≡ false → (x : Text) (xs : List Text) (vs : List (Value ℕ)) → held_at q x (held_in_turn p xs vs) ≡ None
turn_elsewhere q p e x [] vs = refl
turn_elsewhere q p e x (y ∷ xs) [] = ap (λ b. cond (b && bytes_eq x y) (Some undefined) (held_at q x (held_in_turn p xs []))) e ∙ turn_elsewhere q p e x xs []
turn_elsewhere q p e x (y ∷ xs) (v ∷ vs) = ap (λ b. cond (b && bytes_eq x y) (Some (labelled v)) (held_at q x (held_in_turn p xs vs))) e ∙ turn_elsewhere q p e x xs vs

first_of : {A : Type 0} (b : Bool) (v : A) (a c d : Option A) → a ≡ or_else c d → cond b (Some v) a ≡ or_else (cond b (Some v) c) d
first_of true v a c d e = refl
first_of false v a c d e = e

held_joined : (q : Path) (x : Text) (s t : Store) → held_at q x (s ++ t) ≡ or_else (held_at q x s) (held_at q x t)
held_joined q x [] t = refl
held_joined q x (h ∷ s) t = first_of (path_eq q h.instance && bytes_eq x h.field) h.value (held_at q x (s ++ t)) (held_at q x s) (held_at q x t) (held_joined q x s t)

stored : (app : App) (q : Path) (cells : CellList) (i : ℕ) (x : Text) → Rise (names_of (class_at app q).fields) → slice_get (names_of (class_at app q).fields) i ≡ Some x
    → held_at q x (store_of app cells) ≡ option_map (λ vs. labelled (at_place undefined i vs)) (cells_at q cells)
stored app q [] i x r there = refl
stored app q (e ∷ es) i x r there =
    held_joined q x (store_of app es) (held_in_turn e.0 (names_of (class_at app e.0).fields) e.1)
    ∙ (ap₂ or_else (stored app q es i x r there) (one (path_eq q e.0) refl) ∙ or_else-map (λ vs. labelled (at_place undefined i vs)) (cells_at q es) (cond (path_eq q e.0) (Some e.1) None))
  where
    one : (b : Bool) → path_eq q e.0 ≡ b
        → held_at q x (held_in_turn e.0 (names_of (class_at app e.0).fields) e.1) ≡ option_map (λ vs. labelled (at_place undefined i vs)) (cond b (Some e.1) None)
    one true same =
        subst (λ p. held_at q x (held_in_turn p (names_of (class_at app p).fields) e.1) ≡ Some (labelled (at_place undefined i e.1))) (path_means q e.0 same)
        (turn_at q (names_of (class_at app q).fields) r e.1 i x there)
    one false other = turn_elsewhere q e.0 other x (names_of (class_at app e.0).fields) e.1

-- Plain forms have no owners.
mutual
  plain_labelled : (v : Value ℕ) → plain {P = Path} (plain {P = ⊥} v) ≡ with_owners owner_path (plain {P = ℕ} v)
  plain_labelled undefined = refl
  plain_labelled null = refl
  plain_labelled (boolean b) = refl
  plain_labelled (integer z) = refl
  plain_labelled (text t) = refl
  plain_labelled (list vs) = ap list (plain_labelled_values vs)
  plain_labelled (pairs ms) = ap pairs (plain_labelled_members ms)
  plain_labelled (action o n vs) = refl

  plain_labelled_values : (vs : Values ℕ) → plain_values {P = Path} (plain_values {P = ⊥} vs) ≡ values_with owner_path (plain_values {P = ℕ} vs)
  plain_labelled_values no_values = refl
  plain_labelled_values (value v vs) = ap₂ value (plain_labelled v) (plain_labelled_values vs)

  plain_labelled_members : (ms : Members ℕ) → plain_members {P = Path} (plain_members {P = ⊥} ms) ≡ members_with owner_path (plain_members {P = ℕ} ms)
  plain_labelled_members no_members = refl
  plain_labelled_members (member k v ms) = ap₂ (member k) (plain_labelled v) (plain_labelled_members ms)

begun_with : (o : Option (List (Value ℕ))) (i : ℕ) (v : Value ℕ) → unwrap_or (option_map (λ vs. labelled (at_place undefined i vs)) o) (plain {P = Path} (plain {P = ⊥} v)) ≡ labelled (initial_value o i v)
begun_with None i v = plain_labelled v
begun_with (Some vs) i v = refl

-- what the store has for a field, by its place
field_begins : (app : App) (q : Path) (cells : CellList) (fields : List (Text × Value ℕ)) → (class_at app q).fields ≡ map (λ x. plain_pair x) fields → Rise (names_of fields)
    → (i : ℕ) (x : Text × Value ℕ) → slice_get fields i ≡ Some x → cell_value app (store_of app cells) q x.0 ≡ labelled (initial_value (cells_at q cells) i x.1)
field_begins app q cells fields same r i x there =
    let names : names_of (class_at app q).fields ≡ names_of fields = ap (λ fs. names_of fs) same ∙ names_mapped fields in
    let by_name : named x.0 (class_at app q).fields ≡ Some (plain x.1)
    = ap (λ fs. named x.0 fs) same ∙ named_at (map (λ y. plain_pair y) fields) (subst Rise (sym (names_mapped fields)) r) i (plain_pair x) (mapped_at (λ y. plain_pair y) fields i x there) in
    ap (λ o. unwrap_or (held_at q x.0 (store_of app cells)) (plain {P = Path} (unwrap_or o undefined))) by_name
    ∙ (ap (λ o. unwrap_or o (plain {P = Path} (plain {O = ℕ} {P = ⊥} x.1))) (stored app q cells i x.0 (subst Rise (sym names) r) (ap (λ ns. slice_get ns i) names ∙ mapped_at (λ y. y.0) fields i x there))
    ∙ begun_with (cells_at q cells) i x.1)

values_begin : (g : Text → V) (o : Option (List (Value ℕ))) (i : ℕ) (fields : List (Text × Value ℕ)) → ((j : ℕ) (x : Text × Value ℕ) → slice_get fields j ≡ Some x → g x.0 ≡ labelled (initial_value o (i + j) x.1))
    → map (λ f. g f.0) (map (λ x. plain_pair {P = ⊥} x) fields) ≡ all_labelled (initial_values o i fields)
values_begin g o i [] h = refl
values_begin g o i (x ∷ fields) h =
    ap₂ (λ v vs. v ∷ vs) (h 0 x refl ∙ ap (λ k. labelled (initial_value o k x.1)) (omega arith))
    (values_begin g o (suc i) fields (λ j y there. h (suc j) y there ∙ ap (λ k. labelled (initial_value o k y.1)) (omega arith)))

-- what the store has for the fields of a class
pub fields_begin : (app : App) (q : Path) (cells : CellList) (fields : List (Text × Value ℕ)) → (class_at app q).fields ≡ map (λ x. plain_pair x) fields → Rise (names_of (map (λ x. plain_pair {P = ⊥} x) fields))
    → map (λ f. cell_value app (store_of app cells) q f.0) (map (λ x. plain_pair {P = ⊥} x) fields) ≡ all_labelled (initial_values (cells_at q cells) 0 fields)
fields_begin app q cells fields same r =
    values_begin (λ x. cell_value app (store_of app cells) q x) (cells_at q cells) 0 fields
    (λ j x there. field_begins app q cells fields same (subst Rise (names_mapped fields) r) j x there ∙ ap (λ k. labelled (initial_value (cells_at q cells) k x.1)) (omega arith))
