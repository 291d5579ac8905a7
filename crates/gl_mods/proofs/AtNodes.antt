-- The ids of each node, after each call of the map that has them.
use Rattle.std.proofs.Common.{◌≡◌, Bool, true, false, cond, List, [], ◌∷◌, ◌++◌, map, Option, Some, None, OnErr, Result, Ok, Err, refl, sym, ap, ◌∙◌, inl, inr}
use Rattle.std.specs.Prelude.{Vec, if◌then◌else◌, unwrap_or}
use Rattle.std.specs.BTreeMap.{BTreeMap, is_at, get}
use Rattle.std.specs.Map.{lookup}
use Rattle.gl_arena.specs.Id.{Id, same_id, id_cmp, id_cmp_ties}
use Rattle.gl_arena.proofs.Ids.{same_id-refl, same_id-other, id_cases}
use Rattle.gl_mods.specs.Mods.{ids_at, with_id}
use Rattle.gl_mods.specs.View.{seen_list, lists_in}

pub same_id-sym : (i k : Id) → same_id i k ≡ same_id k i
same_id-sym i k = elim (id_cases i k) [
  | inl e ↦ ap (λ j. same_id j k) e ∙ ap (same_id k) (sym e)
  | inr ne ↦ same_id-other i k ne ∙ sym (same_id-other k i (λ e. ne (sym e)))
]

pub at_same : (i k : Id) → is_at (id_cmp k) i ≡ same_id i k
at_same i k = sym (id_cmp_ties k i) ∙ same_id-sym k i

abbrev pub items_of : {A : Type 0} → Option (Vec Id A) → List Id
items_of None = []
items_of (Some v) = v.items

items_of-if : {A : Type 0} (b : Bool) (o p : Option (Vec Id A)) → items_of (cond b o p) ≡ cond b (items_of o) (items_of p)
items_of-if true o p = refl
items_of-if false o p = refl

lookup-ids : {A : Type 0} (n : Id) (test : Id → Bool) (es : List (Id × Vec Id A)) → ((y : Id) → test y ≡ same_id n y) → ids_at n (map seen_list es) ≡ items_of (lookup test es)
lookup-ids n test [] same = refl
lookup-ids n test (e ∷ es) same =
    ap (cond (same_id n e.0) e.1.items) (lookup-ids n test es same)
    ∙ (ap (λ b. cond b e.1.items (items_of (lookup test es))) (sym (same e.0)) ∙ sym (items_of-if (test e.0) (Some e.1) (lookup test es)))

-- the ids of a node are what the map has there
pub ids_at-is : {A : Type 0} (m : BTreeMap Id (Vec Id A)) (n : Id) → ids_at n (lists_in m) ≡ items_of (get id_cmp m n)
ids_at-is m n = lookup-ids n (is_at (id_cmp n)) m.entries (λ y. sym (id_cmp_ties n y))

-- something else stands at one node
pub changed : {A : Type 0} (m w : BTreeMap Id (Vec Id A)) (k : Id) (o : Option (Vec Id A)) → ((q : Id) → get id_cmp w q ≡ cond (is_at (id_cmp k) q) o (get id_cmp m q)) → (n : Id) → ids_at n (lists_in w) ≡ (if same_id n k then items_of o else ids_at n (lists_in m))
changed m w k o h n =
    ids_at-is w n
    ∙ (ap items_of (h n)
    ∙ (ap (λ b. items_of (cond b o (get id_cmp m n))) (at_same n k)
    ∙ (items_of-if (same_id n k) o (get id_cmp m n) ∙ ap (λ xs. cond (same_id n k) (items_of o) xs) (sym (ids_at-is m n)))))

-- one more id at a node
pub one_more : (k id : Id) (on : Id → List Id) (now : Id → List Id) (xs : List Id) → ((n : Id) → now n ≡ (if same_id n k then xs else on n)) → xs ≡ on k ++ id ∷ [] → (n : Id) → now n ≡ with_id k id on n
one_more k id on now xs h e n = h n ∙ elim (id_cases n k) [
  | inl q ↦ ap (λ ys. if same_id n k then ys else on n) (e ∙ ap (λ j. on j ++ id ∷ []) (sym q))
  | inr ne ↦ ap (λ b. if b then xs else on n) (same_id-other n k ne) ∙ sym (ap (λ b. if b then on n ++ id ∷ [] else on n) (same_id-other n k ne))
]

-- the same ids at a node
pub none_more : (k : Id) (on : Id → List Id) (now : Id → List Id) (xs : List Id) → ((n : Id) → now n ≡ (if same_id n k then xs else on n)) → xs ≡ on k → (n : Id) → now n ≡ on n
none_more k on now xs h e n = h n ∙ elim (id_cases n k) [
  | inl q ↦ ap (λ b. if b then xs else on n) (ap (λ j. same_id j k) q ∙ same_id-refl k) ∙ (e ∙ ap on (sym q))
  | inr ne ↦ ap (λ b. if b then xs else on n) (same_id-other n k ne)
]

pub taken_ids : {A : Type 0} (o : Option (Vec Id A)) (v : Vec Id A) → v.items ≡ [] → (unwrap_or o v).items ≡ items_of o
taken_ids None v e = e
taken_ids (Some w) v e = refl

pub on_err : {T E P : Type 0} (r : Result T E) → P → OnErr r P
on_err (Ok v) p = tt
on_err (Err e) p = p
